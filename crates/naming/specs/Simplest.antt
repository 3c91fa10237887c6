-- The simplest fraction of an interval: that of least denominator, and among those the one of least numerator in magnitude.
use Rattle.std.specs.Prelude.{◌≡◌, ℕ, ◌^◌, ◌≤◌, true, Option, option_and_then, unsigned_abs}
use Rattle.std.specs.List.{slice_get, filter_map, range_with_len}
use Rattle.std.specs.Option.{option_map}
use Rattle.intervals.specs.Meaning.{inside}
use Rattle.intervals.specs.declared.fraction.Fraction.{Fraction}
use Rattle.intervals.specs.declared.interval.Interval.{Interval}
use Rattle.naming.specs.Nearest.{nearest_at, over, if_short}

-- of the fractions over q in the interval the nearest to 0
abbrev pub nearest_over : Interval → ℕ → Option Fraction
nearest_over i q = option_map (λ p. over p q) (nearest_at i q)

-- the first of these over 1, 2, 3, .., 2^18, if it is short; no denominator past 2^18 is short
unfoldable pub simplest_of : Interval → Option Fraction
simplest_of i = option_and_then if_short (slice_get (filter_map (nearest_over i) (range_with_len 1 (2 ^ 18))) 0)

-- what makes a fraction the simplest: it lies in the interval, no fraction there has a lesser denominator, and none with its denominator has
-- a numerator of lesser magnitude
pub record IsSimplest (i : Interval) (f : Fraction) : Type 0 where
  pub some : 1 ≤ f.denominator
  pub here : inside i f ≡ true
  pub least_denominator : (g : Fraction) → 1 ≤ g.denominator → inside i g ≡ true → f.denominator ≤ g.denominator
  pub least_numerator : (g : Fraction) → g.denominator ≡ f.denominator → inside i g ≡ true → unsigned_abs f.numerator ≤ unsigned_abs g.numerator

-- exactly one fraction is the simplest of the interval, of whatever size, and it is what is named if it is short
pub record NamesSimplest (i : Interval) (r : Option Fraction) : Type 0 where
  pub fraction : Fraction
  pub simplest : IsSimplest i fraction
  pub only : (g : Fraction) → IsSimplest i g → g ≡ fraction
  pub named : r ≡ if_short fraction
