-- What dyadic names: the fraction over the least power of two that serves.
use Rattle.std.specs.Prelude.{◌≡◌, ℕ, ◌^◌, ◌<◌, ◌≤◌, true, ℤ, Some, None, Option, option_and_then, nat_le, unsigned_abs}
use Rattle.std.specs.Bool.{then_some}
use Rattle.std.specs.List.{slice_get, filter_map, range_with_len}
use Rattle.std.specs.Option.{option_map}
use Rattle.rows.specs.Rows.{value_limit}
use Rattle.intervals.specs.Meaning.{inside, Rule, layered}
use Rattle.intervals.specs.declared.fraction.Fraction.{Fraction}
use Rattle.intervals.specs.declared.interval.Interval.{Interval}
use Rattle.naming.specs.Nearest.{nearest_at, over}
use Rattle.naming.specs.Spans.{Seen, signed, LeastOver}

-- n/m, if there is an n and it is within 2^18
abbrev pub within_limit : Option ℤ → ℕ → Option Fraction
within_limit n m = option_and_then (λ n. then_some (nat_le (unsigned_abs n) value_limit) (over n m)) n

-- of the n/2^k in the interval the nearest to 0, if n is within 2^18
abbrev pub over_power : Interval → ℕ → Option Fraction
over_power i k = within_limit (nearest_at i (2 ^ k)) (2 ^ k)

-- the first of these over 1, 2, 4, .., 2^18
unfoldable pub dyadic_of : Interval → Option Fraction
dyadic_of i = slice_get (filter_map (over_power i) (range_with_len 0 19)) 0

-- else what the chooser below names
abbrev pub dyadic_over : Rule → Rule
dyadic_over below = layered dyadic_of below

-- no fraction over 2^k with its numerator within 2^18 lies in the interval
abbrev pub NoneOver : Interval → ℕ → Type 0
NoneOver i k = (n : ℤ) → inside i (over n (2 ^ k)) ≡ true → value_limit < unsigned_abs n

-- what makes a fraction the dyadic choice: over a power of two up to 2^18 it lies in the interval with its numerator within 2^18, over no
-- lesser power does any such fraction, and over its own power none there is nearer to 0
pub record IsDyadic (i : Interval) (f : Fraction) : Type 0 where
  pub exponent : ℕ
  pub few : exponent ≤ 18
  pub power : f.denominator ≡ 2 ^ exponent
  pub here : inside i f ≡ true
  pub within : unsigned_abs f.numerator ≤ value_limit
  pub least_power : (k : ℕ) → k < exponent → NoneOver i k
  pub least_numerator : (n : ℤ) → inside i (over n f.denominator) ≡ true → unsigned_abs f.numerator ≤ unsigned_abs n

abbrev pub NamesDyadic : Interval → Option Fraction → Type 0
NamesDyadic i (Some f) = IsDyadic i f
NamesDyadic i None = (k : ℕ) → k ≤ 18 → NoneOver i k

-- what is named of a span over m: n/m for the least n, with its sign, if n is within 2^18
abbrev pub NamesOver : Seen → ℕ → Option Fraction → Type 0
NamesOver s m r = (n : Option ℕ) × LeastOver s.near s.far m n × (r ≡ within_limit (option_map (signed s.side) n) m)
