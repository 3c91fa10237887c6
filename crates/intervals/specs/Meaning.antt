-- What a chooser may name at an interval.
use Rattle.std.specs.Prelude.{◌≡◌, ℕ, ◌*◌, Bool, true, ◌&&◌, pos, ◌*ℤ◌, Option, ◌==◌, ◌≢◌, int_le, nat_le, unsigned_abs}
use Rattle.std.specs.Option.{option_or, option_map_or, MatchOption, IfSome}
use Rattle.arith.specs.Gcd.{gcd_of}
use Rattle.rows.specs.Rows.{value_limit}
use Rattle.intervals.specs.Ends.{Parts}
use Rattle.intervals.specs.declared.fraction.Fraction.{Fraction}
use Rattle.intervals.specs.declared.interval.End.{End}
use Rattle.intervals.specs.declared.interval.Interval.{Interval}

-- a short fraction: both parts within 2^18, the denominator at least 1, in lowest terms
abbrev pub is_short : Fraction → Bool
is_short f =
    nat_le (unsigned_abs f.numerator) value_limit
    && (nat_le 1 f.denominator && (nat_le f.denominator value_limit && gcd_of (unsigned_abs f.numerator) f.denominator == 1))

-- the end is at most the fraction, and at least
abbrev pub at_most : ℕ → End → Fraction → Bool
at_most scale e f = int_le (e.numerator *ℤ pos f.denominator) (f.numerator *ℤ pos (e.divisor * scale))

abbrev pub at_least : ℕ → End → Fraction → Bool
at_least scale e f = int_le (f.numerator *ℤ pos (e.divisor * scale)) (e.numerator *ℤ pos f.denominator)

-- an end that is absent bounds nothing
abbrev pub from_lower : ℕ → Option End → Fraction → Bool
from_lower scale lower f = option_map_or (λ e. at_most scale e f) lower true

abbrev pub to_upper : ℕ → Option End → Fraction → Bool
to_upper scale upper f = option_map_or (λ e. at_least scale e f) upper true

-- the fraction lies in the interval, ends included
abbrev pub inside : Interval → Fraction → Bool
inside i f = from_lower i.scale i.lower f && to_upper i.scale i.upper f

abbrev pub parts_of : Interval → Parts
parts_of i = record { scale = i.scale; lower = i.lower; upper = i.upper }

-- what a chooser stands for at a moment: for each interval, what it names there
abbrev pub Rule : Type 0
Rule = Interval → Option Fraction

-- a short fraction in the interval
abbrev pub MayName : Interval → Fraction → Type 0
MayName i f = (is_short f ≡ true) × (inside i f ≡ true)

-- what may be named: a short fraction in the interval, and nothing only where there is none
abbrev pub Named : Interval → Option Fraction → Type 0
Named i named = MatchOption named ((f : Fraction) → is_short f ≡ true → inside i f ≢ true) (MayName i)

-- the meaning that every chooser keeps
abbrev pub Keeps : Rule → Type 0
Keeps rule = (i : Interval) → Named i (rule i)

-- a layer over a chooser: what it names itself, else what the chooser below names
abbrev pub layered : Rule → Rule → Rule
layered own below i = option_or (own i) (below i)

-- what a layer may name itself: a short fraction in the interval, or nothing
abbrev pub Offered : Interval → Option Fraction → Type 0
Offered i named = IfSome named (MayName i)
