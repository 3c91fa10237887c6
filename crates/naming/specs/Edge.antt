-- What edge names: an end of the interval if that is short.
use Rattle.std.specs.Prelude.{ℕ, ◌/◌, ℤ, pos, Option, option_and_then, int_div, unsigned_abs}
use Rattle.std.specs.Option.{option_map, option_or}
use Rattle.arith.specs.Gcd.{gcd_of}
use Rattle.intervals.specs.Bounds.{EndFraction, bound_of}
use Rattle.intervals.specs.Meaning.{Rule, layered}
use Rattle.intervals.specs.declared.fraction.Fraction.{Fraction}
use Rattle.intervals.specs.declared.interval.End.{End}
use Rattle.intervals.specs.declared.interval.Interval.{Interval}
use Rattle.naming.specs.Nearest.{over, if_short}

-- n/m in lowest terms
abbrev pub lowest_terms : ℤ → ℕ → Fraction
lowest_terms n m = over (int_div n (pos (gcd_of (unsigned_abs n) m))) (m / gcd_of (unsigned_abs n) m)

-- the end in lowest terms, if that is short
unfoldable pub short_of : EndFraction → Option Fraction
short_of e = if_short (lowest_terms e.numerator e.denominator)

-- the end, if there is one and it is short
abbrev pub end_named : ℕ → Option End → Option Fraction
end_named scale e = option_and_then short_of (option_map (bound_of scale) e)

-- the lower end, else the upper end
abbrev pub edge_of : Interval → Option Fraction
edge_of i = option_or (end_named i.scale i.lower) (end_named i.scale i.upper)

-- else what the chooser below names
abbrev pub edge_over : Rule → Rule
edge_over below = layered edge_of below
