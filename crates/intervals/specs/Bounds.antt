-- An end of an interval as a fraction by itself: its numerator over its divisor times the interval's scale.
use Rattle.std.specs.Prelude.{ℕ, ◌*◌, ◌^◌, ◌≤◌, ℤ, unsigned_abs}
use Rattle.intervals.specs.declared.interval.End.{End}

pub record EndFraction : Type 0 where
  pub numerator : ℤ
  pub denominator : ℕ

-- the numerator is within 2^41, and the denominator from 1 to 2^38
pub record IsBound (numerator : ℤ) (denominator : ℕ) : Type 0 where
  pub few_over : unsigned_abs numerator ≤ 2 ^ 41
  pub some_under : 1 ≤ denominator
  pub few_under : denominator ≤ 2 ^ 38

-- the end, with the scale of its interval
abbrev pub bound_of : ℕ → End → EndFraction
bound_of scale e = record { numerator = e.numerator; denominator = e.divisor * scale }
