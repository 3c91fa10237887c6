-- Whole numbers p for which p/q lies in an interval, and of these the nearest to 0.
use Rattle.std.specs.Prelude.{ℕ, ◌*◌, cond, ℤ, pos, ◌*ℤ◌, neg_ℤ, Some, None, Option, int_le}
use Rattle.std.specs.Bool.{then_some}
use Rattle.std.specs.Int.{int_max, int_min, int_div_euclid}
use Rattle.std.specs.Option.{option_map}
use Rattle.intervals.specs.Meaning.{is_short}
use Rattle.intervals.specs.declared.fraction.Fraction.{Fraction}
use Rattle.intervals.specs.declared.interval.End.{End}
use Rattle.intervals.specs.declared.interval.Interval.{Interval}

-- q times the end, rounded down and rounded up
abbrev pub floor_at : ℕ → End → ℕ → ℤ
floor_at scale e q = int_div_euclid (e.numerator *ℤ pos q) (pos (e.divisor * scale))

abbrev pub ceiling_at : ℕ → End → ℕ → ℤ
ceiling_at scale e q = neg_ℤ (int_div_euclid (neg_ℤ (e.numerator *ℤ pos q)) (pos (e.divisor * scale)))

-- of the whole numbers from one to another, the nearest to 0; one that is absent bounds nothing
abbrev pub nearest_of : Option ℤ → Option ℤ → Option ℤ
nearest_of None None = Some (pos 0)
nearest_of (Some low) None = Some (int_max low (pos 0))
nearest_of None (Some high) = Some (int_min high (pos 0))
nearest_of (Some low) (Some high) = cond (int_le low high) (Some (int_max low (int_min high (pos 0)))) None

-- of the whole numbers p with p/q in the interval, the nearest to 0
abbrev pub nearest_at : Interval → ℕ → Option ℤ
nearest_at i q =
    nearest_of (option_map (λ e. ceiling_at i.scale e q) i.lower) (option_map (λ e. floor_at i.scale e q) i.upper)

-- p/q
abbrev pub over : ℤ → ℕ → Fraction
over p q = record { numerator = p; denominator = q }

-- the fraction, if it is short
abbrev pub if_short : Fraction → Option Fraction
if_short f = then_some (is_short f) f
