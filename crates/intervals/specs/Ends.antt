-- The ends of an interval, and the rules that they keep. All ends of one interval share its scale: an end stands for numerator/(divisor·scale).
use Rattle.std.specs.Prelude.{ℕ, ◌^◌, Bool, false, cond, ◌&&◌, pos, ◌*ℤ◌, Some, None, Option, int_le, nat_le, unsigned_abs}
use Rattle.intervals.specs.declared.interval.End.{End}

-- the scale is from 1 to 2^18
abbrev pub is_scale : ℕ → Bool
is_scale scale = nat_le 1 scale && nat_le scale (2 ^ 18)

-- the numerator is within 2^41, and the divisor from 1 to 2^20
abbrev pub is_end : End → Bool
is_end e = nat_le (unsigned_abs e.numerator) (2 ^ 41) && (nat_le 1 e.divisor && nat_le e.divisor (2 ^ 20))

-- the first is not above the second
abbrev pub in_order : End → End → Bool
in_order a b = int_le (a.numerator *ℤ pos b.divisor) (b.numerator *ℤ pos a.divisor)

-- not both absent, each within its limits, the lower not above the upper
abbrev pub are_ends : Option End → Option End → Bool
are_ends None None = false
are_ends (Some a) None = is_end a
are_ends None (Some b) = is_end b
are_ends (Some a) (Some b) = is_end a && (is_end b && in_order a b)

abbrev pub is_interval : ℕ → Option End → Option End → Bool
is_interval scale lower upper = is_scale scale && are_ends lower upper

-- the parts of an interval, if they keep the rules
pub record Parts : Type 0 where
  pub scale : ℕ
  pub lower : Option End
  pub upper : Option End

abbrev pub interval_of : ℕ → Option End → Option End → Option Parts
interval_of scale lower upper = cond (is_interval scale lower upper) (Some (record { scale = scale; lower = lower; upper = upper })) None
