-- An interval without 0, seen from 0: on which side it lies, and by magnitudes its end next to 0 and, if there is one, the end behind that.
use Rattle.std.specs.Prelude.{ℕ, ◌*◌, ◌^◌, ◌≤◌, Bool, ℤ, pos, neg_ℤ, Some, None, Option, int_lt, unsigned_abs}
use Rattle.std.specs.Bool.{then_some}
use Rattle.std.specs.Option.{option_map, option_or}
use Rattle.rows.specs.Rows.{value_limit}
use Rattle.intervals.specs.Bounds.{EndFraction, bound_of}
use Rattle.intervals.specs.declared.interval.Interval.{Interval}
use Rattle.naming.specs.declared.ratio.Ratio.{Ratio}
use Rattle.naming.specs.declared.side.Side.{Side}
use Rattle.naming.specs.declared.side.Side.TheVariants.{Above, Below}

-- on which side of 0 the interval lies, its end next to 0, and the end behind that, if there is one
pub record Seen : Type 0 where
  pub side : Side
  pub near : Ratio
  pub far : Option Ratio

abbrev pub magnitude_of : EndFraction → Ratio
magnitude_of e = record { over = unsigned_abs e.numerator; under = e.denominator }

-- the number is not 0, and lies on this side of it
abbrev pub is_on : Side → ℤ → Bool
is_on Above n = int_lt (pos 0) n
is_on Below n = int_lt n (pos 0)

-- the number of this magnitude on a side of 0
abbrev pub signed : Side → ℕ → ℤ
signed Above k = pos k
signed Below k = neg_ℤ (pos k)

abbrev pub other : Side → Side
other Above = Below
other Below = Above

-- the end that is next to 0 where the interval lies on this side
abbrev pub end_of : Side → Interval → Option EndFraction
end_of Above i = option_map (bound_of i.scale) i.lower
end_of Below i = option_map (bound_of i.scale) i.upper

-- what is seen from the one end on, up to the other if there is that, if the one lies on this side
abbrev pub seen_between : Side → Option EndFraction → Option EndFraction → Option Seen
seen_between side None far = None
seen_between side (Some near) far = then_some (is_on side near.numerator) (record { side = side; near = magnitude_of near; far = option_map magnitude_of far })

-- the interval as seen on one side of 0, if it lies there
abbrev pub side_of : Side → Interval → Option Seen
side_of side i = seen_between side (end_of side i) (end_of (other side) i)

-- none where 0 lies in the interval
abbrev pub span_of : Interval → Option Seen
span_of i = option_or (side_of Above i) (side_of Below i)

-- p/q is from near to far
abbrev pub Between : Ratio → Option Ratio → ℕ → ℕ → Type 0
Between near None p q = near.over * q ≤ p * near.under
Between near (Some far) p q = (near.over * q ≤ p * near.under) × (p * far.under ≤ far.over * q)

-- p/q is from near to far, and both p and q are the least of all such
pub record Least (near : Ratio) (far : Option Ratio) (p q : ℕ) : Type 0 where
  pub some : 1 ≤ q
  pub here : Between near far p q
  pub least : (s t : ℕ) → 1 ≤ t → Between near far s t → (p ≤ s) × (q ≤ t)

-- the fraction of which both parts are least, or nothing if one of them passes 2^18
abbrev pub LeastShort : Ratio → Option Ratio → Option Ratio → Type 0
LeastShort near far (Some r) = Least near far r.over r.under
LeastShort near far None = (p q : ℕ) → Least near far p q → p ≤ value_limit → q ≤ value_limit → ⊥

-- the least p for which p/q is from near to far, or nothing where there is none
abbrev pub LeastOver : Ratio → Option Ratio → ℕ → Option ℕ → Type 0
LeastOver near far q (Some p) = Between near far p q × ((s : ℕ) → Between near far s q → p ≤ s)
LeastOver near far q None = (s : ℕ) → Between near far s q → ⊥

-- the magnitude of an end that is not 0
pub record IsMagnitude (r : Ratio) : Type 0 where
  pub some_over : 1 ≤ r.over
  pub few_over : r.over ≤ 2 ^ 41
  pub some_under : 1 ≤ r.under
  pub few_under : r.under ≤ 2 ^ 38

-- near and far are magnitudes, and far is not the lesser
abbrev pub IsSpan : Ratio → Option Ratio → Type 0
IsSpan near None = IsMagnitude near
IsSpan near (Some far) = IsMagnitude near × IsMagnitude far × (near.over * far.under ≤ far.over * near.under)
