-- Lists of whole numbers: limits on their magnitudes, their greatest common divisor, their lowest form.
use Rattle.std.specs.Prelude.{◌≡◌, ℕ, zero, suc, ◌<◌, ◌≤◌, Bool, ◌⊎◌, List, fold, map, ℤ, pos, int_div, nat_le, slice_index_or, unsigned_abs}
use Rattle.std.specs.Int.{◌∣◌}
use Rattle.std.specs.List.{list_all}
use Rattle.arith.specs.Dot.{scaled}
use Rattle.arith.specs.Gcd.{gcd_of}

-- every number has at most this magnitude
abbrev pub AllWithin : ℕ → List ℤ → Type 0
AllWithin limit zs = (k : ℕ) → unsigned_abs (slice_index_or zs k (pos 0)) ≤ limit

-- the same as a test
abbrev pub within_all : ℕ → List ℤ → Bool
within_all limit zs = list_all (λ z. nat_le (unsigned_abs z) limit) zs

-- the greatest common divisor of g and of the magnitudes
abbrev pub gcd_from : ℕ → List ℤ → ℕ
gcd_from g zs = fold (λ g z. gcd_of g (unsigned_abs z)) g zs

-- the greatest whole number that divides all the numbers; 0 where all are 0
abbrev pub gcd_all : List ℤ → ℕ
gcd_all zs = gcd_from 0 zs

-- every number divided by g, where g is not 0
unfoldable pub divided : ℕ → List ℤ → List ℤ
divided zero zs = zs
divided (suc g) zs = map (λ z. int_div z (pos (suc g))) zs

-- the lowest form: the numbers divided by the greatest whole number that divides them all; zeros are their own lowest form
unfoldable pub lowest_of : List ℤ → List ℤ
lowest_of zs = divided (gcd_all zs) zs

-- What makes numbers the lowest form of others: those are a positive multiple of them, and whatever divides them all is at most 1, unless
-- all are 0.
pub record IsLowest (zs least : List ℤ) : Type 0 where
  pub factor : ℕ
  pub positive : 0 < factor
  pub multiple : scaled (pos factor) least ≡ zs
  pub common : (d : ℕ) → ((k : ℕ) → d ∣ unsigned_abs (slice_index_or least k (pos 0))) → (d ≤ 1) ⊎ ((k : ℕ) → slice_index_or least k (pos 0) ≡ pos 0)
