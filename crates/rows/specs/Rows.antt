-- Rows, points, and what a row says at a point.
--   A row is the list b ∷ a1 ∷ .. ∷ a8 and says a1·x1 + .. + a8·x8 + b ≥ 0. With n unknowns, the coefficients past an are 0.
--   A point is the list d ∷ N1 ∷ N2 ∷ .. with d ≥ 1 and stands for the fractions xi = Ni/d.
-- So place k of both lists belongs to xk, and place 0 to the constant and the denominator.
use Rattle.std.specs.Prelude.{◌≡◌, ℕ, zero, suc, ◌^◌, ◌<◌, ◌≤◌, Bool, cond, ◌&&◌, List, [], ◌∷◌, length, ℤ, pos, negsuc, ◌≤ℤ◌, Some, None, Option, ◌==◌, ◌≢◌, codes, int_le, int_lt, nat_le, slice_index_or}
use Rattle.std.specs.List.{AllByRecursion}
use Rattle.std.specs.Option.{option_eq}
use Rattle.std.specs.Ordering.{int_eq}
use Rattle.std.specs.Cmp.Lexicographic.{pointwise}
use Rattle.arith.specs.Dot.{dot, combine}
use Rattle.arith.specs.Lowest.{AllWithin, within_all, gcd_all, lowest_of}

-- the greatest magnitude of a number of a row, and of a numerator or denominator of values
abbrev pub row_limit : ℕ
row_limit = 2 ^ 20

abbrev pub value_limit : ℕ
value_limit = 2 ^ 18

-- the worth of a row at a point: a1·N1 + .. + a8·N8 + b·d
abbrev pub worth_of : List ℤ → List ℤ → ℤ
worth_of row point = dot row point

-- a list that stands for fractions: numerators of any size over one denominator of at least 1
abbrev pub Fractions : List ℤ → Type 0
Fractions [] = ⊥
Fractions (d ∷ numerators) = pos 1 ≤ℤ d

-- the point satisfies the row: what the row says holds there
abbrev pub Satisfies : List ℤ → List ℤ → Type 0
Satisfies point row = pos 0 ≤ℤ worth_of row point

-- no fractions satisfy all of these rows
abbrev pub NoFractions : List (List ℤ) → Type 0
NoFractions rows = (point : List ℤ) → Fractions point → AllByRecursion (Satisfies point) rows → ⊥

-- whether the point satisfies the row, as a test
abbrev pub is_true : List ℤ → List ℤ → Bool
is_true point row = int_le (pos 0) (worth_of row point)

-- the place, counted from 1, of the last number that is not 0; 0 where there is none
unfoldable pub last_with : ℤ → ℕ → ℕ
last_with z (suc k) = suc (suc k)
last_with (pos zero) zero = 0
last_with (pos (suc n)) zero = 1
last_with (negsuc n) zero = 1

unfoldable pub last_place : List ℤ → ℕ
last_place [] = 0
last_place (z ∷ zs) = last_with z (last_place zs)

-- the level of a row: the greatest k for which ak is not 0, or 0
unfoldable pub level_of : List ℤ → ℕ
level_of [] = 0
level_of (b ∷ coefficients) = last_place coefficients

-- what makes a number the level: the coefficients past it are 0, and its own, if it is not 0, is not
pub record IsLevel (row : List ℤ) (k : ℕ) : Type 0 where
  pub past : (j : ℕ) → k < j → slice_index_or row j (pos 0) ≡ pos 0
  pub own : 0 < k → slice_index_or row k (pos 0) ≢ pos 0

-- numbers within the limit and in lowest form: no whole number above 1 divides them all
abbrev pub in_lowest : List ℤ → Bool
in_lowest zs = within_all row_limit zs && nat_le (gcd_all zs) 1

-- a row of n unknowns: nine such numbers, zeros past an
abbrev pub is_row : ℕ → List ℤ → Bool
is_row n row = length row == 9 && (in_lowest row && nat_le (level_of row) n)

-- a row that no point satisfies: no coefficient but 0, and a negative constant
abbrev pub is_false : List ℤ → Bool
is_false row = level_of row == 0 && int_lt (slice_index_or row 0 (pos 0)) (pos 0)

-- the numbers, if they are a row as they stand
unfoldable pub as_row : List ℤ → Option (List ℤ)
as_row zs = cond (in_lowest zs) (Some zs) None

-- the numbers, if all are within the limit
unfoldable pub in_limit : List ℤ → Option (List ℤ)
in_limit zs = cond (within_all row_limit zs) (Some zs) None

-- the lowest form of the numbers, judged by the limit once it is taken
abbrev pub row_of : List ℤ → Option (List ℤ)
row_of zs = in_limit (lowest_of zs)

-- the combination u·first + v·second, for multipliers within the limit
unfoldable pub combination_of : ℕ → List ℤ → ℕ → List ℤ → Option (List ℤ)
combination_of u first v second = cond (nat_le u row_limit && nat_le v row_limit) (row_of (combine (pos u) first (pos v) second)) None

-- values: a denominator from 1 on and numerators, all within their limit, brought to least terms
unfoldable pub are_values : List ℤ → Bool
are_values zs = within_all value_limit zs && int_le (pos 1) (slice_index_or zs 0 (pos 0))

unfoldable pub values_of : List ℤ → Option (List ℤ)
values_of zs = cond (are_values zs) (Some (lowest_of zs)) None

-- whether a row came about and is this one
abbrev pub same_row : Option (List ℤ) → List ℤ → Bool
same_row made row = option_eq (pointwise int_eq) made (Some row)

-- what a row's numbers are known to be: nine, within the limit, and in lowest form
pub record IsReduced (numbers : List ℤ) : Type 0 where
  pub nine : length numbers ≡ 9
  pub limits : AllWithin row_limit numbers
  pub lowest : gcd_all numbers ≤ 1

-- what values are known to be: nine numbers within the limit, over a denominator from 1 on, and in least terms
pub record AreReduced (numbers : List ℤ) : Type 0 where
  pub nine : length numbers ≡ 9
  pub limits : AllWithin value_limit numbers
  pub positive : pos 1 ≤ℤ slice_index_or numbers 0 (pos 0)
  pub least : gcd_all numbers ≤ 1

-- what is said of numbers that are no row
abbrev pub not_a_row_text : List ℕ
not_a_row_text = codes "the numbers pass the limit of a row, or have a common divisor"
