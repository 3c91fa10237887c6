-- What follows from a row that was made from numbers, or was not.
use Rattle.std.proofs.Common.{◌≡◌, true, leb, List, length, get_or, ℤ, pos, ◌≤ℤ◌, le_trans, IfSome, Some, None, Option, sym, ◌∙◌, subst, arith}
use Rattle.std.specs.Option.{option_map}
use Rattle.std.proofs.lemmas.Bool.Decides.{nat_tests}
use Rattle.std.proofs.lemmas.Bool.{and_parts, leb-true}
use Rattle.arith.specs.Lowest.{AllWithin, within_all, gcd_all, lowest_of}
use Rattle.arith.proofs.LowestForms.{within_is, lowest_within, lowest_positive, lowest_is_lowest, length_lowest}
use Rattle.rows.specs.Rows.{row_limit, value_limit, in_lowest, in_limit, row_of, IsReduced, AreReduced}

-- what the lowest form of the numbers has, the row has
pub found_row : {T : Type 0} (f : T → List ℤ) (o : Option T) (zs : List ℤ) (P : List ℤ → Type 0) → option_map f o ≡ row_of zs → P (lowest_of zs) → IfSome o (λ t. P (f t))
unfolding in_limit
found_row f None zs P e p = tt
found_row f (Some t) zs P e p = let q : f t ≡ lowest_of zs = grind (arith, nat_tests) in subst P (sym q) p

-- numbers that pass both tests are those of a row
pub reduced_from : (zs : List ℤ) → length zs ≡ 9 → in_lowest zs ≡ true → IsReduced zs
reduced_from zs l h =
    let both = and_parts (within_all row_limit zs) (leb (gcd_all zs) 1) h in
    record { nine = l; limits = within_is row_limit zs both.0; lowest = leb-true _ 1 both.1 }

-- the lowest form of numbers that are values
module _ (zs least : List ℤ) (nine : length zs ≡ 9) (e : least ≡ lowest_of zs) (within : within_all value_limit zs ≡ true) (positive : pos 1 ≤ℤ get_or zs 0 (pos 0)) where
  pub values_reduced : AreReduced least
  values_reduced =
      rw e record {
        nine = length_lowest zs ∙ nine;
        limits = lowest_within value_limit zs (within_is value_limit zs within);
        positive = lowest_positive zs 0 positive;
        least = lowest_is_lowest zs;
      }

  pub values_narrow : AllWithin row_limit least
  values_narrow k = le_trans (values_reduced.limits k) (omega arith)
