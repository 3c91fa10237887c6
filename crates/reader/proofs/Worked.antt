-- Two shots worked through, over the definitions: the image of a derivation is read, and a damaged one is refused.
use Rattle.std.proofs.Common.{◌≡◌, ℕ, zero, suc, ◌<◌, List, [], ◌∷◌, length, get_or, ℤ, pos, negsuc, Ok, Err, refl, arith}
use Rattle.arith.specs.Dot.{combine}
use Rattle.arith.specs.Gcd.{gcd_by, gcd_of}
use Rattle.arith.specs.Lowest.{divided, lowest_of}
use Rattle.rows.specs.Derivations.{input, step, Stands, Derivation, IsDerivation}
use Rattle.rows.specs.Image.{numbers_in, row_bytes, record_bytes, block_body, sealed, header_bytes, records_block, image_of}
use Rattle.rows.specs.Rows.{last_with, last_place, level_of, in_limit, combination_of}
use Rattle.reader.specs.Reading.{block_asked, read_of}
use Rattle.reader.specs.declared.refusal.Refusal.TheVariants.{Combination}

-- b + a1·x1 + a2·x2 ≥ 0
row : ℤ → ℤ → ℤ → List ℤ
row b a1 a2 = b ∷ a1 ∷ a2 ∷ pos 0 ∷ pos 0 ∷ pos 0 ∷ pos 0 ∷ pos 0 ∷ pos 0 ∷ []

-- two picks, 10 m at 4,000 to 4,200 and 20 m at 9,000 to 9,100, and a shot delay of at least 0: rows 1 and 2 clash, and their
-- combination by 1·(row 2) + v·(row 1) clashes with row 4
shots : ℕ → Derivation
shots v = record {
  unknowns = 2;
  records =
      input 1 (row (negsuc 3999) (pos 1) (pos 10)) ∷ input 1 (row (pos 4200) (negsuc 0) (negsuc 9))
      ∷ input 2 (row (negsuc 8999) (pos 1) (pos 20)) ∷ input 2 (row (pos 9100) (negsuc 0) (negsuc 19))
      ∷ input 0 (row (pos 0) (pos 1) (pos 0))
      ∷ step 2 1 1 v (row (negsuc 599) (negsuc 0) (pos 0)) ∷ step 4 5 1 1 (row (negsuc 0) (pos 0) (pos 0)) ∷ [];
}

-- it is a derivation
stands : (r : ℕ) → r < 7 → Stands 2 (shots 2).records r (get_or (shots 2).records r (input 0 []))
unfolding shots row last_with last_place level_of in_limit combination_of combine gcd_by gcd_of divided lowest_of
stands zero h = (refl, omega arith)
stands (suc zero) h = (refl, omega arith)
stands (suc (suc zero)) h = (refl, omega arith)
stands (suc (suc (suc zero))) h = (refl, omega arith)
stands (suc (suc (suc (suc zero)))) h = (refl, omega arith)
stands (suc (suc (suc (suc (suc zero))))) h = (refl, refl, refl)
stands (suc (suc (suc (suc (suc (suc zero)))))) h = (refl, refl, refl)
stands (suc (suc (suc (suc (suc (suc (suc r))))))) h = absurd (omega arith)

derivation : IsDerivation (shots 2)
unfolding shots row last_with last_place level_of
derivation = record { some_unknowns = (omega arith, omega arith); some_records = (omega arith, omega arith); each_stands = stands; last_false = refl }

-- its image is read as it is, and with another multiplier in record 5 its row is no longer the combination
long : length (image_of (shots 2)) ≡ 1024
unfolding shots row image_of header_bytes records_block sealed block_body record_bytes row_bytes
long = refl

accepted : read_of (image_of (shots 2)) ≡ Ok (record { image = image_of (shots 2); records = 7; inputs = 5 })
unfolding shots row image_of header_bytes records_block sealed block_body record_bytes row_bytes numbers_in block_asked last_with last_place level_of in_limit combination_of combine gcd_by gcd_of divided lowest_of
accepted = refl

refused : read_of (image_of (shots 1)) ≡ Err (Combination 5)
unfolding shots row image_of header_bytes records_block sealed block_body record_bytes row_bytes numbers_in block_asked last_with last_place level_of in_limit combination_of combine gcd_by gcd_of divided lowest_of
refused = refl
