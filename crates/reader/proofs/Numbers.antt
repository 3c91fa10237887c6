-- How many numbers a record's row has.
use Rattle.std.proofs.Common.{◌≡◌, ℕ, List, length, refl}
use Rattle.rows.specs.Image.{numbers_in}

pub length_numbers : (rec : List ℕ) → length (numbers_in rec) ≡ 9
unfolding numbers_in
length_numbers rec = refl
