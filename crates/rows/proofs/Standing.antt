-- What it says of a record that it stands right.
use Rattle.std.proofs.Common.{◌≡◌, ℕ, ◌<◌, ◌≤◌, true, List, length, ℤ, arith}
use Rattle.std.proofs.lemmas.Bool.Decides.{nat_tests}
use Rattle.rows.specs.Derivations.{Record, input, step, row_in, are_parents, Stands}
use Rattle.rows.specs.Rows.{row_limit, is_row}

pub has_row : (n : ℕ) (records : List Record) (r : ℕ) (t : Record) → Stands n records r t → is_row n (row_in t) ≡ true
has_row n records r (input tag row) s = s.0
has_row n records r (step first second u v row) s = s.0

pub row_nine : (n : ℕ) (row : List ℤ) → is_row n row ≡ true → length row ≡ 9
row_nine n row h = grind (arith, nat_tests)

pub record Parents (r first second u v : ℕ) : Type 0 where
  pub first_earlier : first < r
  pub second_earlier : second < r
  pub small_u : u ≤ row_limit
  pub small_v : v ≤ row_limit

pub parents : (r first second u v : ℕ) → are_parents r first second u v ≡ true → Parents r first second u v
parents r first second u v h =
    record {
      first_earlier = grind (arith, nat_tests);
      second_earlier = grind (arith, nat_tests);
      small_u = grind (arith, nat_tests);
      small_v = grind (arith, nat_tests);
    }
