-- A row that came about is found the same as another just where it is that one.
use Rattle.std.proofs.Common.{◌≡◌, List, ℤ, Some, None, Option, Decides, ap}
use Rattle.std.specs.Cmp.Rules.{signed_items}
use Rattle.rows.specs.Rows.{same_row}

pub same_row_is : (made : Option (List ℤ)) (row : List ℤ) → Decides (same_row made row) (made ≡ Some row)
same_row_is None row = (λ e. cc, λ e. cc)
same_row_is (Some made) row = let d = signed_items made row in (λ e. ap Some (d.0 e), λ e. d.1 cc)
