-- What `then_some` says of its test and its value.
use Rattle.std.specs.Prelude.{◌≡◌, Bool, true, false, Some, None}
use Rattle.std.specs.Bool.{then_some}
use Rattle.std.proofs.Common.{rules}

pub some_then : {A : Type 0} (b : Bool) (x y : A) → then_some b x ≡ Some y → (b ≡ true) × (x ≡ y)
some_then b x y e = search rules

pub none_then : {A : Type 0} (b : Bool) (x : A) → then_some b x ≡ None → b ≡ false
none_then b x e = search rules
