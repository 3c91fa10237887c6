-- The divisor is within the limit of the numbers.
use Rattle.std.proofs.Common.{◌≡◌, ◌^◌, ap, ◌∙◌, arith, rules}
use Rattle.arith.specs.Lowest.{gcd_all}
use Rattle.arith.proofs.LowestForms.{from_within}
use Rattle.rows.proofs.numbers.Wide.gcd.Goals as goal

pub returns : goal.returns
returns c =
    let e : c.fold.result ≡ gcd_all c.self.inside.numbers = search rules in
    let w = from_within 0 (2 ^ 53) c.self.inside.numbers (omega arith) c.self.invariant in
    record { value = e ∙ ap gcd_all c.self.view_is; small = omega arith }
