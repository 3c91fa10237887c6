-- What is left is the greatest common divisor.
use Rattle.std.proofs.Common.{◌≡◌, ℕ, sym, ◌∙◌, subst, arith}
use Rattle.arith.specs.Gcd.{gcd_of, IsGcd}
use Rattle.arith.proofs.Divisors.{gcd_zero, gcd_is}
use Rattle.arith.proofs.euclid.Goals as goal

pub returns-clause-greatest : goal.returns-clause-greatest
returns-clause-greatest c =
    let e : c.loop-y.y ≡ 0 = omega arith in
    let v : c.loop-y.x ≡ gcd_of c.args.a c.args.b = sym (gcd_zero _) ∙ (simp e at c.loop-y.invariant) in
    subst (λ (g : ℕ). IsGcd c.args.a c.args.b g) (sym v) (gcd_is c.args.a c.args.b)
