-- What makes the result the greatest common divisor.
use Rattle.arith.proofs.Divisors.{one_is_gcd}
use Rattle.arith.proofs.gcd.Goals as goal

pub returns-then-a-eq1-clause-greatest : goal.returns-then-a-eq1-clause-greatest
returns-then-a-eq1-clause-greatest c = one_is_gcd c.args.a c.args.b c.if-a-eq1.true
