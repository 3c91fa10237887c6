-- One byte more.
use Rattle.std.proofs.Common.{get_or, arith, rules}
use Rattle.rows.proofs.Weights.{weigh_more, weight_le}
use Rattle.rows.proofs.sealing.weighed.Goals as goal

pub loop-i-preserved : goal.loop-i-preserved
loop-i-preserved c =
    let w = weight_le c.loop-i.i (get_or c.args.body.now c.loop-i.i 0) (omega arith) (search rules) in
    let m = weigh_more c.args.body.now c.loop-i.i (omega arith) in
    rw c.from.ensures (omega arith, omega arith)
