-- Each turn keeps what the loop claims, and what it claims keeps the sums and products small.
use Rattle.std.proofs.Common.{◌-◌, sym, le_of_lt, arith}
use Rattle.std.proofs.lemmas.Bool.{leb-true, leb-false}
use Rattle.naming.proofs.Walk.{small, reaching, within, turn, answered, too_long, ended}
use Rattle.naming.proofs.between.least_between.Goals as goal

pub loop-turn-preserved : goal.loop-turn-preserved
loop-turn-preserved c =
    rw (c.turned.ensures, c.turned-in-loop-turn.ensures, c.mul_add-next.ensures)
    (turn c.loop-turn.invariant c.rounded_up-whole.result c.rounded_up-whole.ensures.least (leb-false _ _ (sym c.if-reaches.ensures)))

pub mul_add-requires : goal.mul_add-requires
mul_add-requires c =
    let s = small c.loop-turn.invariant c.rounded_up-whole.result c.rounded_up-whole.ensures.least c.rounded_up-whole.result (omega arith) in
    record { over_fits = omega arith; under_fits = omega arith }

pub mul_add-next-requires : goal.mul_add-next-requires
mul_add-next-requires c =
    let s = small c.loop-turn.invariant c.rounded_up-whole.result c.rounded_up-whole.ensures.least (c.rounded_up-whole.result - 1) (omega arith) in
    record { over_fits = omega arith; under_fits = omega arith }

pub returns-then-reaches : goal.returns-then-reaches
returns-then-reaches c =
    rw c.mul_add.ensures
    (answered c.loop-turn.invariant c.rounded_up-whole.result c.rounded_up-whole.ensures.least c.rounded_up-whole.ensures.enough (leb-true _ _ (sym c.if-reaches.ensures)))

pub returns-then-not-is_within_limit : goal.returns-then-not-is_within_limit
returns-then-not-is_within_limit c =
    let s = turn c.loop-turn.invariant c.rounded_up-whole.result c.rounded_up-whole.ensures.least (leb-false _ _ (sym c.if-reaches.ensures)) in
    too_long s (omega arith) (rw c.mul_add-next.ensures at c.if-not-is_within_limit.ensures)

pub turned-requires : goal.turned-requires
turned-requires c = le_of_lt (within c.loop-turn.invariant c.rounded_up-whole.result c.rounded_up-whole.ensures.least (leb-false _ _ (sym c.if-reaches.ensures))).1.above

pub turned-requires-in-loop-turn : goal.turned-requires-in-loop-turn
turned-requires-in-loop-turn c = le_of_lt (within c.loop-turn.invariant c.rounded_up-whole.result c.rounded_up-whole.ensures.least (leb-false _ _ (sym c.if-reaches.ensures))).0.above

pub reaches-requires : goal.reaches-requires
reaches-requires c = reaching c.loop-turn.invariant c.rounded_up-whole.result c.rounded_up-whole.ensures.least

pub unreachable-requires : goal.unreachable-requires
unreachable-requires c = ended c.loop-turn.invariant (omega arith)
