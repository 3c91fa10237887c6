-- What is left, and what has been taken off.
use Rattle.naming.proofs.Walk.{Walking}
use Rattle.naming.proofs.between.least_between.Given as goal

abbrev pub invariant-loop-turn : goal.invariant-loop-turn
invariant-loop-turn l = Walking l.initial.near l.initial.far l.near l.far l.last l.before l._turn
