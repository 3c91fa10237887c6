-- The seal of the bytes so far, and its bound.
use Rattle.std.proofs.Common.{◌≡◌, ◌+◌, ◌*◌, ◌≤◌, take}
use Rattle.rows.specs.Bytes.{seal_of}
use Rattle.rows.proofs.sealing.weighed.Given as goal

abbrev pub invariant-loop-i : goal.invariant-loop-i
invariant-loop-i l = (l.sum ≡ seal_of (take l.i l.body)) × (l.sum ≤ 1 + 129540 * l.i)
