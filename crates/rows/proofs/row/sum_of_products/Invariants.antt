-- The sum of the products so far, and its bound.
use Rattle.std.proofs.Common.{◌≡◌, ◌*◌, ◌^◌, ◌≤◌, length, take, nat_abs}
use Rattle.arith.specs.Dot.{dot}
use Rattle.rows.proofs.row.sum_of_products.Given as goal

abbrev pub invariant-loop-coefficient : goal.invariant-loop-coefficient
invariant-loop-coefficient l =
    (goal.iterator-loop-coefficient).can_next l.coefficient-iterator
    × (goal.iterator-loop-coefficient).is_finite l.coefficient-iterator
    × (l.sum ≡ dot (take (length l.yielded) l.row.plain.numbers) (take (length l.yielded) l.values.numbers))
    × (nat_abs l.sum ≤ 2 ^ 38 * length l.yielded)
