-- The header and the blocks so far, and those that are left.
use Rattle.std.proofs.Common.{◌≡◌, ◌+◌, ◌-◌, ◌*◌, ◌++◌, take}
use Rattle.std.specs.List.{range_with_len, flat_map}
use Rattle.rows.specs.Image.{blocks_for, records_block, image_of}
use Rattle.writer.specs.Writing.{derivation_of}
use Rattle.writer.proofs.image.Image.write.Given as goal

abbrev pub invariant-loop-b : goal.invariant-loop-b
invariant-loop-b l =
    let d = derivation_of l.self.records in
    take (512 * (l.b + 1)) l.bytes ++ flat_map (records_block d.records) (range_with_len l.b (blocks_for l.count - l.b)) ≡ image_of d
