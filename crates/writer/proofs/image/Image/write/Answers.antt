-- The header, and then one block more.
use Rattle.std.proofs.Common.{◌≡◌, ℕ, suc, ◌+◌, ◌-◌, ◌*◌, List, ◌++◌, length, take, ap, ◌∙◌, arith, rules}
use Rattle.std.specs.List.{range_with_len, flat_map}
use Rattle.rows.specs.Derivations.{Derivation}
use Rattle.rows.specs.Image.{blocks_for, records_block, header_bytes, image_of}
use Rattle.writer.specs.Writing.{derivation_of, written}
use Rattle.writer.proofs.Written.{take-written, take-written_next, written_in}
use Rattle.writer.proofs.image.Image.write.Goals as goal

first : (d : Derivation) (bytes header new : List ℕ) (t n : ℕ) → t ≡ length d.records → header ≡ header_bytes d.unknowns t → length header ≡ 512 → new ≡ written bytes 0 header → n ≡ blocks_for t →
    take 512 new ++ flat_map (records_block d.records) (range_with_len 0 n) ≡ image_of d
unfolding image_of
first d bytes header new t n l h k w b =
    let front : take 512 new ≡ header_bytes d.unknowns t = ap (take 512) w ∙ take-written bytes header 0 512 (omega arith) (omega arith) ∙ h in
    (λ i. front i ++ flat_map (records_block d.records) (range_with_len 0 (b i))) ∙ ap (λ t. header_bytes d.unknowns t ++ flat_map (records_block d.records) (range_with_len 0 (blocks_for t))) l

pub loop-b-init : goal.loop-b-init
loop-b-init c =
    first (derivation_of c.args.self.now.records) c.args.bytes.now c.header.result c.put.new.bytes c.count-count.result _ c.count-count.ensures c.header.ensures (search rules) c.put.ensures (omega arith)

pub loop-b-preserved : goal.loop-b-preserved
loop-b-preserved c =
    let d = derivation_of c.args.self.now.records in
    let b : ℕ = c.loop-b.b in
    let at : ℕ = 512 * (b + 1) in
    let n : ℕ = blocks_for c.count-count.result in
    let one : n - b ≡ suc (n - (b + 1)) = omega arith in
    let block : List ℕ = c.write_block.new.block in
    let long : length block ≡ 512 = search rules in
    take-written_next (records_block d.records) b (range_with_len (b + 1) (n - (b + 1))) c.loop-b.bytes block _ (image_of d) at (512 * (b + 1 + 1))
    (rw one at c.loop-b.invariant) c.write_block.ensures (omega arith) (omega arith) (written_in c.loop-b.bytes block at (at + 512) (omega arith))
