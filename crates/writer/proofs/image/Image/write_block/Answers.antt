-- The records that stand in the block.
use Rattle.std.proofs.Common.{◌≡◌, ℕ, ◌+◌, ◌-◌, ◌*◌, min, List, length, take, drop, ap, ◌∙◌, arith, length-drop, length-take}
use Rattle.std.specs.List.{flat_map}
use Rattle.std.proofs.lemmas.List.{take_min}
use Rattle.rows.specs.Derivations.{Record}
use Rattle.rows.specs.Image.{count_in, sealed, record_bytes, block_body, records_block}
use Rattle.rows.specs.Origins.{records_with}
use Rattle.writer.proofs.Pairs.{records_with-drop, records_with-take}
use Rattle.writer.proofs.image.Image.write_block.Goals as goal

pub returns : goal.returns
unfolding records_block
returns c =
    let all : List Record = records_with c.args.self.now.records.origins.now c.args.self.now.records.rows.now in
    let left : List Record = drop (8 * c.args.b) all in
    let k : ℕ = c.min-end.result - 8 * c.args.b in
    let few : k ≡ min 8 (length left) = simp length-drop (omega arith) in
    let same = records_with-take k (drop (8 * c.args.b) c.args.self.now.records.origins.now) (drop (8 * c.args.b) c.args.self.now.records.rows.now)
    ∙ ap (take k) (records_with-drop (8 * c.args.b) c.args.self.now.records.origins.now c.args.self.now.records.rows.now) ∙ ap (λ n. take n left) few ∙ take_min 8 left in
    let long : length (take 8 left) ≡ count_in (length all) c.args.b = simp (length-take, length-drop) (omega arith) in
    c.write_records.ensures ∙ ap (λ records. sealed (block_body (c.args.b + 1) (length records) (flat_map record_bytes records))) same
    ∙ ap (λ n. sealed (block_body (c.args.b + 1) n (flat_map record_bytes (take 8 left)))) long
