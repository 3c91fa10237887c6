-- What the header holds stands behind its first eight bytes, with zeros behind it.
use Rattle.std.proofs.Common.{◌≡◌, ℕ, ◌-◌, List, ◌++◌, length, refl, ap, ◌∙◌, append_assoc, arith}
use Rattle.std.proofs.lemmas.Grind.{common_steps}
use Rattle.rows.specs.Bytes.{bytes16}
use Rattle.rows.specs.Image.{zero_bytes, block_body, sealed, header_bytes}
use Rattle.writer.proofs.Written.{written-zero_bytes}
use Rattle.writer.proofs.blocks.header.Goals as goal

pub returns : goal.returns
unfolding header_bytes
returns c =
    let held : List ℕ = c.as_flattened.result.now in
    let same : held ≡ bytes16 1 ++ (bytes16 c.args.unknowns ++ bytes16 c.args.records) = grind (arith, common_steps) in
    c.frame.ensures held (omega (arith, ap length same)) (c.put.ensures ∙ written-zero_bytes (zero_bytes 8) held 8 504 refl ∙ append_assoc (zero_bytes 8) held (zero_bytes (504 - length held)))
    ∙ ap (λ held. sealed (block_body 0 0 held)) same
