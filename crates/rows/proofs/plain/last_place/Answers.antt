-- The last number that is not 0.
use Rattle.std.proofs.Common.{rules}
use Rattle.rows.specs.Rows.{IsLevel}
use Rattle.rows.proofs.Levels.{level_back, level_unique}
use Rattle.rows.proofs.Widths.{zero_bits}
use Rattle.rows.proofs.plain.last_place.Goals as goal

pub returns : goal.returns
returns c =
    let l = level_back _ (λ p q x h. search (rules, zero_bits)) (λ p q x h z. search rules) _ _ _ _ c.rposition.ensures.ran in
    let i : IsLevel c.args.numbers.now c.unwrap_or.result = rw (c.unwrap_or.ensures, ← c.iter.ensures.rest) l in
    record { value = level_unique _ _ i; greatest = i }
