-- Each call answers the question of its block.
use Rattle.std.proofs.Common.{refl, rules}
use Rattle.std.specs.Result.{result_from_control_flow}
use Rattle.reader.specs.Reading.{block_asked}
use Rattle.reader.proofs.InTurn.{in_turn}
use Rattle.reader.proofs.image.Image.ask_blocks.Goals as goal

pub returns : goal.returns
returns c =
    let image = c.args.self.now in
    in_turn result_from_control_flow (λ d. d.0) refl (λ d. refl) _ _ (block_asked image.bytes.now image.unknowns image.records) _ _ _ _ c.try_for_each.ensures.ran c.blocks_for.ensures (λ i v f' k. search rules)
