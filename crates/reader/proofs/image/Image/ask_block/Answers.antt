-- The frame first; then each call answers the question of its record.
use Rattle.std.proofs.Common.{ℕ, ◌+◌, ◌*◌, Result, sym, refl, ◌∙◌, rules}
use Rattle.std.specs.Result.{result_from_control_flow}
use Rattle.rows.proofs.Asking.{then_yes}
use Rattle.reader.specs.Reading.{frame_asked, record_asked, block_asked}
use Rattle.reader.specs.declared.refusal.Refusal.{Refusal}
use Rattle.reader.proofs.InTurn.{in_turn}
use Rattle.reader.proofs.image.Image.ask_block.Goals as goal

pub returns : goal.returns
unfolding block_asked
returns c =
    let image = c.args.self.now in
    let question : ℕ → Result (Unit {0}) Refusal = λ i. record_asked image.bytes.now image.unknowns (8 * c.args.b + i) in
    in_turn result_from_control_flow (λ d. d.0) refl (λ d. refl) _ _ question _ _ _ _ c.try_for_each.ensures.ran c.count_in.ensures.is (λ i v f' k. search rules)
    ∙ sym (then_yes (frame_asked image.bytes.now image.records c.args.b) _ (sym c.in_ok-ask_frame.ensures))
