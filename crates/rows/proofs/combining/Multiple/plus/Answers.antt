-- Each place holds the sum of the two multiples there.
use Rattle.std.proofs.Common.{◌^◌, pos, sym, ◌∙◌, arith, rules}
use Rattle.arith.proofs.Dots.{length-combine, slice_index_or-combine}
use Rattle.rows.proofs.Arrays.{fill_is, fill_within}
use Rattle.rows.proofs.Widths.{sum_is, sum_small}
use Rattle.rows.proofs.combining.Multiple.plus.Goals as goal

pub returns : goal.returns
returns c =
    let s = c.args.self in
    let o = c.args.other in
    fill_is _ _ (λ p q i y h. search rules) _ _ 9 (length-combine (pos s.times) s.row.now.numbers (pos o.times) o.row.now.numbers (omega arith) ∙ s.nine) c.from_fn.ensures.items
    (λ i y q h k. search (rules, sum_is) ∙ sym (slice_index_or-combine (pos s.times) s.row.now.numbers (pos o.times) o.row.now.numbers i (omega arith) (omega arith)))

pub invariant_of-result : goal.invariant_of-result
invariant_of-result c = fill_within _ _ (λ p q i y h. search rules) (2 ^ 53) _ 9 c.from_fn.ensures.items (λ i y q h k. search (rules, sum_small))
