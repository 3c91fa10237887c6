-- Each number stays as it is, and 32 bits hold it.
use Rattle.std.proofs.Common.{◌≡◌, ◌^◌, sym, ◌∙◌, subst, le_trans, arith, rules}
use Rattle.std.proofs.lemmas.List.{map-id}
use Rattle.arith.specs.Lowest.{AllWithin}
use Rattle.rows.proofs.Arrays.{map_is}
use Rattle.rows.proofs.Widths.{each_within}
use Rattle.rows.proofs.numbers.WideFromArrayI329.from.Goals as goal

same : (c : goal.After-map) → c.map.result ≡ c.args.numbers
same c = map_is _ _ (λ p q x y h. search rules) (λ z. z) _ _ 9 (search rules) c.map.ensures.items (λ i y q h k. search rules) ∙ map-id c.args.numbers

pub invariant_of-result : goal.invariant_of-result
invariant_of-result c =
    subst (AllWithin (2 ^ 53)) (sym (same c)) (λ k. le_trans (each_within c.args.numbers _ k c.well_formed.0.1.1) (omega arith))

pub returns : goal.returns
returns c = same c
