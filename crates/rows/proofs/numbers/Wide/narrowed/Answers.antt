-- Each number is within the limit, and so stays as it is.
use Rattle.std.proofs.Common.{◌^◌, sym, ◌∙◌, subst, arith, rules}
use Rattle.std.proofs.lemmas.List.{map-id}
use Rattle.arith.specs.Lowest.{AllWithin}
use Rattle.rows.proofs.Arrays.{map_is, map_serves}
use Rattle.rows.proofs.Widths.{narrow_fits, narrow_is}
use Rattle.rows.proofs.numbers.Wide.narrowed.Goals as goal

pub map-requires : goal.map-requires
map-requires c =
    (omega arith, (omega arith, (omega arith, map_serves _ _ (λ p x q h. search rules) _ _ (λ k. search (rules, narrow_fits, c.requires)))))

pub returns : goal.returns
returns c =
    let w = subst (AllWithin (2 ^ 20)) (sym c.self.view_is) c.requires in
    map_is _ _ (λ p q x y h. search rules) (λ z. z) _ _ 9 (search rules) c.map.ensures.items (λ i y q h k. narrow_is _ _ (w i) (search rules)) ∙ map-id _ ∙ c.self.view_is
