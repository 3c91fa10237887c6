-- The divisor fits 64 bits, and dividing by it gives the lowest form.
use Rattle.std.proofs.Common.{◌≡◌, ◌^◌, ◌≤◌, List, get_or, ℤ, pos, sym, ap, ◌∙◌, subst, arith, rules}
use lib.Signed.{quot_z}
use Rattle.arith.specs.Lowest.{AllWithin, gcd_all, lowest_of, IsLowest}
use Rattle.arith.proofs.LowestForms.{lowest_by, lowest_as_given, lowest_is_lowest, lowest_is, lowest_within}
use Rattle.rows.proofs.Arrays.{map_is}
use Rattle.rows.proofs.Widths.{quot_reads}
use Rattle.rows.proofs.numbers.Wide.lowest.Goals as goal

-- the clauses of numbers that are the lowest form
lowest_clauses : (zs least : List ℤ) → least ≡ lowest_of zs → (gcd_all least ≤ 1) × IsLowest zs least
lowest_clauses zs least e =
    (subst (λ (xs : List ℤ). gcd_all xs ≤ 1) (sym e) (lowest_is_lowest zs), subst (IsLowest zs) (sym e) (lowest_is zs))

pub returns-then-g-le1 : goal.returns-then-g-le1
returns-then-g-le1 c =
    let zs = c.self.inside.numbers in
    let is = lowest_as_given c.gcd-g.result zs c.if-g-le1.true (c.gcd-g.ensures.value ∙ ap gcd_all (sym c.self.view_is)) in
    let both = lowest_clauses zs zs is in
    rw (← c.self.view_is) record { is = is; least = both.0; lowest = both.1 }

divided : (c : goal.After-map) → c.map.result ≡ lowest_of c.self.inside.numbers
divided c =
    let g = c.gcd-g.result in
    let zs = c.self.inside.numbers in
    map_is _ _ (λ p q x y h. search rules) (λ z. quot_z z (pos g)) _ _ 9 (search rules) c.map.ensures.items
    (λ i y q h k. quot_reads g (get_or zs i (pos 0)) (omega arith) c.gcd-g.ensures.small (c.self.invariant i) y (search rules))
    ∙ lowest_by g zs (λ z. omega arith) (c.gcd-g.ensures.value ∙ ap gcd_all (sym c.self.view_is))

pub invariant_of-result-2 : goal.invariant_of-result-2
invariant_of-result-2 c = subst (AllWithin (2 ^ 53)) (sym (divided c)) (lowest_within (2 ^ 53) c.self.inside.numbers c.self.invariant)

pub returns : goal.returns
returns c =
    let is = divided c ∙ ap lowest_of c.self.view_is in
    let both = lowest_clauses c.args.self c.map.result is in
    record { is = is; least = both.0; lowest = both.1 }
