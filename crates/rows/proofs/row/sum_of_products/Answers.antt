-- One product more.
use Rattle.std.proofs.Common.{◌≡◌, ◌<◌, length, get_or, pos, ◌+ℤ◌, ◌*ℤ◌, sym, refl, ◌∙◌, ap, ap₂, arith, w32, to_z, of_z, rules}
use Rattle.std.proofs.lemmas.List.{take_all, length_push}
use Rattle.std.proofs.lemmas.Slice.Zip.{zip_turn, zip_end}
use Rattle.arith.specs.Dot.{dot}
use Rattle.arith.proofs.Dots.{dot_more}
use Rattle.rows.proofs.Widths.{added}
use Rattle.rows.proofs.row.sum_of_products.Goals as goal

pub loop-coefficient-init : goal.loop-coefficient-init
unfolding dot
loop-coefficient-init c = ((tt, tt), tt, refl, omega arith)

-- where this turn's numbers stand
record Turn (c : goal.After-from-in-loop-coefficient) : Type 0 where
  within : length c.loop-coefficient.yielded < 9
  in_row : length c.loop-coefficient.yielded < length c.args.row.now.plain.numbers
  in_values : length c.loop-coefficient.yielded < length c.args.values.now.numbers
  coefficient : c.from.result ≡ to_z w32 (of_z w32 (get_or c.args.row.now.plain.numbers (length c.loop-coefficient.yielded) (pos 0)))
  value : c.from-in-loop-coefficient.result ≡ to_z w32 (of_z w32 (get_or c.args.values.now.numbers (length c.loop-coefficient.yielded) (pos 0)))

turn : (c : goal.After-from-in-loop-coefficient) → Turn c
turn c =
    let t =
    zip_turn c.args.row.now.plain.numbers c.args.values.now.numbers c.loop-coefficient.yielded c.into_iter-coefficient-iterator.result
    _ c.next.new.self _ (search rules) (search rules) c.loop-coefficient.yielded_by (c.in-Some.coefficient, c.in-Some.value) c.in-Some.is c.next.ensures.steps in
    record {
      within = omega (arith, t.0);
      in_row = t.0;
      in_values = t.1;
      coefficient = c.from.ensures ∙ ap (λ z. to_z w32 (of_z w32 z)) (t.2 (pos 0));
      value = c.from-in-loop-coefficient.ensures ∙ ap (λ z. to_z w32 (of_z w32 z)) (t.3 (pos 0));
    }

pub overflow_add-sum : goal.overflow_add-sum
overflow_add-sum c =
    let t = turn c in
    let n = length c.loop-coefficient.yielded in
    let a = get_or c.args.row.now.plain.numbers n (pos 0) in
    let b = get_or c.args.values.now.numbers n (pos 0) in
    (added a b _ _ n c.loop-coefficient.sum-is c.loop-coefficient.invariant.3 t.within (c.args.row.now.limits n) (c.args.values.now.limits n) t.coefficient t.value).fits

pub loop-coefficient-preserved : goal.loop-coefficient-preserved
loop-coefficient-preserved c =
    let t = turn c in
    let n = length c.loop-coefficient.yielded in
    let a = get_or c.args.row.now.plain.numbers n (pos 0) in
    let b = get_or c.args.values.now.numbers n (pos 0) in
    let s = added a b _ _ n c.loop-coefficient.sum-is c.loop-coefficient.invariant.3 t.within (c.args.row.now.limits n) (c.args.values.now.limits n) t.coefficient t.value in
    let d = dot_more c.args.row.now.plain.numbers c.args.values.now.numbers n t.in_row t.in_values in
    rw length_push ((tt, tt), tt, s.is ∙ ap (λ z. z +ℤ a *ℤ b) c.loop-coefficient.invariant.2 ∙ sym d, rw s.is s.within)

pub returns : goal.returns
returns c =
    let xs = c.args.row.now.plain.numbers in
    let ys = c.args.values.now.numbers in
    let n = length c.loop-coefficient.yielded in
    let e = zip_end xs ys c.loop-coefficient.yielded c.into_iter-coefficient-iterator.result _ c.next.new.self _ (search rules) (search rules) c.loop-coefficient.yielded_by c.in-None.is c.next.ensures.steps in
    c.loop-coefficient.invariant.2 ∙ ap₂ dot (take_all n xs (omega arith)) (take_all n ys (omega arith))
