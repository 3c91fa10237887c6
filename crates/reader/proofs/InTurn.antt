-- Questions that `try_for_each` puts in turn over a range, by a closure that no call changes: the first no decides.
use Rattle.std.proofs.Common.{◌≡◌, ℕ, ◌≤◌, List, [], ◌∷◌, MatchOption, Option, Some, None, IsErr, IsErrAnd, Ok, Err, Result, sym, refl, ap, ◌∙◌, subst, arith}
use Rattle.std.specs.Fn.{Called}
use Rattle.std.specs.Iterator.{Yields, TryForEachTurn, TryCallsOnEach}
use Rattle.std.specs.List.{FoldsTo}
use Rattle.std.specs.declared.ops.Range.{Range}
use Rattle.std.specs.declared.ops.ControlFlow.{ControlFlow}
use Rattle.std.specs.declared.ops.ControlFlow.TheVariants.{Continue, Break}
use Rattle.std.proofs.iter.Yields.{nat_range_steps}
use Rattle.std.proofs.lemmas.Result.{err_from_is_err_and}
use Rattle.rows.specs.Questions.{for_each}
use Rattle.rows.proofs.Asking.{each_more, each_no}
use denote.Param.Members.{Mut}

-- `of` says which answer `?` took apart, and `refusal` which no it hands on
module _ {E D F : Type 0} (of : ControlFlow D (Unit {0}) → Result (Unit {0}) E) (refusal : D → E) (yes : of (Continue tt) ≡ Ok tt) (no : (d : D) → of (Break d) ≡ Err (refusal d))
    (g : Mut F (ℕ × Unit {0}) (Result (Unit {0}) E)) (f : F) (question : ℕ → Result (Unit {0}) E) where
  abbrev TakesApart : Result (Unit {0}) E → ControlFlow D (Unit {0}) → Type 0
  TakesApart v flow = v ≡ of flow

  abbrev HandsOn : D → Result (Unit {0}) E → Type 0
  HandsOn d r = IsErr r × IsErrAnd r (λ e. e ≡ refusal d)

  abbrev Answers : Type 0
  Answers = (i : ℕ) (v : Result (Unit {0}) E) (f' : F) → Called g f (i, tt) v f' → (v ≡ question i) × (f' ≡ f)

  -- after some turns each question so far got a yes
  turns : Answers → (xs : List ℕ) (s t : Range ℕ) (h : F) → Yields nat_range_steps s xs t → FoldsTo (TryForEachTurn g TakesApart) f xs h → s.start ≤ s.end → for_each question s.start ≡ Ok tt
      → (for_each question t.start ≡ Ok tt) × (h ≡ f) × (t.end ≡ s.end) × (t.start ≤ t.end)
  turns call [] s t h y c l e = (subst (λ (k : Range ℕ). for_each question k.start ≡ Ok tt) y e, sym c, sym (ap (λ (k : Range ℕ). k.end) y), subst (λ (k : Range ℕ). k.start ≤ k.end) y l)
  turns call (x ∷ xs) s t h y c l e =
      let answer = call x c.1.0 c.0 c.1.1 in
      let here : question s.start ≡ Ok tt = ap question (sym y.1.1.1) ∙ (sym answer.0 ∙ (c.1.2 ∙ yes)) in
      let next : for_each question y.0.start ≡ Ok tt = ap (for_each question) y.1.1.2 ∙ each_more question s.start e here in
      let w = turns call xs y.0 t h y.2 (subst (λ (q : F). FoldsTo (TryForEachTurn g TakesApart) q xs h) answer.1 c.2) (omega (arith, y.1.0, y.1.1.0, y.1.1.2)) next in
      (w.0, w.1, w.2 ∙ y.1.0, w.3)

  pub in_turn : (n m : ℕ) (u : Range ℕ) (r : Result (Unit {0}) E) → TryCallsOnEach nat_range_steps g TakesApart HandsOn (record { start = 0; end = n }) f r u → n ≡ m → Answers → r ≡ for_each question m
  in_turn n m u r d same call = go d.1 d.3.2 d.5
    where
      w : (for_each question d.3.0.start ≡ Ok tt) × (d.2 ≡ f) × (d.3.0.end ≡ n) × (d.3.0.start ≤ d.3.0.end)
      w = turns call d.0 (record { start = 0; end = n }) d.3.0 d.2 d.3.1 d.4 (omega arith) refl

      go : (o : Option ℕ) → nat_range_steps d.3.0 o u
          → MatchOption o (TakesApart r (Continue tt)) (λ x. (v : Result (Unit {0}) E) × (h : F) × (e : D) × Called g d.2 (x, tt) v h × TakesApart v (Break e) × HandsOn e r)
          → r ≡ for_each question m
      go None y k = let all : d.3.0.start ≡ m = omega (arith, y.1.0, w.2, w.3) in k ∙ (yes ∙ sym (ap (for_each question) (sym all) ∙ w.0))
      go (Some x) y k =
          let answer = call x k.0 k.1 (subst (λ (q : F). Called g q (x, tt) k.0 k.1) w.1 k.3) in
          let first : question d.3.0.start ≡ Err (refusal k.2) = ap question (sym y.1.1) ∙ (sym answer.0 ∙ (k.4 ∙ no k.2)) in
          let p = err_from_is_err_and r k.5.1 in
          p.1 ∙ (ap Err p.2 ∙ sym (each_no question d.3.0.start m (refusal k.2) (omega (arith, y.1.0, w.2)) w.0 first))
