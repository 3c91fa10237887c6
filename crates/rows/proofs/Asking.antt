-- Laws of questions that are put in order.
use Rattle.std.proofs.Common.{◌≡◌, ℕ, zero, suc, ◌+◌, ◌<◌, ◌≤◌, Bool, true, false, Ok, Err, Result, sym, refl, ap, ◌∙◌, ⊎_elim, add-one, arith}
use Rattle.std.proofs.lemmas.Bool.{cases_lt}
use Rattle.rows.specs.Questions.{asked, ◌then◌, for_each}

-- a yes leaves what comes next, and a no stays
pub then_yes : {E : Type 0} (x y : Result (Unit {0}) E) → x ≡ Ok tt → (x then y) ≡ y
then_yes x y e = ap (λ o. o then y) e

pub then_no : {E : Type 0} (x y : Result (Unit {0}) E) (e : E) → x ≡ Err e → (x then y) ≡ Err e
then_no x y e p = ap (λ o. o then y) p

-- back from a yes
pub asked_yes : {E : Type 0} (b : Bool) (e : E) → asked b e ≡ Ok tt → b ≡ true
asked_yes true e h = refl
asked_yes false e h = absurd (grind arith)

pub then_both : {E : Type 0} (x y : Result (Unit {0}) E) → (x then y) ≡ Ok tt → (x ≡ Ok tt) × (y ≡ Ok tt)
then_both (Ok tt) y h = (refl, h)
then_both (Err e) y h = absurd (grind arith)

module _ {E : Type 0} (p : ℕ → Result (Unit {0}) E) where
  pub each_more : (i : ℕ) → for_each p i ≡ Ok tt → p i ≡ Ok tt → for_each p (i + 1) ≡ Ok tt
  each_more i h e = rw (add-one, h) e

  pub each_no : (i n : ℕ) (e : E) → i < n → for_each p i ≡ Ok tt → p i ≡ Err e → for_each p n ≡ Err e
  each_no i zero e h b q = absurd (omega arith)
  each_no i (suc n) e h b q =
      ⊎_elim
      (λ (l : i < n). then_no (for_each p n) (p n) e (each_no i n e l b q))
      (λ (l : n ≤ i). let s : i ≡ n = omega arith in then_yes (for_each p n) (p n) (ap (for_each p) (sym s) ∙ b) ∙ (ap p (sym s) ∙ q))
      (cases_lt i n)

  -- a yes for each is a yes for all, and back
  pub each_at : (i n : ℕ) → for_each p n ≡ Ok tt → i < n → p i ≡ Ok tt
  each_at i zero h l = absurd (omega arith)
  each_at i (suc n) h l =
      let both = then_both (for_each p n) (p n) h in
      ⊎_elim
      (λ (k : i < n). each_at i n both.0 k)
      (λ (k : n ≤ i). let s : i ≡ n = omega arith in ap p s ∙ both.1)
      (cases_lt i n)

  pub each_all : (n : ℕ) → ((i : ℕ) → i < n → p i ≡ Ok tt) → for_each p n ≡ Ok tt
  each_all zero h = refl
  each_all (suc n) h = then_yes (for_each p n) (p n) (each_all n (λ i l. h i (omega arith))) ∙ h n (omega arith)
