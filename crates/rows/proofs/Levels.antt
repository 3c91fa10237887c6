-- The last place of a list that does not hold 0: what makes it the level, and a search for it from the end.
use Rattle.std.proofs.Common.{◌≡◌, ℕ, zero, suc, ◌+◌, ◌<◌, ◌≤◌, List, [], ◌∷◌, length, get_or, ℤ, pos, negsuc, Bool, true, false, Option, Some, None, MatchOption, IsSomeAnd, unwrap_or, Bor, Iter, ◌≢◌, sym, refl, ap, ◌∙◌, subst, ⊎_elim, arith}
use denote.Param.Members.{Mut, Called}
use Rattle.std.specs.Iterator.{Yields, YieldsThen, FindsPositionBack}
use Rattle.std.specs.List.{FoldsTo, push}
use Rattle.std.specs.Slice.Iter.{iter_rest, iter_steps_back}
use Rattle.std.proofs.lemmas.Bool.{cases_lt}
use Rattle.std.proofs.lemmas.List.{get_or_append_left, get_or_past, get_or_push, length_push}
use Rattle.rows.specs.Rows.{last_with, last_place, level_of, IsLevel}

-- what stands past the last place, and at it
with_below : (z : ℤ) (p j : ℕ) → last_with z p ≤ suc j → p ≤ j
unfolding last_with
with_below z zero j h = omega arith
with_below z (suc p) j h = omega arith

with_zero : (z : ℤ) (p : ℕ) → last_with z p ≤ 0 → z ≡ pos 0
unfolding last_with
with_zero (pos zero) zero h = refl
with_zero (pos (suc n)) zero h = absurd (omega arith)
with_zero (negsuc n) zero h = absurd (omega arith)
with_zero z (suc p) h = absurd (omega arith)

last_past : (xs : List ℤ) (j : ℕ) → last_place xs ≤ j → get_or xs j (pos 0) ≡ pos 0
unfolding last_place
last_past [] j h = refl
last_past (x ∷ xs) zero h = with_zero x (last_place xs) h
last_past (x ∷ xs) (suc j) h = last_past xs j (with_below x (last_place xs) j h)

with_own : (p : ℕ) (x : ℤ) (xs : List ℤ) (k : ℕ) → last_with x p ≡ suc k → get_or (x ∷ xs) k (pos 0) ≡ pos 0 → ((q : ℕ) → p ≡ suc q → get_or xs q (pos 0) ≡ pos 0 → ⊥) → ⊥
unfolding last_with
with_own zero (pos zero) xs k e z below = absurd (omega arith)
with_own zero (pos (suc n)) xs zero e z below = let a : ◌≡◌ {A = ℕ} 0 1 = cc in absurd (omega arith)
with_own zero (pos (suc n)) xs (suc k) e z below = absurd (omega arith)
with_own zero (negsuc n) xs zero e z below = let a : ◌≡◌ {A = ℕ} 0 1 = cc in absurd (omega arith)
with_own zero (negsuc n) xs (suc k) e z below = absurd (omega arith)
with_own (suc p) x xs zero e z below = absurd (omega arith)
with_own (suc p) x xs (suc k) e z below = let s : p ≡ k = omega arith in below k (ap suc s) z

last_own : (xs : List ℤ) (k : ℕ) → last_place xs ≡ suc k → get_or xs k (pos 0) ≡ pos 0 → ⊥
unfolding last_place
last_own [] k e z = absurd (omega arith)
last_own (x ∷ xs) k e z = with_own (last_place xs) x xs k e z (λ p f. last_own xs p f)

pub level_is : (row : List ℤ) → IsLevel row (level_of row)
unfolding level_of
level_is [] = record { past = λ j h. refl; own = λ h e. omega arith }
level_is (b ∷ xs) = record { past = past; own = own }
  where
    past : (j : ℕ) → last_place xs < j → get_or (b ∷ xs) j (pos 0) ≡ pos 0
    past zero h = absurd (omega arith)
    past (suc j) h = last_past xs j (omega arith)

    own : 0 < last_place xs → get_or (b ∷ xs) (last_place xs) (pos 0) ≡ pos 0 → ⊥
    own h = at (last_place xs) refl h
      where
        at : (p : ℕ) → last_place xs ≡ p → 0 < p → get_or (b ∷ xs) p (pos 0) ≡ pos 0 → ⊥
        at zero e h z = absurd (omega arith)
        at (suc p) e h z = last_own xs p e z

pub level_unique : (row : List ℤ) (k : ℕ) → IsLevel row k → k ≡ level_of row
level_unique row k i = on (level_of row) (level_is row)
  where
    on : (l : ℕ) → IsLevel row l → k ≡ l
    on l j =
        ⊎_elim
        (λ (h : k < l). absurd (j.own (omega arith) (i.past l h)))
        (λ (h : l ≤ k). ⊎_elim (λ (m : l < k). absurd (i.own (omega arith) (j.past k m))) (λ (m : k ≤ l). omega arith) (cases_lt l k))
        (cases_lt k l)

-- zs are the numbers that are left of ys, and the n past them were 0
record Passed (ys zs : List ℤ) (n : ℕ) : Type 0 where
  long : length ys ≡ length zs + n
  past : (k : ℕ) → length zs ≤ k → get_or ys k (pos 0) ≡ pos 0
  before : (k : ℕ) → k < length zs → get_or ys k (pos 0) ≡ get_or zs k (pos 0)

one_passed : (ys zs : List ℤ) (n : ℕ) (z : ℤ) → z ≡ pos 0 → Passed ys zs n → Passed (push ys z) zs (suc n)
one_passed ys zs n z e p = record {
  long = omega (arith, length_push ys z, p.long);
  past = λ k h. at k h;
  before = λ k l. get_or_append_left ys (z ∷ []) (pos 0) k (omega (arith, p.long)) ∙ p.before k l;
}
  where
    at : (k : ℕ) → length zs ≤ k → get_or (push ys z) k (pos 0) ≡ pos 0
    at k h =
        ⊎_elim
        (λ (l : k < length ys). get_or_append_left ys (z ∷ []) (pos 0) k l ∙ p.past k h)
        (λ (l : length ys ≤ k).
        ⊎_elim
        (λ (m : length ys < k). get_or_past (push ys z) k (pos 0) (omega (arith, length_push ys z)))
        (λ (m : k ≤ length ys). get_or_push ys z (pos 0) k (omega arith) ∙ e)
        (cases_lt (length ys) k))
        (cases_lt k (length ys))

module _ {F : Type 0} (g : Mut F (Bor ℤ × Unit {0}) Bool) (no : (p q : F) (x : Bor ℤ) → Called g p (x, tt) false q → x.now ≡ pos 0) (yes : (p q : F) (x : Bor ℤ) → Called g p (x, tt) true q → x.now ≢ pos 0) where
  passed : (xs : List (Bor ℤ)) (s t : Iter ℤ) (f h : F) → Yields iter_steps_back s xs t → FoldsTo (λ p x q. Called g p (x, tt) false q) f xs h → Passed (iter_rest s) (iter_rest t) (length xs)
  passed [] s t f h y c =
      subst (λ (i : Iter ℤ). Passed (iter_rest s) (iter_rest i) 0) y
      record { long = omega arith; past = λ k l. get_or_past (iter_rest s) k (pos 0) l; before = λ k l. refl }
  passed (x ∷ xs) s t f h y c =
      rw y.1 (one_passed (iter_rest y.0) (iter_rest t) (length xs) x.now (no f c.0 x c.1) (passed xs y.0 t c.0 h y.2 c.2))

  pub level_back : (s u : Iter ℤ) (f : F) (r : Option ℕ) → FindsPositionBack iter_steps_back g s f (length (iter_rest s)) r u → IsLevel (iter_rest s) (unwrap_or r 0)
  level_back s u f r d = go r d.0 d.2 d.1 d.3 d.4 d.5
    where
      go : (r : Option ℕ) (xs : List (Bor ℤ)) (h : F) (o : Option (Bor ℤ)) → YieldsThen iter_steps_back s xs o u → FoldsTo (λ p x q. Called g p (x, tt) false q) f xs h → MatchOption o (r ≡ None) (λ x. IsSomeAnd r (λ i. i + 1 + length xs ≡ length (iter_rest s)) × ((q : F) × Called g h (x, tt) true q)) → IsLevel (iter_rest s) (unwrap_or r 0)
      go r xs h None y c e =
          let p = passed xs s y.0 f h y.1 c in
          rw e record { past = λ j l. p.past j (omega (arith, y.2.0)); own = λ l. absurd (omega arith) }
      go None xs h (Some x) y c e = absurd e.0
      go (Some i) xs h (Some x) y c e =
          let p = passed xs s y.0 f h y.1 c in
          let n : length (iter_rest y.0) ≡ length (iter_rest u) + 1 = ap length y.2 ∙ length_push (iter_rest u) x.now in
          let l : length (iter_rest u) ≡ i = omega (arith, p.long, e.0) in
          let at : get_or (iter_rest s) i (pos 0) ≡ x.now = p.before i (omega arith) ∙ ap (λ zs. get_or zs i (pos 0)) y.2 ∙ get_or_push (iter_rest u) x.now (pos 0) i l in
          record { past = λ j m. p.past j (omega arith); own = λ m z. yes h e.1.0 x e.1.1 (sym at ∙ z) }
