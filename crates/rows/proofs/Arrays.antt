-- What an array's `map` and `from_fn` ask and make, where each call leaves the closure as it is.
--   Said of a list's elements and of indices: the library's facts on the two are of different shapes.
use Rattle.std.proofs.Common.{◌≡◌, ℕ, zero, suc, ◌+◌, ◌<◌, ◌≤◌, List, [], ◌∷◌, length, map, get_or, ℤ, pos, Some, sym, ap, ◌∙◌, subst, nat_abs, ⊎_elim, zero-le, arith}
use lib.ListN.{length-map}
use denote.Param.Members.{Mut, Called}
use Rattle.std.specs.Array.{IsMapOf, MapsFrom, list_steps, IsFromFnResult, IsFromFnResultFrom}
use Rattle.std.specs.Iterator.{CallableAtEachTurn, Yields}
use Rattle.std.specs.List.{FoldsTo}
use Rattle.std.proofs.lemmas.List.{ext_get_or, get_or-map, get_or_past}
use Rattle.std.proofs.lemmas.Bool.{cases_lt}
use Rattle.arith.specs.Lowest.{AllWithin}

-- it may be called at every element, if it may be at first
module _ {F : Type 0} (R : F → ℤ → F → Type 0) (Q : F → ℤ → Type 0) (stays : (p : F) (x : ℤ) (q : F) → R p x q → q ≡ p) where
  at_turn : (xs s t : List ℤ) (f p : F) (x : ℤ) (u : List ℤ) → ((k : ℕ) → Q f (get_or s k (pos 0))) → Yields list_steps s xs t → FoldsTo R f xs p → list_steps t (Some x) u → Q p x
  at_turn [] s t f p x u h y c z =
      subst (λ (g : F). Q g x) c (subst (Q f) (ap (λ (l : List ℤ). get_or l 0 (pos 0)) (y ∙ z)) (h 0))
  at_turn (w ∷ xs) s t f p x u h y c z =
      at_turn xs y.0 t c.0 p x u
      (λ k. subst (λ (g : F). Q g (get_or y.0 k (pos 0))) (sym (stays f w c.0 c.1)) (subst (λ (l : List ℤ). Q f (get_or l (suc k) (pos 0))) y.1 (h (suc k))))
      y.2 c.2 z

  pub map_serves : (zs : List ℤ) (f : F) → ((k : ℕ) → Q f (get_or zs k (pos 0))) → CallableAtEachTurn list_steps R Q zs f
  map_serves zs f h = record { at = λ xs t q x u y c z. at_turn xs zs t f q x u h y c z }

-- its results are those of h
module _ {F : Type 0} (g : Mut F (ℤ × Unit {0}) ℤ) (f : F) (stays : (p q : F) (x y : ℤ) → Called g p (x, tt) y q → q ≡ p) where
  called_at : (xs ys : List ℤ) (n i k : ℕ) → MapsFrom g f xs ys i n → i ≤ k → k < i + n → (q : F) × Called g f (get_or xs k (pos 0), tt) (get_or ys k (pos 0)) q
  called_at xs ys zero i k m h l = absurd (omega arith)
  called_at xs ys (suc n) i k m h l =
      ⊎_elim
      (λ (b : i < k). called_at xs ys n (i + 1) k (subst (λ (p : F). MapsFrom g p xs ys (i + 1) n) (stays f m.0 m.1 m.2 m.5) m.6) (omega arith) (omega arith))
      (λ (b : k ≤ i).
      let e : i ≡ k = omega arith in
      let x : m.1 ≡ get_or xs k (pos 0) = sym (m.3.1 (pos 0)) ∙ ap (λ j. get_or xs j (pos 0)) e in
      let y : m.2 ≡ get_or ys k (pos 0) = sym (m.4.1 (pos 0)) ∙ ap (λ j. get_or ys j (pos 0)) e in
      (m.0, subst (λ (z : ℤ). Called g f (z, tt) (get_or ys k (pos 0)) m.0) x (subst (λ (z : ℤ). Called g f (m.1, tt) z m.0) y m.5)))
      (cases_lt i k)

  pub map_is : (h : ℤ → ℤ) (xs ys : List ℤ) (n : ℕ) → length xs ≡ n → IsMapOf g f xs ys n → ((i : ℕ) (y : ℤ) (q : F) → i < n → Called g f (get_or xs i (pos 0), tt) y q → y ≡ h (get_or xs i (pos 0))) → ys ≡ map h xs
  map_is h xs ys n l m each = ext_get_or (pos 0) ys (map h xs) (m.long ∙ sym l ∙ sym (length-map xs h)) (λ i k. at i (omega (arith, m.long)))
    where
      at : (i : ℕ) → i < n → get_or ys i (pos 0) ≡ get_or (map h xs) i (pos 0)
      at i k =
          let t = called_at xs ys n 0 i m.each (omega arith) (omega arith) in
          each i (get_or ys i (pos 0)) t.0 k t.1 ∙ sym (get_or-map h xs i (pos 0) (pos 0) (omega arith))

module _ {F : Type 0} (g : Mut F (ℕ × Unit {0}) ℤ) (f : F) (stays : (p q : F) (i : ℕ) (y : ℤ) → Called g p (i, tt) y q → q ≡ p) where
  called_below : (ys : List ℤ) (n i k : ℕ) → IsFromFnResultFrom g f ys i n → i ≤ k → k < i + n → (q : F) × Called g f (k, tt) (get_or ys k (pos 0)) q
  called_below ys zero i k m h l = absurd (omega arith)
  called_below ys (suc n) i k m h l =
      ⊎_elim
      (λ (b : i < k). called_below ys n (i + 1) k (subst (λ (p : F). IsFromFnResultFrom g p ys (i + 1) n) (stays f m.0 i m.1 m.3) m.4) (omega arith) (omega arith))
      (λ (b : k ≤ i).
      let e : i ≡ k = omega arith in
      let y : m.1 ≡ get_or ys k (pos 0) = sym (m.2.1 (pos 0)) ∙ ap (λ j. get_or ys j (pos 0)) e in
      (m.0, subst (λ (j : ℕ). Called g f (j, tt) (get_or ys k (pos 0)) m.0) e (subst (λ (z : ℤ). Called g f (i, tt) z m.0) y m.3)))
      (cases_lt i k)

  pub fill_is : (zs ys : List ℤ) (n : ℕ) → length zs ≡ n → IsFromFnResult g f ys n → ((i : ℕ) (y : ℤ) (q : F) → i < n → Called g f (i, tt) y q → y ≡ get_or zs i (pos 0)) → ys ≡ zs
  fill_is zs ys n l m each = ext_get_or (pos 0) ys zs (m.long ∙ sym l) (λ i k. at i (omega (arith, m.long)))
    where
      at : (i : ℕ) → i < n → get_or ys i (pos 0) ≡ get_or zs i (pos 0)
      at i k =
          let t = called_below ys n 0 i m.each (omega arith) (omega arith) in
          each i (get_or ys i (pos 0)) t.0 k t.1

  pub fill_within : (m : ℕ) (ys : List ℤ) (n : ℕ) → IsFromFnResult g f ys n → ((i : ℕ) (y : ℤ) (q : F) → i < n → Called g f (i, tt) y q → nat_abs y ≤ m) → AllWithin m ys
  fill_within m ys n r each k =
      ⊎_elim
      (λ (l : k < n). let t = called_below ys n 0 k r.each (omega arith) (omega arith) in each k (get_or ys k (pos 0)) t.0 l t.1)
      (λ (l : n ≤ k). rw (get_or_past ys k (pos 0) (omega (arith, r.long))) zero-le)
      (cases_lt k n)
