-- Parts that are joined: how long they are, where each stands, and what they are if each is what stands there.
use Rattle.std.proofs.Common.{◌≡◌, ℕ, zero, suc, ◌+◌, ◌*◌, ◌<◌, List, [], ◌∷◌, ◌++◌, length, get_or, take, drop, sym, refl, ap, ◌∙◌, mul-zero, arith, take-add}
use Rattle.std.specs.List.{range_with_len, flat_map, AllByRecursion}
use Rattle.std.proofs.ByRecursion.{All-append}
use Rattle.std.proofs.lemmas.List.{drop_at, drop-drop, length-append, take_at}
use Rattle.rows.specs.Bytes.{AllBytes}

-- each of k elements
module _ {X A : Type 0} (f : X → List A) (k : ℕ) where
  pub length_joined : (xs : List X) → AllByRecursion (λ x. length (f x) ≡ k) xs → length (flat_map f xs) ≡ k * length xs
  length_joined [] h = omega arith
  length_joined (x ∷ xs) h =
      let here : length (f x) ≡ k = h.0 in
      let there = length_joined xs h.1 in
      length-append (f x) (flat_map f xs) ∙ omega arith

  pub joined_at : (xs : List X) (b : ℕ) (d : X) → AllByRecursion (λ x. length (f x) ≡ k) xs → b < length xs → take k (drop (k * b) (flat_map f xs)) ≡ f (get_or xs b d)
  joined_at [] b d h l = absurd (omega arith)
  joined_at (x ∷ xs) zero d h l = rw mul-zero (take_at (f x) (flat_map f xs) k h.0)
  joined_at (x ∷ xs) (suc b) d h l =
      let m : k * suc b ≡ k + k * b = omega arith in
      let e : drop (k + k * b) (f x ++ flat_map f xs) ≡ drop (k * b) (flat_map f xs) =
      sym (drop-drop (k * b) k (f x ++ flat_map f xs)) ∙ ap (drop (k * b)) (drop_at (f x) (flat_map f xs) k h.0) in
      rw (m, e) (joined_at xs b d h.1 (omega arith))

  pub joined_back : (xs : List X) (ys : List A) (d : X) → ((i : ℕ) → i < length xs → f (get_or xs i d) ≡ take k (drop (k * i) ys)) → flat_map f xs ≡ take (k * length xs) ys
  joined_back [] ys d h = rw mul-zero
  joined_back (x ∷ xs) ys d h =
      let m : (n : ℕ) → k * suc n ≡ k + k * n = λ n. omega arith in
      let here : f x ≡ take k ys = rw mul-zero at (h 0 (omega arith)) in
      let there : flat_map f xs ≡ take (k * length xs) (drop k ys) =
      joined_back xs (drop k ys) d (λ i l. rw (drop-drop, ← m i) (h (suc i) (omega arith))) in
      rw (here, there, m (length xs)) (sym (take-add k (k * length xs) ys))

-- functions that agree on the numbers counted
pub joined_same : {A : Type 0} (f g : ℕ → List A) (a n : ℕ) → ((b : ℕ) → b < a + n → f b ≡ g b) → flat_map f (range_with_len a n) ≡ flat_map g (range_with_len a n)
joined_same f g a zero h = refl
joined_same f g a (suc n) h =
    ap (λ xs. xs ++ flat_map f (range_with_len (a + 1) n)) (h a (omega arith))
    ∙ ap (λ xs. g a ++ xs) (joined_same f g (a + 1) n (λ b l. h b (omega arith)))

-- each of bytes
pub all_joined : {X : Type 0} (f : X → List ℕ) (xs : List X) → AllByRecursion (λ x. AllBytes (f x)) xs → AllBytes (flat_map f xs)
all_joined f [] h = tt
all_joined f (x ∷ xs) h = All-append _ (f x) (flat_map f xs) h.0 (all_joined f xs h.1)
