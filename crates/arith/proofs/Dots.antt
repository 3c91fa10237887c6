-- The sum of products is linear in each of its lists; combinations place by place.
use Rattle.std.proofs.Common.{◌≡◌, ℕ, zero, suc, ◌+◌, ◌<◌, List, [], ◌∷◌, length, get_or, take, ℤ, pos, ◌+ℤ◌, ◌*ℤ◌, ◌≤ℤ◌, sym, refl, ap, ◌∙◌, ap₂, add-one, arith}
use lib.IntN.{*ℤ-zero, *ℤ_comm, +ℤ_idl, +ℤ_idr, +ℤ_assoc}
use borrow.Author.Differences.{ints}
use Rattle.arith.specs.Dot.{dot, combine, plus, scaled}
use Rattle.arith.proofs.Integers.{ring, *ℤ_assoc, *ℤ_distrib, combine_nonneg}

-- identities of the ring, stated over variables: simp sorts those alike
regroup : (u a v b x p q : ℤ) → (u *ℤ a +ℤ v *ℤ b) *ℤ x +ℤ (u *ℤ p +ℤ v *ℤ q) ≡ u *ℤ (a *ℤ x +ℤ p) +ℤ v *ℤ (b *ℤ x +ℤ q)
regroup u a v b x p q = simp ring

collect : (a b x p q : ℤ) → (a +ℤ b) *ℤ x +ℤ (p +ℤ q) ≡ (a *ℤ x +ℤ p) +ℤ (b *ℤ x +ℤ q)
collect a b x p q = simp ring

pub dot-combine : (u : ℤ) (xs : List ℤ) (v : ℤ) (ys ps : List ℤ) → length xs ≡ length ys → dot (combine u xs v ys) ps ≡ u *ℤ dot xs ps +ℤ v *ℤ dot ys ps
unfolding dot combine
dot-combine u [] v [] ps e = sym (ap₂ ◌+ℤ◌ (*ℤ-zero u) (*ℤ-zero v))
dot-combine u [] v (y ∷ ys) ps e = absurd (omega arith)
dot-combine u (x ∷ xs) v [] ps e = absurd (omega arith)
dot-combine u (x ∷ xs) v (y ∷ ys) [] e = sym (ap₂ ◌+ℤ◌ (*ℤ-zero u) (*ℤ-zero v))
dot-combine u (x ∷ xs) v (y ∷ ys) (p ∷ ps) e =
    ap (λ z. (u *ℤ x +ℤ v *ℤ y) *ℤ p +ℤ z) (dot-combine u xs v ys ps (omega arith)) ∙ regroup u x v y p (dot xs ps) (dot ys ps)

-- where both sums are at least 0, so is that of the combination
pub dot-combine_nonneg : (u v : ℕ) (xs ys ps : List ℤ) → length xs ≡ length ys → pos 0 ≤ℤ dot xs ps → pos 0 ≤ℤ dot ys ps → pos 0 ≤ℤ dot (combine (pos u) xs (pos v) ys) ps
dot-combine_nonneg u v xs ys ps e h k =
    rw (dot-combine (pos u) xs (pos v) ys ps e) (combine_nonneg (pos u) (pos v) (dot xs ps) (dot ys ps) (omega (arith, ints)) (omega (arith, ints)) h k)

pub dot-plus : (xs ys ps : List ℤ) → length xs ≡ length ys → dot (plus xs ys) ps ≡ dot xs ps +ℤ dot ys ps
unfolding dot plus
dot-plus [] [] ps e = refl
dot-plus [] (y ∷ ys) ps e = absurd (omega arith)
dot-plus (x ∷ xs) [] ps e = absurd (omega arith)
dot-plus (x ∷ xs) (y ∷ ys) [] e = refl
dot-plus (x ∷ xs) (y ∷ ys) (p ∷ ps) e =
    ap (λ z. (x +ℤ y) *ℤ p +ℤ z) (dot-plus xs ys ps (omega arith)) ∙ collect x y p (dot xs ps) (dot ys ps)

pub dot-scaled : (c : ℤ) (xs ps : List ℤ) → dot (scaled c xs) ps ≡ c *ℤ dot xs ps
unfolding dot
dot-scaled c [] ps = sym (*ℤ-zero c)
dot-scaled c (x ∷ xs) [] = sym (*ℤ-zero c)
dot-scaled c (x ∷ xs) (p ∷ ps) = ap₂ ◌+ℤ◌ (*ℤ_assoc c x p) (dot-scaled c xs ps) ∙ sym (*ℤ_distrib c (x *ℤ p) (dot xs ps))

pub dot_comm : (xs ys : List ℤ) → dot xs ys ≡ dot ys xs
unfolding dot
dot_comm [] [] = refl
dot_comm [] (y ∷ ys) = refl
dot_comm (x ∷ xs) [] = refl
dot_comm (x ∷ xs) (y ∷ ys) = ap₂ ◌+ℤ◌ (*ℤ_comm x y) (dot_comm xs ys)

-- one place more
pub dot_more : (xs ys : List ℤ) (i : ℕ) → i < length xs → i < length ys → dot (take (i + 1) xs) (take (i + 1) ys) ≡ dot (take i xs) (take i ys) +ℤ get_or xs i (pos 0) *ℤ get_or ys i (pos 0)
unfolding dot
dot_more xs ys i h k = rw add-one (go xs ys i h k)
  where
    go : (xs ys : List ℤ) (i : ℕ) → i < length xs → i < length ys → dot (take (suc i) xs) (take (suc i) ys) ≡ dot (take i xs) (take i ys) +ℤ get_or xs i (pos 0) *ℤ get_or ys i (pos 0)
    go [] ys i h k = absurd (omega arith)
    go (x ∷ xs) [] i h k = absurd (omega arith)
    go (x ∷ xs) (y ∷ ys) zero h k = +ℤ_idr (x *ℤ y) ∙ sym (+ℤ_idl (x *ℤ y))
    go (x ∷ xs) (y ∷ ys) (suc i) h k =
        ap (λ z. x *ℤ y +ℤ z) (go xs ys i (omega arith) (omega arith))
        ∙ sym (+ℤ_assoc (x *ℤ y) (dot (take i xs) (take i ys)) (get_or xs i (pos 0) *ℤ get_or ys i (pos 0)))

pub length-combine : (u : ℤ) (xs : List ℤ) (v : ℤ) (ys : List ℤ) → length xs ≡ length ys → length (combine u xs v ys) ≡ length xs
unfolding combine
length-combine u [] v [] e = refl
length-combine u [] v (y ∷ ys) e = absurd (omega arith)
length-combine u (x ∷ xs) v [] e = absurd (omega arith)
length-combine u (x ∷ xs) v (y ∷ ys) e = ap suc (length-combine u xs v ys (omega arith))

pub slice_index_or-combine : (u : ℤ) (xs : List ℤ) (v : ℤ) (ys : List ℤ) (i : ℕ) → i < length xs → i < length ys → get_or (combine u xs v ys) i (pos 0) ≡ u *ℤ get_or xs i (pos 0) +ℤ v *ℤ get_or ys i (pos 0)
unfolding combine
slice_index_or-combine u [] v ys i h k = absurd (omega arith)
slice_index_or-combine u (x ∷ xs) v [] i h k = absurd (omega arith)
slice_index_or-combine u (x ∷ xs) v (y ∷ ys) zero h k = refl
slice_index_or-combine u (x ∷ xs) v (y ∷ ys) (suc i) h k = slice_index_or-combine u xs v ys i (omega arith) (omega arith)
