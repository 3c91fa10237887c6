-- Laws of whole numbers: a ring, its order under products, fractions compared by cross products.
-- `simp ring` brings both sides of an identity over variables to one sum of products.
use Rattle.std.proofs.Common.{◌≡◌, ℕ, zero, suc, ◌+◌, ◌*◌, ◌<◌, ◌≤◌, ℤ, pos, negsuc, ◌+ℤ◌, ◌-ℤ◌, ◌*ℤ◌, neg_ℤ, nat_abs, ◌≤ℤ◌, ◌<ℤ◌, sym, refl, ap, ◌∙◌, ap₂, mul_assoc, add-mul, mul-le-mul, mul-pos, mul-add, arith}
use lib.IntN.{+ℤ_assoc, +ℤ_comm, *ℤ_comm}
use lib.Signed.{le_z}
use borrow.Author.Differences.{ints, up, down, same_in, product_is, sum_is_lem, neg_is}

-- an equation of sums, times k
times : (k x y z u v w : ℕ) → x + y + z ≡ u + v + w → k * x + k * y + k * z ≡ k * u + k * v + k * w
times k x y z u v w e = sym (rw (mul-add, mul-add)) ∙ ap (λ n. k * n) e ∙ rw (mul-add, mul-add)

pub *ℤ_distrib : (a b c : ℤ) → a *ℤ (b +ℤ c) ≡ a *ℤ b +ℤ a *ℤ c
*ℤ_distrib a b c =
    let e = sum_is_lem b c in
    let p = times (up a) _ _ _ _ _ _ e in
    let q = times (down a) _ _ _ _ _ _ e in
    omega (arith, ints)

pub *ℤ_distribr : (a b c : ℤ) → (a +ℤ b) *ℤ c ≡ a *ℤ c +ℤ b *ℤ c
*ℤ_distribr a b c = *ℤ_comm (a +ℤ b) c ∙ *ℤ_distrib c a b ∙ ap₂ ◌+ℤ◌ (*ℤ_comm c a) (*ℤ_comm c b)

pub *ℤ_assoc : (a b c : ℤ) → (a *ℤ b) *ℤ c ≡ a *ℤ (b *ℤ c)
*ℤ_assoc a b c =
    same_in _ _ (rw ((product_is (a *ℤ b) c).0, (product_is (a *ℤ b) c).1, (product_is a (b *ℤ c)).0, (product_is a (b *ℤ c)).1, (product_is a b).0, (product_is a b).1, (product_is b c).0, (product_is b c).1)
    (simp (mul-add, add-mul, mul_assoc) (omega arith)))

pub +ℤ_left_comm : (a b c : ℤ) → a +ℤ (b +ℤ c) ≡ b +ℤ (a +ℤ c)
+ℤ_left_comm a b c = omega (arith, ints)

pub *ℤ_left_comm : (a b c : ℤ) → a *ℤ (b *ℤ c) ≡ b *ℤ (a *ℤ c)
*ℤ_left_comm a b c = sym (*ℤ_assoc a b c) ∙ ap (λ z. z *ℤ c) (*ℤ_comm a b) ∙ *ℤ_assoc b a c

pub neg-*ℤ : (a b : ℤ) → neg_ℤ a *ℤ b ≡ neg_ℤ (a *ℤ b)
neg-*ℤ a b = same_in _ _ (rw ((neg_is (a *ℤ b)).0, (neg_is (a *ℤ b)).1, (product_is (neg_ℤ a) b).0, (product_is (neg_ℤ a) b).1, (neg_is a).0, (neg_is a).1, (product_is a b).0, (product_is a b).1) (omega arith))

pub *ℤ_neg : (a b : ℤ) → a *ℤ neg_ℤ b ≡ neg_ℤ (a *ℤ b)
*ℤ_neg a b = *ℤ_comm a (neg_ℤ b) ∙ neg-*ℤ b a ∙ ap neg_ℤ (*ℤ_comm b a)

pub zero_times : (m : ℕ) → pos 0 *ℤ pos m ≡ pos 0
zero_times m = omega (arith, ints)

pub neg-+ℤ : (a b : ℤ) → neg_ℤ (a +ℤ b) ≡ neg_ℤ a +ℤ neg_ℤ b
neg-+ℤ a b = omega (arith, ints)

pub ruleset ring = (*ℤ_distrib, *ℤ_distribr, *ℤ_assoc, *ℤ_comm, *ℤ_left_comm, +ℤ_assoc, +ℤ_comm, +ℤ_left_comm, neg-*ℤ, *ℤ_neg, neg-+ℤ)

-- magnitudes
pub abs_neg : (n : ℕ) → nat_abs (neg_ℤ (pos n)) ≡ n
abs_neg zero = refl
abs_neg (suc n) = refl

pub abs_product : (a b : ℤ) → nat_abs (a *ℤ b) ≡ nat_abs a * nat_abs b
abs_product (pos a) (pos b) = refl
abs_product (pos a) (negsuc b) = abs_neg (a * suc b)
abs_product (negsuc a) (pos b) = abs_neg (suc a * b)
abs_product (negsuc a) (negsuc b) = refl

pub product_within : (a b : ℤ) (m n : ℕ) → nat_abs a ≤ m → nat_abs b ≤ n → nat_abs (a *ℤ b) ≤ m * n
product_within a b m n h k = rw (abs_product a b) (mul-le-mul h k)

pub sum_within : (a b : ℤ) (m n : ℕ) → nat_abs a ≤ m → nat_abs b ≤ n → nat_abs (a +ℤ b) ≤ m + n
sum_within a b m n h k = omega (arith, ints)

-- negation turns an order round
pub neg_both : (x y : ℤ) → le_z (neg_ℤ x) (neg_ℤ y) ≡ le_z y x
neg_both x y = grind (arith, ints)

-- order under products
pub mul_nonneg : (a b : ℤ) → pos 0 ≤ℤ a → pos 0 ≤ℤ b → pos 0 ≤ℤ (a *ℤ b)
mul_nonneg (pos a) (pos b) h k = omega (arith, ints)
mul_nonneg (pos a) (negsuc b) h k = absurd (omega (arith, ints))
mul_nonneg (negsuc a) b h k = absurd (omega (arith, ints))

pub mul_pos_ℤ : (a b : ℤ) → pos 0 <ℤ a → pos 0 <ℤ b → pos 0 <ℤ (a *ℤ b)
mul_pos_ℤ (pos a) (pos b) h k = let p : 0 < a = omega (arith, ints) in let q : 0 < b = omega (arith, ints) in omega (arith, ints, mul-pos p q)
mul_pos_ℤ (pos a) (negsuc b) h k = absurd (omega (arith, ints))
mul_pos_ℤ (negsuc a) b h k = absurd (omega (arith, ints))

pub combine_nonneg : (u v x y : ℤ) → pos 0 ≤ℤ u → pos 0 ≤ℤ v → pos 0 ≤ℤ x → pos 0 ≤ℤ y → pos 0 ≤ℤ (u *ℤ x +ℤ v *ℤ y)
combine_nonneg u v x y hu hv hx hy =
    let p = mul_nonneg u x hu hx in
    let q = mul_nonneg v y hv hy in
    sum (u *ℤ x) (v *ℤ y) p q
  where
    sum : (a b : ℤ) → pos 0 ≤ℤ a → pos 0 ≤ℤ b → pos 0 ≤ℤ (a +ℤ b)
    sum a b p q = omega (arith, ints)

-- a product with a positive factor has the other's sign
pub sign_of_product : (d z : ℤ) → pos 0 <ℤ d → pos 0 ≤ℤ (d *ℤ z) → pos 0 ≤ℤ z
sign_of_product (pos zero) z h k = absurd (omega (arith, ints))
sign_of_product (pos (suc d)) (pos z) h k = omega (arith, ints)
sign_of_product (pos (suc d)) (negsuc z) h k = absurd (omega (arith, ints, mul-pos {m = suc d} {n = suc z} (omega arith) (omega arith)))
sign_of_product (negsuc d) z h k = absurd (omega (arith, ints))

pub from_positive_product : (n : ℕ) (z : ℤ) → pos 1 ≤ℤ (pos n *ℤ z) → pos 1 ≤ℤ z
from_positive_product n (pos zero) h = absurd (omega (arith, ints))
from_positive_product n (pos (suc z)) h = omega (arith, ints)
from_positive_product n (negsuc z) h = absurd (omega (arith, ints))

-- order times a factor
pub mul_mono : (d a b : ℤ) → pos 0 ≤ℤ d → a ≤ℤ b → (d *ℤ a) ≤ℤ (d *ℤ b)
mul_mono d a b h k =
    let n = mul_nonneg d (b -ℤ a) h (omega (arith, ints)) in
    let e : d *ℤ (b -ℤ a) ≡ d *ℤ b -ℤ d *ℤ a = simp ring in
    at (d *ℤ a) (d *ℤ b) _ n e
  where
    at : (x y z : ℤ) → pos 0 ≤ℤ z → z ≡ y -ℤ x → x ≤ℤ y
    at x y z p e = omega (arith, ints)

pub mul_cancel_le : (d a b : ℤ) → pos 0 <ℤ d → (d *ℤ a) ≤ℤ (d *ℤ b) → a ≤ℤ b
mul_cancel_le d a b h k =
    let e : d *ℤ (b -ℤ a) ≡ d *ℤ b -ℤ d *ℤ a = simp ring in
    back a b (sign_of_product d (b -ℤ a) h (at (d *ℤ a) (d *ℤ b) _ k e))
  where
    at : (x y z : ℤ) → x ≤ℤ y → z ≡ y -ℤ x → pos 0 ≤ℤ z
    at x y z p e = omega (arith, ints)

    back : (x y : ℤ) → pos 0 ≤ℤ (y -ℤ x) → x ≤ℤ y
    back x y p = omega (arith, ints)

-- fractions by cross products: p/q ≤ r/s and r/s ≤ t/w give p/q ≤ t/w
pub cross_trans : (p q r s t w : ℤ) → pos 0 <ℤ q → pos 0 <ℤ s → pos 0 <ℤ w → (p *ℤ s) ≤ℤ (r *ℤ q) → (r *ℤ w) ≤ℤ (t *ℤ s) → (p *ℤ w) ≤ℤ (t *ℤ q)
cross_trans p q r s t w hq hs hw h k =
    mul_cancel_le s (p *ℤ w) (t *ℤ q) hs
    (let a : (w *ℤ (p *ℤ s)) ≤ℤ (w *ℤ (r *ℤ q)) = mul_mono w _ _ (weak w hw) h in
    let b : (q *ℤ (r *ℤ w)) ≤ℤ (q *ℤ (t *ℤ s)) = mul_mono q _ _ (weak q hq) k in
    chain _ _ _ _ _ _ a b (simp ring) (simp ring) (simp ring))
  where
    weak : (z : ℤ) → pos 0 <ℤ z → pos 0 ≤ℤ z
    weak z h = omega (arith, ints)

    chain : (x y y' z x' z' : ℤ) → x ≤ℤ y → y' ≤ℤ z → y ≡ y' → x' ≡ x → z ≡ z' → x' ≤ℤ z'
    chain x y y' z x' z' a b e f g = omega (arith, ints)
