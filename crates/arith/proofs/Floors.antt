-- Quotients rounded down and up: p is at most a/m rounded down exactly when p·m is at most a, and the same on the other side.
use Rattle.std.proofs.Common.{◌≡◌, ℕ, zero, suc, pred, ◌*◌, ◌/◌, ◌<◌, ◌≤◌, leb, ℤ, pos, negsuc, ◌*ℤ◌, neg_ℤ, sym, refl, ap, ◌∙◌, div-lt_iff_lt-mul, le-div_iff_mul-le, arith}
use borrow.Author.Differences.{ints}
use lib.Signed.{le_z}
use Rattle.std.specs.Int.{int_div_euclid}
use Rattle.std.proofs.lemmas.Bool.Decides.{nat_tests}
use Rattle.arith.proofs.Integers.{neg-*ℤ, neg_both}

-- two tests with the same facts are the same
same_leb : (a b c d : ℕ) → (a ≤ b → c ≤ d) → (c ≤ d → a ≤ b) → leb a b ≡ leb c d
same_leb a b c d f g = grind (arith, nat_tests)

neg_form : (x : ℕ) → 0 < x → neg_ℤ (pos x) ≡ negsuc (pred x)
neg_form zero h = absurd (omega arith)
neg_form (suc x) h = refl

pub floor_same : (p a : ℤ) (m : ℕ) → 0 < m → le_z p (int_div_euclid a (pos m)) ≡ le_z (p *ℤ pos m) a
floor_same (pos p) (pos a) m h = same_leb p (a / m) (p * m) a (le-div_iff_mul-le h).0 (le-div_iff_mul-le h).1
floor_same (pos p) (negsuc a) m h = refl
floor_same (negsuc p) (pos a) m h =
    let x : 0 < suc p * m = omega arith in
    sym (ap (λ z. le_z z (pos a)) (neg_form (suc p * m) x))
floor_same (negsuc p) (negsuc a) m h =
    let x : 0 < suc p * m = omega arith in
    same_leb (a / m) p a (pred (suc p * m))
    (λ k. let g : a / m < suc p = omega arith in omega (arith, (div-lt_iff_lt-mul {y = suc p} h).0 g))
    (λ k. let g : a < suc p * m = omega arith in omega (arith, (div-lt_iff_lt-mul {y = suc p} h).1 g))
    ∙ sym (ap (λ z. le_z z (negsuc a)) (neg_form (suc p * m) x))

neg_swap : (x y : ℤ) → le_z (neg_ℤ x) y ≡ le_z (neg_ℤ y) x
neg_swap x y = grind (arith, ints)

pub ceiling_same : (p a : ℤ) (m : ℕ) → 0 < m → le_z (neg_ℤ (int_div_euclid (neg_ℤ a) (pos m))) p ≡ le_z a (p *ℤ pos m)
ceiling_same p a m h =
    neg_swap (int_div_euclid (neg_ℤ a) (pos m)) p ∙ floor_same (neg_ℤ p) (neg_ℤ a) m h
    ∙ ap (λ z. le_z z (neg_ℤ a)) (neg-*ℤ p (pos m)) ∙ neg_both (p *ℤ pos m) a
