-- Laws of the greatest common divisor of a list, of limits on magnitudes, and of the lowest form.
use Rattle.std.proofs.Common.{◌≡◌, ℕ, zero, suc, ◌*◌, ◌/◌, ◌≤◌, true, leb, ◌⊎◌, List, [], ◌∷◌, map, length, get_or, ℤ, pos, negsuc, ◌*ℤ◌, neg_ℤ, nat_abs, ◌≤ℤ◌, sym, refl, ap, ◌∙◌, subst, ap₂, inl, inr, zero-le, le_trans, mul-zero, mul-one, div-le_self, arith}
use Prim.Native.Nat.{◌∣◌}
use native.Mathlib.Nat.{dvd_refl, dvd-zero, dvd_trans, mul-dvd-mul_left, dvd_of_mul-dvd-mul_left, mul-div_cancel', eq-one_of_dvd-one, eq-zero_of_zero-dvd, le_of_dvd, zero-div}
use borrow.Author.Differences.{ints}
use lib.IntN.{*ℤ-zero}
use lib.ListN.{length-map}
use Rattle.std.proofs.Math.ListN.{get_or-map}
use lib.Signed.{quot_z}
use Rattle.std.proofs.lemmas.Bool.{leb-true, and_parts}
use Rattle.arith.specs.Gcd.{gcd_of}
use Rattle.arith.specs.Dot.{dot, scaled}
use Rattle.arith.specs.Lowest.{AllWithin, within_all, gcd_from, gcd_all, divided, lowest_of, IsLowest}
use Rattle.arith.proofs.Divisors.{gcd_is, gcd_within}
use Rattle.arith.proofs.Integers.{abs_neg, sign_of_product, from_positive_product}
use Rattle.arith.proofs.Dots.{dot-scaled}

-- the greatest common divisor of a list divides each of its numbers, and every common divisor divides it
pub from_divides_start : (g : ℕ) (zs : List ℤ) → gcd_from g zs ∣ g
from_divides_start g [] = dvd_refl g
from_divides_start g (z ∷ zs) = dvd_trans _ (from_divides_start (gcd_of g (nat_abs z)) zs) (gcd_is g (nat_abs z)).left

pub from_divides : (g : ℕ) (zs : List ℤ) (k : ℕ) → gcd_from g zs ∣ nat_abs (get_or zs k (pos 0))
from_divides g [] k = dvd-zero g
from_divides g (z ∷ zs) zero = dvd_trans _ (from_divides_start (gcd_of g (nat_abs z)) zs) (gcd_is g (nat_abs z)).right
from_divides g (z ∷ zs) (suc k) = from_divides (gcd_of g (nat_abs z)) zs k

pub from_greatest : (g : ℕ) (zs : List ℤ) (d : ℕ) → d ∣ g → ((k : ℕ) → d ∣ nat_abs (get_or zs k (pos 0))) → d ∣ gcd_from g zs
from_greatest g [] d h a = h
from_greatest g (z ∷ zs) d h a = from_greatest (gcd_of g (nat_abs z)) zs d ((gcd_is g (nat_abs z)).greatest d h (a zero)) (λ k. a (suc k))

pub from_within : (g m : ℕ) (zs : List ℤ) → g ≤ m → AllWithin m zs → gcd_from g zs ≤ m
from_within g m [] h a = h
from_within g m (z ∷ zs) h a = from_within (gcd_of g (nat_abs z)) m zs (gcd_within g (nat_abs z) m h (a zero)) (λ k. a (suc k))

-- limits: the test and what it says
pub within_is : (m : ℕ) (zs : List ℤ) → within_all m zs ≡ true → AllWithin m zs
within_is m [] e k = zero-le
within_is m (z ∷ zs) e zero = leb-true (nat_abs z) m (and_parts _ _ e).0
within_is m (z ∷ zs) e (suc k) = within_is m zs (and_parts (leb (nat_abs z) m) _ e).1 k

-- a number divided by a divisor of its magnitude, and times it again
pub abs_quot : (z : ℤ) (g : ℕ) → nat_abs (quot_z z (pos g)) ≡ nat_abs z / g
abs_quot (pos n) g = refl
abs_quot (negsuc n) g = abs_neg (suc n / g)

times_neg : (g n : ℕ) → pos g *ℤ neg_ℤ (pos n) ≡ neg_ℤ (pos (g * n))
times_neg g zero = *ℤ-zero (pos g) ∙ ap (λ k. neg_ℤ (pos k)) (sym (mul-zero g))
times_neg g (suc n) = refl

pub times_quot : (z : ℤ) (g : ℕ) → g ∣ nat_abs z → pos g *ℤ quot_z z (pos g) ≡ z
times_quot (pos n) g h = ap pos (mul-div_cancel' g h)
times_quot (negsuc n) g h = times_neg g (suc n / g) ∙ ap (λ k. neg_ℤ (pos k)) (mul-div_cancel' g h)

zero_magnitude : (z : ℤ) → 0 ∣ nat_abs z → z ≡ pos 0
zero_magnitude (pos n) h = ap pos (eq-zero_of_zero-dvd h)
zero_magnitude (negsuc n) h = absurd (omega (arith, eq-zero_of_zero-dvd h))

times_zero : (z : ℤ) → 0 ∣ nat_abs z → pos 0 *ℤ z ≡ z
times_zero z h = let e = zero_magnitude z h in ap (λ x. pos 0 *ℤ x) e ∙ sym e

quot_zero : (g : ℕ) → quot_z (pos 0) (pos g) ≡ pos 0
quot_zero g = ap pos (zero-div g)

-- a place of a mapped list, also past its end
pub at_map : (f : ℤ → ℤ) → f (pos 0) ≡ pos 0 → (zs : List ℤ) (k : ℕ) → get_or (map f zs) k (pos 0) ≡ f (get_or zs k (pos 0))
at_map f e zs k = ap (get_or (map f zs) k) (sym e) ∙ get_or-map f zs k (pos 0)

map_same : (f : ℤ → ℤ) (zs : List ℤ) → ((k : ℕ) → f (get_or zs k (pos 0)) ≡ get_or zs k (pos 0)) → map f zs ≡ zs
map_same f [] h = refl
map_same f (z ∷ zs) h = ap₂ ◌∷◌ (h zero) (map_same f zs (λ k. h (suc k)))

map_back : (f q : ℤ → ℤ) (zs : List ℤ) → ((k : ℕ) → f (q (get_or zs k (pos 0))) ≡ get_or zs k (pos 0)) → map f (map q zs) ≡ zs
map_back f q [] h = refl
map_back f q (z ∷ zs) h = ap₂ ◌∷◌ (h zero) (map_back f q zs (λ k. h (suc k)))

-- times the divisor, the lowest form is the numbers again
pub lowest_back : (zs : List ℤ) → scaled (pos (gcd_all zs)) (lowest_of zs) ≡ zs
unfolding lowest_of divided
lowest_back zs = go (gcd_all zs) (from_divides 0 zs)
  where
    go : (g : ℕ) → ((k : ℕ) → g ∣ nat_abs (get_or zs k (pos 0))) → scaled (pos g) (divided g zs) ≡ zs
    go zero d = map_same (λ z. pos 0 *ℤ z) zs (λ k. times_zero (get_or zs k (pos 0)) (d k))
    go (suc g) d = map_back (λ z. pos (suc g) *ℤ z) (λ z. quot_z z (pos (suc g))) zs (λ k. times_quot (get_or zs k (pos 0)) (suc g) (d k))

-- what is positive stays so, at each place and in a sum of products
pub lowest_positive : (zs : List ℤ) (k : ℕ) → pos 1 ≤ℤ get_or zs k (pos 0) → pos 1 ≤ℤ get_or (lowest_of zs) k (pos 0)
lowest_positive zs k h =
    from_positive_product (gcd_all zs) (get_or (lowest_of zs) k (pos 0))
    (rw (sym (at_map (λ z. pos (gcd_all zs) *ℤ z) (*ℤ-zero (pos (gcd_all zs))) (lowest_of zs) k), lowest_back zs) h)

pub dot_lowest_nonneg : (zs ps : List ℤ) → pos 0 ≤ℤ dot zs ps → pos 0 ≤ℤ dot (lowest_of zs) ps
unfolding lowest_of divided
dot_lowest_nonneg zs ps h = go (gcd_all zs) refl
  where
    go : (g : ℕ) → gcd_all zs ≡ g → pos 0 ≤ℤ dot (divided g zs) ps
    go zero e = h
    go (suc g) e =
        let b : scaled (pos (suc g)) (divided (suc g) zs) ≡ zs = subst (λ (n : ℕ). scaled (pos n) (divided n zs) ≡ zs) e (lowest_back zs) in
        sign_of_product (pos (suc g)) (dot (divided (suc g) zs) ps) (omega (arith, ints))
        (subst (λ (z : ℤ). pos 0 ≤ℤ z) (ap (λ xs. dot xs ps) (sym b) ∙ dot-scaled (pos (suc g)) (divided (suc g) zs) ps) h)

-- what is divided by the greatest common divisor has no common divisor above 1
divided_once : (g : ℕ) (zs : List ℤ) → gcd_all zs ≡ suc g → gcd_all (map (λ z. quot_z z (pos (suc g))) zs) ≡ 1
divided_once g zs e =
    let h = gcd_all (map (λ z. quot_z z (pos (suc g))) zs) in
    let d : (k : ℕ) → suc g ∣ nat_abs (get_or zs k (pos 0)) = λ k. subst (λ (x : ℕ). x ∣ nat_abs (get_or zs k (pos 0))) e (from_divides 0 zs k) in
    let a : (k : ℕ) → suc g * h ∣ nat_abs (get_or zs k (pos 0)) = λ k.
    let q : h ∣ nat_abs (get_or zs k (pos 0)) / suc g =
    subst (λ (x : ℕ). h ∣ x) (ap nat_abs (at_map (λ z. quot_z z (pos (suc g))) (quot_zero (suc g)) zs k) ∙ abs_quot (get_or zs k (pos 0)) (suc g)) (from_divides 0 (map (λ z. quot_z z (pos (suc g))) zs) k) in
    subst (λ (x : ℕ). suc g * h ∣ x) (mul-div_cancel' (suc g) (d k)) (mul-dvd-mul_left h (suc g) q) in
    let w : suc g * h ∣ suc g * 1 = subst (λ (x : ℕ). suc g * h ∣ x) (e ∙ sym (mul-one (suc g))) (from_greatest 0 zs (suc g * h) (dvd-zero _) a) in
    eq-one_of_dvd-one (dvd_of_mul-dvd-mul_left {k = suc g} h (omega arith) w)

pub lowest_is_lowest : (zs : List ℤ) → gcd_all (lowest_of zs) ≤ 1
unfolding lowest_of divided
lowest_is_lowest zs = go (gcd_all zs) refl
  where
    go : (g : ℕ) → gcd_all zs ≡ g → gcd_all (divided g zs) ≤ 1
    go zero e = omega arith
    go (suc g) e = omega (arith, divided_once g zs e)

pub length_lowest : (zs : List ℤ) → length (lowest_of zs) ≡ length zs
unfolding lowest_of divided
length_lowest zs = go (gcd_all zs)
  where
    go : (g : ℕ) → length (divided g zs) ≡ length zs
    go zero = refl
    go (suc g) = length-map zs (λ z. quot_z z (pos (suc g)))

-- numbers within a limit stay so
pub lowest_within : (m : ℕ) (zs : List ℤ) → AllWithin m zs → AllWithin m (lowest_of zs)
unfolding lowest_of divided
lowest_within m zs a = go (gcd_all zs)
  where
    go : (g : ℕ) → AllWithin m (divided g zs)
    go zero = a
    go (suc g) = λ k. rw (at_map (λ z. quot_z z (pos (suc g))) (quot_zero (suc g)) zs k, abs_quot (get_or zs k (pos 0)) (suc g)) (le_trans (div-le_self (nat_abs (get_or zs k (pos 0))) (suc g)) (a k))

-- what a program does: divide by the divisor unless it is 0 or 1
pub lowest_by : (g : ℕ) (zs : List ℤ) → ¬ (g ≡ 0) → g ≡ gcd_all zs → map (λ z. quot_z z (pos g)) zs ≡ lowest_of zs
unfolding lowest_of divided
lowest_by zero zs n e = absurd (n refl)
lowest_by (suc g) zs n e = ap (λ m. divided m zs) e

quot_one : (z : ℤ) → quot_z z (pos 1) ≡ z
quot_one (pos n) = let e : n / 1 ≡ n = omega arith in ap pos e
quot_one (negsuc n) = let e : suc n / 1 ≡ suc n = omega arith in ap (λ k. neg_ℤ (pos k)) e

pub lowest_as_given : (g : ℕ) (zs : List ℤ) → g ≤ 1 → g ≡ gcd_all zs → zs ≡ lowest_of zs
unfolding lowest_of divided
lowest_as_given zero zs h e = ap (λ m. divided m zs) e
lowest_as_given (suc zero) zs h e = sym (map_same (λ z. quot_z z (pos 1)) zs (λ k. quot_one (get_or zs k (pos 0)))) ∙ ap (λ m. divided m zs) e
lowest_as_given (suc (suc g)) zs h e = absurd (omega arith)

times_one : (zs : List ℤ) → scaled (pos 1) zs ≡ zs
times_one zs = map_same (λ z. pos 1 *ℤ z) zs (λ k. one (get_or zs k (pos 0)))
  where
    one : (z : ℤ) → pos 1 *ℤ z ≡ z
    one z = omega (arith, ints)

-- a common divisor of numbers in lowest form
lowest_common : (zs : List ℤ) → gcd_all zs ≤ 1 → (d : ℕ) → ((k : ℕ) → d ∣ nat_abs (get_or zs k (pos 0))) → (d ≤ 1) ⊎ ((k : ℕ) → get_or zs k (pos 0) ≡ pos 0)
lowest_common zs h d a = on (gcd_all zs) refl h
  where
    on : (g : ℕ) → gcd_all zs ≡ g → g ≤ 1 → (d ≤ 1) ⊎ ((k : ℕ) → get_or zs k (pos 0) ≡ pos 0)
    on zero e h = inr (λ k. zero_magnitude (get_or zs k (pos 0)) (subst (λ (g : ℕ). g ∣ nat_abs (get_or zs k (pos 0))) e (from_divides 0 zs k)))
    on (suc zero) e h = inl (le_of_dvd (omega arith) (subst (λ (g : ℕ). d ∣ g) e (from_greatest 0 zs d (dvd-zero d) a)))
    on (suc (suc g)) e h = absurd (omega arith)

pub lowest_is : (zs : List ℤ) → IsLowest zs (lowest_of zs)
unfolding lowest_of divided
lowest_is zs = on (gcd_all zs) refl
  where
    on : (g : ℕ) → gcd_all zs ≡ g → IsLowest zs (divided (gcd_all zs) zs)
    on zero e =
        record {
          factor = 1;
          positive = omega arith;
          multiple = times_one _ ∙ ap (λ g. divided g zs) e;
          common = lowest_common _ (lowest_is_lowest zs);
        }
    on (suc g) e =
        record {
          factor = gcd_all zs;
          positive = omega (arith, e);
          multiple = lowest_back zs;
          common = lowest_common _ (lowest_is_lowest zs);
        }
