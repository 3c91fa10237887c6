-- A fraction rounded up, and turned over with its whole part taken off.
use Rattle.std.specs.Prelude.{◌≡◌, ℕ, zero, suc, ◌+◌, ◌-◌, ◌*◌, ◌/◌, ◌%◌, ◌<◌, ◌≤◌, min, Some, None}
use Rattle.std.proofs.Common.{inl, inr, ◌∙◌, ap, add-mul, div-add-mod', mod-lt, mul-le-mul_left, mul-le-mul_right, mul-lt-mul_of_pos_right, lt_of_mul-lt-mul_right, arith}
use Rattle.std.proofs.Math.Nat.{mul-sub}
use Rattle.std.proofs.lemmas.Bool.{cases_lt}
use Rattle.naming.specs.Spans.{Least}
use Rattle.naming.specs.declared.ratio.Ratio.{Ratio}

-- a quotient, and one more unless the remainder is 0, is the quotient rounded up
pub rounded_up : (u v n : ℕ) → 1 ≤ v → n ≡ u / v + min 1 (u % v) → (u ≤ n * v) × (n * v < u + v)
rounded_up u v n h e =
    let r = on (u / v) (u % v) (mod-lt u h) e in
    let d = div-add-mod' u v in
    (omega arith, omega arith)
  where
    on : (q r : ℕ) → r < v → n ≡ q + min 1 r → (q * v + r ≤ n * v) × (n * v < q * v + r + v)
    on q zero h e =
        let k : n * v ≡ q * v = ap (λ m. m * v) (omega arith) in
        (omega arith, omega arith)
    on q (suc r) h e =
        let k : n * v ≡ q * v + 1 * v = ap (λ m. m * v) (omega arith) ∙ add-mul q 1 v in
        (omega arith, omega arith)

-- s/t is from a/b on, so s is not below w, which is a/b rounded up
pub whole_below : (a b w s t : ℕ) → w * b < a + b → 1 ≤ t → a * t ≤ s * b → w ≤ s
whole_below a b w s t h o k =
    elim (cases_lt s w) [ inr g ↦ g | inl l ↦ absurd (short l) ]
  where
    short : s < w → ⊥
    short l =
        let m : (s + 1) * b ≤ w * b = mul-le-mul_right b (omega arith) in
        let n : a * 1 ≤ a * t = mul-le-mul_left a o in
        omega (arith, add-mul s 1 b)

-- the least fraction from near on is near rounded up
pub whole_least : (near : Ratio) (w : ℕ) → near.over ≤ w * near.under → w * near.under < near.over + near.under → Least near None w 1
whole_least near w e l =
    record {
      some = omega arith;
      here = omega arith;
      least = λ s t o h. (whole_below near.over near.under w s t l o h, o);
    }

-- the least fraction from near to far is near rounded up, if that is not past far
pub whole_least_to : (near far : Ratio) (w : ℕ) → near.over ≤ w * near.under → w * near.under < near.over + near.under → w * far.under ≤ far.over → Least near (Some far) w 1
whole_least_to near far w e l m =
    record {
      some = omega arith;
      here = (omega arith, omega arith);
      least = λ s t o h. (whole_below near.over near.under w s t l o h.0, o);
    }

-- 1/(x - f) of a fraction x, which is above f
abbrev pub turned_by : ℕ → Ratio → Ratio
turned_by f x = record { over = x.under; under = x.over - f * x.under }

-- with f taken off two fractions, a/b and s/t, and what is left turned over, their order swaps
pub turned_order : (f a b s t : ℕ) → a * t ≤ s * b → t * (a - f * b) ≤ b * (s - f * t)
turned_order f a b s t h = omega (arith, mul-sub t a (f * b), mul-sub b s (f * t))

-- and back, for s/t = (f·p + q)/p
from_near : (f a b p q : ℕ) → p * (a - f * b) ≤ b * q → a * p ≤ (f * p + q) * b
from_near f a b p q h = omega (arith, mul-sub p a (f * b), add-mul (f * p) q b)

to_far : (f c d p q : ℕ) → f * d < c → d * q ≤ p * (c - f * d) → (f * p + q) * d ≤ c * p
to_far f c d p q l h =
    let m : f * d * p ≤ c * p = mul-le-mul_right p (omega arith) in
    omega (arith, mul-sub p c (f * d), add-mul (f * p) q d)

-- s/t is from a/b on, so it is above f if a/b is
above_too : (f a b s t : ℕ) → f * b < a → 1 ≤ t → a * t ≤ s * b → f * t < s
above_too f a b s t l o h =
    let m : f * b * t < a * t = mul-lt-mul_of_pos_right l o in
    lt_of_mul-lt-mul_right b (omega arith)

-- x is from near to far just where 1/(x - f) is from far to near, both turned so, and of x = f + q/p that is p/q
pub turned_least : (near far : Ratio) (f p q : ℕ) → 1 ≤ far.under → f * near.under < near.over → f * far.under < far.over → Least (turned_by f far) (Some (turned_by f near)) p q → Least near (Some far) (f * p + q) p
turned_least near far f p q o l m h =
    record {
      some = omega (arith, above_too 0 far.under (far.over - f * far.under) p q (omega arith) h.some h.here.0);
      here = (
        from_near f near.over near.under p q h.here.1,
        to_far f far.over far.under p q m h.here.0,
      );
      least = λ s t i k.
          let g : f * t < s = above_too f near.over near.under s t l i k.0 in
          let n = h.least t (s - f * t) (omega arith) (turned_order f s t far.over far.under k.1, turned_order f near.over near.under s t k.0) in
          (omega (arith, mul-le-mul_left f n.0), n.0);
    }
