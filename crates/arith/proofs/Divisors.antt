-- Laws of the greatest common divisor of two numbers.
use Rattle.std.proofs.Common.{◌≡◌, ℕ, zero, suc, ◌*◌, ◌/◌, ◌%◌, ◌<◌, ◌≤◌, sym, refl, ap, ◌∙◌, subst, le_trans, mod-lt, mul-one, arith}
use Prim.Native.Nat.{◌∣◌}
use native.Mathlib.Nat.{dvd_refl, dvd-zero, dvd-mod_iff, dvd_antisymm, pos_of_dvd_of_pos, le_of_dvd, eq-zero_of_zero-dvd, eq-one_of_dvd-one, dvd-mul_right, mul-dvd-mul_left, dvd_of_mul-dvd-mul_left, mul-div_cancel', div-mul_cancel}
use Rattle.arith.specs.Gcd.{gcd_by, gcd_of, IsGcd}

-- turns past the second number change nothing
turns : (k m a b : ℕ) → b ≤ k → b ≤ m → gcd_by k a b ≡ gcd_by m a b
unfolding gcd_by
turns zero zero a b h i = refl
turns zero (suc m) a zero h i = refl
turns zero (suc m) a (suc b) h i = absurd (omega arith)
turns (suc k) zero a zero h i = refl
turns (suc k) zero a (suc b) h i = absurd (omega arith)
turns (suc k) (suc m) a zero h i = refl
turns (suc k) (suc m) a (suc b) h i =
    let l = mod-lt a {m = suc b} (omega arith) in turns k m (suc b) (a % suc b) (omega arith) (omega arith)

pub gcd_zero : (a : ℕ) → gcd_of a 0 ≡ a
unfolding gcd_of gcd_by
gcd_zero a = refl

pub gcd_step : (a b : ℕ) → 0 < b → gcd_of a b ≡ gcd_of b (a % b)
unfolding gcd_of gcd_by
gcd_step a zero h = absurd (omega arith)
gcd_step a (suc b) h = let l = mod-lt a {m = suc b} h in turns b (a % suc b) (suc b) (a % suc b) (omega arith) (omega arith)

zero_only : (a b g : ℕ) → g ∣ a → g ∣ b → g ≡ 0 → (a ≡ 0) × (b ≡ 0)
zero_only a b g l r e =
    (eq-zero_of_zero-dvd (subst (λ (x : ℕ). x ∣ a) e l), eq-zero_of_zero-dvd (subst (λ (x : ℕ). x ∣ b) e r))

is_gcd : (a b g : ℕ) → g ∣ a → g ∣ b → ((d : ℕ) → d ∣ a → d ∣ b → d ∣ g) → IsGcd a b g
is_gcd a b g l r m = record { left = l; right = r; greatest = m; zeros = zero_only a b g l r }

by_turns : (k a b : ℕ) → b ≤ k → IsGcd a b (gcd_by k a b)
unfolding gcd_by
by_turns zero a zero h = is_gcd a 0 a (dvd_refl a) (dvd-zero a) (λ d p q. p)
by_turns zero a (suc b) h = absurd (omega arith)
by_turns (suc k) a zero h = is_gcd a 0 a (dvd_refl a) (dvd-zero a) (λ d p q. p)
by_turns (suc k) a (suc b) h =
    let l = mod-lt a {m = suc b} (omega arith) in
    let i = by_turns k (suc b) (a % suc b) (omega arith) in
    is_gcd a (suc b) _ ((dvd-mod_iff _ i.left).0 i.right) i.left (λ d p q. i.greatest d q ((dvd-mod_iff d q).1 p))

pub gcd_is : (a b : ℕ) → IsGcd a b (gcd_of a b)
unfolding gcd_of
gcd_is a b = by_turns b a b (omega arith)

pub gcd_unique : (a b g : ℕ) → IsGcd a b g → g ≡ gcd_of a b
gcd_unique a b g i = let j = gcd_is a b in dvd_antisymm (j.greatest g i.left i.right) (i.greatest _ j.left j.right)

pub gcd_comm : (a b : ℕ) → gcd_of a b ≡ gcd_of b a
gcd_comm a b = let j = gcd_is a b in gcd_unique b a _ (is_gcd b a _ j.right j.left (λ d p q. j.greatest d q p))

pub gcd_one : (b : ℕ) → gcd_of 1 b ≡ 1
gcd_one b = eq-one_of_dvd-one (gcd_is 1 b).left

pub one_is_gcd : (a b : ℕ) → a ≡ 1 → IsGcd a b 1
one_is_gcd a b e = subst (IsGcd a b) (ap (λ n. gcd_of n b) e ∙ gcd_one b) (gcd_is a b)

pub gcd_pos : (a b : ℕ) → 0 < b → 0 < gcd_of a b
gcd_pos a b h = pos_of_dvd_of_pos (gcd_is a b).right h

pub gcd_within : (a b m : ℕ) → a ≤ m → b ≤ m → gcd_of a b ≤ m
unfolding gcd_of gcd_by
gcd_within (suc a) b m h k = le_trans (le_of_dvd (omega arith) (gcd_is (suc a) b).left) h
gcd_within zero zero m h k = h
gcd_within zero (suc b) m h k = le_trans (le_of_dvd (omega arith) (gcd_is zero (suc b)).right) k

-- a quotient by a divisor of a number above 0
pub quotient_pos : (b g : ℕ) → g ∣ b → 0 < b → 0 < b / g
quotient_pos b g d h = pos_of_dvd_of_pos (subst (λ (x : ℕ). b / g ∣ x) (div-mul_cancel g d) (dvd-mul_right (b / g) g)) h

-- what is divided by the greatest common divisor has none above 1
pub gcd_reduced : (a b : ℕ) → 0 < b → gcd_of (a / gcd_of a b) (b / gcd_of a b) ≡ 1
gcd_reduced a b h =
    let g = gcd_of a b in
    let d = gcd_of (a / g) (b / g) in
    let i = gcd_is a b in
    let j = gcd_is (a / g) (b / g) in
    let l : g * d ∣ a = subst (λ (x : ℕ). g * d ∣ x) (mul-div_cancel' g i.left) (mul-dvd-mul_left d g j.left) in
    let r : g * d ∣ b = subst (λ (x : ℕ). g * d ∣ x) (mul-div_cancel' g i.right) (mul-dvd-mul_left d g j.right) in
    let w : g * d ∣ g * 1 = subst (λ (x : ℕ). g * d ∣ x) (sym (mul-one g)) (i.greatest (g * d) l r) in
    eq-one_of_dvd-one (dvd_of_mul-dvd-mul_left {k = g} d (gcd_pos a b h) w)
