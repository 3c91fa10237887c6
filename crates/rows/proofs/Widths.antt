-- Numbers of 32 and of 64 bits: what a cast leaves as it is, and which products and sums fit.
use Rattle.std.proofs.Common.{◌≡◌, ℕ, zero, suc, ◌+◌, ◌*◌, ◌^◌, ◌<◌, ◌≤◌, List, [], ◌∷◌, get_or, ℤ, pos, ◌+ℤ◌, ◌*ℤ◌, nat_abs, refl, ◌∙◌, zero-le, arith, w32, w64, SFits, to_z, of_z}
use borrow.Author.Differences.{ints}
use lib.Signed.{quot_z}
use mir.Val.{Val}
use denote.Array.{each}
use denote.Shadow.{shadow}
use denote.Signed.{SInt}
use Rattle.std.proofs.lemmas.Int.{to_z-of_z, quot_fits}
use Rattle.arith.proofs.Integers.{product_within}

-- a number as a variable of 64 bits holds it, and one of 32 bits that is cast to 64
abbrev pub read : ℤ → ℤ
read z = to_z w64 (of_z w64 z)

-- a number within the limit of a row, cast to 32 bits
pub narrow_fits : (z : ℤ) → nat_abs z ≤ 2 ^ 20 → SFits w32 (read z)
narrow_fits z h = omega (arith, ints)

pub narrow_is : (z y : ℤ) → nat_abs z ≤ 2 ^ 20 → y ≡ to_z w32 (of_z w32 (read z)) → y ≡ z
narrow_is z y h e = omega (arith, ints)

fits_within : (z : ℤ) → nat_abs z ≤ 2 ^ 62 → SFits w64 z
fits_within z h = omega (arith, ints)

within_fits : (z : ℤ) → SFits w32 z → nat_abs z ≤ 2 ^ 31
within_fits z f = omega (arith, ints)

-- each number of an array of 32 bits, by what owning the array says
pub each_within : (xs : List ℤ) (us : List Val) (k : ℕ) → shadow (each ℤ (SInt w32).own_val xs us) → nat_abs (get_or xs k (pos 0)) ≤ 2 ^ 31
each_within [] us k p = zero-le
each_within (x ∷ xs) [] k p = absurd p
each_within (x ∷ xs) (u ∷ us) zero p = within_fits x (record { sfits = p.0.1 })
each_within (x ∷ xs) (u ∷ us) (suc k) p = each_within xs us k p.1

-- a number divided by a divisor, both within 2^53
module _ (g : ℕ) (z : ℤ) (positive : 0 < g) (small : g ≤ 2 ^ 53) (within : nat_abs z ≤ 2 ^ 53) where
  divisor_is : read (to_z w64 g) ≡ pos g
  divisor_is = omega (arith, ints)

  number_is : read z ≡ z
  number_is = omega (arith, ints)

  fits : SFits w64 (quot_z z (pos g))
  fits = quot_fits w64 z (pos g) (omega (arith, ints)) (omega (arith, ints))

  pub quot_reads : (y : ℤ) → y ≡ read (quot_z (read z) (read (to_z w64 g))) → y ≡ quot_z z (pos g)
  quot_reads y e = e ∙ rw (divisor_is, number_is) (to_z-of_z w64 _ fits)

-- the sum of two numbers of 51 bits
module _ (s t : ℤ) (h : nat_abs s ≤ 2 ^ 51) (k : nat_abs t ≤ 2 ^ 51) where
  pub sum_is : (y : ℤ) → y ≡ read (read s +ℤ read t) → y ≡ s +ℤ t
  sum_is y e = omega (arith, ints)

  pub sum_small : (y : ℤ) → y ≡ read (read s +ℤ read t) → nat_abs y ≤ 2 ^ 53
  sum_small y e = omega (arith, ints)

-- a multiplier times a number of 32 bits, as the code reads what `i64::from` gave
pub times_reads : (u : ℕ) (x a b : ℤ) → u ≤ 2 ^ 20 → SFits w32 x → a ≡ pos u → b ≡ to_z w32 (of_z w32 x) → (read (read a *ℤ read b) ≡ pos u *ℤ x) × (nat_abs (read (read a *ℤ read b)) ≤ 2 ^ 51)
times_reads u x a b h f p q =
    let m = product_within (pos u) x (2 ^ 20) (2 ^ 31) h (within_fits x f) in
    let i : read a ≡ pos u = omega (arith, ints) in
    let j : read b ≡ x = omega (arith, ints) in
    rw (i, j, to_z-of_z w64 (pos u *ℤ x) (fits_within (pos u *ℤ x) (omega arith))) (refl, m)

-- one more product of a row's number and a value in a sum of at most nine, as the code reads what `i64::from` gave
pub record Added (s a b x y : ℤ) (n : ℕ) : Type 0 where
  pub fits : SFits w64 (s +ℤ read (read x *ℤ read y))
  pub is : read (s +ℤ read (read x *ℤ read y)) ≡ s +ℤ a *ℤ b
  pub within : nat_abs (s +ℤ a *ℤ b) ≤ 2 ^ 38 * (n + 1)

-- the first equation only says which number s is
pub added : {s z : ℤ} (a b x y : ℤ) (n : ℕ) → s ≡ z → nat_abs s ≤ 2 ^ 38 * n → n < 9 → nat_abs a ≤ 2 ^ 20 → nat_abs b ≤ 2 ^ 18 → x ≡ to_z w32 (of_z w32 a) → y ≡ to_z w32 (of_z w32 b) → Added s a b x y n
added {s} {z} a b x y n e h l ha hb ex ey =
    let p : read x ≡ a = omega (arith, ints) in
    let q : read y ≡ b = omega (arith, ints) in
    let m = product_within a b (2 ^ 20) (2 ^ 18) ha hb in
    record { fits = rw (p, q) (fits (a *ℤ b) m); is = rw (p, q) (is (a *ℤ b) m); within = within (a *ℤ b) m }
  where
    fits : (t : ℤ) → nat_abs t ≤ 2 ^ 38 → SFits w64 (s +ℤ read t)
    fits t k = omega (arith, ints)

    is : (t : ℤ) → nat_abs t ≤ 2 ^ 38 → read (s +ℤ read t) ≡ s +ℤ t
    is t k = omega (arith, ints)

    within : (t : ℤ) → nat_abs t ≤ 2 ^ 38 → nat_abs (s +ℤ t) ≤ 2 ^ 38 * (n + 1)
    within t k = omega (arith, ints)

pub zero_bits : (z : ℤ) → SFits w32 z → of_z w32 z ≡ 0 → z ≡ pos 0
zero_bits z f e = omega (arith, ints)
