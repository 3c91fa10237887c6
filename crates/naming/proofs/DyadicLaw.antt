-- What dyadic names is over the first power of two that serves, so it is short, and it lies in the interval.
use Rattle.std.specs.Prelude.{◌≡◌, ℕ, zero, suc, ◌+◌, ◌-◌, ◌*◌, ◌/◌, ◌%◌, ◌^◌, ◌<◌, ◌≤◌, true, ◌⊎◌, ℤ, pos, ◌*ℤ◌, Some, None, Option, int_div, unsigned_abs, refl}
use Rattle.std.proofs.Common.{rules, inl, inr, sym, ◌∙◌, ap, subst, add-mul, arith, pow_pos, pow_mono}
use Rattle.std.specs.Int.{◌∣◌}
use Rattle.std.proofs.Math.Nat.{pow-succ', eq-one_of_dvd-one, dvd-sub, dvd_trans, dvd-mul_right, dvd-mul_left_of_dvd, dvd_of_mod-eq-zero, mod-eq-zero_of_dvd}
use Rattle.std.proofs.lemmas.Int.{ints}
use Rattle.std.proofs.lemmas.Bool.{cases_lt}
use Rattle.arith.specs.Gcd.{gcd_of}
use Rattle.arith.proofs.Divisors.{gcd_is}
use Rattle.arith.proofs.Integers.{*ℤ_assoc, *ℤ_left_comm}
use Rattle.arith.proofs.LowestForms.{times_quot, abs_quot}
use Rattle.intervals.specs.Bounds.{EndFraction}
use Rattle.intervals.specs.Meaning.{Rule, inside, Keeps, Offered}
use Rattle.intervals.specs.declared.fraction.Fraction.{Fraction}
use Rattle.intervals.specs.declared.interval.Interval.{Interval}
use Rattle.intervals.proofs.Layers.{layer_keeps}
use Rattle.intervals.proofs.Limits.{short_from}
use Rattle.naming.proofs.SidesLaw.{past, inside_past, inside_from}
use Rattle.naming.specs.Spans.{end_of}
use Rattle.naming.specs.declared.side.Side.{Side}
use Rattle.naming.specs.declared.side.Side.TheVariants.{Above, Below}
use Rattle.naming.specs.Nearest.{nearest_at, over}
use Rattle.naming.specs.Dyadic.{within_limit, over_power, dyadic_of, dyadic_over, NoneOver, IsDyadic, NamesDyadic}
use Rattle.naming.proofs.Firsts.{FirstOf, first_is}
use Rattle.naming.proofs.NearestLaw.{Nearest, nearest_is}

-- f is the fraction over 2^k that is nearest to 0, and its numerator is within the limit
record Serves (i : Interval) (k : ℕ) (f : Fraction) : Type 0 where
  power : f.denominator ≡ 2 ^ k
  here : inside i f ≡ true
  within : unsigned_abs f.numerator ≤ 2 ^ 18
  least : (n : ℤ) → inside i (over n f.denominator) ≡ true → unsigned_abs f.numerator ≤ unsigned_abs n

none_over : (i : Interval) (k : ℕ) → over_power i k ≡ None → NoneOver i k
none_over i k = on (nearest_at i (2 ^ k)) (nearest_is i (2 ^ k))
  where
    on : (r : Option ℤ) → Nearest i (2 ^ k) r → within_limit r (2 ^ k) ≡ None → NoneOver i k
    on None n h = λ p e. search rules
    on (Some p) n h = λ q e. search (rules, n.1 q e)

some_over : (i : Interval) (k : ℕ) (f : Fraction) → over_power i k ≡ Some f → Serves i k f
some_over i k f = on (nearest_at i (2 ^ k)) (nearest_is i (2 ^ k))
  where
    on : (r : Option ℤ) → Nearest i (2 ^ k) r → within_limit r (2 ^ k) ≡ Some f → Serves i k f
    on None n h = search rules
    on (Some p) n h = search rules

pub names_dyadic : (i : Interval) → NamesDyadic i (dyadic_of i)
unfolding dyadic_of
names_dyadic i = on (dyadic_of i) (first_is (over_power i) 19 0)
  where
    on : (r : Option Fraction) → FirstOf (over_power i) 0 19 r → NamesDyadic i r
    on None f = λ k l. none_over i k (f k (omega arith) (omega arith))
    on (Some y) f =
        let s = some_over i f.0 y f.3 in
        record {
          exponent = f.0;
          few = omega (arith, f.2);
          power = s.power;
          here = s.here;
          within = s.within;
          least_power = λ k l. none_over i k (f.4 k (omega arith) l);
          least_numerator = s.least;
        }

-- no odd number but 1 divides m
abbrev NoneOdd : ℕ → Type 0
NoneOdd m = (d : ℕ) → d % 2 ≡ 1 → d ∣ m → d ≡ 1

none_odd_twice : (m : ℕ) → NoneOdd m → NoneOdd (2 * m)
none_odd_twice m n d h k = n d h (subst (λ (x : ℕ). d ∣ x) (left (d / 2) m d (omega arith)) (dvd-sub d (dvd-mul_right d m) (dvd-mul_left_of_dvd d k (d / 2))))
  where
    left : (e m d : ℕ) → d ≡ 2 * e + 1 → d * m - e * (2 * m) ≡ m
    left e m d h = rw (h, add-mul) (omega arith)

none_odd_power : (k : ℕ) → NoneOdd (2 ^ k)
none_odd_power zero = λ d h k. eq-one_of_dvd-one k
none_odd_power (suc k) = rw (pow-succ' 2 k) (none_odd_twice (2 ^ k) (none_odd_power k))

-- a divisor of an odd number is odd
odd_divisor : (d n : ℕ) → n % 2 ≡ 1 → d ∣ n → d % 2 ≡ 1
odd_divisor d n h k = on (cases_lt (d % 2) 1)
  where
    on : (d % 2 < 1) ⊎ (1 ≤ d % 2) → d % 2 ≡ 1
    on (inl l) =
        let t : 2 ∣ d = dvd_of_mod-eq-zero 2 (omega arith) in
        let z : n % 2 ≡ 0 = mod-eq-zero_of_dvd 2 (dvd_trans 2 t k) in
        absurd (omega arith)
    on (inr l) = omega arith

odd_lowest : (n m : ℕ) → n % 2 ≡ 1 → NoneOdd m → gcd_of n m ≡ 1
odd_lowest n m h k = let g = gcd_is n m in k (gcd_of n m) (odd_divisor (gcd_of n m) n h g.left) g.right

-- a fraction and its double over the double lie in the same intervals
halved_past : (e : Option EndFraction) (side : Side) (p : ℤ) (q : ℕ) → past e side (pos 2 *ℤ p) (2 * q) ≡ true → past e side p q ≡ true
halved_past None side p q h = refl
halved_past (Some e) Above p q h = grind (arith, ints, *ℤ_left_comm e.numerator (pos 2) (pos q), *ℤ_assoc (pos 2) p (pos e.denominator))
halved_past (Some e) Below p q h = grind (arith, ints, *ℤ_left_comm e.numerator (pos 2) (pos q), *ℤ_assoc (pos 2) p (pos e.denominator))

halved : (i : Interval) (p : ℤ) (q : ℕ) → inside i (over (pos 2 *ℤ p) (2 * q)) ≡ true → inside i (over p q) ≡ true
halved i p q h = inside_from i Above p q (on Above) (on Below)
  where
    on : (side : Side) → past (end_of side i) side p q ≡ true
    on side = halved_past (end_of side i) side p q (inside_past i side (pos 2 *ℤ p) (2 * q) h)

-- over the first power that serves, past 1, no numerator is even: half of it would serve over half of the power
odd_over : (i : Interval) (k : ℕ) (n : ℤ) → NoneOver i k → inside i (over n (2 * 2 ^ k)) ≡ true → unsigned_abs n ≤ 2 ^ 18 → unsigned_abs n % 2 ≡ 1
odd_over i k n b h l = on (cases_lt (unsigned_abs n % 2) 1)
  where
    on : (unsigned_abs n % 2 < 1) ⊎ (1 ≤ unsigned_abs n % 2) → unsigned_abs n % 2 ≡ 1
    on (inr o) = omega arith
    on (inl o) =
        let z : pos 2 *ℤ int_div n (pos 2) ≡ n = times_quot n 2 (dvd_of_mod-eq-zero 2 (omega arith)) in
        let a : unsigned_abs (int_div n (pos 2)) ≤ 2 ^ 18 = rw (abs_quot n 2) (omega arith) in
        let t = b (int_div n (pos 2)) (halved i (int_div n (pos 2)) (2 ^ k) (ap (λ p. inside i (over p (2 * 2 ^ k))) z ∙ h)) in
        absurd (omega arith)

lowest : (i : Interval) (n : ℤ) (k : ℕ) → ((j : ℕ) → j < k → NoneOver i j) → inside i (over n (2 ^ k)) ≡ true → unsigned_abs n ≤ 2 ^ 18 → gcd_of (unsigned_abs n) (2 ^ k) ≡ 1
lowest i n zero b h l = eq-one_of_dvd-one (gcd_is (unsigned_abs n) 1).right
lowest i n (suc k) b h l =
    let o = odd_over i k n (b k (omega arith)) (ap (λ m. inside i (over n m)) (sym (pow-succ' 2 k)) ∙ h) l in
    odd_lowest (unsigned_abs n) (2 ^ suc k) o (none_odd_power (suc k))

dyadic_short : (i : Interval) (f : Fraction) → IsDyadic i f → Offered i (Some f)
dyadic_short i f d =
    let m : f.denominator ≡ 2 ^ d.exponent = d.power in
    let h : inside i (over f.numerator (2 ^ d.exponent)) ≡ true = ap (λ m. inside i (over f.numerator m)) (sym m) ∙ d.here in
    let g : gcd_of (unsigned_abs f.numerator) f.denominator ≡ 1 = ap (gcd_of (unsigned_abs f.numerator)) m ∙ lowest i f.numerator d.exponent d.least_power h d.within in
    (short_from f d.within (omega (arith, pow_pos d.exponent)) (omega (arith, pow_mono {i = d.exponent} {j = 18} d.few)) g, d.here)

pub dyadic_keeps : (below : Rule) → Keeps below → Keeps (dyadic_over below)
dyadic_keeps below k = layer_keeps dyadic_of below (λ i. on i (dyadic_of i) (names_dyadic i)) k
  where
    on : (i : Interval) (r : Option Fraction) → NamesDyadic i r → Offered i r
    on i None n = tt
    on i (Some f) n = dyadic_short i f n
