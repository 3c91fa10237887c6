-- The greatest common divisor fits 64 bits, and divides both parts into lowest terms.
use Rattle.std.proofs.Common.{rules, ◌≡◌, ℕ, ◌/◌, ◌^◌, ◌<◌, ◌≤◌, ℤ, pos, nat_abs, sym, ap, ◌∙◌, subst, ap₂, le_trans, arith, w64, SFits, to_z}
use native.Mathlib.Nat.{le_of_dvd, pos_of_dvd_of_pos}
use borrow.Author.Differences.{ints}
use lib.Signed.{quot_z}
use Rattle.std.proofs.lemmas.Int.{to_z-of_z, to_z_pos, quot_fits}
use Rattle.arith.specs.Gcd.{gcd_of, IsGcd}
use Rattle.arith.proofs.Divisors.{quotient_pos, gcd_reduced}
use Rattle.arith.proofs.LowestForms.{abs_quot}
use Rattle.rows.proofs.Widths.{read}
use Rattle.naming.specs.Edge.{lowest_terms, short_of}
use Rattle.naming.specs.Nearest.{over, if_short}
use Rattle.naming.proofs.edge.short_of.Goals as goal

-- g as the code comes by it, from n and m, and n divided by it as the code divides
record Divisor (n : ℤ) (m g : ℕ) : Type 0 where
  is : g ≡ gcd_of (nat_abs n) m
  some : 0 < g
  small : g ≤ 2 ^ 38
  fits : SFits w64 (quot_z (read n) (to_z w64 g))
  quotient : read (quot_z (read n) (to_z w64 g)) ≡ quot_z n (pos g)
  under : 1 ≤ m / g
  lowest : gcd_of (nat_abs (quot_z n (pos g))) (m / g) ≡ 1

reduced : (n : ℤ) (m g : ℕ) → 0 < m → g ≡ gcd_of (nat_abs n) m → gcd_of (nat_abs (quot_z n (pos g))) (m / g) ≡ 1
reduced n m g h e =
    ap (λ a. gcd_of a (m / g)) (abs_quot n g)
    ∙ subst (λ (x : ℕ). gcd_of (nat_abs n / x) (m / x) ≡ 1) (sym e) (gcd_reduced (nat_abs n) m h)

divisor : {n : ℤ} {m g u : ℕ} → SFits w64 n → 1 ≤ m → m ≤ 2 ^ 38 → u ≡ nat_abs (read n) → g ≡ gcd_of u m → IsGcd u m g → Divisor n m g
divisor {n} {m} {g} f h k e i d =
    let is : g ≡ gcd_of (nat_abs n) m = i ∙ ap (λ a. gcd_of a m) (e ∙ ap nat_abs (to_z-of_z w64 n f)) in
    let small = le_trans (le_of_dvd h d.right) k in
    let same : quot_z (read n) (to_z w64 g) ≡ quot_z n (pos g) = ap₂ quot_z (to_z-of_z w64 n f) (to_z_pos w64 g (omega arith)) in
    let some = pos_of_dvd_of_pos d.right h in
    let fits : SFits w64 (quot_z n (pos g)) = quot_fits w64 n (pos g) f (omega (arith, ints)) in
    record {
      is = is;
      some = some;
      small = small;
      fits = subst (SFits w64) (sym same) fits;
      quotient = ap read same ∙ to_z-of_z w64 (quot_z n (pos g)) fits;
      under = quotient_pos m g d.right h;
      lowest = reduced n m g h is;
    }

of_gcd : (c : goal.After-gcd-g) → Divisor c.numerator-numerator.result c.denominator-denominator.result c.gcd-g.result
of_gcd c = divisor (search rules) c.denominator-denominator.ensures.some c.denominator-denominator.ensures.few c.unsigned_abs.ensures.value c.gcd-g.ensures.value c.gcd-g.ensures.greatest

pub overflow_cast-g : goal.overflow_cast-g
overflow_cast-g c = let d = of_gcd c in omega (arith, ints, d.small)

pub if_short-requires : goal.if_short-requires
if_short-requires c = let d = of_gcd c in record { some = d.under; lowest = rw d.quotient d.lowest }

pub returns : goal.returns
unfolding short_of
returns c =
    let n = c.numerator-numerator in
    let m = c.denominator-denominator in
    let d = divisor (search rules) m.ensures.some m.ensures.few c.unsigned_abs.ensures.value c.gcd-g.ensures.value c.gcd-g.ensures.greatest in
    c.if_short.ensures
    ∙ ap (λ z. if_short (over z (m.result / c.gcd-g.result))) d.quotient
    ∙ ap (λ g. if_short (over (quot_z n.result (pos g)) (m.result / g))) d.is
    ∙ ap₂ (λ n m. if_short (lowest_terms n m)) n.ensures.is m.ensures.is
