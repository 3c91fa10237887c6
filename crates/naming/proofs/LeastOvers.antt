-- The near end rounded up over a denominator is the least numerator, unless it passes the far end.
use Rattle.std.proofs.Common.{◌≡◌, ℕ, ◌+◌, ◌*◌, ◌/◌, ◌^◌, ◌<◌, ◌≤◌, Bool, true, false, leb, Some, None, Option, refl, sym, ap, ◌∙◌, subst, le-div_iff_mul-le, mul-le-mul, mul-le-mul_right, arith}
use Rattle.std.specs.Bool.{then_some}
use Rattle.std.specs.Option.{MatchOption}
use Rattle.std.proofs.lemmas.Bool.{both_ways, leb-true, leb-false}
use Rattle.std.proofs.lemmas.Option.{none-some, same_Some}
use Rattle.naming.proofs.Turning.{whole_below}
use Rattle.naming.proofs.Walk.{reach_small}
use Rattle.naming.specs.Spans.{LeastOver, IsSpan}
use Rattle.naming.specs.declared.ratio.Ratio.{Ratio}

module _ (near : Ratio) (m n : ℕ) (e : near.over * m ≤ n * near.under) (l : n * near.under < near.over * m + near.under) where
  -- no lesser number over m is from near on
  not_below : (s : ℕ) → near.over * m ≤ s * near.under → n ≤ s
  not_below s h = whole_below (near.over * m) near.under n s 1 l (omega arith) (omega arith)

  pub least_over_is : (far : Option Ratio) (reached : Bool) → MatchOption far (reached ≡ true) (λ f. reached ≡ leb (n * f.under) (f.over * m)) → LeastOver near far m (then_some reached n)
  least_over_is None true h = (e, λ s b. not_below s b)
  least_over_is None false h = absurd (both_ways false refl h)
  least_over_is (Some far) true h = ((e, leb-true _ _ (sym h)), λ s b. not_below s b.0)
  least_over_is (Some far) false h = λ s b. omega (arith, leb-false _ _ (sym h), mul-le-mul_right far.under (not_below s b.0), b.1)

-- the same by the quotient of the far end: near times m, rounded up, is n
pub record Rounded (near : Ratio) (m n : ℕ) : Type 0 where
  pub enough : near.over * m ≤ n * near.under
  pub least : n * near.under < near.over * m + near.under

pub rounded : (near r : Ratio) (m n : ℕ) → r ≡ record { over = near.over * m; under = near.under } → r.over ≤ n * r.under → n * r.under < r.over + r.under → Rounded near m n
rounded near r m n e h k =
    let both = subst (λ (r : Ratio). (r.over ≤ n * r.under) × (n * r.under < r.over + r.under)) e (h, k) in
    record { enough = both.0; least = both.1 }

pub over_on : (near : Ratio) (far : Option Ratio) (m n : ℕ) → far ≡ None → Rounded near m n → LeastOver near far m (Some n)
over_on near far m n e r = subst (λ (f : Option Ratio). LeastOver near f m (Some n)) (sym e) (r.enough, λ s h. not_below near m n r.enough r.least s h)

pub over_to : (near far : Ratio) (end : Option Ratio) (m n q : ℕ) → end ≡ Some far → 1 ≤ far.under → Rounded near m n → q ≡ far.over * m / far.under → n ≤ q → LeastOver near end m (Some n)
over_to near far end m n q e o r h l =
    subst (λ (f : Option Ratio). LeastOver near f m (Some n)) (sym e)
    ((r.enough, (le-div_iff_mul-le o).0 (subst (λ (x : ℕ). n ≤ x) h l)), λ s b. not_below near m n r.enough r.least s b.0)

pub over_none : (near far : Ratio) (end : Option Ratio) (m n q : ℕ) → end ≡ Some far → 1 ≤ far.under → Rounded near m n → q ≡ far.over * m / far.under → q < n → LeastOver near end m None
over_none near far end m n q e o r h l =
    subst (λ (f : Option Ratio). LeastOver near f m None) (sym e)
    (λ s b. let x = not_below near m n r.enough r.least s b.0 in let y = (le-div_iff_mul-le o).1 b.1 in omega arith)

-- a quotient of a multiplied fraction
pub quotient_of : (far r : Ratio) (m q : ℕ) → r ≡ record { over = far.over * m; under = far.under } → q ≡ r.over / r.under → q ≡ far.over * m / far.under
quotient_of far r m q e h = h ∙ ap (λ r. r.over / r.under) e

-- near rounded up passes far by no more than a whole, so the products that compare them fit
pub far_fits : (near : Ratio) (far : Option Ratio) (m n : ℕ) → IsSpan near far → m ≤ 2 ^ 18 → n * near.under < near.over * m + near.under → (f : Ratio) → far ≡ Some f → (f.over * m < 2 ^ 64) × (n * f.under < 2 ^ 64)
far_fits near None m n s k l f e = absurd (none-some f e)
far_fits near (Some g) m n s k l f e =
    let p : g.over * m ≤ 2 ^ 41 * 2 ^ 18 = mul-le-mul s.1.few_over k in
    let r = reach_small (record { over = near.over * m; under = near.under }) (record { over = g.over * m; under = g.under }) n s.1.some_under (omega (arith, mul-le-mul_right m s.2)) l in
    subst (λ (f : Ratio). (f.over * m < 2 ^ 64) × (n * f.under < 2 ^ 64)) (same_Some g f e) (omega arith, omega (arith, s.1.few_under))

pub ruleset least_over_facts = (least_over_is, far_fits)
