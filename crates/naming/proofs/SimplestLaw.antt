-- The simplest fraction: there is one, there is only one, and `simplest_of` names it if it is short.
use Rattle.std.specs.Prelude.{◌≡◌, ℕ, ◌+◌, ◌*◌, ◌^◌, ◌<◌, ◌≤◌, Bool, true, false, ◌⊎◌, ℤ, pos, Some, None, Option, option_and_then, unsigned_abs, ◌≢◌, refl}
use Rattle.std.specs.Option.{option_map}
use Rattle.std.proofs.Common.{rules, inl, inr, sym, ◌∙◌, ap, ap₂, subst, le_antisymm, le_trans, mul-le-mul_left, mul-le-mul_right, arith}
use Rattle.std.specs.Bool.{then_some}
use Rattle.std.proofs.lemmas.Grind.{common_steps}
use Rattle.std.proofs.lemmas.Bool.{both_ways, cases_lt}
use Rattle.arith.specs.Gcd.{gcd_of, gcd_by}
use Rattle.arith.proofs.Integers.{abs_neg}
use Rattle.intervals.specs.Bounds.{EndFraction}
use Rattle.intervals.specs.Meaning.{is_short, inside, Named, Keeps}
use Rattle.intervals.specs.declared.fraction.Fraction.{Fraction}
use Rattle.intervals.specs.declared.interval.Interval.{Interval}
use Rattle.intervals.proofs.Limits.{short_limits, short_from}
use Rattle.naming.specs.Nearest.{nearest_at, over, if_short}
use Rattle.naming.specs.Simplest.{nearest_over, simplest_of, IsSimplest}
use Rattle.naming.specs.Spans.{Seen, span_of, signed, Between, Least}
use Rattle.naming.specs.declared.ratio.Ratio.{Ratio}
use Rattle.naming.specs.declared.side.Side.{Side}
use Rattle.naming.specs.declared.side.Side.TheVariants.{Above, Below}
use Rattle.naming.proofs.Firsts.{FirstOf, first_is, first_only}
use Rattle.naming.proofs.Leasts.{least_lowest}
use Rattle.naming.proofs.NearestLaw.{Nearest, nearest_is, same_magnitude, nearest_unique}
use Rattle.naming.proofs.SidesLaw.{some_end, end_is, end_inside}
use Rattle.naming.proofs.SpanLaw.{Sees, SeesOption, span_sees}

pub abs-signed : (side : Side) (k : ℕ) → unsigned_abs (signed side k) ≡ k
abs-signed Above k = refl
abs-signed Below k = abs_neg k

-- from the span to the interval
pub simplest_seen : (i : Interval) (s : Seen) → Sees i s → (k q : ℕ) → Least s.near s.far k q → IsSimplest i (over (signed s.side k) q)
simplest_seen i s v k q l =
    record {
      some = l.some;
      here = v.onto k q l.here;
      least_denominator = λ g h e. (l.least (unsigned_abs g.numerator) g.denominator h (v.within g.numerator g.denominator h e).1).1;
      least_numerator = λ g d e.
          let h : 1 ≤ g.denominator = omega (arith, d, l.some) in
          rw (abs-signed s.side k) (l.least (unsigned_abs g.numerator) g.denominator h (v.within g.numerator g.denominator h e).1).0;
    }

pub simplest_zero : (i : Interval) → ((q : ℕ) → inside i (over (pos 0) q) ≡ true) → IsSimplest i (over (pos 0) 1)
simplest_zero i z =
    record {
      some = omega arith;
      here = z 1;
      least_denominator = λ g h e. h;
      least_numerator = λ g d e. omega arith;
    }

-- over its denominator, its numerator is the nearest to 0
nearest_of_simplest : (i : Interval) (f : Fraction) → IsSimplest i f → Nearest i f.denominator (Some f.numerator)
nearest_of_simplest i f h = (h.here, λ s e. h.least_numerator (over s f.denominator) refl e)

pub simplest_only : (i : Interval) (f g : Fraction) → IsSimplest i f → IsSimplest i g → g ≡ f
simplest_only i f g h k =
    let d : g.denominator ≡ f.denominator = le_antisymm (k.least_denominator f h.some h.here) (h.least_denominator g k.some k.here) in
    let n : Nearest i f.denominator (Some g.numerator) = subst (λ (q : ℕ). Nearest i q (Some g.numerator)) d (nearest_of_simplest i g k) in
    ap₂ over (same_magnitude i f.denominator g.numerator f.numerator n (nearest_of_simplest i f h)) d

-- a fraction with a part past 2^18 is not short
pub long_none : (f : Fraction) → (unsigned_abs f.numerator ≤ 2 ^ 18 → f.denominator ≤ 2 ^ 18 → ⊥) → if_short f ≡ None
long_none f h = grind (arith, common_steps, short_limits)

-- the first fraction that is the nearest over its denominator is the simplest, if its denominator is no more than 2^18
module _ (i : Interval) (f : Fraction) (h : IsSimplest i f) where
  none_before : (q : ℕ) → 1 ≤ q → q < f.denominator → nearest_over i q ≡ None
  none_before q s l = on (nearest_at i q) (nearest_is i q)
    where
      on : (r : Option ℤ) → Nearest i q r → option_map (λ p. over p q) r ≡ None
      on None n = refl
      on (Some p) n = absurd (omega (arith, h.least_denominator (over p q) s n.0))

  first : (f.denominator < 1 + 2 ^ 18) ⊎ (1 + 2 ^ 18 ≤ f.denominator) → (r : Option Fraction) × FirstOf (nearest_over i) 1 (2 ^ 18) r × (option_and_then if_short r ≡ if_short f)
  first (inl l) =
      let e = nearest_unique i f.denominator (nearest_at i f.denominator) (Some f.numerator) (nearest_is i f.denominator) (nearest_of_simplest i f h) in
      (Some f, (f.denominator, h.some, l, ap (option_map (λ p. over p f.denominator)) e, none_before), refl)
  first (inr l) = (None, (λ q s m. none_before q s (omega arith)), sym (long_none f (λ a b. omega arith)))

  pub simplest_named : simplest_of i ≡ if_short f
  unfolding simplest_of
  simplest_named =
      let w = first (cases_lt f.denominator (1 + 2 ^ 18)) in
      ap (option_and_then if_short) (first_only (nearest_over i) (2 ^ 18) 1 _ w.0 (first_is (nearest_over i) (2 ^ 18) 1) w.1) ∙ w.2

-- from the interval back to the span: no numerator in it is lesser, whatever the denominator
near_of : (near : Ratio) (far : Option Ratio) (p q : ℕ) → Between near far p q → near.over * q ≤ p * near.under
near_of near None p q b = b
near_of near (Some far) p q b = b.0

lesser_over : (near : Ratio) (far : Option Ratio) (j k q : ℕ) → j ≤ k → near.over * q ≤ j * near.under → Between near far k q → Between near far j q
lesser_over near None j k q h n b = n
lesser_over near (Some far) j k q h n b = (n, le_trans (mul-le-mul_right far.under h) b.1)

pub least_of_simplest : (i : Interval) (s : Seen) → Sees i s → (f : Fraction) → IsSimplest i f → Least s.near s.far (unsigned_abs f.numerator) f.denominator
least_of_simplest i s v f h =
    let w = v.within f.numerator f.denominator h.some h.here in
    record { some = h.some; here = w.1; least = λ j t r b. (numerator j t r b w.1 (cases_lt j (unsigned_abs f.numerator)), denominator j t r b) }
  where
    denominator : (j t : ℕ) → 1 ≤ t → Between s.near s.far j t → f.denominator ≤ t
    denominator j t r b = h.least_denominator (over (signed s.side j) t) r (v.onto j t b)

    numerator : (j t : ℕ) → 1 ≤ t → Between s.near s.far j t → Between s.near s.far (unsigned_abs f.numerator) f.denominator → (j < unsigned_abs f.numerator) ⊎ (unsigned_abs f.numerator ≤ j) → unsigned_abs f.numerator ≤ j
    numerator j t r b w (inr l) = l
    numerator j t r b w (inl l) =
        let n : s.near.over * f.denominator ≤ j * s.near.under = le_trans (mul-le-mul_left s.near.over (denominator j t r b)) (near_of s.near s.far j t b) in
        let c = lesser_over s.near s.far j (unsigned_abs f.numerator) f.denominator (omega arith) n w in
        let e = h.least_numerator (over (signed s.side j) f.denominator) refl (v.onto j f.denominator c) in
        rw (abs-signed s.side j) at e

pub zero_short : is_short (over (pos 0) 1) ≡ true
unfolding gcd_of gcd_by
zero_short = refl

-- where the interval holds a short fraction, its simplest one is short
short_with : (i : Interval) (f : Fraction) → IsSimplest i f → (g : Fraction) → is_short g ≡ true → inside i g ≡ true → is_short f ≡ true
short_with i f h g t e = on (span_of i) (span_sees i)
  where
    on : (o : Option Seen) → SeesOption i o → is_short f ≡ true
    on None z = subst (λ (x : Fraction). is_short x ≡ true) (simplest_only i f (over (pos 0) 1) h (simplest_zero i z)) zero_short
    on (Some s) v =
        let l = least_of_simplest i s v f h in
        let k = short_limits g t in
        let b = l.least (unsigned_abs g.numerator) g.denominator k.some (v.within g.numerator g.denominator k.some e).1 in
        short_from f (le_trans b.0 k.numerator) h.some (le_trans b.1 k.denominator) (least_lowest s.near s.far (unsigned_abs f.numerator) f.denominator l)

simplest_may : (i : Interval) (f : Fraction) → IsSimplest i f → Named i (if_short f)
simplest_may i f h = on (is_short f) refl
  where
    on : (b : Bool) → is_short f ≡ b → Named i (then_some b f)
    on true e = (e, h.here)
    on false e = λ g t k. both_ways (is_short f) e (short_with i f h g t k)

-- what the nearest over a denominator is
record Over (i : Interval) (q : ℕ) (f : Fraction) : Type 0 where
  denominator : f.denominator ≡ q
  nearest : Nearest i q (Some f.numerator)

some_over : (i : Interval) (q : ℕ) (f : Fraction) → nearest_over i q ≡ Some f → Over i q f
some_over i q f = on (nearest_at i q) (nearest_is i q)
  where
    on : (r : Option ℤ) → Nearest i q r → option_map (λ p. over p q) r ≡ Some f → Over i q f
    on None n e = search rules
    on (Some p) n e = search rules

none_over : (i : Interval) (q : ℕ) → nearest_over i q ≡ None → (p : ℤ) → inside i (over p q) ≢ true
none_over i q = on (nearest_at i q) (nearest_is i q)
  where
    on : (r : Option ℤ) → Nearest i q r → option_map (λ p. over p q) r ≡ None → (p : ℤ) → inside i (over p q) ≢ true
    on None n e p = search rules
    on (Some s) n e p = search rules

-- every interval has one: there is a fraction over the denominator of an end
pub simplest_exists : (i : Interval) → (f : Fraction) × IsSimplest i f
simplest_exists i = let e = some_end i in on e.1 (end_is i e.0 e.1 e.2).some_under (end_inside i e.0 e.1 e.2) _ (first_is (nearest_over i) e.1.denominator 1)
  where
    on : (a : EndFraction) → 1 ≤ a.denominator → inside i (over a.numerator a.denominator) ≡ true → (r : Option Fraction) → FirstOf (nearest_over i) 1 a.denominator r → (f : Fraction) × IsSimplest i f
    on a s h None f = absurd (none_over i a.denominator (f a.denominator s (omega arith)) a.numerator h)
    on a s h (Some y) f =
        let o = some_over i f.0 y f.3 in
        let n : Nearest i y.denominator (Some y.numerator) = subst (λ (q : ℕ). Nearest i q (Some y.numerator)) (sym o.denominator) o.nearest in (
          y,
          record {
            some = omega (arith, f.1, o.denominator);
            here = n.0;
            least_denominator = λ g t k. least g t k (cases_lt g.denominator f.0) o.denominator;
            least_numerator = λ g d k. n.1 g.numerator (ap (λ q. inside i (over g.numerator q)) (sym d) ∙ k);
          },
        )
      where
        least : (g : Fraction) → 1 ≤ g.denominator → inside i g ≡ true → (g.denominator < f.0) ⊎ (f.0 ≤ g.denominator) → y.denominator ≡ f.0 → y.denominator ≤ g.denominator
        least g t k (inl l) d = absurd (none_over i g.denominator (f.4 g.denominator t l) g.numerator k)
        least g t k (inr l) d = omega (arith, d)

pub simplest_keeps : Keeps simplest_of
simplest_keeps i =
    let f = simplest_exists i in
    subst (Named i) (sym (simplest_named i f.0 f.1)) (simplest_may i f.0 f.1)
