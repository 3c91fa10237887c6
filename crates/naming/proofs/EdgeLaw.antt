-- Edge keeps what the chooser below keeps: an end that it names lies in the interval, since the ends are in order.
use Rattle.std.specs.Prelude.{◌≡◌, ℕ, ◌/◌, ◌<◌, true, ℤ, pos, ◌*ℤ◌, Some, None, Option, option_and_then, int_div, unsigned_abs, refl}
use Rattle.std.specs.Option.{option_or}
use Rattle.std.proofs.Math.Nat.{mul-div_cancel'}
use Rattle.std.proofs.Common.{rules, arith, sym, ◌∙◌, ap, subst}
use borrow.Author.Differences.{ints}
use Rattle.std.proofs.lemmas.Option.{option_and_then_some}
use Rattle.arith.specs.Gcd.{gcd_of}
use Rattle.arith.proofs.Divisors.{gcd_is}
use Rattle.arith.proofs.Integers.{ring, cross_trans}
use Rattle.arith.proofs.LowestForms.{times_quot}
use Rattle.intervals.specs.Bounds.{EndFraction}
use Rattle.intervals.specs.Meaning.{is_short, Rule, MayName, Keeps, Offered}
use Rattle.intervals.specs.declared.fraction.Fraction.{Fraction}
use Rattle.intervals.specs.declared.interval.Interval.{Interval}
use Rattle.intervals.proofs.Layers.{layer_keeps}
use Rattle.intervals.proofs.Limits.{short_limits}
use Rattle.naming.specs.Edge.{lowest_terms, short_of, end_named, edge_of, edge_over}
use Rattle.naming.proofs.SidesLaw.{past, inside_from, end_is, ends_ordered}
use Rattle.naming.specs.Spans.{other, end_of}
use Rattle.naming.proofs.Tests.{some_then}
use Rattle.naming.specs.declared.side.Side.{Side}
use Rattle.naming.specs.declared.side.Side.TheVariants.{Above, Below}

-- f is short, and equals the end
record Is (e : EndFraction) (f : Fraction) : Type 0 where
  short : is_short f ≡ true
  equal : f.numerator *ℤ pos e.denominator ≡ e.numerator *ℤ pos f.denominator

-- x/k equals (g·x)/(g·k)
regroup : (g x k : ℤ) → x *ℤ (g *ℤ k) ≡ (g *ℤ x) *ℤ k
regroup g x k = simp ring

lowest_equal : (n : ℤ) (m : ℕ) → (lowest_terms n m).numerator *ℤ pos m ≡ n *ℤ pos (lowest_terms n m).denominator
lowest_equal n m =
    let g = gcd_of (unsigned_abs n) m in
    let i = gcd_is (unsigned_abs n) m in
    ap (λ k. int_div n (pos g) *ℤ pos k) (sym (mul-div_cancel' g i.right))
    ∙ regroup (pos g) (int_div n (pos g)) (pos (m / g))
    ∙ ap (λ z. z *ℤ pos (m / g)) (times_quot n g i.left)

named_is : (e : EndFraction) (f : Fraction) → short_of e ≡ Some f → Is e f
unfolding short_of
named_is e f h =
    let l = lowest_terms e.numerator e.denominator in
    let p = some_then (is_short l) l f h in
    subst (Is e) p.1 (record { short = p.0; equal = lowest_equal e.numerator e.denominator })

-- what equals an end is past it, from both sides
equal_past : (side : Side) (e : EndFraction) (f : Fraction) → Is e f → past (Some e) side f.numerator f.denominator ≡ true
equal_past Above e f i = grind (arith, ints)
equal_past Below e f i = grind (arith, ints)

-- and so it is not past an end that is itself past the one that it equals
equal_before : (side : Side) (a b : EndFraction) (f : Fraction) → 0 < a.denominator → 0 < b.denominator → 0 < f.denominator → Is a f → past (Some a) side b.numerator b.denominator ≡ true → past (Some b) (other side) f.numerator f.denominator ≡ true
equal_before Above a b f h k l i o =
    let t = cross_trans f.numerator (pos f.denominator) a.numerator (pos a.denominator) b.numerator (pos b.denominator) (omega (arith, ints)) (omega (arith, ints)) (omega (arith, ints)) (omega (arith, ints, i.equal)) (omega (arith, ints)) in
    grind (arith, ints)
equal_before Below a b f h k l i o =
    let t = cross_trans b.numerator (pos b.denominator) a.numerator (pos a.denominator) f.numerator (pos f.denominator) (omega (arith, ints)) (omega (arith, ints)) (omega (arith, ints)) (omega (arith, ints)) (omega (arith, ints, i.equal)) in
    grind (arith, ints)

-- an end that is named may be named
named_may : (i : Interval) (side : Side) (f : Fraction) → option_and_then short_of (end_of side i) ≡ Some f → MayName i f
named_may i side f e = option_and_then_some short_of (end_of side i) f e (λ a h g. named a h (named_is a f g))
  where
    named : (a : EndFraction) → end_of side i ≡ Some a → Is a f → MayName i f
    named a h k = (k.short, inside_from i side f.numerator f.denominator (ap (λ o. past o side f.numerator f.denominator) h ∙ equal_past side a f k) (before (end_of (other side) i) refl))
      where
        before : (o : Option EndFraction) → end_of (other side) i ≡ o → past o (other side) f.numerator f.denominator ≡ true
        before None g = refl
        before (Some b) g =
            equal_before side a b f (end_is i side a h).some_under (end_is i (other side) b g).some_under (short_limits f k.short).some k (ends_ordered i side a b h g)

edge_offers : (i : Interval) → Offered i (edge_of i)
edge_offers i = on (end_named i.scale i.lower) (end_named i.scale i.upper) (named_may i Above) (named_may i Below)
  where
    on : (a b : Option Fraction) → ((f : Fraction) → a ≡ Some f → MayName i f) → ((f : Fraction) → b ≡ Some f → MayName i f) → Offered i (option_or a b)
    on a b h k = search rules

pub edge_keeps : (below : Rule) → Keeps below → Keeps (edge_over below)
edge_keeps below k = layer_keeps edge_of below edge_offers k
