-- The ends of an interval by the side of 0 from which they are seen: what lies between them, their limits and their order.
use Rattle.std.specs.Prelude.{◌≡◌, ℕ, ◌*◌, ◌^◌, ◌≤◌, Bool, true, ℤ, pos, ◌*ℤ◌, ◌≤ℤ◌, Some, None, Option, int_le, refl}
use Rattle.std.proofs.Common.{rules, ◌∙◌, ap, mul-pos, arith}
use Rattle.std.specs.Option.{option_map}
use Rattle.std.proofs.lemmas.Bool.{and_parts}
use borrow.Author.Differences.{ints}
use Rattle.arith.proofs.Integers.{ring, mul_mono}
use Rattle.intervals.specs.Bounds.{EndFraction, IsBound, bound_of}
use Rattle.intervals.specs.Ends.{is_scale, in_order, are_ends}
use Rattle.intervals.specs.Meaning.{inside}
use Rattle.intervals.specs.declared.interval.End.{End}
use Rattle.intervals.specs.declared.interval.Interval.{Interval}
use Rattle.intervals.proofs.Limits.{EndLimits, interval_limits, under_small}
use Rattle.naming.specs.Nearest.{over}
use Rattle.naming.specs.Spans.{other, end_of}
use Rattle.naming.specs.declared.side.Side.{Side}
use Rattle.naming.specs.declared.side.Side.TheVariants.{Above, Below}

-- p/q is the end or past it, away from 0 on this side; an end that is absent is passed by all
abbrev pub past : Option EndFraction → Side → ℤ → ℕ → Bool
past None side p q = true
past (Some e) Above p q = int_le (e.numerator *ℤ pos q) (p *ℤ pos e.denominator)
past (Some e) Below p q = int_le (p *ℤ pos e.denominator) (e.numerator *ℤ pos q)

-- what lies in the interval is past its ends, from either side
pub inside_past : (i : Interval) (side : Side) (p : ℤ) (q : ℕ) → inside i (over p q) ≡ true → past (end_of side i) side p q ≡ true
inside_past i Above p q h = search rules
inside_past i Below p q h = search rules

pub inside_from : (i : Interval) (side : Side) (p : ℤ) (q : ℕ) → past (end_of side i) side p q ≡ true → past (end_of (other side) i) (other side) p q ≡ true → inside i (over p q) ≡ true
inside_from i Above p q h k = search rules
inside_from i Below p q h k = search rules

-- an order of fractions is the same over a common factor
scaled : (n m d e s : ℤ) → pos 0 ≤ℤ s → (n *ℤ e) ≤ℤ (m *ℤ d) → (n *ℤ (e *ℤ s)) ≤ℤ (m *ℤ (d *ℤ s))
scaled n m d e s h k = at _ _ _ _ (mul_mono s _ _ h k) (simp ring) (simp ring)
  where
    at : (x y x' y' : ℤ) → x ≤ℤ y → x' ≡ x → y' ≡ y → x' ≤ℤ y'
    at x y x' y' h e f = omega (arith, ints)

scaled_test : (scale : ℕ) (d e : End) → in_order d e ≡ true → int_le (d.numerator *ℤ pos (e.divisor * scale)) (e.numerator *ℤ pos (d.divisor * scale)) ≡ true
scaled_test scale d e h =
    let o : (d.numerator *ℤ pos (e.divisor * scale)) ≤ℤ (e.numerator *ℤ pos (d.divisor * scale)) = scaled d.numerator e.numerator (pos d.divisor) (pos e.divisor) (pos scale) (omega (arith, ints)) (omega (arith, ints)) in
    grind (arith, ints)

bound_is : (scale : ℕ) → 1 ≤ scale → scale ≤ 2 ^ 18 → (e : End) → EndLimits e → IsBound e.numerator (e.divisor * scale)
bound_is scale s t e l = record { few_over = l.numerator; some_under = mul-pos l.some s; few_under = under_small e.divisor scale l.divisor t }

-- an end that there is keeps its limits, and the end on the other side is past it
pub end_is : (i : Interval) (side : Side) (a : EndFraction) → end_of side i ≡ Some a → IsBound a.numerator a.denominator
end_is i Above a h = let l = interval_limits i in search (rules, bound_is)
end_is i Below a h = let l = interval_limits i in search (rules, bound_is)

pub ends_ordered : (i : Interval) (side : Side) (a b : EndFraction) → end_of side i ≡ Some a → end_of (other side) i ≡ Some b → past (Some a) side b.numerator b.denominator ≡ true
ends_ordered i Above a b h k = let l = interval_limits i in search (rules, scaled_test)
ends_ordered i Below a b h k = let l = interval_limits i in search (rules, scaled_test)

-- every interval has an end, which lies in it
pub some_end : (i : Interval) → (side : Side) × (a : EndFraction) × (end_of side i ≡ Some a)
some_end i = on i.lower i.upper refl refl (and_parts (is_scale i.scale) _ i.rules).1
  where
    on : (lower upper : Option End) → i.lower ≡ lower → i.upper ≡ upper → are_ends lower upper ≡ true → (side : Side) × (a : EndFraction) × (end_of side i ≡ Some a)
    on (Some e) upper h k r = (Above, bound_of i.scale e, ap (option_map (bound_of i.scale)) h)
    on None (Some e) h k r = (Below, bound_of i.scale e, ap (option_map (bound_of i.scale)) k)
    on None None h k r = search rules

same_past : (side : Side) (a : EndFraction) → past (Some a) side a.numerator a.denominator ≡ true
same_past Above a = grind (arith, ints)
same_past Below a = grind (arith, ints)

pub end_inside : (i : Interval) (side : Side) (a : EndFraction) → end_of side i ≡ Some a → inside i (over a.numerator a.denominator) ≡ true
end_inside i side a h = inside_from i side a.numerator a.denominator (ap (λ o. past o side a.numerator a.denominator) h ∙ same_past side a) (on side (end_of (other side) i) refl h)
  where
    on : (side : Side) (o : Option EndFraction) → end_of (other side) i ≡ o → end_of side i ≡ Some a → past o (other side) a.numerator a.denominator ≡ true
    on side None k h = refl
    on Above (Some b) k h = ends_ordered i Above a b h k
    on Below (Some b) k h = ends_ordered i Below a b h k
