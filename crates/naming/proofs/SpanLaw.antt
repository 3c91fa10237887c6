-- What is seen of an interval from 0 says which fractions lie in it.
use Rattle.std.specs.Prelude.{◌≡◌, ℕ, ◌*◌, ◌≤◌, true, false, ℤ, pos, Some, None, Option, unsigned_abs, refl}
use Rattle.std.proofs.Common.{sym, subst, mul-pos, le_trans, arith}
use Rattle.std.proofs.lemmas.Int.{ints}
use Rattle.std.specs.Option.{option_map, option_or}
use Rattle.std.proofs.lemmas.Option.{none-some}
use Rattle.arith.proofs.Integers.{neg-*ℤ, neg_both, zero_times}
use Rattle.intervals.specs.Bounds.{EndFraction, IsBound}
use Rattle.intervals.specs.Meaning.{inside}
use Rattle.intervals.specs.declared.interval.Interval.{Interval}
use Rattle.naming.specs.Nearest.{over}
use Rattle.naming.proofs.SidesLaw.{past, inside_past, inside_from, end_is, ends_ordered}
use Rattle.naming.specs.Spans.{Seen, magnitude_of, is_on, signed, other, end_of, seen_between, side_of, span_of, Between, IsMagnitude, IsSpan}
use Rattle.naming.proofs.Tests.{some_then, none_then}
use Rattle.naming.specs.declared.side.Side.{Side}
use Rattle.naming.specs.declared.side.Side.TheVariants.{Above, Below}

-- the fractions of the interval are those of the span, with its sign
pub record Sees (i : Interval) (s : Seen) : Type 0 where
  pub is_span : IsSpan s.near s.far
  pub within : (p : ℤ) (q : ℕ) → 1 ≤ q → inside i (over p q) ≡ true → (p ≡ signed s.side (unsigned_abs p)) × Between s.near s.far (unsigned_abs p) q
  pub onto : (k q : ℕ) → Between s.near s.far k q → inside i (over (signed s.side k) q) ≡ true

-- where nothing is seen, 0 lies in the interval
abbrev pub SeesOption : Interval → Option Seen → Type 0
SeesOption i (Some s) = Sees i s
SeesOption i None = (q : ℕ) → inside i (over (pos 0) q) ≡ true

-- past an end on a side lies what has its sign and is not the lesser in magnitude
near_le : (side : Side) (e : EndFraction) (p : ℤ) (q : ℕ) → is_on side e.numerator ≡ true → 1 ≤ q → past (Some e) side p q ≡ true → (p ≡ signed side (unsigned_abs p)) × (unsigned_abs e.numerator * q ≤ unsigned_abs p * e.denominator)
near_le Above e p q h s g = (grind (arith, ints, mul-pos), grind (arith, ints, mul-pos))
near_le Below e p q h s g = (grind (arith, ints, mul-pos), grind (arith, ints, mul-pos))

near_from : (side : Side) (e : EndFraction) (k q : ℕ) → is_on side e.numerator ≡ true → unsigned_abs e.numerator * q ≤ k * e.denominator → past (Some e) side (signed side k) q ≡ true
near_from Above e k q h l = grind (arith, ints)
near_from Below e k q h l = grind (arith, ints, neg-*ℤ, neg_both)

-- and of what lies there, what is not the greater in magnitude is past the end from the other side
far_le : (side : Side) (e : EndFraction) (p : ℤ) (q : ℕ) → is_on side e.numerator ≡ true → p ≡ signed side (unsigned_abs p) → past (Some e) (other side) p q ≡ true → unsigned_abs p * e.denominator ≤ unsigned_abs e.numerator * q
far_le Above e p q h s g = grind (arith, ints)
far_le Below e p q h s g = grind (arith, ints)

far_from : (side : Side) (e : EndFraction) (k q : ℕ) → is_on side e.numerator ≡ true → k * e.denominator ≤ unsigned_abs e.numerator * q → past (Some e) (other side) (signed side k) q ≡ true
far_from Above e k q h l = grind (arith, ints)
far_from Below e k q h l = grind (arith, ints, neg-*ℤ, neg_both)

-- 0 is past an end that does not lie on the side
zero_past : (side : Side) (e : EndFraction) (q : ℕ) → is_on side e.numerator ≡ false → past (Some e) side (pos 0) q ≡ true
zero_past Above e q h = grind (arith, ints, zero_times)
zero_past Below e q h = grind (arith, ints, zero_times)

some_on : (side : Side) (n : ℤ) → is_on side n ≡ true → 1 ≤ unsigned_abs n
some_on Above n h = omega (arith, ints)
some_on Below n h = omega (arith, ints)

on_from : (side : Side) (n : ℤ) → n ≡ signed side (unsigned_abs n) → 1 ≤ unsigned_abs n → is_on side n ≡ true
on_from Above n e h = grind (arith, ints)
on_from Below n e h = grind (arith, ints)

some_factor : (x y : ℕ) → 1 ≤ x * y → 1 ≤ x
some_factor x y h = grind arith

-- the magnitude of an end that is not 0
magnitude_is : (e : EndFraction) → IsBound e.numerator e.denominator → 1 ≤ unsigned_abs e.numerator → IsMagnitude (magnitude_of e)
magnitude_is e l h = record { some_over = h; few_over = l.few_over; some_under = l.some_under; few_under = l.few_under }

-- the end behind another lies on its side, and is not the lesser in magnitude
pub record Behind (side : Side) (near far : EndFraction) : Type 0 where
  pub on : is_on side far.numerator ≡ true
  pub some : 1 ≤ unsigned_abs far.numerator
  pub ordered : unsigned_abs near.numerator * far.denominator ≤ unsigned_abs far.numerator * near.denominator

behind : (side : Side) (a b : EndFraction) → 1 ≤ b.denominator → is_on side a.numerator ≡ true → past (Some a) side b.numerator b.denominator ≡ true → Behind side a b
behind side a b l h o =
    let t = near_le side a b.numerator b.denominator h l o in
    let s = some_factor (unsigned_abs b.numerator) a.denominator (le_trans (mul-pos (some_on side a.numerator h) l) t.1) in
    record { on = on_from side b.numerator t.0 s; some = s; ordered = t.1 }

-- what is seen between two ends
record SeesBetween (side : Side) (near far : Option EndFraction) (s : Seen) : Type 0 where
  is_span : IsSpan s.near s.far
  within : (p : ℤ) (q : ℕ) → 1 ≤ q → past near side p q ≡ true → past far (other side) p q ≡ true → (p ≡ signed s.side (unsigned_abs p)) × Between s.near s.far (unsigned_abs p) q
  onto : (k q : ℕ) → Between s.near s.far k q → (past near side (signed s.side k) q ≡ true) × (past far (other side) (signed s.side k) q ≡ true)

-- the ends that there are keep their limits, and the far one is past the near one
record Ends (side : Side) (a : EndFraction) (far : Option EndFraction) : Type 0 where
  near_end : IsBound a.numerator a.denominator
  far_end : (b : EndFraction) → far ≡ Some b → IsBound b.numerator b.denominator
  in_order : (b : EndFraction) → far ≡ Some b → past (Some a) side b.numerator b.denominator ≡ true

sees_on : (side : Side) (a : EndFraction) (far : Option EndFraction) → Ends side a far → is_on side a.numerator ≡ true → SeesBetween side (Some a) far (record { side = side; near = magnitude_of a; far = option_map magnitude_of far })
sees_on side a None l h =
    record {
      is_span = magnitude_is a l.near_end (some_on side a.numerator h);
      within = λ p q r n f. near_le side a p q h r n;
      onto = λ k q w. (near_from side a k q h w, refl);
    }
sees_on side a (Some b) l h =
    let m = l.far_end b refl in
    let o = behind side a b m.some_under h (l.in_order b refl) in
    record {
      is_span = (magnitude_is a l.near_end (some_on side a.numerator h), magnitude_is b m o.some, o.ordered);
      within = λ p q r n f. let t = near_le side a p q h r n in (t.0, (t.1, far_le side b p q o.on t.0 f));
      onto = λ k q w. (near_from side a k q h w.0, far_from side b k q o.on w.1);
    }

sees_between : (side : Side) (near far : Option EndFraction) → ((a : EndFraction) → near ≡ Some a → Ends side a far) → (s : Seen) → seen_between side near far ≡ Some s → SeesBetween side near far s
sees_between side None far l s e = absurd (none-some s e)
sees_between side (Some a) far l s e = let t = some_then (is_on side a.numerator) _ s e in subst (SeesBetween side (Some a) far) t.1 (sees_on side a far (l a refl) t.0)

pub side_sees : (i : Interval) (side : Side) (s : Seen) → side_of side i ≡ Some s → Sees i s
side_sees i side s e =
    let ends : (a : EndFraction) → end_of side i ≡ Some a → Ends side a (end_of (other side) i) = λ a h.
    record { near_end = end_is i side a h; far_end = end_is i (other side); in_order = λ b k. ends_ordered i side a b h k } in
    let b = sees_between side (end_of side i) (end_of (other side) i) ends s e in
    record {
      is_span = b.is_span;
      within = λ p q r h. b.within p q r (inside_past i side p q h) (inside_past i (other side) p q h);
      onto = λ k q w. let t = b.onto k q w in inside_from i side (signed s.side k) q t.0 t.1;
    }

-- where the interval does not lie on a side, 0 is past its near end there
zero_from : (side : Side) (near far : Option EndFraction) → seen_between side near far ≡ None → (q : ℕ) → past near side (pos 0) q ≡ true
zero_from side None far e q = refl
zero_from side (Some a) far e q = zero_past side a q (none_then _ _ e)

pub span_sees : (i : Interval) → SeesOption i (span_of i)
span_sees i = on (side_of Above i) (side_of Below i) refl refl
  where
    on : (r t : Option Seen) → side_of Above i ≡ r → side_of Below i ≡ t → SeesOption i (option_or r t)
    on (Some s) t e f = side_sees i Above s e
    on None (Some s) e f = side_sees i Below s f
    on None None e f = λ q. inside_from i Above (pos 0) q (zero_from Above _ _ e q) (zero_from Below _ _ f q)

-- what is seen, as an answer says it
pub seen_some : (i : Interval) (s : Seen) → Some s ≡ span_of i → Sees i s
seen_some i s e = subst (SeesOption i) (sym e) (span_sees i)

pub seen_none : (i : Interval) → None ≡ span_of i → (q : ℕ) → inside i (over (pos 0) q) ≡ true
seen_none i e = subst (SeesOption i) (sym e) (span_sees i)
