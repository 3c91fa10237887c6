-- `nearest_at` gives the whole number p nearest to 0 with p/q in the interval, and there is only one such.
use Rattle.std.specs.Prelude.{◌≡◌, ℕ, ◌*◌, ◌<◌, ◌≤◌, Bool, true, false, cond, ◌&&◌, ◌⊎◌, ℤ, pos, ◌*ℤ◌, neg_ℤ, Some, None, Option, ◌≢◌, int_le, unsigned_abs, refl}
use Rattle.std.proofs.Common.{rules, inl, inr, sym, ap₂, subst, mul-pos, le_antisymm, arith}
use Rattle.std.specs.Int.{int_max, int_min}
use Rattle.std.specs.Option.{option_map}
use Rattle.std.proofs.lemmas.Int.{clamps, ints}
use Rattle.std.proofs.lemmas.Grind.{common_steps}
use Rattle.std.proofs.lemmas.Bool.{and_parts, and_from}
use Rattle.arith.proofs.Floors.{floor_same, ceiling_same}
use Rattle.arith.proofs.Integers.{neg-*ℤ, zero_times}
use Rattle.intervals.specs.Bounds.{EndFraction}
use Rattle.intervals.specs.Meaning.{from_lower, to_upper, inside}
use Rattle.intervals.specs.declared.interval.End.{End}
use Rattle.intervals.specs.declared.interval.Interval.{Interval}
use Rattle.intervals.proofs.Limits.{interval_limits}
use Rattle.naming.proofs.SidesLaw.{past, inside_past, inside_from}
use Rattle.naming.specs.Spans.{end_of}
use Rattle.naming.specs.declared.side.Side.{Side}
use Rattle.naming.specs.declared.side.Side.TheVariants.{Above, Below}
use Rattle.naming.specs.Nearest.{floor_at, ceiling_at, nearest_of, nearest_at, over}

-- p, or nothing, is the nearest to 0 of the numbers that pass the test
abbrev pub NearestBy : (ℤ → Bool) → Option ℤ → Type 0
NearestBy test (Some p) = (test p ≡ true) × ((s : ℤ) → test s ≡ true → unsigned_abs p ≤ unsigned_abs s)
NearestBy test None = (s : ℤ) → test s ≢ true

abbrev pub Nearest : Interval → ℕ → Option ℤ → Type 0
Nearest i q r = NearestBy (λ p. inside i (over p q)) r

-- bounds that may be absent
from_low : Option ℤ → ℤ → Bool
from_low None s = true
from_low (Some low) s = int_le low s

to_high : Option ℤ → ℤ → Bool
to_high None s = true
to_high (Some high) s = int_le s high

in_bounds : Option ℤ → Option ℤ → ℤ → Bool
in_bounds low high s = from_low low s && to_high high s

nearest_of_lem : (low high : Option ℤ) → NearestBy (in_bounds low high) (nearest_of low high)
unfolding in_bounds from_low to_high
nearest_of_lem None None = (refl, λ s h. omega arith)
nearest_of_lem (Some low) None = (grind (arith, ints), λ s h. let k = (and_parts (int_le low s) true h).0 in omega (arith, ints, clamps))
nearest_of_lem None (Some high) = (grind (arith, ints), λ s h. let k : int_le s high ≡ true = h in omega (arith, ints, clamps))
nearest_of_lem (Some low) (Some high) = on (int_le low high) refl
  where
    least : (low high s : ℤ) → int_le low s ≡ true → int_le s high ≡ true → unsigned_abs (int_max low (int_min high (pos 0))) ≤ unsigned_abs s
    least low high s h k = omega (arith, ints, clamps)

    on : (b : Bool) → int_le low high ≡ b → NearestBy (in_bounds (Some low) (Some high)) (cond b (Some (int_max low (int_min high (pos 0)))) None)
    on true e = let m = int_max low (int_min high (pos 0)) in (and_from (int_le low m) (int_le m high) (grind (arith, ints)) (grind (arith, ints)), λ s h. let p = and_parts (int_le low s) _ h in least low high s p.0 p.1)
    on false e = λ s h. let p = and_parts (int_le low s) _ h in omega (arith, ints, p.0, p.1)

-- p/q against the ends, and p against the ends rounded, are the same tests
lower_same : (scale q : ℕ) (lower : Option End) (p : ℤ) → ((e : End) → lower ≡ Some e → 0 < e.divisor * scale) → from_lower scale lower (over p q) ≡ from_low (option_map (λ e. ceiling_at scale e q) lower) p
unfolding from_low
lower_same scale q None p h = refl
lower_same scale q (Some e) p h = sym (ceiling_same p (e.numerator *ℤ pos q) (e.divisor * scale) (h e refl))

upper_same : (scale q : ℕ) (upper : Option End) (p : ℤ) → ((e : End) → upper ≡ Some e → 0 < e.divisor * scale) → to_upper scale upper (over p q) ≡ to_high (option_map (λ e. floor_at scale e q) upper) p
unfolding to_high
upper_same scale q None p h = refl
upper_same scale q (Some e) p h = sym (floor_same p (e.numerator *ℤ pos q) (e.divisor * scale) (h e refl))

-- the nearest by one test is the nearest by another that is the same
by_same : (t u : ℤ → Bool) → ((p : ℤ) → t p ≡ u p) → (r : Option ℤ) → NearestBy u r → NearestBy t r
by_same t u e r n = search (rules, e)

pub nearest_is : (i : Interval) (q : ℕ) → Nearest i q (nearest_at i q)
unfolding in_bounds
nearest_is i q =
    let l = interval_limits i in
    by_same _ _ (λ p. ap₂ ◌&&◌
    (lower_same i.scale q i.lower p (λ e h. mul-pos (l.ends.lower_end e h).some l.some_scale))
    (upper_same i.scale q i.upper p (λ e h. mul-pos (l.ends.upper_end e h).some l.some_scale)))
    (nearest_at i q)
    (nearest_of_lem (option_map (λ e. ceiling_at i.scale e q) i.lower) (option_map (λ e. floor_at i.scale e q) i.upper))

-- where p/q and -p/q lie in the interval, so does 0/q
past_zero : (e : Option EndFraction) (side : Side) (p : ℤ) (q : ℕ) → past e side p q ≡ true → past e side (neg_ℤ p) q ≡ true → past e side (pos 0) q ≡ true
past_zero None side p q h k = refl
past_zero (Some e) Above p q h k = grind (arith, ints, neg-*ℤ, zero_times)
past_zero (Some e) Below p q h k = grind (arith, ints, neg-*ℤ, zero_times)

pub zero_inside : (i : Interval) (p : ℤ) (q : ℕ) → inside i (over p q) ≡ true → inside i (over (neg_ℤ p) q) ≡ true → inside i (over (pos 0) q) ≡ true
zero_inside i p q h k = inside_from i Above (pos 0) q (on Above) (on Below)
  where
    on : (side : Side) → past (end_of side i) side (pos 0) q ≡ true
    on side = past_zero (end_of side i) side p q (inside_past i side p q h) (inside_past i side (neg_ℤ p) q k)

-- two numbers of least magnitude over q are the same
pub same_magnitude : (i : Interval) (q : ℕ) (p s : ℤ) → Nearest i q (Some p) → Nearest i q (Some s) → p ≡ s
same_magnitude i q p s n o =
    let e : unsigned_abs p ≡ unsigned_abs s = le_antisymm (n.1 s o.0) (o.1 p n.0) in
    on (either p s e)
  where
    either : (p s : ℤ) → unsigned_abs p ≡ unsigned_abs s → (p ≡ s) ⊎ (s ≡ neg_ℤ p)
    either p s e = grind (arith, ints)

    none : (p s : ℤ) → s ≡ neg_ℤ p → unsigned_abs p ≤ 0 → p ≡ s
    none p s e h = omega (arith, ints)

    on : (p ≡ s) ⊎ (s ≡ neg_ℤ p) → p ≡ s
    on (inl e) = e
    on (inr e) = none p s e (n.1 (pos 0) (zero_inside i p q n.0 (subst (λ (z : ℤ). inside i (over z q) ≡ true) e o.0)))

pub nearest_unique : (i : Interval) (q : ℕ) (r o : Option ℤ) → Nearest i q r → Nearest i q o → r ≡ o
nearest_unique i q r o n m = grind (arith, common_steps, same_magnitude)
