-- What the turns towards the least fraction between two others keep.
use Rattle.std.specs.Prelude.{◌≡◌, ℕ, zero, suc, ◌+◌, ◌-◌, ◌*◌, ◌/◌, ◌%◌, ◌^◌, ◌<◌, ◌≤◌, min, false, ◌&&◌, ◌⊎◌, Some, None, Option, ◌≢◌, nat_le, refl}
use Rattle.std.proofs.Common.{inl, inr, sym, ◌∙◌, ap, le_trans, one-mul, zero-mul, zero-add, add-zero, le_of_lt, sub-le, add-mul, mul-add, mul-one, pow-suc, mul-le-mul, mul-le-mul_left, mul-le-mul_right, mul-lt-mul_of_pos_right, lt_of_mul-lt-mul_right, arith}
use Rattle.std.specs.Bool.{then_some}
use Rattle.std.proofs.Math.Nat.{mul-sub}
use Rattle.std.proofs.lemmas.Bool.{cases_lt, and_cases, leb-true, leb-false}
use Rattle.naming.specs.Spans.{Least, IsMagnitude, IsSpan}
use Rattle.naming.specs.declared.ratio.Ratio.{Ratio}
use Rattle.naming.proofs.Firsts.{FirstOf, first_is}
use Rattle.naming.proofs.Tests.{some_then, none_then}
use Rattle.naming.proofs.Turning.{turned_by, turned_order, turned_least, rounded_up, whole_below, whole_least, whole_least_to}

-- the fraction that last and before make of p/q, by its parts
abbrev pub made_over : Ratio → Ratio → ℕ → ℕ → ℕ
made_over last before p q = last.over * p + before.over * q

abbrev pub made_under : Ratio → Ratio → ℕ → ℕ → ℕ
made_under last before p q = last.under * p + before.under * q

-- f·last + before, part by part
abbrev pub next : Ratio → Ratio → ℕ → Ratio
next last before f = record { over = last.over * f + before.over; under = last.under * f + before.under }

-- what holds of an end, x, after so many turns
pub record Reached (last before : Ratio) (turns : ℕ) (x : Ratio) : Type 0 where
  pub some_under : 1 ≤ x.under
  pub few_parts : (x.over ≤ 2 ^ 41) × (x.under ≤ 2 ^ 41)
  -- what is made of x is an end as it was given, so nothing overflows
  pub few_over : made_over last before x.over x.under ≤ 2 ^ 41
  pub few_under : made_under last before x.over x.under ≤ 2 ^ 38
  -- each turn but the first halves the product, so the turns end
  pub halved : 2 ^ (turns - 1) * (x.over * x.under) ≤ 2 ^ 79
  pub above_one : 1 ≤ turns → x.under < x.over

-- the least fraction from near to far makes the least from near0 to far0, the ends as they were given
pub record Walking (near0 far0 near far last before : Ratio) (turns : ℕ) : Type 0 where
  pub near_end : Reached last before turns near
  pub far_end : Reached last before turns far
  pub order : near.over * far.under ≤ far.over * near.under
  pub makes : (p q : ℕ) → Least near (Some far) p q → Least near0 (Some far0) (made_over last before p q) (made_under last before p q)

-- before the first turn 1/0 and 0/1 make p/q of p/q
reached : (x : Ratio) → IsMagnitude x → Reached (record { over = 1; under = 0 }) (record { over = 0; under = 1 }) 0 x
reached x m =
    record {
      some_under = m.some_under;
      few_parts = (m.few_over, omega (arith, m.few_under));
      few_over = omega arith;
      few_under = omega arith;
      halved = omega (arith, mul-le-mul m.few_over m.few_under);
      above_one = λ h. absurd (omega arith);
    }

pub walking : (near far : Ratio) → IsSpan near (Some far) → Walking near far near far (record { over = 1; under = 0 }) (record { over = 0; under = 1 }) 0
walking near far h =
    record {
      near_end = reached near h.0;
      far_end = reached far h.1;
      order = h.2;
      makes = λ p q l. simp (one-mul, zero-mul, zero-add, add-zero) l;
    }

-- x lies strictly between f and f + 1
pub record Within (f : ℕ) (x : Ratio) : Type 0 where
  pub above : f * x.under < x.over
  pub below : x.over < f * x.under + x.under

-- with f taken off u/v, and what is left turned over, the same is made of it
made_same : (h k f u v : ℕ) → f * v < u → (h * f + k) * v + h * (u - f * v) ≡ h * u + k * v
made_same h k f u v l =
    omega (arith, add-mul (h * f) k v, mul-sub h u (f * v), mul-le-mul_left h (le_of_lt l))

-- u is f·v and a rest below v, and after the first turn f is not 0: so from then on the rest is at most half of u
halves : (turns u v f : ℕ) → f * v < u → u < f * v + v → (1 ≤ turns → v < u) → 2 ^ (turns - 1) * (u * v) ≤ 2 ^ 79 → 2 ^ (turns + 1 - 1) * (v * (u - f * v)) ≤ 2 ^ 79
halves zero u v f l m o h = omega (arith, mul-le-mul_left v (sub-le u (f * v)))
halves (suc j) u v zero l m o h = absurd (omega (arith, o (omega arith)))
halves (suc j) u v (suc g) l m o h =
    let k : 1 * v ≤ suc g * v = mul-le-mul_right v (omega arith) in
    let n : 2 ^ j * (v * (2 * (u - suc g * v))) ≤ 2 ^ j * (v * u) = mul-le-mul_left (2 ^ j) (mul-le-mul_left v (omega arith)) in
    let d : 2 ^ (suc j + 1 - 1) ≡ 2 ^ j * 2 = ap (λ i. 2 ^ i) (omega arith) ∙ pow-suc 2 j in
    let e : 2 ^ (suc j - 1) ≡ 2 ^ j = ap (λ i. 2 ^ i) (omega arith) in
    rw d (omega (arith, rw e at h))

-- one turn at one end
turned : (last before x : Ratio) (turns f : ℕ) → Reached last before turns x → Within f x → Reached (next last before f) last (turns + 1) (turned_by f x)
turned last before x turns f r w =
    record {
      some_under = omega arith;
      few_parts = (r.few_parts.1, le_trans (sub-le x.over (f * x.under)) r.few_parts.0);
      few_over = omega (arith, made_same last.over before.over f x.over x.under w.above);
      few_under = omega (arith, made_same last.under before.under f x.over x.under w.above);
      halved = halves turns x.over x.under f w.above w.below r.above_one r.halved;
      above_one = λ h. omega arith;
    }

-- what is made of p/q after a turn is what was made of f + q/p before it
made_again : (h k f p q : ℕ) → h * (f * p + q) + k * p ≡ (h * f + k) * p + h * q
made_again h k f p q = omega (arith, mul-add h (f * p) q, add-mul (h * f) k p)

one_less : (w v : ℕ) → 1 ≤ w → w * v ≡ (w - 1) * v + v
one_less w v h = let e : w - 1 + 1 ≡ w = omega arith in ap (λ n. n * v) (sym e) ∙ omega (arith, add-mul (w - 1) 1 v)

-- what a number does not reach is not 0
pub some_whole : (u v w : ℕ) → u < w * v → 1 ≤ w
some_whole u v zero h = absurd (omega arith)
some_whole u v (suc w) h = omega arith

-- near rounded up is w, so w - 1 is below near, and below far
both_above : (near far : Ratio) (w : ℕ) → 1 ≤ w → 1 ≤ far.under → near.over * far.under ≤ far.over * near.under → w * near.under < near.over + near.under → ((w - 1) * near.under < near.over) × ((w - 1) * far.under < far.over)
both_above near far w o d h l =
    let p = one_less w near.under o in
    let y : (w - 1) * near.under < near.over = omega arith in
    (y, lt_of_mul-lt-mul_right near.under (omega (arith, mul-lt-mul_of_pos_right y d)))

-- so far passes w by no more than a whole, and the product that compares them fits
pub reach_small : (near far : Ratio) (w : ℕ) → 1 ≤ far.under → near.over * far.under ≤ far.over * near.under → w * near.under < near.over + near.under → w * far.under ≤ far.over + far.under
reach_small near far zero d h l = omega arith
reach_small near far (suc w) d h l = omega (arith, both_above near far (suc w) (omega arith) d h l, one_less (suc w) far.under (omega arith))

-- where far does not reach w, both lie strictly between w - 1 and w
both_within : (near far : Ratio) (w : ℕ) → 1 ≤ near.under → 1 ≤ far.under → near.over * far.under ≤ far.over * near.under → w * near.under < near.over + near.under → far.over < w * far.under → Within (w - 1) near × Within (w - 1) far
both_within near far zero b d h l k = absurd (omega arith)
both_within near far (suc v) b d h l k =
    let w = suc v in
    let o : 1 ≤ suc v = omega arith in
    let p = one_less w near.under o in
    let q = one_less w far.under o in
    let a = both_above near far w o d h l in
    let u : near.over < suc v * near.under = lt_of_mul-lt-mul_right far.under (omega (arith, mul-lt-mul_of_pos_right k b)) in
    (record { above = a.0; below = omega arith }, record { above = a.1; below = omega arith })

-- one turn, at which near rounded up is w
module _ {near0 far0 near far last before : Ratio} {turns : ℕ} (s : Walking near0 far0 near far last before turns) (w : ℕ) (l : w * near.under < near.over + near.under) where
  -- v is w, or w - 1
  pub small : (v : ℕ) → v ≤ w → (last.over * v + before.over ≤ 2 ^ 41) × (last.under * v + before.under ≤ 2 ^ 38)
  small v h =
      let n = s.near_end in
      let m : w ≤ near.over = whole_below near.over near.under w near.over 1 l (omega arith) (mul-le-mul_left near.over n.some_under) in
      let k : v ≤ near.over = omega arith in (
        omega (arith, mul-le-mul_left last.over k, mul-le-mul_left before.over n.some_under),
        omega (arith, mul-le-mul_left last.under k, mul-le-mul_left before.under n.some_under),
      )

  pub reaching : w * far.under < 2 ^ 64
  reaching = omega (arith, reach_small near far w s.far_end.some_under s.order l, s.far_end.few_parts)

  pub answered : near.over ≤ w * near.under → w * far.under ≤ far.over → Least near0 (Some far0) (last.over * w + before.over) (last.under * w + before.under)
  answered e h = simp mul-one at (s.makes w 1 (whole_least_to near far w e l h))

  pub within : far.over < w * far.under → Within (w - 1) near × Within (w - 1) far
  within k = both_within near far w s.near_end.some_under s.far_end.some_under s.order l k

  pub turn : far.over < w * far.under → Walking near0 far0 (turned_by (w - 1) far) (turned_by (w - 1) near) (next last before (w - 1)) last (turns + 1)
  turn k =
      let f = w - 1 in
      let b = within k in
      record {
        near_end = turned last before far turns f s.far_end b.1;
        far_end = turned last before near turns f s.near_end b.0;
        order = turned_order f near.over near.under far.over far.under s.order;
        makes = λ p q h.
            rw (← made_again last.over before.over f p q, ← made_again last.under before.under f p q)
            (s.makes (f * p + q) p (turned_least near far f p q s.far_end.some_under b.0.above b.1.above h));
      }

-- a product of 2 or more has not been halved 79 times
pub ended : {near0 far0 near far last before : Ratio} {turns : ℕ} → Walking near0 far0 near far last before turns → turns ≢ 80
ended {near = near} s e =
    let n = s.near_end in
    let a : 2 ≤ near.over = omega (arith, n.above_one (omega arith)) in
    omega (arith, rw e at n.halved, mul-le-mul a n.some_under)

-- between any two fractions there is a least one: over the first denominator over which there is any, near rounded up
module _ (near far : Ratio) (o : 1 ≤ near.under) (l : near.over * far.under ≤ far.over * near.under) where
  up : ℕ → ℕ
  up q = near.over * q / near.under + min 1 (near.over * q % near.under)

  up_is : (q : ℕ) → (near.over * q ≤ up q * near.under) × (up q * near.under < near.over * q + near.under)
  unfolding up
  up_is q = rounded_up (near.over * q) near.under (up q) o refl

  up_below : (q t s : ℕ) → q ≤ t → near.over * t ≤ s * near.under → up q ≤ s
  up_below q t s h b = whole_below (near.over * q) near.under (up q) s 1 (up_is q).1 (omega arith) (omega (arith, mul-le-mul_left near.over h))

  abbrev any_over : ℕ → Option ℕ
  any_over q = then_some (nat_le (up q * far.under) (far.over * q)) q

  none_over : (q s : ℕ) → any_over q ≡ None → near.over * q ≤ s * near.under → s * far.under ≤ far.over * q → ⊥
  none_over q s e b c = omega (arith, leb-false _ _ (none_then _ q e), mul-le-mul_right far.under (up_below q q s (omega arith) b))

  least_exists : (p : ℕ) × (q : ℕ) × Least near (Some far) p q
  least_exists = on _ (first_is any_over near.under 1)
    where
      on : (r : Option ℕ) → FirstOf any_over 1 near.under r → (p : ℕ) × (q : ℕ) × Least near (Some far) p q
      on None f = absurd (none_over near.under near.over (f near.under o (omega arith)) (omega arith) l)
      on (Some y) f =
          let q = f.0 in
          let w = some_then _ q y f.3 in (
            up q,
            q,
            record {
              some = f.1;
              here = ((up_is q).0, leb-true _ _ w.0);
              least = λ s t h b. on_t s t h b (cases_lt t q);
            },
          )
        where
          on_t : (s t : ℕ) → 1 ≤ t → (near.over * t ≤ s * near.under) × (s * far.under ≤ far.over * t) → (t < f.0) ⊎ (f.0 ≤ t) → (up f.0 ≤ s) × (f.0 ≤ t)
          on_t s t h b (inl k) = absurd (none_over t s (f.4 t h k) b.0 b.1)
          on_t s t h b (inr k) = (up_below f.0 t s k b.0, k)

-- every span has a least fraction: that none is named means only that it is too large
pub span_least : (near : Ratio) (far : Option Ratio) → IsSpan near far → (p : ℕ) × (q : ℕ) × Least near far p q
span_least near None h =
    let u = rounded_up near.over near.under (near.over / near.under + min 1 (near.over % near.under)) h.some_under refl in
    (near.over / near.under + min 1 (near.over % near.under), 1, whole_least near _ u.0 u.1)
span_least near (Some far) h = least_exists near far h.0.some_under h.2

-- what is made has no part less than that of last, so where last has one past the limit, so has what is made
pub too_long : {near0 far0 near far last before : Ratio} {turns : ℕ} → Walking near0 far0 near far last before turns → 1 ≤ turns → false ≡ (nat_le last.over (2 ^ 18) && nat_le last.under (2 ^ 18)) → (p q : ℕ) → Least near0 (Some far0) p q → p ≤ 2 ^ 18 → q ≤ 2 ^ 18 → ⊥
too_long {near = near} {far = far} {last = last} {before = before} s t e p q h a b =
    let r = least_exists near far s.near_end.some_under s.order in
    let m = (s.makes r.0 r.1 r.2).least p q h.some h.here in
    let o : 1 ≤ r.0 = some near.over near.under r.0 r.1 (omega (arith, s.near_end.above_one t)) r.2.some r.2.here.0 in
    on r.0 r.1 (and_cases (nat_le last.over (2 ^ 18)) (nat_le last.under (2 ^ 18)) (sym e)) (mul-le-mul_left last.over o) (mul-le-mul_left last.under o) m.0 m.1
  where
    some : (u v p q : ℕ) → 1 ≤ u → 1 ≤ q → u * q ≤ p * v → 1 ≤ p
    some u v zero q h k l = absurd (omega (arith, mul-le-mul h k))
    some u v (suc p) q h k l = omega arith

    on : (x y : ℕ) → (nat_le last.over (2 ^ 18) ≡ false) ⊎ (nat_le last.under (2 ^ 18) ≡ false) → last.over * 1 ≤ last.over * x → last.under * 1 ≤ last.under * x → last.over * x + before.over * y ≤ p → last.under * x + before.under * y ≤ q → ⊥
    on x y (inl f) h k m n = omega (arith, leb-false _ _ f)
    on x y (inr f) h k m n = omega (arith, leb-false _ _ f)
