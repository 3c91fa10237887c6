-- The definitions of what is named, said once more by cases and by recursion: denominator by denominator, power by power.
use Rattle.std.specs.Prelude.{◌≡◌, ℕ, zero, suc, ◌+◌, ◌*◌, ◌^◌, Bool, cond, true, false, ℤ, Some, None, Option, option_and_then, nat_le, unsigned_abs, refl}
use Rattle.std.proofs.Common.{◌-◌, ◌<◌, ◌≤◌, is_some, sym, ◌∙◌, ap, ap₂, add-one, mul_comm, pow_pos, pow_mono, arith}
use Rattle.std.proofs.lemmas.Bool.{both_ways}
use Rattle.std.proofs.Math.Nat.{pow-succ'}
use Rattle.std.specs.List.{slice_get, cons_option, filter_map, range_with_len}
use Rattle.std.specs.Option.{option_map, option_or}
use Rattle.std.specs.Bool.{then_some}
use Rattle.rows.specs.Rows.{value_limit}
use Rattle.intervals.specs.Meaning.{is_short}
use Rattle.intervals.specs.declared.fraction.Fraction.{Fraction}
use Rattle.intervals.specs.declared.interval.End.{End}
use Rattle.intervals.specs.declared.interval.Interval.{Interval}
use Rattle.naming.specs.Nearest.{nearest_at, over, if_short}
use Rattle.naming.specs.Simplest.{nearest_over, simplest_of}
use Rattle.naming.specs.Dyadic.{over_power, dyadic_of}
use Rattle.naming.specs.Edge.{lowest_terms, short_of, end_named}
use Rattle.naming.specs.Spans.{Seen, signed, LeastOver}
use Rattle.naming.proofs.Powers.{nearest_seen}
use Rattle.naming.proofs.SpanLaw.{Sees}

-- a fraction, if it is short
abbrev if_short_by_cases : Fraction → Option Fraction
if_short_by_cases f = cond (is_short f) (Some f) None

pub same_if_short : (f : Fraction) → if_short_by_cases f ≡ if_short f
same_if_short f = on (is_short f)
  where
    on : (b : Bool) → cond b (Some f) None ≡ then_some b f
    on true = refl
    on false = refl

-- p/q if it is short, where there is a p, and else what comes later
pub over_or : Option ℤ → ℕ → Option Fraction → Option Fraction
over_or (Some p) q later = if_short_by_cases (over p q)
over_or None q later = later

-- the first of so many denominators, from q on, with a fraction in the interval; its numerator is the nearest to 0
pub first_from : ℕ → ℕ → Interval → Option Fraction
first_from zero q i = None
first_from (suc more) q i = over_or (nearest_at i q) q (first_from more (suc q) i)

same_first : (i : Interval) (more q : ℕ) → first_from more q i ≡ option_and_then if_short (slice_get (filter_map (nearest_over i) (range_with_len q more)) 0)
unfolding first_from over_or
same_first i zero q = refl
same_first i (suc more) q = on (nearest_at i q) (same_first i more (suc q) ∙ ap (λ x. option_and_then if_short (slice_get (filter_map (nearest_over i) (range_with_len x more)) 0)) (sym (add-one q)))
  where
    on : (r : Option ℤ) → first_from more (suc q) i ≡ option_and_then if_short (slice_get (filter_map (nearest_over i) (range_with_len (q + 1) more)) 0) → over_or r q (first_from more (suc q) i) ≡ option_and_then if_short (slice_get (cons_option (option_map (λ p. over p q) r) (filter_map (nearest_over i) (range_with_len (q + 1) more))) 0)
    on None e = e
    on (Some p) e = same_if_short (over p q)

pub same_simplest : (i : Interval) → first_from (2 ^ 18) 1 i ≡ simplest_of i
unfolding simplest_of
same_simplest i = same_first i (2 ^ 18) 1

-- n/m, if there is an n and it is within 2^18
pub within_by_cases : Option ℤ → ℕ → Option Fraction
within_by_cases None m = None
within_by_cases (Some n) m = cond (nat_le (unsigned_abs n) value_limit) (Some (over n m)) None

-- the first of so many powers of two, from m on, for which some n/m with n within 2^18 lies in the interval
pub powers_from : ℕ → ℕ → Interval → Option Fraction
powers_from zero m i = None
powers_from (suc more) m i = option_or (within_by_cases (nearest_at i m) m) (powers_from more (2 * m) i)

same_powers : (i : Interval) (more k : ℕ) → powers_from more (2 ^ k) i ≡ slice_get (filter_map (over_power i) (range_with_len k more)) 0
unfolding powers_from within_by_cases
same_powers i zero k = refl
same_powers i (suc more) k = on (nearest_at i (2 ^ k)) (ap (λ m. powers_from more m i) (sym (pow-succ' 2 k) ∙ ap (λ j. 2 ^ j) (sym (add-one k))) ∙ same_powers i more (k + 1))
  where
    rest : Option Fraction
    rest = slice_get (filter_map (over_power i) (range_with_len (k + 1) more)) 0

    by : (p : ℤ) (b : Bool) → powers_from more (2 * 2 ^ k) i ≡ slice_get (filter_map (over_power i) (range_with_len (k + 1) more)) 0 → option_or (cond b (Some (over p (2 ^ k))) None) (powers_from more (2 * 2 ^ k) i) ≡ slice_get (cons_option (then_some b (over p (2 ^ k))) (filter_map (over_power i) (range_with_len (k + 1) more))) 0
    by p true e = refl
    by p false e = e

    on : (r : Option ℤ) → powers_from more (2 * 2 ^ k) i ≡ slice_get (filter_map (over_power i) (range_with_len (k + 1) more)) 0 → option_or (within_by_cases r (2 ^ k)) (powers_from more (2 * 2 ^ k) i) ≡ slice_get (cons_option (option_and_then (λ n. then_some (nat_le (unsigned_abs n) value_limit) (over n (2 ^ k))) r) (filter_map (over_power i) (range_with_len (k + 1) more))) 0
    on None e = e
    on (Some p) e = by p (nat_le (unsigned_abs p) value_limit) e

pub same_dyadic : (i : Interval) → powers_from 19 1 i ≡ dyadic_of i
unfolding dyadic_of
same_dyadic i = same_powers i 19 0

-- one power more, as a span says it
pub power_more : (i : Interval) (s : Seen) → Sees i s → (more m : ℕ) → 1 ≤ m → (n : Option ℕ) → LeastOver s.near s.far m n → powers_from (suc more) m i ≡ option_or (within_by_cases (option_map (signed s.side) n) m) (powers_from more (2 * m) i)
unfolding powers_from
power_more i s v more m h n l = ap (λ r. option_or (within_by_cases r m) (powers_from more (2 * m) i)) (nearest_seen i s v m h n l)

-- power by power: k of them are done, and m is the next
pub power_is : (k m : ℕ) → k < 19 → m ≡ 2 ^ k → (1 ≤ m) × (m ≤ 2 ^ 18)
power_is k m h e = rw e (pow_pos k, pow_mono {i = k} {j = 18} (omega arith))

module _ (i : Interval) (s : Seen) (v : Sees i s) (k m : ℕ) (h : k < 19) (some : 1 ≤ m) (n : Option ℕ) (l : LeastOver s.near s.far m n) (whole : powers_from (19 - k) m i ≡ dyadic_of i) where
  turn : option_or (within_by_cases (option_map (signed s.side) n) m) (powers_from (18 - k) (2 * m) i) ≡ dyadic_of i
  turn = sym (power_more i s v (18 - k) m some n l) ∙ ap (λ x. powers_from x m i) (left k h) ∙ whole
    where
      left : (k : ℕ) → k < 19 → suc (18 - k) ≡ 19 - k
      left k h = omega arith

  pub turn_named : (r : Option Fraction) → r ≡ within_by_cases (option_map (signed s.side) n) m → true ≡ is_some r → r ≡ dyadic_of i
  turn_named r e t = on r t ∙ ap (λ r. option_or r (powers_from (18 - k) (2 * m) i)) e ∙ turn
    where
      on : (r : Option Fraction) → true ≡ is_some r → r ≡ option_or r (powers_from (18 - k) (2 * m) i)
      on (Some f) t = refl
      on None t = absurd (both_ways false refl (sym t))

  pub turn_on : (r : Option Fraction) → r ≡ within_by_cases (option_map (signed s.side) n) m → false ≡ is_some r → powers_from (19 - (k + 1)) (m * 2) i ≡ dyadic_of i
  turn_on r e t = ap₂ (λ x y. powers_from x y i) (less k h) (mul_comm m 2) ∙ on r t ∙ ap (λ r. option_or r (powers_from (18 - k) (2 * m) i)) e ∙ turn
    where
      less : (k : ℕ) → k < 19 → 19 - (k + 1) ≡ 18 - k
      less k h = omega arith

      on : (r : Option Fraction) → false ≡ is_some r → powers_from (18 - k) (2 * m) i ≡ option_or r (powers_from (18 - k) (2 * m) i)
      on (Some f) t = absurd (both_ways true (sym t) refl)
      on None t = refl

-- all powers are done
pub none_left : (i : Interval) (k m : ℕ) → 19 ≤ k → powers_from (19 - k) m i ≡ dyadic_of i → None ≡ dyadic_of i
unfolding powers_from
none_left i k m h e = sym (ap (λ x. powers_from x m i) (none k h)) ∙ e
  where
    none : (k : ℕ) → 19 ≤ k → 19 - k ≡ 0
    none k h = omega arith

-- the end, if there is one and it is short
pub end_named_by_cases : ℕ → Option End → Option Fraction
end_named_by_cases scale None = None
end_named_by_cases scale (Some e) = if_short_by_cases (lowest_terms e.numerator (e.divisor * scale))

pub same_end : (scale : ℕ) (e : Option End) → end_named_by_cases scale e ≡ end_named scale e
unfolding end_named_by_cases short_of
same_end scale None = refl
same_end scale (Some e) = same_if_short (lowest_terms e.numerator (e.divisor * scale))
