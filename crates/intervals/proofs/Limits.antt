-- What the rules of scales, ends, intervals and short fractions say, as facts.
use Rattle.std.proofs.Common.{rules, ◌≡◌, ℕ, ◌*◌, ◌^◌, ◌≤◌, true, nat_abs, Some, Option}
use Rattle.std.proofs.lemmas.Bool.{and_parts}
use Rattle.arith.specs.Gcd.{gcd_of}
use Rattle.intervals.specs.Ends.{is_scale, is_end, in_order, are_ends}
use Rattle.intervals.specs.Meaning.{is_short}
use Rattle.intervals.specs.declared.fraction.Fraction.{Fraction}
use Rattle.intervals.specs.declared.interval.End.{End}
use Rattle.intervals.specs.declared.interval.Interval.{Interval}

pub record EndLimits (e : End) : Type 0 where
  pub numerator : nat_abs e.numerator ≤ 2 ^ 41
  pub some : 1 ≤ e.divisor
  pub divisor : e.divisor ≤ 2 ^ 20

pub end_limits : (e : End) → is_end e ≡ true → EndLimits e
end_limits e h = search rules

pub record ShortLimits (f : Fraction) : Type 0 where
  pub numerator : nat_abs f.numerator ≤ 2 ^ 18
  pub some : 1 ≤ f.denominator
  pub denominator : f.denominator ≤ 2 ^ 18
  pub lowest : gcd_of (nat_abs f.numerator) f.denominator ≡ 1

pub short_limits : (f : Fraction) → is_short f ≡ true → ShortLimits f
short_limits f h = search rules

pub short_from : (f : Fraction) → nat_abs f.numerator ≤ 2 ^ 18 → 1 ≤ f.denominator → f.denominator ≤ 2 ^ 18 → gcd_of (nat_abs f.numerator) f.denominator ≡ 1 → is_short f ≡ true
short_from f a b c d = search rules

-- a divisor times a scale
pub under_small : (d s : ℕ) → d ≤ 2 ^ 20 → s ≤ 2 ^ 18 → d * s ≤ 2 ^ 38
under_small d s h k = search rules

-- what the rules say of the ends that there are
pub record EndsLimits (lower upper : Option End) : Type 0 where
  pub lower_end : (a : End) → lower ≡ Some a → EndLimits a
  pub upper_end : (b : End) → upper ≡ Some b → EndLimits b
  pub ordered : (a b : End) → lower ≡ Some a → upper ≡ Some b → in_order a b ≡ true

pub ends_limits : (lower upper : Option End) → are_ends lower upper ≡ true → EndsLimits lower upper
ends_limits lower upper h =
    record {
      lower_end = λ a e. search (rules, end_limits);
      upper_end = λ b e. search (rules, end_limits);
      ordered = λ a b e f. search rules;
    }

pub record IntervalLimits (i : Interval) : Type 0 where
  pub some_scale : 1 ≤ i.scale
  pub few_scale : i.scale ≤ 2 ^ 18
  pub ends : EndsLimits i.lower i.upper

pub interval_limits : (i : Interval) → IntervalLimits i
interval_limits i =
    let p : (is_scale i.scale ≡ true) × (are_ends i.lower i.upper ≡ true) = and_parts _ _ i.rules in
    search (rules, ends_limits)
