-- What the code finds is what simplest names, and that is the simplest fraction if it is short.
use Rattle.std.proofs.Common.{◌≡◌, ℕ, ◌^◌, ◌<◌, Some, None, Option, sym, ◌∙◌, ap, subst, arith}
use Rattle.std.specs.Prelude.{pos, unsigned_abs}
use Rattle.std.specs.Bool.{then_some}
use Rattle.arith.specs.Gcd.{gcd_of}
use Rattle.intervals.specs.declared.fraction.Fraction.{Fraction}
use Rattle.intervals.specs.declared.interval.Interval.{Interval}
use Rattle.naming.specs.Nearest.{over, if_short}
use Rattle.naming.specs.Simplest.{simplest_of, IsSimplest, NamesSimplest}
use Rattle.naming.specs.Spans.{Seen, signed, span_of, Least, LeastShort, IsSpan}
use Rattle.naming.specs.declared.ratio.Ratio.{Ratio}
use Rattle.naming.proofs.Leasts.{least_lowest}
use Rattle.naming.proofs.SpanLaw.{Sees, SeesOption, span_sees}
use Rattle.naming.proofs.SimplestLaw.{abs-signed, simplest_seen, simplest_zero, simplest_only, simplest_exists, simplest_named, least_of_simplest, long_none, zero_short}

pub zero_named : Some (over (pos 0) 1) ≡ if_short (over (pos 0) 1)
zero_named = ap (λ b. then_some b (over (pos 0) 1)) (sym zero_short)

pub zero_is : (i : Interval) → span_of i ≡ None → Some (over (pos 0) 1) ≡ simplest_of i
zero_is i e = sym (simplest_named i (over (pos 0) 1) (simplest_zero i (subst (SeesOption i) e (span_sees i))) ∙ sym zero_named)

pub least_is : (i : Interval) (s : Seen) (p q : ℕ) → span_of i ≡ Some s → Least s.near s.far p q → if_short (over (signed s.side p) q) ≡ simplest_of i
least_is i s p q e l = sym (simplest_named i (over (signed s.side p) q) (simplest_seen i s (subst (SeesOption i) e (span_sees i)) p q l))

-- where the least fraction of the span has a part past 2^18, the simplest is not short, and nothing is named
pub none_named : (i : Interval) (s : Seen) → Sees i s → LeastShort s.near s.far None → (f : Fraction) × IsSimplest i f × (None ≡ if_short f)
none_named i s v n =
    let f = simplest_exists i in
    let l = least_of_simplest i s v f.0 f.1 in
    (f.0, f.1, sym (long_none f.0 (λ a b. n (unsigned_abs f.0.numerator) f.0.denominator l a b)))

pub none_is : (i : Interval) (s : Seen) → span_of i ≡ Some s → LeastShort s.near s.far None → None ≡ simplest_of i
none_is i s e n = let f = none_named i s (subst (SeesOption i) e (span_sees i)) n in f.2 ∙ sym (simplest_named i f.0 f.1)

-- the least fraction is not above the near end
pub least_small : (near : Ratio) (far : Option Ratio) (p q : ℕ) → IsSpan near far → Least near far p q → p < 2 ^ 63
least_small near None p q h l = omega (arith, (l.least near.over near.under h.some_under (omega arith)).0, h.few_over)
least_small near (Some far) p q h l = omega (arith, (l.least near.over near.under h.0.some_under (omega arith, h.2)).0, h.0.few_over)

-- the least fraction is in lowest terms
pub signed_lowest : (s : Seen) (p q : ℕ) → Least s.near s.far p q → gcd_of (unsigned_abs (signed s.side p)) q ≡ 1
signed_lowest s p q l = ap (λ k. gcd_of k q) (abs-signed s.side p) ∙ least_lowest s.near s.far p q l

pub ruleset least_facts = (zero_is, least_is, none_is, signed_lowest)

pub names_by : (i : Interval) (f : Fraction) (r : Option Fraction) → IsSimplest i f → r ≡ if_short f → NamesSimplest i r
names_by i f r h e = record { fraction = f; simplest = h; only = λ g k. simplest_only i f g h k; named = e }

pub names_simplest : (i : Interval) → NamesSimplest i (simplest_of i)
names_simplest i = let f = simplest_exists i in names_by i f.0 (simplest_of i) f.1 (simplest_named i f.0 f.1)
