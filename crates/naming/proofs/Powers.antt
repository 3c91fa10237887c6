-- What the code finds over the powers of two is the dyadic choice.
use Rattle.std.proofs.Common.{rules, ◌≡◌, ℕ, ◌+◌, ◌^◌, ◌<◌, ◌≤◌, true, Some, None, Option, sym, ◌∙◌, ap, subst, pow_pos, zero-add, arith}
use Rattle.std.specs.Prelude.{pos, unsigned_abs}
use Rattle.std.specs.Fn.{Called}
use Rattle.std.specs.Bool.{IsTrue}
use Rattle.std.specs.Option.{MatchOption, IfSome, IsSomeAnd, option_map}
use Rattle.std.specs.Iterator.Runs.{Run, SomeRun, ItemsCountUp, CallKeepsClosure, AllItemsGive, IsFirstToGive}
use Rattle.std.specs.declared.ops.Range.{Range}
use Rattle.std.proofs.iter.Yields.{nat_range_steps}
use Rattle.std.proofs.iter.runs.Sources.{range_runs}
use denote.Param.Members.{Mut}
use Rattle.intervals.specs.Meaning.{inside}
use Rattle.intervals.specs.declared.fraction.Fraction.{Fraction}
use Rattle.intervals.specs.declared.interval.Interval.{Interval}
use Rattle.naming.specs.Nearest.{nearest_at, over}
use Rattle.naming.specs.Dyadic.{within_limit, over_power, dyadic_of, NamesOver}
use Rattle.naming.specs.Spans.{Seen, signed, span_of, LeastOver}
use Rattle.naming.proofs.Firsts.{FirstOf, first_is, first_only}
use Rattle.naming.proofs.NearestLaw.{Nearest, nearest_is, nearest_unique}
use Rattle.naming.proofs.SimplestLaw.{abs-signed}
use Rattle.naming.proofs.SpanLaw.{Sees, SeesOption, span_sees}

-- what is found is the choice, and where 0 lies in the interval, that is 0
pub first_is_dyadic : (i : Interval) (r : Option Fraction) → FirstOf (over_power i) 0 19 r → r ≡ dyadic_of i
unfolding dyadic_of
first_is_dyadic i r f = first_only (over_power i) 19 0 r (dyadic_of i) f (first_is (over_power i) 19 0)

pub zero_first : (i : Interval) → ((q : ℕ) → inside i (over (pos 0) q) ≡ true) → Some (over (pos 0) 1) ≡ dyadic_of i
zero_first i z =
    let e = nearest_unique i 1 (nearest_at i 1) (Some (pos 0)) (nearest_is i 1) (z 1, λ s h. omega arith) in
    first_is_dyadic i (Some (over (pos 0) 1)) (0, omega arith, omega arith, ap (λ n. within_limit n 1) e, λ j l m. absurd (omega arith))

pub zero_is_dyadic : (i : Interval) → span_of i ≡ None → Some (over (pos 0) 1) ≡ dyadic_of i
zero_is_dyadic i s = zero_first i (subst (SeesOption i) s (span_sees i))

-- what is found by magnitudes is the nearest to 0
pub nearest_seen : (i : Interval) (s : Seen) → Sees i s → (m : ℕ) → 1 ≤ m → (n : Option ℕ) → LeastOver s.near s.far m n → nearest_at i m ≡ option_map (signed s.side) n
nearest_seen i s v m h n l = nearest_unique i m (nearest_at i m) (option_map (signed s.side) n) (nearest_is i m) (on n l)
  where
    on : (n : Option ℕ) → LeastOver s.near s.far m n → Nearest i m (option_map (signed s.side) n)
    on None l = λ p e. l (unsigned_abs p) (v.within p m h e).1
    on (Some n) l = (v.onto n m l.0, λ p e. rw (abs-signed s.side n) (l.1 (unsigned_abs p) (v.within p m h e).1))

-- what is named of the span over a power is what is named of the interval
pub named_over : (i : Interval) (s : Seen) → span_of i ≡ Some s → (k : ℕ) (r : Option Fraction) → NamesOver s (2 ^ k) r → r ≡ over_power i k
named_over i s e k r n =
    n.2 ∙ ap (λ p. within_limit p (2 ^ k)) (sym (nearest_seen i s (subst (SeesOption i) e (span_sees i)) (2 ^ k) (pow_pos k) n.0 n.1))

-- the item of a run at a place, of which something is known
at_item : (o : Option ℕ) (k : ℕ) (P : ℕ → Type 0) → option_map (λ y. y) o ≡ Some k → IfSome o P → P k
at_item o k P e h = search rules

at_place : (o : Option ℕ) (k : ℕ) (P : ℕ → Type 0) → option_map (λ y. y) o ≡ Some k → IsSomeAnd o P → P k
at_place o k P e h = search rules

-- `find_map` over the numbers below n, by a closure that answers as h does
module _ {F B : Type 0} {g : Mut F (ℕ × Unit {0}) (Option B)} (h : ℕ → Option B) (f : F) (keeps : (k : ℕ) (r : Option B) (f' : F) → Called g f (k, tt) r f' → f' ≡ f) (answers : (k : ℕ) (r : Option B) (f' : F) → Called g f (k, tt) r f' → r ≡ h k) where
  kept : CallKeepsClosure g f
  kept a r f' c = keeps a.0 r f' c

  module _ (n : ℕ) (p : Run nat_range_steps) (e : p.from ≡ record { start = 0; end = n }) where
    counts : ItemsCountUp p 0 n
    counts = subst (λ (s : Range ℕ). ItemsCountUp p s.start s.end) e (range_runs p p.seen)

    item : (k : ℕ) → k < p.len → (r : Option B) → IfSome (p.at k) (λ x. Called g f (x, tt) r f) → r ≡ h k
    item k l r q = answers k r f (at_item (p.at k) k (λ x. Called g f (x, tt) r f) (counts.3 k l ∙ ap Some (zero-add k)) q)

    place : (k : ℕ) → k < p.len → (r : Option B) → IsSomeAnd (p.at k) (λ x. Called g f (x, tt) r f) → r ≡ h k
    place k l r q = answers k r f (at_place (p.at k) k (λ x. Called g f (x, tt) r f) (counts.3 k l ∙ ap Some (zero-add k)) q)

    run_finds : (r : Option B) → MatchOption r (IsTrue p.whole × AllItemsGive p g f None) (λ y. (i : ℕ) × (i < p.len) × (p.len ≡ i + 1) × IsFirstToGive p g f (Some y) None i) → FirstOf h 0 n r
    run_finds None q = λ k l m. sym (item k (omega (arith, counts.1 q.0)) None (q.1 kept k))
    run_finds (Some y) q =
        let i = q.0 in
        let w = q.3 kept in
        (i, omega arith, omega (arith, q.1, counts.0), sym (place i q.1 (Some y) w.0), λ j l m. sym (place j (omega (arith, q.1)) None (w.1 j m)))

  pub find_map_finds : (n : ℕ) (s : Range ℕ) → s ≡ record { start = 0; end = n } → (r : Option B) → SomeRun nat_range_steps s (λ p. MatchOption r (IsTrue p.whole × AllItemsGive p g f None) (λ y. (i : ℕ) × (i < p.len) × (p.len ≡ i + 1) × IsFirstToGive p g f (Some y) None i)) → FirstOf h 0 n r
  find_map_finds n s e r q = run_finds n q.0 (q.1 ∙ e) r q.2
