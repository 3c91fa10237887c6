-- What the chooser names itself may be named: the test says so.
use Rattle.std.specs.Prelude.{◌≡◌, Bool, true, false, cond, ◌&&◌, Some, None, refl}
use Rattle.std.proofs.lemmas.Bool.{and_parts}
use Rattle.intervals.specs.Meaning.{is_short, inside, Offered}
use Rattle.intervals.specs.declared.fraction.Fraction.{Fraction}
use Rattle.intervals.specs.declared.interval.Interval.{Interval}
use Rattle.choices.specs.Likely.{admitted_at}

pub likely_offers : (f : Fraction) (i : Interval) → Offered i (admitted_at f i)
likely_offers f i = on (is_short f && inside i f) refl
  where
    on : (b : Bool) → (is_short f && inside i f) ≡ b → Offered i (cond b (Some f) None)
    on true e = and_parts (is_short f) (inside i f) e
    on false e = tt
