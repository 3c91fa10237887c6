-- Layers over a chooser keep a chooser's meaning.
use Rattle.std.proofs.Common.{arith}
use Rattle.intervals.specs.Meaning.{Rule, Keeps, layered, Offered}
use Rattle.intervals.specs.declared.interval.Interval.{Interval}

-- so a layer has to show no more than that what it names itself may be named
pub layer_keeps : (own below : Rule) → ((i : Interval) → Offered i (own i)) → Keeps below → Keeps (layered own below)
layer_keeps own below offers keeps i = grind (arith, offers i, keeps i)
