-- The worked choices, computed from the definitions.
use Rattle.std.proofs.Common.{refl}
use Rattle.arith.specs.Gcd.{gcd_of, gcd_by}
use Rattle.naming.specs.Simplest.{simplest_of}
use Rattle.naming.specs.Edge.{short_of}
use Rattle.naming.specs.Dyadic.{dyadic_of}
use Rattle.choosers.specs.Worked.{WorkedChoices}

pub worked_choices : WorkedChoices
unfolding simplest_of short_of dyadic_of gcd_of gcd_by
worked_choices =
    record {
      simplest_two_fifths = refl;
      edge_two_fifths = refl;
      dyadic_thirteen_of_32 = refl;
      simplest_minus_four = refl;
      edge_minus_seven_halves = refl;
    }
