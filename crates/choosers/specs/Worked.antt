-- Choices worked through: [2/5, 3/7], and what is not above -7/2, both at scale 1.
use Rattle.std.specs.Prelude.{◌≡◌, pos, negsuc, Some, None, refl}
use Rattle.intervals.specs.declared.interval.Interval.{Interval}
use Rattle.naming.specs.Nearest.{over}
use Rattle.naming.specs.Simplest.{simplest_of}
use Rattle.naming.specs.Edge.{edge_over}
use Rattle.naming.specs.Dyadic.{dyadic_over}

abbrev pub two_fifths_on : Interval
two_fifths_on =
    record {
      scale = 1;
      lower = Some (record { numerator = pos 2; divisor = 5 });
      upper = Some (record { numerator = pos 3; divisor = 7 });
      rules = refl;
    }

abbrev pub to_minus_seven_halves : Interval
to_minus_seven_halves = record { scale = 1; lower = None; upper = Some (record { numerator = negsuc 6; divisor = 2 }); rules = refl }

pub record WorkedChoices : Type 0 where
  pub simplest_two_fifths : simplest_of two_fifths_on ≡ Some (over (pos 2) 5)
  pub edge_two_fifths : edge_over simplest_of two_fifths_on ≡ Some (over (pos 2) 5)
  pub dyadic_thirteen_of_32 : dyadic_over simplest_of two_fifths_on ≡ Some (over (pos 13) 32)
  pub simplest_minus_four : simplest_of to_minus_seven_halves ≡ Some (over (negsuc 3) 1)
  pub edge_minus_seven_halves : edge_over simplest_of to_minus_seven_halves ≡ Some (over (negsuc 6) 2)
