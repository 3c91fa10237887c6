-- A fraction as text: its numerator, a stroke, its denominator.
use Rattle.std.specs.Prelude.{ℕ, List, ◌++◌, codes, decimal}
use Rattle.std.specs.Fmt.{signed_decimal}
use Rattle.intervals.specs.declared.fraction.Fraction.{Fraction}

abbrev pub fraction_text : Fraction → List ℕ
fraction_text f = signed_decimal f.numerator ++ (codes "/" ++ decimal f.denominator)
