-- What a line of the program says besides the choosers' names.
use Rattle.std.specs.Prelude.{ℕ, List, Some, None, Option, codes}
use Rattle.intervals.specs.Text.{fraction_text}
use Rattle.intervals.specs.declared.fraction.Fraction.{Fraction}
use Rattle.choices.specs.declared.text.LineError.{LineError}
use Rattle.choices.specs.declared.text.LineError.TheVariants.{NotUnderstood, NoInterval}

abbrev pub error_text : LineError → List ℕ
error_text NotUnderstood = codes "not understood"
error_text NoInterval = codes "no interval"

abbrev pub choice_text : Option Fraction → List ℕ
choice_text (Some f) = fraction_text f
choice_text None = codes "nothing"
