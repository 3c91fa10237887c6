-- The number of each refusal, and its text.
use Rattle.std.specs.Prelude.{ℕ, List, ◌++◌, codes, decimal}
use Rattle.writer.specs.declared.refusal.Refusal.{Refusal}
use Rattle.writer.specs.declared.refusal.Refusal.TheVariants.{TooShort, Header}

abbrev pub number_of : Refusal → ℕ
number_of TooShort = 11
number_of Header = 16

abbrev pub refused_line : Refusal → List ℕ
refused_line refusal = codes "refused " ++ decimal (number_of refusal)
