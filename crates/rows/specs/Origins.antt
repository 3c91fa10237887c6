-- Rows with their origins, as the records of a derivation.
use Rattle.std.specs.Prelude.{List, [], ◌∷◌}
use Rattle.rows.specs.Derivations.{Record, input, step}
use Rattle.rows.specs.declared.origin.Origin.{Origin}
use Rattle.rows.specs.declared.origin.Origin.TheVariants.{Input, Step}
use Rattle.rows.specs.declared.kind.Kind.{Kind}
use Rattle.rows.specs.declared.kind.Kind.TheVariants as kind
use Rattle.rows.specs.declared.plain.PlainRow.{PlainRow}

abbrev pub kind_of : Origin → Kind
kind_of (Input tag) = kind.Input
kind_of (Step first second u v) = kind.Step

abbrev pub record_with : Origin → PlainRow → Record
record_with (Input tag) row = input tag row.numbers
record_with (Step first second u v) row = step first second u v row.numbers

-- as many as there are origins and rows
abbrev pub records_with : List Origin → List PlainRow → List Record
records_with [] rows = []
records_with (origin ∷ origins) [] = []
records_with (origin ∷ origins) (row ∷ rows) = record_with origin row ∷ records_with origins rows
