-- The lines that tell an answer.
use Rattle.std.specs.Prelude.{ℕ, List, ◌++◌, Some, None, Ok, Err, codes, decimal, Option, Result}
use Rattle.reader.specs.Reading.{Reading}
use Rattle.reader.specs.Refusals.{number_of, layer_of, block_in, record_in}
use Rattle.reader.specs.declared.refusal.Layer.{Layer}
use Rattle.reader.specs.declared.refusal.Layer.TheVariants as layer
use Rattle.reader.specs.declared.refusal.Refusal.{Refusal}

abbrev pub layer_text : Layer → List ℕ
layer_text layer.Image = codes "image"
layer_text layer.Block = codes "block"
layer_text layer.Record = codes "record"
layer_text layer.Step = codes "step"

-- what does not apply is a dash
abbrev pub place_text : Option ℕ → List ℕ
place_text (Some n) = decimal n
place_text None = codes "-"

abbrev pub refused_line : Refusal → List ℕ
refused_line e =
    codes "refused " ++ (decimal (number_of e) ++ (codes " " ++ (layer_text (layer_of e)
    ++ (codes " block " ++ (place_text (block_in e) ++ (codes " record " ++ place_text (record_in e)))))))

abbrev pub accepted_line : ℕ → ℕ → List ℕ
accepted_line records inputs = codes "accepted " ++ (decimal records ++ (codes " records, " ++ (decimal inputs ++ codes " inputs")))

abbrev pub line_of : Result Reading Refusal → List ℕ
line_of (Ok reading) = accepted_line reading.records reading.inputs
line_of (Err e) = refused_line e
