-- The reader accepts exactly the images of derivations.
use Rattle.std.specs.Prelude.{◌≡◌, ℕ, ◌<◌, List, [], length, Ok, Err, Result, ◌≢◌, slice_index_or}
use Rattle.rows.specs.Derivations.{Record, input, step, inputs_of, Derivation, IsDerivation, NoneFits}
use Rattle.rows.specs.Image.{record_bytes, image_of}
use Rattle.reader.specs.Reading.{Reading}
use Rattle.reader.specs.Shown.{Shown, shown_at}
use Rattle.reader.specs.Shown as shown
use Rattle.reader.specs.declared.refusal.Refusal.{Refusal}

-- how a record of a derivation is shown: its own bytes, as an input or as a step
abbrev pub shown_of : Record → Shown
shown_of (input tag row) = shown.input (record_bytes (input tag row))
shown_of (step first second u v row) = shown.step (record_bytes (step first second u v row))

-- what was read shows this derivation: so many records, so many of them inputs, and each record
pub record Shows (reading : Reading) (d : Derivation) : Type 0 where
  pub records : reading.records ≡ length d.records
  pub inputs : reading.inputs ≡ length (inputs_of d.records)
  pub each : (r : ℕ) → r < length d.records → shown_at reading r ≡ Ok (shown_of (slice_index_or d.records r (input 0 [])))

-- the bytes are the image of this derivation and of no other, and it is the one that is shown; no fractions satisfy all its input rows
pub record IsImageOf (bytes : List ℕ) (reading : Reading) (d : Derivation) : Type 0 where
  pub derivation : IsDerivation d
  pub image : bytes ≡ image_of d
  pub only : (e : Derivation) → IsDerivation e → bytes ≡ image_of e → e ≡ d
  pub shows : Shows reading d
  pub none_fits : NoneFits d

-- bytes are accepted exactly when there is a derivation whose image they are
abbrev pub AcceptsExactlyImages : List ℕ → Result Reading Refusal → Type 0
AcceptsExactlyImages bytes (Ok reading) = (d : Derivation) × IsImageOf bytes reading d
AcceptsExactlyImages bytes (Err refusal) = (d : Derivation) → IsDerivation d → bytes ≢ image_of d
