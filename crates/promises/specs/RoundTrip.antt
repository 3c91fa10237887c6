-- What is written of a derivation comes back.
use Rattle.std.specs.Prelude.{◌≡◌, ℕ, Bool, true, List, is_ok, Ok, Result}
use Rattle.rows.specs.Derivations.{Derivation, IsDerivation}
use Rattle.rows.specs.Image.{image_of}
use Rattle.rows.specs.Questions.{answered}
use Rattle.reader.specs.Exactness.{Shows}
use Rattle.reader.specs.Reading.{Reading, read_of}
use Rattle.writer.specs.Writing.{write_asked}
use Rattle.writer.specs.declared.refusal.Refusal.{Refusal}

-- whether the image is accepted, once it is written
abbrev pub back_of : Derivation → List ℕ → Result Bool Refusal
back_of d buffer = answered (write_asked d buffer) (is_ok (read_of (image_of d)))

-- the image of a derivation is accepted, and shown as the same records
abbrev pub ComesBack : Derivation → Bool → Type 0
ComesBack d accepted = IsDerivation d → (accepted ≡ true) × ((reading : Reading) × (read_of (image_of d) ≡ Ok reading) × Shows reading d)
