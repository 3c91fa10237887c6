-- What the writer answers, and what the buffer holds then.
use Rattle.std.specs.Prelude.{ℕ, ◌+◌, Bool, ◌&&◌, List, ◌++◌, length, take, drop, Ok, Err, Result, nat_le}
use Rattle.rows.specs.Derivations.{Derivation}
use Rattle.rows.specs.Image.{image_size, image_of}
use Rattle.rows.specs.Origins.{records_with}
use Rattle.rows.specs.Questions.{asked, ◌then◌, answered}
use Rattle.writer.specs.declared.records.Records.{Records}
use Rattle.writer.specs.declared.refusal.Refusal.{Refusal}
use Rattle.writer.specs.declared.refusal.Refusal.TheVariants as no

-- the bytes with a part written over them
abbrev pub written : List ℕ → ℕ → List ℕ → List ℕ
written bs at part = take at bs ++ (part ++ drop (at + length part) bs)

-- what is to be written, by value
abbrev pub derivation_of : Records → Derivation
derivation_of x = record { unknowns = x.unknowns; records = records_with x.origins.now x.rows.now }

-- n from 1 to 8 and t from 1 to 256
abbrev pub header_holds : ℕ → ℕ → Bool
header_holds n t = nat_le 1 n && (nat_le n 8 && (nat_le 1 t && nat_le t 256))

abbrev pub write_asked : Derivation → List ℕ → Result (Unit {0}) Refusal
write_asked d buffer =
    asked (header_holds d.unknowns (length d.records)) no.Header
    then asked (nat_le (image_size (length d.records)) (length buffer)) no.TooShort

-- the length of the image, or the refusal
abbrev pub write_of : Derivation → List ℕ → Result ℕ Refusal
write_of d buffer = answered (write_asked d buffer) (image_size (length d.records))

-- the image in front and every later byte as before, or the buffer as it was
abbrev pub held_after : Result ℕ Refusal → Derivation → List ℕ → List ℕ
held_after (Ok size) d buffer = image_of d ++ drop size buffer
held_after (Err refusal) d buffer = buffer
