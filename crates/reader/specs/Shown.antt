-- What the answers of the reader show, by value: a reference is what it points to.
use Rattle.std.specs.Prelude.{ℕ, ◌/◌, cond, ◌&&◌, List, length, Ok, Err, Result, nat_lt}
use Rattle.rows.specs.Image.{block_with, record_of, first_in, second_in, u_in, v_in, is_input}
use Rattle.rows.specs.declared.origin.Origin.{Origin}
use Rattle.rows.specs.declared.origin.Origin.TheVariants.{Input, Step}
use Rattle.reader.specs.Reading.{Reading}
use Rattle.reader.specs.declared.accepted.Accepted.{Accepted}
use Rattle.reader.specs.declared.accepted.Record.{Record}
use Rattle.reader.specs.declared.accepted.Record.TheVariants as the-record
use Rattle.reader.specs.declared.refusal.Refusal.{Refusal}
use Rattle.reader.specs.declared.refusal.Refusal.TheVariants.{NoRecord}

abbrev pub reading_in : Accepted → Reading
reading_in a = record { image = a.bytes.now; records = a.records; inputs = a.inputs }

abbrev pub viewed : Result Accepted Refusal → Result Reading Refusal
viewed (Ok a) = Ok (reading_in a)
viewed (Err e) = Err e

-- a record: the 60 bytes of an input or of a step
pub data Shown : Type 0 where
  input : List ℕ → Shown
  step : List ℕ → Shown

-- its bytes, and where its row comes from, as the bytes have it
abbrev pub bytes_in : Shown → List ℕ
bytes_in (input rec) = rec
bytes_in (step rec) = rec

abbrev pub origin_in : Shown → Origin
origin_in (input rec) = Input (first_in rec)
origin_in (step rec) = Step (first_in rec) (second_in rec) (u_in rec) (v_in rec)

abbrev pub seen : Record → Shown
seen (the-record.Input bytes) = input bytes.now
seen (the-record.Step bytes) = step bytes.now

abbrev pub viewed_record : Result Record Refusal → Result Shown Refusal
viewed_record (Ok x) = Ok (seen x)
viewed_record (Err e) = Err e

-- record r, if it is below the count of records and the image reaches so far, as an accepted one does
abbrev pub shown_at : Reading → ℕ → Result Shown Refusal
shown_at reading r =
    cond (nat_lt r reading.records && nat_lt (block_with r) (length reading.image / 512))
    (cond (is_input (record_of reading.image r)) (Ok (input (record_of reading.image r))) (Ok (step (record_of reading.image r))))
    (Err (NoRecord r))
