-- What the header's questions make sure of, and what follows for the records.
use Rattle.std.proofs.Common.{◌≡◌, ℕ, ◌+◌, ◌/◌, ◌<◌, ◌≤◌, true, cond, ltb, List, length, Ok, arith}
use Rattle.std.proofs.lemmas.Bool.{lt-ltb}
use Rattle.std.proofs.lemmas.Bool.Decides.{nat_tests}
use Rattle.rows.specs.Bytes.{le16}
use Rattle.rows.specs.Image.{block_of, record_of, is_input, records_in, image_size}
use Rattle.reader.specs.Reading.{header_right, Sized, reading_of}
use Rattle.reader.specs.Shown.{input, step, shown_at}

-- what the header's numbers are
pub record HeaderYes (block : List ℕ) (size : ℕ) : Type 0 where
  pub edition : le16 block 8 ≡ 1
  pub unknowns : (1 ≤ le16 block 10) × (le16 block 10 ≤ 8)
  pub records : (1 ≤ le16 block 12) × (le16 block 12 ≤ 256)
  pub its_size : size ≡ image_size (le16 block 12)

pub header_yes : (block : List ℕ) (size : ℕ) → header_right block size ≡ true → HeaderYes block size
header_yes block size h = record {
  edition = grind (arith, nat_tests);
  unknowns = (grind (arith, nat_tests), grind (arith, nat_tests));
  records = (grind (arith, nat_tests), grind (arith, nat_tests));
  its_size = grind (arith, nat_tests);
}

pub header_sized : (bytes : List ℕ) → header_right (block_of bytes 0) (length bytes) ≡ true → Sized bytes
header_sized bytes h =
    let header = header_yes (block_of bytes 0) (length bytes) h in
    let long : length bytes ≡ image_size (records_in bytes) = header.its_size in
    record { some = header.records.0; few = header.records.1; reached = omega (arith, long) }

-- an image that reaches as far as its records shows each of them
pub shown_is : (bytes : List ℕ) → Sized bytes → (r : ℕ) → r < records_in bytes →
    shown_at (reading_of bytes) r ≡ cond (is_input (record_of bytes r)) (Ok (input (record_of bytes r))) (Ok (step (record_of bytes r)))
shown_is bytes h r l =
    let here : ltb r (records_in bytes) ≡ true = lt-ltb r (records_in bytes) l in
    let reached : ltb (r / 8 + 1) (length bytes / 512) ≡ true = lt-ltb (r / 8 + 1) (length bytes / 512) (omega (arith, h.few, h.reached)) in
    rw (here, reached)
