-- What the reader answers for any bytes: the questions in their order, over the fields of the image.
use Rattle.std.specs.Prelude.{ℕ, ◌+◌, ◌-◌, ◌*◌, ◌%◌, ◌≤◌, Bool, count_by, ◌&&◌, ◌||◌, List, length, take, Result, ◌==◌, nat_le}
use Rattle.std.specs.List.{range_with_len}
use Rattle.rows.specs.Bytes.{le16, le32, zeros_in, seal_of}
use Rattle.rows.specs.Derivations.{are_parents}
use Rattle.rows.specs.Image.{block_of, record_of, kind_in, first_in, second_in, u_in, v_in, numbers_in, is_input, unknowns_in, records_in, count_in, blocks_for, image_size}
use Rattle.rows.specs.Rows.{is_row, is_false, combination_of, same_row}
use Rattle.rows.specs.Questions.{asked, ◌then◌, for_each, answered}
use Rattle.reader.specs.declared.refusal.Refusal.{Refusal}
use Rattle.reader.specs.declared.refusal.Refusal.TheVariants as no

-- a multiple of 512 from 1,024 to 16,896
abbrev pub is_length : ℕ → Bool
is_length size = nat_le 1024 size && (nat_le size 16896 && size % 512 == 0)

abbrev pub seal_right : List ℕ → Bool
seal_right block = le32 block 508 == seal_of (take 508 block)

-- number, count, and zeros in bytes 6 and 7 and from the end of what the block holds up to the seal
abbrev pub frame_right : List ℕ → ℕ → ℕ → ℕ → Bool
frame_right block number count end =
    (le32 block 0 == number) && (le16 block 4 == count && (zeros_in block 6 8 && zeros_in block end 508))

-- edition 1, n from 1 to 8, t from 1 to 256, and as many blocks as t records take
abbrev pub header_right : List ℕ → ℕ → Bool
header_right block size =
    (le16 block 8 == 1)
    && (nat_le 1 (le16 block 10) && (nat_le (le16 block 10) 8
    && (nat_le 1 (le16 block 12) && (nat_le (le16 block 12) 256
    && size == image_size (le16 block 12)))))

-- kind 1 for an input or 2 for a step, and zeros in the unassigned bytes
abbrev pub kind_right : List ℕ → Bool
kind_right rec =
    ((is_input rec && zeros_in rec 6 16) || kind_in rec == 2)
    && (zeros_in rec 1 4 && zeros_in rec 52 60)

-- of a step record: its parents and multipliers, and its row
abbrev pub parents_right : ℕ → List ℕ → Bool
parents_right r rec = is_input rec || are_parents r (first_in rec) (second_in rec) (u_in rec) (v_in rec)

abbrev pub combination_right : List ℕ → List ℕ → Bool
combination_right bytes rec =
    is_input rec
    || same_row (combination_of (u_in rec) (numbers_in (record_of bytes (first_in rec))) (v_in rec) (numbers_in (record_of bytes (second_in rec)))) (numbers_in rec)

-- what the header's questions make sure of: some records, few enough, and the bytes reach as far as they do
pub record Sized (bytes : List ℕ) : Type 0 where
  pub some : 1 ≤ records_in bytes
  pub few : records_in bytes ≤ 256
  pub reached : image_size (records_in bytes) ≤ length bytes

-- the questions of the header, of record r, of block b + 1 apart from its records, and of that block
abbrev pub header_asked : List ℕ → Result (Unit {0}) Refusal
header_asked bytes =
    asked (seal_right (block_of bytes 0)) (no.Seal 0)
    then asked (frame_right (block_of bytes 0) 0 0 14) (no.Frame 0)
    then asked (header_right (block_of bytes 0) (length bytes)) no.Header

abbrev pub record_asked : List ℕ → ℕ → ℕ → Result (Unit {0}) Refusal
record_asked bytes n r =
    asked (kind_right (record_of bytes r)) (no.Kind r)
    then asked (is_row n (numbers_in (record_of bytes r))) (no.Row r)
    then asked (parents_right r (record_of bytes r)) (no.Parents r)
    then asked (combination_right bytes (record_of bytes r)) (no.Combination r)

abbrev pub frame_asked : List ℕ → ℕ → ℕ → Result (Unit {0}) Refusal
frame_asked bytes t b =
    asked (seal_right (block_of bytes (b + 1))) (no.Seal (b + 1))
    then asked (frame_right (block_of bytes (b + 1)) (b + 1) (count_in t b) (8 + 60 * count_in t b)) (no.Frame (b + 1))

unfoldable pub block_asked : List ℕ → ℕ → ℕ → ℕ → Result (Unit {0}) Refusal
block_asked bytes n t b = frame_asked bytes t b then for_each (λ c. record_asked bytes n (8 * b + c)) (count_in t b)

-- all questions: the length, the header, each block with its records, the last row
abbrev pub image_asked : List ℕ → Result (Unit {0}) Refusal
image_asked bytes =
    asked (is_length (length bytes)) no.Length
    then header_asked bytes
    then for_each (block_asked bytes (unknowns_in bytes) (records_in bytes)) (blocks_for (records_in bytes))
    then asked (is_false (numbers_in (record_of bytes (records_in bytes - 1)))) (no.NotFalse (records_in bytes - 1))

-- how many of the first t records are inputs
abbrev pub inputs_below : List ℕ → ℕ → ℕ
inputs_below bytes t = count_by (λ r. is_input (record_of bytes r)) (range_with_len 0 t)

-- an accepted image: its bytes, its count of records and its count of inputs
pub record Reading : Type 0 where
  pub image : List ℕ
  pub records : ℕ
  pub inputs : ℕ

abbrev pub reading_of : List ℕ → Reading
reading_of bytes = record { image = bytes; records = records_in bytes; inputs = inputs_below bytes (records_in bytes) }

abbrev pub read_of : List ℕ → Result Reading Refusal
read_of bytes = answered (image_asked bytes) (reading_of bytes)
