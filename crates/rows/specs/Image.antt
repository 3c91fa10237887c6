-- The image of a derivation: blocks of 512 bytes, the header first, then eight records in each but the last.
--   Each block: bytes 0-3 its number, 4-5 its count of records, 508-511 its seal. Header: bytes 8-9 edition 1, 10-11 n, 12-13 t.
--   Record c of a block begins at byte 8 + 60·c: byte 0 kind, 4-5 tag or first parent, 6-7 second parent, 8-11 u, 12-15 v, 16-51 a1..a8 and b.
--   Unassigned bytes are zero.
use Rattle.std.specs.Prelude.{◌≡◌, ℕ, zero, suc, ◌+◌, ◌-◌, ◌*◌, ◌/◌, ◌%◌, min, Bool, List, ◌∷◌, ◌++◌, map, length, take, drop, replicate, ℤ, ◌==◌, slice_index}
use Rattle.std.specs.List.{range_with_len, flat_map}
use Rattle.rows.specs.Bytes.{le16, le32, le_i32, bytes16, bytes32, bytes_i32, seal_of}
use Rattle.rows.specs.Derivations.{Record, input, step, Derivation, IsDerivation}

-- where things stand: block b, record r, and the fields of a record
abbrev pub block_of : List ℕ → ℕ → List ℕ
block_of bytes b = take 512 (drop (512 * b) bytes)

-- the block in which record r stands
abbrev pub block_with : ℕ → ℕ
block_with r = r / 8 + 1

abbrev pub record_of : List ℕ → ℕ → List ℕ
record_of bytes r = take 60 (drop (block_with r * 512 + 8 + 60 * (r % 8)) bytes)

abbrev pub kind_in : List ℕ → ℕ
kind_in rec = slice_index rec 0

abbrev pub first_in : List ℕ → ℕ
first_in rec = le16 rec 4

abbrev pub second_in : List ℕ → ℕ
second_in rec = le16 rec 6

abbrev pub u_in : List ℕ → ℕ
u_in rec = le32 rec 8

abbrev pub v_in : List ℕ → ℕ
v_in rec = le32 rec 12

-- number k of the row: ak at byte 16 + 4·(k - 1), and the constant b, number 0, at byte 48
abbrev pub place_of : ℕ → ℕ
place_of zero = 48
place_of (suc k) = 16 + 4 * k

unfoldable pub numbers_in : List ℕ → List ℤ
numbers_in rec = map (λ k. le_i32 rec (place_of k)) (range_with_len 0 9)

-- kind 1 is an input; any other is taken for a step
abbrev pub is_input : List ℕ → Bool
is_input rec = kind_in rec == 1

-- n and t, as the header has them
abbrev pub unknowns_in : List ℕ → ℕ
unknowns_in bytes = le16 (block_of bytes 0) 10

abbrev pub records_in : List ℕ → ℕ
records_in bytes = le16 (block_of bytes 0) 12

-- the records of block b + 1, of t in all
abbrev pub count_in : ℕ → ℕ → ℕ
count_in t b = min (t - 8 * b) 8

abbrev pub blocks_for : ℕ → ℕ
blocks_for t = (t + 7) / 8

-- the length of an image of t records
abbrev pub image_size : ℕ → ℕ
image_size t = 512 * (1 + blocks_for t)

-- which bytes an image has
abbrev pub zero_bytes : ℕ → List ℕ
zero_bytes n = replicate n 0

-- a1..a8 and then b
unfoldable pub row_bytes : List ℤ → List ℕ
row_bytes row = flat_map bytes_i32 (drop 1 row ++ take 1 row)

unfoldable pub record_bytes : Record → List ℕ
record_bytes (input tag row) = (1 ∷ zero_bytes 3) ++ (bytes16 tag ++ (zero_bytes 10 ++ (row_bytes row ++ zero_bytes 8)))
record_bytes (step first second u v row) =
    (2 ∷ zero_bytes 3) ++ (bytes16 first ++ (bytes16 second ++ (bytes32 u ++ (bytes32 v ++ (row_bytes row ++ zero_bytes 8)))))

-- 508 bytes: a block's number, its count of records, what it holds, and zeros up to the seal
unfoldable pub block_body : ℕ → ℕ → List ℕ → List ℕ
block_body number count held = bytes32 number ++ (bytes16 count ++ (zero_bytes 2 ++ (held ++ zero_bytes (500 - length held))))

unfoldable pub sealed : List ℕ → List ℕ
sealed body = body ++ bytes32 (seal_of body)

unfoldable pub header_bytes : ℕ → ℕ → List ℕ
header_bytes n t = sealed (block_body 0 0 (bytes16 1 ++ (bytes16 n ++ bytes16 t)))

-- block b + 1, with records 8·b to 8·b + 7 as far as there are so many
unfoldable pub records_block : List Record → ℕ → List ℕ
records_block records b =
    sealed (block_body (b + 1) (count_in (length records) b) (flat_map record_bytes (take 8 (drop (8 * b) records))))

unfoldable pub image_of : Derivation → List ℕ
image_of d =
    header_bytes d.unknowns (length d.records)
    ++ flat_map (records_block d.records) (range_with_len 0 (blocks_for (length d.records)))

-- equal records have equal bytes, and equal bytes are those of equal records
abbrev pub OneImageEach : Type 0
OneImageEach =
    (d e : Derivation) → IsDerivation d → IsDerivation e → (d ≡ e → image_of d ≡ image_of e) × (image_of d ≡ image_of e → d ≡ e)
