-- Where a derivation's blocks and records stand in its image, and what bytes of that length consist of.
use Rattle.std.proofs.Common.{◌≡◌, ℕ, ◌+◌, ◌-◌, ◌*◌, ◌/◌, ◌%◌, ◌<◌, ◌≤◌, List, [], ◌++◌, map, length, get_or, take, drop, sym, refl, ap, ◌∙◌, zero-add, arith}
use Rattle.std.specs.List.{range_with_len, flat_map, AllByRecursion}
use Rattle.std.proofs.lemmas.List.FromFn.{length-range_with_len, get_or-range_with_len, fill_by_all}
use Rattle.std.proofs.ByRecursion.{All-append, All-drop, All-from_get_or, All-take, All-weaker}
use Rattle.std.proofs.lemmas.List.{drop_at, drop-drop, drop-take, get_or-drop, get_or-take, length-append, length-drop, length-take, take_all, take-append-drop, take_at, take-take}
use Rattle.rows.specs.Bytes.{AllBytes, le16}
use Rattle.rows.specs.Derivations.{Record, input, row_in, Derivation, IsDerivation}
use Rattle.rows.specs.Image.{block_of, record_of, count_in, blocks_for, image_size, unknowns_in, records_in, record_bytes, block_body, sealed, header_bytes, records_block, image_of, OneImageEach}
use Rattle.rows.proofs.BlockBytes.{AsHeader, header_held, all_header_held, all_block, header_forth, held_in, length_block}
use Rattle.rows.proofs.Joins.{length_joined, joined_at, joined_back, all_joined}
use Rattle.rows.proofs.RecordBytes.{record_shown, Held, all_record, length_record, shown_forth, stands_held}
use Rattle.rows.proofs.Standing.{has_row, row_nine}

-- the derivation that an image shows
abbrev pub derivation_shown : List ℕ → Derivation
derivation_shown bytes = record {
  unknowns = unknowns_in bytes;
  records = map (λ r. record_shown (record_of bytes r)) (range_with_len 0 (records_in bytes));
}

-- rows of nine numbers, so that each record has its 60 bytes
abbrev pub Nine : List Record → Type 0
Nine records = AllByRecursion (λ rec. length (row_in rec) ≡ 9) records

pub held_at : (d : Derivation) → IsDerivation d → (r : ℕ) → r < length d.records → Held (get_or d.records r (input 0 []))
held_at d h r l = stands_held d.unknowns d.records r (get_or d.records r (input 0 [])) (omega (arith, h.some_records)) (h.each_stands r l)

pub derivation_nine : (d : Derivation) → IsDerivation d → Nine d.records
derivation_nine d h =
    All-from_get_or (λ rec. length (row_in rec) ≡ 9) d.records (input 0 []) (λ r k.
    let rec : Record = get_or d.records r (input 0 []) in
    row_nine d.unknowns (row_in rec) (has_row d.unknowns d.records r rec (h.each_stands r k)))

-- the records of block b + 1
abbrev eight : List Record → ℕ → List Record
eight records b = take 8 (drop (8 * b) records)

all_sixty : (records : List Record) (b : ℕ) → Nine records → AllByRecursion (λ rec. length (record_bytes rec) ≡ 60) (eight records b)
all_sixty records b h = All-weaker _ _ length_record (eight records b) (All-take _ 8 (drop (8 * b) records) (All-drop _ (8 * b) records h))

length-eight : (records : List Record) (b : ℕ) → length (eight records b) ≡ count_in (length records) b
length-eight records b = simp (length-take, length-drop) (omega arith)

-- what a block holds: its records, one after another
pub length_held : (records : List Record) (b : ℕ) → Nine records → length (flat_map record_bytes (take 8 (drop (8 * b) records))) ≡ 60 * count_in (length records) b
length_held records b h =
    length_joined record_bytes 60 (eight records b) (all_sixty records b h) ∙ ap (λ n. 60 * n) (length-eight records b)

pub all_held : (records : List Record) (b : ℕ) → AllBytes (flat_map record_bytes (take 8 (drop (8 * b) records)))
all_held records b = all_joined record_bytes (eight records b) (All-from_get_or (λ rec. AllBytes (record_bytes rec)) (eight records b) (input 0 []) (λ i l. all_record (get_or (eight records b) i (input 0 []))))

-- each block has its 512 bytes
length_header : (n t : ℕ) → length (header_bytes n t) ≡ 512
unfolding header_bytes
length_header n t = length_block 0 0 (header_held n t) (omega arith)

length_records : (records : List Record) (b : ℕ) → Nine records → length (records_block records b) ≡ 512
unfolding records_block
length_records records b h =
    let l = length_held records b h in
    length_block (b + 1) (count_in (length records) b) (flat_map record_bytes (eight records b)) (omega arith)

all_blocks : (records : List Record) (bs : List ℕ) → Nine records → AllByRecursion (λ b. length (records_block records b) ≡ 512) bs
all_blocks records bs h = All-from_get_or (λ b. length (records_block records b) ≡ 512) bs 0 (λ i l. length_records records (get_or bs i 0) h)

pub length_image : (d : Derivation) → Nine d.records → length (image_of d) ≡ image_size (length d.records)
unfolding image_of
length_image d h =
    let m : ℕ = blocks_for (length d.records) in
    let front = length_header d.unknowns (length d.records) in
    let back = length_joined (records_block d.records) 512 (range_with_len 0 m) (all_blocks d.records (range_with_len 0 m) h) in
    let count = length-range_with_len 0 m in
    length-append (header_bytes d.unknowns (length d.records)) (flat_map (records_block d.records) (range_with_len 0 m)) ∙ omega arith

-- an image is bytes
all_header : (n t : ℕ) → AllBytes (header_bytes n t)
unfolding header_bytes
all_header n t = all_block 0 0 (header_held n t) (all_header_held n t)

all_records : (records : List Record) (b : ℕ) → AllBytes (records_block records b)
unfolding records_block
all_records records b = all_block (b + 1) (count_in (length records) b) (flat_map record_bytes (eight records b)) (all_held records b)

pub all_image : (d : Derivation) → AllBytes (image_of d)
unfolding image_of
all_image d =
    let bs : List ℕ = range_with_len 0 (blocks_for (length d.records)) in
    All-append (λ x. x < 256) (header_bytes d.unknowns (length d.records)) (flat_map (records_block d.records) bs) (all_header d.unknowns (length d.records))
    (all_joined (records_block d.records) bs (All-from_get_or (λ b. AllBytes (records_block d.records b)) bs 0 (λ i l. all_records d.records (get_or bs i 0))))

pub header_at : (d : Derivation) → block_of (image_of d) 0 ≡ header_bytes d.unknowns (length d.records)
unfolding image_of
header_at d =
    let t : ℕ = length d.records in
    take_at (header_bytes d.unknowns t) (flat_map (records_block d.records) (range_with_len 0 (blocks_for t))) 512 (length_header d.unknowns t)

-- block b of so many is block b
place : (m b : ℕ) → b < m → get_or (range_with_len 0 m) b 0 ≡ b
place m b h = get_or-range_with_len 0 m b 0 h ∙ zero-add b

-- a block later is one in what is left without the first
block_later : (bytes : List ℕ) (b : ℕ) → block_of bytes (b + 1) ≡ block_of (drop 512 bytes) b
block_later bytes b =
    let e : 512 * (b + 1) ≡ 512 + 512 * b = omega arith in
    rw (e, drop-drop)

after_header : (d : Derivation) → drop 512 (image_of d) ≡ flat_map (records_block d.records) (range_with_len 0 (blocks_for (length d.records)))
unfolding image_of
after_header d =
    let t : ℕ = length d.records in
    drop_at (header_bytes d.unknowns t) (flat_map (records_block d.records) (range_with_len 0 (blocks_for t))) 512 (length_header d.unknowns t)

pub block_at : (d : Derivation) (b : ℕ) → Nine d.records → b < blocks_for (length d.records) → block_of (image_of d) (b + 1) ≡ records_block d.records b
block_at d b h k =
    let m : ℕ = blocks_for (length d.records) in
    let count = length-range_with_len 0 m in
    let here = joined_at (records_block d.records) 512 (range_with_len 0 m) b 0 (all_blocks d.records (range_with_len 0 m) h) (omega arith) in
    block_later (image_of d) b ∙ (ap (λ bs. block_of bs b) (after_header d) ∙ (here ∙ ap (records_block d.records) (place m b k)))

-- what stands within the first n is what stands there
within : (a p n : ℕ) (xs : List ℕ) → p + a ≤ n → take a (drop p (take n xs)) ≡ take a (drop p xs)
within a p n xs h =
    let e : n ≡ p + (n - p) = omega arith in
    ap (λ m. take a (drop p (take m xs))) e ∙ (ap (take a) (drop-take p (n - p) xs) ∙ take-take a (n - p) (drop p xs) (omega arith))

-- record i of block b + 1
record_in_block : (bytes : List ℕ) (r b i : ℕ) → i < 8 → r ≡ 8 * b + i → record_of bytes r ≡ take 60 (drop (60 * i) (drop 8 (block_of bytes (b + 1))))
record_in_block bytes r b i h e =
    let q : r / 8 ≡ b = omega arith in
    let m : r % 8 ≡ i = omega arith in
    let p : (b + 1) * 512 + 8 + 60 * i ≡ 512 * (b + 1) + (8 + 60 * i) = omega arith in
    rw (q, m, p, drop-drop (60 * i) 8 (block_of bytes (b + 1)), within 60 (8 + 60 * i) 512 (drop (512 * (b + 1)) bytes) (omega arith))
    (ap (take 60) (sym (drop-drop (8 + 60 * i) (512 * (b + 1)) bytes)))

eight_at : (records : List Record) (b i : ℕ) (d : Record) → i < 8 → get_or (eight records b) i d ≡ get_or records (8 * b + i) d
eight_at records b i d h = get_or-take 8 (drop (8 * b) records) i d h ∙ get_or-drop (8 * b) records i d

record_of_block : (records : List Record) (b i : ℕ) → Nine records → i < 8 → 8 * b + i < length records
    → take 60 (drop (60 * i) (drop 8 (records_block records b))) ≡ record_bytes (get_or records (8 * b + i) (input 0 []))
unfolding records_block
record_of_block records b i h k l =
    let held : List ℕ = flat_map record_bytes (eight records b) in
    let e = held_in (b + 1) (count_in (length records) b) held in
    let n = length_held records b h in
    let m = length-eight records b in
    let here = joined_at record_bytes 60 (eight records b) i (input 0 []) (all_sixty records b h) (omega arith) in
    sym (within 60 (60 * i) (length held) (drop 8 (sealed (block_body (b + 1) (count_in (length records) b) held))) (omega arith))
    ∙ (ap (λ t. take 60 (drop (60 * i) t)) (sym e) ∙ (here ∙ ap record_bytes (eight_at records b i (input 0 []) k)))

pub record_at : (d : Derivation) (r : ℕ) → Nine d.records → r < length d.records → record_of (image_of d) r ≡ record_bytes (get_or d.records r (input 0 []))
record_at d r h k =
    let e : r ≡ 8 * (r / 8) + r % 8 = omega arith in
    let b = block_at d (r / 8) h (omega arith) in
    record_in_block (image_of d) r (r / 8) (r % 8) (omega arith) e
    ∙ (ap (λ t. take 60 (drop (60 * (r % 8)) (drop 8 t))) b
    ∙ (record_of_block d.records (r / 8) (r % 8) h (omega arith) (omega arith) ∙ ap (λ n. record_bytes (get_or d.records n (input 0 []))) (sym e)))

-- bytes as long as an image are their blocks
pub blocks_of : (bytes : List ℕ) (t : ℕ) → length bytes ≡ image_size t → bytes ≡ block_of bytes 0 ++ flat_map (λ b. block_of bytes (b + 1)) (range_with_len 0 (blocks_for t))
blocks_of bytes t l =
    let m : ℕ = blocks_for t in
    let count = length-range_with_len 0 m in
    let each : flat_map (λ b. block_of bytes (b + 1)) (range_with_len 0 m) ≡ take (512 * length (range_with_len 0 m)) (drop 512 bytes) =
    joined_back (λ b. block_of bytes (b + 1)) 512 (range_with_len 0 m) (drop 512 bytes) 0
    (λ i k. ap (λ b. block_of bytes (b + 1)) (place m i (omega arith)) ∙ block_later bytes i) in
    let all = take_all (512 * length (range_with_len 0 m)) (drop 512 bytes) (simp length-drop (omega arith)) in
    sym (ap (λ t. take 512 bytes ++ t) (each ∙ all) ∙ take-append-drop 512 bytes)

-- what a block holds is what its records are, if each has the bytes that stand there
pub held_back : (bytes : List ℕ) (records : List Record) (b : ℕ)
    → ((r : ℕ) → r < length records → record_bytes (get_or records r (input 0 [])) ≡ record_of bytes r)
    → flat_map record_bytes (take 8 (drop (8 * b) records)) ≡ take (60 * count_in (length records) b) (drop 8 (block_of bytes (b + 1)))
held_back bytes records b e =
    let m = length-eight records b in
    let each : flat_map record_bytes (eight records b) ≡ take (60 * length (eight records b)) (drop 8 (block_of bytes (b + 1))) =
    joined_back record_bytes 60 (eight records b) (drop 8 (block_of bytes (b + 1))) (input 0 [])
    (λ i n.
    ap record_bytes (eight_at records b i (input 0 []) (omega arith))
    ∙ (e (8 * b + i) (omega arith) ∙ record_in_block bytes (8 * b + i) b i (omega arith) refl)) in
    each ∙ ap (λ n. take (60 * n) (drop 8 (block_of bytes (b + 1)))) m

-- over variables, since an image's header is long to compute with
of_parts : (n : ℕ) (records : List Record) (d : Derivation) → n ≡ d.unknowns → records ≡ d.records → record { unknowns = n; records = records } ≡ d
of_parts n records d h k = rw (h, k)

-- n and t, read back
pub as_header : (d : Derivation) → IsDerivation d → AsHeader (header_bytes d.unknowns (length d.records)) d.unknowns (length d.records)
as_header d h = header_forth d.unknowns (length d.records) (omega (arith, h.some_unknowns)) (omega (arith, h.some_records))

pub unknowns_in_lem : (d : Derivation) → IsDerivation d → unknowns_in (image_of d) ≡ d.unknowns
unknowns_in_lem d h = ap (λ block. le16 block 10) (header_at d) ∙ (as_header d h).unknowns

pub records_in_lem : (d : Derivation) → IsDerivation d → records_in (image_of d) ≡ length d.records
records_in_lem d h = ap (λ block. le16 block 12) (header_at d) ∙ (as_header d h).records

-- a derivation is the one that its image shows, so each has an image of its own
pub shown_back : (d : Derivation) → IsDerivation d → derivation_shown (image_of d) ≡ d
shown_back d h =
    let t = records_in_lem d h in
    let each : d.records ≡ (derivation_shown (image_of d)).records =
    fill_by_all (λ r. record_shown (record_of (image_of d) r)) d.records (records_in (image_of d)) (input 0 []) (sym t)
    (λ r k.
    let l : r < length d.records = omega arith in
    sym (ap record_shown (record_at d r (derivation_nine d h) l) ∙ shown_forth (get_or d.records r (input 0 [])) (held_at d h r l))) in
    of_parts (unknowns_in (image_of d)) (derivation_shown (image_of d)).records d (unknowns_in_lem d h) (sym each)

pub one_image_each : OneImageEach
one_image_each d e h k = (λ p. ap image_of p, λ p. sym (shown_back d h) ∙ (ap derivation_shown p ∙ shown_back e k))
