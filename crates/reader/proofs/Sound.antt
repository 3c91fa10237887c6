-- Bytes that are accepted are the image of the derivation that they show.
use Rattle.std.proofs.Common.{◌≡◌, ℕ, ◌+◌, ◌-◌, ◌*◌, ◌/◌, ◌<◌, ◌≤◌, List, [], ◌++◌, length, get_or, take, drop, sym, refl, ap, ◌∙◌, subst, arith}
use Rattle.std.specs.List.{range_with_len, flat_map}
use Rattle.std.proofs.lemmas.List.FromFn.{length-map-range_with_len, get_or-map-range_with_len}
use Rattle.std.proofs.ByRecursion.{All-take, All-drop, All-from_get_or}
use Rattle.std.proofs.lemmas.List.{length-take, length-drop}
use Rattle.std.proofs.lemmas.Bool.{eqb-true}
use Rattle.std.proofs.lemmas.Bool.Decides.{nat_tests}
use Rattle.rows.specs.Bytes.{AllBytes}
use Rattle.rows.specs.Derivations.{Record, input, row_in, row_at, Stands, IsDerivation}
use Rattle.rows.specs.Image.{block_of, record_of, numbers_in, unknowns_in, records_in, count_in, blocks_for, image_size, record_bytes, header_bytes, records_block, image_of}
use Rattle.rows.proofs.BlockBytes.{AsBlock, block_back, header_back, header_held}
use Rattle.rows.proofs.Images.{derivation_shown, Nine, length_held, held_back, blocks_of}
use Rattle.reader.proofs.Headers.{HeaderYes, header_yes}
use Rattle.reader.proofs.Records.{row_shown, bytes_shown, stands_shown}
use Rattle.reader.proofs.Yes.{BlockYes, AllYes}
use Rattle.rows.specs.Rows.{is_false}
use Rattle.rows.proofs.Joins.{joined_same}
use Rattle.rows.proofs.RecordBytes.{record_shown}
use Rattle.rows.proofs.Standing.{row_nine}

-- a block whose seal and frame are right, and which holds these bytes
as_block : (block : List ℕ) (number count : ℕ) (held : List ℕ) → BlockYes block number count (8 + length held) → held ≡ take (length held) (drop 8 block) → AsBlock block number count held
as_block block number count held h e = record {
  seal = eqb-true _ _ h.seal;
  its_number = grind (arith, nat_tests, h.frame);
  its_count = grind (arith, nat_tests, h.frame);
  before = grind (arith, nat_tests, h.frame);
  after = grind (arith, nat_tests, h.frame);
  its_held = e;
}

module _ (bytes : List ℕ) where
  pub length_shown : length (derivation_shown bytes).records ≡ records_in bytes
  length_shown = length-map-range_with_len (λ r. record_shown (record_of bytes r)) 0 (records_in bytes)

  pub shown_at_lem : (r : ℕ) → r < records_in bytes → get_or (derivation_shown bytes).records r (input 0 []) ≡ record_shown (record_of bytes r)
  shown_at_lem r l = get_or-map-range_with_len (λ r. record_shown (record_of bytes r)) 0 (records_in bytes) r r (input 0 []) l (omega arith)

  row_at_lem : (r : ℕ) → r < records_in bytes → row_at (derivation_shown bytes).records r ≡ numbers_in (record_of bytes r)
  row_at_lem r l = ap row_in (shown_at_lem r l) ∙ row_shown (record_of bytes r)

  pub length_record_of : (r : ℕ) → (r / 8 + 2) * 512 ≤ length bytes → length (record_of bytes r) ≡ 60
  length_record_of r l = simp (length-take, length-drop) (omega arith)

module _ (bytes : List ℕ) (fit : AllBytes bytes) (h : AllYes bytes (unknowns_in bytes) (records_in bytes)) where
  header : HeaderYes (block_of bytes 0) (length bytes)
  header = header_yes (block_of bytes 0) (length bytes) h.header

  long : length bytes ≡ image_size (records_in bytes)
  long = header.its_size

  -- record r, its bytes and its row
  sixty : (r : ℕ) → r < records_in bytes → length (record_of bytes r) ≡ 60
  sixty r l = length_record_of bytes r (omega (arith, long))

  all_bytes : (r : ℕ) → AllBytes (record_of bytes r)
  all_bytes r = All-take (λ x. x < 256) 60 _ (All-drop (λ x. x < 256) _ bytes fit)

  pub bytes_at : (r : ℕ) → r < records_in bytes → record_bytes (record_shown (record_of bytes r)) ≡ record_of bytes r
  bytes_at r l = bytes_shown (record_of bytes r) (sixty r l) (all_bytes r) (h.records r l).kind

  pub below : (r : ℕ) → r < length (derivation_shown bytes).records → r < records_in bytes
  below r l = subst (λ t. r < t) (length_shown bytes) l

  record_back : (r : ℕ) → r < length (derivation_shown bytes).records → record_bytes (get_or (derivation_shown bytes).records r (input 0 [])) ≡ record_of bytes r
  record_back r l = ap record_bytes (shown_at_lem bytes r (below r l)) ∙ bytes_at r (below r l)

  pub derivation : IsDerivation (derivation_shown bytes)
  derivation = record {
    some_unknowns = header.unknowns;
    some_records = subst (λ t. (1 ≤ t) × (t ≤ 256)) (sym (length_shown bytes)) header.records;
    each_stands = λ r l.
        let k = below r l in
        subst (Stands (unknowns_in bytes) (derivation_shown bytes).records r) (sym (shown_at_lem bytes r k))
        (stands_shown bytes (unknowns_in bytes) r (derivation_shown bytes).records (sixty r k) (all_bytes r) (h.records r k) (λ i j. row_at_lem bytes i (omega arith)));
    last_false =
        let k : records_in bytes - 1 < records_in bytes = omega (arith, header.records) in
        ap (λ n. is_false (row_at (derivation_shown bytes).records (n - 1))) (length_shown bytes) ∙ (ap is_false (row_at_lem bytes (records_in bytes - 1) k) ∙ h.last);
  }

  nine : Nine (derivation_shown bytes).records
  nine =
      All-from_get_or (λ rec. length (row_in rec) ≡ 9) (derivation_shown bytes).records (input 0 []) (λ r l.
      let k = below r l in
      ap length (row_at_lem bytes r k) ∙ row_nine (unknowns_in bytes) (numbers_in (record_of bytes r)) (h.records r k).row)

  -- the header and the other blocks
  block_bytes : (b : ℕ) → AllBytes (block_of bytes b)
  block_bytes b = All-take (λ x. x < 256) 512 _ (All-drop (λ x. x < 256) (512 * b) bytes fit)

  block_long : (b : ℕ) → b < 1 + blocks_for (records_in bytes) → length (block_of bytes b) ≡ 512
  block_long b l = simp (length-take, length-drop) (omega (arith, long))

  header_is : header_bytes (unknowns_in bytes) (records_in bytes) ≡ block_of bytes 0
  unfolding header_bytes
  header_is =
      let l : length (block_of bytes 0) ≡ 512 = block_long 0 (omega arith) in
      let e : header_held (unknowns_in bytes) (records_in bytes) ≡ take 6 (drop 8 (block_of bytes 0)) =
      header_back (block_of bytes 0) (unknowns_in bytes) (records_in bytes) l (block_bytes 0) (record { edition = header.edition; unknowns = refl; records = refl }) in
      block_back (block_of bytes 0) 0 0 (header_held (unknowns_in bytes) (records_in bytes)) l (block_bytes 0) (omega arith)
      (as_block (block_of bytes 0) 0 0 (header_held (unknowns_in bytes) (records_in bytes)) h.first e)

  block_is : (b : ℕ) → b < blocks_for (records_in bytes) → records_block (derivation_shown bytes).records b ≡ block_of bytes (b + 1)
  unfolding records_block
  block_is b l =
      let records : List Record = (derivation_shown bytes).records in
      let block : List ℕ = block_of bytes (b + 1) in
      let held : List ℕ = flat_map record_bytes (take 8 (drop (8 * b) records)) in
      let t : length records ≡ records_in bytes = length_shown bytes in
      let size : length held ≡ 60 * count_in (length records) b = length_held records b nine in
      let asked : BlockYes block (b + 1) (count_in (length records) b) (8 + 60 * count_in (length records) b) =
      subst (λ n. BlockYes block (b + 1) (count_in n b) (8 + 60 * count_in n b)) (sym t) (h.blocks b l) in
      let framed : BlockYes block (b + 1) (count_in (length records) b) (8 + length held) =
      subst (λ n. BlockYes block (b + 1) (count_in (length records) b) (8 + n)) (sym size) asked in
      let e : held ≡ take (length held) (drop 8 block) =
      held_back bytes records b record_back ∙ ap (λ n. take n (drop 8 block)) (sym size) in
      block_back block (b + 1) (count_in (length records) b) held (block_long (b + 1) (omega arith)) (block_bytes (b + 1)) (omega (arith, size))
      (as_block block (b + 1) (count_in (length records) b) held framed e)

  pub image : bytes ≡ image_of (derivation_shown bytes)
  unfolding image_of
  image =
      let t : length (derivation_shown bytes).records ≡ records_in bytes = length_shown bytes in
      blocks_of bytes (records_in bytes) long
      ∙ (ap (λ xs. xs ++ flat_map (λ b. block_of bytes (b + 1)) (range_with_len 0 (blocks_for (records_in bytes)))) (sym header_is)
      ∙ (ap (λ xs. header_bytes (unknowns_in bytes) (records_in bytes) ++ xs) (sym (joined_same (records_block (derivation_shown bytes).records) (λ b. block_of bytes (b + 1)) 0 (blocks_for (records_in bytes)) (λ b l. block_is b (omega arith))))
      ∙ ap (λ n. header_bytes (unknowns_in bytes) n ++ flat_map (records_block (derivation_shown bytes).records) (range_with_len 0 (blocks_for n))) (sym t)))
