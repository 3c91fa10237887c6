-- The image of a derivation is accepted.
use Rattle.std.proofs.Common.{◌≡◌, ℕ, ◌+◌, ◌-◌, ◌*◌, ◌<◌, ◌≤◌, true, eqb, List, [], length, get_or, take, drop, Ok, sym, ap, ◌∙◌, subst, arith}
use Rattle.std.specs.List.{flat_map}
use Rattle.std.proofs.lemmas.Bool.{eq-eqb}
use Rattle.std.proofs.lemmas.Bool.Decides.{nat_tests}
use Rattle.rows.specs.Bytes.{le16, le32}
use Rattle.rows.specs.Derivations.{Record, input, step, row_in, row_at, Stands, Derivation, IsDerivation}
use Rattle.rows.specs.Image.{block_of, record_of, numbers_in, count_in, blocks_for, image_size, record_bytes, header_bytes, records_block, image_of}
use Rattle.rows.specs.Rows.{is_false}
use Rattle.rows.proofs.BlockBytes.{AsBlock, AsHeader, block_forth, header_held, all_header_held}
use Rattle.rows.proofs.Images.{Nine, held_at, derivation_nine, length_image, header_at, block_at, record_at, length_held, all_held, as_header, unknowns_in_lem, records_in_lem}
use Rattle.rows.proofs.RecordBytes.{Held, AsInput, AsStep, input_forth, step_forth, shown_forth}
use Rattle.rows.proofs.Standing.{parents}
use Rattle.reader.specs.Reading.{is_length, header_right, image_asked}
use Rattle.reader.proofs.Records.{row_shown, yes_input, yes_step}
use Rattle.reader.proofs.Yes.{RecordYes, BlockYes, yes_all}

is_length_lem : (t : ℕ) → 1 ≤ t → t ≤ 256 → is_length (image_size t) ≡ true
is_length_lem t h k = grind (arith, nat_tests)

header_right_lem : (block : List ℕ) (size n t : ℕ) → AsHeader block n t → (1 ≤ n) × (n ≤ 8) → (1 ≤ t) × (t ≤ 256) → size ≡ image_size t → header_right block size ≡ true
header_right_lem block size n t h i k e = rw (h.edition, h.unknowns, h.records) (grind (arith, nat_tests))

block_yes : (block : List ℕ) (number count : ℕ) (held : List ℕ) → AsBlock block number count held → BlockYes block number count (8 + length held)
block_yes block number count held h =
    let a : eqb (le32 block 0) number ≡ true = eq-eqb _ _ h.its_number in
    let b : eqb (le16 block 4) count ≡ true = eq-eqb _ _ h.its_count in
    record { seal = eq-eqb _ _ h.seal; frame = rw (a, b, h.before, h.after) }

module _ (d : Derivation) (h : IsDerivation d) where
  nine : Nine d.records
  nine = derivation_nine d h

  -- the blocks
  first_block : BlockYes (block_of (image_of d) 0) 0 0 14
  unfolding header_bytes
  first_block =
      let held : List ℕ = header_held d.unknowns (length d.records) in
      subst (λ block. BlockYes block 0 0 14) (sym (header_at d)) (block_yes _ 0 0 held (block_forth 0 0 held (omega arith) (omega arith) (omega arith) (all_header_held d.unknowns (length d.records))))

  later_block : (b : ℕ) → b < blocks_for (length d.records) → BlockYes (block_of (image_of d) (b + 1)) (b + 1) (count_in (length d.records) b) (8 + 60 * count_in (length d.records) b)
  unfolding records_block
  later_block b l =
      let count : ℕ = count_in (length d.records) b in
      let held : List ℕ = flat_map record_bytes (take 8 (drop (8 * b) d.records)) in
      let size : length held ≡ 60 * count_in (length d.records) b = length_held d.records b nine in
      let whole : BlockYes (records_block d.records b) (b + 1) (count_in (length d.records) b) (8 + length held) =
      block_yes _ (b + 1) count held (block_forth (b + 1) count held (omega (arith, h.some_records)) (omega arith) (omega (arith, size)) (all_held d.records b)) in
      subst (λ block. BlockYes block (b + 1) count (8 + 60 * count)) (sym (block_at d b nine l))
      (subst (λ n. BlockYes (records_block d.records b) (b + 1) count (8 + n)) size whole)

  -- the records
  numbers_at : (r : ℕ) → r < length d.records → numbers_in (record_of (image_of d) r) ≡ row_at d.records r
  numbers_at r l =
      ap numbers_in (record_at d r nine l)
      ∙ (sym (row_shown (record_bytes (get_or d.records r (input 0 [])))) ∙ ap row_in (shown_forth (get_or d.records r (input 0 [])) (held_at d h r l)))

  each_record : (r : ℕ) → r < length d.records → RecordYes (image_of d) d.unknowns r
  each_record r l = go (get_or d.records r (input 0 [])) (record_at d r nine l) (h.each_stands r l) (held_at d h r l)
    where
      go : (rec : Record) → record_of (image_of d) r ≡ record_bytes rec → Stands d.unknowns d.records r rec → Held rec → RecordYes (image_of d) d.unknowns r
      go (input tag row) e s k = yes_input (image_of d) d.unknowns r tag row (subst (λ rec. AsInput rec tag row) (sym e) (input_forth tag row k)) s.0
      go (step first second u v row) e s k =
          let p = parents r first second u v s.1 in
          let i = numbers_at first (omega (arith, p.first_earlier)) in
          let j = numbers_at second (omega (arith, p.second_earlier)) in
          yes_step (image_of d) d.unknowns r first second u v row (subst (λ rec. AsStep rec first second u v row) (sym e) (step_forth first second u v row k)) s.0 s.1
          (rw (i, j) s.2)

  pub image_accepted : image_asked (image_of d) ≡ Ok tt
  image_accepted =
      let size : length (image_of d) ≡ image_size (length d.records) = length_image d nine in
      let few = h.some_records in
      yes_all (image_of d) d.unknowns (length d.records) (unknowns_in_lem d h) (records_in_lem d h) (record {
        size = ap is_length size ∙ is_length_lem (length d.records) few.0 few.1;
        first = first_block;
        header = ap (λ block. header_right block (length (image_of d))) (header_at d) ∙ header_right_lem _ _ d.unknowns (length d.records) (as_header d h) h.some_unknowns few size;
        blocks = later_block;
        records = each_record;
        last = ap is_false (numbers_at (length d.records - 1) (omega (arith, few))) ∙ h.last_false;
      })
