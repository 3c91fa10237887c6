-- An image of whose questions each got a yes, both ways.
use Rattle.std.proofs.Common.{◌≡◌, ℕ, ◌+◌, ◌-◌, ◌*◌, ◌/◌, ◌%◌, ◌<◌, true, List, length, Ok, Result, sym, ap, ◌∙◌, arith}
use Rattle.rows.specs.Image.{block_of, record_of, numbers_in, unknowns_in, records_in, count_in, blocks_for}
use Rattle.rows.specs.Questions.{asked, ◌then◌, for_each}
use Rattle.rows.specs.Rows.{is_row, is_false}
use Rattle.rows.proofs.Asking.{asked_yes, then_yes, then_both, each_at, each_all}
use Rattle.reader.specs.Reading.{is_length, seal_right, frame_right, header_right, kind_right, parents_right, combination_right, header_asked, record_asked, frame_asked, block_asked, image_asked}
use Rattle.reader.specs.declared.refusal.Refusal.{Refusal}
use Rattle.reader.specs.declared.refusal.Refusal.TheVariants as no

pub record RecordYes (bytes : List ℕ) (n r : ℕ) : Type 0 where
  pub kind : kind_right (record_of bytes r) ≡ true
  pub row : is_row n (numbers_in (record_of bytes r)) ≡ true
  pub parents : parents_right r (record_of bytes r) ≡ true
  pub combination : combination_right bytes (record_of bytes r) ≡ true

pub record BlockYes (block : List ℕ) (number count end : ℕ) : Type 0 where
  pub seal : seal_right block ≡ true
  pub frame : frame_right block number count end ≡ true

pub record AllYes (bytes : List ℕ) (n t : ℕ) : Type 0 where
  pub size : is_length (length bytes) ≡ true
  pub first : BlockYes (block_of bytes 0) 0 0 14
  pub header : header_right (block_of bytes 0) (length bytes) ≡ true
  pub blocks : (b : ℕ) → b < blocks_for t → BlockYes (block_of bytes (b + 1)) (b + 1) (count_in t b) (8 + 60 * count_in t b)
  pub records : (r : ℕ) → r < t → RecordYes bytes n r
  pub last : is_false (numbers_in (record_of bytes (t - 1))) ≡ true

-- the record at a place of a block, and the place of a record
place : (t r : ℕ) → r < t → (r / 8 < blocks_for t) × (r % 8 < count_in t (r / 8)) × (8 * (r / 8) + r % 8 ≡ r)
place t r h = (omega arith, omega arith, omega arith)

record_of_place : (t b c : ℕ) → c < count_in t b → 8 * b + c < t
record_of_place t b c h = omega arith

record_yes : (bytes : List ℕ) (n r : ℕ) → record_asked bytes n r ≡ Ok tt → RecordYes bytes n r
record_yes bytes n r h =
    let a = then_both (asked (kind_right (record_of bytes r)) (no.Kind r)) _ h in
    let b = then_both (asked (is_row n (numbers_in (record_of bytes r))) (no.Row r)) _ a.1 in
    let c = then_both (asked (parents_right r (record_of bytes r)) (no.Parents r)) _ b.1 in
    record { kind = asked_yes _ _ a.0; row = asked_yes _ _ b.0; parents = asked_yes _ _ c.0; combination = asked_yes _ _ c.1 }

yes_record : (bytes : List ℕ) (n r : ℕ) → RecordYes bytes n r → record_asked bytes n r ≡ Ok tt
yes_record bytes n r h = rw (h.kind, h.row, h.parents, h.combination)

frame_yes : (bytes : List ℕ) (t b : ℕ) → frame_asked bytes t b ≡ Ok tt → BlockYes (block_of bytes (b + 1)) (b + 1) (count_in t b) (8 + 60 * count_in t b)
frame_yes bytes t b h =
    let a = then_both (asked (seal_right (block_of bytes (b + 1))) (no.Seal (b + 1))) _ h in
    record { seal = asked_yes _ _ a.0; frame = asked_yes _ _ a.1 }

block_yes : (bytes : List ℕ) (n t b : ℕ) → block_asked bytes n t b ≡ Ok tt
    → (frame_asked bytes t b ≡ Ok tt) × (for_each (λ c. record_asked bytes n (8 * b + c)) (count_in t b) ≡ Ok tt)
unfolding block_asked
block_yes bytes n t b h = then_both (frame_asked bytes t b) _ h

yes_block : (bytes : List ℕ) (n t b : ℕ) → BlockYes (block_of bytes (b + 1)) (b + 1) (count_in t b) (8 + 60 * count_in t b) → ((r : ℕ) → r < t → RecordYes bytes n r) → block_asked bytes n t b ≡ Ok tt
unfolding block_asked
yes_block bytes n t b h k =
    let f : frame_asked bytes t b ≡ Ok tt = rw (h.seal, h.frame) in
    then_yes (frame_asked bytes t b) _ f
    ∙ each_all (λ c. record_asked bytes n (8 * b + c)) (count_in t b) (λ c l. yes_record bytes n (8 * b + c) (k (8 * b + c) (record_of_place t b c l)))

-- the questions of an image of t records, for numbers n and t that need not be looked for in its header
asks : List ℕ → ℕ → ℕ → Result (Unit {0}) Refusal
asks bytes n t =
    asked (is_length (length bytes)) no.Length
    then header_asked bytes
    then for_each (block_asked bytes n t) (blocks_for t)
    then asked (is_false (numbers_in (record_of bytes (t - 1)))) (no.NotFalse (t - 1))

yes_back : (bytes : List ℕ) (n t : ℕ) → asks bytes n t ≡ Ok tt → AllYes bytes n t
unfolding asks
yes_back bytes n t h =
    let a = then_both (asked (is_length (length bytes)) no.Length) _ h in
    let b = then_both (header_asked bytes) _ a.1 in
    let c = then_both (for_each (block_asked bytes n t) (blocks_for t)) _ b.1 in
    let e = then_both (asked (seal_right (block_of bytes 0)) (no.Seal 0)) _ b.0 in
    let f = then_both (asked (frame_right (block_of bytes 0) 0 0 14) (no.Frame 0)) _ e.1 in
    let block : (b : ℕ) → b < blocks_for t → (frame_asked bytes t b ≡ Ok tt) × (for_each (λ c. record_asked bytes n (8 * b + c)) (count_in t b) ≡ Ok tt) =
    λ b l. block_yes bytes n t b (each_at (block_asked bytes n t) b (blocks_for t) c.0 l) in
    record {
      size = asked_yes _ _ a.0;
      first = record { seal = asked_yes _ _ e.0; frame = asked_yes _ _ f.0 };
      header = asked_yes _ _ f.1;
      blocks = λ b l. frame_yes bytes t b (block b l).0;
      records = λ r l.
          let p = place t r l in
          let o = each_at (λ c. record_asked bytes n (8 * (r / 8) + c)) (r % 8) (count_in t (r / 8)) (block (r / 8) p.0).1 p.1 in
          record_yes bytes n r (ap (record_asked bytes n) (sym p.2) ∙ o);
      last = asked_yes _ _ c.1;
    }

yes_forth : (bytes : List ℕ) (n t : ℕ) → AllYes bytes n t → asks bytes n t ≡ Ok tt
unfolding asks
yes_forth bytes n t h =
    let header : header_asked bytes ≡ Ok tt = rw (h.first.seal, h.first.frame, h.header) in
    let blocks = each_all (block_asked bytes n t) (blocks_for t) (λ b l. yes_block bytes n t b (h.blocks b l) h.records) in
    rw (h.size, header, blocks, h.last)

pub all_yes : (bytes : List ℕ) → image_asked bytes ≡ Ok tt → AllYes bytes (unknowns_in bytes) (records_in bytes)
unfolding asks
all_yes bytes h = yes_back bytes (unknowns_in bytes) (records_in bytes) h

pub yes_all : (bytes : List ℕ) (n t : ℕ) → unknowns_in bytes ≡ n → records_in bytes ≡ t → AllYes bytes n t → image_asked bytes ≡ Ok tt
unfolding asks
yes_all bytes n t e f h = ap (λ m. asks bytes m (records_in bytes)) e ∙ (ap (asks bytes n) f ∙ yes_forth bytes n t h)
