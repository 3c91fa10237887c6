-- What the answers about a record say of the record that its bytes show.
use Rattle.std.proofs.Common.{◌≡◌, ℕ, ◌<◌, Bool, true, false, cond, ◌||◌, List, length, ℤ, Some, Ok, Result, sym, refl, ap, ◌∙◌, subst, arith}
use Rattle.std.proofs.lemmas.Bool.{eq-eqb, or_left, or_right}
use Rattle.std.proofs.lemmas.Bool.Decides.{nat_tests}
use Rattle.rows.specs.Bytes.{AllBytes}
use Rattle.rows.specs.Derivations.{Record, is_given, row_in, row_at, are_parents, Stands}
use Rattle.rows.specs.Image.{record_of, first_in, second_in, u_in, v_in, numbers_in, is_input, record_bytes}
use Rattle.rows.specs.Rows.{is_row, combination_of}
use Rattle.rows.proofs.Fields.{le16_lt}
use Rattle.rows.proofs.Same.{same_row_is}
use Rattle.rows.proofs.RecordBytes.{record_shown, shown_input, shown_step, AsInput, AsStep, input_back, step_back}
use Rattle.rows.proofs.Standing.{parents}
use Rattle.reader.specs.Exactness.{shown_of}
use Rattle.reader.specs.Reading.{kind_right}
use Rattle.reader.specs.Shown.{Shown}
use Rattle.reader.specs.Shown as shown
use Rattle.reader.specs.declared.refusal.Refusal.{Refusal}
use Rattle.reader.proofs.Yes.{RecordYes}

pub row_shown : (rec : List ℕ) → row_in (record_shown rec) ≡ numbers_in rec
unfolding record_shown
row_shown rec = grind (arith, nat_tests)

-- kind and unassigned bytes
as_input : (rec : List ℕ) → kind_right rec ≡ true → is_input rec ≡ true → AsInput rec (first_in rec) (numbers_in rec)
as_input rec h k = record {
  kind = grind (arith, nat_tests);
  its_tag = refl;
  numbers = refl;
  after_kind = grind (arith, nat_tests);
  after_tag = grind (arith, nat_tests);
  after_row = grind (arith, nat_tests);
}

as_step : (rec : List ℕ) → kind_right rec ≡ true → is_input rec ≡ false → AsStep rec (first_in rec) (second_in rec) (u_in rec) (v_in rec) (numbers_in rec)
as_step rec h k = record {
  kind = grind (arith, nat_tests);
  its_first = refl;
  its_second = refl;
  its_u = refl;
  its_v = refl;
  numbers = refl;
  after_kind = grind (arith, nat_tests);
  after_row = grind (arith, nat_tests);
}

-- the bytes are those of the record that they show
pub bytes_shown : (rec : List ℕ) → length rec ≡ 60 → AllBytes rec → kind_right rec ≡ true → record_bytes (record_shown rec) ≡ rec
bytes_shown rec l b h = go (is_input rec) refl
  where
    go : (x : Bool) → is_input rec ≡ x → record_bytes (record_shown rec) ≡ rec
    go true k = ap record_bytes (shown_input rec k) ∙ input_back rec _ _ l b (as_input rec h k)
    go false k = ap record_bytes (shown_step rec k) ∙ step_back rec _ _ _ _ _ l b (as_step rec h k)

-- and they are shown as that record
pub kind_shown : (rec : List ℕ) → record_bytes (record_shown rec) ≡ rec → ◌≡◌ {A = Result Shown Refusal} (cond (is_input rec) (Ok (shown.input rec)) (Ok (shown.step rec))) (Ok (shown_of (record_shown rec)))
unfolding record_shown
kind_shown rec e = grind (arith, nat_tests)

pub given_shown : (rec : List ℕ) → is_given (record_shown rec) ≡ is_input rec
unfolding record_shown
given_shown rec = grind (arith, nat_tests)

or_rest : (x y : Bool) → x ≡ false → (x || y) ≡ true → y ≡ true
or_rest x y p h = grind (arith, nat_tests)

-- record r stands right among records whose earlier rows are those of the image
pub stands_shown : (bytes : List ℕ) (n r : ℕ) (records : List Record) → length (record_of bytes r) ≡ 60 → AllBytes (record_of bytes r) → RecordYes bytes n r
    → ((i : ℕ) → i < r → row_at records i ≡ numbers_in (record_of bytes i)) → Stands n records r (record_shown (record_of bytes r))
stands_shown bytes n r records l b h rows = go (is_input rec) refl
  where
    rec : List ℕ
    rec = record_of bytes r

    go : (x : Bool) → is_input rec ≡ x → Stands n records r (record_shown rec)
    go true k = subst (Stands n records r) (sym (shown_input rec k)) (h.row, le16_lt rec 4 (omega arith) b)
    go false k =
        let p : are_parents r (first_in rec) (second_in rec) (u_in rec) (v_in rec) ≡ true = or_rest (is_input rec) _ k h.parents in
        let c = (same_row_is _ (numbers_in rec)).0 (or_rest (is_input rec) _ k h.combination) in
        let e = parents r (first_in rec) (second_in rec) (u_in rec) (v_in rec) p in
        let first = rows (first_in rec) e.first_earlier in
        let second = rows (second_in rec) e.second_earlier in
        subst (Stands n records r) (sym (shown_step rec k)) (h.row, p, rw (first, second) c)

-- the answers about a record's bytes, for a record that stands right
kind_input : (rec : List ℕ) (tag : ℕ) (row : List ℤ) → AsInput rec tag row → kind_right rec ≡ true
kind_input rec tag row h = rw (h.kind, h.after_tag, h.after_kind, h.after_row)

kind_step : (rec : List ℕ) (first second u v : ℕ) (row : List ℤ) → AsStep rec first second u v row → kind_right rec ≡ true
kind_step rec first second u v row h = rw (h.kind, h.after_kind, h.after_row)

pub yes_input : (bytes : List ℕ) (n r tag : ℕ) (row : List ℤ) → AsInput (record_of bytes r) tag row → is_row n row ≡ true → RecordYes bytes n r
yes_input bytes n r tag row h i =
    let k : is_input (record_of bytes r) ≡ true = eq-eqb _ 1 h.kind in
    record {
      kind = kind_input (record_of bytes r) tag row h;
      row = rw h.numbers i;
      parents = or_left (is_input (record_of bytes r)) _ k;
      combination = or_left (is_input (record_of bytes r)) _ k;
    }

pub yes_step : (bytes : List ℕ) (n r first second u v : ℕ) (row : List ℤ) → AsStep (record_of bytes r) first second u v row → is_row n row ≡ true
    → are_parents r first second u v ≡ true
    → combination_of u (numbers_in (record_of bytes first)) v (numbers_in (record_of bytes second)) ≡ Some row → RecordYes bytes n r
yes_step bytes n r first second u v row h i p c =
    let rec : List ℕ = record_of bytes r in
    let q : are_parents r (first_in rec) (second_in rec) (u_in rec) (v_in rec) ≡ true = rw (h.its_first, h.its_second, h.its_u, h.its_v) p in
    let m : combination_of (u_in rec) (numbers_in (record_of bytes (first_in rec))) (v_in rec) (numbers_in (record_of bytes (second_in rec))) ≡ Some (numbers_in rec) =
    rw (h.its_first, h.its_second, h.its_u, h.its_v, h.numbers) c in
    record {
      kind = kind_step rec first second u v row h;
      row = rw h.numbers i;
      parents = or_right (is_input rec) _ q;
      combination = or_right (is_input rec) _ ((same_row_is _ (numbers_in rec)).1 m);
    }
