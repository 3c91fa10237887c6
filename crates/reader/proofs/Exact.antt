-- Bytes are accepted exactly when they are the image of a derivation, which is then the one that is shown.
use Rattle.std.proofs.Common.{◌≡◌, ℕ, suc, ◌<◌, Bool, true, false, cond, List, [], ◌∷◌, map, filter, length, get_or, Ok, Err, Result, sym, refl, ap, ◌∙◌, subst, arith, w8, Fits}
use Rattle.std.specs.List.{range_with_len}
use Rattle.std.proofs.lemmas.List.Sums.{length-filter}
use Rattle.std.proofs.ByRecursion.{All-from_get_or}
use Rattle.rows.specs.Bytes.{AllBytes}
use Rattle.rows.specs.Derivations.{Record, input, step, is_given, inputs_of, Derivation, IsDerivation}
use Rattle.rows.specs.Image.{record_of, numbers_in, unknowns_in, records_in, image_of, is_input}
use Rattle.rows.specs.Origins.{record_with}
use Rattle.rows.specs.Questions.{answered}
use Rattle.rows.proofs.Consequences.{none_fits}
use Rattle.rows.proofs.Images.{derivation_shown, all_image, shown_back}
use Rattle.rows.proofs.RecordBytes.{record_shown, Held, input_forth, step_forth}
use Rattle.reader.specs.Exactness.{Shows, shown_of, AcceptsExactlyImages}
use Rattle.reader.specs.Reading.{Reading, image_asked, inputs_below, reading_of, read_of}
use Rattle.reader.specs.Shown.{bytes_in, origin_in}
use Rattle.reader.specs.declared.refusal.Refusal.{Refusal}
use Rattle.reader.proofs.Complete.{image_accepted}
use Rattle.reader.proofs.Headers.{header_sized, shown_is}
use Rattle.reader.proofs.Records.{given_shown, kind_shown}
use Rattle.reader.proofs.Sound as sound
use Rattle.reader.proofs.Yes.{AllYes, all_yes}

-- as many inputs are counted as the derivation has
inputs_shown : (bytes : List ℕ) (t : ℕ) → inputs_below bytes t ≡ length (inputs_of (map (λ r. record_shown (record_of bytes r)) (range_with_len 0 t)))
inputs_shown bytes t = sym (same_count (range_with_len 0 t) ∙ length-filter input_at (range_with_len 0 t))
  where
    shown : ℕ → Record
    shown r = record_shown (record_of bytes r)

    input_at : ℕ → Bool
    input_at r = is_input (record_of bytes r)

    one_more : (b c : Bool) → c ≡ b → (x : Record) (y : ℕ) (xs : List Record) (ys : List ℕ) → length xs ≡ length ys → length (cond c (x ∷ xs) xs) ≡ length (cond b (y ∷ ys) ys)
    one_more true c e x y xs ys h = rw e (ap suc h)
    one_more false c e x y xs ys h = rw e h

    same_count : (rs : List ℕ) → length (filter is_given (map shown rs)) ≡ length (filter input_at rs)
    same_count [] = refl
    same_count (r ∷ rs) = one_more (input_at r) (is_given (shown r)) (given_shown (record_of bytes r)) (shown r) r _ _ (same_count rs)

shows : (bytes : List ℕ) → AllBytes bytes → AllYes bytes (unknowns_in bytes) (records_in bytes) → Shows (reading_of bytes) (derivation_shown bytes)
shows bytes fit h = record {
  records = sym (sound.length_shown bytes);
  inputs = inputs_shown bytes (records_in bytes);
  each = λ r l.
      let k = sound.below bytes fit h r l in
      shown_is bytes (header_sized bytes h.header) r k
      ∙ (kind_shown (record_of bytes r) (sound.bytes_at bytes fit h r k) ∙ ap (λ rec. Ok (shown_of rec)) (sym (sound.shown_at_lem bytes r k)));
}

exact : (bytes : List ℕ) → AllBytes bytes → AcceptsExactlyImages bytes (read_of bytes)
exact bytes fit = go (image_asked bytes) refl
  where
    go : (o : Result (Unit {0}) Refusal) → image_asked bytes ≡ o → AcceptsExactlyImages bytes (answered o (reading_of bytes))
    go (Ok tt) e =
        let h = all_yes bytes e in
        let d = sound.derivation bytes fit h in (
          derivation_shown bytes,
          record {
            derivation = d;
            image = sound.image bytes fit h;
            only = λ other k p. sym (shown_back other k) ∙ ap derivation_shown (sym p);
            shows = shows bytes fit h;
            none_fits = none_fits (derivation_shown bytes) d;
          },
        )
    go (Err refusal) e = λ d h p.
        let accepted : image_asked bytes ≡ Ok tt = ap image_asked p ∙ image_accepted d h in
        let z : ◌≡◌ {A = ℕ} 0 1 = cc in
        absurd (omega arith)

-- the same of an answer that is the definition's, for bytes as a slice has them
pub exactly : (bytes : List ℕ) → ((i : ℕ) → Fits w8 (get_or bytes i 0)) → (answer : Result Reading Refusal) → answer ≡ read_of bytes → AcceptsExactlyImages bytes answer
exactly bytes fit answer e = subst (AcceptsExactlyImages bytes) (sym e) (exact bytes (All-from_get_or (λ x. x < 256) bytes 0 (λ i l. (fit i).fits)))

-- what is written of a derivation is accepted, and shown as the same records
pub reads_back : (d : Derivation) → IsDerivation d → (reading : Reading) × (read_of (image_of d) ≡ Ok reading) × Shows reading d
reads_back d h = go (read_of (image_of d)) refl (exact (image_of d) (all_image d))
  where
    go : (o : Result Reading Refusal) → read_of (image_of d) ≡ o → AcceptsExactlyImages (image_of d) o → (reading : Reading) × (read_of (image_of d) ≡ Ok reading) × Shows reading d
    go (Ok reading) e x = (reading, e, subst (Shows reading) (sym (x.1.only d h refl)) x.1.shows)
    go (Err refusal) e x = absurd (x d h refl)

-- the origin and the row of a record, taken from what is shown of it, are its own
pub shown_parts : (rec : Record) → Held rec → record_with (origin_in (shown_of rec)) (record { numbers = numbers_in (bytes_in (shown_of rec)) }) ≡ rec
shown_parts (input tag row) h = let f = input_forth tag row h in rw (f.its_tag, f.numbers)
shown_parts (step first second u v row) h = let f = step_forth first second u v row h in rw (f.its_first, f.its_second, f.its_u, f.its_v, f.numbers)
