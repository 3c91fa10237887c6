-- The coefficients behind the origin, then the constant, and zeros.
use Rattle.std.proofs.Common.{◌≡◌, ℕ, suc, ◌+◌, ◌-◌, List, [], ◌∷◌, ℤ, ◌++◌, length, get_or, take, drop, map, sym, ap, ◌∙◌, append_assoc, append-nil, arith, rules, length-append, length-drop}
use Rattle.std.specs.List.{flat_map}
use Rattle.std.proofs.lemmas.List.{drop-map, take-map, take_all, take-append-drop, length-take-le}
use Rattle.std.proofs.lemmas.List.Concat.{flat_map-append}
use Rattle.std.proofs.lemmas.List.Folds.{flat_map-map}
use Rattle.rows.specs.Bytes.{bytes_i32}
use Rattle.rows.specs.Image.{row_bytes, zero_bytes}
use Rattle.writer.specs.Writing.{written}
use Rattle.writer.proofs.Written.{written-zero_bytes}
use Rattle.writer.proofs.record.write_record.Goals as goal

-- the bytes of the numbers, those of the constant last
constant_last : (row : List ℤ) (numbers : List (List ℕ)) (n : ℕ) → length numbers ≡ suc n → numbers ≡ map bytes_i32 row → flat_map (λ number. number) (drop 1 numbers) ++ get_or numbers 0 [] ≡ row_bytes row
unfolding row_bytes
constant_last row [] n l e = absurd (omega arith)
constant_last row (number ∷ others) n l e =
    ap (λ last. flat_map (λ number. number) others ++ last) (sym (append-nil number))
    ∙ ap (λ numbers. flat_map (λ number. number) (drop 1 numbers) ++ flat_map (λ number. number) (take 1 numbers)) e
    ∙ simp (drop-map, take-map, flat_map-append, flat_map-map)

-- part behind part over zeros
parts : (bytes f constant : List ℕ) → length (take 16 bytes) ≡ 16 → drop 16 bytes ≡ zero_bytes 44 → length f ≡ 32 → length constant ≡ 4 → written (written bytes 16 f) 48 constant ≡ take 16 bytes ++ ((f ++ constant) ++ zero_bytes 8)
parts bytes f constant h z l k =
    let front : List ℕ = take 16 bytes in
    let first : written bytes 16 f ≡ (front ++ f) ++ zero_bytes 12 =
    ap (λ bytes. written bytes 16 f) (sym (take-append-drop 16 bytes) ∙ ap (λ rest. front ++ rest) z) ∙ written-zero_bytes front f 16 44 (sym h) ∙ ap (λ n. (front ++ f) ++ zero_bytes (44 - n)) l in
    ap (λ bytes. written bytes 48 constant) first ∙ written-zero_bytes (front ++ f) constant 48 12 (let n : length (front ++ f) ≡ length front + length f = simp length-append in omega arith) ∙ ap (λ n. ((front ++ f) ++ constant) ++ zero_bytes (12 - n)) k ∙ simp append_assoc

pub returns : goal.returns
returns c =
    let numbers : List (List ℕ) = c.number_bytes-numbers.result in
    let constant : List ℕ = get_or numbers 0 [] in
    let nine : length numbers ≡ 9 = search rules in
    let four : length constant ≡ 4 = search rules in
    let flat : c.as_flattened.result.now ≡ flat_map (λ number. number) (drop 1 numbers) = c.as_flattened.ensures.value ∙ ap (flat_map (λ number. number)) (take_all 8 (drop 1 numbers) (omega (arith, length-drop 1 numbers))) in
    let last : c.as_flattened.result.now ++ constant ≡ row_bytes c.args.row.now.numbers = ap (λ f. f ++ constant) flat ∙ constant_last c.args.row.now.numbers numbers 8 nine c.number_bytes-numbers.ensures in
    c.put-2.ensures ∙ ap (λ bytes. written bytes 48 constant) c.put.ensures
    ∙ parts c.write_origin.new.bytes c.as_flattened.result.now constant (length-take-le 16 c.write_origin.new.bytes (omega (arith, length-drop 16 c.write_origin.new.bytes, ap length c.write_origin.ensures.rest))) c.write_origin.ensures.rest (omega arith) four
    ∙ ap (λ row. take 16 c.write_origin.new.bytes ++ (row ++ zero_bytes 8)) last ∙ sym (c.write_origin.ensures.front c.args.row.now)
