-- Four bytes for each number.
use Rattle.std.proofs.Common.{◌≡◌, ℕ, ◌<◌, List, length, get_or, map, pos, sym, ◌∙◌, arith, rules}
use Rattle.std.specs.Array.{IsMapOf}
use Rattle.std.specs.Fn.{Called}
use Rattle.std.proofs.Math.ListN.{get_or-map}
use Rattle.std.proofs.lemmas.List.{ext_get_or, length-map}
use Rattle.rows.specs.Bytes.{bytes_i32}
use Rattle.writer.proofs.record.number_bytes.Goals as goal
use denote.Param.Members.{Mut}

-- what an array's `map` makes of it, where each call gives h of its element
map_of : {F A B : Type 0} {g : Mut F (A × Unit {0}) B} {f : F} {ys : List B} {n : ℕ} (h : A → B) (xs : List A) (d : A) → IsMapOf g f xs ys n → length xs ≡ n →
    ((i : ℕ) (p q : F) → i < n → Called g p (get_or xs i d, tt) (get_or ys i (h d)) q → get_or ys i (h d) ≡ h (get_or xs i d)) → ys ≡ map h xs
map_of {F} {A} {B} {g} {f} {ys} {n} h xs d mapped len each =
    ext_get_or (h d) ys (map h xs) (mapped.long ∙ sym (length-map xs h ∙ len)) (λ i b. let call = mapped.at i d (h d) (omega (arith, mapped.long)) in each i call.0 call.1 (omega (arith, mapped.long)) call.2 ∙ sym (get_or-map h xs i d))

pub returns : goal.returns
returns c = map_of bytes_i32 c.args.row.now.numbers (pos 0) c.map.ensures.items (search rules) (λ i p q b k. search rules)
