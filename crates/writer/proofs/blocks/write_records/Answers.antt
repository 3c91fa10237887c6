-- One record more, until none is left.
use Rattle.std.proofs.Common.{◌≡◌, List, ℕ, suc, ◌+◌, ◌-◌, ◌≤◌, ◌∷◌, ◌++◌, length, take, drop, sym, refl, ap, ◌∙◌, append_assoc, append-nil, arith, rules, length-take-le}
use Rattle.std.specs.Iterator.Adapters.{zip_first, zip_second}
use Rattle.std.specs.List.{flat_map}
use Rattle.std.specs.Slice.Iter.{iter_rest}
use Rattle.std.proofs.lemmas.List.{drop_at, take-replicate}
use Rattle.std.proofs.lemmas.Slice.Zip.{either_empty_from_Zip, Zip-more}
use Rattle.rows.specs.Derivations.{Record}
use Rattle.rows.specs.Image.{zero_bytes, block_body, sealed, record_bytes}
use Rattle.rows.specs.Origins.{record_with, records_with}
use Rattle.writer.specs.Writing.{written}
use Rattle.writer.proofs.Pairs.{none_left}
use Rattle.writer.proofs.Written.{take-written, take-written_next, written_in, written-zero_bytes}
use Rattle.writer.proofs.blocks.write_records.Goals as goal

-- behind the part stand as many zeros fewer
zeros_on : (bytes part new : List ℕ) (at n k : ℕ) → length part ≡ k → n ≡ at + k → at ≤ length bytes → bytes ≡ take at bytes ++ zero_bytes (512 - at) → new ≡ written bytes at part → new ≡ take n new ++ zero_bytes (512 - n)
zeros_on bytes part new at n k l e r z w =
    let front : take n new ≡ take at bytes ++ part = ap (take n) w ∙ take-written bytes part at n (omega arith) r in
    let less : 512 - at - length part ≡ 512 - n = omega arith in
    w ∙ ap (λ bytes. written bytes at part) z ∙ written-zero_bytes (take at bytes) part at (512 - at) (sym (length-take-le at bytes r))
    ∙ (λ i. sym front i ++ zero_bytes (less i))

pub write_record-requires : goal.write_record-requires
write_record-requires c =
    let end : ℕ = c.loop-origin.end in
    let block : List ℕ = c.loop-origin.block in
    let pair = Zip-more c.loop-origin.origin-iterator c.next.new.self _ _ c.in-Some.is c.next.ensures.steps in
    let left : length (records_with (iter_rest (zip_first c.loop-origin.origin-iterator)) (iter_rest (zip_second c.loop-origin.origin-iterator))) ≡ suc (length (records_with (iter_rest (zip_first c.next.new.self)) (iter_rest (zip_second c.next.new.self)))) = λ i. length (records_with (pair.0 i) (pair.1 i)) in
    let room : 60 ≤ 512 - end = omega (arith, left) in
    let k : end + 60 - end ≡ 60 = omega arith in
    let front : length (take end block) ≡ end = length-take-le end block (omega (arith, left)) in
    let rest : drop end block ≡ zero_bytes (512 - end) = ap (drop end) c.loop-origin.invariant.zeros ∙ drop_at (take end block) (zero_bytes (512 - end)) end front in
    record { zeros = rw (k, rest) (take-replicate 60 (512 - end) 0 room) }

pub loop-origin-preserved : goal.loop-origin-preserved
loop-origin-preserved c =
    let pair = Zip-more c.loop-origin.origin-iterator c.next.new.self _ _ c.in-Some.is c.next.ensures.steps in
    let one : Record = record_with c.in-Some.origin.now c.in-Some.row.now in
    let others : List Record = records_with (iter_rest (zip_first c.next.new.self)) (iter_rest (zip_second c.next.new.self)) in
    let left : records_with (iter_rest (zip_first c.loop-origin.origin-iterator)) (iter_rest (zip_second c.loop-origin.origin-iterator)) ≡ one ∷ others = λ i. records_with (pair.0 i) (pair.1 i) in
    let end : ℕ = c.loop-origin.end in
    let block : List ℕ = c.loop-origin.block in
    let part : List ℕ = c.write_record.new.bytes in
    let long : length part ≡ 60 = search rules in
    let fits : end ≤ length block = omega (arith, ap length left) in
    let new = written_in block part end (end + 60) (omega arith) in
    record {
      zeros = zeros_on block part _ end (end + 60) 60 long refl fits c.loop-origin.invariant.zeros new;
      bytes = take-written_next record_bytes one others block part _ _ end (end + 60) (rw left at c.loop-origin.invariant.bytes) c.write_record.ensures (omega arith) fits new;
      end = omega (arith, ap length left);
    }

pub returns : goal.returns
returns c =
    let records : List Record = records_with c.args.origins.now c.args.rows.now in
    let held : List ℕ = flat_map record_bytes records in
    let end : ℕ = c.loop-origin.end in
    let front : List ℕ = take end c.loop-origin.block in
    let none = none_left _ _ (either_empty_from_Zip c.loop-origin.origin-iterator c.next.new.self _ c.in-None.is c.next.ensures.steps) in
    let whole : front ≡ zero_bytes 8 ++ held = sym (append-nil front) ∙ ap (λ left. front ++ flat_map record_bytes left) (sym none) ∙ c.loop-origin.invariant.bytes in
    let stop : end ≡ 8 + length held = omega (arith, c.loop-origin.invariant.end, ap length none, ap length whole, length-take-le end c.loop-origin.block (omega (arith, ap length none))) in
    let few : 512 - end ≡ 504 - length held = omega arith in
    let block = c.loop-origin.invariant.zeros ∙ (λ i. whole i ++ zero_bytes (few i)) ∙ append_assoc (zero_bytes 8) held (zero_bytes (504 - length held)) in
    c.frame.ensures held (omega arith) block ∙ ap (λ n. sealed (block_body c.args.number n held)) c.pairs.ensures
