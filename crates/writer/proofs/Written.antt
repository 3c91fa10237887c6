-- What stands where after a part is written.
use Rattle.std.proofs.Common.{◌≡◌, ℕ, ◌+◌, ◌-◌, ◌≤◌, List, ◌++◌, length, take, sym, ap, ◌∙◌, append_assoc, arith, length-append, length-take-le}
use Rattle.std.specs.List.{flat_map}
use Rattle.std.proofs.Math.Seq.{take-append_seam, drop-append-add}
use borrow.Rule.Slice.PartMut.{put_mid}
use Rattle.std.proofs.lemmas.List.{drop-drop, drop-replicate, take_at}
use Rattle.rows.specs.Image.{zero_bytes}
use Rattle.writer.specs.Writing.{written}

-- a write into `bytes[at..end]`
pub written_in : (bytes part : List ℕ) (at end : ℕ) → end ≡ at + length part → put_mid at (end - at) bytes part ≡ written bytes at part
written_in bytes part at end e =
    let k : end - at ≡ length part = omega arith in
    rw (k, drop-drop (length part) at bytes)

-- the part stands behind what stood before it
pub take-written : (bytes part : List ℕ) (at n : ℕ) → n ≡ at + length part → at ≤ length bytes → take n (written bytes at part) ≡ take at bytes ++ part
take-written bytes part at n e h =
    let l : length (take at bytes ++ part) ≡ n = simp (length-append, length-take-le at bytes h) (omega arith) in
    ap (take n) (sym (append_assoc (take at bytes) part _)) ∙ take_at (take at bytes ++ part) _ n l

-- over zeros, right behind what stands before them
pub written-zero_bytes : (front part : List ℕ) (at k : ℕ) → at ≡ length front → written (front ++ zero_bytes k) at part ≡ (front ++ part) ++ zero_bytes (k - length part)
written-zero_bytes front part at k e =
    rw (e, take-append_seam front (zero_bytes k), drop-append-add front (zero_bytes k) (length part), drop-replicate) (sym (append_assoc front part (zero_bytes (k - length part))))

-- the next of the parts that are still to be written
pub take-written_next : {X : Type 0} (f : X → List ℕ) (x : X) (left : List X) (bytes part new all : List ℕ) (at n : ℕ) → take at bytes ++ (f x ++ flat_map f left) ≡ all → part ≡ f x → n ≡ at + length part → at ≤ length bytes →
    new ≡ written bytes at part → take n new ++ flat_map f left ≡ all
take-written_next f x left bytes part new all at n h p e r w =
    let front : take n new ≡ take at bytes ++ f x = ap (take n) w ∙ take-written bytes part at n e r ∙ ap (λ part. take at bytes ++ part) p in
    ap (λ front. front ++ flat_map f left) front ∙ append_assoc (take at bytes) (f x) (flat_map f left) ∙ h
