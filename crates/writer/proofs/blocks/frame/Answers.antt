-- Number and count in front, zeros up to the seal, and the seal of all that is before it.
use Rattle.std.proofs.Common.{◌≡◌, ℕ, ◌+◌, ◌-◌, ◌≤◌, List, ◌++◌, length, take, sym, ap, ◌∙◌, append_assoc, append-nil, arith, length-append}
use Rattle.std.proofs.lemmas.List.{take_at, length-replicate, replicate-append-replicate}
use Rattle.rows.specs.Bytes.{bytes16, bytes32, seal_of}
use Rattle.rows.specs.Image.{zero_bytes, block_body, sealed}
use Rattle.writer.specs.Writing.{written}
use Rattle.writer.proofs.Written.{written-zero_bytes}
use Rattle.writer.proofs.blocks.frame.Goals as goal

-- what stands before the seal
front : (number count : ℕ) (held n c was one two : List ℕ) → length held ≤ 500 → was ≡ zero_bytes 8 ++ (held ++ zero_bytes (504 - length held)) → one ≡ written was 0 n → n ≡ bytes32 number → two ≡ written one 4 c → c ≡ bytes16 count →
    two ≡ block_body number count held ++ zero_bytes 4
unfolding block_body
front number count held n c was one two h w p e q f =
    let k : 504 - length held ≡ 500 - length held + 4 = omega arith in
    let zeros : zero_bytes (504 - length held) ≡ zero_bytes (500 - length held) ++ zero_bytes 4 = ap zero_bytes k ∙ sym (replicate-append-replicate (500 - length held) 4 0) in
    rw (q, f, p, e, w, zeros) (simp append_assoc)

length_body : (number count : ℕ) (held : List ℕ) → length held ≤ 500 → length (block_body number count held) ≡ 508
unfolding block_body
length_body number count held h = simp (length-append, length-replicate) (omega arith)

-- the seal of any such front
seals : (body bytes s last : List ℕ) (seal : ℕ) → length body ≡ 508 → bytes ≡ body ++ zero_bytes 4 → seal ≡ seal_of (take 508 bytes) → last ≡ written bytes 508 s → s ≡ bytes32 seal → last ≡ sealed body
unfolding sealed
seals body bytes s last seal n b of e f =
    let part : s ≡ bytes32 (seal_of body) = f ∙ ap bytes32 (of ∙ ap seal_of (ap (take 508) b ∙ take_at body (zero_bytes 4) 508 n)) in
    e ∙ ap (λ bytes. written bytes 508 s) b ∙ ap (written (body ++ zero_bytes 4) 508) part ∙ written-zero_bytes body (bytes32 (seal_of body)) 508 4 (sym n) ∙ append-nil (body ++ bytes32 (seal_of body))

pub returns : goal.returns
returns c held h w =
    let front = front c.args.number c.args.count held _ _ _ _ _ h w c.put.ensures c.to_le_bytes.ensures c.put-2.ensures c.to_le_bytes-2.ensures in
    seals _ _ _ _ _ (length_body c.args.number c.args.count held h) front c.seal-seal.ensures c.put-3.ensures c.to_le_bytes-3.ensures
