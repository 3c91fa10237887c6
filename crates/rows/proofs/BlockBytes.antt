-- A block and what it holds: each shows the other.
use Rattle.std.proofs.Common.{◌≡◌, ℕ, ◌+◌, ◌-◌, ◌*◌, ◌^◌, ◌<◌, ◌≤◌, true, List, [], ◌∷◌, ◌++◌, length, take, drop, sym, refl, ap, ◌∙◌, mul-le-mul, arith}
use Rattle.std.proofs.ByRecursion.{All-append}
use Rattle.std.proofs.lemmas.List.{append_assoc, append-nil, length-append, length-replicate, take_all, take_at}
use Rattle.rows.specs.Bytes.{AllBytes, le16, le32, bytes16, bytes32, zeros_in, weigh, seal_of}
use Rattle.rows.specs.Image.{zero_bytes, block_body, sealed, header_bytes}
use Rattle.rows.proofs.Fields.{join, le16_at, le32_at, bytes16-le16, bytes32-le32, all_bytes16, all_bytes32, all_zeros, zeros_at, zeros_back}

-- what a block has that holds these bytes
pub record AsBlock (block : List ℕ) (number count : ℕ) (held : List ℕ) : Type 0 where
  pub seal : le32 block 508 ≡ seal_of (take 508 block)
  pub its_number : le32 block 0 ≡ number
  pub its_count : le16 block 4 ≡ count
  pub before : zeros_in block 6 8 ≡ true
  pub after : zeros_in block (8 + length held) 508 ≡ true
  pub its_held : held ≡ take (length held) (drop 8 block)

length_body : (number count : ℕ) (held : List ℕ) → length held ≤ 500 → length (block_body number count held) ≡ 508
unfolding block_body
length_body number count held h = simp (length-append, length-replicate) (omega arith)

length-sealed : (body : List ℕ) → length (sealed body) ≡ length body + 4
unfolding sealed
length-sealed body = length-append body (bytes32 (seal_of body))

pub length_block : (number count : ℕ) (held : List ℕ) → length held ≤ 500 → length (sealed (block_body number count held)) ≡ 512
length_block number count held h = length-sealed (block_body number count held) ∙ ap (λ n. n + 4) (length_body number count held h)

all_body : (number count : ℕ) (held : List ℕ) → AllBytes held → AllBytes (block_body number count held)
unfolding block_body
all_body number count held h =
    let front : AllBytes (bytes32 number ++ bytes16 count) = All-append (λ x. x < 256) (bytes32 number) (bytes16 count) (all_bytes32 number) (all_bytes16 count) in
    let back : AllBytes (held ++ zero_bytes (500 - length held)) = All-append (λ x. x < 256) held (zero_bytes (500 - length held)) h (all_zeros (500 - length held)) in
    All-append (λ x. x < 256) (bytes32 number ++ bytes16 count) (zero_bytes 2 ++ (held ++ zero_bytes (500 - length held))) front
    (All-append (λ x. x < 256) (zero_bytes 2) (held ++ zero_bytes (500 - length held)) (all_zeros 2) back)

all_sealed : (body : List ℕ) → AllBytes body → AllBytes (sealed body)
unfolding sealed
all_sealed body h = All-append _ body (bytes32 (seal_of body)) h (all_bytes32 (seal_of body))

pub all_block : (number count : ℕ) (held : List ℕ) → AllBytes held → AllBytes (sealed (block_body number count held))
all_block number count held h = all_sealed (block_body number count held) (all_body number count held h)

-- a seal has four bytes
weigh_le : (i : ℕ) (xs : List ℕ) → i + length xs ≤ 508 → AllBytes xs → weigh i xs ≤ 129540 * length xs
weigh_le i [] h b = omega arith
weigh_le i (x ∷ xs) h b =
    let k : i + 1 ≤ 508 = omega arith in
    let y : x ≤ 255 = omega (arith, b.0) in
    let here : (i + 1) * x ≤ 129540 = mul-le-mul k y in
    let there = weigh_le (i + 1) xs (omega arith) b.1 in
    omega arith

seal_forth : (body : List ℕ) → length body ≡ 508 → AllBytes body → le32 (sealed body) 508 ≡ seal_of (take 508 (sealed body))
unfolding sealed
seal_forth body l b =
    let w = weigh_le 0 body (omega arith) b in
    ap (λ t. le32 (body ++ t) 508) (sym (append-nil (bytes32 (seal_of body))))
    ∙ (le32_at body [] (seal_of body) 508 l (omega arith) ∙ ap seal_of (sym (take_at body (bytes32 (seal_of body)) 508 l)))

-- the parts of a block, one after another
in_parts : (number count : ℕ) (held : List ℕ) →
    (s : ℕ) × (sealed (block_body number count held) ≡ bytes32 number ++ (bytes16 count ++ (zero_bytes 2 ++ (held ++ (zero_bytes (500 - length held) ++ bytes32 s)))))
unfolding sealed block_body
in_parts number count held =
    let s : ℕ = seal_of (block_body number count held) in
    (s, ap (λ t. bytes32 number ++ (bytes16 count ++ (zero_bytes 2 ++ t))) (append_assoc held (zero_bytes (500 - length held)) (bytes32 s)))

-- whatever its number and count are
pub held_in : (number count : ℕ) (held : List ℕ) → held ≡ take (length held) (drop 8 (sealed (block_body number count held)))
held_in number count held =
    let p = in_parts number count held in
    rw p.1 (sym (take_at held (zero_bytes (500 - length held) ++ bytes32 p.0) (length held) refl))

pub block_forth : (number count : ℕ) (held : List ℕ) → number < 2 ^ 32 → count < 2 ^ 16 → length held ≤ 500 → AllBytes held → AsBlock (sealed (block_body number count held)) number count held
block_forth number count held n c l b =
    let e = (in_parts number count held).1 in
    let s : List ℕ = bytes32 (in_parts number count held).0 in
    let front : List ℕ = bytes32 number ++ (bytes16 count ++ zero_bytes 2) in
    let pad : List ℕ = zero_bytes (500 - length held) in
    record {
      seal = seal_forth (block_body number count held) (length_body number count held l) (all_body number count held b);
      its_number = rw e (le32_at [] (bytes16 count ++ (zero_bytes 2 ++ (held ++ (pad ++ s)))) number 0 refl n);
      its_count = rw e (le16_at (bytes32 number) (zero_bytes 2 ++ (held ++ (pad ++ s))) count 4 refl c);
      before = rw e (zeros_at (bytes32 number ++ bytes16 count) (held ++ (pad ++ s)) 2 6 8 refl refl);
      after = rw e (zeros_at (front ++ held) s (500 - length held) (8 + length held) 508 (length-append front held) (omega arith));
      its_held = held_in number count held;
    }

sealed_back : (xs body : List ℕ) → length xs ≡ 512 → AllBytes xs → body ≡ take 508 xs → le32 xs 508 ≡ seal_of (take 508 xs) → sealed body ≡ xs
unfolding sealed
sealed_back xs body l b e s =
    let seal : bytes32 (seal_of body) ≡ take 4 (drop 508 xs) = ap (λ t. bytes32 (seal_of t)) e ∙ (ap bytes32 (sym s) ∙ bytes32-le32 xs 508 (omega arith) b) in
    join 0 508 4 xs body (bytes32 (seal_of body)) e seal ∙ take_all 512 xs (omega arith)

pub block_back : (xs : List ℕ) (number count : ℕ) (held : List ℕ) → length xs ≡ 512 → AllBytes xs → length held ≤ 500 → AsBlock xs number count held → sealed (block_body number count held) ≡ xs
unfolding block_body
block_back xs number count held l b k h =
    let m : ℕ = length held in
    let n : bytes32 number ≡ take 4 (drop 0 xs) = ap bytes32 (sym h.its_number) ∙ bytes32-le32 xs 0 (omega arith) b in
    let c : bytes16 count ≡ take 2 (drop 4 xs) = ap bytes16 (sym h.its_count) ∙ bytes16-le16 xs 4 (omega arith) b in
    let y : zero_bytes 2 ≡ take 2 (drop 6 xs) = zeros_back xs 6 8 (omega arith) (omega arith) h.before in
    let rest : 508 - (8 + m) ≡ 500 - m = omega arith in
    let z : zero_bytes (500 - m) ≡ take (500 - m) (drop (8 + m) xs) = rw rest at (zeros_back xs (8 + m) 508 (omega arith) (omega arith) h.after) in
    let whole : 4 + (2 + (2 + (m + (500 - m)))) ≡ 508 = omega arith in
    let body : block_body number count held ≡ take 508 xs =
    rw whole at (join 0 4 (2 + (2 + (m + (500 - m)))) xs (bytes32 number) _ n
    (join 4 2 (2 + (m + (500 - m))) xs (bytes16 count) _ c
    (join 6 2 (m + (500 - m)) xs (zero_bytes 2) _ y (join 8 m (500 - m) xs held (zero_bytes (500 - m)) h.its_held z)))) in
    sealed_back xs (block_body number count held) l b body h.seal

-- the header's three numbers
abbrev pub header_held : ℕ → ℕ → List ℕ
header_held n t = bytes16 1 ++ (bytes16 n ++ bytes16 t)

pub all_header_held : (n t : ℕ) → AllBytes (header_held n t)
all_header_held n t =
    All-append (λ x. x < 256) (bytes16 1) (bytes16 n ++ bytes16 t) (all_bytes16 1)
    (All-append (λ x. x < 256) (bytes16 n) (bytes16 t) (all_bytes16 n) (all_bytes16 t))

pub record AsHeader (block : List ℕ) (n t : ℕ) : Type 0 where
  pub edition : le16 block 8 ≡ 1
  pub unknowns : le16 block 10 ≡ n
  pub records : le16 block 12 ≡ t

pub header_forth : (n t : ℕ) → n < 2 ^ 16 → t < 2 ^ 16 → AsHeader (header_bytes n t) n t
unfolding header_bytes
header_forth n t h k =
    let e = (in_parts 0 0 (header_held n t)).1 in
    let end : List ℕ = zero_bytes 494 ++ bytes32 (in_parts 0 0 (header_held n t)).0 in
    record {
      edition = rw e (le16_at (zero_bytes 8) (bytes16 n ++ (bytes16 t ++ end)) 1 8 refl (omega arith));
      unknowns = rw e (le16_at (zero_bytes 8 ++ bytes16 1) (bytes16 t ++ end) n 10 refl h);
      records = rw e (le16_at (zero_bytes 8 ++ (bytes16 1 ++ bytes16 n)) end t 12 refl k);
    }

pub header_back : (xs : List ℕ) (n t : ℕ) → length xs ≡ 512 → AllBytes xs → AsHeader xs n t → header_held n t ≡ take 6 (drop 8 xs)
header_back xs n t l b h =
    join 8 2 4 xs (bytes16 1) (bytes16 n ++ bytes16 t) (ap bytes16 (sym h.edition) ∙ bytes16-le16 xs 8 (omega arith) b)
    (join 10 2 2 xs (bytes16 n) (bytes16 t) (ap bytes16 (sym h.unknowns) ∙ bytes16-le16 xs 10 (omega arith) b)
    (ap bytes16 (sym h.records) ∙ bytes16-le16 xs 12 (omega arith) b))
