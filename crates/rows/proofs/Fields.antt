-- Numbers and zeros in bytes: what is written reads back, and what is read was written.
use Rattle.std.proofs.Common.{◌≡◌, ℕ, zero, suc, ◌+◌, ◌-◌, ◌*◌, ◌/◌, ◌%◌, ◌^◌, ◌<◌, ◌≤◌, true, eqb, List, [], ◌∷◌, ◌++◌, length, get_or, take, drop, ℤ, sym, refl, ap, ◌∙◌, mod-lt, mod-eq_of_lt, arith, w32, SFits, to_z, of_z, take-add}
use native.Mathlib.Nat.{div-div-eq-div-mul, mod-add-div}
use mir.Facts.{Fits-of_z}
use Rattle.std.proofs.ByRecursion.{All-get_or}
use Rattle.std.proofs.lemmas.List.{get_or-append_right, drop_more, drop-drop, drop_at, take_at, length-take, length-drop, length-replicate}
use Rattle.std.proofs.lemmas.Int.{to_z-of_z, of_z-to_z}
use Rattle.std.proofs.lemmas.Bool.{eqb-true, and_parts}
use Rattle.rows.specs.Bytes.{AllBytes, le16, le32, le_i32, bytes16, bytes32, bytes_i32, zeros, zeros_in}
use Rattle.rows.specs.Image.{zero_bytes}

-- parts that follow one another
pub join : (at a b : ℕ) (xs ys zs : List ℕ) → ys ≡ take a (drop at xs) → zs ≡ take b (drop (at + a) xs) → ys ++ zs ≡ take (a + b) (drop at xs)
join at a b xs ys zs h k =
    let d = drop-drop a at xs in
    rw (h, k, ← d) (sym (take-add a b (drop at xs)))

-- a byte behind others
behind : (pre rest : List ℕ) (at k : ℕ) → length pre ≡ at → get_or (pre ++ rest) (at + k) 0 ≡ get_or rest k 0
behind pre rest at k l = get_or-append_right pre rest at (at + k) 0 l (omega arith) ∙ ap (λ n. get_or rest n 0) (back at k)
  where
    back : (at k : ℕ) → at + k - at ≡ k
    back at k = omega arith

pub byte_at : (pre rest : List ℕ) (at : ℕ) → length pre ≡ at → get_or (pre ++ rest) at 0 ≡ get_or rest 0 0
byte_at pre rest at l = ap (λ n. get_or (pre ++ rest) n 0) (add at) ∙ behind pre rest at 0 l
  where
    add : (n : ℕ) → n ≡ n + 0
    add n = omega arith

-- a number reads back from where it stands
digits32 : (n : ℕ) → n < 2 ^ 32 → n % 256 + n / 256 % 256 * 256 + n / 65536 % 256 * 65536 + n / 16777216 % 256 * 16777216 ≡ n
digits32 n f =
    let e : n / 256 / 256 ≡ n / 65536 = div-div-eq-div-mul n 256 256 in
    let g : n / 65536 / 256 ≡ n / 16777216 = div-div-eq-div-mul n 65536 256 in
    let p = mod-add-div n 256 in
    let q = rw e at (mod-add-div (n / 256) 256) in
    let r = rw g at (mod-add-div (n / 65536) 256) in
    let s : n / 16777216 % 256 ≡ n / 16777216 = mod-eq_of_lt (omega arith) in
    omega arith

pub le16_at : (pre post : List ℕ) (n at : ℕ) → length pre ≡ at → n < 2 ^ 16 → le16 (pre ++ (bytes16 n ++ post)) at ≡ n
le16_at pre post n at l f =
    let a = byte_at pre (bytes16 n ++ post) at l in
    let b = behind pre (bytes16 n ++ post) at 1 l in
    let g : n / 256 % 256 ≡ n / 256 = mod-eq_of_lt (omega arith) in
    rw (a, b, g) (omega arith)

pub le32_at : (pre post : List ℕ) (n at : ℕ) → length pre ≡ at → n < 2 ^ 32 → le32 (pre ++ (bytes32 n ++ post)) at ≡ n
le32_at pre post n at l f =
    let a = byte_at pre (bytes32 n ++ post) at l in
    let b = behind pre (bytes32 n ++ post) at 1 l in
    let c = behind pre (bytes32 n ++ post) at 2 l in
    let d = behind pre (bytes32 n ++ post) at 3 l in
    rw (a, b, c, d) (digits32 n f)

pub le_i32_at : (pre post : List ℕ) (z : ℤ) (at : ℕ) → length pre ≡ at → SFits w32 z → le_i32 (pre ++ (bytes_i32 z ++ post)) at ≡ z
le_i32_at pre post z at l f = ap (to_z w32) (le32_at pre post (of_z w32 z) at l (Fits-of_z f).fits) ∙ to_z-of_z w32 z f

-- what was read is what stands there
pub bytes16-le16 : (xs : List ℕ) (at : ℕ) → at + 2 ≤ length xs → AllBytes xs → bytes16 (le16 xs at) ≡ take 2 (drop at xs)
bytes16-le16 xs at h b =
    let p = All-get_or (λ x. x < 256) xs at 0 (omega arith) b in
    let q = All-get_or (λ x. x < 256) xs (at + 1) 0 (omega arith) b in
    let c = drop_more xs at 0 (omega arith) in
    let d = drop_more xs (at + 1) 0 (omega arith) in
    let e : le16 xs at % 256 ≡ get_or xs at 0 = omega arith in
    let g : le16 xs at / 256 ≡ get_or xs (at + 1) 0 = omega arith in
    let f : le16 xs at / 256 % 256 ≡ get_or xs (at + 1) 0 = rw g (omega arith) in
    rw (c, d) (ap (λ x. x ∷ (le16 xs at / 256 % 256) ∷ []) e ∙ ap (λ x. get_or xs at 0 ∷ x ∷ []) f)

bytes32_of : (w x y z : ℕ) → w < 256 → x < 256 → y < 256 → z < 256 → bytes32 (w + x * 256 + y * 65536 + z * 16777216) ≡ w ∷ x ∷ y ∷ z ∷ []
bytes32_of w x y z hw hx hy hz =
    let n : ℕ = w + x * 256 + y * 65536 + z * 16777216 in
    let a : n % 256 ≡ w = omega arith in
    let b₀ : n / 256 ≡ x + y * 256 + z * 65536 = omega arith in
    let b : n / 256 % 256 ≡ x = rw b₀ (omega arith) in
    let c₀ : n / 65536 ≡ y + z * 256 = omega arith in
    let c : n / 65536 % 256 ≡ y = rw c₀ (omega arith) in
    let d₀ : n / 16777216 ≡ z = omega arith in
    let d : n / 16777216 % 256 ≡ z = rw d₀ (omega arith) in
    cc

four : (xs : List ℕ) (at : ℕ) → at + 4 ≤ length xs → take 4 (drop at xs) ≡ get_or xs at 0 ∷ get_or xs (at + 1) 0 ∷ get_or xs (at + 2) 0 ∷ get_or xs (at + 3) 0 ∷ []
four xs at h =
    let a = drop_more xs at 0 (omega arith) in
    let b = drop_more xs (at + 1) 0 (omega arith) in
    let c = drop_more xs (at + 2) 0 (omega arith) in
    let d = drop_more xs (at + 3) 0 (omega arith) in
    let p : at + 1 + 1 ≡ at + 2 = omega arith in
    let q : at + 2 + 1 ≡ at + 3 = omega arith in
    rw (a, b, p, c, q, d)

pub bytes32-le32 : (xs : List ℕ) (at : ℕ) → at + 4 ≤ length xs → AllBytes xs → bytes32 (le32 xs at) ≡ take 4 (drop at xs)
bytes32-le32 xs at h b =
    bytes32_of _ _ _ _ (All-get_or _ xs at 0 (omega arith) b) (All-get_or _ xs (at + 1) 0 (omega arith) b) (All-get_or _ xs (at + 2) 0 (omega arith) b) (All-get_or _ xs (at + 3) 0 (omega arith) b)
    ∙ sym (four xs at h)

le32_lt : (xs : List ℕ) (at : ℕ) → at + 4 ≤ length xs → AllBytes xs → le32 xs at < 2 ^ 32
le32_lt xs at h b =
    let p = All-get_or (λ x. x < 256) xs at 0 (omega arith) b in
    let q = All-get_or (λ x. x < 256) xs (at + 1) 0 (omega arith) b in
    let r = All-get_or (λ x. x < 256) xs (at + 2) 0 (omega arith) b in
    let s = All-get_or (λ x. x < 256) xs (at + 3) 0 (omega arith) b in
    omega arith

pub le16_lt : (xs : List ℕ) (at : ℕ) → at + 2 ≤ length xs → AllBytes xs → le16 xs at < 2 ^ 16
le16_lt xs at h b =
    let p = All-get_or (λ x. x < 256) xs at 0 (omega arith) b in
    let q = All-get_or (λ x. x < 256) xs (at + 1) 0 (omega arith) b in
    omega arith

pub bytes_i32-le_i32 : (xs : List ℕ) (at : ℕ) → at + 4 ≤ length xs → AllBytes xs → bytes_i32 (le_i32 xs at) ≡ take 4 (drop at xs)
bytes_i32-le_i32 xs at h b = ap bytes32 (of_z-to_z w32 (le32 xs at) (le32_lt xs at h b)) ∙ bytes32-le32 xs at h b

-- the bytes of a number are bytes
pub all_bytes16 : (n : ℕ) → AllBytes (bytes16 n)
all_bytes16 n = (mod-lt n (omega arith), (mod-lt (n / 256) (omega arith), tt))

pub all_bytes32 : (n : ℕ) → AllBytes (bytes32 n)
all_bytes32 n = (mod-lt n (omega arith), (mod-lt (n / 256) (omega arith), (mod-lt (n / 65536) (omega arith), (mod-lt (n / 16777216) (omega arith), tt))))

pub all_zeros : (n : ℕ) → AllBytes (zero_bytes n)
all_zeros zero = tt
all_zeros (suc n) = (omega arith, all_zeros n)

-- zeros, both ways
zeros_are : (ys : List ℕ) → zeros ys ≡ true → ys ≡ zero_bytes (length ys)
zeros_are [] h = refl
zeros_are (y ∷ ys) h =
    let both = and_parts (eqb y 0) (zeros ys) h in
    let e : y ≡ 0 = eqb-true y 0 both.0 in
    ap (λ x. x ∷ ys) e ∙ ap (λ t. 0 ∷ t) (zeros_are ys both.1)

pub zeros_back : (xs : List ℕ) (a b : ℕ) → a ≤ b → b ≤ length xs → zeros_in xs a b ≡ true → zero_bytes (b - a) ≡ take (b - a) (drop a xs)
zeros_back xs a b h k z =
    let l : length (take (b - a) (drop a xs)) ≡ b - a = simp (length-take, length-drop) (omega arith) in
    sym (zeros_are (take (b - a) (drop a xs)) z ∙ ap zero_bytes l)

zeros_all : (n : ℕ) → zeros (zero_bytes n) ≡ true
zeros_all zero = refl
zeros_all (suc n) = zeros_all n

pub zeros_at : (pre post : List ℕ) (n at to : ℕ) → length pre ≡ at → to ≡ at + n → zeros_in (pre ++ (zero_bytes n ++ post)) at to ≡ true
zeros_at pre post n at to l e =
    let k : to - at ≡ n = omega arith in
    rw (k, drop_at pre (zero_bytes n ++ post) at l, take_at (zero_bytes n) post n (length-replicate n 0)) (zeros_all n)
