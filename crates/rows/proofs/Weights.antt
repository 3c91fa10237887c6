-- The weights of a block's bytes, one byte further on.
use Rattle.std.proofs.Common.{◌≡◌, ℕ, suc, ◌+◌, ◌*◌, ◌<◌, ◌≤◌, List, [], ◌∷◌, ◌++◌, length, get_or, take, mul-le-mul, arith}
use Rattle.std.proofs.lemmas.List.{take_more, length-take-le}
use Rattle.rows.specs.Bytes.{weigh}

weigh_push : (n : ℕ) (xs : List ℕ) (x : ℕ) → weigh n (xs ++ x ∷ []) ≡ weigh n xs + (n + length xs + 1) * x
weigh_push n [] x = omega arith
weigh_push n (y ∷ ys) x =
    let h = weigh_push (n + 1) ys x in
    let e : n + suc (length ys) + 1 ≡ n + 1 + length ys + 1 = omega arith in
    rw (e, h) (omega arith)

pub weigh_more : (xs : List ℕ) (i : ℕ) → i < length xs → weigh 0 (take (i + 1) xs) ≡ weigh 0 (take i xs) + (i + 1) * get_or xs i 0
weigh_more xs i h =
    let l : length (take i xs) ≡ i = length-take-le i xs (omega arith) in
    let p = weigh_push 0 (take i xs) (get_or xs i 0) in
    let e : 0 + length (take i xs) + 1 ≡ i + 1 = omega arith in
    rw (take_more xs i 0 h, p, e)

pub weight_le : (i x : ℕ) → i < 508 → x < 256 → (i + 1) * x ≤ 129540
weight_le i x h k =
    let a : i + 1 ≤ 508 = omega arith in
    let b : x ≤ 255 = omega arith in
    mul-le-mul a b
