-- A record and its 60 bytes: each shows the other.
use Rattle.std.proofs.Common.{◌≡◌, ℕ, zero, suc, ◌+◌, ◌*◌, ◌^◌, ◌<◌, ◌≤◌, true, false, cond, ◌&&◌, eqb, leb, List, [], ◌∷◌, ◌++◌, length, get_or, take, drop, ℤ, pos, nat_abs, sym, refl, ap, ◌∙◌, ap₂, arith, w32, SFits}
use borrow.Author.Differences.{ints}
use Rattle.std.specs.List.{flat_map, AllByRecursion}
use Rattle.std.proofs.ByRecursion.{All-append, All-from_get_or}
use Rattle.std.proofs.lemmas.List.{append_assoc, drop_more, length-append, length_push, same_from_push, take_all}
use Rattle.std.proofs.lemmas.Bool.{and_parts}
use Rattle.arith.specs.Lowest.{AllWithin, within_all, gcd_all}
use Rattle.arith.proofs.LowestForms.{within_is}
use Rattle.rows.specs.Bytes.{AllBytes, le_i32, bytes16, bytes32, bytes_i32, zeros_in}
use Rattle.rows.specs.Derivations.{Record, input, step, row_in, Stands}
use Rattle.rows.specs.Image.{kind_in, first_in, second_in, u_in, v_in, numbers_in, is_input, zero_bytes, row_bytes, record_bytes}
use Rattle.rows.specs.Rows.{row_limit, in_lowest, is_row, level_of}
use Rattle.rows.proofs.Fields.{join, le16_at, le32_at, le_i32_at, bytes16-le16, bytes32-le32, bytes_i32-le_i32, all_bytes16, all_bytes32, all_zeros, zeros_back, zeros_at}
use Rattle.rows.proofs.Joins.{length_joined, all_joined}
use Rattle.rows.proofs.Standing.{row_nine, parents}

-- the record that 60 bytes show
unfoldable pub record_shown : List ℕ → Record
record_shown rec =
    cond (is_input rec)
    (input (first_in rec) (numbers_in rec))
    (step (first_in rec) (second_in rec) (u_in rec) (v_in rec) (numbers_in rec))

pub shown_input : (rec : List ℕ) → is_input rec ≡ true → record_shown rec ≡ input (first_in rec) (numbers_in rec)
unfolding record_shown
shown_input rec h = rw h

pub shown_step : (rec : List ℕ) → is_input rec ≡ false → record_shown rec ≡ step (first_in rec) (second_in rec) (u_in rec) (v_in rec) (numbers_in rec)
unfolding record_shown
shown_step rec h = rw h

-- each number has its place
abbrev pub RowHeld : List ℤ → Type 0
RowHeld row = (length row ≡ 9) × AllByRecursion (SFits w32) row

abbrev pub Held : Record → Type 0
Held (input tag row) = (tag < 2 ^ 16) × RowHeld row
Held (step first second u v row) = (first < 2 ^ 16) × (second < 2 ^ 16) × (u < 2 ^ 32) × (v < 2 ^ 32) × RowHeld row

-- what the bytes of a record have
pub record AsInput (rec : List ℕ) (tag : ℕ) (row : List ℤ) : Type 0 where
  pub kind : kind_in rec ≡ 1
  pub its_tag : first_in rec ≡ tag
  pub numbers : numbers_in rec ≡ row
  pub after_kind : zeros_in rec 1 4 ≡ true
  pub after_tag : zeros_in rec 6 16 ≡ true
  pub after_row : zeros_in rec 52 60 ≡ true

pub record AsStep (rec : List ℕ) (first second u v : ℕ) (row : List ℤ) : Type 0 where
  pub kind : kind_in rec ≡ 2
  pub its_first : first_in rec ≡ first
  pub its_second : second_in rec ≡ second
  pub its_u : u_in rec ≡ u
  pub its_v : v_in rec ≡ v
  pub numbers : numbers_in rec ≡ row
  pub after_kind : zeros_in rec 1 4 ≡ true
  pub after_row : zeros_in rec 52 60 ≡ true

-- the bytes of a row
length_row : (row : List ℤ) → length row ≡ 9 → length (row_bytes row) ≡ 36
unfolding row_bytes
length_row [] h = absurd (omega arith)
length_row (b ∷ zs) h =
    let numbers : List ℤ = zs ++ b ∷ [] in
    let four = length_joined bytes_i32 4 numbers (All-from_get_or (λ z. length (bytes_i32 z) ≡ 4) numbers (pos 0) (λ k l. refl)) in
    omega (arith, four, length_push zs b)

all_row : (row : List ℤ) → AllBytes (row_bytes row)
unfolding row_bytes
all_row row =
    let zs : List ℤ = drop 1 row ++ take 1 row in
    all_joined bytes_i32 zs (All-from_get_or (λ z. AllBytes (bytes_i32 z)) zs (pos 0) (λ k l. all_bytes32 _))

-- the numbers that stand one after another from a byte on
abbrev standing : List ℕ → ℕ → ℕ → List ℤ
standing xs at zero = []
standing xs at (suc k) = le_i32 xs at ∷ standing xs (at + 4) k

standing_forth : (pre : List ℕ) (zs : List ℤ) (post : List ℕ) (at : ℕ) → length pre ≡ at → AllByRecursion (SFits w32) zs → standing (pre ++ (flat_map bytes_i32 zs ++ post)) at (length zs) ≡ zs
standing_forth pre [] post at l h = refl
standing_forth pre (z ∷ zs) post at l h =
    let rest : List ℕ = flat_map bytes_i32 zs ++ post in
    let next : pre ++ (bytes_i32 z ++ rest) ≡ (pre ++ bytes_i32 z) ++ rest = sym (append_assoc pre (bytes_i32 z) rest) in
    let there = standing_forth (pre ++ bytes_i32 z) zs post (at + 4) (simp length-append (omega arith)) h.1 in
    ap₂ ◌∷◌ (le_i32_at pre rest z at l h.0) (ap (λ t. standing t (at + 4) (length zs)) next ∙ there)

-- a row's, from byte 16 on: a1..a8 and then b
numbers_forth : (pre : List ℕ) (row : List ℤ) (post : List ℕ) → length pre ≡ 16 → RowHeld row → numbers_in (pre ++ (row_bytes row ++ post)) ≡ row
unfolding numbers_in row_bytes
numbers_forth pre [] post l h = absurd (omega (arith, h.0))
numbers_forth pre (b ∷ zs) post l h =
    let xs : List ℕ = pre ++ (flat_map bytes_i32 (zs ++ b ∷ []) ++ post) in
    let n : length (zs ++ b ∷ []) ≡ 9 = omega (arith, length_push zs b, h.0) in
    let e = standing_forth pre (zs ++ b ∷ []) post 16 l (All-append _ zs (b ∷ []) h.1.1 (h.1.0, tt)) in
    let both = same_from_push (standing xs 16 8) zs (le_i32 xs 48) b (ap (standing xs 16) (sym n) ∙ e) in
    ap₂ ◌∷◌ both.1 both.0

-- and back: their bytes are those that stand there
standing_back : (xs : List ℕ) (at k : ℕ) → at + 4 * k ≤ length xs → AllBytes xs → flat_map bytes_i32 (standing xs at k) ≡ take (4 * k) (drop at xs)
standing_back xs at zero h b = refl
standing_back xs at (suc k) h b =
    let e : 4 * suc k ≡ 4 + 4 * k = omega arith in
    rw e (join at 4 (4 * k) xs _ _ (bytes_i32-le_i32 xs at (omega arith) b) (standing_back xs (at + 4) k (omega arith) b))

row_back : (xs : List ℕ) → length xs ≡ 60 → AllBytes xs → row_bytes (numbers_in xs) ≡ take 36 (drop 16 xs)
unfolding numbers_in row_bytes
row_back xs l b = standing_back xs 16 9 (omega arith) b

-- the bytes of a record: how many, and that they are bytes
pub length_record : (rec : Record) → length (row_in rec) ≡ 9 → length (record_bytes rec) ≡ 60
unfolding record_bytes
length_record (input tag row) h = omega (arith, length-append (row_bytes row) (zero_bytes 8), length_row row h)
length_record (step first second u v row) h = omega (arith, length-append (row_bytes row) (zero_bytes 8), length_row row h)

pub all_record : (rec : Record) → AllBytes (record_bytes rec)
unfolding record_bytes
all_record (input tag row) =
    all_joined (λ part. part) ((1 ∷ zero_bytes 3) ∷ bytes16 tag ∷ zero_bytes 10 ∷ row_bytes row ∷ zero_bytes 8 ∷ [])
    ((omega arith, all_zeros 3), (all_bytes16 tag, (all_zeros 10, (all_row row, (all_zeros 8, tt)))))
all_record (step first second u v row) =
    all_joined (λ part. part) ((2 ∷ zero_bytes 3) ∷ bytes16 first ∷ bytes16 second ∷ bytes32 u ∷ bytes32 v ∷ row_bytes row ∷ zero_bytes 8 ∷ [])
    ((omega arith, all_zeros 3), (all_bytes16 first, (all_bytes16 second, (all_bytes32 u, (all_bytes32 v, (all_row row, (all_zeros 8, tt)))))))

-- the zeros behind the row
end_zeros : (pre : List ℕ) (row : List ℤ) → length pre ≡ 16 → length row ≡ 9 → zeros_in (pre ++ (row_bytes row ++ zero_bytes 8)) 52 60 ≡ true
end_zeros pre row l h =
    ap (λ t. zeros_in t 52 60) (sym (append_assoc pre (row_bytes row) (zero_bytes 8)))
    ∙ zeros_at (pre ++ row_bytes row) [] 8 52 60 (omega (arith, length-append pre (row_bytes row), length_row row h)) refl

-- what is written reads back
pub input_forth : (tag : ℕ) (row : List ℤ) → Held (input tag row) → AsInput (record_bytes (input tag row)) tag row
unfolding record_bytes
input_forth tag row h =
    let pre : List ℕ = (1 ∷ zero_bytes 3) ++ (bytes16 tag ++ zero_bytes 10) in
    let end : List ℕ = row_bytes row ++ zero_bytes 8 in
    record {
      kind = refl;
      its_tag = le16_at (1 ∷ zero_bytes 3) (zero_bytes 10 ++ end) tag 4 refl h.0;
      numbers = numbers_forth pre row (zero_bytes 8) refl h.1;
      after_kind = zeros_at (1 ∷ []) (bytes16 tag ++ (zero_bytes 10 ++ end)) 3 1 4 refl refl;
      after_tag = zeros_at ((1 ∷ zero_bytes 3) ++ bytes16 tag) end 10 6 16 refl refl;
      after_row = end_zeros pre row refl h.1.0;
    }

pub step_forth : (first second u v : ℕ) (row : List ℤ) → Held (step first second u v row) → AsStep (record_bytes (step first second u v row)) first second u v row
unfolding record_bytes
step_forth first second u v row h =
    let p : List ℕ = 2 ∷ zero_bytes 3 in
    let pre : List ℕ = p ++ (bytes16 first ++ (bytes16 second ++ (bytes32 u ++ bytes32 v))) in
    let end : List ℕ = row_bytes row ++ zero_bytes 8 in
    record {
      kind = refl;
      its_first = le16_at p (bytes16 second ++ (bytes32 u ++ (bytes32 v ++ end))) first 4 refl h.0;
      its_second = le16_at (p ++ bytes16 first) (bytes32 u ++ (bytes32 v ++ end)) second 6 refl h.1;
      its_u = le32_at (p ++ (bytes16 first ++ bytes16 second)) (bytes32 v ++ end) u 8 refl h.2;
      its_v = le32_at (p ++ (bytes16 first ++ (bytes16 second ++ bytes32 u))) end v 12 refl h.3;
      numbers = numbers_forth pre row (zero_bytes 8) refl h.4;
      after_kind = zeros_at (2 ∷ []) (bytes16 first ++ (bytes16 second ++ (bytes32 u ++ (bytes32 v ++ end)))) 3 1 4 refl refl;
      after_row = end_zeros pre row refl h.4.0;
    }

-- the record that such bytes show
pub shown_forth : (rec : Record) → Held rec → record_shown (record_bytes rec) ≡ rec
shown_forth (input tag row) h =
    let f = input_forth tag row h in
    shown_input (record_bytes (input tag row)) (ap (λ kind. eqb kind 1) f.kind) ∙ rw (f.its_tag, f.numbers)
shown_forth (step first second u v row) h =
    let f = step_forth first second u v row h in
    shown_step (record_bytes (step first second u v row)) (ap (λ kind. eqb kind 1) f.kind) ∙ rw (f.its_first, f.its_second, f.its_u, f.its_v, f.numbers)

-- back: the kind, and the row with the zeros behind it
kind_back : (xs : List ℕ) (k : ℕ) → length xs ≡ 60 → kind_in xs ≡ k → k ∷ [] ≡ take 1 (drop 0 xs)
kind_back xs k l e = sym (ap (take 1) (drop_more xs 0 0 (omega arith)) ∙ ap (λ x. x ∷ []) e)

end_back : (xs : List ℕ) (row : List ℤ) → length xs ≡ 60 → AllBytes xs → numbers_in xs ≡ row → zeros_in xs 52 60 ≡ true → row_bytes row ++ zero_bytes 8 ≡ take 44 (drop 16 xs)
end_back xs row l b e z = join 16 36 8 xs _ _ (ap row_bytes (sym e) ∙ row_back xs l b) (zeros_back xs 52 60 (omega arith) (omega arith) z)

pub input_back : (xs : List ℕ) (tag : ℕ) (row : List ℤ) → length xs ≡ 60 → AllBytes xs → AsInput xs tag row → record_bytes (input tag row) ≡ xs
unfolding record_bytes
input_back xs tag row l b h =
    join 0 1 59 xs (1 ∷ []) _ (kind_back xs 1 l h.kind)
    (join 1 3 56 xs _ _ (zeros_back xs 1 4 (omega arith) (omega arith) h.after_kind)
    (join 4 2 54 xs _ _ (ap bytes16 (sym h.its_tag) ∙ bytes16-le16 xs 4 (omega arith) b)
    (join 6 10 44 xs _ _ (zeros_back xs 6 16 (omega arith) (omega arith) h.after_tag)
    (end_back xs row l b h.numbers h.after_row))))
    ∙ take_all 60 xs (omega arith)

pub step_back : (xs : List ℕ) (first second u v : ℕ) (row : List ℤ) → length xs ≡ 60 → AllBytes xs → AsStep xs first second u v row → record_bytes (step first second u v row) ≡ xs
unfolding record_bytes
step_back xs first second u v row l b h =
    join 0 1 59 xs (2 ∷ []) _ (kind_back xs 2 l h.kind)
    (join 1 3 56 xs _ _ (zeros_back xs 1 4 (omega arith) (omega arith) h.after_kind)
    (join 4 2 54 xs _ _ (ap bytes16 (sym h.its_first) ∙ bytes16-le16 xs 4 (omega arith) b)
    (join 6 2 52 xs _ _ (ap bytes16 (sym h.its_second) ∙ bytes16-le16 xs 6 (omega arith) b)
    (join 8 4 48 xs _ _ (ap bytes32 (sym h.its_u) ∙ bytes32-le32 xs 8 (omega arith) b)
    (join 12 4 44 xs _ _ (ap bytes32 (sym h.its_v) ∙ bytes32-le32 xs 12 (omega arith) b)
    (end_back xs row l b h.numbers h.after_row))))))
    ∙ take_all 60 xs (omega arith)

-- a record that stands right has numbers that fit their places
row_held : (n : ℕ) (row : List ℤ) → is_row n row ≡ true → RowHeld row
row_held n row e =
    let p = and_parts (eqb (length row) 9) (in_lowest row && leb (level_of row) n) e in
    let q = and_parts (in_lowest row) (leb (level_of row) n) p.1 in
    let w : AllWithin row_limit row = within_is row_limit row (and_parts (within_all row_limit row) (leb (gcd_all row) 1) q.0).0 in
    (row_nine n row e, All-from_get_or (SFits w32) row (pos 0) (λ k l. fits (get_or row k (pos 0)) (w k)))
  where
    fits : (z : ℤ) → nat_abs z ≤ row_limit → SFits w32 z
    fits z h = omega (arith, ints)

pub stands_held : (n : ℕ) (records : List Record) (r : ℕ) (rec : Record) → r ≤ 256 → Stands n records r rec → Held rec
stands_held n records r (input tag row) h s = (s.1, row_held n row s.0)
stands_held n records r (step first second u v row) h s =
    let p = parents r first second u v s.1 in
    (omega (arith, p.first_earlier), omega (arith, p.second_earlier), omega (arith, p.small_u), omega (arith, p.small_v), row_held n row s.0)
