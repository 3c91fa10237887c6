-- Numbers as bytes, little-endian, and the seal of a block.
use Rattle.std.specs.Prelude.{ℕ, ◌+◌, ◌*◌, ◌/◌, ◌%◌, ◌<◌, Bool, List, [], ◌∷◌, ℤ, ◌==◌, slice_index, slice_range}
use Rattle.std.specs.Int.{w32}
use Rattle.std.proofs.Common.{to_z, of_z}
use Rattle.std.specs.List.{AllByRecursion, list_all}

abbrev pub AllBytes : List ℕ → Type 0
AllBytes bs = AllByRecursion (λ b. b < 256) bs

-- the number that stands at a byte: of 16 bits, of 32 bits, signed of 32 bits
abbrev pub le16 : List ℕ → ℕ → ℕ
le16 bs at = slice_index bs at + slice_index bs (at + 1) * 256

abbrev pub le32 : List ℕ → ℕ → ℕ
le32 bs at = slice_index bs at + slice_index bs (at + 1) * 256 + slice_index bs (at + 2) * 65536 + slice_index bs (at + 3) * 16777216

abbrev pub le_i32 : List ℕ → ℕ → ℤ
le_i32 bs at = to_z w32 (le32 bs at)

-- the bytes of a number
abbrev pub bytes16 : ℕ → List ℕ
bytes16 n = (n % 256) ∷ (n / 256 % 256) ∷ []

abbrev pub bytes32 : ℕ → List ℕ
bytes32 n = (n % 256) ∷ (n / 256 % 256) ∷ (n / 65536 % 256) ∷ (n / 16777216 % 256) ∷ []

abbrev pub bytes_i32 : ℤ → List ℕ
bytes_i32 z = bytes32 (of_z w32 z)

-- whether all bytes are zero, and those from one byte up to another
abbrev pub zeros : List ℕ → Bool
zeros bs = list_all (λ b. b == 0) bs

abbrev pub zeros_in : List ℕ → ℕ → ℕ → Bool
zeros_in bs from to = zeros (slice_range bs from to)

-- the sum of (i + 1) times byte i, for bytes that begin at i
abbrev pub weigh : ℕ → List ℕ → ℕ
weigh i [] = 0
weigh i (x ∷ xs) = (i + 1) * x + weigh (i + 1) xs

-- the seal of a block whose first 508 bytes are these
abbrev pub seal_of : List ℕ → ℕ
seal_of body = 1 + weigh 0 body
