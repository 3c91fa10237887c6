-- Derivations: rows, some given and some combined from earlier ones, the last of which no point satisfies.
use Rattle.std.specs.Prelude.{◌≡◌, ℕ, ◌+◌, ◌-◌, ◌^◌, ◌<◌, ◌≤◌, Bool, true, false, ◌&&◌, List, [], map, length, ℤ, Some, filter, nat_le, nat_lt, slice_index_or}
use Rattle.rows.specs.Rows.{row_limit, NoFractions, is_row, is_false, combination_of}

-- a record of a derivation: a row that was given, with its tag, or one combined from two earlier ones
pub data Record : Type 0 where
  input : (tag : ℕ) (row : List ℤ) → Record
  step : (first second u v : ℕ) (row : List ℤ) → Record

abbrev pub row_in : Record → List ℤ
row_in (input tag row) = row
row_in (step first second u v row) = row

-- the records that were given, in their order
abbrev pub is_given : Record → Bool
is_given (input tag row) = true
is_given (step first second u v row) = false

abbrev pub inputs_of : List Record → List Record
inputs_of records = filter is_given records

abbrev pub row_at : List Record → ℕ → List ℤ
row_at records r = row_in (slice_index_or records r (input 0 []))

-- the parents of record r are earlier records, and the multipliers are within the limit and not both 0
abbrev pub are_parents : ℕ → ℕ → ℕ → ℕ → ℕ → Bool
are_parents r first second u v = nat_lt first r && (nat_lt second r && (nat_le u row_limit && (nat_le v row_limit && nat_lt 0 (u + v))))

-- record r of n unknowns stands right among the records
abbrev pub Stands : ℕ → List Record → ℕ → Record → Type 0
Stands n records r (input tag row) = (is_row n row ≡ true) × (tag < 2 ^ 16)
Stands n records r (step first second u v row) =
    (is_row n row ≡ true) × (are_parents r first second u v ≡ true)
    × (combination_of u (row_at records first) v (row_at records second) ≡ Some row)

-- the number of unknowns and the records
pub record Derivation : Type 0 where
  pub unknowns : ℕ
  pub records : List Record

pub record IsDerivation (d : Derivation) : Type 0 where
  pub some_unknowns : (1 ≤ d.unknowns) × (d.unknowns ≤ 8)
  pub some_records : (1 ≤ length d.records) × (length d.records ≤ 256)
  pub each_stands : (r : ℕ) → r < length d.records → Stands d.unknowns d.records r (slice_index_or d.records r (input 0 []))
  pub last_false : is_false (row_at d.records (length d.records - 1)) ≡ true

-- no fractions satisfy all the rows that were given
abbrev pub NoneFits : Derivation → Type 0
NoneFits d = NoFractions (map row_in (inputs_of d.records))
