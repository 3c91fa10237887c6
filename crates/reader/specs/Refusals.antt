-- What each refusal tells: its number, the layer that it concerns, and the block and the record where one applies.
use Rattle.std.specs.Prelude.{ℕ, Some, None, Option}
use Rattle.rows.specs.Image.{block_with}
use Rattle.reader.specs.declared.refusal.Layer.{Layer}
use Rattle.reader.specs.declared.refusal.Layer.TheVariants as layer
use Rattle.reader.specs.declared.refusal.Refusal.{Refusal}
use Rattle.reader.specs.declared.refusal.Refusal.TheVariants.{Length, Seal, Frame, Header, Kind, Row, Parents, Combination, NotFalse, NoRecord}

abbrev pub number_of : Refusal → ℕ
number_of Length = 13
number_of (Seal b) = 14
number_of (Frame b) = 15
number_of Header = 16
number_of (Kind r) = 17
number_of (Row r) = 18
number_of (Parents r) = 19
number_of (Combination r) = 20
number_of (NotFalse r) = 21
number_of (NoRecord r) = 22

abbrev pub layer_of : Refusal → Layer
layer_of Length = layer.Image
layer_of (Seal b) = layer.Block
layer_of (Frame b) = layer.Block
layer_of Header = layer.Block
layer_of (Kind r) = layer.Record
layer_of (Row r) = layer.Record
layer_of (Parents r) = layer.Step
layer_of (Combination r) = layer.Step
layer_of (NotFalse r) = layer.Record
layer_of (NoRecord r) = layer.Record

-- the block that is concerned; that of a record is the one in which it stands
abbrev pub block_in : Refusal → Option ℕ
block_in Length = None
block_in (Seal b) = Some b
block_in (Frame b) = Some b
block_in Header = Some 0
block_in (Kind r) = Some (block_with r)
block_in (Row r) = Some (block_with r)
block_in (Parents r) = Some (block_with r)
block_in (Combination r) = Some (block_with r)
block_in (NotFalse r) = Some (block_with r)
block_in (NoRecord r) = None

-- the record that is concerned, counted through all blocks
abbrev pub record_in : Refusal → Option ℕ
record_in Length = None
record_in (Seal b) = None
record_in (Frame b) = None
record_in Header = None
record_in (Kind r) = Some r
record_in (Row r) = Some r
record_in (Parents r) = Some r
record_in (Combination r) = Some r
record_in (NotFalse r) = Some r
record_in (NoRecord r) = Some r
