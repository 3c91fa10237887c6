-- The records so far with zeros behind them, and the records that are left.
use Rattle.std.proofs.Common.{◌≡◌, ◌+◌, ◌-◌, ◌*◌, ◌++◌, length, take}
use Rattle.std.specs.Iterator.Adapters.{zip_first, zip_second}
use Rattle.std.specs.List.{flat_map}
use Rattle.std.specs.Slice.Iter.{iter_rest}
use Rattle.rows.specs.Image.{zero_bytes, record_bytes}
use Rattle.rows.specs.Origins.{records_with}
use Rattle.writer.proofs.blocks.write_records.Given as goal

abbrev pub invariant-loop-origin : goal.invariant-loop-origin
invariant-loop-origin l =
    let left = records_with (iter_rest (zip_first l.origin-iterator)) (iter_rest (zip_second l.origin-iterator)) in
    let records = records_with l.origins l.rows in
    record {
      zeros : l.block ≡ take l.end l.block ++ zero_bytes (512 - l.end);
      bytes : take l.end l.block ++ flat_map record_bytes left ≡ zero_bytes 8 ++ flat_map record_bytes records;
      end : l.end + 60 * length left ≡ 8 + 60 * length records;
    }
