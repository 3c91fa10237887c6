-- A multiplier of 20 bits times a number of 32.
use Rattle.std.proofs.Common.{get_or, pos, w32, SFits, rules}
use Rattle.rows.proofs.Widths.{times_reads}
use Rattle.rows.proofs.combining.Multiple.at.Goals as goal

pub returns : goal.returns
returns c =
    let s = c.args.self.now in
    let f : SFits w32 (get_or s.row.now.numbers c.args.k (pos 0)) = search rules in
    let r = times_reads s.times (get_or s.row.now.numbers c.args.k (pos 0)) _ _ s.small f c.from.ensures c.from-2.ensures in
    record { value = r.0; small = r.1 }
