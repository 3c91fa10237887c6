-- What satisfies both rows satisfies the lowest form of their combination.
use Rattle.std.proofs.Common.{List, ℤ, sym, ap, ◌∙◌}
use Rattle.rows.specs.Rows.{row_of, Satisfies}
use Rattle.rows.proofs.Consequences.{lowest_follows}
use Rattle.rows.proofs.Outcomes.{found_row}
use Rattle.rows.proofs.combining.combination.Goals as goal

pub returns-clause-follows : goal.returns-clause-follows
returns-clause-follows c =
    let s = c.in_ok-first.first in
    let o = c.in_ok-second.second in
    rw (← c.in_ok-first.ensures.value.1, ← c.in_ok-second.ensures.value.1)
    (found_row (λ row. row.plain.numbers) c.lowest.result _ (λ zs. (point : List ℤ) → Satisfies point s.row.now.numbers → Satisfies point o.row.now.numbers → Satisfies point zs)
    (c.lowest.ensures ∙ ap row_of c.plus.ensures)
    (lowest_follows s.times s.row.now.numbers o.times o.row.now.numbers (s.nine ∙ sym o.nine)))
