use Rattle.std.proofs.Common.{ℕ, List, length, sym, subst, ◌∙◌}
use Rattle.std.specs.List.{AllByRecursion}
use Rattle.tdf_sampling.proofs.Rising.{each_row}
use Rattle.tdf_sampling.proofs.stats.write_stats.Goals as goal
use Rattle.tdf_sampling.specs.machine.Windows.{rows_of}
use Rattle.tdf_tables.specs.Tables.{IsRow, TableRow}

pub write_group-requires-clause-rows : goal.write_group-requires-clause-rows
write_group-requires-clause-rows g c =
    subst (λ (n : ℕ). AllByRecursion (IsRow n) (rows_of c.rows.result.now)) (sym (c.in-Ok.ensures ∙ c.columns.ensures))
    (subst (λ (rows : List TableRow). AllByRecursion (IsRow (length c.args.table.now.labels)) rows) (sym c.rows.ensures)
    (each_row (length c.args.table.now.labels) c.args.table.now.rows c.requires.table.front.rows))
