use Rattle.std.proofs.Common.{ap, sym, subst, length, ◌∙◌}
use Rattle.tdf_sampling.proofs.Choices.{kept_is, table_is}
use Rattle.tdf_sampling.proofs.Rising.{begun, rising}
use Rattle.tdf_sampling.proofs.choosing.choose.Goals as goal
use Rattle.tdf_sampling.specs.Choice.{chosen_rows}
use Rattle.tdf_tables.specs.Tables.{IsTableForm}

pub chosen_rows-requires-clause-rising : goal.chosen_rows-requires-clause-rising
chosen_rows-requires-clause-rising c = rw c.rows.ensures (rising (length c.args.table.now.labels) c.args.table.now.rows c.requires.table.front.rows)

pub chosen_rows-requires-clause-first : goal.chosen_rows-requires-clause-first
chosen_rows-requires-clause-first c = rw c.rows.ensures (begun (length c.args.table.now.labels) c.args.table.now.rows c.requires.table.front.rows c.requires.table.some)

pub returns-in-Ok-clause-kept : goal.returns-in-Ok-clause-kept
returns-in-Ok-clause-kept c =
    subst IsTableForm (sym (table_is c.with_rows.result c.args.table.now c.args.choice c.with_rows.ensures.labels (c.with_rows.ensures.rows ∙ c.in-Ok.ensures.rows ∙ ap (chosen_rows c.args.choice) c.rows.ensures)))
    (kept_is c.args.choice c.args.table.now c.requires.number c.requires.table)
