use Rattle.std.proofs.Common.{Err, ap}
use Rattle.tdf_cli.proofs.Outcomes.{each_table_err, each_table_ok, noted_all, noted_part, sampled_has, written_all, written_part}
use Rattle.tdf_cli.specs.Input.{Text}
use Rattle.tdf_cli.specs.Outcome.{too_fine}
use Rattle.tdf_cli.specs.declared.status.Status.TheVariants.{Refused}
use Rattle.tdf_cli_words.specs.declared.asked.Settings.TheVariants.{Sample}
use Rattle.tdf_cli.proofs.tables.sample_table.Goals as goal

pub returns-in-Ok-clause-all : goal.returns-in-Ok-clause-all
returns-in-Ok-clause-all g c = each_table_ok c.put_table.result c.args.table.now _
    (λ text spells. written_all c.put_table.result (Text (Sample c.args.choice) text) _
    (sampled_has c.args.choice text c.args.table.now _ spells c.in-Ok.ensures.chosen c.in-Ok.ensures.fine)
    c.put_table.ensures.status c.put_table.ensures.writes)

pub returns-in-Ok-clause-part : goal.returns-in-Ok-clause-part
returns-in-Ok-clause-part g c = each_table_err c.put_table.result c.args.table.now _
    (λ text spells. written_part c.law_one_outcome.ensures c.put_table.result (Text (Sample c.args.choice) text) _
    (sampled_has c.args.choice text c.args.table.now _ spells c.in-Ok.ensures.chosen c.in-Ok.ensures.fine)
    c.put_table.ensures.writes)

pub returns-in-Err-Grid-clause-all : goal.returns-in-Err-Grid-clause-all
returns-in-Err-Grid-clause-all g c = each_table_ok c.noted.result c.args.table.now _
    (λ text spells. noted_all c.noted.result (Text (Sample c.args.choice) text) Refused _
    (too_fine spells (c.in-Err-Grid.ensures.grid (ap Err c.in-Err-Grid.field-0-is))) c.noted.ensures.status c.noted.ensures.writes)

pub returns-in-Err-Grid-clause-part : goal.returns-in-Err-Grid-clause-part
returns-in-Err-Grid-clause-part g c = each_table_err c.noted.result c.args.table.now _
    (λ text spells. noted_part c.law_one_outcome.ensures c.noted.result (Text (Sample c.args.choice) text) Refused _
    (too_fine spells (c.in-Err-Grid.ensures.grid (ap Err c.in-Err-Grid.field-0-is))) c.noted.ensures.writes)
