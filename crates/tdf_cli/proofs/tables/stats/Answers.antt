use Rattle.std.proofs.Common.{List, ℕ, refl, subst}
use Rattle.tdf_cli.proofs.Outcomes.{noted_all, noted_part, written_all, written_part}
use Rattle.tdf_cli.specs.Input.{Text}
use Rattle.tdf_cli.specs.Outcome.{is_measured, no_table}
use Rattle.tdf_cli.specs.Tables.{table_refusal}
use Rattle.tdf_cli.specs.declared.status.Status.TheVariants.{Refused}
use Rattle.tdf_cli_words.specs.declared.asked.Settings.TheVariants.{Stats}
use Rattle.tdf_io.specs.Bytes.{WritesText}
use Rattle.tdf_tables.specs.Faults.{HasTableFault, IsTableRefusal}
use Rattle.tdf_tables.specs.declared.err.TableErr.{TableErr}
use Rattle.tdf_tables.specs.Tables.{SpellsTable}
use Rattle.tdf_cli.proofs.tables.stats.Goals as goal

pub returns-in-Ok-clause-all : goal.returns-in-Ok-clause-all
returns-in-Ok-clause-all g c = written_all c.put_stats.result (Text (Stats c.args.window) c.args.text.now.items) _ (is_measured (subst (λ (t : List ℕ). SpellsTable t c.in-Ok.table) c.deref.ensures.value c.in-Ok.ensures.table))
    c.put_stats.ensures.status c.put_stats.ensures.writes

pub returns-in-Ok-clause-part : goal.returns-in-Ok-clause-part
returns-in-Ok-clause-part g c = written_part c.law_one_outcome.ensures c.put_stats.result (Text (Stats c.args.window) c.args.text.now.items) _ (is_measured (subst (λ (t : List ℕ). SpellsTable t c.in-Ok.table) c.deref.ensures.value c.in-Ok.ensures.table))
    c.put_stats.ensures.writes

pub returns-in-Err-Line-clause-all : goal.returns-in-Err-Line-clause-all
returns-in-Err-Line-clause-all g c = noted_all c.refuse_line.result (Text (Stats c.args.window) c.args.text.now.items) Refused _
    (no_table refl (subst (λ (t : List ℕ). HasTableFault t c.in-Err-Line.line) c.deref.ensures.value
    (subst (λ (e : TableErr). IsTableRefusal c.deref.result.now e) c.in-Err-Line.field-0-is c.in-Err-Line.ensures.refused)))
    c.refuse_line.ensures.status (subst (λ (n : ℕ). WritesText g.N.Sink.taken g.N.Sink.faults c.args.notes.now c.refuse_line.new.notes (table_refusal n) c.refuse_line.result) c.in-Err-Line.line-is c.refuse_line.ensures.writes)

pub returns-in-Err-Line-clause-part : goal.returns-in-Err-Line-clause-part
returns-in-Err-Line-clause-part g c = noted_part c.law_one_outcome.ensures c.refuse_line.result (Text (Stats c.args.window) c.args.text.now.items) Refused _
    (no_table refl (subst (λ (t : List ℕ). HasTableFault t c.in-Err-Line.line) c.deref.ensures.value
    (subst (λ (e : TableErr). IsTableRefusal c.deref.result.now e) c.in-Err-Line.field-0-is c.in-Err-Line.ensures.refused)))
    (subst (λ (n : ℕ). WritesText g.N.Sink.taken g.N.Sink.faults c.args.notes.now c.refuse_line.new.notes (table_refusal n) c.refuse_line.result) c.in-Err-Line.line-is c.refuse_line.ensures.writes)
