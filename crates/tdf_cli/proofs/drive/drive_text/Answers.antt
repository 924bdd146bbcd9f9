use Rattle.std.proofs.Common.{ℕ, refl, subst, inl, inr}
use Rattle.tdf_cli.proofs.Driven.{no_table_only, text_from, writes_note, writes_same}
use Rattle.tdf_cli.proofs.drive.drive_text.Goals as goal
use Rattle.tdf_cli.specs.Tables.{table_refusal}
use Rattle.tdf_cli.specs.declared.status.Status.TheVariants.{Refused}
use Rattle.tdf_cli.specs.machine.Stages.{HasPartsOutcome, HasTextOutcome}
use Rattle.tdf_io.specs.Bytes.{WritesText}
use Rattle.tdf_lang_tree.specs.Views.{pure_tree}
use Rattle.tdf_tables.specs.Faults.{IsTableRefusal}
use Rattle.tdf_tables.specs.declared.err.TableErr.{TableErr}

pub returns-in-Ok-clause-writes : goal.returns-in-Ok-clause-writes
returns-in-Ok-clause-writes g c =
    writes_same (HasPartsOutcome c.args.asked (pure_tree c.args.tree) c.in-Ok.table) (HasTextOutcome c.args.asked (pure_tree c.args.tree) c.args.bytes.now) c.drive_tree.result _ _ _ _
    (λ o has. inr (c.in-Ok.table, c.in-Ok.ensures.table, has))
    (text_from c.args.asked (pure_tree c.args.tree) c.args.bytes.now c.law_tables.ensures.not_both c.law_tables.ensures.one_table c.in-Ok.table c.in-Ok.ensures.table)
    c.drive_tree.ensures.writes

pub returns-in-Err-Line-clause-writes : goal.returns-in-Err-Line-clause-writes
returns-in-Err-Line-clause-writes g c =
    let is = subst (λ (e : TableErr). IsTableRefusal c.args.bytes.now e) c.in-Err-Line.field-0-is c.in-Err-Line.ensures.refused in
    writes_note (HasTextOutcome c.args.asked (pure_tree c.args.tree) c.args.bytes.now) c.refuse_line.result Refused _
    (inl (c.in-Err-Line.line, is, refl))
    (no_table_only c.args.asked (pure_tree c.args.tree) c.args.bytes.now c.law_tables.ensures.not_both c.law_tables.ensures.one_fault c.in-Err-Line.line is)
    c.refuse_line.ensures.status
    (subst (λ (n : ℕ). WritesText g.N.Sink.taken g.N.Sink.faults c.args.notes.now c.refuse_line.new.notes (table_refusal n) c.refuse_line.result) c.in-Err-Line.line-is c.refuse_line.ensures.writes)
