use Rattle.std.proofs.Common.{List, ℕ, refl, subst}
use Rattle.tdf_cli.proofs.Driven.{drives_from, drives_to, is_long_cell, is_many, is_off_time, looked_long, looked_many, looked_off, writes_note, writes_same}
use Rattle.tdf_cli.proofs.drive.drive_tree.Goals as goal
use Rattle.tdf_cli.specs.Driven.{ignored_text}
use Rattle.tdf_cli.specs.Tables.{digits_refusal, time_refusal}
use Rattle.tdf_cli.specs.declared.status.Status.TheVariants.{Refused}
use Rattle.tdf_cli.specs.machine.Stages.{HasDrivenTree, HasPartsOutcome, HasTreeOutcome, WritesOf}
use Rattle.tdf_io.specs.Bytes.{WritesText}
use Rattle.tdf_lang_tree.specs.Pure.{PureTree}
use Rattle.tdf_lang_tree.specs.Views.{pure_tree}
use Rattle.tdf_stim.specs.Drivable.{IsStimRefusal, has_too_many, long_line, off_line}
use Rattle.tdf_stim.specs.Driven.{driven_tree}
use Rattle.tdf_stim.specs.Signals.{ignored_labels}
use Rattle.tdf_stim.specs.declared.err.StimErr.{StimErr}

pub returns-in-Ok-clause-writes : goal.returns-in-Ok-clause-writes
returns-in-Ok-clause-writes g c =
    let tree = pure_tree c.args.tree in
    let t = c.args.table.now in
    let lines = ignored_text (ignored_labels tree t) in
    writes_same (HasTreeOutcome lines c.args.asked (driven_tree tree t)) (HasPartsOutcome c.args.asked tree t) c.run_tree.result _ _ _ _
    (drives_to c.args.asked tree t c.in-Ok.ensures.always) (drives_from c.args.asked tree t c.in-Ok.ensures.always)
    (subst (λ (x : PureTree). WritesOf (HasTreeOutcome lines c.args.asked x) c.run_tree.result (g.O.Sink.taken c.args.out.now) (g.O.Sink.taken c.run_tree.new.out)
    (g.N.Sink.taken c.args.notes.now) (g.N.Sink.taken c.run_tree.new.notes)) c.in-Ok.ensures.driven
    (subst (λ (x : List (List ℕ)). WritesOf (HasTreeOutcome (ignored_text x) c.args.asked (pure_tree c.in-Ok.driven.tree)) c.run_tree.result (g.O.Sink.taken c.args.out.now) (g.O.Sink.taken c.run_tree.new.out)
    (g.N.Sink.taken c.args.notes.now) (g.N.Sink.taken c.run_tree.new.notes)) c.in-Ok.ensures.ignored c.run_tree.ensures.writes))

pub returns-in-Err-TooMany-clause-writes : goal.returns-in-Err-TooMany-clause-writes
returns-in-Err-TooMany-clause-writes g c =
    let tree = pure_tree c.args.tree in
    let t = c.args.table.now in
    let is = subst (λ (e : StimErr). IsStimRefusal tree t e) c.in-Err-TooMany.field-0-is c.in-Err-TooMany.ensures.refused in
    writes_note (HasPartsOutcome c.args.asked tree t) c.noted.result Refused _
    (is_many (has_too_many tree t) (long_line tree t) (off_line tree t) (HasDrivenTree c.args.asked tree t) is)
    (looked_many (has_too_many tree t) (long_line tree t) (off_line tree t) (HasDrivenTree c.args.asked tree t) is)
    c.noted.ensures.status c.noted.ensures.writes

pub returns-in-Err-Digits-clause-writes : goal.returns-in-Err-Digits-clause-writes
returns-in-Err-Digits-clause-writes g c =
    let tree = pure_tree c.args.tree in
    let t = c.args.table.now in
    let is = subst (λ (e : StimErr). IsStimRefusal tree t e) c.in-Err-Digits.field-0-is c.in-Err-Digits.ensures.refused in
    writes_note (HasPartsOutcome c.args.asked tree t) c.refuse_line.result Refused _
    (is_long_cell (has_too_many tree t) (long_line tree t) (off_line tree t) (HasDrivenTree c.args.asked tree t) c.in-Err-Digits.line is.0 is.1)
    (looked_long (has_too_many tree t) (long_line tree t) (off_line tree t) (HasDrivenTree c.args.asked tree t) c.in-Err-Digits.line is.0 is.1)
    c.refuse_line.ensures.status
    (subst (λ (n : ℕ). WritesText g.N.Sink.taken g.N.Sink.faults c.args.notes.now c.refuse_line.new.notes (digits_refusal n) c.refuse_line.result) c.in-Err-Digits.line-is c.refuse_line.ensures.writes)

pub returns-in-Err-Time-clause-writes : goal.returns-in-Err-Time-clause-writes
returns-in-Err-Time-clause-writes g c =
    let tree = pure_tree c.args.tree in
    let t = c.args.table.now in
    let is = subst (λ (e : StimErr). IsStimRefusal tree t e) c.in-Err-Time.field-0-is c.in-Err-Time.ensures.refused in
    writes_note (HasPartsOutcome c.args.asked tree t) c.refuse_line-in-Err-Time.result Refused _
    (is_off_time (has_too_many tree t) (long_line tree t) (off_line tree t) (HasDrivenTree c.args.asked tree t) c.in-Err-Time.line is.0 is.1 is.2)
    (looked_off (has_too_many tree t) (long_line tree t) (off_line tree t) (HasDrivenTree c.args.asked tree t) c.in-Err-Time.line is.0 is.1 is.2)
    c.refuse_line-in-Err-Time.ensures.status
    (subst (λ (n : ℕ). WritesText g.N.Sink.taken g.N.Sink.faults c.args.notes.now c.refuse_line-in-Err-Time.new.notes (time_refusal n) c.refuse_line-in-Err-Time.result) c.in-Err-Time.line-is c.refuse_line-in-Err-Time.ensures.writes)
