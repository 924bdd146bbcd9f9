use Rattle.std.proofs.Common.{◌≡◌, ℕ, List, length, ap, subst, ◌∙◌, arith, ◌<◌, ◌≤◌}
use Rattle.tdf_base.specs.Limits.{longest_text}
use Rattle.tdf_cli.proofs.Outcomes.{driven_all, driven_part, noted_all, noted_part}
use Rattle.tdf_cli.proofs.PartCounts.{table_within}
use Rattle.tdf_cli.proofs.drive.drive.Goals as goal
use Rattle.tdf_cli.specs.Driven.{HasDrivenOutcome}
use Rattle.tdf_cli.specs.Input.{Text}
use Rattle.tdf_cli.specs.Outcome.{too_long_model}
use Rattle.tdf_cli.specs.Parts.{model_part, table_part}
use Rattle.tdf_cli.specs.declared.status.Status.TheVariants.{TooLong}
use Rattle.tdf_cli.specs.machine.Stages.{WritesOf}
use Rattle.tdf_cli_words.specs.declared.asked.Settings.TheVariants.{Drive}

pub returns-then-model-gt-LONGEST_TEXT-clause-all : goal.returns-then-model-gt-LONGEST_TEXT-clause-all
returns-then-model-gt-LONGEST_TEXT-clause-all g c =
    let model_is = c.parts_of.ensures.model ∙ ap model_part c.deref.ensures.value in
    noted_all c.noted.result (Text (Drive c.args.asked) c.args.text.now.items) TooLong _
    (too_long_model (subst (λ (m : List ℕ). longest_text < length m) model_is c.if-model-gt-LONGEST_TEXT.true)) c.noted.ensures.status c.noted.ensures.writes

pub returns-then-model-gt-LONGEST_TEXT-clause-part : goal.returns-then-model-gt-LONGEST_TEXT-clause-part
returns-then-model-gt-LONGEST_TEXT-clause-part g c =
    let model_is = c.parts_of.ensures.model ∙ ap model_part c.deref.ensures.value in
    noted_part c.law_one_outcome.ensures c.noted.result (Text (Drive c.args.asked) c.args.text.now.items) TooLong _
    (too_long_model (subst (λ (m : List ℕ). longest_text < length m) model_is c.if-model-gt-LONGEST_TEXT.true)) c.noted.ensures.writes

pub drive_parts-requires-clause-short : goal.drive_parts-requires-clause-short
drive_parts-requires-clause-short g c =
    let table_is = c.parts_of.ensures.table ∙ ap table_part c.deref.ensures.value in
    omega (arith, ap length table_is, table_within c.args.text.now.items, c.requires.text)

pub returns-clause-all : goal.returns-clause-all
returns-clause-all g c =
    let model_is = c.parts_of.ensures.model ∙ ap model_part c.deref.ensures.value in
    let table_is = c.parts_of.ensures.table ∙ ap table_part c.deref.ensures.value in
    driven_all c.drive_parts.result c.args.asked c.args.text.now.items _ _ _ _ (subst (λ (m : List ℕ). length m ≤ longest_text) model_is c.if-model-gt-LONGEST_TEXT.false)
    (subst (λ (m : List ℕ). WritesOf (HasDrivenOutcome c.args.asked m (table_part c.args.text.now.items)) c.drive_parts.result (g.O.Sink.taken c.args.out.now) (g.O.Sink.taken c.drive_parts.new.out)
    (g.N.Sink.taken c.args.notes.now) (g.N.Sink.taken c.drive_parts.new.notes)) model_is
    (subst (λ (b : List ℕ). WritesOf (HasDrivenOutcome c.args.asked c.parts_of.result.0.now b) c.drive_parts.result (g.O.Sink.taken c.args.out.now) (g.O.Sink.taken c.drive_parts.new.out)
    (g.N.Sink.taken c.args.notes.now) (g.N.Sink.taken c.drive_parts.new.notes)) table_is c.drive_parts.ensures.writes))

pub returns-clause-part : goal.returns-clause-part
returns-clause-part g c =
    let model_is = c.parts_of.ensures.model ∙ ap model_part c.deref.ensures.value in
    let table_is = c.parts_of.ensures.table ∙ ap table_part c.deref.ensures.value in
    driven_part c.drive_parts.result c.args.asked c.args.text.now.items _ _ _ _ (subst (λ (m : List ℕ). length m ≤ longest_text) model_is c.if-model-gt-LONGEST_TEXT.false)
    (subst (λ (m : List ℕ). WritesOf (HasDrivenOutcome c.args.asked m (table_part c.args.text.now.items)) c.drive_parts.result (g.O.Sink.taken c.args.out.now) (g.O.Sink.taken c.drive_parts.new.out)
    (g.N.Sink.taken c.args.notes.now) (g.N.Sink.taken c.drive_parts.new.notes)) model_is
    (subst (λ (b : List ℕ). WritesOf (HasDrivenOutcome c.args.asked c.parts_of.result.0.now b) c.drive_parts.result (g.O.Sink.taken c.args.out.now) (g.O.Sink.taken c.drive_parts.new.out)
    (g.N.Sink.taken c.args.notes.now) (g.N.Sink.taken c.drive_parts.new.notes)) table_is c.drive_parts.ensures.writes))
