use Rattle.std.proofs.Common.{List, ℕ, refl, subst}
use Rattle.tdf_base.specs.declared.faults.Fault.{Fault}
use Rattle.tdf_cli.proofs.Outcomes.{noted_all, noted_part, saved_all, saved_front}
use Rattle.tdf_cli.proofs.save.save.Goals as goal
use Rattle.tdf_cli.specs.Input.{Text}
use Rattle.tdf_cli.specs.Outcome.{faulty}
use Rattle.tdf_cli.specs.Refusals.{refusal_text}
use Rattle.tdf_cli.specs.Saving.{HasSaveOutcome}
use Rattle.tdf_cli.specs.declared.status.Status.TheVariants.{Refused}
use Rattle.tdf_cli.specs.machine.Stages.{WritesOf}
use Rattle.tdf_cli_words.specs.declared.asked.Settings.TheVariants.{Save}
use Rattle.tdf_io.specs.Bytes.{WritesText}
use Rattle.tdf_lang_parser.specs.Refused.{SpellsText}
use Rattle.tdf_sim.specs.Accepted.{IsTextRefusal}
use Rattle.tdf_sim.specs.FirstFault.{IsFirstFault}
use Rattle.tdf_sim.specs.declared.err.SimErr.{SimErr}
use Rattle.tdf_sim.proofs.Api.{accepted_tree}

pub returns-in-Ok-clause-all : goal.returns-in-Ok-clause-all
returns-in-Ok-clause-all g c =
    let t = c.in-Ok.ensures.accepted in
    let spelled : SpellsText c.args.text.now.items t.tree = subst (λ (x : List ℕ). SpellsText x t.tree) c.deref.ensures.value t.spelled in
    saved_all c.args.part c.args.asked c.args.text.now.items t.tree (g.O.Sink.taken c.args.out.now) (g.O.Sink.taken c.save_part.new.out) (g.N.Sink.taken c.args.notes.now)
    (g.N.Sink.taken c.save_part.new.notes) spelled c.save_part.result
    (subst (λ (x : List ℕ). WritesOf (HasSaveOutcome c.args.part c.args.asked t.tree x) c.save_part.result (g.O.Sink.taken c.args.out.now) (g.O.Sink.taken c.save_part.new.out)
    (g.N.Sink.taken c.args.notes.now) (g.N.Sink.taken c.save_part.new.notes)) c.deref-in-Ok.ensures.value (c.save_part.ensures.writes t.tree (accepted_tree t.tree c.in-Ok.sim spelled t.accepted)))

pub returns-in-Ok-clause-part : goal.returns-in-Ok-clause-part
returns-in-Ok-clause-part g c =
    let t = c.in-Ok.ensures.accepted in
    let spelled : SpellsText c.args.text.now.items t.tree = subst (λ (x : List ℕ). SpellsText x t.tree) c.deref.ensures.value t.spelled in
    saved_front c.args.part c.args.asked c.args.text.now.items t.tree (g.O.Sink.taken c.args.out.now) (g.O.Sink.taken c.save_part.new.out) (g.N.Sink.taken c.args.notes.now)
    (g.N.Sink.taken c.save_part.new.notes) spelled c.in-Ok.sim c.law_first_fault.ensures.apart t.accepted c.save_part.result
    (subst (λ (x : List ℕ). WritesOf (HasSaveOutcome c.args.part c.args.asked t.tree x) c.save_part.result (g.O.Sink.taken c.args.out.now) (g.O.Sink.taken c.save_part.new.out)
    (g.N.Sink.taken c.args.notes.now) (g.N.Sink.taken c.save_part.new.notes)) c.deref-in-Ok.ensures.value (c.save_part.ensures.writes t.tree (accepted_tree t.tree c.in-Ok.sim spelled t.accepted)))

pub returns-in-Err-Refused-clause-all : goal.returns-in-Err-Refused-clause-all
returns-in-Err-Refused-clause-all g c = noted_all c.refuse.result (Text (Save c.args.part c.args.asked) c.args.text.now.items) Refused (g.O.Sink.taken c.args.out.now)
    (faulty refl (subst (λ (x : List ℕ). IsFirstFault x c.in-Err-Refused.fault) c.deref.ensures.value
    (subst (λ (e : SimErr). IsTextRefusal c.deref.result.now e) c.in-Err-Refused.field-0-is c.in-Err-Refused.ensures.refused)))
    c.refuse.ensures.status
    (subst (λ (f : Fault). WritesText g.N.Sink.taken g.N.Sink.faults c.args.notes.now c.refuse.new.notes (refusal_text f) c.refuse.result) c.in-Err-Refused.fault-is c.refuse.ensures.writes)

pub returns-in-Err-Refused-clause-part : goal.returns-in-Err-Refused-clause-part
returns-in-Err-Refused-clause-part g c = noted_part c.law_one_outcome.ensures c.refuse.result (Text (Save c.args.part c.args.asked) c.args.text.now.items) Refused
    (g.O.Sink.taken c.args.out.now)
    (faulty refl (subst (λ (x : List ℕ). IsFirstFault x c.in-Err-Refused.fault) c.deref.ensures.value
    (subst (λ (e : SimErr). IsTextRefusal c.deref.result.now e) c.in-Err-Refused.field-0-is c.in-Err-Refused.ensures.refused)))
    (subst (λ (f : Fault). WritesText g.N.Sink.taken g.N.Sink.faults c.args.notes.now c.refuse.new.notes (refusal_text f) c.refuse.result) c.in-Err-Refused.fault-is c.refuse.ensures.writes)
