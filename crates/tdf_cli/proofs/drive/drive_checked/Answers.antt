use Rattle.std.proofs.Common.{subst}
use Rattle.tdf_base.specs.declared.faults.Fault.{Fault}
use Rattle.tdf_cli.proofs.Driven.{driven_from, early_only, text_to, writes_note, writes_same}
use Rattle.tdf_cli.proofs.drive.drive_checked.Goals as goal
use Rattle.tdf_cli.specs.Driven.{HasDrivenOutcome, early}
use Rattle.tdf_cli.specs.Refusals.{refusal_text}
use Rattle.tdf_cli.specs.declared.status.Status.TheVariants.{Refused}
use Rattle.tdf_cli.specs.machine.Stages.{HasTextOutcome}
use Rattle.tdf_io.specs.Bytes.{WritesText}
use Rattle.tdf_lang_tree.specs.Views.{pure_tree}
use Rattle.tdf_sim.specs.Accepted.{IsEarlyRefusal}
use Rattle.tdf_sim.specs.FirstFault.{of_early_tree}
use Rattle.tdf_sim.specs.declared.err.SimErr.{SimErr}

pub returns-in-Ok-clause-writes : goal.returns-in-Ok-clause-writes
returns-in-Ok-clause-writes g c = λ model spells.
    writes_same (HasTextOutcome c.args.asked (pure_tree c.args.tree) c.args.bytes.now) (HasDrivenOutcome c.args.asked model c.args.bytes.now) c.drive_text.result _ _ _ _
    (text_to c.args.asked model c.args.bytes.now c.law_early_fault.ensures.text_apart (pure_tree c.args.tree) spells c.in-Ok.ensures.flat)
    (driven_from c.args.asked model c.args.bytes.now c.law_early_fault.ensures.text_apart (pure_tree c.args.tree) spells c.in-Ok.ensures.flat)
    c.drive_text.ensures.writes

pub returns-in-Err-Refused-clause-writes : goal.returns-in-Err-Refused-clause-writes
returns-in-Err-Refused-clause-writes g c = λ model spells.
    let is = subst (λ (e : SimErr). IsEarlyRefusal (pure_tree c.args.tree) e) c.in-Err-Refused.field-0-is c.in-Err-Refused.ensures.refused in
    writes_note (HasDrivenOutcome c.args.asked model c.args.bytes.now) c.refuse.result Refused _ (early (of_early_tree (pure_tree c.args.tree) spells is))
    (early_only c.args.asked model c.args.bytes.now c.law_early_fault.ensures.text_apart c.law_early_fault.ensures.one_of_text c.in-Err-Refused.fault (of_early_tree (pure_tree c.args.tree) spells is))
    c.refuse.ensures.status
    (subst (λ (f : Fault). WritesText g.N.Sink.taken g.N.Sink.faults c.args.notes.now c.refuse.new.notes (refusal_text f) c.refuse.result) c.in-Err-Refused.fault-is c.refuse.ensures.writes)
