use Rattle.std.proofs.Common.{List, ℕ, subst, inl, inr, refl}
use Rattle.tdf_base.specs.declared.faults.Fault.{Fault}
use Rattle.tdf_cli.proofs.Driven.{accepted_runs, faulty_only, writes_note, writes_same}
use Rattle.tdf_cli.proofs.drive.run_tree.Goals as goal
use Rattle.tdf_cli.specs.Driven.{ignored_text}
use Rattle.tdf_cli.specs.Refusals.{refusal_text}
use Rattle.tdf_cli.specs.declared.status.Status.TheVariants.{Refused}
use Rattle.tdf_cli.specs.machine.Stages.{HasRunBehind, HasTreeOutcome, WritesOf}
use Rattle.tdf_io.specs.Bytes.{WritesText}
use Rattle.tdf_lang_tree.specs.Views.{pure_tree}
use Rattle.tdf_sim.specs.Accepted.{IsTreeRefusal}
use Rattle.tdf_sim.specs.declared.err.SimErr.{SimErr}

pub returns-in-Ok-clause-writes : goal.returns-in-Ok-clause-writes
returns-in-Ok-clause-writes g c =
    writes_same (HasRunBehind (ignored_text c.args.driven.ignored.items) c.args.asked (pure_tree c.args.driven.tree)) (HasTreeOutcome (ignored_text c.args.driven.ignored.items) c.args.asked (pure_tree c.args.driven.tree))
    c.run_driven.result _ _ _ _ (λ o has. inr has)
    (accepted_runs (ignored_text c.args.driven.ignored.items) c.args.asked (pure_tree c.args.driven.tree) c.law_tree_fault.ensures.apart c.requires.kept c.in-Ok.sim c.in-Ok.ensures.accepted)
    (subst (λ (x : List (List ℕ)). WritesOf (HasRunBehind (ignored_text x) c.args.asked (pure_tree c.args.driven.tree)) c.run_driven.result (g.O.Sink.taken c.args.out.now) (g.O.Sink.taken c.run_driven.new.out)
    (g.N.Sink.taken c.args.notes.now) (g.N.Sink.taken c.run_driven.new.notes)) c.deref.ensures.value (c.run_driven.ensures.writes (pure_tree c.args.driven.tree) c.in-Ok.ensures.of))

pub returns-in-Err-Refused-clause-writes : goal.returns-in-Err-Refused-clause-writes
returns-in-Err-Refused-clause-writes g c =
    let is = subst (λ (e : SimErr). IsTreeRefusal (pure_tree c.args.driven.tree) e) c.in-Err-Refused.field-0-is c.in-Err-Refused.ensures.refused in
    writes_note (HasTreeOutcome (ignored_text c.args.driven.ignored.items) c.args.asked (pure_tree c.args.driven.tree)) c.refuse.result Refused _ (inl (c.in-Err-Refused.fault, is, refl))
    (faulty_only (ignored_text c.args.driven.ignored.items) c.args.asked (pure_tree c.args.driven.tree) c.law_tree_fault.ensures.apart c.requires.kept c.law_tree_fault.ensures.one c.in-Err-Refused.fault is)
    c.refuse.ensures.status
    (subst (λ (f : Fault). WritesText g.N.Sink.taken g.N.Sink.faults c.args.notes.now c.refuse.new.notes (refusal_text f) c.refuse.result) c.in-Err-Refused.fault-is c.refuse.ensures.writes)
