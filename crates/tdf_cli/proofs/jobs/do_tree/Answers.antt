use Rattle.std.proofs.Common.{subst}
use Rattle.tdf_base.specs.declared.faults.Fault.{Fault}
use Rattle.tdf_cli.proofs.Outcomes.{noted_all, noted_part, each_ok, each_err}
use Rattle.tdf_cli.proofs.jobs.do_tree.Goals as goal
use Rattle.tdf_cli.specs.Input.{Text}
use Rattle.tdf_cli.specs.Outcome.{faulty}
use Rattle.tdf_cli.specs.Refusals.{refusal_text}
use Rattle.tdf_io.specs.Bytes.{WritesText}
use Rattle.tdf_cli.specs.declared.status.Status.TheVariants.{Refused}
use Rattle.tdf_sim.specs.Accepted.{IsTreeRefusal}
use Rattle.tdf_sim.specs.FirstFault.{of_tree}
use Rattle.tdf_sim.specs.declared.err.SimErr.{SimErr}
use Rattle.tdf_lang_tree.specs.Views.{pure_tree}

pub returns-in-Err-Refused-clause-all : goal.returns-in-Err-Refused-clause-all
returns-in-Err-Refused-clause-all g c = each_ok c.refuse.result (pure_tree c.args.tree) _
    (λ text spells. noted_all c.refuse.result (Text c.args.job text) Refused _
    (faulty c.requires.model (of_tree (pure_tree c.args.tree) spells
    (subst (λ (e : SimErr). IsTreeRefusal (pure_tree c.args.tree) e) c.in-Err-Refused.field-0-is c.in-Err-Refused.ensures.refused)))
    c.refuse.ensures.status
    (subst (λ (f : Fault). WritesText g.N.Sink.taken g.N.Sink.faults c.args.notes.now c.refuse.new.notes (refusal_text f) c.refuse.result) c.in-Err-Refused.fault-is c.refuse.ensures.writes))

pub returns-in-Err-Refused-clause-part : goal.returns-in-Err-Refused-clause-part
returns-in-Err-Refused-clause-part g c = each_err c.refuse.result (pure_tree c.args.tree) _
    (λ text spells. noted_part c.law_one_outcome.ensures c.refuse.result (Text c.args.job text) Refused _
    (faulty c.requires.model (of_tree (pure_tree c.args.tree) spells
    (subst (λ (e : SimErr). IsTreeRefusal (pure_tree c.args.tree) e) c.in-Err-Refused.field-0-is c.in-Err-Refused.ensures.refused)))
    (subst (λ (f : Fault). WritesText g.N.Sink.taken g.N.Sink.faults c.args.notes.now c.refuse.new.notes (refusal_text f) c.refuse.result) c.in-Err-Refused.fault-is c.refuse.ensures.writes))
