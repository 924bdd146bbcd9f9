use Rattle.std.proofs.Common.{subst, List, ℕ, length}
use Rattle.std.specs.Prelude.{slice_index}
use Rattle.tdf_graph.specs.declared.actors.Actor.{Actor}
use Rattle.tdf_schedule.proofs.Plans.{by_pace}
use Rattle.tdf_schedule.specs.views.Answers.{IsAnswer}
use Rattle.tdf_schedule.specs.views.Faults.{ArePacesUpTo}
use Rattle.tdf_schedule.proofs.cluster.answer.Goals as goal

pub returns : goal.returns
returns c = by_pace c.args.net.now.actors.items c.args.net.now.edges.items c.args.counts.now c.args.steps.now.actor_steps.items c.in_ok-paces.paces.items c.args.steps.now.period c.decide-result.result
    (subst (λ (l : List Actor). ArePacesUpTo (length l) l c.args.steps.now.actor_steps.items c.in_ok-paces.paces.items) c.actors.ensures c.in_ok-paces.ensures)
    (subst (λ (l : List ℕ). IsAnswer c.args.net.now.actors.items c.args.net.now.edges.items (slice_index l) c.args.counts.now c.args.steps.now.period c.decide-result.result) c.deref-2.ensures.value c.decide-result.ensures)
