use Rattle.std.proofs.Common.{refl, subst, sym, List, ℕ}
use Rattle.std.specs.Prelude.{slice_index, All}
use Rattle.tdf_graph.specs.Ranges.{IsEdge}
use Rattle.tdf_graph.specs.declared.actors.Actor.{Actor}
use Rattle.tdf_schedule.proofs.Plans.{deadlock_is, noncausal_is, causal_is, full_all}
use Rattle.tdf_schedule.specs.views.Faults.{IsFirstOfAll, IsLateSink}
use Rattle.tdf_schedule.proofs.cluster.decide.Goals as goal

pub returns-in-Some : goal.returns-in-Some
returns-in-Some c = deadlock_is c.args.net.now.edges.items (slice_index c.args.paces.now) c.args.counts.now c.args.table.now.items c.requires.rows
    (subst (λ n. All (IsEdge n) c.args.net.now.edges.items) (sym c.requires.long) c.args.net.now.in_range.edges_fit) c.requires.balanced c.requires.settled c.in-Some.actor c.in-Some.ensures

pub returns-in-Some-first_late : goal.returns-in-Some-first_late
returns-in-Some-first_late c = noncausal_is c.args.net.now.edges.items (slice_index c.args.paces.now) c.args.counts.now c.args.table.now.items c.requires.rows c.args.net.now.actors.items c.args.paces.now (λ m. refl)
    (full_all c.args.net.now.edges.items (slice_index c.args.paces.now) c.args.counts.now c.args.table.now.items c.requires.rows c.in-None.ensures) _ _
    (subst (λ (l : List Actor). IsFirstOfAll l c.args.table.now.items c.args.paces.now c.in-Some-first_late.sink c.in-Some-first_late.index) c.actors.ensures c.in-Some-first_late.ensures)

pub returns-in-Ok : goal.returns-in-Ok
returns-in-Ok c = (
  c.in-Ok.ensures,
  causal_is c.args.net.now.edges.items (slice_index c.args.paces.now) c.args.counts.now c.args.table.now.items c.requires.rows c.args.net.now.actors.items c.args.paces.now (λ m. refl)
      (full_all c.args.net.now.edges.items (slice_index c.args.paces.now) c.args.counts.now c.args.table.now.items c.requires.rows c.in-None.ensures)
      (subst (λ (l : List Actor). (m a : ℕ) → IsLateSink l c.args.table.now.items c.args.paces.now m a → ⊥) c.actors.ensures c.in-None-first_late.ensures),
)
