use Rattle.std.proofs.Common.{arith, subst, sym}
use Rattle.tdf_cluster_plans.specs.Groups.{AreTableGroups}
use Rattle.tdf_exec.proofs.Continued.{first_of, held_at_place, place_in, resumed_at, resumed_is, resumed_stands}
use Rattle.tdf_exec.proofs.Planned.{has}
use Rattle.tdf_exec.specs.Layout.{LayoutOf}
use Rattle.tdf_exec.proofs.cluster.Cluster.from_state.Goals as goal

pub standing_of-requires-clause-limits : goal.standing_of-requires-clause-limits
standing_of-requires-clause-limits c = (c.law_laid.ensures.laid c.args.flat.now c.requires.sound).limits

pub standing_of-requires-clause-groups : goal.standing_of-requires-clause-groups
standing_of-requires-clause-groups c = subst (λ (l : LayoutOf). AreTableGroups c.args.flat.now.tables l.groups) (sym c.layout.view_is) c.requires.layout.groups

pub state_parts-requires-clause-plan : goal.state_parts-requires-clause-plan
state_parts-requires-clause-plan c =
    first_of c.args.flat.now c.args.cluster c.in_ok-standing.standing.first c.args.state.now c.args.time c.in_ok-standing.ensures.state c.in_ok-standing.ensures.known

pub state_parts-requires-clause-states : goal.state_parts-requires-clause-states
state_parts-requires-clause-states c = c.in_ok-standing.ensures.state.modules

pub state_parts-requires-clause-table : goal.state_parts-requires-clause-table
state_parts-requires-clause-table c = c.in_ok-standing.ensures.state.table_is

pub state_parts-requires-clause-place : goal.state_parts-requires-clause-place
state_parts-requires-clause-place c =
    let p = place_in c.args.state.now.start c.args.time c.in_ok-standing.standing.first.plan.entries.items in let is = c.in_ok-standing.ensures.place in omega (arith, p, is)

pub state_parts-requires-clause-edges : goal.state_parts-requires-clause-edges
state_parts-requires-clause-edges c =
    held_at_place c.args.flat.now c.args.cluster c.in_ok-standing.standing.first.attrs.rows c.in_ok-standing.standing.first.plan c.args.state.now c.args.time c.in_ok-standing.standing.place
    c.in_ok-standing.ensures.state c.in_ok-standing.ensures.place

pub invariant_of-result : goal.invariant_of-result
invariant_of-result c =
    let laid = c.law_laid.ensures.laid c.args.flat.now c.requires.sound in
    let first = c.in_ok-standing.standing.first in
    let is = first_of c.args.flat.now c.args.cluster first c.args.state.now c.args.time c.in_ok-standing.ensures.state c.in_ok-standing.ensures.known in
    let h = has c.args.flat.now c.args.cluster first c.requires.sound laid is c.law_laid.ensures.present in
    record { sorted = c.law_laid.ensures.sorted _ _ _ first.plan.entries.items h.plan_is.planned; rising = c.in-Ok.ensures.rising; counted = c.in-Ok.ensures.counted; room = c.in-Ok.ensures.room }

pub returns-in-Ok-clause-of : goal.returns-in-Ok-clause-of
returns-in-Ok-clause-of c =
    let laid = c.law_laid.ensures.laid c.args.flat.now c.requires.sound in
    let first = c.in_ok-standing.standing.first in
    let is = first_of c.args.flat.now c.args.cluster first c.args.state.now c.args.time c.in_ok-standing.ensures.state c.in_ok-standing.ensures.known in
    resumed_is c.args.flat.now c.args.cluster first c.requires.sound laid is c.law_laid.ensures.present c.args.state.now c.args.time c.in_ok-standing.standing.place
    c.in_ok-standing.ensures.state c.in_ok-standing.ensures.place
    c.in-Ok.parts.edges.reads c.in-Ok.parts.edges.writes c.in-Ok.parts.edges.rings c.in-Ok.parts.actors.runners c.in-Ok.parts.actors.positions c.in-Ok.ensures.parts

pub returns-in-Ok-clause-at : goal.returns-in-Ok-clause-at
returns-in-Ok-clause-at c =
    let laid = c.law_laid.ensures.laid c.args.flat.now c.requires.sound in
    let first = c.in_ok-standing.standing.first in
    let is = first_of c.args.flat.now c.args.cluster first c.args.state.now c.args.time c.in_ok-standing.ensures.state c.in_ok-standing.ensures.known in
    resumed_at c.args.flat.now c.args.cluster first c.requires.sound laid is c.law_laid.ensures.present c.args.state.now c.args.time c.in_ok-standing.standing.place
    c.in_ok-standing.ensures.state c.in_ok-standing.ensures.place
    c.in-Ok.parts.edges.reads c.in-Ok.parts.edges.writes c.in-Ok.parts.edges.rings c.in-Ok.parts.actors.runners c.in-Ok.parts.actors.positions c.in-Ok.ensures.parts

pub returns-in-Ok-clause-stands : goal.returns-in-Ok-clause-stands
returns-in-Ok-clause-stands c =
    let laid = c.law_laid.ensures.laid c.args.flat.now c.requires.sound in
    let first = c.in_ok-standing.standing.first in
    let is = first_of c.args.flat.now c.args.cluster first c.args.state.now c.args.time c.in_ok-standing.ensures.state c.in_ok-standing.ensures.known in
    resumed_stands c.args.flat.now c.args.cluster first c.requires.sound laid is c.law_laid.ensures.present c.args.state.now c.args.time c.in_ok-standing.standing.place
    c.in_ok-standing.ensures.state c.in_ok-standing.ensures.place
    c.in-Ok.parts.edges.reads c.in-Ok.parts.edges.writes c.in-Ok.parts.edges.rings c.in-Ok.parts.actors.runners c.in-Ok.parts.actors.positions c.in-Ok.ensures.parts

pub returns-in-Ok-clause-bad_always : goal.returns-in-Ok-clause-bad_always
returns-in-Ok-clause-bad_always c = λ none. absurd (none (record {
  table = c.in_ok-standing.standing.first.attrs.rows;
  plan = c.in_ok-standing.standing.first.plan;
  is = c.in_ok-standing.ensures.state;
}))
