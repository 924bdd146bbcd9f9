use Rattle.std.proofs.Common.{◌≡◌, ◌≤◌, ◌*◌, subst, sym, ap, arith, length, inl, inr}
use Rattle.std.proofs.lemmas.Bool.{cases_lt}
use Rattle.std.specs.Prelude.{slice_index}
use Rattle.tdf_graph.specs.declared.actors.Edge.{Edge}
use Rattle.tdf_schedule.proofs.Keys.{start_joined, stuck_at, joined_at, input_within, input_fits}
use Rattle.tdf_schedule.specs.views.Table.{row_at, IsJoined}
use Rattle.tdf_schedule.proofs.join.greatest_need.Goals as goal

abbrev no_edge : Edge
no_edge = record { writer = 0; reader = 0; write_rate = 0; read_rate = 0; initial = 0 }

pub loop-place-init : goal.loop-place-init
loop-place-init c = elim (cases_lt 0 c.args.part.asked) [
  | inl some ↦ subst (IsJoined c.args.edges.now (slice_index c.args.paces.now) c.args.table.now.items c.args.actor (length (row_at c.args.table.now.items c.args.actor)) c.args.inputs.now c.args.part.asked)
      (sym (c.begin-key.ensures.later some)) (c.requires.part some).1
  | inr none ↦ (let zero : c.args.part.asked ≡ 0 = omega (arith, none) in
      subst (λ n. IsJoined c.args.edges.now (slice_index c.args.paces.now) c.args.table.now.items c.args.actor (length (row_at c.args.table.now.items c.args.actor)) c.args.inputs.now n c.begin-key.result) (sym zero)
      (start_joined c.args.edges.now (slice_index c.args.paces.now) c.args.table.now.items c.args.actor c.args.inputs.now c.requires.fit c.requires.keys c.requires.low _ c.begin-key.result (ap (λ n. n * slice_index c.args.paces.now c.args.actor) c.row_len-firing.ensures) (c.begin-key.ensures.first zero)))
]

pub bounds-edges-inputs : goal.bounds-edges-inputs
bounds-edges-inputs c = input_within c.args.edges.now _ c.args.actor c.args.inputs.now c.loop-place.place no_edge c.requires.fit c.requires.inputs c.loop-place-test.true

pub meet-requires-clause-some : goal.meet-requires-clause-some
meet-requires-clause-some c = (input_fits c.args.edges.now _ c.args.actor c.args.inputs.now c.loop-place.place _ c.requires.fit c.requires.inputs c.loop-place-test.true).writes.some

pub meet-requires-clause-rate : goal.meet-requires-clause-rate
meet-requires-clause-rate c = (input_fits c.args.edges.now _ c.args.actor c.args.inputs.now c.loop-place.place _ c.requires.fit c.requires.inputs c.loop-place-test.true).reads.some

pub meet-requires-clause-writer : goal.meet-requires-clause-writer
meet-requires-clause-writer c = (input_fits c.args.edges.now _ c.args.actor c.args.inputs.now c.loop-place.place _ c.requires.fit c.requires.inputs c.loop-place-test.true).writer

pub returns-in-None : goal.returns-in-None
returns-in-None c = (
  stuck_at c.args.edges.now (slice_index c.args.paces.now) c.args.table.now.items c.args.actor c.args.inputs.now c.requires.fit c.requires.keys c.requires.low c.requires.inputs
      c.loop-place.place c.row_len-firing.result no_edge c.loop-place.key c.loop-place-test.true c.row_len-firing.ensures c.loop-place.invariant c.in-None.ensures,
  λ some. ((let w = c.loop-place-test.true in omega (arith, w)), c.loop-place.invariant),
)

pub loop-place-preserved : goal.loop-place-preserved
loop-place-preserved c = joined_at c.args.edges.now (slice_index c.args.paces.now) c.args.table.now.items c.args.actor c.args.inputs.now c.requires.fit c.requires.keys c.requires.low c.requires.inputs
    c.loop-place.place c.row_len-firing.result no_edge c.loop-place.key c.loop-place-test.true c.row_len-firing.ensures c.loop-place.invariant c.in-Some.next c.in-Some.ensures

pub returns : goal.returns
returns c = subst (λ n. IsJoined c.args.edges.now (slice_index c.args.paces.now) c.args.table.now.items c.args.actor (length (row_at c.args.table.now.items c.args.actor)) c.args.inputs.now n c.loop-place.key)
    (let n : c.loop-place.place ≡ length c.args.inputs.now = omega (arith, c.loop-place-test.false, c.loop-place.auto.place-end asked_within) in n) c.loop-place.invariant
  where
    asked_within : c.args.part.asked ≤ length c.args.inputs.now
    asked_within = elim (cases_lt 0 c.args.part.asked) [ inl some ↦ (c.requires.part some).0 | inr none ↦ omega (arith, none) ]
