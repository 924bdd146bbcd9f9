use Rattle.std.proofs.Common.{◌≡◌, ◌∙◌, ◌<◌, Some, length, sym, ap, subst, arith}
use Rattle.std.specs.Prelude.{slice_get}
use Rattle.tdf_exec_firing.proofs.Moves.{one_taken}
use Rattle.tdf_exec_firing.proofs.Placed.{somewhere, no_ring_at, ring_is, ring_set}
use Rattle.tdf_exec_firing.specs.Edges.{EdgesOf}
use Rattle.tdf_exec_firing.specs.machine.Moving.{without}
use Rattle.tdf_rings.specs.Carried.{ring_at}
use Rattle.tdf_rings.specs.Rings.{RingOf}
use Rattle.tdf_exec_firing.proofs.firing.fire_sink.Goals as goal

pub pop-requires : goal.pop-requires
pop-requires c =
    subst (λ (r : RingOf). 0 < length r.samples)
    (sym (ring_is c.edges.inside c.args.edges.now c.edges.view_is c.law_apart.ensures c.edges.invariant c.at-place.result c.args.edge c.at-place.ensures
    c.index_mut.result.now c.index_mut.ensures.value))
    c.requires.present

pub at-place-requires : goal.at-place-requires
at-place-requires c =
    somewhere c.edges.inside.places c.args.edge (λ none.
    let same = no_ring_at c.edges.inside c.args.edges.now c.edges.view_is c.args.edge c.requires.edge none in
    let present = subst (λ (r : RingOf). 0 < length r.samples) same c.requires.present in absurd (omega (arith, present)))

pub returns-clause-value : goal.returns-clause-value
returns-clause-value c =
    subst (λ (r : RingOf). slice_get r.samples 0 ≡ Some c.pop.result)
    (ring_is c.edges.inside c.args.edges.now c.edges.view_is c.law_apart.ensures c.edges.invariant c.at-place.result c.args.edge c.at-place.ensures
    c.index_mut.result.now c.index_mut.ensures.value)
    c.pop.ensures.value

pub returns-clause-taken : goal.returns-clause-taken
returns-clause-taken c =
    one_taken c.args.edge c.args.edges.now.rings _ c.requires.edge
    (ap (λ (e : EdgesOf). e.rings)
    (ring_set c.edges.inside c.args.edges.now c.edges.view_is c.law_apart.ensures c.edges.invariant c.at-place.result c.args.edge c.at-place.ensures
    c.pop.new.self (without 1 (ring_at c.args.edges.now.rings c.args.edge))
    (c.pop.ensures.rest ∙ ap (without 1)
    (ring_is c.edges.inside c.args.edges.now c.edges.view_is c.law_apart.ensures c.edges.invariant c.at-place.result c.args.edge c.at-place.ensures
    c.index_mut.result.now c.index_mut.ensures.value))))
