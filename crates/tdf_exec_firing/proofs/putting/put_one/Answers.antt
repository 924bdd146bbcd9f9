use Rattle.std.proofs.Common.{◌∙◌, ◌<◌, [], ◌∷◌, length, sym, ap, subst, arith}
use Rattle.tdf_exec_firing.proofs.Placed.{somewhere, no_ring_at, ring_is, ring_set}
use Rattle.tdf_exec_firing.specs.machine.Moving.{with_more}
use Rattle.tdf_rings.specs.Carried.{ring_at}
use Rattle.tdf_rings.specs.Rings.{RingOf}
use Rattle.tdf_exec_firing.proofs.putting.put_one.Goals as goal

pub put-requires : goal.put-requires
put-requires c =
    subst (λ (r : RingOf). length r.samples < r.capacity)
    (sym (ring_is c.edges.inside c.args.edges.now c.edges.view_is c.law_apart.ensures c.edges.invariant c.at-place.result c.args.edge c.at-place.ensures
    c.index_mut.result.now c.index_mut.ensures.value))
    c.requires.room

pub at-place-requires : goal.at-place-requires
at-place-requires c =
    somewhere c.edges.inside.places c.args.edge (λ none.
    let same = no_ring_at c.edges.inside c.args.edges.now c.edges.view_is c.args.edge c.requires.edge none in
    let room = subst (λ (r : RingOf). length r.samples < r.capacity) same c.requires.room in absurd (omega (arith, room)))

pub returns : goal.returns
returns c =
    ring_set c.edges.inside c.args.edges.now c.edges.view_is c.law_apart.ensures c.edges.invariant c.at-place.result c.args.edge c.at-place.ensures
    c.put.new.self (with_more (c.args.value ∷ []) (ring_at c.args.edges.now.rings c.args.edge))
    (c.put.ensures ∙ ap (with_more (c.args.value ∷ []))
    (ring_is c.edges.inside c.args.edges.now c.edges.view_is c.law_apart.ensures c.edges.invariant c.at-place.result c.args.edge c.at-place.ensures
    c.index_mut.result.now c.index_mut.ensures.value))
