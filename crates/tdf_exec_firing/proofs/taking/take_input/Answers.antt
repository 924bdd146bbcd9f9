use Rattle.std.proofs.Common.{◌≡◌, ◌∙◌, ◌≤◌, length, sym, ap, subst, arith}
use Rattle.std.specs.Prelude.{slice_index}
use Rattle.tdf_exec_firing.proofs.Placed.{somewhere, no_ring_at, one_read_at, read_is, ring_is, ring_set}
use Rattle.tdf_exec_firing.specs.machine.Filling.{CanFill, IsFilled}
use Rattle.tdf_exec_firing.specs.machine.Moving.{taken_by, without}
use Rattle.tdf_rings.specs.Carried.{ring_at}
use Rattle.tdf_rings.specs.Rings.{RingOf}
use Rattle.tdf_exec_firing.proofs.taking.take_input.Goals as goal

pub take_from-requires : goal.take_from-requires
take_from-requires c =
    let ring = ring_is c.edges.inside c.args.edges.now c.edges.view_is c.law_apart.ensures c.edges.invariant c.at-place.result c.args.wire.edge c.at-place.ensures
    c.index_mut.result.now c.index_mut.ensures.value in
    let rate = read_is c.edges.inside c.args.edges.now c.edges.view_is c.law_apart.ensures c.edges.invariant c.at-place.result c.args.wire.edge c.at-place.ensures c.index-n.result.now c.index-n.ensures in
    record {
      can = subst (λ n. CanFill c.args.wire.port n c.index_mut.result.now.samples c.args.ports.now) (sym rate)
          (subst (λ (r : RingOf). CanFill c.args.wire.port (slice_index c.args.edges.now.reads c.args.wire.edge) r.samples c.args.ports.now) (sym ring) c.requires.can);
    }

pub at-place-requires : goal.at-place-requires
at-place-requires c =
    somewhere c.edges.inside.places c.args.wire.edge (λ none.
    let ring = no_ring_at c.edges.inside c.args.edges.now c.edges.view_is c.args.wire.edge c.requires.edge none in
    let one : slice_index c.args.edges.now.reads c.args.wire.edge ≡ 1 = one_read_at c.edges.inside c.args.edges.now c.edges.view_is c.args.wire.edge c.requires.edge none in
    let present = subst (λ (r : RingOf). slice_index c.args.edges.now.reads c.args.wire.edge ≤ length r.samples) ring c.requires.can.present in
    absurd (omega (arith, present, one)))

pub returns-clause-filled : goal.returns-clause-filled
returns-clause-filled c =
    let ring = ring_is c.edges.inside c.args.edges.now c.edges.view_is c.law_apart.ensures c.edges.invariant c.at-place.result c.args.wire.edge c.at-place.ensures
    c.index_mut.result.now c.index_mut.ensures.value in
    let rate = read_is c.edges.inside c.args.edges.now c.edges.view_is c.law_apart.ensures c.edges.invariant c.at-place.result c.args.wire.edge c.at-place.ensures c.index-n.result.now c.index-n.ensures in
    subst (λ (r : RingOf). IsFilled c.args.wire.port (slice_index c.args.edges.now.reads c.args.wire.edge) r.samples c.args.ports.now c.take_from.new.ports) ring
    (subst (λ n. IsFilled c.args.wire.port n c.index_mut.result.now.samples c.args.ports.now c.take_from.new.ports) rate c.take_from.ensures.filled)

pub returns-clause-taken : goal.returns-clause-taken
returns-clause-taken c =
    let ring = ring_is c.edges.inside c.args.edges.now c.edges.view_is c.law_apart.ensures c.edges.invariant c.at-place.result c.args.wire.edge c.at-place.ensures
    c.index_mut.result.now c.index_mut.ensures.value in
    let rate = read_is c.edges.inside c.args.edges.now c.edges.view_is c.law_apart.ensures c.edges.invariant c.at-place.result c.args.wire.edge c.at-place.ensures c.index-n.result.now c.index-n.ensures in
    ring_set c.edges.inside c.args.edges.now c.edges.view_is c.law_apart.ensures c.edges.invariant c.at-place.result c.args.wire.edge c.at-place.ensures
    c.take_from.new.ring (taken_by c.args.edges.now.reads c.args.wire (ring_at c.args.edges.now.rings c.args.wire.edge))
    (c.take_from.ensures.taken ∙ ap (λ n. without n c.index_mut.result.now) rate ∙ ap (taken_by c.args.edges.now.reads c.args.wire) ring)
