use Rattle.std.proofs.Common.{◌≡◌, ◌∙◌, ◌+◌, ◌≤◌, Some, length, sym, ap, subst, arith}
use Rattle.std.specs.Prelude.{slice_index}
use Rattle.tdf_exec_firing.proofs.Placed.{somewhere, no_ring_at, one_written_at, ring_is, ring_set, write_is}
use Rattle.tdf_exec_firing.specs.Firing.{front_of}
use Rattle.tdf_exec_firing.specs.machine.Moving.{CanGive, put_by, with_more}
use Rattle.tdf_rings.specs.Carried.{ring_at}
use Rattle.tdf_rings.specs.Rings.{RingOf}
use Rattle.tdf_exec_firing.proofs.putting.put_output.Goals as goal

pub give-requires : goal.give-requires
give-requires c =
    let ring = ring_is c.edges.inside c.args.edges.now c.edges.view_is c.law_apart.ensures c.edges.invariant c.at-place.result c.args.wire.edge c.at-place.ensures
    c.index_mut.result.now c.index_mut.ensures.value in
    let rate = write_is c.edges.inside c.args.edges.now c.edges.view_is c.law_apart.ensures c.edges.invariant c.at-place.result c.args.wire.edge c.at-place.ensures c.index-n.result.now c.index-n.ensures in
    record {
      can = subst (λ n. CanGive c.args.wire.port n c.args.ports.now c.index_mut.result.now) (sym rate)
          (subst (λ r. CanGive c.args.wire.port (slice_index c.args.edges.now.writes c.args.wire.edge) c.args.ports.now r) (sym ring) c.requires.can);
    }

pub at-place-requires : goal.at-place-requires
at-place-requires c =
    somewhere c.edges.inside.places c.args.wire.edge (λ none.
    let ring = no_ring_at c.edges.inside c.args.edges.now c.edges.view_is c.args.wire.edge c.requires.edge none in
    let one : slice_index c.args.edges.now.writes c.args.wire.edge ≡ 1 = one_written_at c.edges.inside c.args.edges.now c.edges.view_is c.args.wire.edge c.requires.edge none in
    let room = subst (λ (r : RingOf). length r.samples + slice_index c.args.edges.now.writes c.args.wire.edge ≤ r.capacity) ring c.requires.can.room in
    absurd (omega (arith, room, one)))

pub returns : goal.returns
returns c =
    let ring = ring_is c.edges.inside c.args.edges.now c.edges.view_is c.law_apart.ensures c.edges.invariant c.at-place.result c.args.wire.edge c.at-place.ensures
    c.index_mut.result.now c.index_mut.ensures.value in
    let rate = write_is c.edges.inside c.args.edges.now c.edges.view_is c.law_apart.ensures c.edges.invariant c.at-place.result c.args.wire.edge c.at-place.ensures c.index-n.result.now c.index-n.ensures in
    ring_set c.edges.inside c.args.edges.now c.edges.view_is c.law_apart.ensures c.edges.invariant c.at-place.result c.args.wire.edge c.at-place.ensures
    c.give.new.ring (put_by c.args.edges.now.writes c.args.ports.now c.args.wire (ring_at c.args.edges.now.rings c.args.wire.edge))
    (c.give.ensures ∙ ap (λ n. with_more (front_of c.args.ports.now (Some c.args.wire.port) n) c.index_mut.result.now) rate
    ∙ ap (put_by c.args.edges.now.writes c.args.ports.now c.args.wire) ring)
