use Rattle.std.proofs.Common.{rules, ◌≡◌, ◌∙◌, ℕ, List, Some, ap, length, subst, sym}
use Rattle.std.proofs.lemmas.Option.{slice_get-get_or}
use Rattle.std.specs.Prelude.{slice_get, slice_index, slice_index_or, slice_set}
use Rattle.tdf_exec_firing.proofs.Fills.{can_still, wires_more}
use Rattle.tdf_exec_firing.proofs.Moves.{one_changed, still}
use Rattle.tdf_exec_firing.proofs.Placed.{rest_more}
use Rattle.tdf_exec_firing.specs.Edges.{EdgesOf}
use Rattle.tdf_exec_firing.specs.declared.wires.InWire.{InWire}
use Rattle.tdf_exec_firing.specs.machine.Filling.{CanFill, IsFilled, count_read, list_read}
use Rattle.tdf_exec_firing.specs.machine.Moving.{in_edge, taken_by}
use Rattle.tdf_rings.specs.Carried.{ring_at}
use Rattle.tdf_rings.specs.Rings.{RingOf}
use Rattle.tdf_exec_firing.proofs.taking.take_inputs.Goals as goal

pub take_input-requires-clause-rate : goal.take_input-requires-clause-rate
take_input-requires-clause-rate c = ap (λ (e : EdgesOf). length e.reads) c.loop-i.invariant.rest ∙ c.requires.rates ∙ sym c.loop-i.invariant.taken.same

pub take_input-requires-clause-can : goal.take_input-requires-clause-can
take_input-requires-clause-can c =
    let w : InWire = slice_index_or c.args.ins.now c.loop-i.i (record { edge = 0; port = 0 }) in
    let at : slice_get c.args.ins.now c.loop-i.i ≡ Some w = slice_get-get_or c.args.ins.now c.loop-i.i (record { edge = 0; port = 0 }) (search rules) in
    subst (λ (l : List ℕ). CanFill w.port (slice_index l w.edge) (ring_at c.loop-i.edges.rings w.edge).samples c.loop-i.ports)
    (sym (ap (λ (e : EdgesOf). e.reads) c.loop-i.invariant.rest))
    (can_still w.port (slice_index c.args.edges.now.reads w.edge) (ring_at c.args.edges.now.rings w.edge).samples (ring_at c.loop-i.edges.rings w.edge).samples
    c.loop-i.ports.state.samples c.args.ports.now c.loop-i.ports
    (ap (λ (r : RingOf). r.samples) (still in_edge (taken_by c.args.edges.now.reads) c.args.ins.now c.loop-i.i w c.args.edges.now.rings c.loop-i.edges.rings c.requires.edges
    c.loop-i.invariant.taken at))
    c.loop-i.invariant.filled.rest c.loop-i.invariant.filled.long (c.requires.can c.loop-i.i w at))

pub loop-i-preserved : goal.loop-i-preserved
loop-i-preserved c =
    let w : InWire = slice_index_or c.args.ins.now c.loop-i.i (record { edge = 0; port = 0 }) in
    let at : slice_get c.args.ins.now c.loop-i.i ≡ Some w = slice_get-get_or c.args.ins.now c.loop-i.i (record { edge = 0; port = 0 }) (search rules) in
    let same = still in_edge (taken_by c.args.edges.now.reads) c.args.ins.now c.loop-i.i w c.args.edges.now.rings c.loop-i.edges.rings c.requires.edges c.loop-i.invariant.taken at in
    let rings : List RingOf = slice_set c.loop-i.edges.rings w.edge (taken_by c.loop-i.edges.reads w (ring_at c.loop-i.edges.rings w.edge)) in
    record {
      filled = wires_more c.args.ins.now (count_read c.args.edges.now.reads) (list_read c.args.edges.now.rings) c.loop-i.i w c.args.ports.now c.loop-i.ports c.take_input.new.ports
          c.requires.fit.placed c.requires.once c.requires.can at c.loop-i.invariant.filled
          (subst (λ (r : RingOf). IsFilled w.port (slice_index c.args.edges.now.reads w.edge) r.samples c.loop-i.ports c.take_input.new.ports) same
          (subst (λ (e : EdgesOf). IsFilled w.port (slice_index e.reads w.edge) (ring_at c.loop-i.edges.rings w.edge).samples c.loop-i.ports c.take_input.new.ports)
          c.loop-i.invariant.rest c.take_input.ensures.filled));
      taken = one_changed in_edge (taken_by c.args.edges.now.reads) c.args.ins.now c.loop-i.i w c.args.edges.now.rings c.loop-i.edges.rings
          c.requires.edges c.loop-i.invariant.taken at c.take_input.new.edges.rings
          (ap (λ (e : EdgesOf). e.rings) c.take_input.ensures.taken
          ∙ ap (λ (e : EdgesOf). slice_set c.loop-i.edges.rings w.edge (taken_by e.reads w (ring_at c.loop-i.edges.rings w.edge))) c.loop-i.invariant.rest);
      rest = rest_more c.args.edges.now c.loop-i.edges c.take_input.new.edges rings c.loop-i.invariant.rest c.take_input.ensures.taken;
    }
