use Rattle.std.proofs.Common.{rules, ◌≡◌, ◌∙◌, ℕ, List, Some, ap, length, subst, sym}
use Rattle.std.proofs.lemmas.Option.{slice_get-get_or}
use Rattle.std.specs.Prelude.{slice_get, slice_index, slice_index_or, slice_set}
use Rattle.tdf_exec_firing.proofs.Moves.{one_changed, still}
use Rattle.tdf_exec_firing.proofs.Placed.{rest_more}
use Rattle.tdf_exec_firing.specs.Edges.{EdgesOf}
use Rattle.tdf_exec_firing.specs.declared.wires.OutWire.{OutWire}
use Rattle.tdf_exec_firing.specs.machine.Moving.{CanGive, out_edge, put_by}
use Rattle.tdf_rings.specs.Carried.{ring_at}
use Rattle.tdf_rings.specs.Rings.{RingOf}
use Rattle.tdf_exec_firing.proofs.putting.put_outputs.Goals as goal

pub put_output-requires-clause-rate : goal.put_output-requires-clause-rate
put_output-requires-clause-rate c = ap (λ (e : EdgesOf). length e.writes) c.loop-i.invariant.rest ∙ c.requires.rates ∙ sym c.loop-i.invariant.put.same

pub put_output-requires-clause-can : goal.put_output-requires-clause-can
put_output-requires-clause-can c =
    let w : OutWire = slice_index_or c.args.outs.now c.loop-i.i (record { edge = 0; port = 0 }) in
    let at : slice_get c.args.outs.now c.loop-i.i ≡ Some w = slice_get-get_or c.args.outs.now c.loop-i.i (record { edge = 0; port = 0 }) (search rules) in
    subst (λ (l : List ℕ). CanGive w.port (slice_index l w.edge) c.args.ports.now (ring_at c.loop-i.edges.rings w.edge)) (sym (ap (λ (e : EdgesOf). e.writes) c.loop-i.invariant.rest))
    (subst (λ r. CanGive w.port (slice_index c.args.edges.now.writes w.edge) c.args.ports.now r)
    (sym (still out_edge (put_by c.args.edges.now.writes c.args.ports.now) c.args.outs.now c.loop-i.i w c.args.edges.now.rings c.loop-i.edges.rings c.requires.edges c.loop-i.invariant.put at))
    (c.requires.can c.loop-i.i w at))

pub loop-i-preserved : goal.loop-i-preserved
loop-i-preserved c =
    let w : OutWire = slice_index_or c.args.outs.now c.loop-i.i (record { edge = 0; port = 0 }) in
    let at : slice_get c.args.outs.now c.loop-i.i ≡ Some w = slice_get-get_or c.args.outs.now c.loop-i.i (record { edge = 0; port = 0 }) (search rules) in
    let rings : List RingOf = slice_set c.loop-i.edges.rings w.edge (put_by c.loop-i.edges.writes c.args.ports.now w (ring_at c.loop-i.edges.rings w.edge)) in
    record {
      put = one_changed out_edge (put_by c.args.edges.now.writes c.args.ports.now) c.args.outs.now c.loop-i.i w c.args.edges.now.rings c.loop-i.edges.rings
          c.requires.edges c.loop-i.invariant.put at c.put_output.new.edges.rings
          (ap (λ (e : EdgesOf). e.rings) c.put_output.ensures
          ∙ ap (λ (e : EdgesOf). slice_set c.loop-i.edges.rings w.edge (put_by e.writes c.args.ports.now w (ring_at c.loop-i.edges.rings w.edge))) c.loop-i.invariant.rest);
      rest = rest_more c.args.edges.now c.loop-i.edges c.put_output.new.edges rings c.loop-i.invariant.rest c.put_output.ensures;
    }
