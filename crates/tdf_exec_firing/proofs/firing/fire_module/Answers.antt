use Rattle.std.proofs.Common.{◌∙◌, ℕ, List, ap, length, subst, sym}
use Rattle.std.specs.Prelude.{slice_get, slice_index}
use Rattle.tdf_expr.specs.Runs.{Ran}
use Rattle.tdf_expr.specs.declared.bodies.Body.TheVariants.{Processing}
use Rattle.tdf_exec_firing.proofs.Begins.{can_fill, can_give, full_spans, full_state, zeros_after}
use Rattle.tdf_exec_firing.proofs.Cells.{hold_formats}
use Rattle.tdf_exec_firing.proofs.Moves.{all_moved}
use Rattle.tdf_exec_firing.specs.Edges.{EdgesOf}
use Rattle.tdf_exec_firing.specs.declared.wires.InWire.{InWire}
use Rattle.tdf_exec_firing.specs.declared.wires.OutWire.{OutWire}
use Rattle.tdf_exec_firing.specs.machine.Filling.{AreFilledUpTo, count_read, list_read}
use Rattle.tdf_exec_firing.specs.machine.Moving.{AreChangedUpTo, CanGive, in_edge, out_edge, put_by, taken_by}
use Rattle.tdf_rings.specs.Carried.{ring_at}
use Rattle.tdf_expr_state.specs.State.{PortsState, state_of}
use Rattle.tdf_exec_firing.proofs.firing.fire_module.Goals as goal

pub take_inputs-requires-clause-can : goal.take_inputs-requires-clause-can
take_inputs-requires-clause-can c = λ j w at.
    can_fill c.args.module.now.wires.now c.args.edges.now.reads c.args.edges.now.writes c.args.ports.now c.args.edges.now.rings c.requires.wired c.requires.can c.requires.formats
    c.clear.new.ports c.clear.ensures.cleared c.clear.ensures.fit j w (ap (λ (l : List InWire). slice_get l j) (sym c.ins.ensures) ∙ at)

pub put_outputs-requires-clause-rates : goal.put_outputs-requires-clause-rates
put_outputs-requires-clause-rates c =
    ap (λ (e : EdgesOf). length e.writes) c.take_inputs.ensures.rest ∙ c.requires.rates.to_write ∙ sym c.take_inputs.ensures.taken.same

pub put_outputs-requires-clause-can : goal.put_outputs-requires-clause-can
put_outputs-requires-clause-can c = λ j w at.
    let took : AreChangedUpTo in_edge (taken_by c.args.edges.now.reads) c.args.module.now.wires.now.ins (length c.args.module.now.wires.now.ins) c.args.edges.now.rings c.take_inputs.new.edges.rings =
    subst (λ (l : List InWire). AreChangedUpTo in_edge (taken_by c.args.edges.now.reads) l (length l) c.args.edges.now.rings c.take_inputs.new.edges.rings) c.ins.ensures
    c.take_inputs.ensures.taken in
    subst (λ (l : List ℕ). CanGive w.port (slice_index l w.edge) c.run_body.new.ports (ring_at c.take_inputs.new.edges.rings w.edge))
    (sym (ap (λ (e : EdgesOf). e.writes) c.take_inputs.ensures.rest))
    (can_give c.args.module.now.wires.now c.args.edges.now.reads c.args.edges.now.writes c.args.ports.now c.args.edges.now.rings c.requires.wired c.requires.can
    c.take_inputs.new.edges.rings took c.run_body.new.ports (c.run_body.ensures.frame.ports_are ∙ sym c.requires.made.ports_are) j w
    (ap (λ (l : List OutWire). slice_get l j) (sym c.outs.ensures) ∙ at))

pub returns-clause-acted : goal.returns-clause-acted
returns-clause-acted c =
    let filled : AreFilledUpTo c.args.module.now.wires.now.ins (count_read c.args.edges.now.reads) (list_read c.args.edges.now.rings) (length c.args.module.now.wires.now.ins) c.clear.new.ports c.take_inputs.new.ports =
    subst (λ (l : List InWire). AreFilledUpTo l (count_read c.args.edges.now.reads) (list_read c.args.edges.now.rings) (length l) c.clear.new.ports c.take_inputs.new.ports) c.ins.ensures
    c.take_inputs.ensures.filled in
    subst (λ (s : PortsState). Ran c.args.module.now.checked.now c.args.module.now.block Processing (state_of c.args.frame.now.state s) (state_of c.run_body.new.frame.state c.run_body.new.ports.state))
    (full_state c.args.module.now.wires.now c.args.edges.now.reads c.args.edges.now.writes c.args.ports.now c.args.edges.now.rings c.requires.wired c.requires.can
    c.clear.new.ports c.take_inputs.new.ports c.clear.ensures.cleared c.clear.ensures.fit c.requires.zeros filled _ c.requires.made.events)
    c.run_body.ensures.after

pub returns-clause-moved : goal.returns-clause-moved
returns-clause-moved c =
    let took : AreChangedUpTo in_edge (taken_by c.args.edges.now.reads) c.args.module.now.wires.now.ins (length c.args.module.now.wires.now.ins) c.args.edges.now.rings c.take_inputs.new.edges.rings =
    subst (λ (l : List InWire). AreChangedUpTo in_edge (taken_by c.args.edges.now.reads) l (length l) c.args.edges.now.rings c.take_inputs.new.edges.rings) c.ins.ensures
    c.take_inputs.ensures.taken in
    all_moved c.args.module.now.wires.now c.args.edges.now.reads c.args.edges.now.writes c.run_body.new.ports c.args.edges.now.rings c.take_inputs.new.edges.rings c.put_outputs.new.edges.rings took
    (subst (λ (l : List OutWire). AreChangedUpTo out_edge (put_by c.args.edges.now.writes c.run_body.new.ports) l (length l) c.take_inputs.new.edges.rings c.put_outputs.new.edges.rings)
    c.outs.ensures
    (subst (λ (l : List ℕ). AreChangedUpTo out_edge (put_by l c.run_body.new.ports) c.outs.result.now (length c.outs.result.now) c.take_inputs.new.edges.rings c.put_outputs.new.edges.rings)
    (ap (λ (e : EdgesOf). e.writes) c.take_inputs.ensures.rest) c.put_outputs.ensures.put))

pub returns-clause-zeros : goal.returns-clause-zeros
returns-clause-zeros c =
    let filled : AreFilledUpTo c.args.module.now.wires.now.ins (count_read c.args.edges.now.reads) (list_read c.args.edges.now.rings) (length c.args.module.now.wires.now.ins) c.clear.new.ports c.take_inputs.new.ports =
    subst (λ (l : List InWire). AreFilledUpTo l (count_read c.args.edges.now.reads) (list_read c.args.edges.now.rings) (length l) c.clear.new.ports c.take_inputs.new.ports) c.ins.ensures
    c.take_inputs.ensures.filled in
    zeros_after c.args.module.now.wires.now c.args.edges.now.reads c.args.edges.now.writes c.args.ports.now c.args.edges.now.rings c.requires.wired c.requires.can
    c.clear.new.ports c.take_inputs.new.ports c.clear.ensures.cleared c.clear.ensures.fit c.requires.zeros filled c.run_body.new.ports
    (c.run_body.ensures.frame.ports_are ∙ sym (full_spans c.args.module.now.wires.now c.args.edges.now.reads c.args.edges.now.writes c.args.ports.now c.args.edges.now.rings
    c.requires.wired c.requires.can c.clear.new.ports c.take_inputs.new.ports c.clear.ensures.cleared c.clear.ensures.fit c.requires.zeros filled ∙ c.requires.made.ports_are))
    c.run_body.ensures.inputs

pub returns-clause-formats : goal.returns-clause-formats
returns-clause-formats c = hold_formats c.run_body.new.ports c.law_fit.ensures
