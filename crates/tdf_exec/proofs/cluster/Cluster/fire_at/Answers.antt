use Rattle.std.proofs.Common.{◌≡◌, ◌∙◌, ◌-◌, false, subst, sym, true}
use Rattle.tdf_convert.specs.Sampled.{AreByOffset}
use Rattle.tdf_exec.proofs.Counts.{done_here}
use Rattle.tdf_exec.proofs.Playing.{due_within, next_inputs, next_room, played_next, played_none, stands_after}
use Rattle.tdf_exec.specs.Cluster.{ClusterOf, is_next_due}
use Rattle.tdf_exec.proofs.cluster.Cluster.fire_at.Goals as goal

pub loop-self-init : goal.loop-self-init
loop-self-init c = played_none c.args.flat.now c.args.offset c.args.inputs.now c.args.self.now c.args.outputs.now c.requires.of c.requires.inputs.many c.requires.room

pub fire_next-requires-clause-within : goal.fire_next-requires-clause-within
fire_next-requires-clause-within c =
    let due : is_next_due c.loop-self.self c.args.offset ≡ true = sym c.is_due.ensures ∙ c.loop-self-test.true in
    due_within c.args.offset c.loop-self.self due

pub fire_next-requires-clause-inputs : goal.fire_next-requires-clause-inputs
fire_next-requires-clause-inputs c =
    let due : is_next_due c.loop-self.self c.args.offset ≡ true = sym c.is_due.ensures ∙ c.loop-self-test.true in
    next_inputs c.args.flat.now c.args.offset c.args.inputs.now c.args.self.now c.loop-self.self c.args.outputs.now c.loop-self.outputs c.loop-self.invariant c.requires.inputs due

pub fire_next-requires-clause-room : goal.fire_next-requires-clause-room
fire_next-requires-clause-room c =
    let due : is_next_due c.loop-self.self c.args.offset ≡ true = sym c.is_due.ensures ∙ c.loop-self-test.true in
    next_room c.args.flat.now c.args.offset c.args.inputs.now c.args.self.now c.loop-self.self c.args.outputs.now c.loop-self.outputs c.loop-self.invariant due

pub loop-self-preserved : goal.loop-self-preserved
loop-self-preserved c =
    let due : is_next_due c.loop-self.self c.args.offset ≡ true = sym c.is_due.ensures ∙ c.loop-self-test.true in
    played_next c.args.flat.now c.args.offset c.args.inputs.now c.args.self.now c.loop-self.self c.args.outputs.now c.loop-self.outputs c.loop-self.invariant
    c.fire_next.new.self c.fire_next.new.outputs due c.fire_next.ensures.of c.fire_next.ensures.stepped

pub returns-clause-stands : goal.returns-clause-stands
returns-clause-stands c = stands_after c.args.flat.now c.args.offset c.args.inputs.now c.args.self.now c.loop-self.self c.args.outputs.now c.loop-self.outputs c.loop-self.invariant

pub returns-clause-count : goal.returns-clause-count
returns-clause-count c =
    let over : is_next_due c.loop-self.self c.args.offset ≡ false = sym c.is_due.ensures ∙ c.loop-self-test.false in
    let sorted : AreByOffset c.args.self.now.entries = subst (λ (x : ClusterOf). AreByOffset x.entries) c.self.view_is c.self.invariant.sorted in
    (λ i. (c.self-2.view_is i).place - (c.self.view_is i).place) ∙ done_here c.args.offset c.args.self.now c.loop-self.self sorted c.requires.next c.loop-self.invariant.moved c.loop-self.invariant.each over
