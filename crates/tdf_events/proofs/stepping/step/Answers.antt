use Rattle.std.proofs.Common.{◌≡◌, List, length, ap, ◌∙◌, subst}
use Rattle.tdf_events.proofs.Steps.{flags_long, next_flags, stepped_kernel, stepped_side}
use Rattle.tdf_events.specs.Delta.{after_update, flags_from, is_next, delta_stepped}
use Rattle.tdf_events.specs.Kernel.{IsKernelOf, side_of}
use Rattle.tdf_events.specs.machine.Updating.{AreAllReached, does_change}
use Rattle.tdf_events.specs.views.Parts.{kernel_of}
use Rattle.tdf_fixed.specs.declared.raw.Raw.{Raw}
use Rattle.tdf_events.proofs.stepping.step.Goals as goal

pub returns-clause-kernel : goal.returns-clause-kernel
returns-clause-kernel c =
    let kernel : IsKernelOf c.args.flat.now (kernel_of c.evaluate.new.parts) = c.evaluate.ensures.kernel in
    let reached : AreAllReached c.evaluate.new.parts.by_signal (does_change c.evaluate.new.parts.values.items c.evaluate.new.parts.waiting) c.clear.new.self.flags c.trigger.new.set.flags =
    subst (λ (vs : List Raw). AreAllReached c.evaluate.new.parts.by_signal (does_change vs c.evaluate.new.parts.waiting) c.clear.new.self.flags c.trigger.new.set.flags) c.deref.ensures.value c.trigger.ensures in
    let flags : c.take_delta.new.set.flags ≡ flags_from (λ n row. is_next (side_of (kernel_of c.evaluate.new.parts)) row) 0 c.args.flat.now.tables.processes =
    next_flags c.args.flat.now (kernel_of c.evaluate.new.parts) c.clear.new.self.flags c.trigger.new.set.flags c.take_delta.new.set.flags kernel c.clear.ensures.flags reached c.take_delta.ensures.reached in
    stepped_kernel c.args.flat.now (kernel_of c.evaluate.new.parts) c.give.new.values.items c.take_delta.new.self c.take_delta.new.set c.give.new.self kernel c.give.ensures.values c.take_delta.ensures.gone
    (ap length flags ∙ flags_long (λ n row. is_next (side_of (kernel_of c.evaluate.new.parts)) row) 0 c.args.flat.now.tables.processes) c.give.ensures.waiting

pub returns-clause-side : goal.returns-clause-side
unfolding delta_stepped
returns-clause-side c =
    let kernel : IsKernelOf c.args.flat.now (kernel_of c.evaluate.new.parts) = c.evaluate.ensures.kernel in
    let reached : AreAllReached c.evaluate.new.parts.by_signal (does_change c.evaluate.new.parts.values.items c.evaluate.new.parts.waiting) c.clear.new.self.flags c.trigger.new.set.flags =
    subst (λ (vs : List Raw). AreAllReached c.evaluate.new.parts.by_signal (does_change vs c.evaluate.new.parts.waiting) c.clear.new.self.flags c.trigger.new.set.flags) c.deref.ensures.value c.trigger.ensures in
    let flags : c.take_delta.new.set.flags ≡ flags_from (λ n row. is_next (side_of (kernel_of c.evaluate.new.parts)) row) 0 c.args.flat.now.tables.processes =
    next_flags c.args.flat.now (kernel_of c.evaluate.new.parts) c.clear.new.self.flags c.trigger.new.set.flags c.take_delta.new.set.flags kernel c.clear.ensures.flags reached c.take_delta.ensures.reached in
    λ model checked. stepped_side c.args.flat.now (kernel_of c.evaluate.new.parts) c.give.new.values.items c.take_delta.new.self c.take_delta.new.set.flags c.give.new.self c.give.ensures.values c.take_delta.ensures.gone flags c.give.ensures.waiting
    ∙ ap (after_update c.args.flat.now) (c.evaluate.ensures.evaluated model checked)
