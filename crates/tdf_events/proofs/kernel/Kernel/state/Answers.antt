use Rattle.std.proofs.Common.{◌∙◌, ℤ, Vec, Global, map, ap}
use Rattle.tdf_events.proofs.Onward.{state_is}
use Rattle.tdf_events.proofs.kernel.Kernel.state.Goals as goal
use Rattle.tdf_events.specs.Kernel.{KernelOf, side_of}
use Rattle.tdf_events.specs.State.{kernel_state_of}
use Rattle.tdf_events.specs.views.Parts.{kernel_of}
use Rattle.tdf_expr.specs.Frames.{FrameSeen}
use Rattle.tdf_fixed.specs.declared.raw.Raw.{Raw}

pub returns : goal.returns
returns c = state_is (kernel_of c.self.inside.parts)
    (record { values = c.in_ok-values.values.items; blocks = map (λ (b : Vec ℤ Global). b.items) c.in_ok-blocks.blocks.items; pending = c.in_ok-pending.pending.items })
    (c.in_ok-values.ensures ∙ ap (map (λ (v : Raw). v.num)) c.deref.ensures.value) (c.in_ok-blocks.ensures ∙ ap (map (λ (f : FrameSeen). f.state.cells)) c.deref-2.ensures.value)
    c.in_ok-pending.ensures
    ∙ ap (λ (k : KernelOf). kernel_state_of (side_of k)) c.self.view_is
