-- A module that begins again.
use Rattle.std.proofs.Common.{◌≡◌, ◌∙◌, ℕ, subst, sym, refl}
use Rattle.tdf_dynamic.proofs.Api.{run_zeros}
use Rattle.tdf_dynamic.specs.Ports.{AreBegun}
use Rattle.tdf_dynamic.specs.declared.frames.ModuleFrame.{ModuleFrame}
use Rattle.tdf_exec.specs.Runners.{ModuleOf}
use Rattle.tdf_exec.specs.machine.Moving.{frame_of}
use Rattle.tdf_exec.specs.machine.Restarting.{HasRestarted}
use Rattle.tdf_expr.specs.Frames.{FrameSeen, KeepsRead, PortsSeen}
use Rattle.tdf_expr.specs.Made.{AreMadeFor}
use Rattle.tdf_expr.specs.Runs.{Ran}
use Rattle.tdf_expr.specs.declared.bodies.Body.TheVariants.{Reinitialize}
use Rattle.tdf_expr.specs.declared.checked.Checked.{Checked}
use Rattle.tdf_expr_state.specs.State.{state_of}

restarted : (checked : Checked) (x : ModuleOf) (mid ports : PortsSeen) (frame : FrameSeen) → AreMadeFor checked x.block x.frame x.ports → AreBegun x.ports mid
    → Ran checked x.block Reinitialize (state_of x.frame.state mid.state) (state_of frame.state ports.state) → AreMadeFor checked x.block frame ports → KeepsRead mid ports
    → HasRestarted checked x (record x { frame = frame; ports = ports })
restarted checked x mid ports frame made begun ran now kept = record {
  block = refl;
  wires = refl;
  traced = refl;
  made = now;
  zeros = run_zeros x.ports mid ports begun (now.ports_are ∙ sym made.ports_are ∙ sym begun.spans) kept;
  ran = subst (λ s. Ran checked x.block Reinitialize (state_of x.frame.state s) (state_of frame.state ports.state)) begun.state ran;
}

-- the same, where the module is seen another way, and so are its block and its instance
pub restarted_as : (checked : Checked) (x seen : ModuleOf) (same : x ≡ seen) (block : ℕ) (instance : ModuleFrame) → block ≡ x.block → instance ≡ frame_of x → (mid ports : PortsSeen) (frame : FrameSeen)
    → AreMadeFor checked seen.block seen.frame seen.ports → AreBegun instance.ports mid → Ran checked block Reinitialize (state_of instance.frame.state mid.state) (state_of frame.state ports.state)
    → AreMadeFor checked block frame ports → KeepsRead mid ports → HasRestarted checked seen (record x { frame = frame; ports = ports })
restarted_as checked x seen same block instance block_is instance_is mid ports frame made begun ran now kept =
    subst (λ (z : ModuleOf). HasRestarted checked z (record x { frame = frame; ports = ports })) same
    (restarted checked x mid ports frame (subst (λ (z : ModuleOf). AreMadeFor checked z.block z.frame z.ports) (sym same) made)
    (subst (λ (f : ModuleFrame). AreBegun f.ports mid) instance_is begun)
    (subst (λ n. Ran checked n Reinitialize (state_of x.frame.state mid.state) (state_of frame.state ports.state)) block_is
    (subst (λ (f : ModuleFrame). Ran checked block Reinitialize (state_of f.frame.state mid.state) (state_of frame.state ports.state)) instance_is ran))
    (subst (λ n. AreMadeFor checked n frame ports) block_is now) kept)
