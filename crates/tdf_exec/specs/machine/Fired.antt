-- One firing of an actor: what it needs and what it does, over the rings of all edges.
-- Source: own.
use Rattle.std.specs.List.{flat_map}
use Rattle.std.specs.Prelude.{◌≡◌, ℕ, ◌+◌, ◌<◌, ◌≤◌, List, [], ◌∷◌, Some, length, slice_get}
use Rattle.tdf_convert.specs.Outputs.{OutputsOf}
use Rattle.tdf_exec.specs.Gained.{sent_sample, sent_size, traced_size, with_gains}
use Rattle.tdf_exec.specs.Made.{IsInSpans}
use Rattle.tdf_exec.specs.Runners.{ModuleOf, SamplerOf}
use Rattle.tdf_exec.specs.Traced.{traced_port_samples}
use Rattle.tdf_exec.specs.declared.runners.Runner.{Runner}
use Rattle.tdf_exec.specs.declared.runners.Runner.TheVariants as runner
use Rattle.tdf_exec.specs.declared.runners.TracedPort.{TracedPort}
use Rattle.tdf_expr.specs.Made.{AreMadeFor}
use Rattle.tdf_expr.specs.declared.checked.Checked.{Checked}
use Rattle.tdf_exec_firing.specs.Actors.{CanPutOne, HasTaken, HavePut}
use Rattle.tdf_exec_firing.specs.Firing.{AreMoved, AreOfFormats, AreEdgeRates, AreZerosBehind, CanFire, HasActed, HoldFormats, samples_read}
use Rattle.tdf_exec_firing.specs.Wires.{AreWired}
use Rattle.tdf_fixed.specs.declared.raw.Raw.{Raw}
use Rattle.tdf_rings.specs.Carried.{ring_at}
use Rattle.tdf_rings.specs.Rings.{RingOf}

pub record CanFireModule (checked : Checked) (reads writes : List ℕ) (rings : List RingOf)
    (x : ModuleOf) : Type 0 where
  pub made : AreMadeFor checked x.block x.frame x.ports
  pub wired : AreWired x.wires x.ports.spans (length rings)
  pub rates : AreEdgeRates reads writes (length rings)
  pub can : CanFire x.wires reads writes x.ports.spans rings
  pub formats : AreOfFormats x.wires x.ports.spans rings
  pub zeros : AreZerosBehind x.wires reads x.ports

-- its body has run, its samples have moved, and the rest of it is as it was
pub record HasFired (checked : Checked) (reads writes : List ℕ) (old new : List RingOf)
    (x y : ModuleOf) : Type 0 where
  pub block : y.block ≡ x.block
  pub wires : y.wires ≡ x.wires
  pub traced : y.traced ≡ x.traced
  pub acted : HasActed checked x.block (samples_read x.wires reads old) x.frame x.ports y.frame
      y.ports
  pub moved : AreMoved x.wires reads writes y.ports old new
  pub made : AreMadeFor checked x.block y.frame y.ports
  pub zeros : AreZerosBehind x.wires reads y.ports
  pub formats : HoldFormats y.ports

-- what a sampler and a sink need; the inputs are the values of the samplers
pub record CanSample (inputs : List Raw) (rings : List RingOf) (s : SamplerOf) : Type 0 where
  pub given : s.place < length inputs
  pub can : CanPutOne s.edges rings

pub record CanSink (rings : List RingOf) (edge : ℕ) : Type 0 where
  pub edge_is : edge < length rings
  pub present : 0 < length (ring_at rings edge).samples

abbrev pub CanRun : Checked → (inputs : List Raw) → (reads writes : List ℕ) → List RingOf → Runner
    → Type 0
CanRun checked inputs reads writes rings (runner.Module x) =
    CanFireModule checked reads writes rings x
CanRun checked inputs reads writes rings (runner.Sampler s) = CanSample inputs rings s
CanRun checked inputs reads writes rings (runner.Sink k) = CanSink rings k.edge
CanRun checked inputs reads writes rings runner.Outside = Unit {0}

-- what a firing does
pub record HasRunModule (checked : Checked) (reads writes : List ℕ) (old new : List RingOf)
    (x : ModuleOf) (after : Runner) : Type 0 where
  pub next : ModuleOf
  pub after_is : after ≡ runner.Module next
  pub fired : HasFired checked reads writes old new x next

pub record HasSampled (inputs : List Raw) (old new : List RingOf) (s : SamplerOf)
    (after : Runner) : Type 0 where
  pub after_is : after ≡ runner.Sampler s
  pub put : (v : Raw) → slice_get inputs s.place ≡ Some v → HavePut v s.edges old new

abbrev pub HasRun : Checked → (inputs : List Raw) → (reads writes : List ℕ)
    → (old new : List RingOf) → (before after : Runner) → Type 0
HasRun checked inputs reads writes old new (runner.Module x) after =
    HasRunModule checked reads writes old new x after
HasRun checked inputs reads writes old new (runner.Sampler s) after =
    HasSampled inputs old new s after
HasRun checked inputs reads writes old new (runner.Sink k) after =
    (after ≡ runner.Sink k) × HasTaken k.edge old new
HasRun checked inputs reads writes old new runner.Outside after =
    (after ≡ runner.Outside) × (new ≡ old)

-- its ports whose signals are traced are its own, and the outputs have room for what it gives
pub record CanGive (r : Runner) (outputs : OutputsOf) : Type 0 where
  pub ports : (x : ModuleOf) (j : ℕ) (t : TracedPort) → r ≡ runner.Module x
      → slice_get x.traced j ≡ Some t → IsInSpans x.ports.spans t
  pub sent : length outputs.sent + sent_size (Some r) ≤ outputs.sent_room
  pub traced : length outputs.traced + traced_size (Some r) ≤ outputs.traced_room

-- a sink has sent the first sample of its edge
pub record HasSent (m edge : ℕ) (rings : List RingOf) (old new : OutputsOf) : Type 0 where
  pub value : Raw
  pub value_is : slice_get (ring_at rings edge).samples 0 ≡ Some value
  pub given : new ≡ with_gains old (sent_sample m value ∷ []) []

-- what a firing gave, by what is kept for its actor after it
abbrev pub HasGiven : (m : ℕ) → (rings : List RingOf) → (after : Runner) → (old new : OutputsOf)
    → Type 0
HasGiven m rings (runner.Module y) old new =
    new ≡ with_gains old [] (flat_map (traced_port_samples y.ports) y.traced)
HasGiven m rings (runner.Sampler s) old new = new ≡ old
HasGiven m rings (runner.Sink k) old new = HasSent m k.edge rings old new
HasGiven m rings runner.Outside old new = new ≡ old
