-- A process runs in a kernel.
-- Source: own.
use Rattle.std.specs.Prelude.{◌≡◌, ◌<◌, ◌^◌, ℕ, Some, length, slice_get, slice_set}
use Rattle.tdf_events_queue.specs.Lists.{list_at}
use Rattle.tdf_events.specs.Kernel.{KernelOf}
use Rattle.tdf_events.specs.Notices.{noticed_first}
use Rattle.tdf_events.specs.Processes.{written_first}
use Rattle.tdf_events.specs.machine.Reading.{CanRead, HasRun}
use Rattle.tdf_expr.specs.Frames.{ArePortsFit, FrameSeen, PortsSeen}
use Rattle.tdf_expr.specs.Made.{AreMadeFor, event_count, port_spans_of}
use Rattle.tdf_expr.specs.declared.checked.Checked.{Checked}
use Rattle.tdf_bind_connections.specs.ProcessBlocks.{BlockRowOf}

-- what a process of an instance needs
pub record CanRun (checked : Checked) (owner : ℕ) (row : BlockRowOf) (k : KernelOf) : Type 0 where
  pub frame : owner < length k.frames
  pub ports : owner < length k.ports
  pub own : owner < length k.own_events
  pub made : (f : FrameSeen) (p : PortsSeen) → slice_get k.frames owner ≡ Some f
      → slice_get k.ports owner ≡ Some p → AreMadeFor checked row.block f p
  pub read : CanRead k.values (port_spans_of checked row.block) row.signals
  pub waiting : length k.waiting ≡ length k.values
  pub few : length (list_at k.own_events owner) < 2 ^ 32
  pub events : length (list_at k.own_events owner) ≡ event_count checked row.block
  pub inside : (i e : ℕ) → slice_get (list_at k.own_events owner) i ≡ Some e
      → e < length k.notices.times

-- what its body did
pub record HasActed (checked : Checked) (owner number : ℕ) (row : BlockRowOf) (old new : KernelOf)
    : Type 0 where
  pub before : FrameSeen
  pub after : FrameSeen
  pub left : PortsSeen
  pub was : slice_get old.frames owner ≡ Some before
  pub frames : new.frames ≡ slice_set old.frames owner after
  pub ports : new.ports ≡ slice_set old.ports owner left
  pub run : HasRun checked row.block number old.values row.signals before.state after.state
      left.state
  pub made : AreMadeFor checked row.block after left
  pub fit : ArePortsFit left
  pub rest : new ≡ record old { frames = new.frames; ports = new.ports }

-- and what came of it
pub record HasRunIn (checked : Checked) (time owner number : ℕ) (row : BlockRowOf)
    (old new : KernelOf) : Type 0 where
  pub middle : KernelOf
  pub acted : HasActed checked owner number row old middle
  pub rest : new ≡ record middle { notices = new.notices; waiting = new.waiting }
  pub waiting : new.waiting ≡ written_first row.signals acted.left.spans acted.left.state
      (length row.signals) old.waiting
  pub notices : new.notices ≡ noticed_first time (list_at old.own_events owner)
      acted.left.state.notified (length (list_at old.own_events owner)) old.notices
