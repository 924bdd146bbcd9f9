-- The event part of an instant, as the kernel does it and as the history has it.
-- Source: IEEE 1666-2011, 4.2.1.2 to 4.2.1.5.
use Rattle.std.specs.Prelude.{◌≡◌, ◌<◌, ℕ, ◌||◌, true, not, nat_eq, if◌then◌else◌, List, length, Option, Some}
use Rattle.tdf_convert.specs.declared.writes.SignalWrite.{SignalWrite}
use Rattle.tdf_events.specs.Delta.{AreWritesOf, IsNoneBefore, event_part, is_idle}
use Rattle.tdf_events.specs.Kernel.{IsKernelOf, KernelOf, side_of}
use Rattle.tdf_events.specs.Runnable.{IsRunnable, signal_formats}
use Rattle.tdf_events.specs.Side.{SideOf}
use Rattle.tdf_bind.specs.declared.model.Flat.{Flat}
use Rattle.tdf_lang_tree.specs.Pure.{PureTree}
use Rattle.tdf_sim_history.specs.Rules.{is_side_due}

-- the event part, if a sink wrote or something is due on the event side
abbrev pub event_turn : PureTree → Flat → (time : ℕ) → List SignalWrite → SideOf → (left : ℕ)
    → Option (SideOf × ℕ)
event_turn model flat time writes side left =
    if not (nat_eq (length writes) 0) || is_side_due side time
    then event_part model flat time writes side left else Some (side, left)

-- the kernel is before an instant: nothing is pending before its time, and processes are to run
-- only at the start
pub record IsBefore (time : ℕ) (side : SideOf) : Type 0 where
  pub none : IsNoneBefore time side.notices.times
  pub idle : 0 < time → is_idle side ≡ true

-- so it can do its part
pub record CanSettle (flat : Flat) (time : ℕ) (k : KernelOf) (writes : List SignalWrite)
    : Type 0 where
  pub runnable : IsRunnable flat
  pub kernel : IsKernelOf flat k
  pub before : IsBefore time (side_of k)
  pub fit : AreWritesOf (signal_formats flat) writes
