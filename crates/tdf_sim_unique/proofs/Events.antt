-- The event side does the same by compiled bodies of one text.
use Rattle.std.proofs.Common.{◌≡◌, ◌∙◌, ℕ, zero, suc, ◌+◌, ◌-◌, ◌&&◌, List, Option, Some, None, if◌then◌else◌, length, map, nat_eq, nat_lt, slice_get, refl, ap}
use Rattle.std.specs.Prelude.{option_map}
use Rattle.tdf_sim_unique.proofs.Bodies.{with_bodies}
use Rattle.tdf_sim_unique.proofs.Checks.{AreSame}
use Rattle.tdf_events_queue.specs.Evaluation.{evaluated}
use Rattle.tdf_convert.specs.declared.writes.SignalWrite.{SignalWrite}
use Rattle.tdf_events.specs.Delta.{after_update, begun, event_part, is_idle, settled_by, delta_stepped, turns_of}
use Rattle.tdf_events.specs.Processes.{after_process, frame_at, owner_of, process_ports_before, process_done, ran, run_of, side_after, written_first}
use Rattle.tdf_events.specs.Side.{SideOf, start_side}
use Rattle.tdf_expr.specs.Blocks.{blocks_of}
use Rattle.tdf_expr.specs.declared.checked.Checked.{Checked}
use Rattle.tdf_fixed.specs.declared.raw.Raw.{Raw}
use Rattle.tdf_bind.specs.declared.model.Flat.{Flat}
use Rattle.tdf_sim_history.specs.World.{SinkWrite}
use Rattle.tdf_expr_state.specs.State.{FrameState, State, state_of}
use Rattle.tdf_lang_tree.specs.Pure.{PureTree}
use Rattle.tdf_bind_connections.specs.ProcessBlocks.{BlockRowOf, ProcessRowOf}
use Rattle.tdf_sim_history.specs.Rules.{rules_of, settle, signal_write}

module _ (model : PureTree) (a : Flat) (y : Checked) (same : AreSame a.checked y) where
  process_same : (process : ProcessRowOf) (row : BlockRowOf) (values : List Raw) (frame : FrameState) → process_done model a process row values frame ≡ process_done model (with_bodies a y) process row values frame
  unfolding process_done
  process_same process row values frame = λ i. after_process model (slice_get (blocks_of model.globals) row.block) process.number
      (state_of frame (process_ports_before values row.signals (same.spans row.block i) (same.events row.block i)))

  side_same : (time : ℕ) (process : ProcessRowOf) (row : BlockRowOf) (done : State) (s : SideOf) → side_after a time process row done s ≡ side_after (with_bodies a y) time process row done s
  side_same time process row done s = λ i. record (side_after a time process row done s) {
    waiting = written_first row.signals (same.spans row.block i) done.ports (length row.signals) s.waiting;
  }

  run_same : (time : ℕ) (process : Option ProcessRowOf) (row : Option BlockRowOf) (s : SideOf) → run_of model a time process row s ≡ run_of model (with_bodies a y) time process row s
  run_same time (Some process) (Some row) s =
      ap (λ (done : State). side_after a time process row done s) (process_same process row s.values (frame_at s.frames process.owner))
      ∙ side_same time process row (process_done model (with_bodies a y) process row s.values (frame_at s.frames process.owner)) s
  run_same time _ _ s = refl

  ran_same : (time n : ℕ) (s : SideOf) → ran model a time n s ≡ ran model (with_bodies a y) time n s
  unfolding ran
  ran_same time n s = run_same time (slice_get a.tables.processes n) (slice_get a.tables.blocks (owner_of (slice_get a.tables.processes n))) s

  stepped_same : (time : ℕ) (s : SideOf) → delta_stepped model a time s ≡ delta_stepped model (with_bodies a y) time s
  unfolding delta_stepped
  stepped_same time s = λ i. after_update a (evaluated (λ n x. ran_same time n x i) s.triggered (length s.triggered) s)

  settled_same : (fuel time : ℕ) (s : SideOf) (left : ℕ) → settled_by fuel model a time s left ≡ settled_by fuel model (with_bodies a y) time s left
  unfolding settled_by
  settled_same zero time s left = refl
  settled_same (suc fuel) time s left = λ i. if nat_lt left (turns_of s) then None
      else if is_idle (stepped_same time s i)
      then Some (stepped_same time s i, left - turns_of s)
      else settled_same fuel time (stepped_same time s i) (left - turns_of s) i

  event_part_same : (time : ℕ) (writes : List SignalWrite) (s : SideOf) (left : ℕ) → event_part model a time writes s left ≡ event_part model (with_bodies a y) time writes s left
  event_part_same time writes s left = λ i. if nat_eq (length writes) 0 && is_idle (begun a time writes s)
      then Some (begun a time writes s, left)
      else settled_same (left + 1) time (begun a time writes s) left i

  settle_same : (time : ℕ) (writes : List SinkWrite) (left : ℕ) (side : SideOf) → settle model a time writes left side ≡ settle model (with_bodies a y) time writes left side
  settle_same time writes left side = ap (option_map (λ (after : SideOf × ℕ). record { events = after.0; left = after.1 })) (event_part_same time (map signal_write writes) side left)

  pub rules_same : rules_of model a ≡ rules_of model (with_bodies a y)
  rules_same = λ i. record (rules_of model a) { event_side = record ((rules_of model a).event_side) { settle = λ time writes left side. settle_same time writes left side i } }

  pub side_starts_same : start_side a ≡ start_side (with_bodies a y)
  side_starts_same = λ i. record (start_side a) { frames = map (λ row. record { cells = same.cells row.block i; rates = same.rates row.block i }) a.tables.blocks }
