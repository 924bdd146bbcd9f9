-- The values of event signals have at most 64 bits after an event part, where they and what sinks write do before.
use Rattle.std.proofs.Common.{◌≡◌, ℕ, zero, suc, ◌+◌, ◌-◌, Bool, false, ◌&&◌, if◌then◌else◌, nat_eq, nat_lt, List, [], ◌∷◌, length, pos, Option, Some, None, refl}
use Rattle.std.specs.List.{AllByRecursion}
use Rattle.std.specs.Prelude.{slice_get, slice_index, slice_index_or, slice_set, unwrap_or}
use Rattle.tdf_bind.specs.declared.model.Flat.{Flat}
use Rattle.tdf_bind_connections.specs.ProcessBlocks.{BlockRowOf, ProcessRowOf}
use Rattle.tdf_convert.specs.declared.writes.SignalWrite.{SignalWrite}
use Rattle.tdf_events.specs.Delta.{after_evaluation, after_update, begun, delta_stepped, event_part, is_idle, settled, settled_by, turns_of, updated, waiting_with}
use Rattle.tdf_events.specs.Processes.{after_process, frame_at, owner_of, process_done, process_ports_before, ran, run_of, sample_before, samples_before, value_of_port, written, written_first}
use Rattle.tdf_events.specs.Side.{SideOf, value_at}
use Rattle.tdf_events_queue.specs.Evaluation.{evaluated}
use Rattle.tdf_events_queue.specs.Sets.{is_on}
use Rattle.tdf_expr.specs.Blocks.{PureBlock, blocks_of, body_of}
use Rattle.tdf_expr.specs.Checked.{IsCheckedOf}
use Rattle.tdf_expr.specs.Frames.{is_written}
use Rattle.tdf_expr.specs.Made.{event_count, port_spans_of}
use Rattle.tdf_expr.specs.Runs.{scope_in}
use Rattle.tdf_expr.specs.declared.bodies.Body.TheVariants.{Process}
use Rattle.tdf_expr.specs.declared.spans.PortSpan.{PortSpan}
use Rattle.tdf_expr_state.specs.State.{FrameState, PortsState, State, state_of}
use Rattle.tdf_fixed.specs.declared.raw.Raw.{Raw}
use Rattle.tdf_lang_tree.specs.Pure.{PureTree}
use Rattle.tdf_tables_of_runs.proofs.Outputs.{block_sound}
use Rattle.tdf_tables_of_runs.proofs.Small.{AreSmall, HasSmall, IsSmall, IsSmallRaw, all_made, all_set, either, small_more, small_none, value_small, zero_small}
use Rattle.tdf_tables_of_runs.proofs.Statements.{HasSmallPorts, stmts_small}

abbrev pub IsSmallOption : Option Raw → Type 0
IsSmallOption None = Unit {0}
IsSmallOption (Some value) = IsSmallRaw value

abbrev pub AreSmallOptions : List (Option Raw) → Type 0
AreSmallOptions values = AllByRecursion IsSmallOption values

abbrev pub AreSmallWrites : List SignalWrite → Type 0
AreSmallWrites writes = AllByRecursion (λ (w : SignalWrite). IsSmallRaw w.value) writes

pub record IsSmallSide (s : SideOf) : Type 0 where
  pub values : AreSmall s.values
  pub waiting : AreSmallOptions s.waiting

abbrev pub IsSmallEnd : Option (SideOf × ℕ) → Type 0
IsSmallEnd None = Unit {0}
IsSmallEnd (Some after) = IsSmallSide after.0

-- ---- a process

before_small : (values : List Raw) (signals : List ℕ) (spans : List PortSpan) → AreSmall values → HasSmall (samples_before values signals spans)
unfolding samples_before
before_small values signals [] h = small_none
before_small values [] (p ∷ ps) h = small_none
before_small values (s ∷ ss) (p ∷ ps) h = small_more (sample_before values s p) (samples_before values ss ps) (either IsSmall (is_written p.word) (pos 0) (value_at values s).num zero_small (value_small values s h)) (before_small values ss ps h)

port_written : (signal : ℕ) (ports : PortsState) (port : ℕ) (o : Option PortSpan) (waiting : List (Option Raw)) → HasSmall ports.samples → AreSmallOptions waiting
    → AreSmallOptions (written signal ports port o waiting)
port_written signal ports port None waiting g h = h
port_written signal ports port (Some p) waiting g h = either AreSmallOptions (slice_index_or ports.assigned port false) (slice_set waiting signal (Some (value_of_port ports p))) waiting
    (all_set IsSmallOption waiting signal (Some (value_of_port ports p)) h (g p.first)) h

first_written : (signals : List ℕ) (spans : List PortSpan) (ports : PortsState) (n : ℕ) (waiting : List (Option Raw)) → HasSmall ports.samples → AreSmallOptions waiting
    → AreSmallOptions (written_first signals spans ports n waiting)
unfolding written_first
first_written signals spans ports zero waiting g h = h
first_written signals spans ports (suc n) waiting g h =
    port_written (slice_index signals n) ports n (slice_get spans n) (written_first signals spans ports n waiting) g (first_written signals spans ports n waiting g h)

module _ (model : PureTree) (flat : Flat) (checked : IsCheckedOf model flat.checked) where
  process_small : (n : ℕ) (o : Option PureBlock) (number : ℕ) (s : State) → slice_get (blocks_of model.globals) n ≡ o → HasSmallPorts s → HasSmallPorts (after_process model o number s)
  process_small n None number s at h = h
  process_small n (Some block) number s at h =
      stmts_small (scope_in model block) (block_sound model flat checked n block at) [] [] (body_of block (Process number)) s h

  done_small : (process : ProcessRowOf) (row : BlockRowOf) (values : List Raw) (frame : FrameState) → AreSmall values → HasSmallPorts (process_done model flat process row values frame)
  unfolding process_done
  done_small process row values frame h =
      process_small row.block (slice_get (blocks_of model.globals) row.block) process.number
      (state_of frame (process_ports_before values row.signals (port_spans_of flat.checked row.block) (event_count flat.checked row.block))) refl
      (before_small values row.signals (port_spans_of flat.checked row.block) h)

  run_small : (time : ℕ) (p : Option ProcessRowOf) (b : Option BlockRowOf) (s : SideOf) → IsSmallSide s → IsSmallSide (run_of model flat time p b s)
  run_small time None b s h = h
  run_small time (Some process) None s h = h
  run_small time (Some process) (Some row) s h = record {
    values = h.values;
    waiting = first_written row.signals (port_spans_of flat.checked row.block)
        (process_done model flat process row s.values (frame_at s.frames process.owner)).ports (length row.signals) s.waiting
        (done_small process row s.values (frame_at s.frames process.owner) h.values) h.waiting;
  }

  ran_small : (time n : ℕ) (s : SideOf) → IsSmallSide s → IsSmallSide (ran model flat time n s)
  unfolding ran
  ran_small time n s h = run_small time (slice_get flat.tables.processes n) (slice_get flat.tables.blocks (owner_of (slice_get flat.tables.processes n))) s h

  -- ---- a delta step

  evaluated_small : (time : ℕ) (flags : List Bool) (n : ℕ) (s : SideOf) → IsSmallSide s → IsSmallSide (evaluated (ran model flat time) flags n s)
  unfolding evaluated
  evaluated_small time flags zero s h = h
  evaluated_small time flags (suc n) s h =
      let before = evaluated (ran model flat time) flags n s in
      let small = evaluated_small time flags n s h in
      either IsSmallSide (is_on flags n) (ran model flat time n before) before (ran_small time n before small) small

  unwrapped : (value : Raw) (new : Option Raw) → IsSmallRaw value → IsSmallOption new → IsSmallRaw (unwrap_or new value)
  unwrapped value None g h = g
  unwrapped value (Some new) g h = h

  updated_small : (values : List Raw) (waiting : List (Option Raw)) → AreSmall values → AreSmallOptions waiting → AreSmall (updated values waiting)
  unfolding updated
  updated_small [] waiting g h = tt
  updated_small (value ∷ values) [] g h = g
  updated_small (value ∷ values) (new ∷ waiting) g h = (unwrapped value new g.0 h.0, updated_small values waiting g.1 h.1)

  update_small : (s : SideOf) → IsSmallSide s → IsSmallSide (after_update flat s)
  update_small s h = record {
    values = updated_small s.values s.waiting h.values h.waiting;
    waiting = all_made IsSmallOption (λ (v : Option Raw). None) (λ v. tt) s.waiting;
  }

  stepped_small : (time : ℕ) (s : SideOf) → IsSmallSide s → IsSmallSide (delta_stepped model flat time s)
  unfolding delta_stepped
  stepped_small time s h = update_small (after_evaluation model flat time s) (evaluated_small time s.triggered (length s.triggered) s h)

  -- ---- an event part

  settled_small : (fuel time : ℕ) (s : SideOf) (left : ℕ) → IsSmallSide s → IsSmallEnd (settled_by fuel model flat time s left)
  unfolding settled_by
  settled_small zero time s left h = tt
  settled_small (suc fuel) time s left h =
      let next = delta_stepped model flat time s in
      let small = stepped_small time s h in
      either IsSmallEnd (nat_lt left (turns_of s)) None (if is_idle next then Some (next, left - turns_of s) else settled_by fuel model flat time next (left - turns_of s)) tt
      (either IsSmallEnd (is_idle next) (Some (next, left - turns_of s)) (settled_by fuel model flat time next (left - turns_of s)) small
      (settled_small fuel time next (left - turns_of s) small))

  writes_wait : (writes : List SignalWrite) (waiting : List (Option Raw)) → AreSmallWrites writes → AreSmallOptions waiting → AreSmallOptions (waiting_with writes waiting)
  unfolding waiting_with
  writes_wait [] waiting g h = h
  writes_wait (w ∷ ws) waiting g h = writes_wait ws (slice_set waiting w.signal (Some w.value)) g.1 (all_set IsSmallOption waiting w.signal (Some w.value) h g.0)

  begun_small : (time : ℕ) (writes : List SignalWrite) (s : SideOf) → AreSmallWrites writes → IsSmallSide s → IsSmallSide (begun flat time writes s)
  begun_small time writes s g h = record { values = h.values; waiting = writes_wait writes s.waiting g h.waiting }

  pub event_part_small : (time : ℕ) (writes : List SignalWrite) (s : SideOf) (left : ℕ) → AreSmallWrites writes → IsSmallSide s
      → IsSmallEnd (event_part model flat time writes s left)
  event_part_small time writes s left g h =
      let first = begun flat time writes s in
      let small = begun_small time writes s g h in
      either IsSmallEnd (nat_eq (length writes) 0 && is_idle first) (Some (first, left)) (settled model flat time first left) small
      (settled_small (left + 1) time first left small)
