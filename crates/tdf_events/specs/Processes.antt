-- A process runs: it reads current values, what it writes waits, and it notifies events.
-- Source: IEEE 1666-2011, 4.2.1.2 (evaluation phase) and 6.4 (sc_signal: write).
use Rattle.std.specs.Prelude.{ℕ, zero, suc, ◌+◌, false, if◌then◌else◌, nat_eq, List, [], ◌∷◌, length, replicate, Option, Some, None, ℤ, pos, slice_get, slice_index, slice_index_or, slice_set}
use Rattle.tdf_events.specs.Notices.{noticed_first}
use Rattle.tdf_events.specs.Side.{SideOf, value_at}
use Rattle.tdf_expr.specs.Blocks.{PureBlock, blocks_of, body_of}
use Rattle.tdf_expr.specs.Frames.{is_written}
use Rattle.tdf_expr.specs.Made.{port_spans_of, event_count}
use Rattle.tdf_expr.specs.Runs.{scope_in}
use Rattle.tdf_expr.specs.declared.bodies.Body.TheVariants.{Process}
use Rattle.tdf_expr.specs.declared.spans.PortSpan.{PortSpan}
use Rattle.tdf_fixed.specs.Cast.{fraction_of}
use Rattle.tdf_fixed.specs.declared.raw.Raw.{Raw}
use Rattle.tdf_bind.specs.declared.model.Flat.{Flat}
use Rattle.tdf_expr_semantics.specs.Bodies.{after_body}
use Rattle.tdf_expr_state.specs.State.{FrameState, PortsState, State, cell_at, state_of}
use Rattle.tdf_lang_tree.specs.Pure.{PureTree}
use Rattle.tdf_bind_connections.specs.ProcessBlocks.{BlockRowOf, ProcessRowOf}
use Rattle.tdf_bind_connections.specs.declared.blocks.EventRow.{EventRow}

-- the sample of a port before a process runs: the current value of the signal of one that processes
-- read, 0 for one that they write
abbrev pub sample_before : List Raw → (signal : ℕ) → PortSpan → ℤ
sample_before values signal p = if is_written p.word then pos 0 else (value_at values signal).num

-- those of all ports, each with its signal
unfoldable pub samples_before : List Raw → (signals : List ℕ) → List PortSpan → List ℤ
samples_before values signals [] = []
samples_before values [] (p ∷ ps) = []
samples_before values (s ∷ ss) (p ∷ ps) = sample_before values s p ∷ samples_before values ss ps

-- the ports before a process runs: nothing is written, and nothing is asked for
abbrev pub process_ports_before : List Raw → (signals : List ℕ) → List PortSpan → (events : ℕ)
    → PortsState
process_ports_before values signals spans events = record {
  samples = samples_before values signals spans;
  assigned = replicate (length spans) false;
  notified = replicate events None;
  steps = replicate (1 + length spans) None;
  accepts = None;
  out_of_range = false;
}

-- the state after the body of process `number` of a block
abbrev pub after_process : PureTree → Option PureBlock → (number : ℕ) → State → State
after_process model None number s = s
after_process model (Some block) number s =
    after_body (scope_in model block) (body_of block (Process number)) s

-- what a process leaves of its instance and of the ports
unfoldable pub process_done : PureTree → Flat → ProcessRowOf → BlockRowOf → List Raw → FrameState
    → State
process_done model flat process row values frame = after_process model
    (slice_get (blocks_of model.globals) row.block) process.number
    (state_of frame (process_ports_before values row.signals (port_spans_of flat.checked row.block)
    (event_count flat.checked row.block)))

-- the value that a port got
abbrev pub value_of_port : PortsState → PortSpan → Raw
value_of_port ports p =
    record { num = cell_at ports.samples p.first; frac = fraction_of p.format }

-- a port that was assigned gives its value to its signal
abbrev pub written : (signal : ℕ) → PortsState → (port : ℕ) → Option PortSpan → List (Option Raw)
    → List (Option Raw)
written signal ports port None waiting = waiting
written signal ports port (Some p) waiting = if slice_index_or ports.assigned port false
    then slice_set waiting signal (Some (value_of_port ports p)) else waiting

-- the first so many ports
unfoldable pub written_first : (signals : List ℕ) → List PortSpan → PortsState → ℕ
    → List (Option Raw) → List (Option Raw)
written_first signals spans ports zero waiting = waiting
written_first signals spans ports (suc n) waiting = written (slice_index signals n) ports n
    (slice_get spans n) (written_first signals spans ports n waiting)

-- the numbers of the events of an instance, where these rows are numbered from `first`
unfoldable pub owned_from : (owner first : ℕ) → List EventRow → List ℕ
owned_from owner first [] = []
owned_from owner first (row ∷ rows) =
    if nat_eq row.owner owner then first ∷ owned_from owner (first + 1) rows
    else owned_from owner (first + 1) rows

abbrev pub owned_events : Flat → (owner : ℕ) → List ℕ
owned_events flat owner = owned_from owner 0 flat.tables.events

-- what an instance holds
abbrev pub frame_at : List FrameState → ℕ → FrameState
frame_at frames owner = slice_index_or frames owner (record { cells = []; rates = [] })

-- the event side after a process whose body left this
abbrev pub side_after : Flat → (time : ℕ) → ProcessRowOf → BlockRowOf → State → SideOf → SideOf
side_after flat time process row done s = record {
  values = s.values;
  frames = slice_set s.frames process.owner done.frame;
  notices = noticed_first time (owned_events flat process.owner) done.ports.notified
      (length (owned_events flat process.owner)) s.notices;
  triggered = s.triggered;
  waiting = written_first row.signals (port_spans_of flat.checked row.block) done.ports
      (length row.signals) s.waiting;
}

abbrev pub run_of : PureTree → Flat → (time : ℕ) → Option ProcessRowOf → Option BlockRowOf
    → SideOf → SideOf
run_of model flat time (Some process) (Some row) s = side_after flat time process row
    (process_done model flat process row s.values (frame_at s.frames process.owner)) s
run_of model flat time _ _ s = s

abbrev pub owner_of : Option ProcessRowOf → ℕ
owner_of None = 0
owner_of (Some process) = process.owner

-- process n of a model runs at a time
unfoldable pub ran : PureTree → Flat → (time n : ℕ) → SideOf → SideOf
ran model flat time n s = run_of model flat time (slice_get flat.tables.processes n)
    (slice_get flat.tables.blocks (owner_of (slice_get flat.tables.processes n))) s
