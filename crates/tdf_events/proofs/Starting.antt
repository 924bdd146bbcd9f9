-- A kernel before the first instant.
use Rattle.std.proofs.Common.{◌≡◌, ℕ, ◌<◌, Bool, false, List, [], Option, Some, None, length, map, replicate, slice_get, slice_index_or, ap, sym, ◌∙◌, subst, inl, inr, arith}
use Rattle.std.proofs.lemmas.Bool.{cases_lt}
use Rattle.std.proofs.lemmas.List.{ext_get_or, get_or-replicate, get_or_past, length-map, length-replicate}
use Rattle.std.proofs.lemmas.Option.{get_or_from_slice_get, slice_get-map}
use Rattle.std.specs.Option.{option_map}
use Rattle.tdf_events_queue.specs.Lists.{list_at}
use Rattle.tdf_events.proofs.Reading.{has_at}
use Rattle.tdf_events.specs.Kernel.{AreSensitive, IsKernelOf, KernelOf, side_of}
use Rattle.tdf_events.specs.Notices.{NoticesOf}
use Rattle.tdf_events.specs.Processes.{owned_events}
use Rattle.tdf_events.specs.Runnable.{AreOfSignals, IsRunnable, signal_formats}
use Rattle.tdf_events.specs.Side.{SideOf, start_side}
use Rattle.tdf_events.specs.machine.Making.{AreAllPorts, AreFrames}
use Rattle.tdf_expr.specs.Frames.{FrameSeen}
use Rattle.tdf_expr.specs.Made.{start_cells, start_rates}
use Rattle.tdf_expr.specs.declared.checked.Checked.{Checked}
use Rattle.tdf_fixed.specs.declared.raw.Raw.{Raw}
use Rattle.tdf_bind.specs.declared.model.Flat.{Flat}
use Rattle.tdf_expr_state.specs.State.{FrameState}
use Rattle.tdf_bind_connections.specs.ProcessBlocks.{BlockRowOf, ProcessRowOf}
use Rattle.tdf_bind_connections.specs.declared.drivers.SignalRow.{SignalRow}

abbrev pub no_frame : FrameState
no_frame = record { cells = []; rates = [] }

abbrev pub seen : FrameSeen → FrameState
seen f = f.state

abbrev pub first_of : Checked → BlockRowOf → FrameState
first_of checked row = record { cells = start_cells checked row.block; rates = start_rates checked row.block }

frames_are : (checked : Checked) (rows : List BlockRowOf) (frames : List FrameSeen) → AreFrames checked rows (length rows) frames → map seen frames ≡ map (first_of checked) rows
frames_are checked rows frames are = ext_get_or no_frame (map seen frames) (map (first_of checked) rows) (length-map frames seen ∙ are.long ∙ sym (length-map rows (first_of checked)))
    (λ k less. (let inside : k < length frames = omega (arith, less, length-map frames seen) in let f = has_at frames k inside in let row = has_at rows k (omega (arith, inside, are.long)) in
    let made = are.each k row.0 f.0 row.1 f.1 in
    get_or_from_slice_get (map seen frames) k (seen f.0) no_frame (slice_get-map seen frames k ∙ ap (option_map seen) f.1)
    ∙ ap (λ x. record { cells = x; rates = f.0.state.rates }) made.cells ∙ ap (λ x. record { cells = start_cells checked row.0.block; rates = x }) made.values
    ∙ sym (get_or_from_slice_get (map (first_of checked) rows) k (first_of checked row.0) no_frame (slice_get-map (first_of checked) rows k ∙ ap (option_map (first_of checked)) row.1))))

-- what was made for a flat model
pub record IsFresh (flat : Flat) (k : KernelOf) : Type 0 where
  pub values : k.values ≡ map (λ (row : SignalRow). row.start) flat.tables.de_signals
  pub frames : AreFrames flat.checked flat.tables.blocks (length flat.tables.blocks) k.frames
  pub ports : AreAllPorts flat.checked flat.tables.blocks (length flat.tables.blocks) k.ports
  pub notices : k.notices ≡ record { times = replicate (length flat.tables.events) None; delta = replicate (length flat.tables.events) false }
  pub triggered : k.triggered.flags ≡ map (λ (row : ProcessRowOf). row.starts) flat.tables.processes
  pub waiting : k.waiting ≡ replicate (length flat.tables.de_signals) None
  pub signal_lists : length k.by_signal ≡ length flat.tables.de_signals
  pub event_lists : length k.by_event ≡ length flat.tables.events
  pub by_signal : AreSensitive (λ row. row.signals) flat.tables.processes (length flat.tables.processes) k.by_signal
  pub by_event : AreSensitive (λ row. row.events) flat.tables.processes (length flat.tables.processes) k.by_event
  pub own_lists : length k.own_events ≡ length flat.tables.blocks
  pub own : (n : ℕ) → n < length flat.tables.blocks → list_at k.own_events n ≡ owned_events flat n
  pub going : k.spent ≡ false

abbrev pub with : List Raw → List FrameState → NoticesOf → List Bool → List (Option Raw) → SideOf
with values frames notices triggered waiting = record { values = values; frames = frames; notices = notices; triggered = triggered; waiting = waiting }

pub fresh_side : (flat : Flat) (k : KernelOf) → IsFresh flat k → side_of k ≡ start_side flat
fresh_side flat k new = let f = frames_are flat.checked flat.tables.blocks k.frames new.frames in
    ap (λ x. with x (side_of k).frames k.notices k.triggered.flags k.waiting) new.values
    ∙ ap (λ x. with (start_side flat).values x k.notices k.triggered.flags k.waiting) f
    ∙ ap (λ x. with (start_side flat).values (start_side flat).frames x k.triggered.flags k.waiting) new.notices
    ∙ ap (λ x. with (start_side flat).values (start_side flat).frames (start_side flat).notices x k.waiting) new.triggered
    ∙ ap (λ x. with (start_side flat).values (start_side flat).frames (start_side flat).notices (start_side flat).triggered x) new.waiting

abbrev nothing : Option Raw
nothing = None

nothing_there : (m n : ℕ) → slice_index_or (replicate m nothing) n nothing ≡ nothing
nothing_there m n = elim (cases_lt n m) [
  | inl less ↦ get_or-replicate m n nothing nothing less
  | inr past ↦ get_or_past (replicate m nothing) n nothing (let l : length (replicate m nothing) ≡ m = length-replicate {A = Option Raw} m nothing in omega (arith, l, past))
]

some_none : (v : Raw) → Some v ≡ nothing → ⊥
some_none v h = absurd cc

nothing_at : (m n : ℕ) (v : Raw) (waiting : List (Option Raw)) → waiting ≡ replicate m nothing → slice_get waiting n ≡ Some (Some v) → ⊥
nothing_at m n v waiting new at = some_none v (sym (get_or_from_slice_get waiting n (Some v) nothing at) ∙ ap (λ (xs : List (Option Raw)). slice_index_or xs n nothing) new ∙ nothing_there m n)

pub fresh_kernel : (flat : Flat) (k : KernelOf) → IsRunnable flat → IsFresh flat k → IsKernelOf flat k
fresh_kernel flat k can new = record {
  values = subst (λ x. AreOfSignals (signal_formats flat) x) (sym new.values) can.starts;
  frames = new.frames.long;
  ports = new.ports.long;
  made = λ n row f p at fat pat. (let first = new.frames.each n row f at fat in let ports = new.ports.each n row p at pat in
      record { made = can.checked_is; block = (can.instances n row at).block; formats = first.formats; rates = first.rates; ports_are = ports.spans; events = ports.events });
  times = ap (λ (n : NoticesOf). length n.times) new.notices ∙ length-replicate {A = Option ℕ} (length flat.tables.events) None;
  triggered = ap length new.triggered ∙ length-map flat.tables.processes (λ (row : ProcessRowOf). row.starts);
  waiting = ap length new.waiting ∙ length-replicate {A = Option Raw} (length flat.tables.de_signals) None;
  formats = λ n f v is at. absurd (nothing_at (length flat.tables.de_signals) n v k.waiting new.waiting at);
  signal_lists = new.signal_lists;
  event_lists = new.event_lists;
  by_signal = new.by_signal;
  by_event = new.by_event;
  own_lists = new.own_lists;
  own = new.own;
  going = new.going;
}
