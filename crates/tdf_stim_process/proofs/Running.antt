-- The driver's process runs: it drives.
use Rattle.std.proofs.Common.{◌≡◌, ◌∙◌, ℕ, zero, suc, ◌+◌, ◌-◌, ◌*◌, ◌<◌, ◌≤◌, Bool, true, false, if◌then◌else◌, List, [], ◌∷◌, replicate, length, Option, Some, None, slice_get, slice_index, slice_index_or, slice_set, refl, sym, ap, subst, inl, inr, arith, ℤ, pos}
use Rattle.std.proofs.lemmas.Bool.Decides.{eqb_tells}
use Rattle.std.proofs.lemmas.List.{get_or-set_other, get_or-set_same, length-replicate, length-set}
use Rattle.std.proofs.lemmas.Option.{slice_get-get_or, slice_get_within}
use Rattle.std.proofs.Math.Nat.{mul-le-mul_left}
use Rattle.std.specs.List.{range_with_len}
use Rattle.tdf_bind.specs.declared.model.Flat.{Flat}
use Rattle.tdf_bind_connections.specs.ProcessBlocks.{BlockRowOf, ProcessRowOf}
use Rattle.tdf_events.specs.Notices.{NoticesOf, noticed_first, time_after}
use Rattle.tdf_events.specs.Processes.{after_process, frame_at, owned_events, owner_of, process_done, process_ports_before, ran, run_of, samples_before, side_after, value_of_port, written_first}
use Rattle.tdf_events.specs.Side.{SideOf}
use Rattle.tdf_events_queue.specs.Sets.{is_on}
use Rattle.tdf_events_queue.specs.Times.{pending_time}
use Rattle.tdf_expr.specs.Blocks.{Events, PureBlock, blocks_of}
use Rattle.tdf_expr.specs.Made.{event_count, port_spans_of, start_cells}
use Rattle.tdf_expr.specs.Runs.{scope_in}
use Rattle.tdf_expr.specs.declared.spans.PortSpan.{PortSpan}
use Rattle.tdf_expr_semantics.specs.Bodies.{after_body}
use Rattle.tdf_expr_semantics.specs.Value.{cast_number, literal_in, of_shape}
use Rattle.tdf_expr_state.specs.State.{FrameState, State, cell_at, least_time, standing, state_of}
use Rattle.tdf_expr_symbols.specs.Width.{fraction_bits}
use Rattle.tdf_fixed.specs.Cast.{fraction_of}
use Rattle.tdf_fixed.specs.declared.raw.Raw.{Raw}
use Rattle.tdf_lang_tree.specs.Pure.{PureStmts, PureTree}
use Rattle.tdf_lang_tree.specs.declared.shapes.Shape.{Shape}
use Rattle.tdf_stim.specs.Driver.{driver_body}
use Rattle.tdf_stim.specs.Signals.{Column}
use Rattle.tdf_stim_body.proofs.Api.{body_drives, has_item, lines_change_nothing}
use Rattle.tdf_stim_body.specs.Runs.{HasCounted, RanOnce, count_cell}
use Rattle.tdf_stim_history.specs.Driver.{CanDrive, DriverOf, Drove, pending_after, waiting_at}
use Rattle.tdf_stim_process.proofs.Casting.{literal_again}
use Rattle.tdf_stim_process.proofs.Marks.{first_long, first_own}
use Rattle.tdf_stim_process.proofs.Notices.{Asks, each_asked, none_asked, notices_long, same_delta}
use Rattle.tdf_stim_process.proofs.Owned.{among_at, in_range_among, range_among, range_at, range_long}
use Rattle.tdf_stim_process.specs.Placed.{IsColumnSpan, IsDriverIn, placed_driver, is_one_of, row_literal, row_value, signal_value}

samples_long : (values : List Raw) (signals : List ℕ) (spans : List PortSpan) → length signals ≡ length spans → length (samples_before values signals spans) ≡ length spans
unfolding samples_before
samples_long values signals [] same = refl
samples_long values [] (p ∷ ps) same = absurd (omega (arith, same))
samples_long values (s ∷ ss) (p ∷ ps) same = ap suc (samples_long values ss ps (omega (arith, same)))

-- setting a cell twice is setting it once
set_twice : {A : Type 0} (xs : List A) (i : ℕ) (x y : A) → slice_set (slice_set xs i x) i y ≡ slice_set xs i y
set_twice [] i x y = refl
set_twice (z ∷ zs) zero x y = refl
set_twice (z ∷ zs) (suc i) x y = ap (λ l. z ∷ l) (set_twice zs i x y)

pub set_itself : {A : Type 0} (xs : List A) (i : ℕ) (x d : A) → slice_index_or xs i d ≡ x → i < length xs → slice_set xs i x ≡ xs
set_itself [] i x d is less = refl
set_itself (z ∷ zs) zero x d is less = ap (λ y. y ∷ zs) (sym is)
set_itself (z ∷ zs) (suc i) x d is less = ap (λ l. z ∷ l) (set_itself zs i x d is (omega (arith, less)))

-- the value of a signal by row is that of the column of its port
pub signal_value_is : (signals : List ℕ) (columns : List Column) (row j x : ℕ) (c : Column) → slice_get signals j ≡ Some x → slice_get columns j ≡ Some c
    → ((i k y : ℕ) → slice_get signals i ≡ Some y → slice_get signals k ≡ Some y → i ≡ k) → signal_value signals columns row x ≡ row_value c row
unfolding signal_value
signal_value_is [] columns row j x c at column apart = absurd (cc)
signal_value_is (s ∷ ss) [] row j x c at column apart = absurd (cc)
signal_value_is (s ∷ ss) (k ∷ ks) row zero x c at column apart =
    let same : s ≡ x = cc in
    let column_is : k ≡ c = cc in
    elim (eqb_tells x s) [
      | inl y ↦ ap (λ (b : Bool). if b then row_value k row else signal_value ss ks row x) y.0 ∙ ap (λ (z : Column). row_value z row) column_is
      | inr n ↦ absurd (n.1 (sym same))
    ]
signal_value_is (s ∷ ss) (k ∷ ks) row (suc j) x c at column apart = elim (eqb_tells x s) [
  | inl y ↦ (let clash : 0 ≡ suc j = apart 0 (suc j) x (ap Some (sym y.1)) at in absurd (omega (arith, clash)))
  | inr n ↦ ap (λ (b : Bool). if b then row_value k row else signal_value ss ks row x) n.0
      ∙ signal_value_is ss ks row j x c at column (λ i h y one other. (let e : suc i ≡ suc h = apart (suc i) (suc h) y one other in omega (arith, e)))
]

abbrev as_raw : ℤ → ℕ → Raw
as_raw z f = record { num = z; frac = f }

-- the literal of a row in a format
abbrev row_in : Shape → Column → ℕ → Raw
row_in s c row = literal_in (Some s) (row_literal c row)

abbrev pub with_rates : List ℤ → List ℕ → FrameState
with_rates cells rates = record { cells = cells; rates = rates }

abbrev pub no_frame : FrameState
no_frame = record { cells = []; rates = [] }

abbrev no_time : Option ℕ
no_time = None

replicate_none : (n k : ℕ) → standing (slice_get (replicate n no_time) k) ≡ None
replicate_none zero k = refl
replicate_none (suc n) zero = refl
replicate_none (suc n) (suc k) = replicate_none n k

module _ (model : PureTree) (flat : Flat) (columns : List Column) (times : List ℕ) (d : IsDriverIn model flat columns times) where
  abbrev the_driver : DriverOf
  the_driver = placed_driver model flat columns times d

  abbrev rows : ℕ
  rows = length times

  abbrev spans : List PortSpan
  spans = port_spans_of flat.checked d.block.block

  -- the state in which the body begins
  abbrev begin : List Raw → FrameState → State
  begin values frame = state_of frame (process_ports_before values d.block.signals spans (event_count flat.checked d.block.block))

  begin_has : (m : ℕ) (values : List Raw) → HasCounted columns rows m (begin values (the_driver.held m))
  begin_has m values =
      let at = d.instance in
      let inside : count_cell columns rows < length (start_cells flat.checked d.block.block) = (let e = at.cells in omega (arith, e)) in
      record {
        count = get_or-set_same (start_cells flat.checked d.block.block) (count_cell columns rows) (pos m) (pos 0) inside;
        cells = length-set (start_cells flat.checked d.block.block) (count_cell columns rows) (pos m) ∙ at.cells;
        samples = samples_long values d.block.signals spans (at.ports ∙ sym at.spans) ∙ at.spans;
        assigned = length-replicate (length spans) false ∙ at.spans;
        notified = length-replicate (event_count flat.checked d.block.block) no_time ∙ d.run.count;
      }

  -- the body of its process is that of a driver
  done_is : (values : List Raw) (frame : FrameState)
      → process_done model flat d.row d.block values frame ≡ after_body (scope_in model (Events d.instance.de)) (driver_body (length columns) times) (begin values frame)
  unfolding process_done
  done_is values frame =
      ap (λ (n : ℕ). after_process model (slice_get (blocks_of model.globals) d.block.block) n (begin values frame)) d.run.number
      ∙ ap (λ (o : Option PureBlock). after_process model o 0 (begin values frame)) d.instance.text
      ∙ ap (λ (body : PureStmts). after_body (scope_in model (Events d.instance.de)) body (begin values frame)) d.instance.body
      ∙ lines_change_nothing (scope_in model (Events d.instance.de)) [] [] d.instance.line (driver_body (length columns) times) (begin values frame)

  pub ran_once : (m : ℕ) (values : List Raw) (frame : FrameState) → m < rows → frame ≡ the_driver.held m
      → RanOnce columns times m (begin values (the_driver.held m)) (process_done model flat d.row d.block values frame)
  ran_once m values frame less held =
      let body : RanOnce columns times m (begin values (the_driver.held m)) (after_body (scope_in model (Events d.instance.de)) (driver_body (length columns) times) (begin values (the_driver.held m))) =
      body_drives (scope_in model (Events d.instance.de)) columns times m (begin values (the_driver.held m)) d.instance.names d.few less (begin_has m values) in
      let same : process_done model flat d.row d.block values frame ≡ after_body (scope_in model (Events d.instance.de)) (driver_body (length columns) times) (begin values (the_driver.held m)) =
      ap (λ (f : FrameState). process_done model flat d.row d.block values f) held ∙ done_is values (the_driver.held m) in
      subst (λ (t : State). RanOnce columns times m (begin values (the_driver.held m)) t) (sym same) body

  -- an element of an array isn't the count
  before_count : (j m : ℕ) → j < length columns → m < rows → rows * j + m < count_cell columns rows
  before_count j m less inside =
      let more : rows * (j + 1) ≤ rows * length columns = mul-le-mul_left rows (omega (arith, less)) in
      let e : rows * (j + 1) ≡ rows * j + rows = omega arith in
      omega (arith, more, e, inside)

  module _ (m : ℕ) (less : m < rows) (values : List Raw) (done : State) (once : RanOnce columns times m (begin values (the_driver.held m)) done) where
    -- the value that port j gets
    port_value : (j : ℕ) (c : Column) → slice_get columns j ≡ Some c → (p : IsColumnSpan spans j c) → value_of_port done.ports p.span ≡ row_value c m
    port_value j c at p =
        let inside : j < length columns = slice_get_within columns j c at in
        let cell : cell_at (the_driver.held m).cells (rows * j + m) ≡ (row_value c m).num =
        get_or-set_other (start_cells flat.checked d.block.block) (count_cell columns rows) (rows * j + m) (pos m) (pos 0) (λ same. (let low = before_count j m inside less in omega (arith, low, same)))
        ∙ d.instance.cell j m c at less in
        let num : cell_at done.ports.samples p.span.first ≡ (row_value c m).num =
        ap (cell_at done.ports.samples) p.first ∙ once.samples j c at
        ∙ ap (λ (z : ℤ). cast_number c.shape (of_shape (Some c.shape) z)) cell
        ∙ subst (λ (s : Shape). cast_number s (of_shape (Some s) (row_in s c m).num) ≡ (row_in s c m).num) p.shape (literal_again p.span.format (row_literal c m)) in
        let frac : fraction_of p.span.format ≡ fraction_bits c.shape = ap fraction_bits p.shape in
        ap (λ (z : ℤ). as_raw z (fraction_of p.span.format)) num ∙ ap (λ f. as_raw (row_value c m).num f) frac

    held_next : done.frame ≡ the_driver.held (m + 1)
    held_next = ap (λ (cells : List ℤ). with_rates cells done.frame.rates) (once.cells ∙ set_twice (start_cells flat.checked d.block.block) (count_cell columns rows) (pos m) (pos (m + 1)))
        ∙ ap (λ (rates : List ℕ). with_rates (the_driver.held (m + 1)).cells rates) once.rates

    -- the driver's events stand in a row of numbers
    abbrev numbers : List ℕ
    numbers = range_with_len d.first (rows - 1)

    events_are : owned_events flat d.row.owner ≡ numbers
    events_are = ap (owned_events flat) d.run.owner_is ∙ d.run.owned

    abbrev notices : ℕ → NoticesOf → NoticesOf
    notices time n = noticed_first time numbers done.ports.notified (rows - 1) n

    notices_are : (time : ℕ) (n : NoticesOf) → noticed_first time (owned_events flat d.row.owner) done.ports.notified (length (owned_events flat d.row.owner)) n ≡ notices time n
    notices_are time n = ap (λ (es : List ℕ). noticed_first time es done.ports.notified (length es) n) events_are ∙ ap (λ k. noticed_first time numbers done.ports.notified k n) (range_long d.first (rows - 1))

    -- a later run asks for none
    notices_later : (time : ℕ) (n : NoticesOf) → 0 < m → notices time n ≡ n
    notices_later time n some = none_asked time numbers done.ports.notified (rows - 1) n (λ k. ap (λ (l : List (Option ℕ)). standing (slice_get l k)) (once.later some) ∙ replicate_none (event_count flat.checked d.block.block) k)

    -- the first asks for each
    asks_first : (s : SideOf) → m ≡ 0 → CanDrive the_driver m s → Asks d.first (rows - 1) numbers done.ports.notified (λ k. slice_index times (k + 1)) s.notices
    asks_first s at_first can = record {
      event = λ k below. range_at d.first (rows - 1) k below;
      wanted = λ k below. once.first at_first k (omega (arith, below)) ∙ ap (λ (o : Option ℕ). Some (least_time o (slice_index times (k + 1)))) (replicate_none (event_count flat.checked d.block.block) k);
      some = λ k below. (let r = d.rising.rising 0 (k + 1) (omega arith) (omega (arith, below)) in let z = d.rising.start in omega (arith, r, z));
      inside = λ k below. can.events (d.first + k) (owned k below);
      off = λ k below. can.delta (d.first + k) (owned k below);
      none = λ k below. can.first at_first (d.first + k) (owned k below);
    }
      where
        owned : (k : ℕ) → k < rows - 1 → is_one_of d.row.events (d.first + k) ≡ true
        owned k below = ap (λ (es : List ℕ). is_one_of es (d.first + k)) d.run.events ∙ in_range_among d.first (rows - 1) k below

    -- the place of an event of the driver among its own
    place_of : (e : ℕ) → is_one_of d.row.events e ≡ true → (k : ℕ) × (k < rows - 1) × (e ≡ d.first + k)
    place_of e mine =
        let within = range_among d.first (rows - 1) e (subst (λ (es : List ℕ). is_one_of es e ≡ true) d.run.events mine) in
        let low = within.0 in
        let high = within.1 in
        let less_than : e - d.first < rows - 1 = omega (arith, low, high) in
        let is : e ≡ d.first + (e - d.first) = omega (arith, low) in
        (e - d.first, less_than, is)

    times_first : (s : SideOf) → m ≡ 0 → CanDrive the_driver m s → (e : ℕ) → is_one_of d.row.events e ≡ true → pending_time (notices 0 s.notices).times e ≡ Some (the_driver.due e)
    times_first s at_first can e mine =
        let at = place_of e mine in
        let below : at.0 < rows - 1 = at.1 in
        let is : e ≡ d.first + at.0 = at.2 in
        let small = d.rising.small (at.0 + 1) (omega (arith, below)) in
        let after : time_after 0 (slice_index times (at.0 + 1)) ≡ slice_index times (at.0 + 1) = omega (arith, small) in
        let place : at.0 + 1 ≡ e - d.first + 1 = omega (arith, is) in
        ap (pending_time (notices 0 s.notices).times) is
        ∙ each_asked 0 d.first (rows - 1) numbers done.ports.notified (λ k. slice_index times (k + 1)) s.notices (asks_first s at_first can) at.0 below
        ∙ ap Some after ∙ ap (λ k. Some (slice_index times k)) place

    notice_delta : (time : ℕ) (s : SideOf) → CanDrive the_driver m s → (e : ℕ) → is_on (notices time s.notices).delta e ≡ is_on s.notices.delta e
    notice_delta time s can e = elim (eqb_tells m 0) [
      | inl y ↦ same_delta time d.first (rows - 1) numbers done.ports.notified (λ k. slice_index times (k + 1)) s.notices (asks_first s y.1 can) e
      | inr n ↦ ap (λ (x : NoticesOf). is_on x.delta e) (notices_later time s.notices (let apart = n.1 in omega (arith, apart)))
    ]

    -- the value that waits for a signal
    waits : (s : SideOf) → CanDrive the_driver m s → (x : ℕ) → is_one_of d.block.signals x ≡ true
        → waiting_at (written_first d.block.signals spans done.ports (length d.block.signals) s.waiting) x ≡ Some (signal_value d.block.signals columns m x)
    waits s can x mine =
        let found = among_at d.block.signals x mine in
        let j : ℕ = found.0 in
        let below : j < length d.block.signals = found.1 in
        let ports = d.instance.ports in
        let c = has_item columns j (omega (arith, below, ports)) in
        let p : IsColumnSpan spans j c.0 = d.instance.span j c.0 c.1 in
        ap (waiting_at (written_first d.block.signals spans done.ports (length d.block.signals) s.waiting)) (sym found.2)
        ∙ first_own d.block.signals spans done.ports j (length d.block.signals) p.span s.waiting below p.at (once.assigned j c.0 c.1)
        (subst (λ y. y < length s.waiting) (sym found.2) (can.signals x mine))
        (λ k under other same. other (d.instance.apart j k x found.3 (slice_get-get_or d.block.signals k 0 under ∙ ap Some (same ∙ found.2))))
        ∙ ap Some (port_value j c.0 c.1 p ∙ sym (signal_value_is d.block.signals columns m j x c.0 found.3 c.1 (λ i k y one other. d.instance.apart i k y one other)))

  -- what it leaves of a side
  side_drives : (time m : ℕ) (s : SideOf) (done : State) → m < rows → (m ≡ 0 → time ≡ 0) → CanDrive the_driver m s → RanOnce columns times m (begin s.values (the_driver.held m)) done
      → Drove the_driver m s (side_after flat time d.row d.block done s)
  side_drives time m s done less start can once = record {
    held = ap (λ o. frame_at (slice_set s.frames o done.frame) d.owner) d.run.owner_is ∙ get_or-set_same s.frames d.owner done.frame no_frame can.frame ∙ held_next m less s.values done once;
    frames = length-set s.frames d.row.owner done.frame;
    times = λ e mine. ap (λ (x : NoticesOf). pending_time x.times e) (notices_are m less s.values done once time s.notices) ∙ times_by m refl e mine;
    events = notices_long time (owned_events flat d.row.owner) done.ports.notified (length (owned_events flat d.row.owner)) s.notices;
    delta = λ e mine. ap (λ (x : NoticesOf). is_on x.delta e) (notices_are m less s.values done once time s.notices) ∙ notice_delta m less s.values done once time s can e;
    waiting = λ x mine. waits m less s.values done once s can x mine;
    values = refl;
    many = first_long d.block.signals spans done.ports (length d.block.signals) s.waiting;
    triggered = refl;
  }
    where
      times_by : (k : ℕ) → m ≡ k → (e : ℕ) → is_one_of d.row.events e ≡ true → pending_time (notices m less s.values done once time s.notices).times e ≡ pending_after the_driver k e (pending_time s.notices.times e)
      times_by zero is e mine = ap (λ t. pending_time (notices m less s.values done once t s.notices).times e) (start is) ∙ times_first m less s.values done once s is can e mine
      times_by (suc k) is e mine = ap (λ (x : NoticesOf). pending_time x.times e) (notices_later m less s.values done once time s.notices (omega (arith, is)))

  pub own_drives : (time m : ℕ) (s : SideOf) → m < rows → (m ≡ 0 → time ≡ 0) → CanDrive the_driver m s → Drove the_driver m s (ran model flat time d.process s)
  unfolding ran
  own_drives time m s less start can =
      let block_at : slice_get flat.tables.blocks (owner_of (slice_get flat.tables.processes d.process)) ≡ Some d.block =
      ap (λ (o : Option ProcessRowOf). slice_get flat.tables.blocks (owner_of o)) d.run.at ∙ ap (slice_get flat.tables.blocks) d.run.owner_is ∙ d.instance.at in
      let is : run_of model flat time (slice_get flat.tables.processes d.process) (slice_get flat.tables.blocks (owner_of (slice_get flat.tables.processes d.process))) s
      ≡ side_after flat time d.row d.block (process_done model flat d.row d.block s.values (frame_at s.frames d.row.owner)) s =
      ap (λ (b : Option BlockRowOf). run_of model flat time (slice_get flat.tables.processes d.process) b s) block_at ∙ ap (λ (o : Option ProcessRowOf). run_of model flat time o (Some d.block) s) d.run.at in
      let frame : frame_at s.frames d.row.owner ≡ the_driver.held m = ap (frame_at s.frames) d.run.owner_is ∙ can.held in
      let once : RanOnce columns times m (begin s.values (the_driver.held m)) (process_done model flat d.row d.block s.values (frame_at s.frames d.row.owner)) = ran_once m s.values (frame_at s.frames d.row.owner) less frame in
      subst (λ (x : SideOf). Drove the_driver m s x) (sym is) (side_drives time m s (process_done model flat d.row d.block s.values (frame_at s.frames d.row.owner)) less start can once)
