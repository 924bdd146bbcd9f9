-- The law on driven signals.
use Rattle.std.proofs.Common.{◌≡◌, ◌≢◌, ◌∙◌, ℕ, zero, suc, ◌+◌, ◌-◌, ◌<◌, Bool, true, false, List, [], ◌∷◌, ◌++◌, map, replicate, length, Some, slice_get, slice_index, slice_index_or, refl, sym, ap, subst, arith}
use Rattle.std.proofs.lemmas.List.{length-map, map-append}
use Rattle.std.proofs.lemmas.Option.{get_or_from_slice_get, same_Some, slice_get-get_or, slice_get-map, slice_get_within}
use Rattle.std.specs.List.{enumerate_from, range_with_len}
use Rattle.std.specs.Prelude.{Contains, option_map}
use Rattle.tdf_bind.proofs.Api.{flat_paths_are_unique}
use Rattle.tdf_bind.specs.Flat.{IsFlatOf, top_place, trace_lines}
use Rattle.tdf_bind.specs.Laws.{PassesChecks, signal_paths}
use Rattle.tdf_bind.specs.declared.model.Flat.{Flat}
use Rattle.tdf_bind_attributes.specs.Roles.{processes_role, roles_from, roles_of}
use Rattle.tdf_bind_connections.specs.Drivers.{signal_row, writers_in}
use Rattle.tdf_bind_connections.specs.ProcessBlocks.{BlockRowOf, PlacedBlock, ProcessRowOf, block_row, process_row}
use Rattle.tdf_bind_connections.specs.Roles.{ProcessOf}
use Rattle.tdf_bind_connections.specs.Writers.{gives}
use Rattle.tdf_bind_connections.specs.declared.drivers.SignalRow.{SignalRow}
use Rattle.tdf_bind_connections.specs.declared.writers.Writer.{Writer}
use Rattle.tdf_bind_hierarchy.specs.Met.{met_in}
use Rattle.tdf_bind_hierarchy.specs.Tables.{TablesOf}
use Rattle.tdf_bind_hierarchy.specs.declared.tables.Signal.{Signal}
use Rattle.tdf_bind_hierarchy.specs.declared.tables.SignalNumber.{SignalNumber}
use Rattle.tdf_bind_tables.specs.FlatTables.{FollowsFrom}
use Rattle.tdf_dynamic_first.specs.declared.first.First.{First}
use Rattle.tdf_events.specs.Processes.{process_done}
use Rattle.tdf_events.specs.Side.{SideOf}
use Rattle.tdf_events_invariants.specs.Runnable.{DeclareEventPorts}
use Rattle.tdf_expr_laws.specs.Checked.{CheckedIsOfTree}
use Rattle.tdf_expr_state.specs.State.{FrameState}
use Rattle.tdf_expr_symbols.specs.Names.{globals_of}
use Rattle.tdf_fixed.specs.declared.raw.Raw.{Raw}
use Rattle.tdf_lang_tree.specs.Pure.{PureTree}
use Rattle.tdf_lang_tree.specs.declared.blocks.PortKind.TheVariants.{DeOut}
use Rattle.tdf_sim_history.specs.History.{On, history}
use Rattle.tdf_sim_history.specs.Instant.{signal_of, signal_of_row, signal_of_port}
use Rattle.tdf_sim_history.specs.Rules.{start_world, world_engine}
use Rattle.tdf_sim_history.specs.World.{Change, World}
use Rattle.tdf_stim.specs.Drivable.{IsDrivable}
use Rattle.tdf_stim.specs.Driven.{driven_tree, driver_name, times_of}
use Rattle.tdf_stim.specs.Signals.{Column, driving}
use Rattle.tdf_stim_body.proofs.Api.{has_item}
use Rattle.tdf_stim_binding.proofs.Api.{driven_tree_is, driver_has_role, driver_is_last}
use Rattle.tdf_stim_binding.specs.Laws.{StandsInTree}
use Rattle.tdf_stim_binding.specs.Shape.{IsDrivenTree, IsLastInstance, StandsForPath, driver_de}
use Rattle.tdf_stim_history.specs.Driver.{NoSinkDrives}
use Rattle.tdf_stim_flat.proofs.Api.{all_placed, last_gives_alone, last_is_last}
use Rattle.tdf_stim_flat.specs.Ends.{EndsWithBlock, GivesAlone, GivesAt, GivesEvent, last_placed, placed_before}
use Rattle.tdf_stim_flat.specs.Laws.{StandsLast}
use Rattle.tdf_stim_process.proofs.Api.{among_at, ports_show_columns, text_gives_instance, times_rise}
use Rattle.tdf_stim_process.specs.Laws.{DrivesAlone, ShowsLiteral}
use Rattle.tdf_stim_process.specs.Placed.{IsAlone, IsDriverIn, IsDriverText, is_one_of, placed_driver}
use Rattle.tdf_stim_laws.proofs.Alone.{marked_gives, placed_role}
use Rattle.tdf_stim_laws.proofs.Columns.{cells_long, few_rows}
use Rattle.tdf_stim_laws.proofs.Sinks.{IsSinkPort, sink_port}
use Rattle.tdf_stim_laws.specs.Settled.{DrivesSignals, HasColumnValue}
use Rattle.tdf_tables.specs.Tables.{IsTableForm, TableOf}

-- ---- small facts on lists

replicate_at : {A : Type 0} (n k : ℕ) (x : A) → k < n → slice_get (replicate n x) k ≡ Some x
replicate_at zero k x less = absurd (omega (arith, less))
replicate_at (suc n) zero x less = refl
replicate_at (suc n) (suc k) x less = replicate_at n k x (omega (arith, less))

range_moved : (first a n : ℕ) → map (λ (place : ℕ). first + place) (range_with_len a n) ≡ range_with_len (first + a) n
range_moved first a zero = refl
range_moved first a (suc n) = (let f : first + (a + 1) ≡ first + a + 1 = omega arith in
    ap (λ (l : List ℕ). (first + a) ∷ l) (range_moved first (a + 1) n ∙ ap (λ k. range_with_len k n) f))

behind_at : {A : Type 0} (xs ys : List A) (n : ℕ) → slice_get (xs ++ ys) (length xs + n) ≡ slice_get ys n
behind_at [] ys n = (let f : 0 + n ≡ n = omega arith in ap (slice_get ys) f)
behind_at (x ∷ xs) ys n = (let f : suc (length xs) + n ≡ suc (length xs + n) = omega arith in ap (slice_get (x ∷ (xs ++ ys))) f ∙ behind_at xs ys n)

in_front : {A : Type 0} (xs : List A) (x y : A) (n : ℕ) → slice_get (xs ++ x ∷ []) n ≡ Some y → n ≢ length xs → slice_get xs n ≡ Some y
in_front [] x y zero at apart = absurd (apart refl)
in_front [] x y (suc n) at apart = absurd (cc)
in_front (z ∷ xs) x y zero at apart = at
in_front (z ∷ xs) x y (suc n) at apart = in_front xs x y n at (λ same. apart (ap suc same))

mapped_at : {A B : Type 0} (f : A → B) (xs : List A) (n : ℕ) (y : B) → slice_get (map f xs) n ≡ Some y → (x : A) × (slice_get xs n ≡ Some x) × (f x ≡ y)
mapped_at f [] n y at = absurd (cc)
mapped_at f (x ∷ xs) zero y at = (x, refl, same_Some (f x) y at)
mapped_at f (x ∷ xs) (suc n) y at = mapped_at f xs n y at

-- the path of an event signal in the flat model
row_path : (writers : List Writer) (from : ℕ) (signals : List Signal) (n : ℕ) (signal : Signal) → slice_get signals n ≡ Some signal
    → (row : SignalRow) × (slice_get (map (λ (s : ℕ × Signal). signal_row writers s.0 s.1) (enumerate_from from signals)) n ≡ Some row) × (row.path ≡ signal.path)
row_path writers from [] n signal at = absurd (cc)
row_path writers from (s ∷ ss) zero signal at = (signal_row writers from s, refl, ap (λ (x : Signal). x.path) (same_Some s signal at))
row_path writers from (s ∷ ss) (suc n) signal at = row_path writers (from + 1) ss n signal at

module _ (reads : CheckedIsOfTree) (tree : PureTree) (table : TableOf) (flat : Flat) (c0 : Column) (cs : List Column) (driving_is : driving tree table ≡ c0 ∷ cs) (form : IsTableForm table) (drivable : IsDrivable tree table)
    (passes : PassesChecks (driven_tree tree table)) (events : DeclareEventPorts (driven_tree tree table)) (is_flat : IsFlatOf (driven_tree tree table) flat) where
  abbrev model : PureTree
  model = driven_tree tree table

  abbrev columns : List Column
  columns = c0 ∷ cs

  abbrev times : List ℕ
  times = times_of tree table

  long : (j : ℕ) (c : Column) → slice_get columns j ≡ Some c → length c.cells ≡ length times
  long j c at = cells_long tree table j c (ap (λ (l : List Column). slice_get l j) driving_is ∙ at)

  abbrev dt : IsDrivenTree model columns times (driver_name tree)
  dt = driven_tree_is tree table c0 cs driving_is

  role : StandsInTree model columns times (driver_name tree) dt
  role = driver_has_role model columns times (driver_name tree) dt passes.names long

  abbrev tables : TablesOf
  tables = is_flat.tables.tables

  abbrev follows : FollowsFrom tables (roles_of model) (trace_lines model) flat.tables
  follows = is_flat.tables.follows

  last : IsLastInstance tables columns (length (roles_from (globals_of model.globals) 0 dt.globals))
  last = driver_is_last model columns times (driver_name tree) dt is_flat.blocks tables passes.names long is_flat.linked.resolved is_flat.tables.met

  abbrev process : ProcessOf
  process = record { starts = true; ports = []; events = range_with_len 0 (length times - 1) }

  abbrev ends : EndsWithBlock tables (roles_of model)
  ends = record {
    others = last.others;
    instance = last.instance;
    is = last.is;
    role = processes_role role.number (driver_de dt);
    role_is = ap (slice_get (roles_of model)) last.block ∙ role.role.role;
    process = process;
    one = role.role.process;
  }

  stands : StandsLast tables (roles_of model) flat.tables ends
  stands = last_is_last tables (roles_of model) (trace_lines model) flat.tables ends follows

  alone : GivesAlone tables (roles_of model) flat.tables ends
  alone = last_gives_alone (met_in is_flat.blocks (top_place is_flat.blocks)) tables (roles_of model) (trace_lines model) flat.tables ends is_flat.tables.met follows

  abbrev block : BlockRowOf
  block = block_row (last_placed ends)

  ports_long : length block.signals ≡ length columns
  ports_long = length-map last.instance.signals (λ (s : SignalNumber). s.number) ∙ last.long

  -- the signal that port j reaches
  record PortReaches (j : ℕ) (c : Column) : Type 0 where
    number : SignalNumber
    at : slice_get last.instance.signals j ≡ Some number
    stands_for : StandsForPath tables number c.label

  port_reaches : (j : ℕ) (c : Column) → slice_get columns j ≡ Some c → PortReaches j c
  port_reaches j c at = (let found = last.reaches j c at in record { number = found.0; at = found.1; stands_for = found.2 })

  signal_there : (j : ℕ) (c : Column) (r : PortReaches j c) → slice_get block.signals j ≡ Some r.number.number
  signal_there j c r = slice_get-map (λ (s : SignalNumber). s.number) last.instance.signals j ∙ ap (option_map (λ (s : SignalNumber). s.number)) r.at

  signal_in : (j : ℕ) (c : Column) (r : PortReaches j c) → r.number.number < length tables.event_signals
  signal_in j c r = slice_get_within tables.event_signals r.number.number r.stands_for.signal r.stands_for.at

  -- each port of the last block gives an event signal values
  gives_at : (j signal : ℕ) → slice_get block.signals j ≡ Some signal → GivesEvent tables (roles_of model) ends j signal
  gives_at j signal at =
      let less : j < length columns = (let l = slice_get_within block.signals j signal at in let e = ports_long in omega (arith, l, e)) in
      let c = has_item columns j less in
      let r : PortReaches j c.0 = port_reaches j c.0 c.1 in
      let same : r.number.number ≡ signal = same_Some r.number.number signal (sym (signal_there j c.0 r) ∙ at) in
      record {
        there = subst (λ x. x < length tables.event_signals) same (signal_in j c.0 r);
        gives = record {
          kind = DeOut;
          at = ap (λ l. slice_get l j) role.role.ports ∙ replicate_at (length columns) j DeOut less;
          gives = refl;
          signal_is = ap (λ (s : SignalNumber). s.number) (get_or_from_slice_get last.instance.signals j r.number (record { event = false; number = 0 }) r.at) ∙ same;
        };
      }

  de_long : (writers : List Writer) (from : ℕ) (signals : List Signal) → length (map (λ (s : ℕ × Signal). signal_row writers s.0 s.1) (enumerate_from from signals)) ≡ length signals
  de_long writers from [] = refl
  de_long writers from (s ∷ ss) = ap suc (de_long writers (from + 1) ss)

  text : IsDriverText model flat columns times stands.owner block
  text = record {
    at = stands.is.block;
    name = driver_name tree;
    line = dt.line;
    text = role.role.block;
    names = role.names;
    once = role.once;
    cells = long;
    ports = ports_long;
    apart = λ i j signal one other. alone.apart i j signal (gives_at i signal one) (gives_at j signal other).gives;
    signals = λ j signal at. (let less = (gives_at j signal at).there in
        let e = ap length follows.signals.de_signals in let f = de_long (writers_in (roles_of model) tables flat.tables.ports true) 0 tables.event_signals in omega (arith, less, e, f));
  }

  some_rows : 0 < length times
  some_rows = (times_rise tree table form drivable.on).some

  placed : IsDriverIn model flat columns times
  placed = (
      let both = text_gives_instance reads model flat columns times stands.owner block is_flat.bodies some_rows text in
      let zero_first : stands.first + 0 ≡ stands.first = omega arith in
      record {
        owner = stands.owner;
        process = stands.process;
        first = stands.first;
        block = block;
        row = process_row stands.owner stands.first last.instance.signals 0 process;
        instance = both.0;
        run = record {
          at = stands.is.row;
          owner_is = refl;
          number = refl;
          starts = refl;
          signals = refl;
          events = range_moved stands.first 0 (length times - 1) ∙ ap (λ k. range_with_len k (length times - 1)) zero_first;
          owned = stands.is.owned ∙ ap (range_with_len stands.first) role.role.events;
          count = both.1;
          inside = (let all = stands.is.inside in let e = role.role.events in omega (arith, all, e));
        };
        rising = times_rise tree table form drivable.on;
        few = few_rows tree table drivable.few (let e = ap length driving_is in omega (arith, e));
      })

  -- ---- no other gives its signals values

  abbrev ps : List PlacedBlock
  ps = placed_before (roles_of model) last.others

  all_blocks : flat.tables.blocks ≡ map block_row ps ++ block ∷ []
  all_blocks = follows.blocks.blocks ∙ ap (map block_row) (all_placed tables (roles_of model) (trace_lines model) flat.tables ends follows) ∙ map-append block_row ps (last_placed ends ∷ [])

  owner_is : stands.owner ≡ length (map block_row ps)
  owner_is = stands.is.behind ∙ sym (length-map ps block_row)

  not_driven : (n j : ℕ) (row : ProcessRowOf) (other : BlockRowOf) (values : List Raw) (frame : FrameState) → slice_get flat.tables.processes n ≡ Some row → n ≢ stands.process → slice_get flat.tables.blocks row.owner ≡ Some other
      → slice_index_or (process_done model flat row other values frame).ports.assigned j false ≡ true → is_one_of block.signals (slice_index other.signals j) ≡ true → ⊥
  not_driven n j row other values frame at apart other_at on mine =
      let own : row.owner ≢ length (map block_row ps) = λ same. stands.is.others n row at apart (same ∙ sym owner_is) in
      let there : slice_get (map block_row ps) row.owner ≡ Some other = in_front (map block_row ps) block other row.owner (ap (λ (l : List BlockRowOf). slice_get l row.owner) (sym all_blocks) ∙ other_at) own in
      let found = mapped_at block_row ps row.owner other there in
      let p : PlacedBlock = found.0 in
      let role_at = placed_role model flat passes.names passes.types events last.others row.owner p found.1 in
      let marked : slice_index_or (process_done model flat row (block_row p) values frame).ports.assigned j false ≡ true =
      ap (λ (b : BlockRowOf). slice_index_or (process_done model flat row b values frame).ports.assigned j false) found.2 ∙ on in
      let gives : GivesAt p j (slice_index (block_row p).signals j) = marked_gives model flat passes.names passes.types events p row values frame j role_at marked in
      let among = among_at block.signals (slice_index other.signals j) mine in
      alone.blocks row.owner among.0 j (slice_index other.signals j) p (gives_at among.0 (slice_index other.signals j) among.3) found.1
      (subst (λ (b : BlockRowOf). GivesAt p j (slice_index b.signals j)) found.2 gives)

  only_false : (b : Bool) → (b ≡ true → ⊥) → b ≡ false
  only_false true never = absurd (never refl)
  only_false false never = refl

  is_alone : IsAlone model flat stands.owner stands.process block.signals
  is_alone = record {
    others = λ n row at apart. stands.is.others n row at apart;
    ports = λ n j row other values frame at apart other_at on. only_false (is_one_of block.signals (slice_index other.signals j)) (λ mine. not_driven n j row other values frame at apart other_at on mine);
  }

  no_sink : NoSinkDrives (placed_driver model flat columns times placed) flat
  unfolding placed last
  no_sink m row at kind = only_false (is_one_of block.signals (signal_of flat.tables m)) (λ mine. (
      let p : IsSinkPort flat.tables.ports row.port = sink_port (length flat.tables.modules) flat.tables.ports flat.tables.actors follows.actors.places m row at kind in
      let signal : signal_of flat.tables m ≡ p.port.signal = ap (signal_of_row flat.tables) at ∙ ap signal_of_port p.at in
      let among = among_at block.signals (signal_of flat.tables m) mine in
      alone.modules row.port among.0 (signal_of flat.tables m) p.port (gives_at among.0 (signal_of flat.tables m) among.3) p.at (ap (gives true) p.kind) (sym signal)))

  drives_alone : DrivesAlone model flat columns times
  unfolding placed last
  drives_alone = record { placed = placed; alone = is_alone; sinks = no_sink }

  -- ---- the signal of a path

  paths_at : (n : ℕ) (row : SignalRow) → slice_get flat.tables.de_signals n ≡ Some row → slice_get (signal_paths flat.tables) (length (map (λ (r : SignalRow). r.path) flat.tables.signals) + n) ≡ Some row.path
  paths_at n row at =
      behind_at (map (λ (r : SignalRow). r.path) flat.tables.signals) (map (λ (r : SignalRow). r.path) flat.tables.de_signals) n
      ∙ slice_get-map (λ (r : SignalRow). r.path) flat.tables.de_signals n ∙ ap (option_map (λ (r : SignalRow). r.path)) at

  -- it is that of the column's port
  record HasPath (j : ℕ) (c : Column) (r : PortReaches j c) : Type 0 where
    row : SignalRow
    at : slice_get flat.tables.de_signals r.number.number ≡ Some row
    path : row.path ≡ c.label

  has_path : (j : ℕ) (c : Column) (r : PortReaches j c) → HasPath j c r
  has_path j c r =
      let found = row_path (writers_in (roles_of model) tables flat.tables.ports true) 0 tables.event_signals r.number.number r.stands_for.signal r.stands_for.at in
      record {
        row = found.0;
        at = ap (λ (l : List SignalRow). slice_get l r.number.number) follows.signals.de_signals ∙ found.1;
        path = found.2 ∙ r.stands_for.path_is;
      }

  same_number : (j : ℕ) (c : Column) (r : PortReaches j c) (h : HasPath j c r) (n : ℕ) (row : SignalRow) → slice_get flat.tables.de_signals n ≡ Some row → row.path ≡ c.label → n ≡ r.number.number
  same_number j c r h n row at path =
      let front : ℕ = length (map (λ (x : SignalRow). x.path) flat.tables.signals) in
      let e : front + n ≡ front + r.number.number = flat_paths_are_unique model flat passes.kept passes.names is_flat (front + n) (front + r.number.number) c.label
      (paths_at n row at ∙ ap Some path) (paths_at r.number.number h.row h.at ∙ ap Some h.path) in
      omega (arith, e)

  module _ (firsts : List First) (ahead : List (List Change)) (turns time : ℕ) (w : World SideOf) (on : history (world_engine model flat) 0 (start_world model flat firsts ahead turns) (time + 1) ≡ On w) where
    settles : (j : ℕ) (c : Column) → slice_get columns j ≡ Some c → HasColumnValue flat times w.events.values time c
    unfolding drives_alone placed last
    settles j c column =
        let r : PortReaches j c = port_reaches j c column in
        let h : HasPath j c r = has_path j c r in
        let shows : ShowsLiteral times c time w.events.values r.number.number = ports_show_columns model flat columns times drives_alone firsts ahead turns time w on j r.number.number c column (signal_there j c r) in
        record {
          number = r.number.number;
          row = h.row;
          at = h.at;
          path = h.path;
          only = λ n other there path. same_number j c r h n other there path;
          lit = shows.lit;
          literal = shows.literal;
          value = shows.value;
        }

-- an element stands at a place
contained : {A : Type 0} (xs : List A) (k : ℕ) (x : A) → k < length xs → slice_index_or xs k x ≡ x → slice_get xs k ≡ Some x
contained xs k x less is = slice_get-get_or xs k x less ∙ ap Some is

pub drives_signals : CheckedIsOfTree → DrivesSignals
drives_signals reads tree table flat firsts ahead turns time w form drivable passes events is_flat on c has = go (driving tree table) refl has
  where
    go : (columns : List Column) → driving tree table ≡ columns → Contains columns c → HasColumnValue flat (times_of tree table) w.events.values time c
    go [] is there = absurd (let less = there.1 in omega (arith, less))
    go (c0 ∷ cs) is there =
        settles reads tree table flat c0 cs is form drivable passes events is_flat firsts ahead turns time w on there.0 c (contained (c0 ∷ cs) there.0 c there.1 there.2)
