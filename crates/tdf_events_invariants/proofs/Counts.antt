-- The event side of a flat model has few rows of each kind.
use Rattle.std.proofs.Common.{◌≡◌, ℕ, zero, suc, ◌+◌, ◌-◌, ◌≤◌, Bool, true, false, cond, List, [], ◌∷◌, ◌++◌, Option, Some, None, length, map, refl, sym, ap, subst, arith}
use Rattle.std.proofs.Math.ListN.{get_or}
use Rattle.std.proofs.lemmas.Bool.Decides.{nat_tests}
use Rattle.std.proofs.lemmas.List.{length-append}
use Rattle.std.proofs.lemmas.List.Sums.{sum_by-cons}
use Rattle.std.proofs.lemmas.Option.{same_Some, none-some}
use Rattle.std.specs.List.{AllZip, cons_option, enumerate_from, flat_map, sum_by}
use Rattle.std.specs.Prelude.{◌||◌, filter, filter_map, nat_lt, slice_get, slice_index}
use Rattle.tdf_bind.specs.Flat.{IsFlatOf}
use Rattle.tdf_bind.specs.declared.model.Flat.{Flat}
use Rattle.tdf_bind_names.proofs.Api.{counts_all}
use Rattle.tdf_bind_names.specs.Counts.{store_cells, is_too_many, met_weight}
use Rattle.tdf_bind_names.specs.Resolved.{whole}
use Rattle.tdf_bind_attributes.specs.Roles.{event_of, process_role, processes_role, roles_from, roles_of}
use Rattle.tdf_events_invariants.specs.Runnable.{EventRowsAreFew}
use Rattle.tdf_expr_symbols.specs.Names.{Names, globals_of}
use Rattle.tdf_lang_tree.specs.Pure.{PureDe, PureDeLine, DPort, DStore, DEvent, PureTdf, PureComposite, PureGlobal, GShape, GTdf, GDe, GNet, PureTree, TPort, TStore, TRate, PureTdfLine}
use Rattle.tdf_lang_tree.specs.declared.blocks.PortLine.{PortLine}
use Rattle.tdf_bind_ports.specs.Ports.{port_of_de_line, ports_of_de}
use Rattle.tdf_lang_tree.specs.declared.shapes.TypeDecl.{TypeDecl}
use Rattle.tdf_bind_hierarchy.specs.Blocks.{BlockOf}
use Rattle.tdf_bind_hierarchy.specs.Met.{Met, MetSignal, MetInstance, met_in}
use Rattle.tdf_bind_hierarchy.specs.Tables.{IsRowOf, RowOf, TablesOf, met_instance, is_of, met_signal}
use Rattle.tdf_bind_connections.specs.Drivers.{signal_row, writers_in}
use Rattle.tdf_bind_connections.specs.ProcessBlocks.{PlacedBlock, as_block, block_processes, block_row, event_row, events_from, placed_blocks, process_row, processes_from}
use Rattle.tdf_bind_connections.specs.Roles.{ProcessesOf}
use Rattle.tdf_bind_connections.specs.declared.roles.Role.{Role}
use Rattle.tdf_bind_connections.specs.declared.roles.Role.TheVariants.{Module, Processes, Composite}

-- lists
fewer : {A : Type 0} (p : A → Bool) (xs : List A) → length (filter p xs) ≤ length xs
fewer p [] = omega arith
fewer p (x ∷ xs) = go (p x) (fewer p xs)
  where
    go : (b : Bool) → length (filter p xs) ≤ length xs → length (cond b (x ∷ filter p xs) (filter p xs)) ≤ suc (length xs)
    go true less = omega (arith, less)
    go false less = omega (arith, less)

pub mapped_long : {A B : Type 0} (f : A → B) (xs : List A) → length (map f xs) ≡ length xs
mapped_long f [] = refl
mapped_long f (x ∷ xs) = ap suc (mapped_long f xs)

numbered_long : {A B : Type 0} (f : (ℕ × A) → B) (from : ℕ) (xs : List A) → length (map f (enumerate_from from xs)) ≡ length xs
numbered_long f from [] = refl
numbered_long f from (x ∷ xs) = ap suc (numbered_long f (from + 1) xs)

zipped_long : {A B : Type 0} (P : A → B → Type 0) (xs : List A) (ys : List B) → AllZip P xs ys → length xs ≡ length ys
zipped_long P [] [] all = refl
zipped_long P (x ∷ xs) (y ∷ ys) all = ap suc (zipped_long P xs ys all.1)
zipped_long P [] (y ∷ ys) all = absurd all
zipped_long P (x ∷ xs) [] all = absurd all

-- the blocks of processes
few_placed : (roles : List Role) (rows : List RowOf) → length (placed_blocks roles rows) ≤ length rows
few_placed roles [] = omega arith
few_placed roles (row ∷ rows) = go (as_block row (slice_get roles row.block)) (few_placed roles rows)
  where
    go : (o : Option PlacedBlock) → length (placed_blocks roles rows) ≤ length rows → length (cons_option o (placed_blocks roles rows)) ≤ suc (length rows)
    go None less = omega (arith, less)
    go (Some p) less = omega (arith, less)

-- what they hold in all
abbrev pub held : (ProcessesOf → ℕ) → List PlacedBlock → ℕ
held count [] = 0
held count (p ∷ ps) = count p.role + held count ps

abbrev pub event_total : ProcessesOf → ℕ
event_total role = length role.events

abbrev pub process_total : ProcessesOf → ℕ
process_total role = length role.processes

pub events_long : (owner : ℕ) (ps : List PlacedBlock) → length (events_from owner ps) ≡ held event_total ps
events_long owner [] = refl
events_long owner (p ∷ ps) =
    let one = length-append (map (event_row owner) p.role.events) (events_from (owner + 1) ps) in
    let own = mapped_long (event_row owner) p.role.events in
    let later = events_long (owner + 1) ps in
    omega (arith, one, own, later)

processes_long : (owner first : ℕ) (ps : List PlacedBlock) → length (processes_from owner first ps) ≡ held process_total ps
processes_long owner first [] = refl
processes_long owner first (p ∷ ps) =
    let one = length-append (block_processes owner first p) (processes_from (owner + 1) (first + length p.role.events) ps) in
    let own = numbered_long (λ process. process_row owner first p.instance.signals process.0 process.1) 0 p.role.processes in
    let later = processes_long (owner + 1) (first + length p.role.events) ps in
    omega (arith, one, own, later)

-- each block weighs what it holds
abbrev count_in : (ProcessesOf → ℕ) → Option Role → ℕ
count_in count (Some (Processes role)) = count role
count_in count _ = 0

module _ (count : ProcessesOf → ℕ) (weights : List ℕ) (roles : List Role) (weigh : (k : ℕ) → count_in count (slice_get roles k) ≤ slice_index weights k) (t : TablesOf) where
  held_weighs : (met : List Met) (rows : List RowOf) → AllZip (IsRowOf t) rows (filter_map met_instance met) → held count (placed_blocks roles rows) ≤ sum_by (met_weight false weights) met
  held_weighs [] [] all = omega arith
  held_weighs [] (r ∷ rows) all = absurd all
  held_weighs (MetSignal s ∷ met) rows all =
      let e = sum_by-cons (met_weight false weights) (MetSignal s) met in
      let later = held_weighs met rows all in
      omega (arith, e, later)
  held_weighs (MetInstance i ∷ met) [] all = absurd all
  held_weighs (MetInstance i ∷ met) (r ∷ rows) all =
      let e = sum_by-cons (met_weight false weights) (MetInstance i) met in
      go (slice_get roles r.block) (subst (λ k. count_in count (slice_get roles r.block) ≤ slice_index weights k) all.0.block (weigh r.block)) (held_weighs met rows all.1) e
    where
      go : (o : Option Role) → count_in count o ≤ slice_index weights i.block → held count (placed_blocks roles rows) ≤ sum_by (met_weight false weights) met
          → sum_by (met_weight false weights) (MetInstance i ∷ met) ≡ slice_index weights i.block + sum_by (met_weight false weights) met
          → held count (cons_option (as_block r o) (placed_blocks roles rows)) ≤ sum_by (met_weight false weights) (MetInstance i ∷ met)
      go None low later e = omega (arith, low, later, e)
      go (Some (Module role)) low later e = omega (arith, low, later, e)
      go (Some (Processes role)) low later e = omega (arith, low, later, e)
      go (Some Composite) low later e = omega (arith, low, later, e)

or_second : (a b : Bool) → a || b ≡ false → b ≡ false
or_second false b e = e
or_second true b e = absurd cc

or_first : (a b : Bool) → a || b ≡ false → a ≡ false
or_first false b e = refl
or_first true b e = absurd cc

at_most : (l n : ℕ) → nat_lt l n ≡ false → n ≤ l
at_most l n e = grind (arith, nat_tests)

-- what the blocks weigh, each one thing
record Weighs (W : PureGlobal → List ℕ) (count : ProcessesOf → ℕ) : Type 0 where
  shape : (t : TypeDecl) → W (GShape t) ≡ []
  tdf : (block : PureTdf) → (n : ℕ) × (W (GTdf block) ≡ n ∷ [])
  de : (number : ℕ) (block : PureDe) → (n : ℕ) × (W (GDe block) ≡ n ∷ []) × (count (processes_role number block) ≤ n)
  net : (block : PureComposite) → (n : ℕ) × (W (GNet block) ≡ n ∷ [])

roles_weigh : (W : PureGlobal → List ℕ) (count : ProcessesOf → ℕ) → Weighs W count → (globals : Names) (number : ℕ) (gs : List PureGlobal) (k : ℕ)
    → count_in count (slice_get (roles_from globals number gs) k) ≤ get_or (flat_map W gs) k 0
unfolding roles_from
roles_weigh W count w globals number [] k = omega arith
roles_weigh W count w globals number (GShape t ∷ gs) k =
    subst (λ (l : List ℕ). count_in count (slice_get (roles_from globals number gs) k) ≤ get_or (l ++ flat_map W gs) k 0) (sym (w.shape t)) (roles_weigh W count w globals number gs k)
roles_weigh W count w globals number (GTdf block ∷ gs) zero = omega arith
roles_weigh W count w globals number (GTdf block ∷ gs) (suc k) =
    subst (λ (l : List ℕ). count_in count (slice_get (roles_from globals (number + 1) gs) k) ≤ get_or (l ++ flat_map W gs) (suc k) 0) (sym (w.tdf block).1) (roles_weigh W count w globals (number + 1) gs k)
roles_weigh W count w globals number (GDe block ∷ gs) zero =
    subst (λ (l : List ℕ). count (processes_role number block) ≤ get_or (l ++ flat_map W gs) 0 0) (sym (w.de number block).1) (w.de number block).2
roles_weigh W count w globals number (GDe block ∷ gs) (suc k) =
    subst (λ (l : List ℕ). count_in count (slice_get (roles_from globals (number + 1) gs) k) ≤ get_or (l ++ flat_map W gs) (suc k) 0) (sym (w.de number block).1) (roles_weigh W count w globals (number + 1) gs k)
roles_weigh W count w globals number (GNet block ∷ gs) zero = omega arith
roles_weigh W count w globals number (GNet block ∷ gs) (suc k) =
    subst (λ (l : List ℕ). count_in count (slice_get (roles_from globals number gs) k) ≤ get_or (l ++ flat_map W gs) (suc k) 0) (sym (w.net block).1) (roles_weigh W count w globals number gs k)

events_weigh : (w : PureDeLine → ℕ) → ((line : ℕ) (name : List ℕ) → 1 ≤ w (DEvent line name)) → (ds : List PureDeLine) → length (flat_map event_of ds) ≤ sum_by w ds
events_weigh w low [] = omega arith
events_weigh w low (DPort p ∷ ds) = let e = sum_by-cons w (DPort p) ds in let later = events_weigh w low ds in omega (arith, e, later)
events_weigh w low (DStore s ∷ ds) = let e = sum_by-cons w (DStore s) ds in let later = events_weigh w low ds in omega (arith, e, later)
events_weigh w low (DEvent line name ∷ ds) =
    let e = sum_by-cons w (DEvent line name) ds in
    let later = events_weigh w low ds in
    let one = low line name in
    omega (arith, e, later, one)

abbrev events_in_line : PureDeLine → ℕ
events_in_line (DEvent line name) = 1
events_in_line _ = 0

abbrev events_in : PureGlobal → List ℕ
events_in (GShape t) = []
events_in (GTdf block) = (0 + sum_by (λ line. 0) block.decls) ∷ []
events_in (GDe block) = (0 + (sum_by events_in_line block.decls + 0)) ∷ []
events_in (GNet block) = 0 ∷ []

abbrev processes_in : PureGlobal → List ℕ
processes_in (GShape t) = []
processes_in (GTdf block) = (0 + sum_by (λ line. 0) block.decls) ∷ []
processes_in (GDe block) = (0 + (sum_by (λ line. 0) block.decls + length block.processes)) ∷ []
processes_in (GNet block) = 0 ∷ []

events_count : Weighs events_in event_total
events_count = record {
  shape = λ t. refl;
  tdf = λ block. (_, refl);
  de = λ number block. (_, refl, let few = events_weigh events_in_line (λ line name. omega arith) block.decls in omega (arith, few));
  net = λ block. (_, refl);
}

processes_count : Weighs processes_in process_total
processes_count = record {
  shape = λ t. refl;
  tdf = λ block. (_, refl);
  de = λ number block. (_, refl, let long = mapped_long (process_role block) block.processes in omega (arith, long));
  net = λ block. (_, refl);
}

-- what a model holds
abbrev sum_in : (PureGlobal → List ℕ) → PureTree → List BlockOf → ℕ
sum_in W model blocks = sum_by (met_weight false (flat_map W (whole model))) (met_in blocks (length blocks - 1))

few_held : (W : PureGlobal → List ℕ) (count : ProcessesOf → ℕ) (model : PureTree) (blocks : List BlockOf) (t : TablesOf) → Weighs W count
    → AllZip (IsRowOf t) t.instances (filter_map met_instance (met_in blocks (length blocks - 1))) → nat_lt 8192 (sum_in W model blocks) ≡ false
    → held count (placed_blocks (roles_of model) t.instances) ≤ 8192
few_held W count model blocks t w rows few =
    let less = held_weighs count (flat_map W (whole model)) (roles_of model) (roles_weigh W count w (globals_of model.globals) 0 (whole model)) t (met_in blocks (length blocks - 1)) t.instances rows in
    let most = at_most 8192 (sum_in W model blocks) few in
    omega (arith, less, most)

process_held : (model : PureTree) (blocks : List BlockOf) (t : TablesOf) → is_too_many model blocks ≡ false → AllZip (IsRowOf t) t.instances (filter_map met_instance (met_in blocks (length blocks - 1)))
    → held process_total (placed_blocks (roles_of model) t.instances) ≤ 8192
process_held model blocks t few rows =
    few_held processes_in process_total model blocks t processes_count rows
    (or_second _ (nat_lt 8192 (sum_in processes_in model blocks)) (or_first _ (nat_lt 8192 (sum_in events_in model blocks)) few))

event_held : (model : PureTree) (blocks : List BlockOf) (t : TablesOf) → is_too_many model blocks ≡ false → AllZip (IsRowOf t) t.instances (filter_map met_instance (met_in blocks (length blocks - 1)))
    → held event_total (placed_blocks (roles_of model) t.instances) ≤ 8192
event_held model blocks t few rows = few_held events_in event_total model blocks t events_count rows (or_second _ (nat_lt 8192 (sum_in events_in model blocks)) few)

-- the ports of a block
abbrev pub port_total : ProcessesOf → ℕ
port_total role = length role.ports

abbrev ports_in_tdf : PureTdfLine → ℕ
ports_in_tdf (TPort port) = 1
ports_in_tdf _ = 0

abbrev ports_in_line : PureDeLine → ℕ
ports_in_line (DPort port) = 1
ports_in_line _ = 0

abbrev ports_in : PureGlobal → List ℕ
ports_in (GShape t) = []
ports_in (GTdf block) = (0 + sum_by ports_in_tdf block.decls) ∷ []
ports_in (GDe block) = (0 + (sum_by ports_in_line block.decls + 0)) ∷ []
ports_in (GNet block) = 0 ∷ []

ports_weigh : (ds : List PureDeLine) → length (flat_map port_of_de_line ds) ≤ sum_by ports_in_line ds
ports_weigh [] = omega arith
ports_weigh (DPort p ∷ ds) = let e = sum_by-cons ports_in_line (DPort p) ds in let later = ports_weigh ds in omega (arith, e, later)
ports_weigh (DStore s ∷ ds) = let e = sum_by-cons ports_in_line (DStore s) ds in let later = ports_weigh ds in omega (arith, e, later)
ports_weigh (DEvent line name ∷ ds) = let e = sum_by-cons ports_in_line (DEvent line name) ds in let later = ports_weigh ds in omega (arith, e, later)

ports_count : Weighs ports_in port_total
ports_count = record {
  shape = λ t. refl;
  tdf = λ block. (_, refl);
  de = λ number block. (_, refl, let few = ports_weigh block.decls in let long = mapped_long (λ (p : PortLine). p.kind) (ports_of_de block) in omega (arith, few, long));
  net = λ block. (_, refl);
}

-- what of signals and cells a block weighs
abbrev signals_in : PureGlobal → List ℕ
signals_in (GShape t) = []
signals_in (GTdf block) = (0 + sum_by (λ line. 0) block.decls) ∷ []
signals_in (GDe block) = (0 + (sum_by (λ line. 0) block.decls + 0)) ∷ []
signals_in (GNet block) = 0 ∷ []

abbrev cells_in_tdf : PureTdfLine → ℕ
cells_in_tdf (TPort port) = 0
cells_in_tdf (TStore store) = store_cells store
cells_in_tdf (TRate line name least greatest start) = 1

abbrev cells_in_line : PureDeLine → ℕ
cells_in_line (DStore store) = store_cells store
cells_in_line _ = 0

abbrev cells_in : PureGlobal → List ℕ
cells_in (GShape t) = []
cells_in (GTdf block) = (0 + sum_by cells_in_tdf block.decls) ∷ []
cells_in (GDe block) = (0 + (sum_by cells_in_line block.decls + 0)) ∷ []
cells_in (GNet block) = 0 ∷ []

port_held : (model : PureTree) (blocks : List BlockOf) (t : TablesOf) → is_too_many model blocks ≡ false → AllZip (IsRowOf t) t.instances (filter_map met_instance (met_in blocks (length blocks - 1)))
    → held port_total (placed_blocks (roles_of model) t.instances) ≤ 8192
port_held model blocks t few rows =
    few_held ports_in port_total model blocks t ports_count rows
    (or_second _ (nat_lt 8192 (sum_in ports_in model blocks))
    (or_first _ (nat_lt 8192 (sum_by (met_weight true (flat_map signals_in (whole model))) (met_in blocks (length blocks - 1))))
    (or_first _ (nat_lt 1048576 (sum_in cells_in model blocks))
    (or_first _ (nat_lt 8192 (sum_in processes_in model blocks)) (or_first _ (nat_lt 8192 (sum_in events_in model blocks)) few)))))

one_held : (count : ProcessesOf → ℕ) (ps : List PlacedBlock) (n : ℕ) (p : PlacedBlock) → slice_get ps n ≡ Some p → count p.role ≤ held count ps
one_held count [] n p at = absurd (none-some p at)
one_held count (q ∷ ps) zero p at =
    let same = ap (λ (x : PlacedBlock). count x.role) (same_Some q p at) in
    omega (arith, same)
one_held count (q ∷ ps) (suc n) p at = let later = one_held count ps n p at in omega (arith, later)

pub few_ports : (model : PureTree) (flat : Flat) (is : IsFlatOf model flat) (n : ℕ) (p : PlacedBlock) → slice_get (placed_blocks (roles_of model) is.tables.tables.instances) n ≡ Some p → length p.role.ports ≤ 8192
few_ports model flat is n p at =
    let all = port_held model is.blocks is.tables.tables is.linked.few is.tables.met.instances in
    let one = one_held port_total (placed_blocks (roles_of model) is.tables.tables.instances) n p at in
    omega (arith, all, one)

pub event_rows_are_few : EventRowsAreFew
event_rows_are_few model flat is = record {
  signals = signals;
  blocks = blocks;
  processes = processes;
  events = events;
}
  where
    met : List Met
    met = met_in is.blocks (length is.blocks - 1)

    t : TablesOf
    t = is.tables.tables

    ps : List PlacedBlock
    ps = placed_blocks (roles_of model) t.instances

    signals : length flat.tables.de_signals ≤ 8192
    signals =
        let few = (counts_all model is.blocks is.linked.resolved is.linked.few).signals in
        let rows = ap length is.tables.follows.signals.de_signals in
        let long = numbered_long (λ signal. signal_row (writers_in (roles_of model) t flat.tables.ports true) signal.0 signal.1) 0 t.event_signals in
        let same = ap length is.tables.met.event_signals in
        let less = fewer (is_of true) (filter_map met_signal met) in
        omega (arith, few, rows, long, same, less)

    blocks : length flat.tables.blocks ≤ 1024
    blocks =
        let few = (counts_all model is.blocks is.linked.resolved is.linked.few).instances in
        let rows = ap length is.tables.follows.blocks.blocks in
        let long = mapped_long block_row ps in
        let less = few_placed (roles_of model) t.instances in
        let same = zipped_long (IsRowOf t) t.instances (filter_map met_instance met) is.tables.met.instances in
        omega (arith, few, rows, long, same, less)

    processes : length flat.tables.processes ≤ 8192
    processes =
        let rows = ap length is.tables.follows.blocks.processes in
        let long = processes_long 0 0 ps in
        let less = process_held model is.blocks t is.linked.few is.tables.met.instances in
        omega (arith, rows, long, less)

    events : length flat.tables.events ≤ 8192
    events =
        let rows = ap length is.tables.follows.blocks.events in
        let long = events_long 0 ps in
        let less = event_held model is.blocks t is.linked.few is.tables.met.instances in
        omega (arith, rows, long, less)
