-- Each port of a module but an `out` port gives an edge.
use Rattle.std.proofs.Common.{◌≡◌, ◌∙◌, ℕ, ◌+◌, ◌<◌, ◌≤◌, zero, suc, Bool, true, false, cond, List, [], ◌∷◌, ◌++◌, Option, Some, None, ◌⊎◌, inl, inr, length, refl, sym, ap, map, subst, arith}
use Rattle.std.proofs.lemmas.Bool.{cases_eq}
use Rattle.std.proofs.lemmas.List.{length-append, append_assoc, append-nil}
use Rattle.std.proofs.lemmas.List.Elements.{filter-append, recursion_from_All}
use Rattle.std.specs.List.{enumerate_from, cons_option, AllByRecursion}
use Rattle.std.specs.Prelude.{slice_get, filter, filter_map, nat_eq}
use Rattle.tdf_bind_tables.proofs.Joining.{both}
use Rattle.tdf_bind_tables.proofs.Reaching.{ports_reach_signals, rows_long}
use Rattle.tdf_bind_tables.specs.FlatTables.{FlatTablesOf}
use Rattle.tdf_bind_tables.specs.Whole.{AreEventPorts, number_if_read, EdgesAreWhole}
use Rattle.tdf_lang_tree.specs.declared.blocks.PortKind.{PortKind}
use Rattle.tdf_lang_tree.specs.declared.blocks.PortKind.TheVariants.{In, Out, DeIn, DeOut}
use Rattle.tdf_bind_hierarchy.specs.Laws.{PortsAreInRange}
use Rattle.tdf_bind_hierarchy.specs.PortKinds.{PortsKeepKinds}
use Rattle.tdf_bind_hierarchy.specs.Tables.{RowOf, TablesOf, is_of, same_kind, numbers_after}
use Rattle.tdf_bind_hierarchy.specs.declared.tables.Signal.{Signal}
use Rattle.tdf_bind_hierarchy.specs.declared.tables.SignalNumber.{SignalNumber}
use Rattle.tdf_bind_connections.specs.Drivers.{driver_of, driver, module_port, driver_fault, fault_of_driver, signal_row, writers_in}
use Rattle.tdf_bind_connections.specs.Edges.{is_event_port, actor_at, driver_row, driver_port, edge_from, driven_edge, edge_of_kind, edge_by}
use Rattle.tdf_bind_connections.specs.ProcessBlocks.{PlacedBlock, as_block, placed_blocks}
use Rattle.tdf_bind_connections.specs.Writers.{gives, port_writer, place_writer, module_writers, writers_at, block_writers}
use Rattle.tdf_bind_connections.specs.declared.drivers.SignalRow.{SignalRow}
use Rattle.tdf_bind_connections.specs.declared.edges.EdgeRow.{EdgeRow}
use Rattle.tdf_bind_connections.specs.declared.modules.PortRow.{PortRow}
use Rattle.tdf_bind_connections.specs.declared.roles.Role.{Role}
use Rattle.tdf_bind_connections.specs.declared.roles.Role.TheVariants.{Module, Processes, Composite}
use Rattle.tdf_bind_connections.specs.declared.writers.Writer.{Writer}

some_none : {X : Type 0} {x : X} → Some x ≡ None → ⊥
some_none {X} e = subst is_there e tt
  where
    is_there : Option X → Type 0
    is_there None = ⊥
    is_there (Some y) = Unit {0}

-- each signal of samples is in the order
abbrev samples : List Signal → ℕ
samples ss = length (filter (is_of false) ss)

samples_push : (before : List Signal) (x : Signal) (b : Bool) → x.event ≡ b → samples (before ++ x ∷ []) ≡ samples before + length (cond (same_kind false b) (x ∷ []) [])
samples_push before x b e = ap length (filter-append (is_of false) before (x ∷ [])) ∙ length-append (filter (is_of false) before) (filter (is_of false) (x ∷ []))
    ∙ ap (λ c. length (filter (is_of false) before) + length (cond (same_kind false c) (x ∷ []) [])) e

in_order : (P : SignalNumber → Type 0) (before ss : List Signal) (s : ℕ) → AllByRecursion P (numbers_after before ss) → samples before ≤ s → s < samples (before ++ ss) → P (record { event = false; number = s })
in_order P before [] s all low high = absurd (let e = ap samples (append-nil before) in omega (arith, low, high, e))
in_order P before (x ∷ ss) s all low high = by_event (λ next. in_order P (before ++ x ∷ []) ss s all.1 next (subst (λ l. s < samples l) (sym (append_assoc before (x ∷ []) ss)) high)) x.event refl
  where
    here : x.event ≡ false → (samples (before ++ x ∷ []) ≤ s → P (record { event = false; number = s })) → (samples before ≡ s) ⊎ (samples before ≡ s → ⊥) → P (record { event = false; number = s })
    here e later (inl same) = subst (λ n. P (record { event = false; number = n })) same (subst (λ c. P (record { event = c; number = length (filter (is_of c) before) })) e all.0)
    here e later (inr other) = later (let p = samples_push before x false e in omega (arith, low, p, other))

    by_event : (samples (before ++ x ∷ []) ≤ s → P (record { event = false; number = s })) → (b : Bool) → x.event ≡ b → P (record { event = false; number = s })
    by_event later true e = later (let p = samples_push before x true e in omega (arith, low, p))
    by_event later false e = here e later (cases_eq (samples before) s)

-- nothing comes of a list that gives nothing
none_all : {A B : Type 0} (f : A → Option B) (xs : List A) → filter_map f xs ≡ [] → AllByRecursion (λ x. f x ≡ None) xs
none_all f [] e = tt
none_all {A} {B} f (x ∷ xs) e = by_first (λ h. none_all f xs h) (f x) refl e
  where
    nothing : (y : B) (ys : List B) → y ∷ ys ≡ [] → ⊥
    nothing y ys h = subst is_some_list h tt
      where
        is_some_list : List B → Type 0
        is_some_list [] = ⊥
        is_some_list (z ∷ zs) = Unit {0}

    by_first : (filter_map f xs ≡ [] → AllByRecursion (λ y. f y ≡ None) xs) → (o : Option B) → f x ≡ o → cons_option o (filter_map f xs) ≡ [] → AllByRecursion (λ y. f y ≡ None) (x ∷ xs)
    by_first rest None is h = (is, rest h)
    by_first rest (Some y) is h = absurd (nothing y (filter_map f xs) h)

-- what drives a signal of samples is a port of a module
abbrev Driven : ℕ → Option ℕ → Type 0
Driven count None = ⊥
Driven count (Some port) = port < count

driven : (count : ℕ) (ws : List Writer) → AllByRecursion (λ w. Driven count w.port) ws → driver_fault false (driver_of ws) ≡ None → Driven count (module_port (driver_of ws))
driven count [] h fine = absurd (some_none fine)
driven count (w ∷ []) h fine = h.0
driven count (w ∷ v ∷ ws) h fine = absurd (some_none fine)

filtered : {X : Type 0} (P : X → Type 0) (test : X → Bool) (xs : List X) → AllByRecursion P xs → AllByRecursion P (filter test xs)
filtered P test [] h = tt
filtered {X} P test (x ∷ xs) h = by_test (filtered P test xs h.1) (test x)
  where
    by_test : AllByRecursion P (filter test xs) → (b : Bool) → AllByRecursion P (cond b (x ∷ filter test xs) (filter test xs))
    by_test rest true = (h.0, rest)
    by_test rest false = rest

module_driven : (count n : ℕ) (ports : List PortRow) → n + length ports ≤ count → AllByRecursion (λ w. Driven count w.port) (filter_map (λ p. port_writer false p.0 p.1) (enumerate_from n ports))
module_driven count n [] within = tt
module_driven count n (p ∷ ports) within = by_kind (module_driven count (n + 1) ports (omega (arith, within))) (gives false p.kind)
  where
    rest : List Writer
    rest = filter_map (λ q. port_writer false q.0 q.1) (enumerate_from (n + 1) ports)

    by_kind : AllByRecursion (λ w. Driven count w.port) rest → (b : Bool) → AllByRecursion (λ w. Driven count w.port) (cons_option (cond b (Some (record { signal = p.signal; port = Some n })) None) rest)
    by_kind more true = (omega (arith, within), more)
    by_kind more false = more

places_driven : (count : ℕ) (signals : List SignalNumber) (k : ℕ) (kinds : List PortKind) → AllByRecursion (λ kind. is_event_port kind ≡ true) kinds → AllByRecursion (λ w. Driven count w.port) (filter_map (λ q. place_writer false signals q.0 q.1) (enumerate_from k kinds))
places_driven count signals k [] h = tt
places_driven count signals k (In ∷ kinds) h = absurd (subst holds (sym h.0) tt)
  where
    holds : Bool → Type 0
    holds true = Unit {0}
    holds false = ⊥
places_driven count signals k (Out ∷ kinds) h = absurd (subst holds (sym h.0) tt)
  where
    holds : Bool → Type 0
    holds true = Unit {0}
    holds false = ⊥
places_driven count signals k (DeIn ∷ kinds) h = places_driven count signals (k + 1) kinds h.1
places_driven count signals k (DeOut ∷ kinds) h = places_driven count signals (k + 1) kinds h.1

abbrev EventBlock : Option PlacedBlock → Type 0
EventBlock None = Unit {0}
EventBlock (Some placed) = AllByRecursion (λ kind. is_event_port kind ≡ true) placed.role.ports

block_one : (roles : List Role) → AreEventPorts roles → (i : RowOf) (o : Option Role) → slice_get roles i.block ≡ o → EventBlock (as_block i o)
block_one roles events i None is = tt
block_one roles events i (Some (Module role)) is = tt
block_one roles events i (Some (Processes role)) is = recursion_from_All (λ kind. is_event_port kind ≡ true) role.ports (events i.block role is)
block_one roles events i (Some Composite) is = tt

blocks_driven : (count : ℕ) (roles : List Role) → AreEventPorts roles → (instances : List RowOf) → AllByRecursion (λ w. Driven count w.port) (block_writers false (placed_blocks roles instances))
blocks_driven count roles events [] = tt
blocks_driven count roles events (i ∷ instances) = by_block (blocks_driven count roles events instances) (as_block i (slice_get roles i.block)) (block_one roles events i (slice_get roles i.block) refl)
  where
    by_block : AllByRecursion (λ w. Driven count w.port) (block_writers false (placed_blocks roles instances)) → (o : Option PlacedBlock) → EventBlock o → AllByRecursion (λ w. Driven count w.port) (block_writers false (cons_option o (placed_blocks roles instances)))
    by_block more None h = more
    by_block more (Some placed) h = both (λ w. Driven count w.port) (writers_at false placed.instance.signals placed.role.ports) (block_writers false (placed_blocks roles instances))
        (places_driven count placed.instance.signals 0 placed.role.ports h) more

writers_driven : (roles : List Role) → AreEventPorts roles → (tables : TablesOf) (ports : List PortRow) → AllByRecursion (λ w. Driven (length ports) w.port) (writers_in roles tables ports false)
writers_driven roles events tables ports = both (λ w. Driven (length ports) w.port) (module_writers false ports) (block_writers false (placed_blocks roles tables.instances))
    (module_driven (length ports) 0 ports (omega arith)) (blocks_driven (length ports) roles events tables.instances)

-- the driver in the table of signals
row_driver : (writers : List Writer) (k : ℕ) (signals : List Signal) (s : ℕ) → s < length signals → driver_row (slice_get (map (λ x. signal_row writers x.0 x.1) (enumerate_from k signals)) s) ≡ module_port (driver (k + s) writers)
row_driver writers k [] s within = absurd (omega (arith, within))
row_driver writers k (x ∷ signals) zero within = ap (λ n. module_port (driver n writers)) (omega arith)
row_driver writers k (x ∷ signals) (suc s) within = row_driver writers (k + 1) signals s (omega (arith, within)) ∙ ap (λ n. module_port (driver n writers)) (omega arith)

get_there : {X : Type 0} (xs : List X) (k : ℕ) → k < length xs → (x : X) × (slice_get xs k ≡ Some x)
get_there [] k within = absurd (omega (arith, within))
get_there (x ∷ xs) zero within = (x, refl)
get_there (x ∷ xs) (suc k) within = get_there xs k (omega (arith, within))

abbrev port_of : Option EdgeRow → Option ℕ
port_of None = None
port_of (Some edge) = Some edge.port

in_gives : (whole : List PortRow) (n : ℕ) (p : PortRow) (o : Option ℕ) → Driven (length whole) o → port_of (driven_edge whole n p o) ≡ Some n
in_gives whole n p None h = absurd h
in_gives whole n p (Some out) h = let there = get_there whole out h in ap (λ d. port_of (edge_from n p out d)) there.1

kind_gives : (signals : List SignalRow) (whole : List PortRow) (kind : PortKind) (n actor : ℕ) (p : PortRow) → (is_event_port kind ≡ false → Driven (length whole) (driver_port signals p.signal)) → port_of (edge_of_kind kind signals whole n actor p) ≡ number_if_read kind n
kind_gives signals whole In n actor p h = in_gives whole n p (driver_port signals p.signal) (h refl)
kind_gives signals whole Out n actor p h = refl
kind_gives signals whole DeIn n actor p h = refl
kind_gives signals whole DeOut n actor p h = refl

cons_port : (o : Option EdgeRow) (es : List EdgeRow) → map (λ (e : EdgeRow). e.port) (cons_option o es) ≡ cons_option (port_of o) (map (λ (e : EdgeRow). e.port) es)
cons_port None es = refl
cons_port (Some e) es = refl

ports_give : (modules : ℕ) (signals : List SignalRow) (whole : List PortRow) (n : ℕ) (ports : List PortRow) → AllByRecursion (λ p. is_event_port p.kind ≡ false → Driven (length whole) (driver_port signals p.signal)) ports
    → map (λ (e : EdgeRow). e.port) (filter_map (λ p. edge_by signals whole p.0 (actor_at modules whole p.0) p.1) (enumerate_from n ports)) ≡ filter_map (λ p. number_if_read p.1.kind p.0) (enumerate_from n ports)
ports_give modules signals whole n [] h = refl
ports_give modules signals whole n (p ∷ ports) h =
    cons_port (edge_by signals whole n (actor_at modules whole n) p) (filter_map (λ q. edge_by signals whole q.0 (actor_at modules whole q.0) q.1) (enumerate_from (n + 1) ports))
    ∙ ap (λ o. cons_option o (map (λ (e : EdgeRow). e.port) (filter_map (λ q. edge_by signals whole q.0 (actor_at modules whole q.0) q.1) (enumerate_from (n + 1) ports)))) (kind_gives signals whole p.kind n (actor_at modules whole n) p h.0)
    ∙ ap (cons_option (number_if_read p.kind n)) (ports_give modules signals whole (n + 1) ports h.1)

each_driven : (flat : FlatTablesOf) → ((s : ℕ) → s < length flat.signals → Driven (length flat.ports) (driver_port flat.signals s)) → (ports : List PortRow) → AllByRecursion (λ p. p.signal < length (cond (is_event_port p.kind) flat.de_signals flat.signals)) ports
    → AllByRecursion (λ p. is_event_port p.kind ≡ false → Driven (length flat.ports) (driver_port flat.signals p.signal)) ports
each_driven flat one [] k = tt
each_driven flat one (p ∷ ports) k = ((λ e. one p.signal (subst (λ b. p.signal < length (cond b flat.de_signals flat.signals)) e k.0)), each_driven flat one ports k.1)

fault_none : (n : SignalNumber) (o : Option _) → fault_of_driver n o ≡ None → o ≡ None
fault_none n None e = refl
fault_none n (Some code) e = absurd (some_none e)

pub edges_are_whole : PortsAreInRange → PortsKeepKinds → EdgesAreWhole
edges_are_whole in_range keep kinds blocks top roles lines flat kept agree events h =
    ap (map (λ (e : EdgeRow). e.port)) h.follows.edges
    ∙ ports_give (length flat.modules) flat.signals flat.ports 0 flat.ports (each_driven flat one flat.ports (recursion_from_All (λ (p : PortRow). p.signal < length (cond (is_event_port p.kind) flat.de_signals flat.signals)) flat.ports (ports_reach_signals in_range keep kinds blocks top roles lines flat kept agree h)))
  where
    t : TablesOf
    t = h.tables

    writers : List Writer
    writers = writers_in roles t flat.ports false

    fine : AllByRecursion (λ (n : SignalNumber). fault_of_driver n (driver_fault n.event (driver n.number (writers_in roles t flat.ports n.event))) ≡ None) t.order
    fine = none_all (λ (n : SignalNumber). fault_of_driver n (driver_fault n.event (driver n.number (writers_in roles t flat.ports n.event)))) t.order h.follows.drivers

    long : length flat.signals ≡ length t.signals
    long = ap length h.follows.signals.signals ∙ rows_long writers t.signals

    one : (s : ℕ) → s < length flat.signals → Driven (length flat.ports) (driver_port flat.signals s)
    one s within = subst (Driven (length flat.ports)) (sym (ap (λ l. driver_row (slice_get l s)) h.follows.signals.signals ∙ row_driver writers 0 t.signals s (let l = long in omega (arith, within, l)) ∙ ap (λ n. module_port (driver n writers)) (omega arith)))
        (driven (length flat.ports) (filter (λ w. nat_eq w.signal s) writers) (filtered (λ w. Driven (length flat.ports) w.port) (λ w. nat_eq w.signal s) writers (writers_driven roles events t flat.ports))
        (fault_none (record { event = false; number = s }) (driver_fault false (driver s writers)) (in_order (λ (n : SignalNumber). fault_of_driver n (driver_fault n.event (driver n.number (writers_in roles t flat.ports n.event))) ≡ None) [] _ s (subst (AllByRecursion _) h.met.order fine) (omega arith) (let l = long in let m = ap length h.met.signals in subst (λ k. s < k) m (omega (arith, within, l))))))
