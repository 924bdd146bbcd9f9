-- The ports of modules reach signals of their own kind.
use Rattle.std.proofs.Common.{◌≡◌, ◌∙◌, ℕ, ◌+◌, ◌<◌, Bool, true, false, cond, List, [], ◌∷◌, ◌++◌, Option, Some, None, length, refl, sym, ap, map, subst}
use Rattle.std.proofs.lemmas.List.{length-map, length-append, append_assoc}
use Rattle.std.proofs.lemmas.List.FromFn.{length-enumerate_from}
use Rattle.std.proofs.lemmas.List.Elements.{All-from_recursion, recursion_from_All}
use Rattle.std.specs.List.{enumerate_from, cons_option, AllByRecursion}
use Rattle.std.specs.Prelude.{slice_get, All}
use Rattle.tdf_bind_tables.proofs.Joining.{both}
use Rattle.tdf_bind_tables.specs.FlatTables.{FlatTablesOf, FollowsFrom}
use Rattle.tdf_bind_tables.specs.Reach.{AgreeInKind, PortsReachSignals}
use Rattle.tdf_bind_hierarchy.specs.Laws.{IsInRange, PortsAreInRange}
use Rattle.tdf_bind_hierarchy.specs.PortKinds.{kinds_of, PortsKeepKinds}
use Rattle.tdf_bind_hierarchy.specs.Tables.{RowOf, TablesOf, table}
use Rattle.tdf_bind_hierarchy.specs.declared.tables.Signal.{Signal}
use Rattle.tdf_bind_hierarchy.specs.declared.tables.SignalNumber.{SignalNumber}
use Rattle.tdf_bind_connections.specs.Drivers.{signal_row, signal_rows}
use Rattle.tdf_bind_connections.specs.Edges.{is_event_port}
use Rattle.tdf_bind_connections.specs.Modules.{PlacedModule, as_module, placed_modules, signal_at, port_row, module_ports, ports_from}
use Rattle.tdf_bind_connections.specs.declared.modules.PortRow.{PortRow}
use Rattle.tdf_bind_connections.specs.declared.roles.PortData.{PortData}
use Rattle.tdf_bind_connections.specs.declared.roles.Role.{Role}
use Rattle.tdf_bind_connections.specs.declared.roles.Role.TheVariants.{Module, Processes, Composite}
use Rattle.tdf_bind_connections.specs.declared.traces.TraceLine.{TraceLine}
use Rattle.tdf_bind_connections.specs.declared.writers.Writer.{Writer}

-- a port's number is below the number of signals of its kind
abbrev Reaches : TablesOf → PortRow → Type 0
Reaches t p = p.signal < length (table (is_event_port p.kind) t)

number_at : (front : List SignalNumber) (n : SignalNumber) (ns : List SignalNumber) → signal_at (front ++ n ∷ ns) (length front) ≡ n.number
number_at [] n ns = refl
number_at (x ∷ front) n ns = number_at front n ns

head_same : (a b : Bool) (as' bs : List Bool) → a ∷ as' ≡ b ∷ bs → a ≡ b
head_same a b as' bs e = ap first e
  where
    first : List Bool → Bool
    first [] = a
    first (x ∷ xs) = x

tail_same : (a b : Bool) (as' bs : List Bool) → a ∷ as' ≡ b ∷ bs → as' ≡ bs
tail_same a b as' bs e = ap rest e
  where
    rest : List Bool → List Bool
    rest [] = []
    rest (x ∷ xs) = xs

none_left : (b : Bool) (bs : List Bool) → [] ≡ b ∷ bs → ⊥
none_left b bs e = subst empty e tt
  where
    empty : List Bool → Type 0
    empty [] = Unit {0}
    empty (x ∷ xs) = ⊥

one_reaches : (t : TablesOf) (number : ℕ) (instance : RowOf) (front ns : List SignalNumber) (ports : List PortData) → instance.signals ≡ front ++ ns → map (λ (n : SignalNumber). n.event) ns ≡ map (λ (p : PortData). is_event_port p.kind) ports → AllByRecursion (IsInRange t) ns
    → AllByRecursion (Reaches t) (map (λ port. port_row number instance port.0 port.1) (enumerate_from (length front) ports))
one_reaches t number instance front ns [] is kinds within = tt
one_reaches t number instance front [] (p ∷ ports) is kinds within = absurd (none_left _ _ kinds)
one_reaches t number instance front (n ∷ ns) (p ∷ ports) is kinds within = (
  subst (λ k. k < length (table (is_event_port p.kind) t)) (sym (ap (λ l. signal_at l (length front)) is ∙ number_at front n ns))
      (subst (λ e. n.number < length (table e t)) (head_same n.event (is_event_port p.kind) _ _ kinds) within.0),
  subst (λ k. AllByRecursion (Reaches t) (map (λ port. port_row number instance port.0 port.1) (enumerate_from k ports))) (length-append front (n ∷ []))
      (one_reaches t number instance (front ++ n ∷ []) ns ports (is ∙ sym (append_assoc front (n ∷ []) ns)) (tail_same n.event (is_event_port p.kind) _ _ kinds) within.1),
)

-- the modules among the instances
abbrev Good : TablesOf → PlacedModule → Type 0
Good t m = (map (λ (n : SignalNumber). n.event) m.instance.signals ≡ map (λ (p : PortData). is_event_port p.kind) m.role.ports) × AllByRecursion (IsInRange t) m.instance.signals

all_reach : (t : TablesOf) (number : ℕ) (ms : List PlacedModule) → AllByRecursion (Good t) ms → AllByRecursion (Reaches t) (ports_from number ms)
all_reach t number [] h = tt
all_reach t number (m ∷ ms) h = both (Reaches t) (module_ports number m) (ports_from (number + 1) ms) (one_reaches t number m.instance [] m.instance.signals m.role.ports refl h.0.0 h.0.1) (all_reach t (number + 1) ms h.1)

abbrev GoodOption : TablesOf → Option PlacedModule → Type 0
GoodOption t None = Unit {0}
GoodOption t (Some m) = Good t m

cons_good : (t : TablesOf) (o : Option PlacedModule) (ms : List PlacedModule) → GoodOption t o → AllByRecursion (Good t) ms → AllByRecursion (Good t) (cons_option o ms)
cons_good t None ms h k = k
cons_good t (Some m) ms h k = (h, k)

good_one : (t : TablesOf) (kinds : List (List Bool)) (roles : List Role) → AgreeInKind kinds roles → (instance : RowOf) → map (λ (n : SignalNumber). n.event) instance.signals ≡ kinds_of kinds instance.block → All (IsInRange t) instance.signals
    → (o : Option Role) → slice_get roles instance.block ≡ o → GoodOption t (as_module instance o)
good_one t kinds roles agree instance same within None is = tt
good_one t kinds roles agree instance same within (Some (Module role)) is = (same ∙ sym (agree instance.block role is), recursion_from_All (IsInRange t) instance.signals within)
good_one t kinds roles agree instance same within (Some (Processes role)) is = tt
good_one t kinds roles agree instance same within (Some Composite) is = tt

good_all : (t : TablesOf) (kinds : List (List Bool)) (roles : List Role) → AgreeInKind kinds roles → (instances : List RowOf) → AllByRecursion (λ row. map (λ n. n.event) row.signals ≡ kinds_of kinds row.block) instances → AllByRecursion (λ row. All (IsInRange t) row.signals) instances
    → AllByRecursion (Good t) (placed_modules roles instances)
good_all t kinds roles agree [] same within = tt
good_all t kinds roles agree (i ∷ instances) same within = cons_good t (as_module i (slice_get roles i.block)) (placed_modules roles instances) (good_one t kinds roles agree i same.0 within.0 (slice_get roles i.block) refl) (good_all t kinds roles agree instances same.1 within.1)

pub rows_long : (writers : List Writer) (signals : List Signal) → length (signal_rows writers signals) ≡ length signals
rows_long writers signals = length-map (enumerate_from 0 signals) (λ s. signal_row writers s.0 s.1) ∙ length-enumerate_from 0 signals

tables_long : (tables : TablesOf) (roles : List Role) (lines : List TraceLine) (flat : FlatTablesOf) → FollowsFrom tables roles lines flat → (e : Bool) → length (table e tables) ≡ length (cond e flat.de_signals flat.signals)
tables_long tables roles lines flat h true = sym (ap length h.signals.de_signals ∙ rows_long _ tables.event_signals)
tables_long tables roles lines flat h false = sym (ap length h.signals.signals ∙ rows_long _ tables.signals)

renamed : (tables : TablesOf) (roles : List Role) (lines : List TraceLine) (flat : FlatTablesOf) → FollowsFrom tables roles lines flat → (ports : List PortRow) → AllByRecursion (Reaches tables) ports
    → AllByRecursion (λ p. p.signal < length (cond (is_event_port p.kind) flat.de_signals flat.signals)) ports
renamed tables roles lines flat h [] k = tt
renamed tables roles lines flat h (p ∷ ports) k = (subst (λ n. p.signal < n) (tables_long tables roles lines flat h (is_event_port p.kind)) k.0, renamed tables roles lines flat h ports k.1)

pub ports_reach_signals : PortsAreInRange → PortsKeepKinds → PortsReachSignals
ports_reach_signals in_range keep kinds blocks top roles lines flat kept agree h =
    let t = h.tables in
    let same = recursion_from_All (λ (row : RowOf). map (λ (n : SignalNumber). n.event) row.signals ≡ kinds_of kinds row.block) t.instances (keep kinds blocks top t kept h.met) in
    let within = recursion_from_All (λ (row : RowOf). All (IsInRange t) row.signals) t.instances (in_range _ t h.met) in
    All-from_recursion (λ (p : PortRow). p.signal < length (cond (is_event_port p.kind) flat.de_signals flat.signals)) flat.ports
    (renamed t roles lines flat h.follows flat.ports
    (subst (AllByRecursion (Reaches t)) (sym h.follows.modules.ports) (all_reach t 0 (placed_modules roles t.instances) (good_all t kinds roles agree t.instances same within))))
