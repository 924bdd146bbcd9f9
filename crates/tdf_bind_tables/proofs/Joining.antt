-- The tables put together.
use Rattle.std.proofs.Common.{◌≡◌, ◌∙◌, ℕ, ◌+◌, ◌<◌, ◌≤◌, zero, suc, List, [], ◌∷◌, ◌++◌, false, Option, Some, None, Result, Ok, Err, IfOk, IfErr, length, take, sym, ap, map, max, subst, arith}
use Rattle.std.proofs.Math.ListN.{get_or}
use Rattle.std.proofs.lemmas.List.{take_more, map-append, length-map}
use Rattle.std.proofs.lemmas.List.Elements.{All-from_recursion, recursion_from_All}
use Rattle.std.specs.List.{enumerate_from, cons_option, AllByRecursion, AllZip}
use Rattle.std.specs.Prelude.{slice_get, All}
use Rattle.tdf_base.specs.Limits.{greatest_delay}
use Rattle.tdf_bind_tables.specs.Actors.{cluster_of}
use Rattle.tdf_bind_tables.specs.FlatTables.{IsShortRole, AreShort, FlatTablesOf, FollowsFrom, HasManyClusters, OfClusters, IsFlatRefusal, ports_in, count_in, signals_in, edges_in}
use Rattle.tdf_bind_tables.specs.declared.actors.ActorRow.{ActorRow}
use Rattle.tdf_graph.specs.Clusters.{greatest}
use Rattle.tdf_bind_tables.specs.declared.flat.BindErr.{BindErr}
use Rattle.tdf_bind_tables.specs.declared.flat.BindErr.TheVariants as bind
use Rattle.tdf_bind_tables.specs.machine.FlatSteps.{IsAssembled, IsGraphErr, IsFirstErr}
use Rattle.tdf_bind_hierarchy.specs.Blocks.{BlockOf}
use Rattle.tdf_bind_hierarchy.specs.Met.{met_in}
use Rattle.tdf_bind_hierarchy.specs.Tables.{RowOf, TablesOf, IsTable}
use Rattle.tdf_bind_connections.specs.Drivers.{writers_in, misdriven, signal_rows, AreSignals, SignalsOf}
use Rattle.tdf_bind_connections.specs.ProcessBlocks.{ProcessBlocksOf, AreProcessBlocks}
use Rattle.tdf_bind_connections.specs.Traces.{IsTraceOf, unknown_lines}
use Rattle.tdf_bind_connections.specs.declared.drivers.SignalRow.{SignalRow}
use Rattle.tdf_bind_connections.specs.declared.traces.TraceLine.{TraceLine}
use Rattle.tdf_bind_connections.specs.declared.traces.TraceRow.{TraceRow}
use Rattle.tdf_bind_connections.specs.Edges.{HasShortDelay, edges_of}
use Rattle.tdf_bind_connections.specs.Modules.{PlacedModule, as_module, placed_modules, module_row, port_row, module_ports, ports_from, ModulesOf, AreModules}
use Rattle.tdf_bind_connections.specs.declared.modules.PortRow.{PortRow}
use Rattle.tdf_bind_connections.specs.declared.roles.PortData.{PortData}
use Rattle.tdf_bind_connections.specs.declared.roles.Role.{Role}
use Rattle.tdf_bind_connections.specs.declared.roles.Role.TheVariants.{Module, Processes, Composite}

greatest_push : (ns : List ℕ) (n : ℕ) → greatest (ns ++ n ∷ []) ≡ max n (greatest ns)
greatest_push [] n = omega arith
greatest_push (m ∷ ns) n = let e = greatest_push ns n in omega (arith, e)

pub most_next : (actors : List ActorRow) (i : ℕ) (d : ActorRow) (most next : ℕ) → i < length actors → most ≡ greatest (map cluster_of (take i actors)) → next ≡ max (get_or actors i d).cluster most → next ≡ greatest (map cluster_of (take (i + 1) actors))
most_next actors i d most next within h next_is = next_is ∙ ap (λ m. max (get_or actors i d).cluster m) h ∙ sym (greatest_push (map cluster_of (take i actors)) (get_or actors i d).cluster)
    ∙ ap greatest (sym (map-append cluster_of (take i actors) (get_or actors i d ∷ []))) ∙ ap (λ l. greatest (map cluster_of l)) (sym (take_more actors i d within))

pub both : {X : Type 0} (P : X → Type 0) (xs ys : List X) → AllByRecursion P xs → AllByRecursion P ys → AllByRecursion P (xs ++ ys)
both P [] ys h k = k
both P (x ∷ xs) ys h k = (h.0, both P xs ys h.1 k)

-- the modules of ports
own_one : (bound n : ℕ) (instance : RowOf) (k : ℕ) (ports : List PortData) → n < bound → AllByRecursion (λ (p : PortRow). p.«module» < bound) (map (λ port. port_row n instance port.0 port.1) (enumerate_from k ports))
own_one bound n instance k [] within = tt
own_one bound n instance k (p ∷ ports) within = (within, own_one bound n instance (k + 1) ports within)

own_all : (bound n : ℕ) (ms : List PlacedModule) → n + length ms ≤ bound → AllByRecursion (λ (p : PortRow). p.«module» < bound) (ports_from n ms)
own_all bound n [] within = tt
own_all bound n (m ∷ ms) within = both (λ (p : PortRow). p.«module» < bound) (module_ports n m) (ports_from (n + 1) ms) (own_one bound n m.instance 0 m.role.ports (omega (arith, within))) (own_all bound (n + 1) ms (omega (arith, within)))

pub ports_are_own : (roles : List Role) (instances : List RowOf) (t : ModulesOf) → AreModules roles instances t → All (λ (p : PortRow). p.«module» < length t.modules) t.ports
ports_are_own roles instances t h = All-from_recursion (λ (p : PortRow). p.«module» < length t.modules) t.ports
    (subst (AllByRecursion (λ (p : PortRow). p.«module» < length t.modules)) (sym h.ports)
    (own_all (length t.modules) 0 (placed_modules roles instances) (let e = ap length h.modules ∙ length-map (placed_modules roles instances) module_row in omega (arith, e))))

-- the delays of ports

abbrev ShortPlaced : Option PlacedModule → Type 0
ShortPlaced None = Unit {0}
ShortPlaced (Some m) = AllByRecursion (λ (p : PortData). p.delay ≤ greatest_delay) m.role.ports

abbrev ShortRole : Option Role → Type 0
ShortRole None = Unit {0}
ShortRole (Some role) = IsShortRole role

role_at : (roles : List Role) (k : ℕ) → AllByRecursion IsShortRole roles → ShortRole (slice_get roles k)
role_at [] k h = tt
role_at (r ∷ roles) zero h = h.0
role_at (r ∷ roles) (suc k) h = role_at roles k h.1

placed_one : (instance : RowOf) (o : Option Role) → ShortRole o → ShortPlaced (as_module instance o)
placed_one instance None h = tt
placed_one instance (Some (Module role)) h = recursion_from_All (λ (p : PortData). p.delay ≤ greatest_delay) role.ports h
placed_one instance (Some (Processes role)) h = tt
placed_one instance (Some Composite) h = tt

placed_cons : (o : Option PlacedModule) (ms : List PlacedModule) → ShortPlaced o → AllByRecursion (λ m. ShortPlaced (Some m)) ms → AllByRecursion (λ m. ShortPlaced (Some m)) (cons_option o ms)
placed_cons None ms h k = k
placed_cons (Some m) ms h k = (h, k)

placed_short : (roles : List Role) → AllByRecursion IsShortRole roles → (instances : List RowOf) → AllByRecursion (λ m. ShortPlaced (Some m)) (placed_modules roles instances)
placed_short roles h [] = tt
placed_short roles h (i ∷ instances) = placed_cons (as_module i (slice_get roles i.block)) (placed_modules roles instances) (placed_one i (slice_get roles i.block) (role_at roles i.block h)) (placed_short roles h instances)

short_one : (n : ℕ) (instance : RowOf) (k : ℕ) (ports : List PortData) → AllByRecursion (λ (p : PortData). p.delay ≤ greatest_delay) ports → AllByRecursion HasShortDelay (map (λ port. port_row n instance port.0 port.1) (enumerate_from k ports))
short_one n instance k [] h = tt
short_one n instance k (p ∷ ports) h = (h.0, short_one n instance (k + 1) ports h.1)

short_all : (n : ℕ) (ms : List PlacedModule) → AllByRecursion (λ m. ShortPlaced (Some m)) ms → AllByRecursion HasShortDelay (ports_from n ms)
short_all n [] h = tt
short_all n (m ∷ ms) h = both HasShortDelay (module_ports n m) (ports_from (n + 1) ms) (short_one n m.instance 0 m.role.ports h.0) (short_all (n + 1) ms h.1)

pub ports_are_short : (roles : List Role) (instances : List RowOf) (t : ModulesOf) → AreModules roles instances t → AreShort roles → All HasShortDelay t.ports
ports_are_short roles instances t h short = All-from_recursion HasShortDelay t.ports
    (subst (AllByRecursion HasShortDelay) (sym h.ports) (short_all 0 (placed_modules roles instances) (placed_short roles (recursion_from_All IsShortRole roles short) instances)))

-- more of what holds of a result
pub if_ok_more : {A E : Type 0} {P Q : A → Type 0} → ((a : A) → P a → Q a) → (r : Result A E) → IfOk r P → IfOk r Q
if_ok_more f (Ok a) h = f a h
if_ok_more f (Err e) h = tt

pub if_err_more : {A E : Type 0} {P Q : E → Type 0} → ((e : E) → P e → Q e) → (r : Result A E) → IfErr r P → IfErr r Q
if_err_more f (Ok a) h = tt
if_err_more f (Err e) h = f e h

pub follows : (tables : TablesOf) (roles : List Role) (lines : List TraceLine) (m : ModulesOf) (b : ProcessBlocksOf) (s : SignalsOf) (traces : List TraceRow) → AreModules roles tables.instances m → AreProcessBlocks roles tables.instances b
    → AreSignals (writers_in roles tables m.ports) tables.signals tables.event_signals s → AllZip (IsTraceOf tables) traces lines → misdriven roles tables m.ports ≡ []
    → (flat : FlatTablesOf) → IsAssembled m b s traces flat → FollowsFrom tables roles lines flat
follows tables roles lines m b s traces modules blocks signals are fine flat h = subst (FollowsFrom tables roles lines) (sym h.same) (record {
  modules = modules;
  blocks = blocks;
  signals = signals;
  edges = h.edges;
  actors = h.actors;
  traces = are;
  drivers = fine;
  clusters = h.clusters;
})

many : (roles : List Role) (tables : TablesOf) (count : ℕ) (ports : List PortRow) (signals : List SignalRow) → signals ≡ signal_rows (writers_in roles tables ports false) tables.signals → ports ≡ ports_in roles tables → count ≡ count_in roles tables
    → HasManyClusters count ports (edges_of count signals ports) → HasManyClusters (count_in roles tables) (ports_in roles tables) (edges_in roles tables)
many roles tables count ports signals signals_are ports_are count_is h =
    subst (λ c. HasManyClusters c (ports_in roles tables) (edges_of c (signals_in roles tables) (ports_in roles tables))) count_is
    (subst (λ p. HasManyClusters count p (edges_of count (signal_rows (writers_in roles tables p false) tables.signals) p)) ports_are
    (subst (λ l. HasManyClusters count ports (edges_of count l ports)) signals_are h))

pub is_first : (roles : List Role) (tables : TablesOf) (lines : List TraceLine) (m : ModulesOf) (s : SignalsOf) → AreModules roles tables.instances m → AreSignals (writers_in roles tables m.ports) tables.signals tables.event_signals s
    → misdriven roles tables m.ports ≡ [] → unknown_lines tables lines ≡ [] → (e : BindErr) → IsGraphErr m s e → IsFirstErr roles tables lines e
is_first roles tables lines m s modules signals fine known (bind.Refused fault) h =
    OfClusters (ap (misdriven roles tables) (sym modules.ports) ∙ fine) known
    (many roles tables (length m.modules) m.ports s.signals signals.signals modules.ports (ap length modules.modules ∙ length-map (placed_modules roles tables.instances) module_row) h.1) h.0
is_first roles tables lines m s modules signals fine known bind.Memory h = tt

pub has_fault : (blocks : List BlockOf) (top : ℕ) (roles : List Role) (tables : TablesOf) (lines : List TraceLine) → IsTable (met_in blocks top) tables → (e : BindErr) → IsFirstErr roles tables lines e → IsFlatRefusal blocks top roles lines e
has_fault blocks top roles tables lines met (bind.Refused fault) h = record { tables = tables; met = met; first = h }
has_fault blocks top roles tables lines met bind.Memory h = tt
