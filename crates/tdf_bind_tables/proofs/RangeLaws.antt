-- The numbers in the tables of a flat model are those of rows.
use Rattle.std.proofs.Common.{◌≡◌, ◌∙◌, ℕ, ◌+◌, ◌<◌, ◌≤◌, zero, suc, List, [], ◌∷◌, Option, Some, None, IfSome, length, refl, sym, ap, map, subst, arith}
use Rattle.std.proofs.lemmas.List.{length-map}
use Rattle.std.proofs.lemmas.List.Elements.{All-from_recursion, recursion_from_All}
use Rattle.std.proofs.lemmas.Option.{slice_get_within}
use Rattle.std.specs.List.{enumerate_from, cons_option, AllByRecursion, range_with_len}
use Rattle.std.specs.Prelude.{slice_get, filter_map, All}
use Rattle.tdf_bind_tables.proofs.EdgeRanges.{edges_are_actors}
use Rattle.tdf_bind_tables.proofs.Joining.{ports_are_own, ports_are_short, both}
use Rattle.tdf_bind_tables.specs.Actors.{module_actor, port_actor, actor_of_kind, actor_places, actor_place, net_edge, AreActorEdges}
use Rattle.tdf_bind_tables.specs.FlatTables.{FlatTablesOf, AreShort, FollowsFrom}
use Rattle.tdf_bind_tables.specs.Ranges.{IsActorPort, AreInRange, FlatIsInRange}
use Rattle.tdf_bind_tables.specs.declared.actors.ActorPlace.{ActorPlace}
use Rattle.tdf_bind_tables.specs.declared.actors.ActorRow.{ActorRow}
use Rattle.tdf_graph.specs.Ranges.{IsEdge}
use Rattle.tdf_lang_tree.specs.declared.blocks.PortKind.{PortKind}
use Rattle.tdf_lang_tree.specs.declared.blocks.PortKind.TheVariants.{In, Out, DeIn, DeOut}
use Rattle.tdf_bind_hierarchy.specs.Tables.{TablesOf}
use Rattle.tdf_bind_connections.specs.Edges.{actor_at, driver_port, edge_from, driven_edge, edge_of_kind, edge_by}
use Rattle.tdf_bind_connections.specs.declared.drivers.SignalRow.{SignalRow}
use Rattle.tdf_bind_connections.specs.declared.edges.EdgeRow.{EdgeRow}
use Rattle.tdf_bind_connections.specs.declared.modules.PortRow.{PortRow}
use Rattle.tdf_bind_connections.specs.declared.roles.Role.{Role}
use Rattle.tdf_bind_connections.specs.declared.traces.TraceLine.{TraceLine}

-- an actor's place
abbrev FitsPlace : ℕ → ℕ → ActorPlace → Type 0
FitsPlace modules ports place = (place.«module» < modules) × IsActorPort ports place.kind place.port

modules_fit : (modules ports a n : ℕ) → a + n ≤ modules → AllByRecursion (FitsPlace modules ports) (map module_actor (range_with_len a n))
modules_fit modules ports a zero within = tt
modules_fit modules ports a (suc n) within = ((omega (arith, within), refl), modules_fit modules ports (a + 1) n (omega (arith, within)))

abbrev FitsOption : ℕ → ℕ → Option ActorPlace → Type 0
FitsOption modules ports None = Unit {0}
FitsOption modules ports (Some place) = FitsPlace modules ports place

kind_fits : (modules ports : ℕ) (kind : PortKind) (n : ℕ) (p : PortRow) → p.«module» < modules → n < ports → FitsOption modules ports (actor_of_kind kind n p)
kind_fits modules ports In n p own within = tt
kind_fits modules ports Out n p own within = tt
kind_fits modules ports DeIn n p own within = (own, within)
kind_fits modules ports DeOut n p own within = (own, within)

cons_fits : (modules ports : ℕ) (o : Option ActorPlace) (ps : List ActorPlace) → FitsOption modules ports o → AllByRecursion (FitsPlace modules ports) ps → AllByRecursion (FitsPlace modules ports) (cons_option o ps)
cons_fits modules ports None ps h k = k
cons_fits modules ports (Some p) ps h k = (h, k)

ports_fit : (modules count n : ℕ) (ports : List PortRow) → AllByRecursion (λ p. p.«module» < modules) ports → n + length ports ≤ count → AllByRecursion (FitsPlace modules count) (filter_map (λ p. port_actor p.0 p.1) (enumerate_from n ports))
ports_fit modules count n [] own within = tt
ports_fit modules count n (p ∷ ports) own within = cons_fits modules count (port_actor n p) (filter_map (λ q. port_actor q.0 q.1) (enumerate_from (n + 1) ports)) (kind_fits modules count p.kind n p own.0 (omega (arith, within)))
    (ports_fit modules count (n + 1) ports own.1 (omega (arith, within)))

places_fit : (modules : ℕ) (ports : List PortRow) → AllByRecursion (λ p. p.«module» < modules) ports → AllByRecursion (FitsPlace modules (length ports)) (actor_places modules ports)
places_fit modules ports own = both (FitsPlace modules (length ports)) (map module_actor (range_with_len 0 modules)) (filter_map (λ p. port_actor p.0 p.1) (enumerate_from 0 ports))
    (modules_fit modules (length ports) 0 modules (omega arith)) (ports_fit modules (length ports) 0 ports own (omega arith))

rows_fit : (modules ports : ℕ) (rows : List ActorRow) → AllByRecursion (FitsPlace modules ports) (map actor_place rows) → AllByRecursion (λ row. row.«module» < modules) rows × AllByRecursion (λ row. IsActorPort ports row.kind row.port) rows
rows_fit modules ports [] h = (tt, tt)
rows_fit modules ports (r ∷ rows) h = let more = rows_fit modules ports rows h.1 in ((h.0.0, more.0), (h.0.1, more.1))

-- an edge's ports
abbrev FitsEdge : ℕ → EdgeRow → Type 0
FitsEdge ports edge = (edge.port < ports) × IfSome edge.driver (λ port. port < ports)

abbrev FitsSome : ℕ → Option EdgeRow → Type 0
FitsSome ports None = Unit {0}
FitsSome ports (Some edge) = FitsEdge ports edge

from_fits : (whole : List PortRow) (n : ℕ) (p : PortRow) → n < length whole → (out : ℕ) (o : Option PortRow) → o ≡ slice_get whole out → FitsSome (length whole) (edge_from n p out o)
from_fits whole n p within out None is = tt
from_fits whole n p within out (Some d) is = (within, slice_get_within whole out d (sym is))

driven_fits : (whole : List PortRow) (n : ℕ) (p : PortRow) → n < length whole → (o : Option ℕ) → FitsSome (length whole) (driven_edge whole n p o)
driven_fits whole n p within None = tt
driven_fits whole n p within (Some out) = from_fits whole n p within out (slice_get whole out) refl

edge_fits : (signals : List SignalRow) (whole : List PortRow) (kind : PortKind) (n actor : ℕ) (p : PortRow) → n < length whole → FitsSome (length whole) (edge_of_kind kind signals whole n actor p)
edge_fits signals whole In n actor p within = driven_fits whole n p within (driver_port signals p.signal)
edge_fits signals whole Out n actor p within = tt
edge_fits signals whole DeIn n actor p within = (within, tt)
edge_fits signals whole DeOut n actor p within = (within, tt)

cons_edge : (ports : ℕ) (o : Option EdgeRow) (es : List EdgeRow) → FitsSome ports o → AllByRecursion (FitsEdge ports) es → AllByRecursion (FitsEdge ports) (cons_option o es)
cons_edge ports None es h k = k
cons_edge ports (Some e) es h k = (h, k)

edges_fit : (modules : ℕ) (signals : List SignalRow) (whole : List PortRow) (n : ℕ) (ports : List PortRow) → n + length ports ≤ length whole
    → AllByRecursion (FitsEdge (length whole)) (filter_map (λ p. edge_by signals whole p.0 (actor_at modules whole p.0) p.1) (enumerate_from n ports))
edges_fit modules signals whole n [] within = tt
edges_fit modules signals whole n (p ∷ ports) within = cons_edge (length whole) (edge_by signals whole n (actor_at modules whole n) p) (filter_map (λ q. edge_by signals whole q.0 (actor_at modules whole q.0) q.1) (enumerate_from (n + 1) ports))
    (edge_fits signals whole p.kind n (actor_at modules whole n) p (omega (arith, within))) (edges_fit modules signals whole (n + 1) ports (omega (arith, within)))

edge_parts : (ports : ℕ) (es : List EdgeRow) → AllByRecursion (FitsEdge ports) es → AllByRecursion (λ e. e.port < ports) es × AllByRecursion (λ e. IfSome e.driver (λ port. port < ports)) es
edge_parts ports [] h = (tt, tt)
edge_parts ports (e ∷ es) h = let more = edge_parts ports es h.1 in ((h.0.0, more.0), (h.0.1, more.1))

edge_ends : (count : ℕ) (es : List EdgeRow) → AllByRecursion (IsEdge count) (map net_edge es) → AllByRecursion (λ e. e.writer < count) es × AllByRecursion (λ e. e.reader < count) es
edge_ends count [] h = (tt, tt)
edge_ends count (e ∷ es) h = let more = edge_ends count es h.1 in ((h.0.writer, more.0), (h.0.reader, more.1))

ranges : (tables : TablesOf) (roles : List Role) (lines : List TraceLine) (flat : FlatTablesOf) → AreShort roles → FollowsFrom tables roles lines flat → AreInRange flat
ranges tables roles lines flat short h =
    let own = ports_are_own roles tables.instances (record { modules = flat.modules; ports = flat.ports }) h.modules in
    let narrow = ports_are_short roles tables.instances (record { modules = flat.modules; ports = flat.ports }) h.modules short in
    let owns = recursion_from_All (λ (p : PortRow). p.«module» < length flat.modules) flat.ports own in
    let rows = rows_fit (length flat.modules) (length flat.ports) flat.actors (subst (AllByRecursion (FitsPlace (length flat.modules) (length flat.ports))) (sym h.actors.places) (places_fit (length flat.modules) flat.ports owns)) in
    let fits = edge_parts (length flat.ports) flat.edges (subst (AllByRecursion (FitsEdge (length flat.ports))) (sym h.edges) (edges_fit (length flat.modules) flat.signals flat.ports 0 flat.ports (omega arith))) in
    let count = ap length (sym h.actors.places) ∙ length-map flat.actors actor_place in
    let actors = subst (λ n. All (IsEdge n) (map net_edge flat.edges)) count (subst (AreActorEdges (length flat.modules) flat.ports) (sym h.edges) (edges_are_actors (length flat.modules) flat.signals flat.ports narrow own)) in
    let ends = edge_ends (length flat.actors) flat.edges (recursion_from_All (IsEdge (length flat.actors)) (map net_edge flat.edges) actors) in
    record {
      port_modules = own;
      actor_modules = All-from_recursion (λ (r : ActorRow). r.«module» < length flat.modules) flat.actors rows.0;
      actor_ports = All-from_recursion (λ (r : ActorRow). IsActorPort (length flat.ports) r.kind r.port) flat.actors rows.1;
      edge_ports = All-from_recursion (λ (e : EdgeRow). e.port < length flat.ports) flat.edges fits.0;
      edge_drivers = All-from_recursion (λ (e : EdgeRow). IfSome e.driver (λ port. port < length flat.ports)) flat.edges fits.1;
      edge_writers = All-from_recursion (λ (e : EdgeRow). e.writer < length flat.actors) flat.edges ends.0;
      edge_readers = All-from_recursion (λ (e : EdgeRow). e.reader < length flat.actors) flat.edges ends.1;
    }

pub flat_is_in_range : FlatIsInRange
flat_is_in_range blocks top roles lines flat short h = ranges h.tables roles lines flat short h.follows
