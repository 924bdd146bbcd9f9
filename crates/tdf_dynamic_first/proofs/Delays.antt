-- The initial samples of edges are those of two delays at most.
use Rattle.std.proofs.Common.{ℕ, ◌+◌, ◌*◌, ◌≤◌, zero, suc, List, [], ◌∷◌, ◌++◌, Option, Some, None, map, arith}
use Rattle.std.specs.List.{AllByRecursion, enumerate_from, cons_option}
use Rattle.std.specs.Prelude.{slice_get, filter_map}
use Rattle.tdf_base.specs.Limits.{greatest_delay}
use Rattle.tdf_bind_tables.specs.FlatTables.{IsShortRole}
use Rattle.tdf_lang_tree.specs.declared.blocks.PortKind.{PortKind}
use Rattle.tdf_lang_tree.specs.declared.blocks.PortKind.TheVariants.{In, Out, DeIn, DeOut}
use Rattle.tdf_bind_hierarchy.specs.Tables.{RowOf}
use Rattle.tdf_bind_connections.specs.Edges.{HasShortDelay, actor_at, driver_port, edge_from, driven_edge, edge_of_kind, edge_by, edges_of}
use Rattle.tdf_bind_connections.specs.Modules.{PlacedModule, as_module, placed_modules, port_row, module_ports, ports_from}
use Rattle.tdf_bind_connections.specs.declared.drivers.SignalRow.{SignalRow}
use Rattle.tdf_bind_connections.specs.declared.edges.EdgeRow.{EdgeRow}
use Rattle.tdf_bind_connections.specs.declared.modules.PortRow.{PortRow}
use Rattle.tdf_bind_connections.specs.declared.roles.PortData.{PortData}
use Rattle.tdf_bind_connections.specs.declared.roles.Role.{Role}
use Rattle.tdf_bind_connections.specs.declared.roles.Role.TheVariants.{Module, Processes, Composite}
use Rattle.std.proofs.lemmas.List.Elements.{recursion_from_All}

pub both : {X : Type 0} (P : X → Type 0) (xs ys : List X) → AllByRecursion P xs → AllByRecursion P ys → AllByRecursion P (xs ++ ys)
both P [] ys h k = k
both P (x ∷ xs) ys h k = (h.0, both P xs ys h.1 k)

-- the delays of ports
abbrev ShortPorts : PlacedModule → Type 0
ShortPorts m = AllByRecursion (λ (p : PortData). p.delay ≤ greatest_delay) m.role.ports

abbrev ShortPlaced : Option PlacedModule → Type 0
ShortPlaced None = Unit {0}
ShortPlaced (Some m) = ShortPorts m

abbrev ShortRole : Option Role → Type 0
ShortRole None = Unit {0}
ShortRole (Some r) = IsShortRole r

role_at : (roles : List Role) (k : ℕ) → AllByRecursion IsShortRole roles → ShortRole (slice_get roles k)
role_at [] k h = tt
role_at (r ∷ roles) zero h = h.0
role_at (r ∷ roles) (suc k) h = role_at roles k h.1

placed_one : (instance : RowOf) (o : Option Role) → ShortRole o → ShortPlaced (as_module instance o)
placed_one instance None h = tt
placed_one instance (Some (Module m)) h = recursion_from_All (λ (p : PortData). p.delay ≤ greatest_delay) m.ports h
placed_one instance (Some (Processes p)) h = tt
placed_one instance (Some Composite) h = tt

placed_cons : (o : Option PlacedModule) (ms : List PlacedModule) → ShortPlaced o → AllByRecursion ShortPorts ms → AllByRecursion ShortPorts (cons_option o ms)
placed_cons None ms h k = k
placed_cons (Some m) ms h k = (h, k)

placed_short : (roles : List Role) → AllByRecursion IsShortRole roles → (instances : List RowOf) → AllByRecursion ShortPorts (placed_modules roles instances)
placed_short roles h [] = tt
placed_short roles h (i ∷ instances) = placed_cons (as_module i (slice_get roles i.block)) (placed_modules roles instances) (placed_one i (slice_get roles i.block) (role_at roles i.block h)) (placed_short roles h instances)

short_one : (n : ℕ) (instance : RowOf) (k : ℕ) (ports : List PortData) → AllByRecursion (λ (p : PortData). p.delay ≤ greatest_delay) ports → AllByRecursion HasShortDelay (map (λ port. port_row n instance port.0 port.1) (enumerate_from k ports))
short_one n instance k [] h = tt
short_one n instance k (p ∷ ports) h = (h.0, short_one n instance (k + 1) ports h.1)

short_all : (n : ℕ) (ms : List PlacedModule) → AllByRecursion ShortPorts ms → AllByRecursion HasShortDelay (ports_from n ms)
short_all n [] h = tt
short_all n (m ∷ ms) h = both HasShortDelay (module_ports n m) (ports_from (n + 1) ms) (short_one n m.instance 0 m.role.ports h.0) (short_all (n + 1) ms h.1)

pub ports_short : (roles : List Role) (instances : List RowOf) → AllByRecursion IsShortRole roles → AllByRecursion HasShortDelay (ports_from 0 (placed_modules roles instances))
ports_short roles instances h = short_all 0 (placed_modules roles instances) (placed_short roles h instances)

-- the edges that they give
abbrev StartsFew : EdgeRow → Type 0
StartsFew edge = edge.initial ≤ 2 * greatest_delay

abbrev MayStart : Option EdgeRow → Type 0
MayStart None = Unit {0}
MayStart (Some edge) = StartsFew edge

abbrev MayBeShort : Option PortRow → Type 0
MayBeShort None = Unit {0}
MayBeShort (Some port) = HasShortDelay port

port_at : (ports : List PortRow) (n : ℕ) → AllByRecursion HasShortDelay ports → MayBeShort (slice_get ports n)
port_at [] n h = tt
port_at (p ∷ ports) zero h = h.0
port_at (p ∷ ports) (suc n) h = port_at ports n h.1

from_few : (number : ℕ) (port : PortRow) (out : ℕ) (driver : Option PortRow) → HasShortDelay port → MayBeShort driver → MayStart (edge_from number port out driver)
from_few number port out None h k = tt
from_few number port out (Some driver) h k = omega (arith, h, k)

module _ (all : List PortRow) (short : AllByRecursion HasShortDelay all) (signals : List SignalRow) where
  driven_few : (number : ℕ) (port : PortRow) (out : Option ℕ) → HasShortDelay port → MayStart (driven_edge all number port out)
  driven_few number port None h = tt
  driven_few number port (Some out) h = from_few number port out (slice_get all out) h (port_at all out short)

  kind_few : (kind : PortKind) (number actor : ℕ) (port : PortRow) → HasShortDelay port → MayStart (edge_of_kind kind signals all number actor port)
  kind_few In number actor port h = driven_few number port (driver_port signals port.signal) h
  kind_few Out number actor port h = tt
  kind_few DeIn number actor port h = omega (arith, h)
  kind_few DeOut number actor port h = omega (arith, h)

  edge_cons : (o : Option EdgeRow) (edges : List EdgeRow) → MayStart o → AllByRecursion StartsFew edges → AllByRecursion StartsFew (cons_option o edges)
  edge_cons None edges h k = k
  edge_cons (Some e) edges h k = (h, k)

  edges_few : (modules n : ℕ) (ports : List PortRow) → AllByRecursion HasShortDelay ports
      → AllByRecursion StartsFew (filter_map (λ port. edge_by signals all port.0 (actor_at modules all port.0) port.1) (enumerate_from n ports))
  edges_few modules n [] h = tt
  edges_few modules n (p ∷ ports) h = edge_cons (edge_by signals all n (actor_at modules all n) p)
      (filter_map (λ port. edge_by signals all port.0 (actor_at modules all port.0) port.1) (enumerate_from (n + 1) ports))
      (kind_few p.kind n (actor_at modules all n) p h.0) (edges_few modules (n + 1) ports h.1)

pub starts_few : (modules : ℕ) (signals : List SignalRow) (ports : List PortRow) → AllByRecursion HasShortDelay ports → AllByRecursion StartsFew (edges_of modules signals ports)
starts_few modules signals ports short = edges_few ports short signals modules 0 ports short
