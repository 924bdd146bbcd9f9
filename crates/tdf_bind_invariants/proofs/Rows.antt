-- The numbers in the rows of modules, of ports and of edges lie within their limits.
use Rattle.std.proofs.Common.{◌≡◌, ◌∙◌, ℕ, suc, zero, ◌+◌, ◌*◌, ◌<◌, ◌≤◌, List, [], ◌∷◌, ◌++◌, Option, Some, None, map, ap, arith}
use Rattle.std.proofs.lemmas.List.Elements.{All-from_recursion}
use Rattle.std.specs.List.{AllByRecursion, cons_option, enumerate_from}
use Rattle.std.specs.Prelude.{All, filter_map, slice_get}
use Rattle.tdf_base.specs.Limits.{greatest_delay, time_end}
use Rattle.tdf_expr.specs.Frames.{limits_of_rate}
use Rattle.tdf_expr.specs.Made.{block_count, rate_spans_of, start_rates}
use Rattle.tdf_expr.specs.declared.checked.Checked.{Checked}
use Rattle.tdf_bind_invariants.proofs.Roles.{IsModuleWithin, IsPortWithin, IsRoleWithin}
use Rattle.tdf_bind_invariants.specs.Limits.{IsAlwaysRate, limits_in}
use Rattle.tdf_expr_semantics.specs.Fits.{RatesFit}
use Rattle.tdf_lang_tree.specs.declared.blocks.PortKind.{PortKind}
use Rattle.tdf_lang_tree.specs.declared.blocks.PortKind.TheVariants.{In, Out, DeIn, DeOut}
use Rattle.tdf_bind_hierarchy.specs.Tables.{RowOf}
use Rattle.tdf_bind_connections.specs.Edges.{actor_at, driven_edge, driver_port, edge_by, edge_from, edge_of_kind, edges_of}
use Rattle.tdf_bind_connections.specs.Modules.{PlacedModule, as_module, module_ports, module_row, placed_modules, port_row, ports_from}
use Rattle.tdf_bind_connections.specs.declared.drivers.SignalRow.{SignalRow}
use Rattle.tdf_bind_connections.specs.declared.edges.EdgeRow.{EdgeRow}
use Rattle.tdf_bind_connections.specs.declared.modules.ModuleRow.{ModuleRow}
use Rattle.tdf_bind_connections.specs.declared.modules.PortRow.{PortRow}
use Rattle.tdf_bind_connections.specs.declared.roles.PortData.{PortData}
use Rattle.tdf_bind_connections.specs.declared.roles.Role.{Role}
use Rattle.tdf_bind_connections.specs.declared.roles.Role.TheVariants.{Module, Processes, Composite}

-- the instances of modules
abbrev pub ArePlacedWithin : Checked → List PlacedModule → Type 0
ArePlacedWithin checked ms = AllByRecursion (λ (m : PlacedModule). IsModuleWithin checked m.role) ms

abbrev IsPlacedWithin : Checked → Option PlacedModule → Type 0
IsPlacedWithin checked None = Unit {0}
IsPlacedWithin checked (Some m) = IsModuleWithin checked m.role

abbrev IsSomeWithin : Checked → Option Role → Type 0
IsSomeWithin checked None = Unit {0}
IsSomeWithin checked (Some role) = IsRoleWithin checked role

role_at : (checked : Checked) (roles : List Role) (k : ℕ) → AllByRecursion (IsRoleWithin checked) roles → IsSomeWithin checked (slice_get roles k)
role_at checked [] k all = tt
role_at checked (role ∷ roles) zero all = all.0
role_at checked (role ∷ roles) (suc k) all = role_at checked roles k all.1

placed_one : (checked : Checked) (instance : RowOf) (o : Option Role) → IsSomeWithin checked o → IsPlacedWithin checked (as_module instance o)
placed_one checked instance None is = tt
placed_one checked instance (Some (Module role)) is = is
placed_one checked instance (Some (Processes role)) is = tt
placed_one checked instance (Some Composite) is = tt

placed_cons : (checked : Checked) (o : Option PlacedModule) (ms : List PlacedModule) → IsPlacedWithin checked o → ArePlacedWithin checked ms → ArePlacedWithin checked (cons_option o ms)
placed_cons checked None ms is all = all
placed_cons checked (Some m) ms is all = (is, all)

pub placed_within : (checked : Checked) (roles : List Role) → AllByRecursion (IsRoleWithin checked) roles → (instances : List RowOf) → ArePlacedWithin checked (placed_modules roles instances)
placed_within checked roles all [] = tt
placed_within checked roles all (i ∷ instances) =
    placed_cons checked (as_module i (slice_get roles i.block)) (placed_modules roles instances) (placed_one checked i (slice_get roles i.block) (role_at checked roles i.block all))
    (placed_within checked roles all instances)

-- the rows of modules
pub record IsRowWithin (checked : Checked) (row : ModuleRow) : Type 0 where
  pub step : row.step < time_end
  pub block : row.block < block_count checked

pub modules_within : (checked : Checked) (ms : List PlacedModule) → ArePlacedWithin checked ms → AllByRecursion (IsRowWithin checked) (map module_row ms)
modules_within checked [] all = tt
modules_within checked (m ∷ ms) all = (record { step = all.0.step; block = all.0.block }, modules_within checked ms all.1)

both : {X : Type 0} (P : X → Type 0) (xs ys : List X) → AllByRecursion P xs → AllByRecursion P ys → AllByRecursion P (xs ++ ys)
both P [] ys first second = second
both P (x ∷ xs) ys first second = (first.0, both P xs ys first.1 second)

-- the rows of ports, each by the row of its module
pub record IsPortRowWithin (checked : Checked) (modules : List ModuleRow) (port : PortRow) : Type 0 where
  pub row : ModuleRow
  pub at : slice_get modules port.«module» ≡ Some row
  pub delay : port.delay ≤ greatest_delay
  pub step : port.step < time_end
  pub starts : RatesFit (limits_in checked (Some row)) (start_rates checked row.block)
  pub rate : IsAlwaysRate (limits_in checked (Some row)) port.rate

row_ports : (checked : Checked) (modules : List ModuleRow) (number : ℕ) (m : PlacedModule) → slice_get modules number ≡ Some (module_row m)
    → RatesFit (map limits_of_rate (rate_spans_of checked m.role.block)) (start_rates checked m.role.block) → (place : ℕ) (ports : List PortData)
    → AllByRecursion (IsPortWithin (map limits_of_rate (rate_spans_of checked m.role.block))) ports
    → AllByRecursion (IsPortRowWithin checked modules) (map (λ port. port_row number m.instance port.0 port.1) (enumerate_from place ports))
row_ports checked modules number m at starts place [] all = tt
row_ports checked modules number m at starts place (port ∷ ports) all = (
  record { row = module_row m; at = at; delay = all.0.delay; step = all.0.step; starts = starts; rate = all.0.rate },
  row_ports checked modules number m at starts (place + 1) ports all.1,
)

pub ports_within : (checked : Checked) (modules : List ModuleRow) (number : ℕ) (ms : List PlacedModule) → ((n : ℕ) → slice_get modules (number + n) ≡ slice_get (map module_row ms) n)
    → ArePlacedWithin checked ms → AllByRecursion (IsPortRowWithin checked modules) (ports_from number ms)
ports_within checked modules number [] at all = tt
ports_within checked modules number (m ∷ ms) at all =
    let here : number ≡ number + 0 = omega arith in
    both (IsPortRowWithin checked modules) (module_ports number m) (ports_from (number + 1) ms)
    (row_ports checked modules number m (ap (slice_get modules) here ∙ at 0) all.0.starts 0 m.role.ports all.0.ports)
    (ports_within checked modules (number + 1) ms next all.1)
  where
    next : (n : ℕ) → slice_get modules (number + 1 + n) ≡ slice_get (map module_row ms) n
    next n = let later : number + 1 + n ≡ number + suc n = omega arith in ap (slice_get modules) later ∙ at (suc n)

-- the rows of edges
abbrev IsStartShort : EdgeRow → Type 0
IsStartShort edge = edge.initial ≤ 2 * greatest_delay

abbrev IsStartShortIn : Option EdgeRow → Type 0
IsStartShortIn None = Unit {0}
IsStartShortIn (Some edge) = IsStartShort edge

abbrev IsDelayShortIn : Option PortRow → Type 0
IsDelayShortIn None = Unit {0}
IsDelayShortIn (Some port) = port.delay ≤ greatest_delay

abbrev AreDelaysShort : List PortRow → Type 0
AreDelaysShort ports = AllByRecursion (λ (p : PortRow). p.delay ≤ greatest_delay) ports

port_at : (ports : List PortRow) (k : ℕ) → AreDelaysShort ports → IsDelayShortIn (slice_get ports k)
port_at [] k short = tt
port_at (p ∷ ports) zero short = short.0
port_at (p ∷ ports) (suc k) short = port_at ports k short.1

from_driver : (n : ℕ) (p : PortRow) (out : ℕ) (o : Option PortRow) → p.delay ≤ greatest_delay → IsDelayShortIn o → IsStartShortIn (edge_from n p out o)
from_driver n p out None mine theirs = tt
from_driver n p out (Some driver) mine theirs = omega (arith, mine, theirs)

driven : (whole : List PortRow) → AreDelaysShort whole → (n : ℕ) (p : PortRow) (o : Option ℕ) → p.delay ≤ greatest_delay → IsStartShortIn (driven_edge whole n p o)
driven whole short n p None mine = tt
driven whole short n p (Some out) mine = from_driver n p out (slice_get whole out) mine (port_at whole out short)

edge_short : (signals : List SignalRow) (whole : List PortRow) → AreDelaysShort whole → (kind : PortKind) (n actor : ℕ) (p : PortRow) → p.delay ≤ greatest_delay
    → IsStartShortIn (edge_of_kind kind signals whole n actor p)
edge_short signals whole short In n actor p mine = driven whole short n p (driver_port signals p.signal) mine
edge_short signals whole short Out n actor p mine = tt
edge_short signals whole short DeIn n actor p mine = omega (arith, mine)
edge_short signals whole short DeOut n actor p mine = omega (arith, mine)

edge_cons : (o : Option EdgeRow) (edges : List EdgeRow) → IsStartShortIn o → AllByRecursion IsStartShort edges → AllByRecursion IsStartShort (cons_option o edges)
edge_cons None edges is all = all
edge_cons (Some edge) edges is all = (is, all)

edges_from : (modules : ℕ) (signals : List SignalRow) (whole : List PortRow) → AreDelaysShort whole → (n : ℕ) (ports : List PortRow) → AreDelaysShort ports
    → AllByRecursion IsStartShort (filter_map (λ p. edge_by signals whole p.0 (actor_at modules whole p.0) p.1) (enumerate_from n ports))
edges_from modules signals whole short n [] own = tt
edges_from modules signals whole short n (p ∷ ports) own =
    edge_cons (edge_by signals whole n (actor_at modules whole n) p) (filter_map (λ q. edge_by signals whole q.0 (actor_at modules whole q.0) q.1) (enumerate_from (n + 1) ports))
    (edge_short signals whole short p.kind n (actor_at modules whole n) p own.0) (edges_from modules signals whole short (n + 1) ports own.1)

-- the edges of ports whose delays are short
pub edges_within : (checked : Checked) (rows : List ModuleRow) (modules : ℕ) (signals : List SignalRow) (ports : List PortRow)
    → AllByRecursion (IsPortRowWithin checked rows) ports → All (λ (e : EdgeRow). e.initial ≤ 2 * greatest_delay) (edges_of modules signals ports)
edges_within checked rows modules signals ports all =
    All-from_recursion IsStartShort (edges_of modules signals ports) (edges_from modules signals ports (short ports all) 0 ports (short ports all))
  where
    short : (ps : List PortRow) → AllByRecursion (IsPortRowWithin checked rows) ps → AreDelaysShort ps
    short [] each = tt
    short (p ∷ ps) each = (each.0.delay, short ps each.1)
