-- The rows of modules, ports, instances of blocks of processes and events, by the instances of a model.
use Rattle.std.proofs.Common.{◌≡◌, ◌≢◌, ◌∙◌, ℕ, ◌+◌, ◌<◌, ◌≤◌, List, [], ◌∷◌, Option, Some, None, length, map, refl, sym, ap, subst, arith}
use Rattle.std.proofs.lemmas.List.{map-id}
use Rattle.std.proofs.lemmas.Option.{none-some, same_Some}
use Rattle.std.specs.List.{AllByRecursion, AllZip, cons_option, enumerate_from}
use Rattle.std.specs.Prelude.{slice_get}
use Rattle.tdf_bind.proofs.Lists.{Differ, all_append, all_at, all_map, all_mapped, differ_append, differ_by, weaker}
use Rattle.tdf_bind.proofs.PlainNames.{joined_is_plain, name_is_plain}
use Rattle.tdf_bind.proofs.RoleNames.{HasOwnEvents, HasRoleNames}
use Rattle.tdf_bind.specs.Flat.{trace_line}
use Rattle.tdf_bind.specs.Laws.{IsPlainPath}
use Rattle.tdf_bind_connections.specs.Modules.{PlacedModule, as_module, module_ports, placed_modules, port_row, ports_from}
use Rattle.tdf_bind_connections.specs.ProcessBlocks.{BlockRowOf, PlacedBlock, as_block, block_row, event_row, events_from, placed_blocks}
use Rattle.tdf_bind_connections.specs.Traces.{IsTraceOf}
use Rattle.tdf_bind_connections.specs.declared.blocks.EventRow.{EventRow}
use Rattle.tdf_bind_connections.specs.declared.modules.PortRow.{PortRow}
use Rattle.tdf_bind_connections.specs.declared.roles.PortData.{PortData}
use Rattle.tdf_bind_connections.specs.declared.roles.Role.{Role}
use Rattle.tdf_bind_connections.specs.declared.roles.Role.TheVariants.{Module, Processes, Composite}
use Rattle.tdf_bind_connections.specs.declared.traces.TraceRow.{TraceRow}
use Rattle.tdf_bind_hierarchy.specs.Met.{PlacedInstance}
use Rattle.tdf_bind_hierarchy.specs.Tables.{IsRowOf, RowOf, TablesOf}
use Rattle.tdf_lang_tree.specs.Kept.{Each, IsName, KeepsTrace}
use Rattle.tdf_lang_tree.specs.Pure.{PureTrace}

-- a row has the path of its instance
pub row_paths : (tables : TablesOf) (rows : List RowOf) (instances : List PlacedInstance) → AllZip (IsRowOf tables) rows instances
    → map (λ (row : RowOf). row.path) rows ≡ map (λ (instance : PlacedInstance). instance.path) instances
row_paths tables [] [] are = refl
row_paths tables [] (instance ∷ instances) are = absurd are
row_paths tables (row ∷ rows) [] are = absurd are
row_paths tables (row ∷ rows) (instance ∷ instances) are =
    ap (λ path. path ∷ map (λ (r : RowOf). r.path) rows) are.0.path ∙ ap (λ l. instance.path ∷ l) (row_paths tables rows instances are.1)

pub block_there : (instance : RowOf) (o : Option Role) (placed : PlacedBlock) → as_block instance o ≡ Some placed → instance.path ≡ placed.instance.path
block_there instance None placed is = absurd (none-some placed is)
block_there instance (Some (Module role)) placed is = absurd (none-some placed is)
block_there instance (Some (Processes role)) placed is = ap (λ (p : PlacedBlock). p.instance.path) (same_Some (record { instance = instance; role = role }) placed is)
block_there instance (Some Composite) placed is = absurd (none-some placed is)

pub module_there : (instance : RowOf) (o : Option Role) (placed : PlacedModule) → as_module instance o ≡ Some placed → instance.path ≡ placed.instance.path
module_there instance None placed is = absurd (none-some placed is)
module_there instance (Some (Module role)) placed is = ap (λ (p : PlacedModule). p.instance.path) (same_Some (record { instance = instance; role = role }) placed is)
module_there instance (Some (Processes role)) placed is = absurd (none-some placed is)
module_there instance (Some Composite) placed is = absurd (none-some placed is)

-- the roles of instances are those of the model
abbrev HasPortNames : PlacedModule → Type 0
HasPortNames placed = AllByRecursion (λ (port : PortData). IsName port.name) placed.role.ports

module _ (roles : List Role) (named : AllByRecursion HasRoleNames roles) where
  pub blocks_named : (instances : List RowOf) → AllByRecursion (λ (placed : PlacedBlock). HasOwnEvents placed.role) (placed_blocks roles instances)
  blocks_named [] = tt
  blocks_named (instance ∷ instances) = go (slice_get roles instance.block) refl (blocks_named instances)
    where
      go : (o : Option Role) → slice_get roles instance.block ≡ o → AllByRecursion (λ (placed : PlacedBlock). HasOwnEvents placed.role) (placed_blocks roles instances)
          → AllByRecursion (λ (placed : PlacedBlock). HasOwnEvents placed.role) (cons_option (as_block instance o) (placed_blocks roles instances))
      go None is rest = rest
      go (Some (Module role)) is rest = rest
      go (Some (Processes role)) is rest = (all_at HasRoleNames roles instance.block (Processes role) named is, rest)
      go (Some Composite) is rest = rest

  pub modules_named : (instances : List RowOf) → AllByRecursion HasPortNames (placed_modules roles instances)
  modules_named [] = tt
  modules_named (instance ∷ instances) = go (slice_get roles instance.block) refl (modules_named instances)
    where
      go : (o : Option Role) → slice_get roles instance.block ≡ o → AllByRecursion HasPortNames (placed_modules roles instances)
          → AllByRecursion HasPortNames (cons_option (as_module instance o) (placed_modules roles instances))
      go None is rest = rest
      go (Some (Module role)) is rest = (all_at HasRoleNames roles instance.block (Module role) named is, rest)
      go (Some (Processes role)) is rest = rest
      go (Some Composite) is rest = rest

pub block_rows : (placed : List PlacedBlock) → map (λ (row : BlockRowOf). row.path) (map block_row placed) ≡ map (λ (p : PlacedBlock). p.instance.path) placed
block_rows [] = refl
block_rows (p ∷ placed) = ap (λ l. p.instance.path ∷ l) (block_rows placed)

-- events: their owners come one after the other
owners_from : (least owner : ℕ) → least ≤ owner → (placed : List PlacedBlock) → AllByRecursion (λ (row : EventRow). least ≤ row.owner) (events_from owner placed)
owners_from least owner from [] = tt
owners_from least owner from (p ∷ placed) =
    all_append (λ (row : EventRow). least ≤ row.owner) (map (event_row owner) p.role.events) (events_from (owner + 1) placed)
    (all_map (λ (row : EventRow). least ≤ row.owner) (event_row owner) (λ name. from) p.role.events)
    (owners_from least (owner + 1) (omega (arith, from)) placed)

pub owners_below : (end owner : ℕ) (placed : List PlacedBlock) → owner + length placed ≤ end → AllByRecursion (λ (row : EventRow). row.owner < end) (events_from owner placed)
owners_below end owner [] fits = tt
owners_below end owner (p ∷ placed) fits =
    all_append (λ (row : EventRow). row.owner < end) (map (event_row owner) p.role.events) (events_from (owner + 1) placed)
    (all_map (λ (row : EventRow). row.owner < end) (event_row owner) (λ name. omega (arith, fits)) p.role.events)
    (owners_below end (owner + 1) placed (omega (arith, fits)))

pub events_apart : (owner : ℕ) (placed : List PlacedBlock) → AllByRecursion (λ (p : PlacedBlock). HasOwnEvents p.role) placed → Differ (events_from owner placed)
events_apart owner [] have = tt
events_apart owner (p ∷ placed) have =
    let later = events_from (owner + 1) placed in
    differ_append (map (event_row owner) p.role.events) later
    (differ_by (λ (name : List ℕ). name) (event_row owner) (λ one other same. ap (λ (row : EventRow). row.name) same) p.role.events (subst Differ (sym (map-id p.role.events)) have.0.once))
    (events_apart (owner + 1) placed have.1)
    (all_map (λ one. AllByRecursion (λ other. one ≢ other) later) (event_row owner)
    (λ name. weaker (λ (row : EventRow). owner + 1 ≤ row.owner) (λ row. event_row owner name ≢ row) (λ row above same. apart_owners owner row.owner above (ap (λ (r : EventRow). r.owner) same)) later
    (owners_from (owner + 1) (owner + 1) (omega arith) placed))
    p.role.events)
  where
    apart_owners : (one other : ℕ) → one + 1 ≤ other → one ≡ other → ⊥
    apart_owners one other above same = omega (arith, above, same)

pub events_named : (owner : ℕ) (placed : List PlacedBlock) → AllByRecursion (λ (p : PlacedBlock). HasOwnEvents p.role) placed → AllByRecursion (λ (row : EventRow). IsName row.name) (events_from owner placed)
events_named owner [] have = tt
events_named owner (p ∷ placed) have =
    all_append (λ (row : EventRow). IsName row.name) (map (event_row owner) p.role.events) (events_from (owner + 1) placed)
    (all_mapped (λ (row : EventRow). IsName row.name) (event_row owner) p.role.events have.0.named)
    (events_named (owner + 1) placed have.1)

-- ports
one_ports : (number : ℕ) (instance : RowOf) → IsPlainPath instance.path → (place : ℕ) (ports : List PortData) → AllByRecursion (λ (port : PortData). IsName port.name) ports
    → AllByRecursion (λ (row : PortRow). IsPlainPath row.path) (map (λ port. port_row number instance port.0 port.1) (enumerate_from place ports))
one_ports number instance plain place [] named = tt
one_ports number instance plain place (port ∷ ports) named =
    (joined_is_plain instance.path port.name plain (name_is_plain port.name named.0), one_ports number instance plain (place + 1) ports named.1)

pub ports_plain : (number : ℕ) (placed : List PlacedModule) → AllByRecursion (λ (p : PlacedModule). IsPlainPath p.instance.path) placed → AllByRecursion HasPortNames placed
    → AllByRecursion (λ (row : PortRow). IsPlainPath row.path) (ports_from number placed)
ports_plain number [] plain named = tt
ports_plain number (p ∷ placed) plain named =
    all_append (λ (row : PortRow). IsPlainPath row.path) (module_ports number p) (ports_from (number + 1) placed)
    (one_ports number p.instance plain.0 0 p.role.ports named.0)
    (ports_plain (number + 1) placed plain.1 named.1)

-- traces
pub labels_kept : (tables : TablesOf) (rows : List TraceRow) (traces : List PureTrace) → AllZip (IsTraceOf tables) rows (map trace_line traces) → Each KeepsTrace traces
    → AllByRecursion (λ (row : TraceRow). IsName row.label) rows
labels_kept tables [] traces are kept = tt
labels_kept tables (row ∷ rows) [] are kept = absurd are
labels_kept tables (row ∷ rows) (trace ∷ traces) are kept = (subst IsName (sym are.0.label) kept.0.1, labels_kept tables rows traces are.1 kept.1)
