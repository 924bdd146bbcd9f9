-- The clusters of a flat model can be planned.
use Rattle.std.proofs.Common.{◌≡◌, ◌∙◌, ℕ, ◌+◌, ◌*◌, ◌<◌, ◌≤◌, zero, suc, List, [], ◌∷◌, Option, Some, None, length, refl, sym, ap, map, subst, arith}
use Rattle.std.proofs.lemmas.List.Elements.{All-from_recursion, recursion_from_All}
use Rattle.std.specs.List.{AllByRecursion, enumerate_from, cons_option}
use Rattle.std.specs.Prelude.{slice_get}
use Rattle.tdf_base.specs.Limits.{time_end, greatest_delay}
use Rattle.tdf_dynamic_first.proofs.Delays.{both, ports_short, starts_few}
use Rattle.tdf_bind_tables.specs.FlatTables.{IsShortRole, AreShort}
use Rattle.tdf_bind_tables.specs.Ranges.{FlatIsInRange}
use Rattle.tdf_dynamic_first.proofs.Fine.{IsPortFine, IsRoleFine, IsFine, roles_fine}
use Rattle.tdf_dynamic_first.specs.First.{values_of, text_rate, IsPlannable}
use Rattle.tdf_dynamic_plans.specs.Rates.{times_value}
use Rattle.tdf_expr.specs.Made.{block_count, start_rates}
use Rattle.tdf_expr.specs.declared.checked.Checked.{Checked}
use Rattle.tdf_bind.specs.Flat.{IsFlatOf, top_place, trace_lines}
use Rattle.tdf_bind.specs.declared.model.Flat.{Flat}
use Rattle.tdf_graph.specs.Ranges.{IsRate}
use Rattle.tdf_bind.specs.Below.{roles_of}
use Rattle.tdf_expr_symbols.specs.Names.{globals_of}
use Rattle.tdf_lang_tree.specs.Kept.{IsKept}
use Rattle.tdf_lang_tree.specs.Pure.{PureTree}
use Rattle.tdf_bind_hierarchy.specs.Tables.{RowOf}
use Rattle.tdf_bind_connections.specs.Edges.{HasShortDelay}
use Rattle.tdf_bind_connections.specs.Modules.{PlacedModule, as_module, placed_modules, module_row, port_row, module_ports, ports_from, AreModules}
use Rattle.tdf_bind_connections.specs.declared.edges.EdgeRow.{EdgeRow}
use Rattle.tdf_bind_connections.specs.declared.modules.ModuleRow.{ModuleRow}
use Rattle.tdf_bind_connections.specs.declared.modules.PortRow.{PortRow}
use Rattle.tdf_bind_connections.specs.declared.roles.PortData.{PortData}
use Rattle.tdf_bind_connections.specs.declared.roles.Role.{Role}
use Rattle.tdf_bind_connections.specs.declared.roles.Role.TheVariants.{Module, Processes, Composite}

-- the modules among the instances
module _ (checked : Checked) where
  abbrev FineRole : Option Role → Type 0
  FineRole None = Unit {0}
  FineRole (Some r) = IsFine checked r

  abbrev FinePlaced : Option PlacedModule → Type 0
  FinePlaced None = Unit {0}
  FinePlaced (Some m) = IsRoleFine checked m.role

  role_at : (roles : List Role) (k : ℕ) → AllByRecursion (IsFine checked) roles → FineRole (slice_get roles k)
  role_at [] k h = tt
  role_at (r ∷ roles) zero h = h.0
  role_at (r ∷ roles) (suc k) h = role_at roles k h.1

  placed_one : (instance : RowOf) (o : Option Role) → FineRole o → FinePlaced (as_module instance o)
  placed_one instance None h = tt
  placed_one instance (Some (Module m)) h = h
  placed_one instance (Some (Processes p)) h = tt
  placed_one instance (Some Composite) h = tt

  placed_cons : (o : Option PlacedModule) (ms : List PlacedModule) → FinePlaced o → AllByRecursion (λ m. IsRoleFine checked m.role) ms → AllByRecursion (λ m. IsRoleFine checked m.role) (cons_option o ms)
  placed_cons None ms h k = k
  placed_cons (Some m) ms h k = (h, k)

  placed_fine : (roles : List Role) → AllByRecursion (IsFine checked) roles → (instances : List RowOf) → AllByRecursion (λ m. IsRoleFine checked m.role) (placed_modules roles instances)
  placed_fine roles h [] = tt
  placed_fine roles h (i ∷ instances) = placed_cons (as_module i (slice_get roles i.block)) (placed_modules roles instances) (placed_one i (slice_get roles i.block) (role_at roles i.block h)) (placed_fine roles h instances)

  blocks_there : (ms : List PlacedModule) → AllByRecursion (λ m. IsRoleFine checked m.role) ms → AllByRecursion (λ (row : ModuleRow). row.block < block_count checked) (map module_row ms)
  blocks_there [] h = tt
  blocks_there (m ∷ ms) h = (h.0.block, blocks_there ms h.1)

  steps_few : (ms : List PlacedModule) → AllByRecursion (λ m. IsRoleFine checked m.role) ms → AllByRecursion (λ (row : ModuleRow). row.step < time_end) (map module_row ms)
  steps_few [] h = tt
  steps_few (m ∷ ms) h = (h.0.step, steps_few ms h.1)

  port_steps_of : (values : List ℕ) (n : ℕ) (instance : RowOf) (k : ℕ) (ports : List PortData) → AllByRecursion (IsPortFine values) ports
      → AllByRecursion (λ (p : PortRow). p.step < time_end) (map (λ port. port_row n instance port.0 port.1) (enumerate_from k ports))
  port_steps_of values n instance k [] h = tt
  port_steps_of values n instance k (p ∷ ports) h = (h.0.step, port_steps_of values n instance (k + 1) ports h.1)

  port_steps_few : (n : ℕ) (ms : List PlacedModule) → AllByRecursion (λ m. IsRoleFine checked m.role) ms → AllByRecursion (λ (p : PortRow). p.step < time_end) (ports_from n ms)
  port_steps_few n [] h = tt
  port_steps_few n (m ∷ ms) h = both (λ (p : PortRow). p.step < time_end) (module_ports n m) (ports_from (n + 1) ms)
      (port_steps_of (start_rates checked m.role.block) n m.instance 0 m.role.ports h.0.ports) (port_steps_few (n + 1) ms h.1)

-- the rates of the text
module _ (flat : Flat) where
  port_rates_of : (n block : ℕ) (row : ModuleRow) (instance : RowOf) → slice_get flat.tables.modules n ≡ Some row → row.block ≡ block → (k : ℕ) (ports : List PortData)
      → AllByRecursion (IsPortFine (start_rates flat.checked block)) ports → AllByRecursion (λ (p : PortRow). IsRate (text_rate flat p)) (map (λ port. port_row n instance port.0 port.1) (enumerate_from k ports))
  port_rates_of n block row instance is block_is k [] h = tt
  port_rates_of n block row instance is block_is k (p ∷ ports) h = (
    subst (λ (o : Option ModuleRow). IsRate (times_value p.rate.times (values_of flat o) p.rate.var)) (sym is)
        (subst (λ b. IsRate (times_value p.rate.times (start_rates flat.checked b) p.rate.var)) (sym block_is) h.0.rate),
    port_rates_of n block row instance is block_is (k + 1) ports h.1,
  )

  rates_in_range : (n : ℕ) (ms : List PlacedModule) → ((j : ℕ) → slice_get flat.tables.modules (n + j) ≡ slice_get (map module_row ms) j) → AllByRecursion (λ m. IsRoleFine flat.checked m.role) ms
      → AllByRecursion (λ (p : PortRow). IsRate (text_rate flat p)) (ports_from n ms)
  rates_in_range n [] same h = tt
  rates_in_range n (m ∷ ms) same h = both (λ (p : PortRow). IsRate (text_rate flat p)) (module_ports n m) (ports_from (n + 1) ms)
      (port_rates_of n m.role.block (module_row m) m.instance (ap (slice_get flat.tables.modules) (omega arith) ∙ same 0) refl 0 m.role.ports h.0.ports)
      (rates_in_range (n + 1) ms (λ j. ap (slice_get flat.tables.modules) (omega arith) ∙ same (suc j)) h.1)

pub plannable : FlatIsInRange → (model : PureTree) (flat : Flat) → IsKept model → AreShort (roles_of model) → IsFlatOf model flat → IsPlannable flat
plannable ranges model flat kept short is = record {
  wired = record {
    in_range = ranges is.blocks (top_place is.blocks) (roles_of model) (trace_lines model) flat.tables short is.tables;
    actors = is.tables.follows.actors;
    delays = All-from_recursion (λ (e : EdgeRow). e.initial ≤ 2 * greatest_delay) flat.tables.edges
        (subst (AllByRecursion (λ (e : EdgeRow). e.initial ≤ 2 * greatest_delay)) (sym is.tables.follows.edges)
        (starts_few (length flat.tables.modules) flat.tables.signals flat.tables.ports
        (subst (AllByRecursion HasShortDelay) (sym modules.ports) (ports_short (roles_of model) is.tables.tables.instances (recursion_from_All IsShortRole (roles_of model) short)))));
  };
  module_steps = All-from_recursion (λ (row : ModuleRow). row.step < time_end) flat.tables.modules
      (subst (AllByRecursion (λ (row : ModuleRow). row.step < time_end)) (sym modules.modules) (steps_few flat.checked (placed_modules (roles_of model) is.tables.tables.instances) fine));
  port_steps = All-from_recursion (λ (p : PortRow). p.step < time_end) flat.tables.ports
      (subst (AllByRecursion (λ (p : PortRow). p.step < time_end)) (sym modules.ports) (port_steps_few flat.checked 0 (placed_modules (roles_of model) is.tables.tables.instances) fine));
  checked_is = record { model = model; are = is.bodies };
  blocks = All-from_recursion (λ (row : ModuleRow). row.block < block_count flat.checked) flat.tables.modules
      (subst (AllByRecursion (λ (row : ModuleRow). row.block < block_count flat.checked)) (sym modules.modules) (blocks_there flat.checked (placed_modules (roles_of model) is.tables.tables.instances) fine));
  rates = All-from_recursion (λ (p : PortRow). IsRate (text_rate flat p)) flat.tables.ports
      (subst (AllByRecursion (λ (p : PortRow). IsRate (text_rate flat p))) (sym modules.ports)
      (rates_in_range flat 0 (placed_modules (roles_of model) is.tables.tables.instances) (λ j. ap (slice_get flat.tables.modules) (omega arith) ∙ ap (λ ms. slice_get ms j) modules.modules) fine));
}
  where
    modules : AreModules (roles_of model) is.tables.tables.instances (record { modules = flat.tables.modules; ports = flat.tables.ports })
    modules = is.tables.follows.modules

    fine : AllByRecursion (λ m. IsRoleFine flat.checked m.role) (placed_modules (roles_of model) is.tables.tables.instances)
    fine = placed_fine flat.checked (roles_of model)
        (roles_fine (globals_of model.globals) flat.checked 0 model.globals model.top flat.checked.blocks.items is.bodies kept.globals (λ j. ap (slice_get flat.checked.blocks.items) (omega arith)))
        is.tables.tables.instances
