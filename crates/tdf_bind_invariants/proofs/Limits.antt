-- The numbers of a flat model lie within their limits.
use Rattle.std.proofs.Common.{◌≡◌, ◌∙◌, ℕ, ◌+◌, ◌*◌, ◌<◌, ◌≤◌, ◌++◌, length, List, [], ◌∷◌, Option, map, sym, ap, subst, arith}
use Rattle.std.proofs.lemmas.List.Elements.{All-from_recursion}
use Rattle.std.specs.List.{AllByRecursion, flat_map}
use Rattle.std.specs.Prelude.{All, slice_get}
use Rattle.tdf_base.specs.Limits.{greatest_delay, time_end}
use Rattle.tdf_bind_tables.specs.Ranges.{FlatIsInRange}
use Rattle.tdf_expr_blocks.specs.Blocks.{composite_faults}
use Rattle.tdf_expr_blocks.specs.Types.{global_faults, traces_faults, type_faults}
use Rattle.tdf_expr.specs.Made.{block_count, start_rates}
use Rattle.tdf_expr.specs.declared.blocks.Block.{Block}
use Rattle.tdf_base.proofs.Api.{none_first}
use Rattle.tdf_bind.specs.Flat.{top_place, trace_lines}
use Rattle.tdf_bind.specs.declared.model.Flat.{Flat}
use Rattle.tdf_graph.specs.Ranges.{IsRate}
use Rattle.tdf_bind_invariants.proofs.Roles.{IsRoleWithin, roles_short, roles_within}
use Rattle.tdf_bind_invariants.proofs.Rows.{ArePlacedWithin, IsRowWithin, IsPortRowWithin, edges_within, modules_within, placed_within, ports_within}
use Rattle.tdf_bind_invariants.specs.Limits.{FlatIsWithinLimits, IsAlwaysRate, limits_in, text_rate, times_value, values_of}
use Rattle.tdf_bind.specs.Below.{roles_of}
use Rattle.tdf_expr_symbols.specs.Names.{globals_of}
use Rattle.tdf_lang_tree.specs.Pure.{PureTree}
use Rattle.tdf_bind_connections.specs.Modules.{module_row, placed_modules}
use Rattle.tdf_bind_connections.specs.declared.edges.EdgeRow.{EdgeRow}
use Rattle.tdf_bind_connections.specs.declared.modules.ModuleRow.{ModuleRow}
use Rattle.tdf_bind_connections.specs.declared.modules.PortRow.{PortRow}

weaker : {X : Type 0} (P Q : X → Type 0) → ((x : X) → P x → Q x) → (xs : List X) → AllByRecursion P xs → All Q xs
weaker {X} P Q so xs all = All-from_recursion Q xs (go xs all)
  where
    go : (ys : List X) → AllByRecursion P ys → AllByRecursion Q ys
    go [] each = tt
    go (y ∷ ys) each = (so y each.0, go ys each.1)

-- the rate of a port in the table, as the text says it and always
text_rate_is : (flat : Flat) (port : PortRow) → IsPortRowWithin flat.checked flat.tables.modules port → IsRate (text_rate flat port)
text_rate_is flat port is =
    subst (λ (o : Option ModuleRow). IsRate (times_value port.rate.times (values_of flat o) port.rate.var)) (sym is.at)
    (is.rate (start_rates flat.checked is.row.block) is.starts)

rate_always_is : (flat : Flat) (port : PortRow) → IsPortRowWithin flat.checked flat.tables.modules port
    → IsAlwaysRate (limits_in flat.checked (slice_get flat.tables.modules port.«module»)) port.rate
rate_always_is flat port is = subst (λ (o : Option ModuleRow). IsAlwaysRate (limits_in flat.checked o) port.rate) (sym is.at) is.rate

no_block_fault : (model : PureTree) → type_faults model ≡ [] → flat_map (global_faults (globals_of model.globals)) model.globals ≡ []
unfolding type_faults
no_block_fault model none =
    let globals = globals_of model.globals in
    none_first (flat_map (global_faults globals) model.globals) (composite_faults globals model.top ++ traces_faults model.traces) none

-- by the law that the numbers of rows are in range
pub flat_is_within_limits : FlatIsInRange → FlatIsWithinLimits
flat_is_within_limits ranges model flat kept none is =
    let tables = is.tables.tables in
    let follows = is.tables.follows in
    let placed = placed_modules (roles_of model) tables.instances in
    let roles : AllByRecursion (IsRoleWithin flat.checked) (roles_of model) =
    roles_within (globals_of model.globals) flat.checked 0 model.globals model.top flat.checked.blocks.items (no_block_fault model none) kept.globals is.bodies (from_start flat.checked.blocks.items) in
    let all : ArePlacedWithin flat.checked placed = placed_within flat.checked (roles_of model) roles tables.instances in
    let modules : AllByRecursion (IsRowWithin flat.checked) flat.tables.modules =
    subst (AllByRecursion (IsRowWithin flat.checked)) (sym follows.modules.modules) (modules_within flat.checked placed all) in
    let rows = ports_within flat.checked flat.tables.modules 0 placed (numbered flat.tables.modules (map module_row placed) follows.modules.modules) all in
    let ports : AllByRecursion (IsPortRowWithin flat.checked flat.tables.modules) flat.tables.ports =
    subst (AllByRecursion (IsPortRowWithin flat.checked flat.tables.modules)) (sym follows.modules.ports) rows in
    record {
      in_range = ranges is.blocks (top_place is.blocks) (roles_of model) (trace_lines model) flat.tables (roles_short flat.checked (roles_of model) roles) is.tables;
      actors = follows.actors;
      delays = subst (All (λ (e : EdgeRow). e.initial ≤ 2 * greatest_delay)) (sym follows.edges)
          (edges_within flat.checked flat.tables.modules (length flat.tables.modules) flat.tables.signals flat.tables.ports ports);
      module_steps = weaker (IsRowWithin flat.checked) (λ (row : ModuleRow). row.step < time_end) (λ row within. within.step) flat.tables.modules modules;
      port_steps = weaker (IsPortRowWithin flat.checked flat.tables.modules) (λ (row : PortRow). row.step < time_end) (λ row within. within.step) flat.tables.ports ports;
      checked_is = record { model = model; are = is.bodies };
      blocks = weaker (IsRowWithin flat.checked) (λ (row : ModuleRow). row.block < block_count flat.checked) (λ row within. within.block) flat.tables.modules modules;
      rates = weaker (IsPortRowWithin flat.checked flat.tables.modules) (λ (port : PortRow). IsRate (text_rate flat port)) (text_rate_is flat) flat.tables.ports ports;
      always = weaker (IsPortRowWithin flat.checked flat.tables.modules)
          (λ (port : PortRow). IsAlwaysRate (limits_in flat.checked (slice_get flat.tables.modules port.«module»)) port.rate) (rate_always_is flat) flat.tables.ports ports;
    }
  where
    from_start : (bs : List Block) (n : ℕ) → slice_get bs (0 + n) ≡ slice_get bs n
    from_start bs n = let here : 0 + n ≡ n = omega arith in ap (slice_get bs) here

    numbered : (one other : List ModuleRow) → one ≡ other → (n : ℕ) → slice_get one (0 + n) ≡ slice_get other n
    numbered one other same n = let here : 0 + n ≡ n = omega arith in ap (slice_get one) here ∙ ap (λ (l : List ModuleRow). slice_get l n) same
