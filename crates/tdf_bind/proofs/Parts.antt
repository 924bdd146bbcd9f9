-- The parts of a flat model: no two instances have the same path, and no path holds anything but names and points.
use Rattle.std.proofs.Common.{◌≡◌, ◌∙◌, ℕ, ◌<◌, List, [], length, map, refl, sym, ap, subst, arith}
use Rattle.std.proofs.lemmas.List.{length-map, map-id}
use Rattle.std.specs.List.{AllByRecursion}
use Rattle.std.specs.Prelude.{filter_map, slice_get}
use Rattle.tdf_bind.proofs.FlatPaths.{de_signals_have, signals_have}
use Rattle.tdf_bind.proofs.Lists.{Differ, all_mapped, all_values, one_place, picked_all, picked_differ}
use Rattle.tdf_bind.proofs.OneAnswer.{once_at}
use Rattle.tdf_bind.proofs.OwnNames.{own_names}
use Rattle.tdf_bind.proofs.OwnPaths.{HasOwnNames, instance_paths, instances_differ, instances_plain, signals_plain}
use Rattle.tdf_bind.proofs.PartRows.{block_rows, block_there, blocks_named, events_apart, events_named, labels_kept, module_there, modules_named, owners_below, ports_plain, row_paths}
use Rattle.tdf_bind.proofs.RoleNames.{HasOwnEvents, HasRoleNames, role_names}
use Rattle.tdf_bind.specs.Flat.{IsFlatOf, top_place, trace_lines}
use Rattle.tdf_bind.specs.Laws.{BlockPathsAreUnique, EventsAreApart, HasEventsApart, HasPlainPaths, IsPlainPath, PathsArePlain, block_paths}
use Rattle.tdf_bind.specs.declared.model.Flat.{Flat}
use Rattle.tdf_bind_attributes.specs.Roles.{roles_of}
use Rattle.tdf_bind_connections.specs.Modules.{PlacedModule, as_module, module_row, placed_modules}
use Rattle.tdf_bind_connections.specs.ProcessBlocks.{BlockRowOf, PlacedBlock, as_block, block_row, events_from, placed_blocks}
use Rattle.tdf_bind_connections.specs.declared.blocks.EventRow.{EventRow}
use Rattle.tdf_bind_connections.specs.declared.modules.ModuleRow.{ModuleRow}
use Rattle.tdf_bind_connections.specs.declared.modules.PortRow.{PortRow}
use Rattle.tdf_bind_connections.specs.declared.roles.Role.{Role}
use Rattle.tdf_bind_hierarchy.specs.Met.{met_in}
use Rattle.tdf_bind_hierarchy.specs.Tables.{RowOf, met_instance}
use Rattle.tdf_expr_names.proofs.Api.{names_once}
use Rattle.tdf_expr_names.specs.Names.{name_faults}
use Rattle.tdf_lang_tree.specs.Kept.{IsKept, IsName}
use Rattle.tdf_lang_tree.specs.Pure.{PureTree}

abbrev path_of_row : RowOf → List ℕ
path_of_row row = row.path

abbrev path_of_block : PlacedBlock → List ℕ
path_of_block placed = placed.instance.path

abbrev path_of_module : PlacedModule → List ℕ
path_of_module placed = placed.instance.path

module _ (model : PureTree) (flat : Flat) (kept : IsKept model) (none : name_faults model ≡ []) (is : IsFlatOf model flat) where
  abbrev roles : List Role
  roles = roles_of model

  abbrev rows : List RowOf
  rows = is.tables.tables.instances

  abbrev blocks : List PlacedBlock
  blocks = placed_blocks roles rows

  abbrev modules : List PlacedModule
  modules = placed_modules roles rows

  own : AllByRecursion HasOwnNames is.blocks
  own = own_names model is.blocks kept (names_once model none) is.linked.resolved

  named : AllByRecursion HasRoleNames roles
  named = role_names model kept (names_once model none)

  same_paths : map path_of_row rows ≡ instance_paths is.blocks
  same_paths = row_paths is.tables.tables rows (filter_map met_instance (met_in is.blocks (top_place is.blocks))) is.tables.met.instances

  rows_differ : Differ (map path_of_row rows)
  rows_differ = subst Differ (sym same_paths) (instances_differ is.blocks own)

  rows_plain : AllByRecursion IsPlainPath (map path_of_row rows)
  rows_plain = subst (AllByRecursion IsPlainPath) (sym same_paths) (instances_plain is.blocks own)

  blocks_differ : Differ (map path_of_block blocks)
  blocks_differ = picked_differ path_of_row path_of_block (λ row. as_block row (slice_get roles row.block)) (λ row placed. block_there row (slice_get roles row.block) placed) rows rows_differ

  blocks_plain : AllByRecursion (λ (placed : PlacedBlock). IsPlainPath placed.instance.path) blocks
  blocks_plain =
      all_values IsPlainPath path_of_block blocks
      (picked_all path_of_row path_of_block (λ row. as_block row (slice_get roles row.block)) (λ row placed. block_there row (slice_get roles row.block) placed) IsPlainPath rows rows_plain)

  modules_plain : AllByRecursion (λ (placed : PlacedModule). IsPlainPath placed.instance.path) modules
  modules_plain =
      all_values IsPlainPath path_of_module modules
      (picked_all path_of_row path_of_module (λ row. as_module row (slice_get roles row.block)) (λ row placed. module_there row (slice_get roles row.block) placed) IsPlainPath rows rows_plain)

  events : AllByRecursion (λ (placed : PlacedBlock). HasOwnEvents placed.role) blocks
  events = blocks_named roles named rows

  abbrev event_rows : List EventRow
  event_rows = events_from 0 blocks

  rows_apart : Differ event_rows
  rows_apart = events_apart 0 blocks events

  block_count : length flat.tables.blocks ≡ length blocks
  block_count = ap length is.tables.follows.blocks.blocks ∙ length-map blocks block_row

  same_block_paths : block_paths flat.tables ≡ map path_of_block blocks
  same_block_paths = ap (map (λ (row : BlockRowOf). row.path)) is.tables.follows.blocks.blocks ∙ block_rows blocks

  flat_blocks_differ : Differ (block_paths flat.tables)
  flat_blocks_differ = subst Differ (sym same_block_paths) blocks_differ

  flat_events : HasEventsApart flat.tables
  flat_events = record {
    owners = subst (AllByRecursion (λ (row : EventRow). row.owner < length flat.tables.blocks)) (sym is.tables.follows.blocks.events)
        (subst (λ end. AllByRecursion (λ (row : EventRow). row.owner < end) event_rows) (sym block_count) (owners_below (length blocks) 0 blocks (omega arith)));
    names = λ i j row at there. one_place (λ (r : EventRow). r) flat.tables.events (subst Differ (sym (map-id flat.tables.events)) (subst Differ (sym is.tables.follows.blocks.events) rows_apart)) i j row row at there refl;
  }

  flat_plain : HasPlainPaths flat.tables
  flat_plain = record {
    modules = subst (AllByRecursion (λ (row : ModuleRow). IsPlainPath row.path)) (sym is.tables.follows.modules.modules) (all_mapped (λ (row : ModuleRow). IsPlainPath row.path) module_row modules modules_plain);
    ports = subst (AllByRecursion (λ (row : PortRow). IsPlainPath row.path)) (sym is.tables.follows.modules.ports) (ports_plain 0 modules modules_plain (modules_named roles named rows));
    signals = signals_have is.blocks (top_place is.blocks) roles (trace_lines model) flat.tables is.tables IsPlainPath (signals_plain is.blocks own);
    de_signals = de_signals_have is.blocks (top_place is.blocks) roles (trace_lines model) flat.tables is.tables IsPlainPath (signals_plain is.blocks own);
    blocks = subst (AllByRecursion (λ (row : BlockRowOf). IsPlainPath row.path)) (sym is.tables.follows.blocks.blocks) (all_mapped (λ (row : BlockRowOf). IsPlainPath row.path) block_row blocks blocks_plain);
    events = subst (AllByRecursion (λ (row : EventRow). IsName row.name)) (sym is.tables.follows.blocks.events) (events_named 0 blocks events);
    traces = labels_kept is.tables.tables flat.tables.traces model.traces is.tables.follows.traces kept.traces;
  }

pub block_paths_are_unique : BlockPathsAreUnique
block_paths_are_unique model flat kept none is = once_at (block_paths flat.tables) (flat_blocks_differ model flat kept none is)

pub events_are_apart : EventsAreApart
events_are_apart model flat kept none is = flat_events model flat kept none is

pub paths_are_plain : PathsArePlain
paths_are_plain model flat kept none is = flat_plain model flat kept none is
