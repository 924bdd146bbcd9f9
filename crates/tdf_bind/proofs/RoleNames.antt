-- The names in the roles of the blocks of a model without a fault of names.
use Rattle.std.proofs.Common.{◌≢◌, ℕ, ◌+◌, List, [], ◌∷◌, ◌++◌, map}
use Rattle.std.specs.List.{AllByRecursion, flat_map}
use Rattle.tdf_bind.proofs.Lists.{Differ}
use Rattle.tdf_bind.proofs.OwnNames.{apart_differ, each_push}
use Rattle.tdf_bind_attributes.specs.Roles.{event_of, port_data, roles_from, roles_of}
use Rattle.tdf_bind_connections.specs.Roles.{ProcessesOf}
use Rattle.tdf_bind_connections.specs.declared.roles.PortData.{PortData}
use Rattle.tdf_bind_connections.specs.declared.roles.Role.{Role}
use Rattle.tdf_bind_connections.specs.declared.roles.Role.TheVariants.{Module, Processes, Composite}
use Rattle.tdf_bind_ports.specs.Ports.{port_of_tdf_line}
use Rattle.tdf_expr_names.specs.Law.{DeclaresOnce, HasNamesOnce}
use Rattle.tdf_expr_names.specs.Names.{names_of_de_line}
use Rattle.tdf_expr_symbols.specs.Names.{Names, globals_of}
use Rattle.tdf_expr_symbols.specs.Scope.{Scope, tdf_scope}
use Rattle.tdf_lang_tree.specs.Kept.{Each, IsKept, IsName, KeepsDeLine, KeepsGlobal, KeepsTdfLine}
use Rattle.tdf_lang_tree.specs.Pure.{PureDeLine, DPort, DStore, DEvent, PureGlobal, GShape, GTdf, GDe, GNet, PureTdf, PureTdfLine, TPort, TStore, TRate, PureTree}

-- the names of events differ
pub record HasOwnEvents (role : ProcessesOf) : Type 0 where
  pub once : Differ role.events
  pub named : AllByRecursion IsName role.events

abbrev pub HasRoleNames : Role → Type 0
HasRoleNames (Module role) = AllByRecursion (λ (port : PortData). IsName port.name) role.ports
HasRoleNames (Processes role) = HasOwnEvents role
HasRoleNames Composite = Unit {0}

ports_kept : (scope : Scope) (block : PureTdf) (lines : List PureTdfLine) → Each KeepsTdfLine lines → AllByRecursion (λ (port : PortData). IsName port.name) (map (port_data scope block) (flat_map port_of_tdf_line lines))
ports_kept scope block [] kept = tt
ports_kept scope block (TPort port ∷ lines) kept = (kept.0.0, ports_kept scope block lines kept.1)
ports_kept scope block (TStore store ∷ lines) kept = ports_kept scope block lines kept.1
ports_kept scope block (TRate line name least greatest start ∷ lines) kept = ports_kept scope block lines kept.1

events_kept : (lines : List PureDeLine) → Each KeepsDeLine lines → AllByRecursion IsName (flat_map event_of lines)
events_kept [] kept = tt
events_kept (DPort port ∷ lines) kept = events_kept lines kept.1
events_kept (DStore store ∷ lines) kept = events_kept lines kept.1
events_kept (DEvent line name ∷ lines) kept = (kept.0, events_kept lines kept.1)

all_events : (P : List ℕ → Type 0) (lines : List PureDeLine) → AllByRecursion P (flat_map names_of_de_line lines) → AllByRecursion P (flat_map event_of lines)
all_events P [] all = tt
all_events P (DPort port ∷ lines) all = all_events P lines all.1
all_events P (DStore store ∷ lines) all = all_events P lines all.1
all_events P (DEvent line name ∷ lines) all = (all.0, all_events P lines all.1)

events_differ : (lines : List PureDeLine) → Differ (flat_map names_of_de_line lines) → Differ (flat_map event_of lines)
events_differ [] apart = tt
events_differ (DPort port ∷ lines) apart = events_differ lines apart.1
events_differ (DStore store ∷ lines) apart = events_differ lines apart.1
events_differ (DEvent line name ∷ lines) apart = (all_events (λ y. name ≢ y) lines apart.0, events_differ lines apart.1)

roles_named : (globals : Names) (number : ℕ) (gs : List PureGlobal) → Each DeclaresOnce gs → Each KeepsGlobal gs → AllByRecursion HasRoleNames (roles_from globals number gs)
unfolding roles_from
roles_named globals number [] once kept = tt
roles_named globals number (GShape t ∷ gs) once kept = roles_named globals number gs once.1 kept.1
roles_named globals number (GTdf block ∷ gs) once kept = (ports_kept (tdf_scope globals block) block block.decls kept.0.decls, roles_named globals (number + 1) gs once.1 kept.1)
roles_named globals number (GDe block ∷ gs) once kept =
    (record { once = events_differ block.decls (apart_differ (flat_map names_of_de_line block.decls) once.0); named = events_kept block.decls kept.0.decls }, roles_named globals (number + 1) gs once.1 kept.1)
roles_named globals number (GNet block ∷ gs) once kept = (tt, roles_named globals number gs once.1 kept.1)

pub role_names : (model : PureTree) → IsKept model → HasNamesOnce model → AllByRecursion HasRoleNames (roles_of model)
role_names model kept once =
    roles_named (globals_of model.globals) 0 (model.globals ++ GNet model.top ∷ [])
    (each_push DeclaresOnce model.globals (GNet model.top) once.blocks once.top)
    (each_push KeepsGlobal model.globals (GNet model.top) kept.globals kept.top)
