-- The ports of modules reach signals of their own kind.
-- Source: own.
use Rattle.std.specs.Prelude.{◌≡◌, ◌<◌, ℕ, Bool, List, length, map, Some, cond, slice_get, All}
use Rattle.tdf_bind_tables.specs.FlatTables.{FlatTablesOf, IsFlat}
use Rattle.tdf_bind_hierarchy.specs.Blocks.{BlockOf}
use Rattle.tdf_bind_hierarchy.specs.PortKinds.{kinds_of, KeepKinds}
use Rattle.tdf_bind_connections.specs.Edges.{is_event_port}
use Rattle.tdf_bind_connections.specs.Roles.{ModuleRole}
use Rattle.tdf_bind_connections.specs.declared.roles.Role.{Role}
use Rattle.tdf_bind_connections.specs.declared.roles.Role.TheVariants.{Module}
use Rattle.tdf_bind_connections.specs.declared.traces.TraceLine.{TraceLine}

-- the kinds of the ports of modules are those of their blocks
abbrev pub AgreeInKind : List (List Bool) → List Role → Type 0
AgreeInKind kinds roles = (n : ℕ) (role : ModuleRole) → slice_get roles n ≡ Some (Module role)
    → map (λ port. is_event_port port.kind) role.ports ≡ kinds_of kinds n

-- then each port of a module has the number of a signal of its own kind
abbrev pub PortsReachSignals : Type 0
PortsReachSignals = (kinds : List (List Bool)) (blocks : List BlockOf) (top : ℕ) (roles : List Role)
    (lines : List TraceLine) (flat : FlatTablesOf) → KeepKinds kinds blocks top
    → AgreeInKind kinds roles
    → IsFlat blocks top roles lines flat
    → All (λ port. port.signal
    < length (cond (is_event_port port.kind) flat.de_signals flat.signals)) flat.ports
