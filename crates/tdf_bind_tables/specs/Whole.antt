-- Each port of a module but an `out` port gives an edge.
-- Source: own.
use Rattle.std.specs.List.{enumerate_from}
use Rattle.std.specs.Prelude.{◌≡◌, ℕ, Bool, true, List, map, Option, Some, None, slice_get, filter_map, All}
use Rattle.tdf_bind_tables.specs.FlatTables.{FlatTablesOf, IsFlat}
use Rattle.tdf_bind_tables.specs.Reach.{AgreeInKind}
use Rattle.tdf_lang_tree.specs.declared.blocks.PortKind.{PortKind}
use Rattle.tdf_lang_tree.specs.declared.blocks.PortKind.TheVariants.{In, Out, DeIn, DeOut}
use Rattle.tdf_bind_hierarchy.specs.Blocks.{BlockOf}
use Rattle.tdf_bind_hierarchy.specs.PortKinds.{KeepKinds}
use Rattle.tdf_bind_connections.specs.Edges.{is_event_port}
use Rattle.tdf_bind_connections.specs.Roles.{ProcessesOf}
use Rattle.tdf_bind_connections.specs.declared.roles.Role.{Role}
use Rattle.tdf_bind_connections.specs.declared.roles.Role.TheVariants.{Processes}
use Rattle.tdf_bind_connections.specs.declared.traces.TraceLine.{TraceLine}

-- the ports of blocks of processes are those of event signals
abbrev pub AreEventPorts : List Role → Type 0
AreEventPorts roles = (n : ℕ) (role : ProcessesOf) → slice_get roles n ≡ Some (Processes role)
    → All (λ kind. is_event_port kind ≡ true) role.ports

-- the number of a port that gives an edge
abbrev pub number_if_read : PortKind → ℕ → Option ℕ
number_if_read In number = Some number
number_if_read Out number = None
number_if_read DeIn number = Some number
number_if_read DeOut number = Some number

-- the edges are those of all `in`, `de_in` and `de_out` ports, one for each, in order
abbrev pub EdgesAreWhole : Type 0
EdgesAreWhole = (kinds : List (List Bool)) (blocks : List BlockOf) (top : ℕ) (roles : List Role)
    (lines : List TraceLine) (flat : FlatTablesOf) → KeepKinds kinds blocks top
    → AgreeInKind kinds roles
    → AreEventPorts roles → IsFlat blocks top roles lines flat
    → map (λ edge. edge.port) flat.edges
    ≡ filter_map (λ port. number_if_read port.1.kind port.0) (enumerate_from 0 flat.ports)
