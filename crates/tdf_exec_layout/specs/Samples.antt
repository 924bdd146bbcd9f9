-- The formats of edges, and of what they hold at first.
-- Source: own.
use Rattle.std.specs.Prelude.{◌≡◌, ℕ, Option, Some, None, All, slice_get}
use Rattle.tdf_bind_tables.specs.FlatTables.{FlatTablesOf}
use Rattle.tdf_expr.specs.Frames.{IsOfFormat}
use Rattle.tdf_expr.specs.Made.{port_spans_of}
use Rattle.tdf_expr.specs.declared.spans.PortSpan.{PortSpan}
use Rattle.tdf_fixed.specs.declared.format.Format.{Format}
use Rattle.tdf_bind_invariants.specs.Below.{Flat, IsFlatOf}
use Rattle.tdf_bind_invariants.specs.Formats.{IsSoundModel, signal_format}
use Rattle.tdf_exec_layout.specs.Wiring.{port_of_edge}
use Rattle.tdf_streams.specs.Cluster.{initial_list}
use Rattle.tdf_streams.specs.Places.{block_at, driver_or, module_of_port, place_of_port}
use Rattle.tdf_lang_tree.specs.Pure.{PureTree}
use Rattle.tdf_bind_connections.specs.declared.edges.EdgeRow.{EdgeRow}
use Rattle.tdf_bind_connections.specs.declared.modules.PortRow.{PortRow}

-- the format of an edge: that of the signal of the port that gives it
abbrev pub format_of_port : FlatTablesOf → Option PortRow → Option Format
format_of_port tables None = None
format_of_port tables (Some port) = signal_format tables port.kind port.signal

abbrev pub edge_format : FlatTablesOf → ℕ → Option Format
edge_format tables e = format_of_port tables (slice_get tables.ports (port_of_edge tables.edges e))

-- a port that is of a format in the block of its module
abbrev pub IsPortOfFormat : Flat → (number : ℕ) → Format → Type 0
IsPortOfFormat flat number format = (span : PortSpan)
    → slice_get (port_spans_of flat.checked
    (block_at flat.tables.modules (module_of_port flat.tables.ports number)))
    (place_of_port flat.tables.ports number) ≡ Some span
    → span.format ≡ format

-- both ports of an edge are of its format, and so is each sample that it holds at first
pub record EdgeHasFormat (flat : Flat) (e : ℕ) (edge : EdgeRow) : Type 0 where
  pub format : Format
  pub format_is : edge_format flat.tables e ≡ Some format
  pub read : IsPortOfFormat flat edge.port format
  pub written : IsPortOfFormat flat (driver_or edge.port edge.driver) format
  pub initials : All (IsOfFormat format) (initial_list flat.tables edge)

abbrev pub EdgesHaveFormats : Type 0
EdgesHaveFormats = (model : PureTree) (flat : Flat) (e : ℕ) (edge : EdgeRow) → IsSoundModel model
    → IsFlatOf model flat → slice_get flat.tables.edges e ≡ Some edge → EdgeHasFormat flat e edge
