-- The ports of modules whose signals are traced.
-- Source: own.
use Rattle.std.specs.List.{enumerate_from, list_any}
use Rattle.std.specs.Prelude.{◌≡◌, ◌&&◌, ℕ, Bool, true, false, not, List, Option, Some, None, filter_map, if◌then◌else◌, nat_eq, slice_get}
use Rattle.tdf_bind_tables.specs.FlatTables.{FlatTablesOf}
use Rattle.tdf_bind_invariants.specs.Below.{Flat, IsFlatOf}
use Rattle.tdf_bind_invariants.specs.Formats.{IsSoundModel}
use Rattle.tdf_lang_tree.specs.Pure.{PureTree}
use Rattle.tdf_lang_tree.specs.declared.blocks.PortKind.{PortKind}
use Rattle.tdf_lang_tree.specs.declared.blocks.PortKind.TheVariants.{In, Out, DeIn, DeOut}
use Rattle.tdf_bind_connections.specs.declared.modules.PortRow.{PortRow}
use Rattle.tdf_bind_connections.specs.declared.traces.TraceRow.{TraceRow}

abbrev pub is_out : PortKind → Bool
is_out In = false
is_out Out = true
is_out DeIn = false
is_out DeOut = false

-- whether a trace is that of a signal of samples
abbrev pub is_trace_of : (signal : ℕ) → TraceRow → Bool
is_trace_of signal row = not row.event && nat_eq row.signal signal

-- whether a port is one of module m that writes a signal of samples which is traced
abbrev pub is_traced : FlatTablesOf → ℕ → PortRow → Bool
is_traced tables m port = nat_eq port.«module» m
    && (is_out port.kind && list_any (is_trace_of port.signal) tables.traces)

abbrev pub number_if_traced : FlatTablesOf → ℕ → ℕ → PortRow → Option ℕ
number_if_traced tables m number port = if is_traced tables m port then Some number else None

-- the numbers of these ports of a module
abbrev pub traced_ports : FlatTablesOf → ℕ → List ℕ
traced_ports tables m = filter_map (λ port. number_if_traced tables m port.0 port.1)
    (enumerate_from 0 tables.ports)

-- a signal of samples has one `out` port, so no signal is traced at two ports
abbrev pub SignalsHaveOnePort : Type 0
SignalsHaveOnePort = (model : PureTree) (flat : Flat) (a b : ℕ) (x y : PortRow)
    → IsSoundModel model → IsFlatOf model flat
    → slice_get flat.tables.ports a ≡ Some x → slice_get flat.tables.ports b ≡ Some y
    → x.kind ≡ Out → y.kind ≡ Out → x.signal ≡ y.signal → a ≡ b
