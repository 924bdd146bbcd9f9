-- The traces of a model.
-- Source: own.
use Rattle.std.specs.Cmp.Lexicographic.{pointwise}
use Rattle.std.specs.Prelude.{◌≡◌, ℕ, Bool, false, List, Option, Some, None, nat_eq, find, filter_map, slice_get}
use Rattle.tdf_bind_hierarchy.specs.Tables.{TablesOf, table}
use Rattle.tdf_bind_hierarchy.specs.declared.tables.Signal.{Signal}
use Rattle.tdf_bind_hierarchy.specs.declared.tables.SignalNumber.{SignalNumber}
use Rattle.tdf_bind_connections.specs.declared.traces.TraceErr.{TraceErr}
use Rattle.tdf_bind_connections.specs.declared.traces.TraceErr.TheVariants.{Unknown, Memory}
use Rattle.tdf_bind_connections.specs.declared.traces.TraceLine.{TraceLine}
use Rattle.tdf_bind_connections.specs.declared.traces.TraceRow.{TraceRow}

abbrev pub has_path : List ℕ → Option Signal → Bool
has_path text None = false
has_path text (Some signal) = pointwise nat_eq signal.path text

-- whether a number is that of a signal with this path
abbrev pub leads_to : TablesOf → List ℕ → SignalNumber → Bool
leads_to tables text n = has_path text (slice_get (table n.event tables) n.number)

-- the signal with a path: the first in preorder
abbrev pub traced : TablesOf → List ℕ → Option SignalNumber
traced tables text = find (leads_to tables text) tables.order

-- a row of the table of traces is that of a line
pub record IsTraceOf (tables : TablesOf) (row : TraceRow) (line : TraceLine) : Type 0 where
  pub label : row.label ≡ line.label
  pub signal : traced tables line.path ≡ Some (record { event = row.event; number = row.signal })

abbrev pub unknown_line : TraceLine → Option SignalNumber → Option ℕ
unknown_line line None = Some line.line
unknown_line line (Some number) = None

-- the lines whose paths lead to no signal
abbrev pub unknown_lines : TablesOf → List TraceLine → List ℕ
unknown_lines tables lines = filter_map (λ line. unknown_line line (traced tables line.path)) lines

-- a refusal names the first such line; want of memory is free
abbrev pub IsTraceRefusal : List ℕ → TraceErr → Type 0
IsTraceRefusal unknown (Unknown line) = slice_get unknown 0 ≡ Some line
IsTraceRefusal unknown Memory = Unit {0}
