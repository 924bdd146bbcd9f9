-- How traces are looked up.
-- Source: own.
use Rattle.indexmap.specs.IndexMap.{get}
use Rattle.std.specs.Cmp.Lexicographic.{pointwise}
use Rattle.std.specs.List.{AllZip}
use Rattle.std.specs.Option.{option_or}
use Rattle.std.specs.Prelude.{◌≡◌, ◌≤◌, ℕ, List, Option, Some, None, nat_eq, cond, find, length, slice_get, filter_map, take, drop}
use Rattle.tdf_bind_hierarchy.specs.Tables.{TablesOf}
use Rattle.tdf_bind_hierarchy.specs.declared.tables.SignalNumber.{SignalNumber}
use Rattle.tdf_bind_connections.specs.Traces.{leads_to, unknown_line}
use Rattle.tdf_bind_connections.specs.declared.traces.PathMap.{PathMap}
use Rattle.tdf_bind_connections.specs.declared.traces.TraceErr.{TraceErr}
use Rattle.tdf_bind_connections.specs.declared.traces.TraceErr.TheVariants.{Unknown, Memory}
use Rattle.tdf_bind_connections.specs.declared.traces.TraceLine.{TraceLine}
use Rattle.tdf_bind_connections.specs.declared.traces.TraceRow.{TraceRow}

abbrev pub found : PathMap → List ℕ → Option SignalNumber
found paths text = get (pointwise nat_eq) paths.map text

-- what stands for `other` after a path was added
abbrev pub put_path : List ℕ → SignalNumber → List ℕ → Option SignalNumber → Option SignalNumber
put_path text number other before =
    option_or before (cond (pointwise nat_eq text other) (Some number) None)

-- what stands for `text` after a number was looked at
abbrev pub put_found : TablesOf → SignalNumber → List ℕ → Option SignalNumber → Option SignalNumber
put_found tables number text before =
    option_or before (cond (leads_to tables text number) (Some number) None)

-- the map has, for texts up to a length, the first of these numbers that leads there
pub record Finds (tables : TablesOf) (limit : ℕ) (numbers : List SignalNumber)
    (paths : PathMap) : Type 0 where
  pub each : (text : List ℕ) → length text ≤ limit
      → found paths text ≡ find (leads_to tables text) numbers

-- what a call makes of the map, for texts up to a length
pub record Puts (put : List ℕ → Option SignalNumber → Option SignalNumber) (limit : ℕ)
    (old new : PathMap) : Type 0 where
  pub each : (text : List ℕ) → length text ≤ limit → found new text ≡ put text (found old text)

-- a row of the table of traces by the map
pub record IsRowBy (paths : PathMap) (row : TraceRow) (line : TraceLine) : Type 0 where
  pub label : row.label ≡ line.label
  pub signal : found paths line.path ≡ Some (record { event = row.event; number = row.signal })

abbrev pub IsRefusalBy : PathMap → TraceLine → TraceErr → Type 0
IsRefusalBy paths line (Unknown number) = (number ≡ line.line) × (found paths line.path ≡ None)
IsRefusalBy paths line Memory = Unit {0}

abbrev pub unknown_by : PathMap → List TraceLine → List ℕ
unknown_by paths lines = filter_map (λ line. unknown_line line (found paths line.path)) lines

-- the loop over the lines
pub record TracesUpTo (paths : PathMap) (lines : List TraceLine) (i : ℕ)
    (rows : List TraceRow) : Type 0 where
  pub rows_are : AllZip (IsRowBy paths) rows (take i lines)
  pub rest_is : slice_get (unknown_by paths (drop i lines)) 0 ≡ slice_get (unknown_by paths lines) 0
