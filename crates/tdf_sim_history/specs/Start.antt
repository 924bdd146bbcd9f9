-- How a run begins: each cluster at the head of its first period, as the text says it, with what is
-- told of its boundaries.
-- Source: own.
use Rattle.std.specs.List.{count_by, enumerate_from, range_with_len}
use Rattle.std.specs.Prelude.{ℕ, ◌+◌, true, List, [], Option, None, Some, if◌then◌else◌, length, map, nat_eq, replicate, slice_get, slice_index_or}
use Rattle.tdf_bind_tables.specs.FlatTables.{FlatTablesOf}
use Rattle.tdf_dynamic.specs.Below.{First, Flat, driver_samples, period_record, text_start, zero_sample}
use Rattle.tdf_bind_connections.specs.declared.drivers.SignalRow.{SignalRow}
use Rattle.tdf_bind_connections.specs.declared.traces.TraceRow.{TraceRow}
use Rattle.tdf_fixed.specs.declared.raw.Raw.{Raw}
use Rattle.tdf_sim_history.specs.Cells.{driver_of_row}
use Rattle.tdf_sim_history.specs.Columns.{ColumnStart}
use Rattle.tdf_sim_history.specs.World.{Change, ClusterAt, World}
use Rattle.tdf_schedule.specs.declared.entry.Entry.{Entry}
use Rattle.tdf_lang_tree.specs.Pure.{PureTree}

-- how often each actor fires in a plan
abbrev pub counts_in : FlatTablesOf → List Entry → List ℕ
counts_in tables entries =
    map (λ m. count_by (λ (x : Entry). nat_eq x.actor m) entries)
    (range_with_len 0 (length tables.actors))

-- a cluster with its first plan; nothing is done, and no sampler has read
abbrev pub first_cluster : PureTree → Flat → (cluster : ℕ) → First → (ahead : List Change)
    → ClusterAt
first_cluster model flat cluster first ahead = record {
  begun = text_start model flat cluster first.attrs.rows;
  entries = first.plan.entries.items;
  bounds = first.plan.bounds.items;
  origin = 0;
  since = 0;
  from = 0;
  place = 0;
  old = [];
  now = period_record flat.tables first.attrs.rows (counts_in flat.tables first.plan.entries.items)
      first.plan.period true;
  reads = replicate (length flat.tables.actors) [];
  ahead = ahead;
}

-- all clusters, with what is told of the boundaries of each
abbrev pub first_clusters : PureTree → Flat → List First → (ahead : List (List Change))
    → List ClusterAt
first_clusters model flat firsts ahead =
    map (λ (first : ℕ × First). first_cluster model flat (first.0 + 1) first.1
    (slice_index_or ahead first.0 [])) (enumerate_from 0 firsts)

-- what a column shows from the text's start on: one of an event signal its starting value, one of
-- samples nothing before its initial samples
abbrev pub starting_value : Option SignalRow → Raw
starting_value None = zero_sample
starting_value (Some signal) = signal.start

abbrev pub text_column : FlatTablesOf → TraceRow → ColumnStart
text_column tables row = record {
  carry = if row.event then Some (starting_value (slice_get tables.de_signals row.signal))
      else None;
  stamps = [];
  skipped = 0;
  ahead = driver_samples tables (driver_of_row (slice_get tables.signals row.signal));
}

abbrev pub text_columns : FlatTablesOf → List ColumnStart
text_columns tables = map (text_column tables) tables.traces

module _ {K : Type 0} where
  abbrev pub first_world : PureTree → Flat → List First → (ahead : List (List Change))
      → (events : K) → (turns : ℕ) → World K
  first_world model flat firsts ahead events turns = record {
    clusters = first_clusters model flat firsts ahead;
    events = events;
    left = turns;
    written = [];
    planned = [];
    shown = text_columns flat.tables;
  }
