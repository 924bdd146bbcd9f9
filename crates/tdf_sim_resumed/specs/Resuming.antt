-- Going on from a snapshot: each cluster inside the period that its state says.
-- Source: own.
use Rattle.std.specs.List.{enumerate_from, range_with_len, zip}
use Rattle.std.specs.Prelude.{ℕ, ◌+◌, ◌-◌, false, List, [], length, map, replicate, slice_index, slice_index_or}
use Rattle.tdf_bind.specs.declared.model.Flat.{Flat}
use Rattle.tdf_bind_tables.specs.FlatTables.{FlatTablesOf}
use Rattle.tdf_dynamic_first.specs.declared.first.First.{First}
use Rattle.tdf_sim_refinement.specs.Below.{due_before}
use Rattle.tdf_sim_resumed.specs.Restored.{state_start}
use Rattle.tdf_lang_tree.specs.Pure.{PureTree}
use Rattle.tdf_saved.specs.State.{ClusterStateOf, SnapshotOf}
use Rattle.tdf_schedule.specs.Plan.{done}
use Rattle.tdf_sim_history.specs.Start.{counts_in}
use Rattle.tdf_sim_history.specs.World.{Change, ClusterAt}
use Rattle.tdf_streams.specs.Periods.{PeriodRecord, period_record}

-- the whole period under a table and its plan
abbrev pub whole_period : FlatTablesOf → First → PeriodRecord
whole_period tables first = period_record tables first.attrs.rows
    (counts_in tables first.plan.entries.items) first.plan.period false

-- what is left of a period, where so many activations of each actor were done
abbrev pub rest_of : PeriodRecord → (acts : ℕ → ℕ) → PeriodRecord
rest_of p acts = record p {
  counts = map (λ m. slice_index p.counts m - acts m) (range_with_len 0 (length p.counts));
}

-- the place in a plan at a time: the entries that are due before it are done
abbrev pub place_before : (time : ℕ) → First → ClusterStateOf → ℕ
place_before time first s = due_before s.start time first.plan.entries.items

-- a cluster inside its period, at that place; no firing was done since, and no sampler has read
abbrev pub resumed_cluster : PureTree → Flat → (cluster time : ℕ) → First → ClusterStateOf
    → (ahead : List Change) → ClusterAt
resumed_cluster model flat cluster time first s ahead = record {
  begun = state_start model flat cluster first.attrs.rows s;
  entries = first.plan.entries.items;
  bounds = first.plan.bounds.items;
  origin = s.start;
  since = s.start;
  from = place_before time first s;
  place = place_before time first s;
  old = [];
  now = rest_of (whole_period flat.tables first)
      (done first.plan.entries.items (place_before time first s));
  reads = replicate (length flat.tables.actors) [];
  ahead = ahead;
}

-- all clusters, with what is told of the boundaries of each
abbrev pub resumed_clusters : PureTree → Flat → List First → SnapshotOf
    → (ahead : List (List Change)) → List ClusterAt
resumed_clusters model flat firsts s ahead = map (λ (c : ℕ × (First × ClusterStateOf)).
    resumed_cluster model flat (c.0 + 1) s.time c.1.0 c.1.1 (slice_index_or ahead c.0 []))
    (enumerate_from 0 (zip firsts s.clusters))
