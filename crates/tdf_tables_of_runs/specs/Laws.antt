-- The table that a run writes, where it is read as a table, has the rows of its trace.
-- Source: own.
use Rattle.std.specs.Prelude.{◌≡◌, ◌<◌, ◌^◌, ℕ, false, List, length, map, Option, Some}
use Rattle.std.specs.Prelude.{unsigned_abs}
use Rattle.tdf_base.specs.Limits.{time_end}
use Rattle.tdf_bind.specs.Flat.{IsFlatOf}
use Rattle.tdf_bind.specs.declared.model.Flat.{Flat}
use Rattle.tdf_cli.specs.Input.{Text}
use Rattle.tdf_cli.specs.Outcome.{HasOutcome}
use Rattle.tdf_cli.specs.Runs.{Outcome, stop_in}
use Rattle.tdf_cli.specs.Status.{status_number}
use Rattle.tdf_cli_words.specs.declared.asked.RunOptions.{RunOptions}
use Rattle.tdf_cli_words.specs.declared.asked.Settings.TheVariants.{Run, Sample, Stats}
use Rattle.tdf_dynamic_first.specs.declared.first.First.{First}
use Rattle.tdf_fixed.specs.declared.raw.Raw.{Raw}
use Rattle.tdf_lang_parser.specs.Refused.{SpellsText}
use Rattle.tdf_lang_tree.specs.Kept.{IsKept}
use Rattle.tdf_lang_tree.specs.Pure.{PureTree}
use Rattle.tdf_sampling.specs.Choice.{chosen_table, is_too_fine}
use Rattle.tdf_sampling.specs.Statistics.{stats_text}
use Rattle.tdf_sampling.specs.declared.asked.Choice.{Choice}
use Rattle.tdf_cli.specs.Below.{HaveAnswers, IsAccepted, IsAcceptedTree, Sim, trace_of}
use Rattle.tdf_sim_history.specs.World.{Change}
use Rattle.tdf_tables.specs.Tables.{SpellsTable, TableOf, table_text}
use Rattle.tdf_tables_of_runs.specs.RunTables.{run_end_time, run_table, run_trace_cells}
use Rattle.tdf_trace_rows.specs.Rows.{last}
use Rattle.tdf_trace_rows.specs.declared.kinds.TraceKind.TheVariants.{Table}

-- what a run writes as a table is the text of its table
abbrev pub WritesItsTable : Type 0
WritesItsTable = (model : PureTree) (flat : Flat) (firsts : List First)
    → (ahead : List (List Change)) (stop turns : ℕ)
    → trace_of Table model flat firsts ahead stop turns
    ≡ table_text (run_table model flat firsts ahead stop turns)

-- its labels are those of the model's traces, in order
abbrev pub HasLabelsOfTraces : Type 0
HasLabelsOfTraces = (model : PureTree) (flat : Flat) (firsts : List First)
    → (ahead : List (List Change)) (stop turns : ℕ) → IsFlatOf model flat
    → (run_table model flat firsts ahead stop turns).labels
    ≡ map (λ trace. trace.label) model.traces

-- a model that keeps what that of each text keeps writes the text of no other table
abbrev pub IsReadAsItsTable : Type 0
IsReadAsItsTable = (model : PureTree) (flat : Flat) (firsts : List First)
    → (ahead : List (List Change)) (stop turns : ℕ) (table : TableOf) → IsKept model
    → IsFlatOf model flat → stop < time_end
    → SpellsTable (trace_of Table model flat firsts ahead stop turns) table
    → table ≡ run_table model flat firsts ahead stop turns

-- a run of an accepted model with a trace, which ends after its start; its stop is in counts of the
-- resolution
pub record IsTracedRun (tree : PureTree) (sim : Sim) (ahead : List (List Change))
    (stop turns : ℕ) : Type 0 where
  pub accepted : IsAcceptedTree tree sim
  pub early : stop < time_end
  pub traced : 0 < length tree.traces
  pub goes : 0 < run_end_time tree sim.flat sim.firsts.items ahead stop turns

-- what it writes is a table
abbrev pub IsTableOfTrace : Type 0
IsTableOfTrace = (tree : PureTree) (sim : Sim) (ahead : List (List Change)) (stop turns : ℕ)
    → IsTracedRun tree sim ahead stop turns
    → SpellsTable (trace_of Table tree sim.flat sim.firsts.items ahead stop turns)
    (run_table tree sim.flat sim.firsts.items ahead stop turns)

-- a value that a column of a run of an accepted model shows has at most 64 bits
abbrev pub ShowsShortValues : Type 0
ShowsShortValues = (tree : PureTree) (sim : Sim) (ahead : List (List Change)) (stop turns : ℕ)
    → (column time : ℕ) (value : Raw) → IsAcceptedTree tree sim
    → last (run_trace_cells tree sim.flat sim.firsts.items ahead stop turns) column time
    ≡ Some value
    → unsigned_abs value.num < 2 ^ 64

-- ---- the jobs on tables

-- `sample` answers 0 to what such a run writes, but where the last row is too many steps away
abbrev pub AnswersSample : Type 0
AnswersSample = (tree : PureTree) (sim : Sim) (ahead : List (List Change)) (stop turns : ℕ)
    → (choice : Choice) (sample : Outcome) → IsTracedRun tree sim ahead stop turns
    → HasOutcome (Text (Sample choice)
    (trace_of Table tree sim.flat sim.firsts.items ahead stop turns)) sample
    → is_too_fine choice (run_table tree sim.flat sim.firsts.items ahead stop turns).rows ≡ false
    → status_number sample.status ≡ 0

-- and `stats` always
abbrev pub AnswersStats : Type 0
AnswersStats = (tree : PureTree) (sim : Sim) (ahead : List (List Change)) (stop turns : ℕ)
    → (window : Option ℕ) (stats : Outcome) → IsTracedRun tree sim ahead stop turns
    → HasOutcome (Text (Stats window)
    (trace_of Table tree sim.flat sim.firsts.items ahead stop turns)) stats
    → status_number stats.status ≡ 0

-- a table is that of a run of a text's model, up to a stop in ps
pub record IsTableOfRun (text : List ℕ) (stop turns : ℕ) (table : TableOf) : Type 0 where
  pub tree : PureTree
  pub sim : Sim
  pub spelled : SpellsText text tree
  pub accepted : IsAccepted tree sim
  pub end : ℕ
  pub stops : stop_in sim.flat.resolution stop ≡ Some end
  pub ahead : List (List Change)
  pub answers : HaveAnswers tree sim.flat sim.firsts.items ahead end turns
  pub is : table ≡ run_table tree sim.flat sim.firsts.items ahead end turns

-- where `sample` answers 0 to the output of a run, it writes the choice from the run's table
abbrev pub SamplesItsTable : Type 0
SamplesItsTable = (text : List ℕ) (asked : RunOptions) (choice : Choice) (run sample : Outcome)
    → asked.kind ≡ Table → asked.stop < time_end → HasOutcome (Text (Run asked) text) run
    → HasOutcome (Text (Sample choice) run.out) sample → status_number sample.status ≡ 0
    → (table : TableOf) × IsTableOfRun text asked.stop asked.turns table
    × (sample.out ≡ table_text (chosen_table choice table))

-- and where `stats` does, it writes the statistics of the run's table
abbrev pub MeasuresItsTable : Type 0
MeasuresItsTable = (text : List ℕ) (asked : RunOptions) (window : Option ℕ) (run stats : Outcome)
    → asked.kind ≡ Table → asked.stop < time_end → HasOutcome (Text (Run asked) text) run
    → HasOutcome (Text (Stats window) run.out) stats → status_number stats.status ≡ 0
    → (table : TableOf) × IsTableOfRun text asked.stop asked.turns table
    × (stats.out ≡ stats_text table window)
