-- The table of a run: what the trace of its history is as a table.
-- Source: own.
use Rattle.std.specs.Prelude.{ℕ, ◌+◌, ◌*◌, List, map}
use Rattle.tdf_base.specs.Time.{femtoseconds_in}
use Rattle.tdf_base.specs.declared.resolution.Resolution.{Resolution}
use Rattle.tdf_bind.specs.declared.model.Flat.{Flat}
use Rattle.tdf_dynamic_first.specs.declared.first.First.{First}
use Rattle.tdf_lang_tree.specs.Pure.{PureTree}
use Rattle.tdf_sim_history.specs.Cells.{run_cells}
use Rattle.tdf_sim_history.specs.Rules.{rules_of, start_world}
use Rattle.tdf_sim_history.specs.Texts.{end_of}
use Rattle.tdf_sim_history.specs.World.{Change}
use Rattle.tdf_sim_traces.specs.Variables.{variables_of}
use Rattle.tdf_tables.specs.Tables.{TableOf, TableRow}
use Rattle.tdf_trace.specs.Tables.{cell_text}
use Rattle.tdf_trace.specs.Writings.{labels_of}
use Rattle.tdf_trace_rows.specs.Laws.{row_times}
use Rattle.tdf_trace_rows.specs.Rows.{Cells, shown}

-- the row at a time: that in fs, and what each column shows then, as a text
abbrev pub row_shown : Resolution → Cells → (time : ℕ) → TableRow
row_shown resolution cells time = record {
  time = time * femtoseconds_in resolution;
  cells = map cell_text (shown cells (time + 1));
}

-- the table of a trace: these labels, and a row at each of its times below an end
abbrev pub trace_table : Resolution → (labels : List (List ℕ)) → Cells → (end : ℕ) → TableOf
trace_table resolution labels cells end = record {
  labels = labels;
  rows = map (row_shown resolution cells) (row_times cells end);
}

-- when a run of a model ends, whose history is told this of its boundaries
abbrev pub run_end_time : PureTree → Flat → List First → (ahead : List (List Change))
    → (stop turns : ℕ) → ℕ
run_end_time model flat firsts ahead stop turns =
    end_of model flat (rules_of model flat) (start_world model flat firsts ahead turns) stop

-- the cells of its trace
abbrev pub run_trace_cells : PureTree → Flat → List First → (ahead : List (List Change))
    → (stop turns : ℕ) → Cells
run_trace_cells model flat firsts ahead stop turns = run_cells model flat (rules_of model flat)
    (start_world model flat firsts ahead turns)
    (run_end_time model flat firsts ahead stop turns)

-- and its table
abbrev pub run_table : PureTree → Flat → List First → (ahead : List (List Change))
    → (stop turns : ℕ) → TableOf
run_table model flat firsts ahead stop turns = trace_table flat.resolution
    (labels_of (variables_of flat.tables)) (run_trace_cells model flat firsts ahead stop turns)
    (run_end_time model flat firsts ahead stop turns)
