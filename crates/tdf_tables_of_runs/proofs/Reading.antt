-- What a run writes is the text of no other table than its own.
use Rattle.std.proofs.Common.{◌∙◌, ℕ, ◌+◌, ◌^◌, ◌<◌, ◌≤◌, List, [], ◌∷◌, length, map, sym, subst, arith}
use Rattle.std.specs.List.{AllByRecursion}
use Rattle.tdf_base.specs.Limits.{time_end}
use Rattle.tdf_base.specs.declared.resolution.Resolution.{Resolution}
use Rattle.tdf_base.specs.declared.resolution.Resolution.TheVariants.{Ps, Fs}
use Rattle.tdf_bind.specs.Flat.{IsFlatOf}
use Rattle.tdf_bind.specs.declared.model.Flat.{Flat}
use Rattle.tdf_dynamic_first.specs.declared.first.First.{First}
use Rattle.tdf_lang_tree.specs.Kept.{IsKept}
use Rattle.tdf_lang_tree.specs.Pure.{PureTree}
use Rattle.tdf_sim_history.specs.Cells.{run_cells}
use Rattle.tdf_sim_history.specs.Instant.{engine}
use Rattle.tdf_sim_history.specs.Rules.{rules_of, start_world}
use Rattle.tdf_sim_history.specs.Texts.{end_of}
use Rattle.tdf_sim_history.specs.World.{Change}
use Rattle.tdf_tables.proofs.Api.{IsMarked, cells_marked, each_row, labels_marked}
use Rattle.tdf_tables.specs.Tables.{IsRow, SpellsTable, TableOf, TableRow}
use Rattle.tdf_tables_of_runs.proofs.Bytes.{cells_marked as shown_marked}
use Rattle.tdf_tables_of_runs.proofs.Cutting.{IsPlainRow, IsPlainTable, table_one}
use Rattle.tdf_tables_of_runs.proofs.Ends.{ends_within, times_below}
use Rattle.tdf_tables_of_runs.proofs.Labels.{labels_are, labels_marked as traces_marked}
use Rattle.tdf_tables_of_runs.proofs.Scale.{femtoseconds_at}
use Rattle.tdf_tables_of_runs.specs.Laws.{IsReadAsItsTable, WritesItsTable}
use Rattle.tdf_tables_of_runs.specs.RunTables.{row_shown, run_table}
use Rattle.tdf_trace_rows.specs.Laws.{row_times}
use Rattle.tdf_trace_rows.specs.Rows.{Cells, is_row, shown}

-- ---- a table that is read

rows_plain : (columns : ℕ) (rows : List TableRow) → AllByRecursion (IsRow columns) rows → AllByRecursion IsPlainRow rows
rows_plain columns [] h = tt
rows_plain columns (row ∷ rows) h =
    let early = h.0.early in
    (record { early = omega (arith, early); cells = cells_marked row.cells h.0.cells }, rows_plain columns rows h.1)

table_plain : (text : List ℕ) (table : TableOf) → SpellsTable text table → IsPlainTable table
table_plain text table h = record {
  labels = labels_marked table.labels h.table.front.labels.each;
  rows = rows_plain (length table.labels) table.rows (each_row (length table.labels) table.rows h.table.front.rows);
}

-- ---- the table of a run

early_in : (resolution : Resolution) (time : ℕ) → time < time_end → femtoseconds_at resolution time < 2 ^ 128
early_in Ps time small = omega (arith, small)
early_in Fs time small = omega (arith, small)

shown_plain : (resolution : Resolution) (cells : Cells) (end : ℕ) → end ≤ time_end → (times : List ℕ) → AllByRecursion (λ t. t < end) times
    → AllByRecursion IsPlainRow (map (row_shown resolution cells) times)
shown_plain resolution cells end small [] h = tt
shown_plain resolution cells end small (time ∷ times) h =
    let before = h.0 in (
      record { early = early_in resolution time (omega (arith, small, before)); cells = shown_marked (shown cells (time + 1)) },
      shown_plain resolution cells end small times h.1,
    )

module _ (model : PureTree) (flat : Flat) (firsts : List First) (ahead : List (List Change)) (stop turns : ℕ) where
  abbrev end : ℕ
  end = end_of model flat (rules_of model flat) (start_world model flat firsts ahead turns) stop

  abbrev cells : Cells
  cells = run_cells model flat (rules_of model flat) (start_world model flat firsts ahead turns) end

  run_plain : IsKept model → IsFlatOf model flat → stop < time_end → IsPlainTable (run_table model flat firsts ahead stop turns)
  run_plain kept is small =
      let low : end ≤ stop = ends_within (engine model flat (rules_of model flat)) (start_world model flat firsts ahead turns) stop in record {
        labels = subst (AllByRecursion IsMarked) (sym (labels_are model flat is)) (traces_marked model.traces kept.traces);
        rows = shown_plain flat.resolution cells end (omega (arith, low, small)) (row_times cells end) (times_below (is_row cells) end);
      }

pub read_as_its_table : WritesItsTable → IsReadAsItsTable
read_as_its_table writes model flat firsts ahead stop turns table kept is small h =
    table_one table (run_table model flat firsts ahead stop turns) (table_plain _ table h) (run_plain model flat firsts ahead stop turns kept is small)
    (sym h.is ∙ writes model flat firsts ahead stop turns)
