-- A run and one that goes on from a snapshot of it are one: the snapshot is valid, its world goes on from the run's, and its rows go on where those of the run end.
use Rattle.std.proofs.Common.{◌≡◌, ◌∙◌, [], length, sym, subst, arith}
use Rattle.std.proofs.lemmas.List.{length-map}
use Rattle.std.proofs.lemmas.List.FromFn.{length-enumerate_from}
use Rattle.std.specs.List.{enumerate_from}
use Rattle.tdf_dynamic_plans.specs.Attributes.{clusters_of}
use Rattle.tdf_events.specs.Side.{SideOf}
use Rattle.tdf_graph.specs.Clusters.{greatest}
use Rattle.tdf_sim_history.specs.Answers.{AreAnswers}
use Rattle.tdf_sim_history.specs.Cells.{run_cells}
use Rattle.tdf_sim_history.specs.Rules.{rules_of, start_world}
use Rattle.tdf_sim_history.specs.World.{World}
use Rattle.tdf_sim_resumed.specs.Resuming.{resumed_clusters}
use Rattle.tdf_sim_resumed.specs.Snapshot.{IsRowsFrom}
use Rattle.tdf_sim_resumed.specs.Starting.{resumed_world, rows_from_saved}
use Rattle.tdf_sim_resumed.specs.Valid.{IsValid}
use Rattle.tdf_sim_split.proofs.Validity.{places_same}
use Rattle.tdf_sim_split.specs.Columns.{AreAtSame, HasValidColumns, IsInFormats, SavedColumnsAreValid, TextsBeginWithColumns}
use Rattle.tdf_sim_split.specs.Formats.{FormatsAreKept, TextsBeginInFormats}
use Rattle.tdf_sim_split.specs.Laws.{GoesOnFrom}
use Rattle.tdf_sim_split.specs.Parts.{RunsSplit}
use Rattle.tdf_sim_split.specs.Snapshots.{HasSnapshot, HasValidParts, SnapshotsAreValid, SnapshotsGoOn, TextsAreSoundStarts, told_ahead}
use Rattle.tdf_sim_split.specs.Unbroken.{RunsAreUnbroken}

module _ (split : RunsSplit) (begin : TextsAreSoundStarts) (parts_of : SnapshotsAreValid) (on : SnapshotsGoOn) (columns_of : SavedColumnsAreValid) (text : TextsBeginWithColumns) (formats_of : FormatsAreKept) (text_in : TextsBeginInFormats) where
  pub runs_are_unbroken : RunsAreUnbroken
  runs_are_unbroken writing model flat firsts later ahead told w s from stop turns vcd sound is_flat checked limits events plans all counts answers early below some most snapshot fits later_plans answers_on =
      split writing model flat firsts later ahead (told_ahead w) told w s from stop turns vcd sound is_flat checked limits plans counts answers early snapshot fits valid goes rows_are answers_on
    where
      one : World SideOf
      one = start_world model flat firsts ahead turns

      so_far : AreAnswers model flat (rules_of model flat) one from
      so_far t n v less = answers t n v (omega (arith, less, early))

      has : HasSnapshot model flat one w 0 from turns vcd s
      has = record { start_is = begin model flat firsts ahead turns is_flat checked limits plans counts; later = omega arith; told = so_far; is = snapshot }

      many : length one.clusters ≡ greatest (clusters_of flat.tables)
      many = length-map (enumerate_from 0 firsts) _ ∙ length-enumerate_from 0 firsts ∙ all

      parts : HasValidParts flat s
      parts = parts_of model flat one w 0 from turns vcd s sound is_flat checked limits has many below some most

      goes : GoesOnFrom model flat from w (resumed_world model flat later s (told_ahead w))
      goes = on model flat later one w 0 from turns vcd s sound is_flat checked limits has later_plans

      same : AreAtSame w.clusters (resumed_clusters model flat later s [])
      same = places_same model flat later s w from goes

      formats : IsInFormats model flat one from s.columns
      formats = formats_of model flat one w from turns vcd s sound is_flat limits events has.start_is.sound so_far (text_in model flat firsts ahead turns from sound is_flat limits events fits) fits snapshot

      columns : HasValidColumns model flat later s snapshot.columns.rows
      columns = columns_of model flat one w 0 0 from turns vcd s later sound.kept checked limits events has.start_is.sound so_far (omega arith) (text model flat firsts ahead turns events) snapshot same parts.kernel formats

      valid : IsValid model flat later s
      valid = record { times = parts.times; members = record { clusters = parts.all; columns = columns.members }; clusters = later_plans; kernel = parts.kernel; columns = columns.columns; alike = columns.alike }

      rows_are : IsRowsFrom (run_cells model flat (rules_of model flat) one from) from (rows_from_saved model flat later s)
      rows_are = subst (IsRowsFrom (run_cells model flat (rules_of model flat) one from) from) (sym columns.rows_are) snapshot.columns.rows_are
