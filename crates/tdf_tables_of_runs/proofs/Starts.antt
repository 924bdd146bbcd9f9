-- All values at the start of a run have at most 64 bits.
use Rattle.std.proofs.Common.{◌≡◌, ℕ, zero, suc, ◌+◌, if◌then◌else◌, nat_eq, List, [], ◌∷◌, length, map, Option, Some, None, refl, arith}
use Rattle.std.specs.List.{AllByRecursion, enumerate_from, range_with_len}
use Rattle.std.specs.Prelude.{All, slice_get, slice_index_or}
use Rattle.tdf_bind.specs.Flat.{IsFlatOf}
use Rattle.tdf_bind.specs.declared.model.Flat.{Flat}
use Rattle.tdf_bind_connections.specs.declared.drivers.SignalRow.{SignalRow}
use Rattle.tdf_bind_connections.specs.declared.edges.EdgeRow.{EdgeRow}
use Rattle.tdf_bind_connections.specs.declared.modules.PortRow.{PortRow}
use Rattle.tdf_bind_connections.specs.declared.traces.TraceRow.{TraceRow}
use Rattle.tdf_bind_invariants.specs.Formats.{IsOwnPort, IsSoundModel, PortsHaveFormats}
use Rattle.tdf_dynamic_first.specs.declared.first.First.{First}
use Rattle.tdf_events.specs.Side.{start_side}
use Rattle.tdf_events_invariants.specs.Runnable.{SignalsStartInFormat, StartsInFormat}
use Rattle.tdf_expr.specs.Frames.{IsOfFormat}
use Rattle.tdf_fixed.proofs.Api.{in_small}
use Rattle.tdf_fixed.specs.declared.format.Format.{Format}
use Rattle.tdf_fixed.specs.declared.raw.Raw.{Raw}
use Rattle.tdf_lang_tree.specs.Pure.{PureTree}
use Rattle.tdf_sim_history.specs.Cells.{driver_of_row}
use Rattle.tdf_sim_history.specs.Columns.{ColumnStart, held_by}
use Rattle.tdf_sim_history.specs.Rules.{start_world}
use Rattle.tdf_sim_history.specs.Start.{first_cluster, starting_value, text_column, text_columns}
use Rattle.tdf_sim_history.specs.World.{Change}
use Rattle.tdf_streams.specs.Cluster.{driver_samples, given_at, initial_list, initial_sample, initial_samples, list_if_own, zero_of_port}
use Rattle.tdf_tables_of_runs.proofs.Sides.{IsSmallOption, IsSmallSide}
use Rattle.tdf_tables_of_runs.proofs.Small.{AreSmall, IsSmallRaw, all_both, all_made, all_same, either, zero_small}
use Rattle.tdf_tables_of_runs.proofs.Worlds.{IsSmallCluster, IsSmallWorld}

all_from : {A : Type 0} (P : A → Type 0) (xs : List A) → All P xs → AllByRecursion P xs
all_from P [] all = tt
all_from P (x ∷ xs) all = (all 0 x (omega arith), all_from P xs (λ k d less. all (suc k) d (omega (arith, less))))

format_small : (f : Format) (v : Raw) → IsOfFormat f v → IsSmallRaw v
format_small f v is = in_small f.signed f.wl v.num f.some_bits f.few_bits is.num

-- ---- initial samples

abbrev IsSmallGiven : ℕ × Raw → Type 0
IsSmallGiven given = IsSmallRaw given.1

given_small : (none : Raw) (k : ℕ) (given : List (ℕ × Raw)) → IsSmallRaw none → AllByRecursion IsSmallGiven given → IsSmallRaw (given_at none k given)
given_small none k [] a h = a
given_small none k (g ∷ rest) a h = given_small (if nat_eq g.0 k then g.1 else none) k rest (either IsSmallRaw (nat_eq g.0 k) g.1 none h.0 a) h.1

formats_small : (f : Format) (given : List (ℕ × Raw)) → AllByRecursion (λ (g : ℕ × Raw). IsOfFormat f g.1) given → AllByRecursion IsSmallGiven given
formats_small f [] h = tt
formats_small f (g ∷ gs) h = (format_small f g.1 h.0, formats_small f gs h.1)

module _ (model : PureTree) (flat : Flat) (formats : PortsHaveFormats) (starts : SignalsStartInFormat) (sound : IsSoundModel model) (is : IsFlatOf model flat) where
  initials_small : (number : ℕ) (o : Option PortRow) → slice_get flat.tables.ports number ≡ o → AreSmall (initial_samples flat.tables o)
  initials_small number None at = tt
  initials_small number (Some port) at =
      let own : IsOwnPort flat number port = formats model flat sound is number port at in
      let given = formats_small own.span.format port.initials (all_from (λ (g : ℕ × Raw). IsOfFormat own.span.format g.1) port.initials own.initials) in
      all_made IsSmallRaw (initial_sample flat.tables port) (λ k. given_small (zero_of_port flat.tables port) k port.initials zero_small given) (range_with_len 0 port.delay)

  driver_small : (o : Option ℕ) → AreSmall (driver_samples flat.tables o)
  driver_small None = tt
  driver_small (Some driver) = initials_small driver (slice_get flat.tables.ports driver) refl

  list_small : (cluster e : ℕ) (edge : EdgeRow) → AreSmall (list_if_own flat.tables cluster e edge)
  list_small cluster e edge = either AreSmall _ (initial_list flat.tables edge) []
      (all_both IsSmallRaw (initial_samples flat.tables (slice_get flat.tables.ports edge.port)) (driver_samples flat.tables edge.driver)
      (initials_small edge.port (slice_get flat.tables.ports edge.port) refl) (driver_small edge.driver)) tt

  -- ---- the world

  cluster_small : (cluster : ℕ) (first : First) (ahead : List Change) → IsSmallCluster (first_cluster model flat cluster first ahead)
  cluster_small cluster first ahead = record {
    begun = all_made AreSmall (λ (edge : ℕ × EdgeRow). list_if_own flat.tables cluster edge.0 edge.1) (λ edge. list_small cluster edge.0 edge.1) (enumerate_from 0 flat.tables.edges);
    reads = all_same AreSmall (length flat.tables.actors) [] tt;
  }

  rows_small : (rows : List SignalRow) → AllByRecursion StartsInFormat rows → AreSmall (map (λ (row : SignalRow). row.start) rows)
  rows_small [] h = tt
  rows_small (row ∷ rows) h = (format_small row.format row.start h.0, rows_small rows h.1)

  side_small : IsSmallSide (start_side flat)
  side_small = record {
    values = rows_small flat.tables.de_signals (all_from StartsInFormat flat.tables.de_signals (starts model flat is).de_signals);
    waiting = all_same IsSmallOption (length flat.tables.de_signals) None tt;
  }

  pub start_small : (firsts : List First) (ahead : List (List Change)) (turns : ℕ) → IsSmallWorld (start_world model flat firsts ahead turns)
  start_small firsts ahead turns = record {
    clusters = all_made IsSmallCluster (λ (first : ℕ × First). first_cluster model flat (first.0 + 1) first.1 (slice_index_or ahead first.0 []))
        (λ first. cluster_small (first.0 + 1) first.1 (slice_index_or ahead first.0 [])) (enumerate_from 0 firsts);
    events = side_small;
    written = tt;
  }

  -- ---- the columns

  starting_small : (rows : List SignalRow) (k : ℕ) → AllByRecursion StartsInFormat rows → IsSmallRaw (starting_value (slice_get rows k))
  starting_small [] k h = zero_small
  starting_small (row ∷ rows) zero h = format_small row.format row.start h.0
  starting_small (row ∷ rows) (suc k) h = starting_small rows k h.1

  abbrev pub IsSmallColumn : ColumnStart → Type 0
  IsSmallColumn s = IsSmallOption s.carry × AreSmall (held_by s)

  column_small : (row : TraceRow) → IsSmallColumn (text_column flat.tables row)
  unfolding held_by
  column_small row = (
    either IsSmallOption row.event (Some (starting_value (slice_get flat.tables.de_signals row.signal))) None
        (starting_small flat.tables.de_signals row.signal (all_from StartsInFormat flat.tables.de_signals (starts model flat is).de_signals)) tt,
    driver_small (driver_of_row (slice_get flat.tables.signals row.signal)),
  )

  pub columns_small : AllByRecursion IsSmallColumn (text_columns flat.tables)
  columns_small = all_made IsSmallColumn (text_column flat.tables) column_small flat.tables.traces
