-- The columns of all traces, by the windows of these and by the clusters of a history.
use Rattle.std.proofs.Common.{◌≡◌, ◌∙◌, ◌<◌, ◌+◌, ℕ, ℤ, Option, Some, option_map, List, map, slice_get, inl, inr, ap, subst, sym, arith}
use Rattle.std.proofs.lemmas.Bool.{cases_eq}
use Rattle.std.proofs.lemmas.Option.{slice_get-map}
use Rattle.tdf_bind.specs.declared.model.Flat.{Flat}
use Rattle.tdf_bind_connections.specs.declared.traces.TraceRow.{TraceRow}
use Rattle.tdf_lang_tree.specs.Pure.{PureTree}
use Rattle.tdf_saved.specs.State.{ColumnStateOf, SnapshotOf}
use Rattle.tdf_sim_history.specs.World.{ClusterAt}
use Rattle.tdf_sim_resumed.specs.Below.{AreAt}
use Rattle.tdf_sim_resumed.specs.Starting.{least_within, tracked_of}
use Rattle.tdf_sim_resumed.specs.Valid.{IsValidColumn}
use Rattle.tdf_sim_traces.specs.Periods.{ClockAt}
use Rattle.tdf_sim_shown.proofs.Telling.{missing_are, samples_by, valid_by}
use Rattle.tdf_sim_shown.specs.Columns.{AreGoodColumns, rows_among}
use Rattle.tdf_sim_shown.specs.machine.Alike.{AreAlike}
use Rattle.tdf_sim_shown.specs.machine.Windows.{AreColumnsBy, AreWindowsOf, IsColumnBy, first_missing, window_by}
use Rattle.tdf_streams.proofs.Api.{some_same}
use Rattle.tdf_trace_states.specs.declared.windows.Window.{Window}

-- the columns of the first n traces
abbrev pub AreColumnsTo : Flat → (rows time : ℕ) → (values : List ℤ) → List (Option Window) → List ColumnStateOf → (n : ℕ) → Type 0
AreColumnsTo flat rows time values windows columns n = (k : ℕ) (row : TraceRow) (window : Option Window) (s : ColumnStateOf) → k < n → slice_get flat.tables.traces k ≡ Some row → slice_get windows k ≡ Some window
    → slice_get columns k ≡ Some s → IsColumnBy flat rows time values row window s

pub more_columns : (flat : Flat) (rows time : ℕ) (values : List ℤ) (windows : List (Option Window)) (columns : List ColumnStateOf) (n : ℕ) (row : TraceRow) (window : Option Window) (s : ColumnStateOf)
    → slice_get flat.tables.traces n ≡ Some row → slice_get windows n ≡ Some window → slice_get columns n ≡ Some s → AreColumnsTo flat rows time values windows columns n → IsColumnBy flat rows time values row window s
    → AreColumnsTo flat rows time values windows columns (n + 1)
more_columns flat rows time values windows columns n row window s row_at window_at s_at before here k r w z less r_at w_at z_at = elim (cases_eq k n) [
  | inl same ↦ (
      let a : row ≡ r = some_same row r (sym row_at ∙ ap (slice_get flat.tables.traces) (sym same) ∙ r_at) in
      let b : window ≡ w = some_same window w (sym window_at ∙ ap (slice_get windows) (sym same) ∙ w_at) in
      let c : s ≡ z = some_same s z (sym s_at ∙ ap (slice_get columns) (sym same) ∙ z_at) in
      subst (λ x. IsColumnBy flat rows time values r w x) c (subst (λ x. IsColumnBy flat rows time values r x s) b (subst (λ (x : TraceRow). IsColumnBy flat rows time values x window s) a here)))
  | inr apart ↦ before k r w z (omega (arith, less, apart)) r_at w_at z_at
]

module _ (model : PureTree) (flat : Flat) (clock : ClockAt) (windows : List (Option Window)) (clusters : List ClusterAt) (are : AreWindowsOf flat clock windows) (at : AreAt model flat clock.since clusters clock.clusters) where
  -- the rows by the windows are those by the clusters
  pub rows_by : (list : List (Option Window)) (rows first time : ℕ) → list ≡ windows → rows ≡ least_within first (map (first_missing first) list) → first ≡ time → rows ≡ rows_among flat clusters time
  rows_by list rows first time same is early =
      is ∙ ap (λ l. least_within first (map (first_missing first) l)) (same ∙ are model clusters at)
      ∙ ap (least_within first) (missing_are first (λ row. tracked_of flat.tables clusters row) flat.tables.traces)
      ∙ ap (rows_among flat clusters) early

  window_at : (n : ℕ) (row : TraceRow) → slice_get flat.tables.traces n ≡ Some row → slice_get windows n ≡ Some (option_map window_by (tracked_of flat.tables clusters row))
  window_at n row row_at =
      let f : TraceRow → Option Window = λ (r : TraceRow). option_map window_by (tracked_of flat.tables clusters r) in
      ap (λ l. slice_get l n) (are model clusters at) ∙ slice_get-map f flat.tables.traces n ∙ ap (option_map f) row_at

  module _ (s : SnapshotOf) (rows : ℕ) (rows_are : rows ≡ rows_among flat clusters s.time) where
    good_here : AreColumnsBy flat rows s.time s.kernel.values windows s.columns → AreAlike flat.tables.traces s.columns → AreGoodColumns flat clusters s
    good_here by alike = record {
      each = λ n row column row_at there. (
          let is = by n row (option_map window_by (tracked_of flat.tables clusters row)) column row_at (window_at n row row_at) there in
          subst (λ r. IsValidColumn flat r s row (tracked_of flat.tables clusters row) column) rows_are (is.0, λ plain. valid_by rows (tracked_of flat.tables clusters row) column (is.1 plain)));
      alike = record { each = λ m n one other one_at other_at events signals. alike m n (record { one = one; other = other; one_at = one_at; other_at = other_at; events = events; signals = signals }) };
    }

    by_here : AreGoodColumns flat clusters s → AreColumnsBy flat rows s.time s.kernel.values windows s.columns
    by_here good n row window column row_at w_at there =
        let is = subst (λ r. IsValidColumn flat r s row (tracked_of flat.tables clusters row) column) (sym rows_are) (good.each n row column row_at there) in
        let w : option_map window_by (tracked_of flat.tables clusters row) ≡ window = some_same _ window (sym (window_at n row row_at) ∙ w_at) in
        subst (λ x. IsColumnBy flat rows s.time s.kernel.values row x column) w (is.0, λ plain. samples_by rows (tracked_of flat.tables clusters row) column (is.1 plain))

    alike_here : AreGoodColumns flat clusters s → AreAlike flat.tables.traces s.columns
    alike_here good m n like = good.alike.each m n like.one like.other like.one_at like.other_at like.events like.signals

    -- what is looked at makes them good, and they have it
    abbrev pub AreBoth : (time : ℕ) → (values : List ℤ) → (list : List (Option Window)) → (columns : List ColumnStateOf) → Type 0
    AreBoth time values list columns = AreColumnsBy flat rows time values list columns × AreAlike flat.tables.traces columns

    module _ (time : ℕ) (values : List ℤ) (list : List (Option Window)) (columns : List ColumnStateOf) (time_is : time ≡ s.time) (values_are : values ≡ s.kernel.values) (list_is : list ≡ windows) (columns_are : columns ≡ s.columns) where
      pub are_good : AreBoth time values list columns → AreGoodColumns flat clusters s
      are_good both =
          let x = subst (AreBoth s.time s.kernel.values windows) columns_are (subst (λ l. AreBoth s.time s.kernel.values l columns) list_is (subst (λ v. AreBoth s.time v list columns) values_are (subst (λ t. AreBoth t values list columns) time_is both))) in
          good_here x.0 x.1

      pub are_both : AreGoodColumns flat clusters s → AreBoth time values list columns
      are_both good = subst (λ t. AreBoth t values list columns) (sym time_is) (subst (λ v. AreBoth s.time v list columns) (sym values_are) (subst (λ l. AreBoth s.time s.kernel.values l columns) (sym list_is)
          (subst (AreBoth s.time s.kernel.values windows) (sym columns_are) (by_here good, alike_here good))))
