-- The values of event signals that a run from its text shows have the fraction bits of their formats.
use Rattle.std.proofs.Common.{◌≡◌, ◌∙◌, ◌<◌, ◌≤◌, ◌+◌, ℕ, zero, suc, Bool, true, false, if◌then◌else◌, Option, Some, None, option_map, List, [], ◌∷◌, length, map, slice_get, slice_index_or, refl, ap, sym, subst, inl, inr, arith}
use Rattle.std.proofs.lemmas.Bool.{cases_lt}
use Rattle.std.proofs.lemmas.List.{length-map}
use Rattle.std.proofs.lemmas.Option.{get_or_from_slice_get, slice_get-map, slice_get_past}
use Rattle.tdf_bind.specs.declared.model.Flat.{Flat}
use Rattle.tdf_bind_connections.specs.declared.drivers.SignalRow.{SignalRow}
use Rattle.tdf_bind_connections.specs.declared.traces.TraceRow.{TraceRow}
use Rattle.tdf_dynamic_first.specs.declared.first.First.{First}
use Rattle.tdf_events.specs.Runnable.{AreOfSignals, signal_formats}
use Rattle.tdf_events.specs.Side.{SideOf}
use Rattle.tdf_fixed.specs.Overflow.{IsOfWidth}
use Rattle.tdf_fixed.specs.declared.raw.Raw.{Raw}
use Rattle.tdf_lang_tree.specs.Pure.{PureTree}
use Rattle.tdf_sim_history.specs.Cells.{cell_or, changed_cell, event_cell, event_column_cell, is_same_value, run_cells, signal_cell, trace_cell, value_before, world_before, world_of}
use Rattle.tdf_sim_history.specs.Columns.{ColumnStart, no_start, stamp_at, start_of}
use Rattle.tdf_sim_history.specs.History.{history}
use Rattle.tdf_sim_history.specs.Rules.{rules_of, start_world}
use Rattle.tdf_sim_history.specs.Start.{starting_value, text_column, text_columns}
use Rattle.tdf_sim_history.specs.Texts.{state_at}
use Rattle.tdf_sim_history.specs.World.{Change, World}
use Rattle.tdf_sim_resumed.specs.Formats.{AreInFormatsTo}
use Rattle.tdf_sim_resumed.specs.Starting.{row_of_trace}
use Rattle.tdf_sim_resumed.specs.Valid.{IsNumberFor}
use Rattle.tdf_sim_split.proofs.Fitting.{EventsFit, FitsTrace, HasShown, last_has}
use Rattle.tdf_streams.proofs.Api.{get_inside, none_some, some_same}
use Rattle.tdf_streams.specs.Cluster.{fraction_of_row, zero_sample}
use Rattle.tdf_trace_rows.specs.Rows.{Cells}

past_or : {A : Type 0} (xs : List A) (k : ℕ) (d : A) → length xs ≤ k → slice_index_or xs k d ≡ d
past_or [] k d past = refl
past_or (x ∷ xs) zero d past = absurd (omega (arith, past))
past_or (x ∷ xs) (suc k) d past = past_or xs k d (omega (arith, past))

-- the value of a number fits the row of that number, and where there is none it is zero
module _ (flat : Flat) (values : List Raw) (are : AreOfSignals (signal_formats flat) values) where
  long : length values ≡ length flat.tables.de_signals
  long = are.long ∙ length-map flat.tables.de_signals (λ (r : SignalRow). r.format)

  pub value_fits : (k : ℕ) → (slice_index_or values k zero_sample).frac ≡ fraction_of_row (slice_get flat.tables.de_signals k)
  value_fits k = elim (cases_lt k (length values)) [
    | inl inside ↦ (
        let v = get_inside values k inside in
        let row = get_inside flat.tables.de_signals k (let l = long in omega (arith, inside, l)) in
        ap (λ (x : Raw). x.frac) (get_or_from_slice_get values k v.0 zero_sample v.1)
        ∙ (are.each k row.0.format v.0 (slice_get-map (λ (r : SignalRow). r.format) flat.tables.de_signals k ∙ ap (option_map (λ (r : SignalRow). r.format)) row.1) v.1).frac
        ∙ ap fraction_of_row (sym row.1))
    | inr past ↦ (
        ap (λ (x : Raw). x.frac) (past_or values k zero_sample past)
        ∙ ap fraction_of_row (sym (slice_get_past flat.tables.de_signals k (let l = long in omega (arith, past, l)))))
  ]

  -- and its number is in the range of that row
  pub value_in : (k : ℕ) → k < length flat.tables.de_signals → IsNumberFor (slice_get flat.tables.de_signals k) (slice_index_or values k zero_sample).num
  value_in k inside =
      let v = get_inside values k (let l = long in omega (arith, inside, l)) in
      let row = get_inside flat.tables.de_signals k inside in
      subst (λ (o : Option SignalRow). IsNumberFor o (slice_index_or values k zero_sample).num) (sym row.1)
      (subst (λ (x : Raw). IsOfWidth row.0.format.signed row.0.format.wl x.num) (sym (get_or_from_slice_get values k v.0 zero_sample v.1))
      (are.each k row.0.format v.0 (slice_get-map (λ (r : SignalRow). r.format) flat.tables.de_signals k ∙ ap (option_map (λ (r : SignalRow). r.format)) row.1) v.1).num)

-- ---- what a column of an event signal shows

module _ (model : PureTree) (flat : Flat) (start : World SideOf) (from rows : ℕ) (early : rows ≤ from) (column : ℕ) (row : TraceRow) (row_at : slice_get flat.tables.traces column ≡ Some row) (event : row.event ≡ true) (P : Raw → Type 0) where
  abbrev cells : Cells
  cells = run_cells model flat (rules_of model flat) start from

  abbrev value : ℕ → Raw
  value t = value_before model flat (rules_of model flat) start row.signal t

  cell_at : (t : ℕ) → cells.at column t ≡ cell_or (stamp_at (start_of start.shown column).stamps t) (event_cell model flat (rules_of model flat) start row.signal t)
  cell_at t =
      ap (trace_cell model flat (rules_of model flat) start from t (start_of start.shown column)) row_at
      ∙ ap (λ (b : Bool). if b then event_column_cell model flat (rules_of model flat) start (start_of start.shown column) row.signal t
      else signal_cell model flat (start_of start.shown column) t (world_of (state_at model flat (rules_of model flat) start from)).clusters row.signal) event

  module _ (values : (t : ℕ) → t ≤ from → P (value t)) (carries : (x : Raw) → (start_of start.shown column).carry ≡ Some x → P x) (stamps : (t : ℕ) (x : Raw) → stamp_at (start_of start.shown column).stamps t ≡ Some x → P x) where
    change_has : (v u x : Raw) → P u → changed_cell v u ≡ Some (Some x) → P x
    change_has v u x has is = go (is_same_value v u) is
      where
        go : (b : Bool) → (if b then None else Some (Some u)) ≡ Some (Some x) → P x
        go true same = none_some (Some x) same
        go false same = subst P (some_same u x (some_same (Some u) (Some x) same)) has

    cell_has : (t : ℕ) (x : Raw) → t < from → cells.at column t ≡ Some (Some x) → P x
    cell_has t x low is = go (stamp_at (start_of start.shown column).stamps t) refl (sym (cell_at t) ∙ is)
      where
        go : (o : Option Raw) → stamp_at (start_of start.shown column).stamps t ≡ o → cell_or o (event_cell model flat (rules_of model flat) start row.signal t) ≡ Some (Some x) → P x
        go None at same = change_has (value t) (value (t + 1)) x (values (t + 1) (omega (arith, low))) same
        go (Some v) at same = stamps t x (at ∙ some_same (Some v) (Some x) same)

    -- what is so of its values and of what it begins with is so of what it shows
    pub changes_have : HasShown P cells column rows from
    changes_have = record { before = λ x is. last_has P cells column from carries cell_has rows x early is; after = λ t x low high is. cell_has t x high is }

-- ---- a run from its text

-- a signal begins with the value that its row says
pub first_value : (rows : List SignalRow) (k : ℕ) → starting_value (slice_get rows k) ≡ slice_index_or (map (λ (r : SignalRow). r.start) rows) k zero_sample
first_value [] k = refl
first_value (row ∷ rows) zero = refl
first_value (row ∷ rows) (suc k) = first_value rows k

module _ (model : PureTree) (flat : Flat) (firsts : List First) (ahead : List (List Change)) (turns from rows : ℕ) (early : rows ≤ from) (are : AreInFormatsTo model flat (start_world model flat firsts ahead turns) from) where
  abbrev one : World SideOf
  one = start_world model flat firsts ahead turns

  module _ (column : ℕ) (row : TraceRow) (row_at : slice_get flat.tables.traces column ≡ Some row) (event : row.event ≡ true) where
    one_is : start_of one.shown column ≡ text_column flat.tables row
    one_is = get_or_from_slice_get (text_columns flat.tables) column (text_column flat.tables row) no_start (slice_get-map (text_column flat.tables) flat.tables.traces column ∙ ap (option_map (text_column flat.tables)) row_at)

    row_is : fraction_of_row (slice_get flat.tables.de_signals row.signal) ≡ fraction_of_row (row_of_trace flat.tables row)
    row_is = sym (ap (λ (b : Bool). fraction_of_row (if b then slice_get flat.tables.de_signals row.signal else slice_get flat.tables.signals row.signal)) event)

    fits_at : (t : ℕ) → t ≤ from → FitsTrace flat.tables row (value_before model flat (rules_of model flat) one row.signal t)
    fits_at t low = value_fits flat (world_before model flat (rules_of model flat) one t).events.values (are t low) row.signal ∙ row_is

    -- what it begins with is its value at the time 0
    first_fits : FitsTrace flat.tables row (starting_value (slice_get flat.tables.de_signals row.signal))
    unfolding history
    first_fits = subst (FitsTrace flat.tables row) (sym (first_value flat.tables.de_signals row.signal)) (fits_at 0 (omega arith))

    carry_fits : (x : Raw) → (start_of one.shown column).carry ≡ Some x → FitsTrace flat.tables row x
    carry_fits x is = subst (FitsTrace flat.tables row) (some_same (starting_value (slice_get flat.tables.de_signals row.signal)) x (sym carry ∙ is)) first_fits
      where
        carry : (start_of one.shown column).carry ≡ Some (starting_value (slice_get flat.tables.de_signals row.signal))
        carry = ap (λ (c : ColumnStart). c.carry) one_is ∙ ap (λ (b : Bool). if b then Some (starting_value (slice_get flat.tables.de_signals row.signal)) else None) event

    no_stamp : (t : ℕ) (x : Raw) → stamp_at (start_of one.shown column).stamps t ≡ Some x → FitsTrace flat.tables row x
    no_stamp t x is = none_some x (sym (ap (λ (c : ColumnStart). stamp_at c.stamps t) one_is) ∙ is)

  pub events_fit : EventsFit model flat one from rows
  events_fit column row row_at event = changes_have model flat one from rows early column row row_at event (FitsTrace flat.tables row)
      (fits_at column row row_at event) (carry_fits column row row_at event) (no_stamp column row row_at event)
