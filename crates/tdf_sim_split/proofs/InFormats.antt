-- What a snapshot of a run shows is of the formats of its signals.
use Rattle.std.proofs.Common.{◌≡◌, ◌∙◌, ℕ, ℤ, zero, suc, ◌+◌, ◌-◌, ◌<◌, ◌≤◌, Bool, true, false, if◌then◌else◌, nat_eq, nat_lt, not, Option, Some, None, option_map, List, [], ◌∷◌, ◌++◌, map, slice_get, slice_index, slice_index_or, refl, ap, sym, subst, arith}
use Rattle.std.proofs.lemmas.List.Elements.{All-append, All-cons, All-filter, All-head, All-map, All-nil, All-tail}
use Rattle.std.proofs.lemmas.Option.{get_or_from_slice_get, slice_get-map, slice_get_within}
use Rattle.std.specs.List.{All, flat_map, range_with_len, zip}
use Rattle.tdf_bind.specs.Flat.{IsFlatOf}
use Rattle.tdf_bind.specs.declared.model.Flat.{Flat}
use Rattle.tdf_bind_connections.specs.declared.drivers.SignalRow.{SignalRow}
use Rattle.tdf_bind_connections.specs.declared.modules.PortRow.{PortRow}
use Rattle.tdf_bind_connections.specs.declared.traces.TraceRow.{TraceRow}
use Rattle.tdf_bind_invariants.specs.Formats.{IsSoundModel, PortsHaveFormats, format_of_row}
use Rattle.tdf_bind_invariants.specs.Limits.{AreWithinLimits}
use Rattle.tdf_bind_tables.specs.FlatTables.{FlatTablesOf}
use Rattle.tdf_dynamic_first.specs.declared.first.First.{First}
use Rattle.tdf_dynamic_plans.specs.Attributes.{clusters_of}
use Rattle.tdf_events.specs.Side.{SideOf}
use Rattle.tdf_expr.proofs.Api.{zero_in}
use Rattle.tdf_expr.specs.Frames.{IsOfFormat, is_written}
use Rattle.tdf_expr_laws.specs.Samples.{BodiesKeepSamples, PortsLieInOrder}
use Rattle.tdf_fixed.specs.Overflow.{IsOfWidth}
use Rattle.tdf_fixed.specs.declared.format.Format.{Format}
use Rattle.tdf_fixed.specs.declared.raw.Raw.{Raw}
use Rattle.tdf_lang_tree.specs.Pure.{PureTree}
use Rattle.tdf_saved.specs.State.{ColumnStateOf}
use Rattle.tdf_saved.specs.declared.state.Stamp.{Stamp as SavedStamp}
use Rattle.tdf_sim_history.proofs.Api.{record_at}
use Rattle.tdf_sim_history.specs.Cells.{column_spans, driver_of_row, event_column_cell, run_cells, sample_at, samples_done, signal_cell, trace_cell, value_before, world_before, world_of}
use Rattle.tdf_sim_history.specs.Columns.{ColumnStart, Stamp, held_by, no_start, stamp_at, start_of}
use Rattle.tdf_sim_history.specs.History.{HistoryState, On, history}
use Rattle.tdf_sim_history.specs.Instant.{RunFault, periods_of}
use Rattle.tdf_sim_history.specs.Rules.{rules_of, start_world}
use Rattle.tdf_sim_history.specs.Start.{starting_value, text_column, text_columns}
use Rattle.tdf_sim_history.specs.Texts.{state_at}
use Rattle.tdf_sim_history.specs.World.{Change, World}
use Rattle.tdf_sim_refinement.proofs.Api.{all_at}
use Rattle.tdf_sim_resumed.specs.Formats.{AreInFormatsTo}
use Rattle.tdf_sim_resumed.specs.Resuming.{resumed_clusters}
use Rattle.tdf_sim_resumed.specs.Snapshot.{IsSavedColumn, later_numbers, later_of, number_of_sample, shown_until, stamp_of_cell}
use Rattle.tdf_sim_resumed.specs.Starting.{Tracked, column_start_of, numbers_ahead, row_of_trace, rows_from_saved, stamp_of_trace, stamps_before, stamps_from, tracked_of, tracked_signal, value_of_trace}
use Rattle.tdf_sim_resumed.specs.Valid.{HasNumbersFor, IsNumberFor}
use Rattle.tdf_sim_split.proofs.Columned.{Driven, HowShown, IsDriven, Nothing, cell_is, how_shown, tracked_by, tracked_is}
use Rattle.tdf_sim_split.proofs.Fits.{Every, every_of}
use Rattle.tdf_sim_split.proofs.Fitting.{HasShown, last_has}
use Rattle.tdf_sim_split.proofs.Fractions.{form, given_has, kind, module_is, own}
use Rattle.tdf_sim_split.proofs.Outputs.{map_some, sample_has}
use Rattle.tdf_sim_split.proofs.ResumedColumns.{get_zip}
use Rattle.tdf_sim_split.proofs.Split.{sound_at}
use Rattle.tdf_sim_split.proofs.Values.{changes_have, first_value, value_fits, value_in}
use Rattle.tdf_sim_split.proofs.Written.{HasAllowed, output_in}
use Rattle.tdf_sim_split.specs.Columns.{EventsAreThere}
use Rattle.tdf_sim_split.specs.Formats.{BeginInFormats, BeginsInFormat, FormatsAreKept, ResumedBeginInFormats, TextsBeginInFormats}
use Rattle.tdf_sim_split.specs.Laws.{AreSound}
use Rattle.tdf_streams.proofs.Api.{get_inside, none_some, some_same}
use Rattle.tdf_streams.specs.Cluster.{driver_samples, initial_sample, initial_samples, zero_of_port}
use Rattle.tdf_trace_rows.specs.Positions.{count_of_spans, position_at}
use Rattle.tdf_trace_rows.specs.Rows.{Cells, last}

-- ---- lists

made_all : {A : Type 0} (P : A → Type 0) (f : ℕ → List A) (from count : ℕ) → ((j : ℕ) → from ≤ j → j < from + count → All P (f j)) → All P (flat_map f (range_with_len from count))
made_all P f from zero each = All-nil P
made_all P f from (suc count) each = All-append P (f from) (flat_map f (range_with_len (from + 1) count)) (each from (omega arith) (omega arith)) (made_all P f (from + 1) count (λ j low high. each j (omega (arith, low)) (omega (arith, high))))

stamp_all : (P : ℤ → Type 0) (t : ℕ) (o : Option (Option Raw)) → ((v : Raw) → o ≡ Some (Some v) → P v.num) → All (λ (x : SavedStamp). P x.num) (stamp_of_cell t o)
stamp_all P t None each = All-nil (λ (x : SavedStamp). P x.num)
stamp_all P t (Some None) each = All-nil (λ (x : SavedStamp). P x.num)
stamp_all P t (Some (Some v)) each = All-cons (λ (x : SavedStamp). P x.num) (record { time = t; num = v.num }) [] (each v refl) (All-nil (λ (x : SavedStamp). P x.num))

sample_all : (P : ℤ → Type 0) (o : Option Raw) → ((v : Raw) → o ≡ Some v → P v.num) → All P (number_of_sample o)
sample_all P None each = All-nil P
sample_all P (Some v) each = All-cons P v.num [] (each v refl) (All-nil P)

stamp_has : (P : Raw → Type 0) (xs : List Stamp) (t : ℕ) (v : Raw) → All (λ (x : Stamp). P x.value) xs → stamp_at xs t ≡ Some v → P v
stamp_has P [] t v all at = none_some v at
stamp_has P (x ∷ xs) t v all at = go (stamp_has P xs t v (All-tail (λ (y : Stamp). P y.value) x xs all)) (nat_eq x.time t) at
  where
    go : (stamp_at xs t ≡ Some v → P v) → (b : Bool) → (if b then Some x.value else stamp_at xs t) ≡ Some v → P v
    go rest true here = subst P (some_same x.value v here) (All-head (λ (y : Stamp). P y.value) x xs all)
    go rest false later = rest later

number_for : (o : Option SignalRow) (f : Format) (num : ℤ) → format_of_row o ≡ Some f → IsOfWidth f.signed f.wl num → IsNumberFor o num
number_for None f num is fits = none_some f is
number_for (Some signal) f num is fits = subst (λ (g : Format). IsOfWidth g.signed g.wl num) (sym (some_same signal.format f is)) fits

row_plain : (tables : FlatTablesOf) (row : TraceRow) → row.event ≡ false → row_of_trace tables row ≡ slice_get tables.signals row.signal
row_plain tables row plain = ap (λ (b : Bool). if b then slice_get tables.de_signals row.signal else slice_get tables.signals row.signal) plain

row_event : (tables : FlatTablesOf) (row : TraceRow) → row.event ≡ true → row_of_trace tables row ≡ slice_get tables.de_signals row.signal
row_event tables row event = ap (λ (b : Bool). if b then slice_get tables.de_signals row.signal else slice_get tables.signals row.signal) event

-- ---- a run from a start that begins so

module _ (keep : BodiesKeepSamples) (placed : PortsLieInOrder) (formats : PortsHaveFormats) (model : PureTree) (flat : Flat) (sound : IsSoundModel model) (is : IsFlatOf model flat) (limits : AreWithinLimits flat) (tells : EventsAreThere flat.tables)
    (start w : World SideOf) (time : ℕ) (on : state_at model flat (rules_of model flat) start time ≡ On w) (sound_w : AreSound flat w) (begins : BeginInFormats flat.tables start.shown) (values : AreInFormatsTo model flat start time) where
  abbrev cells : Cells
  cells = run_cells model flat (rules_of model flat) start time

  module _ (n : ℕ) (row : TraceRow) (at : slice_get flat.tables.traces n ≡ Some row) (rows : ℕ) (early : rows ≤ time) (state : ColumnStateOf) (saved : IsSavedColumn model flat start w cells rows time n row state) where
    abbrev s : ColumnStart
    s = start_of start.shown n

    abbrev InRange : ℤ → Type 0
    InRange num = IsNumberFor (row_of_trace flat.tables row) num

    abbrev IsIn : Raw → Type 0
    IsIn v = InRange v.num

    begun : BeginsInFormat flat.tables row s
    begun = begins n row at

    numbers_by : HasShown IsIn cells n rows (shown_until time (tracked_of flat.tables w.clusters row)) → All InRange state.later → HasNumbersFor flat.tables row state
    numbers_by shown later = record {
      carry = λ num there. (let v = map_some (λ (x : Raw). x.num) (last cells n rows) num (sym saved.carry ∙ there) in subst InRange v.2 (shown.before v.0 v.1));
      samples = subst (All (λ (x : SavedStamp). InRange x.num)) (sym saved.samples)
          (made_all (λ (x : SavedStamp). InRange x.num) (λ t. stamp_of_cell t (cells.at n t)) rows (shown_until time (tracked_of flat.tables w.clusters row) - rows)
          (λ t low high. stamp_all InRange t (cells.at n t) (λ v there. shown.after t v low (omega (arith, low, high)) there)));
      later = later;
    }

    -- ---- a column of samples

    module _ (plain : row.event ≡ false) where
      plain_cell : (t : ℕ) → cells.at n t ≡ signal_cell model flat s t w.clusters row.signal
      plain_cell t =
          ap (trace_cell model flat (rules_of model flat) start time t s) at
          ∙ ap (λ (b : Bool). if b then event_column_cell model flat (rules_of model flat) start s row.signal t
          else signal_cell model flat s t (world_before model flat (rules_of model flat) start time).clusters row.signal) plain
          ∙ ap (λ (x : HistoryState (World SideOf) RunFault). signal_cell model flat s t (world_of x).clusters row.signal) on

      all_cells : ((t : ℕ) (v : Raw) → cells.at n t ≡ Some (Some v) → IsIn v) → (end : ℕ) → HasShown IsIn cells n rows end
      all_cells each end = record {
        before = λ v there. last_has IsIn cells n rows (λ x first. begun.carry x first) (λ t x low is_at. each t x is_at) rows v (omega arith) there;
        after = λ t v low high there. each t v there;
      }

      tracked_plain : tracked_of flat.tables w.clusters row ≡ tracked_signal flat.tables w.clusters row.signal
      tracked_plain = ap (λ (b : Bool). if b then None else tracked_signal flat.tables w.clusters row.signal) plain

      module _ (d : IsDriven flat w.clusters row) where
        abbrev place : ℕ
        place = slice_index (clusters_of flat.tables) d.port.«module» - 1

        in_range : (v : Raw) → IsOfFormat (own formats model flat sound is limits row plain d.number d.driver d.port d.port_is).span.format v → IsIn v
        in_range v of = subst (λ o. IsNumberFor o v.num) (sym (row_plain flat.tables row plain))
            (number_for (slice_get flat.tables.signals row.signal) (own formats model flat sound is limits row plain d.number d.driver d.port d.port_is).span.format v.num
            (form formats model flat sound is limits row plain d.number d.driver d.port d.port_is) of.num)

        allowed : Every (HasAllowed flat) (periods_of d.cluster)
        allowed = every_of (HasAllowed flat) (periods_of d.cluster)
            (λ k p there. (record_at flat (place + 1) d.cluster.begun (periods_of d.cluster) k p (sound_w.each place d.cluster d.there).records there).timed.attributes.allowed)

        held : (j : ℕ) (v : Raw) → slice_get (held_by s) j ≡ Some v → IsIn v
        unfolding held_by
        held j v there = all_at IsIn (map (λ (x : Stamp). x.value) s.stamps ++ s.ahead) j v
            (All-append IsIn (map (λ (x : Stamp). x.value) s.stamps) s.ahead (All-map IsIn (λ (x : Stamp). x.value) s.stamps begun.stamps) (begun.ahead plain)) there

        sample_in : (j : ℕ) (v : Raw) → sample_at model flat (slice_index (clusters_of flat.tables) d.port.«module») d.cluster s d.port d.number j ≡ Some v → IsIn v
        sample_in j v there =
            let module_there = module_is formats model flat sound is limits row plain d.number d.driver d.port d.port_is in
            sample_has model flat d.number d.port module_there IsIn (HasAllowed flat)
            (λ p q xs given k one two low. in_range _ (output_in keep placed formats model flat sound is limits d.number d.port d.port_is (ap is_written (kind formats model flat sound is limits row plain d.number d.driver d.port d.port_is)) module_there p q xs given k one two low))
            s d.cluster allowed held j v there

        cell_in : (t : ℕ) (v : Raw) → cells.at n t ≡ Some (Some v) → IsIn v
        cell_in t v there = go (position_at 0 (column_spans d.port s d.cluster.origin (periods_of d.cluster)) t) (sym (plain_cell t ∙ cell_is model flat w.clusters row d s t) ∙ there)
          where
            go : (o : Option ℕ) → option_map (sample_at model flat (slice_index (clusters_of flat.tables) d.port.«module») d.cluster s d.port d.number) o ≡ Some (Some v) → IsIn v
            go None same = none_some (Some v) same
            go (Some j) same = sample_in j v (some_same (sample_at model flat (slice_index (clusters_of flat.tables) d.port.«module») d.cluster s d.port d.number j) (Some v) same)

        later_in : All InRange state.later
        later_in =
            let later_is : state.later ≡ later_numbers model flat s (tracked_by d) d.number = saved.later ∙ (λ i. later_of model flat s ((tracked_plain ∙ tracked_is model flat w.clusters row d) i) (d.driver i)) in
            subst (All InRange) (sym later_is)
            (made_all InRange (λ j. number_of_sample (sample_at model flat (slice_index (clusters_of flat.tables) d.port.«module») d.cluster s d.port d.number j))
            (count_of_spans (column_spans d.port s d.cluster.origin (periods_of d.cluster))) (samples_done s d.port d.cluster - count_of_spans (column_spans d.port s d.cluster.origin (periods_of d.cluster)))
            (λ j low high. sample_all InRange (sample_at model flat (slice_index (clusters_of flat.tables) d.port.«module») d.cluster s d.port d.number j) (λ v there. sample_in j v there)))

      plain_numbers : HasNumbersFor flat.tables row state
      plain_numbers = go (how_shown model flat w.clusters row)
        where
          go : HowShown model flat w.clusters row → HasNumbersFor flat.tables row state
          go (Nothing none cells_none all) = numbers_by (all_cells (λ t v there. none_some (Some v) (sym (plain_cell t ∙ cells_none s t) ∙ there)) _)
              (subst (All InRange) (sym (saved.later ∙ ap (λ o. later_of model flat s o (driver_of_row (slice_get flat.tables.signals row.signal))) (tracked_plain ∙ none))) (All-nil InRange))
          go (Driven d) = numbers_by (all_cells (cell_in d) _) (later_in d)

    -- ---- a column of an event signal

    module _ (event : row.event ≡ true) where
      value_range : (t : ℕ) → t ≤ time → IsIn (value_before model flat (rules_of model flat) start row.signal t)
      value_range t low = subst (λ o. IsNumberFor o (value_before model flat (rules_of model flat) start row.signal t).num) (sym (row_event flat.tables row event))
          (value_in flat (world_before model flat (rules_of model flat) start t).events.values (values t low) row.signal (tells n row at event))

      untracked : tracked_of flat.tables w.clusters row ≡ None
      untracked = ap (λ (b : Bool). if b then None else tracked_signal flat.tables w.clusters row.signal) event

      event_numbers : HasNumbersFor flat.tables row state
      event_numbers = numbers_by
          (subst (λ o. HasShown IsIn cells n rows (shown_until time o)) (sym untracked)
          (changes_have model flat start time rows early n row at event IsIn value_range (λ x there. begun.carry x there) (λ t x there. stamp_has IsIn s.stamps t x begun.stamps there)))
          (subst (All InRange) (sym (saved.later ∙ ap (λ o. later_of model flat s o (driver_of_row (slice_get flat.tables.signals row.signal))) untracked)) (All-nil InRange))

    column_numbers : HasNumbersFor flat.tables row state
    column_numbers = go row.event refl
      where
        go : (b : Bool) → row.event ≡ b → HasNumbersFor flat.tables row state
        go true event = event_numbers event
        go false plain = plain_numbers plain

  places_stay : (n t : ℕ) (row : TraceRow) → slice_get flat.tables.traces n ≡ Some row → row.event ≡ true → t < time
      → (value_before model flat (rules_of model flat) start row.signal t).frac ≡ (value_before model flat (rules_of model flat) start row.signal (t + 1)).frac
  places_stay n t row at event low =
      value_fits flat (world_before model flat (rules_of model flat) start t).events.values (values t (omega (arith, low))) row.signal
      ∙ sym (value_fits flat (world_before model flat (rules_of model flat) start (t + 1)).events.values (values (t + 1) (omega (arith, low))) row.signal)

pub formats_are_kept : BodiesKeepSamples → PortsLieInOrder → PortsHaveFormats → FormatsAreKept
formats_are_kept keep placed formats model flat start w time budget vcd s sound is limits tells sound_start answers begins values snapshot = record {
  numbers = λ n row column at there. column_numbers keep placed formats model flat sound is limits tells start w time snapshot.reached sound_w begins values n row at snapshot.columns.rows snapshot.columns.rows_are.within column (snapshot.columns.each n row column at there);
  places = λ n t row at event low. places_stay keep placed formats model flat sound is limits tells start w time snapshot.reached sound_w begins values n t row at event low;
}
  where
    sound_w : AreSound flat w
    sound_w = sound_at model flat sound.kept is.bodies start sound_start time answers time (omega arith) w snapshot.reached

-- ---- a run from its text

module _ (formats : PortsHaveFormats) (model : PureTree) (flat : Flat) (firsts : List First) (ahead : List (List Change)) (turns time : ℕ) (sound : IsSoundModel model) (is : IsFlatOf model flat) (limits : AreWithinLimits flat) (tells : EventsAreThere flat.tables)
    (values : AreInFormatsTo model flat (start_world model flat firsts ahead turns) time) (n : ℕ) (row : TraceRow) (at : slice_get flat.tables.traces n ≡ Some row) where
  abbrev one : World SideOf
  one = start_world model flat firsts ahead turns

  abbrev IsTextIn : Raw → Type 0
  IsTextIn v = IsNumberFor (row_of_trace flat.tables row) v.num

  first_in : row.event ≡ true → IsTextIn (starting_value (slice_get flat.tables.de_signals row.signal))
  unfolding history
  first_in event = subst (λ o. IsNumberFor o (starting_value (slice_get flat.tables.de_signals row.signal)).num) (sym (row_event flat.tables row event))
      (subst (λ (v : Raw). IsNumberFor (slice_get flat.tables.de_signals row.signal) v.num) (sym (first_value flat.tables.de_signals row.signal))
      (value_in flat (world_before model flat (rules_of model flat) one 0).events.values (values 0 (omega arith)) row.signal (tells n row at event)))

  carry_in : (b : Bool) → row.event ≡ b → (v : Raw) → (if b then Some (starting_value (slice_get flat.tables.de_signals row.signal)) else None) ≡ Some v → IsTextIn v
  carry_in true event v there = subst IsTextIn (some_same (starting_value (slice_get flat.tables.de_signals row.signal)) v there) (first_in event)
  carry_in false plain v there = none_some v there

  module _ (plain : row.event ≡ false) (number : ℕ) (drives : driver_of_row (slice_get flat.tables.signals row.signal) ≡ Some number) (port : PortRow) (there : slice_get flat.tables.ports number ≡ Some port) where
    given_in : (v : Raw) → IsOfWidth (own formats model flat sound is limits row plain number drives port there).span.format.signed (own formats model flat sound is limits row plain number drives port there).span.format.wl v.num → IsTextIn v
    given_in v of = subst (λ o. IsNumberFor o v.num) (sym (row_plain flat.tables row plain))
        (number_for (slice_get flat.tables.signals row.signal) (own formats model flat sound is limits row plain number drives port there).span.format v.num (form formats model flat sound is limits row plain number drives port there) of)

    initial_in : (k : ℕ) → IsTextIn (initial_sample flat.tables port k)
    initial_in k = given_has IsTextIn k (zero_of_port flat.tables port) port.initials
        (given_in (zero_of_port flat.tables port) (zero_in (own formats model flat sound is limits row plain number drives port there).span.format.signed (own formats model flat sound is limits row plain number drives port there).span.format.wl))
        (λ j g given. given_in g.1 (all_at (λ (x : ℕ × Raw). IsOfFormat (own formats model flat sound is limits row plain number drives port there).span.format x.1) port.initials j g
        (own formats model flat sound is limits row plain number drives port there).initials given).num)

  ahead_in : row.event ≡ false → All IsTextIn (driver_samples flat.tables (driver_of_row (slice_get flat.tables.signals row.signal)))
  ahead_in plain = by_driver (driver_of_row (slice_get flat.tables.signals row.signal)) refl
    where
      by_port : (number : ℕ) → driver_of_row (slice_get flat.tables.signals row.signal) ≡ Some number → (o : Option PortRow) → slice_get flat.tables.ports number ≡ o → All IsTextIn (initial_samples flat.tables o)
      by_port number drives None there = All-nil IsTextIn
      by_port number drives (Some port) there = All-map IsTextIn (initial_sample flat.tables port) (range_with_len 0 port.delay) (λ k d low. initial_in plain number drives port there (slice_index_or (range_with_len 0 port.delay) k d))

      by_driver : (o : Option ℕ) → driver_of_row (slice_get flat.tables.signals row.signal) ≡ o → All IsTextIn (driver_samples flat.tables o)
      by_driver None drives = All-nil IsTextIn
      by_driver (Some number) drives = by_port number drives (slice_get flat.tables.ports number) refl

  text_begins : BeginsInFormat flat.tables row (text_column flat.tables row)
  text_begins = record {
    carry = λ v there. carry_in row.event refl v there;
    stamps = All-nil (λ (x : Stamp). IsTextIn x.value);
    ahead = ahead_in;
  }

  start_begins : BeginsInFormat flat.tables row (start_of one.shown n)
  start_begins = subst (BeginsInFormat flat.tables row)
      (sym (get_or_from_slice_get (text_columns flat.tables) n (text_column flat.tables row) no_start (slice_get-map (text_column flat.tables) flat.tables.traces n ∙ ap (option_map (text_column flat.tables)) at))) text_begins

pub texts_begin_so : PortsHaveFormats → TextsBeginInFormats
texts_begin_so formats model flat firsts ahead turns time sound is limits tells values n row at = start_begins formats model flat firsts ahead turns time sound is limits tells values n row at

-- ---- a run that goes on from a snapshot

module _ (tables : FlatTablesOf) (row : TraceRow) (rows : ℕ) (column : ColumnStateOf) (numbers : HasNumbersFor tables row column) where
  abbrev IsRowNumber : ℤ → Type 0
  IsRowNumber num = IsNumberFor (row_of_trace tables row) num

  carried_in : (v : Raw) → option_map (value_of_trace tables row) column.carry ≡ Some v → IsRowNumber v.num
  carried_in v there = let x = map_some (value_of_trace tables row) column.carry v there in subst (λ (y : Raw). IsRowNumber y.num) x.2 (numbers.carry x.0 x.1)

  stamped_in : (xs : List SavedStamp) → All (λ (x : SavedStamp). IsRowNumber x.num) xs → All (λ (x : Stamp). IsRowNumber x.value.num) (map (stamp_of_trace tables row) xs)
  stamped_in xs all = All-map (λ (x : Stamp). IsRowNumber x.value.num) (stamp_of_trace tables row) xs all

  column_begins : (o : Option Tracked) → BeginsInFormat tables row (column_start_of tables rows row column o)
  column_begins None = record {
    carry = carried_in;
    stamps = stamped_in column.samples numbers.samples;
    ahead = λ plain. All-nil (λ (v : Raw). IsRowNumber v.num);
  }
  column_begins (Some x) = record {
    carry = carried_in;
    stamps = stamped_in (stamps_before x.cluster.since column) (All-filter (λ (y : SavedStamp). nat_lt y.time x.cluster.since) (λ (y : SavedStamp). IsRowNumber y.num) column.samples numbers.samples);
    ahead = λ plain. All-map (λ (v : Raw). IsRowNumber v.num) (value_of_trace tables row) (numbers_ahead x.cluster.since column)
        (All-append IsRowNumber (map (λ (y : SavedStamp). y.num) (stamps_from x.cluster.since column)) column.later
        (All-map IsRowNumber (λ (y : SavedStamp). y.num) (stamps_from x.cluster.since column) (All-filter (λ (y : SavedStamp). not (nat_lt y.time x.cluster.since)) (λ (y : SavedStamp). IsRowNumber y.num) column.samples numbers.samples)) numbers.later);
  }

pub resumed_begins_so : ResumedBeginInFormats
resumed_begins_so model flat firsts s ahead valid n row at =
    let column = get_inside s.columns n (let i = slice_get_within flat.tables.traces n row at in let l = valid.members.columns in omega (arith, i, l)) in
    let f : TraceRow × ColumnStateOf → ColumnStart = λ c. column_start_of flat.tables (rows_from_saved model flat firsts s) c.0 c.1 (tracked_of flat.tables (resumed_clusters model flat firsts s []) c.0) in
    subst (BeginsInFormat flat.tables row)
    (sym (get_or_from_slice_get (map f (zip flat.tables.traces s.columns)) n (f (row, column.0)) no_start (slice_get-map f (zip flat.tables.traces s.columns) n ∙ ap (option_map f) (get_zip flat.tables.traces s.columns n row column.0 at column.1))))
    (column_begins flat.tables row (rows_from_saved model flat firsts s) column.0 (valid.columns.numbers n row column.0 at column.1) (tracked_of flat.tables (resumed_clusters model flat firsts s []) row))
