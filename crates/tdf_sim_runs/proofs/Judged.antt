-- When a snapshot is valid, by what is looked at.
use Rattle.std.proofs.Common.{◌≡◌, ◌≢◌, ◌∙◌, ◌<◌, ◌≤◌, ℕ, ℤ, zero, suc, Bool, true, false, if◌then◌else◌, Option, Some, None, option_map, List, [], ◌∷◌, length, map, slice_get, refl, sym, ap, subst, arith}
use Rattle.std.proofs.lemmas.Option.{get_or_from_slice_get, slice_get-get_or, slice_get_within}
use Rattle.std.specs.List.{cons_option}
use Rattle.std.specs.Prelude.{All, IfSome, IsSome, filter_map, is_some, slice_index_or}
use Rattle.tdf_bind.specs.declared.model.Flat.{Flat}
use Rattle.tdf_bind_connections.specs.declared.drivers.SignalRow.{SignalRow}
use Rattle.tdf_bind_connections.specs.declared.traces.TraceRow.{TraceRow}
use Rattle.tdf_dynamic_first.specs.declared.first.First.{First}
use Rattle.tdf_events.specs.State.{IsKernelState}
use Rattle.tdf_lang_tree.specs.Pure.{PureTree}
use Rattle.tdf_saved.specs.State.{ColumnStateOf, SnapshotOf}
use Rattle.tdf_saved.specs.declared.state.Stamp.{Stamp}
use Rattle.tdf_sim_shown.specs.Below.{ArePlansOf, AreStatesAt, AreTold, HasMembersOf, HasNumbersFor, HasTimesOf, IsNumberFor, IsValid, IsValidColumn, IsValidEvents, IsValidTracked, Tracked, resumed_clusters, row_of_trace, rows_from_saved, trace_variable, traced_signal, tracked_of, variable_for, variables_of}
use Rattle.tdf_sim_shown.proofs.Api.{given_at}
use Rattle.tdf_sim_shown.specs.Columns.{AreGoodColumns}
use Rattle.tdf_streams.proofs.Api.{get_inside, none_some, some_same}
use Rattle.tdf_trace.specs.States.{AreColumnStates, AreStampedFrom}
use Rattle.tdf_trace.specs.declared.about.Variable.{Variable}
use Rattle.tdf_trace_states.specs.ColumnStates.{HasNumbersIn, IsColumnState, IsInFormat, ShowsChanges, number_before}
use Rattle.tdf_trace_states.specs.Windows.{AreChangesTo, AreRisingFrom}

all_at : {A : Type 0} (P : A → Type 0) (xs : List A) (i : ℕ) (x : A) → All P xs → slice_get xs i ≡ Some x → P x
all_at P xs i x all at = subst P (get_or_from_slice_get xs i x x at) (all i x (slice_get_within xs i x at))

-- each cluster can go on from its state under plans of a snapshot
pub are_states_at : (flat : Flat) (s : SnapshotOf) (firsts : List First) → ArePlansOf flat s firsts → AreStatesAt flat s.clusters s.time
are_states_at flat s firsts are n x at =
    let f = get_inside firsts n (let i = slice_get_within s.clusters n x at in let l = are.all in omega (arith, i, l)) in
    record { table = f.0.attrs.rows; plan = f.0.plan; is = are.each n f.0 x f.1 at }

-- where each item gives something, there are as many
given_long : {A B : Type 0} (f : A → Option B) (xs : List A) → ((i : ℕ) (x : A) → slice_get xs i ≡ Some x → (y : B) × (f x ≡ Some y)) → length (filter_map f xs) ≡ length xs
given_long f [] gives = refl
given_long f (x ∷ xs) gives = let y = gives 0 x refl in ap (λ o. length (cons_option o (filter_map f xs))) y.1 ∙ ap suc (given_long f xs (λ i z at. gives (suc i) z at))

-- each number of changes is another than the one before
abbrev before : (carry : ℤ) → List Stamp → ℕ → Option ℤ
before carry samples zero = Some carry
before carry samples (suc i) = option_map (λ (x : Stamp). x.num) (slice_get samples i)

others : (carry : ℤ) (samples : List Stamp) (value : ℤ) → AreChangesTo carry (map (λ (x : Stamp). x.num) samples) value → (i : ℕ) (x : Stamp) → slice_get samples i ≡ Some x → before carry samples i ≢ Some x.num
unfolding AreChangesTo
others carry [] value changes i x at same = none_some x at
others carry (y ∷ ys) value changes zero x at same = changes.0 (some_same carry x.num same ∙ sym (ap (λ (z : Stamp). z.num) (some_same y x at)))
others carry (y ∷ ys) value changes (suc zero) x at same = others y.num ys value changes.1 zero x at same
others carry (y ∷ ys) value changes (suc (suc i)) x at same = others y.num ys value changes.1 (suc i) x at same

module _ (flat : Flat) (told : AreTold flat.tables) where
  -- the signal of a trace is there
  signal_there : (column : ℕ) (row : TraceRow) → slice_get flat.tables.traces column ≡ Some row → (signal : SignalRow) × (traced_signal flat.tables row ≡ Some signal)
  signal_there column row at = go row.event refl
    where
      of_kind : (b : Bool) → row.event ≡ b → traced_signal flat.tables row ≡ (if b then slice_get flat.tables.de_signals row.signal else slice_get flat.tables.signals row.signal)
      of_kind b is = ap (λ (c : Bool). if c then slice_get flat.tables.de_signals row.signal else slice_get flat.tables.signals row.signal) is

      go : (b : Bool) → row.event ≡ b → (signal : SignalRow) × (traced_signal flat.tables row ≡ Some signal)
      go true is = let x = get_inside flat.tables.de_signals row.signal (told.events column row at is) in (x.0, of_kind true is ∙ x.1)
      go false is = let x = get_inside flat.tables.signals row.signal (told.samples column row at is) in (x.0, of_kind false is ∙ x.1)

  pub variables_long : length (variables_of flat.tables) ≡ length flat.tables.traces
  variables_long = given_long (trace_variable flat.tables) flat.tables.traces (λ i row at. let x = signal_there i row at in (variable_for row x.0, ap (option_map (variable_for row)) x.1))

  -- the variable of a column
  variable_at : (column : ℕ) (row : TraceRow) (signal : SignalRow) → slice_get flat.tables.traces column ≡ Some row → traced_signal flat.tables row ≡ Some signal → slice_get (variables_of flat.tables) column ≡ Some (variable_for row signal)
  variable_at column row signal at there =
      let g = given_at (trace_variable flat.tables) flat.tables.traces column row variables_long at in
      g.2 ∙ sym g.1 ∙ ap (option_map (variable_for row)) there

  is_event : (row : TraceRow) (signal : SignalRow) → is_some (variable_for row signal).first ≡ true → row.event ≡ true
  is_event row signal is = go row.event refl
    where
      go : (b : Bool) → row.event ≡ b → row.event ≡ true
      go true on = on
      go false off = absurd (let z : is_some (if false then Some signal.start else None) ≡ true = sym (ap (λ (b : Bool). is_some (if b then Some signal.start else None)) off) ∙ is in absurd cc)

  -- numbers of a format are those of the signal
  module _ (row : TraceRow) (signal : SignalRow) (there : traced_signal flat.tables row ≡ Some signal) (s : ColumnStateOf) where
    to_row : (num : ℤ) → IsInFormat signal.format num → IsNumberFor (row_of_trace flat.tables row) num
    to_row num is = subst (λ o. IsNumberFor o num) (sym there) is

    of_row : (num : ℤ) → IsNumberFor (row_of_trace flat.tables row) num → IsInFormat signal.format num
    of_row num is = subst (λ o. IsNumberFor o num) there is

    numbers_for : HasNumbersIn signal.format s → HasNumbersFor flat.tables row s
    numbers_for has = record {
      carry = λ num is. to_row num (subst (λ o. IfSome o (IsInFormat signal.format)) is has.carry);
      samples = λ i d less. to_row (slice_index_or s.samples i d).num (has.samples i (slice_index_or s.samples i d) (slice_get-get_or s.samples i d less));
      later = λ i d less. to_row (slice_index_or s.later i d) (has.later i (slice_index_or s.later i d) (slice_get-get_or s.later i d less));
    }

    numbers_in : HasNumbersFor flat.tables row s → HasNumbersIn signal.format s
    numbers_in has = record {
      carry = of_carry s.carry refl;
      samples = λ i x at. of_row x.num (all_at (λ (y : Stamp). IsNumberFor (row_of_trace flat.tables row) y.num) s.samples i x has.samples at);
      later = λ i num at. of_row num (all_at (IsNumberFor (row_of_trace flat.tables row)) s.later i num has.later at);
    }
      where
        of_carry : (o : Option ℤ) → s.carry ≡ o → IfSome o (IsInFormat signal.format)
        of_carry None is = tt
        of_carry (Some num) is = of_row num (has.carry num is)

  shows_changes : (rows time : ℕ) (values : List ℤ) (row : TraceRow) (s : ColumnStateOf) → IsValidEvents flat rows time values row s → ShowsChanges time s
  shows_changes rows time values row s is = record {
    carry = subst (λ (o : Option ℤ). IsSome o) (sym is.carried) refl;
    later = is.none_later;
    below = λ i x at. all_at (λ (y : Stamp). y.time < time) s.samples i x is.before at;
    other = λ i x at. differs i x at (others is.carry s.samples is.value is.changes i x at);
  }
    where
      differs : (i : ℕ) (x : Stamp) → slice_get s.samples i ≡ Some x → before is.carry s.samples i ≢ Some x.num → number_before s i ≢ Some x.num
      differs zero x at other same = other (sym is.carried ∙ same)
      differs (suc i) x at other same = other same

  -- the samples of a column that a run can go on from rise, from its rows on
  pub rises : (rows : ℕ) (s : SnapshotOf) (row : TraceRow) (o : Option Tracked) (column : ColumnStateOf) → IsValidColumn flat rows s row o column → AreRisingFrom rows column.samples
  rises rows s row o column valid = go row.event refl
    where
      of_tracked : (p : Option Tracked) → IsValidTracked rows p column → AreRisingFrom rows column.samples
      of_tracked None is = subst (AreRisingFrom rows) (sym is.samples) (record { from = λ i d less. absurd (omega (arith, less)); rise = λ i x y at next. absurd (none_some x at) })
      of_tracked (Some x) is = is.rising

      go : (b : Bool) → row.event ≡ b → AreRisingFrom rows column.samples
      go true event = (valid.0 event).rising
      go false plain = of_tracked o (valid.1 plain)

  module _ (model : PureTree) (firsts : List First) (s : SnapshotOf) (members : HasMembersOf flat s) where
    abbrev rows_of : ℕ
    rows_of = rows_from_saved model flat firsts s

    row_at : (n : ℕ) (column : ColumnStateOf) → slice_get s.columns n ≡ Some column → (row : TraceRow) × (slice_get flat.tables.traces n ≡ Some row)
    row_at n column at = get_inside flat.tables.traces n (let i = slice_get_within s.columns n column at in let l = members.columns in omega (arith, i, l))

    pub stamped_from : AreGoodColumns flat (resumed_clusters model flat firsts s []) s → (rows : ℕ) → rows ≡ rows_of → AreStampedFrom rows s.columns
    stamped_from good rows is n column at i x x_at =
        let r = row_at n column at in
        let v = rises rows_of s r.0 (tracked_of flat.tables (resumed_clusters model flat firsts s []) r.0) column (good.each n r.0 column r.1 at) in
        let l = all_at (λ (y : Stamp). rows_of ≤ y.time) column.samples i x v.from x_at in omega (arith, l, is)

    -- what is looked at makes a snapshot valid
    pub is_valid : HasTimesOf s → ArePlansOf flat s firsts → IsKernelState flat s.time s.kernel → AreColumnStates (variables_of flat.tables) s.time s.columns → AreGoodColumns flat (resumed_clusters model flat firsts s []) s
        → IsValid model flat firsts s
    is_valid times plans kernel fit good = record {
      times = times;
      members = members;
      clusters = plans;
      kernel = kernel;
      columns = record {
        numbers = λ n row column at there. (
            let x = signal_there n row at in
            numbers_for row x.0 x.1 column (fit.each n (variable_for row x.0) column (variable_at n row x.0 at x.1) there).numbers);
        each = good.each;
      };
      alike = good.alike;
    }

    -- and a valid one has it
    pub good_columns : IsValid model flat firsts s → AreGoodColumns flat (resumed_clusters model flat firsts s []) s
    good_columns valid = record { each = valid.columns.each; alike = valid.alike }

    pub are_states : IsValid model flat firsts s → AreColumnStates (variables_of flat.tables) s.time s.columns
    are_states valid = record {
      long = members.columns ∙ sym variables_long;
      each = λ n v column v_at at. (
          let r = row_at n column at in
          let x = signal_there n r.0 r.1 in
          let v_is : variable_for r.0 x.0 ≡ v = some_same (variable_for r.0 x.0) v (sym (variable_at n r.0 x.0 r.1 x.1) ∙ v_at) in
          let is = valid.columns.each n r.0 column r.1 at in
          subst (λ (w : Variable). IsColumnState w.format (is_some w.first) s.time column) v_is (record {
            numbers = numbers_in r.0 x.0 x.1 column (valid.columns.numbers n r.0 column r.1 at);
            rising = (rises rows_of s r.0 (tracked_of flat.tables (resumed_clusters model flat firsts s []) r.0) column is).rise;
            changes = λ event. shows_changes rows_of s.time s.kernel.values r.0 column (is.0 (is_event r.0 x.0 event));
          }));
    }
