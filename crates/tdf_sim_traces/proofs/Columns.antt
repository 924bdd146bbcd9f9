-- The variables of a trace: one for each trace of the model.
use Rattle.std.proofs.Common.{◌≡◌, ◌∙◌, ℕ, zero, suc, ◌≤◌, Bool, true, false, if◌then◌else◌, Option, Some, None, option_map, List, [], ◌∷◌, length, slice_get, refl, ap, sym, subst, arith}
use Rattle.std.proofs.lemmas.Option.{get_or_from_slice_get, slice_get_within}
use Rattle.std.specs.List.{cons_option}
use Rattle.std.specs.Prelude.{IfSome, filter_map}
use Rattle.tdf_bind_tables.specs.FlatTables.{FlatTablesOf}
use Rattle.tdf_streams.proofs.Api.{get_inside, none_some, some_same}
use Rattle.tdf_sim_traces.specs.Calls.{CanBeShown}
use Rattle.tdf_sim_traces.specs.Variables.{traced_signal, variable_for, trace_variable, variables_of}
use Rattle.tdf_trace.specs.Columns.{HasFewPlaces}
use Rattle.tdf_trace.specs.Writings.{CanBeTraced}
use Rattle.tdf_trace.specs.declared.about.Variable.{Variable}
use Rattle.tdf_bind_connections.specs.declared.drivers.SignalRow.{SignalRow}
use Rattle.tdf_bind_connections.specs.declared.traces.TraceRow.{TraceRow}

-- where each item gives something, there are as many
given_long : {A B : Type 0} (f : A → Option B) (xs : List A) → ((i : ℕ) (x : A) → slice_get xs i ≡ Some x → (y : B) × (f x ≡ Some y)) → length (filter_map f xs) ≡ length xs
given_long f [] gives = refl
given_long f (x ∷ xs) gives = let y = gives 0 x refl in ap (λ o. length (cons_option o (filter_map f xs))) y.1 ∙ ap suc (given_long f xs (λ i z at. gives (suc i) z at))

-- what is given is given by an item
given_by : {A B : Type 0} (f : A → Option B) (xs : List A) (i : ℕ) (y : B) → slice_get (filter_map f xs) i ≡ Some y → (j : ℕ) × (x : A) × (slice_get xs j ≡ Some x) × (f x ≡ Some y)
given_by f [] i y at = none_some y at
given_by {A} {B} f (z ∷ xs) i y at = go (f z) refl i at (λ k there. given_by f xs k y there)
  where
    go : (o : Option B) → f z ≡ o → (i : ℕ) → slice_get (cons_option o (filter_map f xs)) i ≡ Some y → ((k : ℕ) → slice_get (filter_map f xs) k ≡ Some y → (j : ℕ) × (x : A) × (slice_get xs j ≡ Some x) × (f x ≡ Some y))
        → (j : ℕ) × (x : A) × (slice_get (z ∷ xs) j ≡ Some x) × (f x ≡ Some y)
    go None is i there rest = let r = rest i there in (suc r.0, r.1, r.2, r.3)
    go (Some v) is zero there rest = (0, z, refl, is ∙ there)
    go (Some v) is (suc i) there rest = let r = rest i there in (suc r.0, r.1, r.2, r.3)

module _ (tables : FlatTablesOf) (can : CanBeShown tables) where
  -- the signal of a trace is there
  signal_there : (column : ℕ) (row : TraceRow) → slice_get tables.traces column ≡ Some row → (signal : SignalRow) × (traced_signal tables row ≡ Some signal)
  signal_there column row at = go row.event refl
    where
      go : (b : Bool) → row.event ≡ b → (signal : SignalRow) × ((if row.event then slice_get tables.de_signals row.signal else slice_get tables.signals row.signal) ≡ Some signal)
      go true is = let s = get_inside tables.de_signals row.signal (can.told.events column row at is) in (s.0, ap (λ (b : Bool). if b then slice_get tables.de_signals row.signal else slice_get tables.signals row.signal) is ∙ s.1)
      go false is = let s = get_inside tables.signals row.signal (can.told.samples column row at is) in (s.0, ap (λ (b : Bool). if b then slice_get tables.de_signals row.signal else slice_get tables.signals row.signal) is ∙ s.1)

  pub variables_long : length (variables_of tables) ≡ length tables.traces
  variables_long = given_long (trace_variable tables) tables.traces (λ i row at. let s = signal_there i row at in (variable_for row s.0, ap (option_map (variable_for row)) s.1))

  -- what a variable begins with has few places
  few_first : (row : TraceRow) (signal : SignalRow) → traced_signal tables row ≡ Some signal → HasFewPlaces (variable_for row signal).first
  few_first row signal at = go row.event refl
    where
      go : (b : Bool) → row.event ≡ b → IfSome (if row.event then Some signal.start else None) (λ v. v.frac ≤ 120)
      go true is =
          let there : slice_get tables.de_signals row.signal ≡ Some signal = sym (ap (λ (b : Bool). if b then slice_get tables.de_signals row.signal else slice_get tables.signals row.signal) is) ∙ at in
          rw is (subst (λ (r : SignalRow). r.start.frac ≤ 120) (get_or_from_slice_get tables.de_signals row.signal signal signal there) (can.starts row.signal signal (slice_get_within tables.de_signals row.signal signal there)))
      go false is = rw is tt

  variable_few : (row : TraceRow) (v : Variable) (o : Option SignalRow) → traced_signal tables row ≡ o → option_map (variable_for row) o ≡ Some v → HasFewPlaces v.first
  variable_few row v None at gives = none_some v gives
  variable_few row v (Some signal) at gives = subst (λ (x : Variable). HasFewPlaces x.first) (some_same (variable_for row signal) v gives) (few_first row signal at)

  pub can_be_traced : CanBeTraced (variables_of tables)
  can_be_traced = record {
    few = (let l = variables_long in let f = can.few in omega (arith, l, f));
    first = λ place v at. (let g = given_by (trace_variable tables) tables.traces place v at in variable_few g.1 v (traced_signal tables g.1) refl g.3);
  }
