-- The tables of a flat model tell the signal of each trace, and the port of each signal.
use Rattle.std.proofs.Common.{◌≡◌, ◌∙◌, ℕ, zero, suc, ◌<◌, ◌≤◌, Bool, true, false, cond, Option, Some, None, List, [], ◌∷◌, ◌++◌, length, slice_get, refl, ap, sym, subst, inl, inr, arith}
use Rattle.std.proofs.lemmas.Bool.{cases_lt}
use Rattle.std.proofs.lemmas.List.{length-map}
use Rattle.std.proofs.lemmas.List.FromFn.{length-enumerate_from}
use Rattle.std.proofs.lemmas.Option.{get_or_from_slice_get, slice_get_within}
use Rattle.std.specs.List.{AllZip, enumerate_from, find, flat_map}
use Rattle.tdf_base.specs.Limits.{most_traces}
use Rattle.tdf_expr_blocks.specs.Blocks.{composite_faults}
use Rattle.tdf_expr_blocks.specs.Types.{extra_faults, global_faults, traces_faults, type_faults}
use Rattle.tdf_dynamic_plans.proofs.Api.{modules_few}
use Rattle.tdf_base.specs.First.{fault_if}
use Rattle.tdf_bind.specs.Flat.{IsFlatOf, trace_line}
use Rattle.tdf_bind.specs.declared.model.Flat.{Flat}
use Rattle.tdf_streams.proofs.Api.{get_inside, none_some, some_same, is_wired}
use Rattle.tdf_sim_history.specs.Cells.{driver_of_row}
use Rattle.tdf_exec_layout.proofs.Api.{IsDriver, driver_is}
use Rattle.tdf_bind_invariants.specs.Limits.{AreWithinLimits}
use Rattle.tdf_bind_attributes.specs.Roles.{roles_of}
use Rattle.tdf_expr_symbols.specs.Names.{globals_of}
use Rattle.tdf_sim_traces.proofs.Items.{true_false}
use Rattle.tdf_sim_traces.specs.Signals.{AreTold, IsDriverOf}
use Rattle.tdf_lang_tree.specs.Pure.{PureTrace, PureTree}
use Rattle.tdf_bind_hierarchy.specs.Tables.{TablesOf, table}
use Rattle.tdf_bind_hierarchy.specs.declared.tables.Signal.{Signal}
use Rattle.tdf_bind_connections.specs.Drivers.{signal_row, signal_rows}
use Rattle.tdf_bind_connections.specs.Edges.{driver_row}
use Rattle.tdf_bind_connections.specs.ProcessBlocks.{placed_blocks}
use Rattle.tdf_bind_connections.specs.Traces.{IsTraceOf, has_path, leads_to}
use Rattle.tdf_bind_connections.specs.declared.drivers.SignalRow.{SignalRow}
use Rattle.tdf_bind_connections.specs.declared.modules.PortRow.{PortRow}
use Rattle.tdf_bind_connections.specs.declared.traces.TraceLine.{TraceLine}
use Rattle.tdf_bind_connections.specs.declared.traces.TraceRow.{TraceRow}
use Rattle.tdf_bind_connections.specs.declared.writers.Writer.{Writer}
use Rattle.tdf_sim_history.proofs.Api.{port_cluster}

-- what is found passes the test
found_passes : {A : Type 0} (f : A → Bool) (xs : List A) (x : A) → find f xs ≡ Some x → f x ≡ true
found_passes f [] x at = none_some x at
found_passes {A} f (y ∷ ys) x at = go (f y) refl (λ e. found_passes f ys x e) at
  where
    go : (b : Bool) → f y ≡ b → (find f ys ≡ Some x → f x ≡ true) → cond b (Some y) (find f ys) ≡ Some x → f x ≡ true
    go true is rest e = ap f (sym (some_same y x e)) ∙ is
    go false is rest e = rest e

zipped : {A B : Type 0} (R : A → B → Type 0) (xs : List A) (ys : List B) (i : ℕ) (x : A) → AllZip R xs ys → slice_get xs i ≡ Some x → (y : B) × R x y
zipped R [] ys i x all at = none_some x at
zipped R (x ∷ xs) [] i z all at = absurd all
zipped {A} {B} R (x ∷ xs) (y ∷ ys) zero z all at = (y, subst (λ v. R v y) (some_same x z at) all.0)
zipped R (x ∷ xs) (y ∷ ys) (suc i) z all at = zipped R xs ys i z all.1 at

zip_long : {A B : Type 0} (R : A → B → Type 0) (xs : List A) (ys : List B) → AllZip R xs ys → length xs ≡ length ys
zip_long R [] [] all = refl
zip_long R [] (y ∷ ys) all = absurd all
zip_long R (x ∷ xs) [] all = absurd all
zip_long R (x ∷ xs) (y ∷ ys) all = ap suc (zip_long R xs ys all.1)

rows_long : (writers : List Writer) (signals : List Signal) → length (signal_rows writers signals) ≡ length signals
rows_long writers signals = length-map (enumerate_from 0 signals) (λ signal. signal_row writers signal.0 signal.1) ∙ length-enumerate_from 0 signals

module _ (tables : TablesOf) where
  path_inside : (event : Bool) (number : ℕ) (text : List ℕ) (o : Option Signal) → slice_get (table event tables) number ≡ o → has_path text o ≡ true → number < length (table event tables)
  path_inside event number text None at is = absurd (true_false (sym is))
  path_inside event number text (Some signal) at is = slice_get_within (table event tables) number signal at

  trace_inside : (row : TraceRow) (line : TraceLine) → IsTraceOf tables row line → row.signal < length (table row.event tables)
  trace_inside row line is = path_inside row.event row.signal line.path (slice_get (table row.event tables) row.signal) refl
      (found_passes (leads_to tables line.path) tables.order (record { event = row.event; number = row.signal }) is.signal)

driver_same : (o : Option SignalRow) → driver_of_row o ≡ driver_row o
driver_same None = refl
driver_same (Some row) = refl

module _ (model : PureTree) (flat : Flat) (is : IsFlatOf model flat) (limits : AreWithinLimits flat) where
  signals_long : length flat.tables.signals ≡ length is.tables.tables.signals
  signals_long = ap length is.tables.follows.signals.signals ∙ rows_long _ is.tables.tables.signals

  events_long : length flat.tables.de_signals ≡ length is.tables.tables.event_signals
  events_long = ap length is.tables.follows.signals.de_signals ∙ rows_long _ is.tables.tables.event_signals

  inside : (column : ℕ) (row : TraceRow) → slice_get flat.tables.traces column ≡ Some row → row.signal < length (table row.event is.tables.tables)
  inside column row at = let l = zipped (IsTraceOf is.tables.tables) flat.tables.traces _ column row is.tables.follows.traces at in trace_inside is.tables.tables row l.0 l.1

  modules_actors : length flat.tables.modules ≤ length flat.tables.actors
  modules_actors = modules_few flat.tables (is_wired flat limits)

  told_driver : (signal number : ℕ) → driver_of_row (slice_get flat.tables.signals signal) ≡ Some number → IsDriverOf flat.tables signal number
  told_driver signal number driven =
      let d : IsDriver flat.tables.ports number signal = driver_is flat.tables.ports (placed_blocks (roles_of model) is.tables.tables.instances) is.tables.tables.signals flat.tables.signals signal number is.tables.follows.signals.signals
      (sym (driver_same (slice_get flat.tables.signals signal)) ∙ driven) in
      let m : d.row.«module» < length flat.tables.modules = all_inside d.row d.at in
      let few = modules_actors in
      record {
        port = d.row;
        there = d.at;
        kind_is = d.kind;
        writes = d.writes;
        inside = omega (arith, m, few);
        cluster = port_cluster flat number d.row limits d.at;
      }
    where
      all_inside : (row : PortRow) → slice_get flat.tables.ports number ≡ Some row → row.«module» < length flat.tables.modules
      all_inside row at = subst (λ (r : PortRow). r.«module» < length flat.tables.modules) (get_or_from_slice_get flat.tables.ports number row row at) (limits.in_range.port_modules number row (slice_get_within flat.tables.ports number row at))

  pub told : AreTold flat.tables
  told = record {
    samples = λ column row at plain. (let i = inside column row at in let e = ap (λ (b : Bool). length (table b is.tables.tables)) plain in let l = signals_long in omega (arith, i, e, l));
    events = λ column row at event. (let i = inside column row at in let e = ap (λ (b : Bool). length (table b is.tables.tables)) event in let l = events_long in omega (arith, i, e, l));
    drivers = told_driver;
  }

-- a sound model has few traces
right_none : {A : Type 0} (xs ys : List A) → xs ++ ys ≡ [] → ys ≡ []
right_none [] ys h = h
right_none (x ∷ xs) ys h = absurd (cons_none x (xs ++ ys) h)
  where
    cons_none : {B : Type 0} (z : B) (zs : List B) → z ∷ zs ≡ [] → ⊥
    cons_none z zs e = subst (λ l. elim l as (λ _. Type 0) [ [] ↦ ⊥ | u ∷ us ↦ Unit {0} ]) e tt

pub few_traces : (model : PureTree) (flat : Flat) → type_faults model ≡ [] → IsFlatOf model flat → length flat.tables.traces ≤ most_traces
unfolding type_faults fault_if
few_traces model flat none is =
    let long : length flat.tables.traces ≡ length model.traces = zip_long (IsTraceOf is.tables.tables) flat.tables.traces _ is.tables.follows.traces ∙ length-map model.traces trace_line in
    let f : traces_faults model.traces ≡ [] = right_none (composite_faults (globals_of model.globals) model.top) (traces_faults model.traces)
    (right_none (flat_map (global_faults (globals_of model.globals)) model.globals) (composite_faults (globals_of model.globals) model.top ++ traces_faults model.traces) none) in
    elim (cases_lt most_traces (length model.traces)) [
      | inr few ↦ omega (arith, few, long)
      | inl many ↦ (let t = get_inside model.traces most_traces many in absurd (one_more t.0 (ap extra_faults (sym t.1) ∙ f)))
    ]
  where
    cons_none : {B : Type 0} (z : B) (zs : List B) → z ∷ zs ≡ [] → ⊥
    cons_none z zs e = subst (λ l. elim l as (λ _. Type 0) [ [] ↦ ⊥ | u ∷ us ↦ Unit {0} ]) e tt

    one_more : (t : PureTrace) → extra_faults (Some t) ≡ [] → ⊥
    one_more t e = cons_none _ [] e
