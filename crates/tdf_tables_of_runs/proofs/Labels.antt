-- The labels of a run's table are those of the model's traces, and are names.
use Rattle.std.proofs.Common.{◌≡◌, ◌∙◌, ℕ, ◌<◌, Bool, true, false, cond, if◌then◌else◌, Option, Some, None, option_map, List, [], ◌∷◌, length, map, slice_get, find, filter_map, sym, ap, refl, arith}
use Rattle.std.proofs.lemmas.List.{length-map}
use Rattle.std.proofs.lemmas.List.FromFn.{length-enumerate_from}
use Rattle.std.proofs.lemmas.Option.{slice_get_within}
use Rattle.std.specs.List.{AllByRecursion, AllZip, cons_option, enumerate_from}
use Rattle.tdf_bind.specs.Flat.{IsFlatOf, trace_line}
use Rattle.tdf_bind.specs.declared.model.Flat.{Flat}
use Rattle.tdf_bind_connections.specs.Drivers.{signal_row, signal_rows}
use Rattle.tdf_bind_connections.specs.Traces.{IsTraceOf, has_path, leads_to}
use Rattle.tdf_bind_connections.specs.declared.drivers.SignalRow.{SignalRow}
use Rattle.tdf_bind_connections.specs.declared.traces.TraceRow.{TraceRow}
use Rattle.tdf_bind_connections.specs.declared.writers.Writer.{Writer}
use Rattle.tdf_bind_hierarchy.specs.Tables.{TablesOf, table}
use Rattle.tdf_bind_hierarchy.specs.declared.tables.Signal.{Signal}
use Rattle.tdf_lang_tree.specs.Kept.{Each, KeepsTrace}
use Rattle.tdf_lang_tree.specs.Pure.{PureTrace, PureTree}
use Rattle.tdf_sim_traces.specs.Variables.{trace_variable, traced_signal, variable_for, variables_of}
use Rattle.tdf_streams.proofs.Api.{get_inside, none_some}
use Rattle.tdf_tables.proofs.Api.{IsMarked}
use Rattle.tdf_tables_of_runs.proofs.Bytes.{name_marked}
use Rattle.tdf_tables_of_runs.specs.Laws.{HasLabelsOfTraces}
use Rattle.tdf_trace.specs.Writings.{labels_of}

-- ---- the signal of a trace is there

-- what is found passes the test
found_passes : {A : Type 0} (f : A → Bool) (xs : List A) (x : A) → find f xs ≡ Some x → f x ≡ true
found_passes f [] x at = none_some x at
found_passes {A} f (y ∷ ys) x at = go (f y) refl (λ e. found_passes f ys x e) at
  where
    go : (b : Bool) → f y ≡ b → (find f ys ≡ Some x → f x ≡ true) → cond b (Some y) (find f ys) ≡ Some x → f x ≡ true
    go true is rest e = let same : y ≡ x = cc in ap f (sym same) ∙ is
    go false is rest e = rest e

path_inside : (tables : TablesOf) (event : Bool) (number : ℕ) (text : List ℕ) (o : Option Signal)
    → slice_get (table event tables) number ≡ o → has_path text o ≡ true → number < length (table event tables)
path_inside tables event number text None at is = absurd (cc)
path_inside tables event number text (Some signal) at is = slice_get_within (table event tables) number signal at

trace_inside : (tables : TablesOf) (row : TraceRow) (trace : PureTrace) → IsTraceOf tables row (trace_line trace) → row.signal < length (table row.event tables)
trace_inside tables row trace is =
    path_inside tables row.event row.signal (trace_line trace).path (slice_get (table row.event tables) row.signal) refl
    (found_passes (leads_to tables (trace_line trace).path) tables.order (record { event = row.event; number = row.signal }) is.signal)

rows_long : (writers : List Writer) (signals : List Signal) → length (signal_rows writers signals) ≡ length signals
rows_long writers signals = length-map (enumerate_from 0 signals) (λ signal. signal_row writers signal.0 signal.1) ∙ length-enumerate_from 0 signals

module _ (model : PureTree) (flat : Flat) (is : IsFlatOf model flat) where
  abbrev rows_of : Bool → List SignalRow
  rows_of event = if event then flat.tables.de_signals else flat.tables.signals

  long_as : (event : Bool) → length (table event is.tables.tables) ≡ length (rows_of event)
  long_as true = sym (ap length is.tables.follows.signals.de_signals ∙ rows_long _ is.tables.tables.event_signals)
  long_as false = sym (ap length is.tables.follows.signals.signals ∙ rows_long _ is.tables.tables.signals)

  there_by : (event : Bool) (signal : ℕ) → signal < length (table event is.tables.tables)
      → (s : SignalRow) × ((if event then slice_get flat.tables.de_signals signal else slice_get flat.tables.signals signal) ≡ Some s)
  there_by true signal inside = get_inside flat.tables.de_signals signal (let l = long_as true in omega (arith, inside, l))
  there_by false signal inside = get_inside flat.tables.signals signal (let l = long_as false in omega (arith, inside, l))

  signal_there : (row : TraceRow) (trace : PureTrace) → IsTraceOf is.tables.tables row (trace_line trace) → (s : SignalRow) × (traced_signal flat.tables row ≡ Some s)
  signal_there row trace of = there_by row.event row.signal (trace_inside is.tables.tables row trace of)

  -- ---- the labels

  labels_by : (rows : List TraceRow) (traces : List PureTrace) → AllZip (IsTraceOf is.tables.tables) rows (map trace_line traces)
      → labels_of (filter_map (trace_variable flat.tables) rows) ≡ map (λ (t : PureTrace). t.label) traces
  labels_by [] [] all = refl
  labels_by [] (t ∷ ts) all = absurd all
  labels_by (r ∷ rs) [] all = absurd all
  labels_by (r ∷ rs) (t ∷ ts) all =
      let s = signal_there r t all.0 in
      let here : trace_variable flat.tables r ≡ Some (variable_for r s.0) = ap (option_map (variable_for r)) s.1 in
      ap (λ o. labels_of (cons_option o (filter_map (trace_variable flat.tables) rs))) here
      ∙ ap (λ l. l ∷ labels_of (filter_map (trace_variable flat.tables) rs)) all.0.label
      ∙ ap (λ ls. t.label ∷ ls) (labels_by rs ts all.1)

  pub labels_are : labels_of (variables_of flat.tables) ≡ map (λ (t : PureTrace). t.label) model.traces
  labels_are = labels_by flat.tables.traces model.traces is.tables.follows.traces

pub has_labels : HasLabelsOfTraces
has_labels model flat firsts ahead stop turns is = labels_are model flat is

-- ---- they are names

pub labels_marked : (traces : List PureTrace) → Each KeepsTrace traces → AllByRecursion IsMarked (map (λ (t : PureTrace). t.label) traces)
labels_marked [] h = tt
labels_marked (t ∷ ts) h = (name_marked t.label h.0.1, labels_marked ts h.1)
