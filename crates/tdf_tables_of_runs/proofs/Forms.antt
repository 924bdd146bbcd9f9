-- What a run of an accepted model writes is a table.
use Rattle.std.proofs.Common.{◌≡◌, ◌∙◌, ℕ, zero, suc, ◌+◌, ◌<◌, ◌≤◌, Bool, true, false, if◌then◌else◌, List, [], ◌∷◌, ◌++◌, filter, length, map, Some, None, sym, ap, subst, refl, arith, append-nil, append_assoc}
use Rattle.std.proofs.lemmas.List.{length-map}
use Rattle.std.proofs.lemmas.List.FromFn.{length-map-range_with_len}
use Rattle.std.specs.List.{AllByRecursion, AllZip, flat_map, range_with_len}
use Rattle.tdf_base.specs.Limits.{time_end}
use Rattle.tdf_base.specs.declared.resolution.Resolution.{Resolution}
use Rattle.tdf_base.specs.declared.resolution.Resolution.TheVariants.{Ps, Fs}
use Rattle.tdf_bind_connections.specs.Traces.{IsTraceOf}
use Rattle.tdf_bind_invariants.specs.Formats.{IsSoundModel, PortsHaveFormats}
use Rattle.tdf_bind_ports.specs.Ports.{port_of_member}
use Rattle.tdf_events_invariants.specs.Runnable.{SignalsStartInFormat}
use Rattle.tdf_fixed.specs.DecimalLaws.{IsValueText}
use Rattle.tdf_lang_parser.specs.Formed.{HasOwnLabel, IsNoPort}
use Rattle.tdf_lang_tree.specs.Kept.{Each, KeepsTrace}
use Rattle.tdf_lang_tree.specs.Pure.{PureTrace, PureTree}
use Rattle.tdf_lang_tree.specs.declared.blocks.Member.{Member}
use Rattle.tdf_lang_tree.specs.declared.blocks.Member.TheVariants as member
use Rattle.tdf_cli.specs.Below.{IsAcceptedTree, Sim}
use Rattle.tdf_sim_history.specs.Instant.{engine}
use Rattle.tdf_sim_history.specs.Rules.{rules_of, start_world}
use Rattle.tdf_sim_history.specs.World.{Change}
use Rattle.tdf_sim_traces.specs.Variables.{variables_of}
use Rattle.tdf_tables.proofs.Api.{last_more}
use Rattle.tdf_tables.specs.Tables.{AreColumnLabels, AreRows, FollowsTime, IsLabel, IsRow, MoreRows, NoRows, TableRow, last_time, latest}
use Rattle.tdf_tables_of_runs.proofs.CellForms.{cell_forms}
use Rattle.tdf_tables_of_runs.proofs.Ends.{ends_within, times_below}
use Rattle.tdf_tables_of_runs.proofs.Labels.{labels_are}
use Rattle.tdf_tables_of_runs.proofs.Shown.{last_small, shown_small}
use Rattle.tdf_tables_of_runs.proofs.Sides.{IsSmallOption}
use Rattle.tdf_tables_of_runs.proofs.Scale.{femtoseconds_at}
use Rattle.tdf_tables_of_runs.specs.Laws.{IsTableOfTrace, ShowsShortValues, WritesItsTable}
use Rattle.tdf_tables_of_runs.specs.RunTables.{row_shown, run_end_time, run_trace_cells}
use Rattle.tdf_trace.specs.Tables.{cell_text}
use Rattle.tdf_trace.specs.Writings.{labels_of}
use Rattle.tdf_trace_rows.specs.Laws.{row_times}
use Rattle.tdf_trace_rows.specs.Rows.{Cells, is_row, last, shown}

-- ---- the model

no_ports : (ms : List Member) → AllByRecursion IsNoPort ms → flat_map port_of_member ms ≡ []
no_ports [] all = refl
no_ports (member.Port port ∷ ms) all = absurd all.0
no_ports (member.Signal line name x ∷ ms) all = no_ports ms all.1
no_ports (member.DeSignal line name x start ∷ ms) all = no_ports ms all.1
no_ports (member.Instance line name block ∷ ms) all = no_ports ms all.1
no_ports (member.Bind line instance port target ∷ ms) all = no_ports ms all.1

sound_model : (tree : PureTree) (sim : Sim) → IsAcceptedTree tree sim → IsSoundModel tree
sound_model tree sim is = record {
  kept = is.kept;
  names = is.accepted.lines.names;
  types = is.accepted.lines.types;
  closed = no_ports tree.top.members is.formed.closed;
}

-- ---- the labels

own_labels : (traces : List PureTrace) → Each KeepsTrace traces → AllByRecursion HasOwnLabel traces → AllByRecursion IsLabel (map (λ (t : PureTrace). t.label) traces)
own_labels [] g h = tt
own_labels (t ∷ ts) g h = (record { name = g.0.1; own = h.0 }, own_labels ts g.1 h.1)

zip_long : {A B : Type 0} (R : A → B → Type 0) (xs : List A) (ys : List B) → AllZip R xs ys → length xs ≡ length ys
zip_long R [] [] all = refl
zip_long R [] (y ∷ ys) all = absurd all
zip_long R (x ∷ xs) [] all = absurd all
zip_long R (x ∷ xs) (y ∷ ys) all = ap suc (zip_long R xs ys all.1)

-- ---- times rise

abbrev RisesFrom : ℕ → List ℕ → Type 0
RisesFrom before [] = Unit {0}
RisesFrom before (t ∷ ts) = (before < t) × RisesFrom t ts

range_rises : (p : ℕ → Bool) (before from count : ℕ) → before < from → RisesFrom before (filter p (range_with_len from count))
range_rises p before from zero less = tt
range_rises p before from (suc count) less = go (p from) (range_rises p from (from + 1) count (omega arith)) (range_rises p before (from + 1) count (omega (arith, less)))
  where
    go : (b : Bool) → RisesFrom from (filter p (range_with_len (from + 1) count)) → RisesFrom before (filter p (range_with_len (from + 1) count))
        → RisesFrom before (if b then from ∷ filter p (range_with_len (from + 1) count) else filter p (range_with_len (from + 1) count))
    go true here other = (less, here)
    go false here other = other

abbrev later_times : Cells → (end : ℕ) → List ℕ
later_times cells end = filter (is_row cells) (range_with_len 1 end)

first_time : (cells : Cells) (end : ℕ) → row_times cells (suc end) ≡ 0 ∷ later_times cells end
first_time cells end = refl

femto_rises : (resolution : Resolution) (a b : ℕ) → a < b → femtoseconds_at resolution a < femtoseconds_at resolution b
femto_rises Ps a b less = omega (arith, less)
femto_rises Fs a b less = omega (arith, less)

-- ---- rows

rows_on : (columns : ℕ) (before : List TableRow) → AreRows columns before → (resolution : Resolution) (cells : Cells) (time : ℕ)
    → last_time before ≡ Some (femtoseconds_at resolution time) → (times : List ℕ) → RisesFrom time times
    → AllByRecursion (IsRow columns) (map (row_shown resolution cells) times) → AreRows columns (before ++ map (row_shown resolution cells) times)
rows_on columns before are resolution cells time last_is [] rise each = subst (AreRows columns) (sym (append-nil before)) are
rows_on columns before are resolution cells time last_is (t ∷ ts) rise each =
    let row = row_shown resolution cells t in
    let next : FollowsTime (last_time before) row.time = subst (λ o. FollowsTime o row.time) (sym last_is) (femto_rises resolution time t rise.0) in
    subst (AreRows columns) (append_assoc before (row ∷ []) (map (row_shown resolution cells) ts))
    (rows_on columns (before ++ row ∷ []) (MoreRows are row each.0 next) resolution cells t (last_more before row) ts rise.1 each.1)

zero_time : (resolution : Resolution) → femtoseconds_at resolution 0 ≡ 0
zero_time Ps = refl
zero_time Fs = refl

no_last : last_time [] ≡ None
unfolding last_time
no_last = refl

one_last : (row : TableRow) → last_time (row ∷ []) ≡ Some row.time
one_last row = last_more [] row

rows_from : (columns : ℕ) (resolution : Resolution) (cells : Cells) (end : ℕ) → 0 < end
    → AllByRecursion (IsRow columns) (map (row_shown resolution cells) (row_times cells end)) → AreRows columns (map (row_shown resolution cells) (row_times cells end))
rows_from columns resolution cells zero some each = absurd (omega (arith, some))
rows_from columns resolution cells (suc end) some each =
    let row = row_shown resolution cells 0 in
    let first : FollowsTime (last_time []) row.time = subst (λ o. FollowsTime o row.time) (sym no_last) (zero_time resolution) in
    rows_on columns (row ∷ []) (MoreRows NoRows row each.0 first) resolution cells 0 (one_last row) (later_times cells end)
    (range_rises (is_row cells) 0 1 end (omega arith)) each.1

some_rows : (resolution : Resolution) (cells : Cells) (end : ℕ) → 0 < end → 0 < length (map (row_shown resolution cells) (row_times cells end))
some_rows resolution cells zero some = absurd (omega (arith, some))
some_rows resolution cells (suc end) some = omega arith

-- ---- each row

shown_long : (cells : Cells) (time : ℕ) → length (shown cells time) ≡ cells.columns
unfolding shown
shown_long cells time = length-map-range_with_len (λ column. last cells column time) 0 cells.columns

early_in : (resolution : Resolution) (time : ℕ) → time < time_end → femtoseconds_at resolution time < latest
early_in Ps time small = omega (arith, small)
early_in Fs time small = omega (arith, small)

rows_each : IsValueText → (columns : ℕ) (resolution : Resolution) (cells : Cells) (end : ℕ) → cells.columns ≡ columns → end ≤ time_end
    → ((time : ℕ) → AllByRecursion IsSmallOption (shown cells time)) → (times : List ℕ) → AllByRecursion (λ t. t < end) times
    → AllByRecursion (IsRow columns) (map (row_shown resolution cells) times)
rows_each texts columns resolution cells end many low small [] h = tt
rows_each texts columns resolution cells end many low small (t ∷ ts) h =
    let before = h.0 in (
      record {
        early = early_in resolution t (omega (arith, low, before));
        many = length-map (shown cells (t + 1)) cell_text ∙ shown_long cells (t + 1) ∙ many;
        cells = cell_forms texts (shown cells (t + 1)) (small (t + 1));
      },
      rows_each texts columns resolution cells end many low small ts h.1,
    )

-- ---- the table

module _ (formats : PortsHaveFormats) (starts : SignalsStartInFormat) (texts : IsValueText) (tree : PureTree) (sim : Sim) (ahead : List (List Change)) (stop turns : ℕ)
    (is : IsAcceptedTree tree sim) (small : stop < time_end) where
  abbrev end : ℕ
  end = run_end_time tree sim.flat sim.firsts.items ahead stop turns

  abbrev cells : Cells
  cells = run_trace_cells tree sim.flat sim.firsts.items ahead stop turns

  abbrev labels : List (List ℕ)
  labels = labels_of (variables_of sim.flat.tables)

  labels_same : labels ≡ map (λ (t : PureTrace). t.label) tree.traces
  labels_same = labels_are tree sim.flat is.accepted.is_flat

  labels_long : length labels ≡ length tree.traces
  labels_long = ap length labels_same ∙ length-map tree.traces (λ (t : PureTrace). t.label)

  columns_long : length sim.flat.tables.traces ≡ length labels
  columns_long = zip_long (IsTraceOf is.accepted.is_flat.tables.tables) sim.flat.tables.traces _ is.accepted.is_flat.tables.follows.traces
      ∙ length-map tree.traces _ ∙ sym labels_long

  are_labels : 0 < length tree.traces → AreColumnLabels labels
  are_labels some = record {
    some = (let l = labels_long in omega (arith, some, l));
    each = subst (AllByRecursion IsLabel) (sym labels_same) (own_labels tree.traces is.kept.traces is.formed.labels);
  }

  each_row : AllByRecursion (IsRow (length labels)) (map (row_shown sim.flat.resolution cells) (row_times cells end))
  each_row =
      let low : end ≤ stop = ends_within (engine tree sim.flat (rules_of tree sim.flat)) (start_world tree sim.flat sim.firsts.items ahead turns) stop in
      rows_each texts (length labels) sim.flat.resolution cells end columns_long (omega (arith, low, small))
      (λ time. shown_small tree sim.flat formats starts (sound_model tree sim is) is.accepted.is_flat sim.firsts.items ahead turns end time)
      (row_times cells end) (times_below (is_row cells) end)

pub table_of_trace : WritesItsTable → PortsHaveFormats → SignalsStartInFormat → IsValueText → IsTableOfTrace
table_of_trace writes formats starts texts tree sim ahead stop turns run =
    let cells = run_trace_cells tree sim.flat sim.firsts.items ahead stop turns in
    let end = run_end_time tree sim.flat sim.firsts.items ahead stop turns in record {
      is = writes tree sim.flat sim.firsts.items ahead stop turns;
      table = record {
        front = record {
          labels = are_labels formats starts texts tree sim ahead stop turns run.accepted run.early run.traced;
          rows = rows_from (length (labels_of (variables_of sim.flat.tables))) sim.flat.resolution cells end run.goes
              (each_row formats starts texts tree sim ahead stop turns run.accepted run.early);
        };
        some = some_rows sim.flat.resolution cells end run.goes;
      };
    }

pub short_values : PortsHaveFormats → SignalsStartInFormat → ShowsShortValues
short_values formats starts tree sim ahead stop turns column time value is at =
    subst IsSmallOption at
    (last_small tree sim.flat formats starts (sound_model tree sim is) is.accepted.is_flat sim.firsts.items ahead turns
    (run_end_time tree sim.flat sim.firsts.items ahead stop turns) column time)
