-- Histories that are the same but for what is told have the same cells and texts.
use Rattle.std.proofs.Common.{◌≡◌, ◌∙◌, ℕ, zero, suc, ◌+◌, ◌-◌, ◌<◌, ◌≤◌, Bool, true, false, Option, Some, None, option_map, List, [], ◌∷◌, ◌++◌, if◌then◌else◌, length, map, refl, sym, ap, subst, arith}
use Rattle.std.proofs.lemmas.List.{length-map}
use Rattle.std.proofs.lemmas.Option.{slice_get-map}
use Rattle.std.specs.List.{enumerate_from, flat_map, list_any, range_with_len}
use Rattle.std.specs.Prelude.{◌||◌, slice_get, slice_index, slice_index_or}
use Rattle.tdf_dynamic.specs.Laws.{BoundariesHaveOne}
use Rattle.tdf_base.specs.declared.resolution.Resolution.{Resolution}
use Rattle.tdf_dynamic_plans.specs.Attributes.{clusters_of}
use Rattle.tdf_dynamic.specs.Below.{Flat, zero_sample}
use Rattle.tdf_sim_history.proofs.Told.{history_told}
use Rattle.tdf_sim_history.proofs.Twice.{next_is}
use Rattle.tdf_sim_history.proofs.Once.{one_history}
use Rattle.tdf_sim_history.specs.Cells.{cell_by_driver, cell_or, changed_cell, driven_cell, driver_of_row, port_cell, run_cells, signal_cell, trace_cell, value_before, world_before, world_of}
use Rattle.tdf_sim_history.specs.Instant.{RunFault, engine, instant, is_cluster_due, is_due}
use Rattle.tdf_sim_history.specs.Answers.{AreAnswers}
use Rattle.tdf_sim_history.specs.Telling.{AreTold, state_as, told_more, untold, world_told, world_untold}
use Rattle.tdf_sim_history.specs.Texts.{closing_text, end_of, first_plans, left_by, new_plans, notes_in, notes_to, plan_note, run_notes, run_trace}
use Rattle.tdf_sim_history.specs.Columns.{ColumnStart, stamp_at, start_of}
use Rattle.tdf_sim_history.specs.World.{Change, ClusterAt, Rules, World}
use Rattle.tdf_sim_history.specs.History.{Engine, Fault, Going, On, Past, Spent, HistoryState, Step, Stopped, after, end_time, history, state_of}
use Rattle.tdf_trace_rows.proofs.Api.{text_same}
use Rattle.tdf_trace_rows.specs.Laws.{Agree}
use Rattle.tdf_trace_rows.specs.Rows.{Writing, trace_text}
use Rattle.tdf_sim_history.specs.TableLaws.{AnswersWriteOne, MoreWritesTheSame}
use Rattle.tdf_lang_tree.specs.Pure.{PureTree}
use Rattle.tdf_bind_connections.specs.declared.modules.PortRow.{PortRow}
use Rattle.tdf_bind_connections.specs.declared.traces.TraceRow.{TraceRow}

due_bare : (time : ℕ) (cs : List ClusterAt) → list_any (is_cluster_due time) (map untold cs) ≡ list_any (is_cluster_due time) cs
due_bare time [] = refl
due_bare time (c ∷ cs) = ap (λ b. is_cluster_due time c || b) (due_bare time cs)

bare_told : (more : List (List Change)) (k : ℕ) (cs : List ClusterAt) → map untold (map (λ (c : ℕ × ClusterAt). told_more (slice_index_or more c.0 []) c.1) (enumerate_from k cs)) ≡ map untold cs
bare_told more k [] = refl
bare_told more k (c ∷ cs) = ap (λ l. untold c ∷ l) (bare_told more (k + 1) cs)

port_bare : (model : PureTree) (flat : Flat) (cluster : ℕ) (s : ColumnStart) (port : PortRow) (number time : ℕ) (o : Option ClusterAt)
    → port_cell model flat cluster s port number time (option_map untold o) ≡ port_cell model flat cluster s port number time o
port_bare model flat cluster s port number time None = refl
port_bare model flat cluster s port number time (Some c) = refl

note_bare : (flat : Flat) (time cluster : ℕ) (o : Option ClusterAt) → plan_note flat time cluster (option_map untold o) ≡ plan_note flat time cluster o
note_bare flat time cluster None = refl
note_bare flat time cluster (Some c) = refl

module _ {K : Type 0} where
  -- what is seen of a cluster whatever is told of it
  same_by : {A : Type 0} (F : Option ClusterAt → A) → ((o : Option ClusterAt) → F (option_map untold o) ≡ F o) → (w v : World K) → world_untold w ≡ world_untold v → (n : ℕ)
      → F (slice_get w.clusters n) ≡ F (slice_get v.clusters n)
  same_by F bare w v same n =
      sym (ap F (slice_get-map untold w.clusters n) ∙ bare (slice_get w.clusters n))
      ∙ ap (λ (u : World K). F (slice_get u.clusters n)) same
      ∙ ap F (slice_get-map untold v.clusters n) ∙ bare (slice_get v.clusters n)

  due_same : (rules : Rules K) (w v : World K) → world_untold w ≡ world_untold v → (time : ℕ) → is_due rules w time ≡ is_due rules v time
  due_same rules w v same time =
      sym (ap (λ b. b || rules.event_side.is_due w.events time) (due_bare time w.clusters))
      ∙ ap (λ (u : World K). is_due rules u time) same
      ∙ ap (λ b. b || rules.event_side.is_due v.events time) (due_bare time v.clusters)

  abbrev As : HistoryState (World K) RunFault → HistoryState (World K) RunFault
  As s = state_as world_untold s

  world_as : (s : HistoryState (World K) RunFault) → world_untold (world_of s) ≡ world_of (As s)
  world_as (On w) = refl
  world_as (Stopped time fault w) = refl
  world_as (Spent time w) = refl

  end_as : (stop : ℕ) (s : HistoryState (World K) RunFault) → end_time (As s) stop ≡ end_time s stop
  end_as stop (On w) = refl
  end_as stop (Stopped time fault w) = refl
  end_as stop (Spent time w) = refl

  closing_as : (unit : Resolution) (stop turns : ℕ) (s : HistoryState (World K) RunFault) → closing_text unit stop turns (As s) ≡ closing_text unit stop turns s
  closing_as unit stop turns (On w) = refl
  closing_as unit stop turns (Stopped time fault w) = refl
  closing_as unit stop turns (Spent time w) = refl

  -- states that are the same but for what is told end alike, and leave the same
  module _ (s t : HistoryState (World K) RunFault) (alike : As s ≡ As t) where
    pub states_end : (stop : ℕ) → end_time s stop ≡ end_time t stop
    states_end stop = sym (end_as stop s) ∙ ap (λ (u : HistoryState (World K) RunFault). end_time u stop) alike ∙ end_as stop t

    pub states_close : (unit : Resolution) (stop turns : ℕ) → closing_text unit stop turns s ≡ closing_text unit stop turns t
    states_close unit stop turns = sym (closing_as unit stop turns s) ∙ ap (closing_text unit stop turns) alike ∙ closing_as unit stop turns t

    pub states_leave : world_untold (world_of s) ≡ world_untold (world_of t)
    states_leave = world_as s ∙ ap world_of alike ∙ sym (world_as t)

    pub states_on : (w : World K) → s ≡ On w → (v : World K) × (t ≡ On v) × (world_untold w ≡ world_untold v)
    states_on w is = go t refl
      where
        go : (u : HistoryState (World K) RunFault) → t ≡ u → (v : World K) × (t ≡ On v) × (world_untold w ≡ world_untold v)
        go (On v) to = (v, to, ap world_of (ap As (sym is) ∙ alike ∙ ap As to))
        go (Stopped time fault v) to = (let e : As (On w) ≡ As (Stopped time fault v) = ap As (sym is) ∙ alike ∙ ap As to in absurd cc)
        go (Spent time v) to = (let e : As (On w) ≡ As (Spent time v) = ap As (sym is) ∙ alike ∙ ap As to in absurd cc)

  -- a world of which more is told
  pub untold_told : (more : List (List Change)) (w : World K) → world_untold (world_told more w) ≡ world_untold w
  untold_told more w = ap (λ l. record w { clusters = l }) (bare_told more 0 w.clusters)

  as_bare : (more : List (List Change)) (s : HistoryState (World K) RunFault) → As (state_as (world_told more) s) ≡ As s
  as_bare more (On w) = ap (λ u. On u) (untold_told more w)
  as_bare more (Stopped time fault w) = ap (λ u. Stopped time fault u) (untold_told more w)
  as_bare more (Spent time w) = ap (λ u. Spent time u) (untold_told more w)

  module _ (model : PureTree) (flat : Flat) where
    module _ (w v : World K) (same : world_untold w ≡ world_untold v) where
      driven_same : (s : ColumnStart) (time number : ℕ) (o : Option PortRow) → driven_cell model flat s time w.clusters number o ≡ driven_cell model flat s time v.clusters number o
      driven_same s time number None = refl
      driven_same s time number (Some port) =
          same_by (port_cell model flat (slice_index (clusters_of flat.tables) port.«module») s port number time) (port_bare model flat (slice_index (clusters_of flat.tables) port.«module») s port number time) w v same
          (slice_index (clusters_of flat.tables) port.«module» - 1)

      by_driver : (s : ColumnStart) (time : ℕ) (o : Option ℕ) → cell_by_driver model flat s time w.clusters o ≡ cell_by_driver model flat s time v.clusters o
      by_driver s time None = refl
      by_driver s time (Some number) = driven_same s time number (slice_get flat.tables.ports number)

      signal_same : (s : ColumnStart) (time signal : ℕ) → signal_cell model flat s time w.clusters signal ≡ signal_cell model flat s time v.clusters signal
      signal_same s time signal = by_driver s time (driver_of_row (slice_get flat.tables.signals signal))

      new_same : (time : ℕ) → new_plans flat time w ≡ new_plans flat time v
      new_same time = λ i. flat_map (λ n. same_by (plan_note flat time (n + 1)) (note_bare flat time (n + 1)) w v same n i) ((same i).planned)

      long_same : length w.clusters ≡ length v.clusters
      long_same = sym (length-map w.clusters untold) ∙ ap (λ (u : World K). length u.clusters) same ∙ length-map v.clusters untold

      plans_same : first_plans flat w.clusters ≡ first_plans flat v.clusters
      plans_same = λ i. flat_map (λ n. same_by (plan_note flat 0 (n + 1)) (note_bare flat 0 (n + 1)) w v same n i) (range_with_len 0 (long_same i))

    module _ (rules : Rules K) where
      abbrev E : Engine (World K) RunFault
      E = engine model flat rules

      -- a history that ended did so before the time up to which it is told
      abbrev EndsBy : ℕ → HistoryState (World K) RunFault → Type 0
      EndsBy k (On w) = Unit {0}
      EndsBy k (Stopped time fault w) = time ≤ k
      EndsBy k (Spent time w) = time ≤ k

      step_ends : (time : ℕ) (s : Step (World K) RunFault) → EndsBy (suc time) (state_of time s)
      step_ends time (Going w) = tt
      step_ends time (Fault fault w) = omega arith
      step_ends time (Past w) = omega arith

      after_ends : (time : ℕ) (s : HistoryState (World K) RunFault) → EndsBy time s → EndsBy (suc time) (after E time s)
      after_ends time (Stopped at fault w) low = omega (arith, low)
      after_ends time (Spent at w) low = omega (arith, low)
      after_ends time (On w) low = go (is_due rules w time)
        where
          go : (b : Bool) → EndsBy (suc time) (if b then state_of time (instant model flat rules time w) else On w)
          go true = step_ends time (instant model flat rules time w)
          go false = tt

      ends : (start : World K) (time : ℕ) → EndsBy time (history E 0 start time)
      unfolding history
      ends start zero = tt
      ends start (suc time) = subst (EndsBy (suc time)) (sym (next_is E start time)) (after_ends time (history E 0 start time) (ends start time))

      end_within : (stop : ℕ) (s : HistoryState (World K) RunFault) → EndsBy stop s → end_time s stop ≤ stop
      end_within stop (On w) low = omega arith
      end_within stop (Stopped time fault w) low = low
      end_within stop (Spent time w) low = low

      world_left : (time : ℕ) (s : Step (World K) RunFault) → world_of (state_of time s) ≡ left_by s
      world_left time (Going w) = refl
      world_left time (Fault fault w) = refl
      world_left time (Past w) = refl

      module _ (one other : World K) (stop : ℕ) (start : world_untold one ≡ world_untold other) (alike : (time : ℕ) → time ≤ stop → As (history E 0 one time) ≡ As (history E 0 other time)) where
        worlds_same : (time : ℕ) → time ≤ stop → world_untold (world_before model flat rules one time) ≡ world_untold (world_before model flat rules other time)
        worlds_same time low = states_leave (history E 0 one time) (history E 0 other time) (alike time low)

        value_same : (signal time : ℕ) → time ≤ stop → value_before model flat rules one signal time ≡ value_before model flat rules other signal time
        value_same signal time low = ap (λ (u : World K). slice_index_or (rules.event_side.values u.events) signal zero_sample) (worlds_same time low)

        shown_same : one.shown ≡ other.shown
        shown_same = ap (λ (u : World K). u.shown) start

        cell_same : (end time : ℕ) → end ≤ stop → time < end → (s : ColumnStart) (o : Option TraceRow) → trace_cell model flat rules one end time s o ≡ trace_cell model flat rules other end time s o
        cell_same end time within low s None = refl
        cell_same end time within low s (Some row) =
            let now : time ≤ stop = omega (arith, within, low) in
            let next : time + 1 ≤ stop = omega (arith, within, low) in
            λ i. if row.event then cell_or (stamp_at s.stamps time) (changed_cell (value_same row.signal time now i) (value_same row.signal (time + 1) next i))
            else signal_same (world_before model flat rules one end) (world_before model flat rules other end) (worlds_same end within) s time row.signal i

        pub cells_same : (end : ℕ) → end ≤ stop → Agree (run_cells model flat rules one end) (run_cells model flat rules other end) end
        cells_same end within = record {
          columns = refl;
          first = λ column inside. ap (λ l. (start_of l column).carry) shown_same;
          cells = λ column time inside low. (
              cell_same end time within low (start_of one.shown column) (slice_get flat.tables.traces column)
              ∙ ap (λ l. trace_cell model flat rules other end time (start_of l column) (slice_get flat.tables.traces column)) shown_same);
        }

        pub end_same : end_of model flat rules one stop ≡ end_of model flat rules other stop
        end_same = let low : stop ≤ stop = omega arith in states_end (history E 0 one stop) (history E 0 other stop) (alike stop low) stop

        -- the trace
        pub trace_same : (writing : Writing) → run_trace writing model flat rules one stop ≡ run_trace writing model flat rules other stop
        trace_same writing =
            let e = end_of model flat rules one stop in
            let within : e ≤ stop = end_within stop (history E 0 one stop) (ends one stop) in
            ap (λ t. writing.head ++ t ++ writing.tail e)
            (text_same writing.line (run_cells model flat rules one e) (run_cells model flat rules other e) e 0 e (cells_same e within) (omega arith))
            ∙ ap (λ n. trace_text writing (run_cells model flat rules other n) n) end_same

        left_after : (start : World K) (time : ℕ) (w : World K) → history E 0 start time ≡ On w → is_due rules w time ≡ true → world_before model flat rules start (suc time) ≡ left_by (instant model flat rules time w)
        left_after start time w on due =
            ap world_of (next_is E start time ∙ ap (after E time) on ∙ ap (λ b. if b then state_of time (instant model flat rules time w) else On w) due)
            ∙ world_left time (instant model flat rules time w)

        in_same : (time : ℕ) → time < stop → (s t : HistoryState (World K) RunFault) → history E 0 one time ≡ s → history E 0 other time ≡ t → As s ≡ As t → notes_in model flat rules time s ≡ notes_in model flat rules time t
        in_same time low (On w) (On v) is to e = go (is_due rules w time) refl
          where
            same : world_untold w ≡ world_untold v
            same = ap world_of e

            go : (b : Bool) → is_due rules w time ≡ b → (if is_due rules w time then new_plans flat time (left_by (instant model flat rules time w)) else [])
                ≡ (if is_due rules v time then new_plans flat time (left_by (instant model flat rules time v)) else [])
            go true due =
                let on : is_due rules v time ≡ true = sym (due_same rules w v same time) ∙ due in
                let next : suc time ≤ stop = omega (arith, low) in
                ap (λ b. if b then new_plans flat time (left_by (instant model flat rules time w)) else []) due
                ∙ new_same (left_by (instant model flat rules time w)) (left_by (instant model flat rules time v))
                (sym (ap world_untold (left_after one time w is due)) ∙ worlds_same (suc time) next ∙ ap world_untold (left_after other time v to on)) time
                ∙ sym (ap (λ b. if b then new_plans flat time (left_by (instant model flat rules time v)) else []) on)
            go false due =
                ap (λ b. if b then new_plans flat time (left_by (instant model flat rules time w)) else []) due
                ∙ sym (ap (λ b. if b then new_plans flat time (left_by (instant model flat rules time v)) else []) (sym (due_same rules w v same time) ∙ due))
        in_same time low (Stopped at f w) (Stopped to g v) is there e = refl
        in_same time low (Spent at w) (Spent to v) is there e = refl
        in_same time low (On w) (Stopped to g v) is there e = absurd cc
        in_same time low (On w) (Spent to v) is there e = absurd cc
        in_same time low (Stopped at f w) (On v) is there e = absurd cc
        in_same time low (Stopped at f w) (Spent to v) is there e = refl
        in_same time low (Spent at w) (On v) is there e = absurd cc
        in_same time low (Spent at w) (Stopped to g v) is there e = refl

        pub to_same : (time : ℕ) → time ≤ stop → notes_to model flat rules one time ≡ notes_to model flat rules other time
        unfolding notes_to
        to_same zero low = refl
        to_same (suc time) low =
            let before : time ≤ stop = omega (arith, low) in
            let less : time < stop = omega (arith, low) in
            λ i. to_same time before i ++ in_same time less (history E 0 one time) (history E 0 other time) refl refl (alike time before) i

        -- the notes
        pub notes_same : run_notes model flat rules one stop ≡ run_notes model flat rules other stop
        notes_same =
            let low : stop ≤ stop = omega arith in
            let closing : closing_text flat.resolution stop one.left (history E 0 one stop) ≡ closing_text flat.resolution stop other.left (history E 0 other stop)
            = states_close (history E 0 one stop) (history E 0 other stop) (alike stop low) flat.resolution stop one.left ∙ ap (λ (w : World K). closing_text flat.resolution stop w.left (history E 0 other stop)) start in
            λ i. plans_same one other start i ++ to_same stop low i ++ closing i

      pub told_alike : (start : World K) (more : List (List Change)) (stop : ℕ) → AreTold model flat rules start stop → (time : ℕ) → time ≤ stop
          → As (history E 0 (world_told more start) time) ≡ As (history E 0 start time)
      told_alike start more stop told time low = ap As (history_told more model flat rules start stop told time low) ∙ as_bare more (history E 0 start time)

-- what is said of the boundaries below a stop is said of those below an earlier one
module _ {K : Type 0} (model : PureTree) (flat : Flat) (rules : Rules K) (start : World K) (stop now : ℕ) (low : now ≤ stop) where
  pub told_below : AreTold model flat rules start stop → AreTold model flat rules start now
  told_below told time n w below on due = told time n w (omega (arith, below, low)) on due

  pub answers_below : AreAnswers model flat rules start stop → AreAnswers model flat rules start now
  answers_below answers time n w below on due = answers time n w (omega (arith, below, low)) on due

pub more_writes_the_same : MoreWritesTheSame
more_writes_the_same writing model flat rules start more stop told = record {
  trace = trace_same model flat rules (world_told more start) start stop (untold_told more start) (told_alike model flat rules start more stop told) writing;
  notes = notes_same model flat rules (world_told more start) start stop (untold_told more start) (told_alike model flat rules start more stop told);
}

pub answers_write_one : BoundariesHaveOne → AnswersWriteOne
answers_write_one law writing model flat rules one other stop start are answers others = record {
  trace = trace_same model flat rules one other stop start alike writing;
  notes = notes_same model flat rules one other stop start alike;
}
  where
    alike : (time : ℕ) → time ≤ stop → state_as world_untold (history (engine model flat rules) 0 one time) ≡ state_as world_untold (history (engine model flat rules) 0 other time)
    alike time low = one_history law model flat rules one other stop time start are answers others low
