-- What a run writes: the trace of its history, and its notes.
-- Source: own.
use Rattle.std.specs.Fmt.{decimal}
use Rattle.std.specs.List.{flat_map, range_with_len}
use Rattle.std.specs.Prelude.{ℕ, zero, suc, ◌+◌, ◌-◌, if◌then◌else◌, Option, Some, None, List, [], ◌++◌, codes, length, slice_get}
use Rattle.tdf_base.specs.Fault.{fault_text}
use Rattle.tdf_base.specs.declared.resolution.Resolution.{Resolution}
use Rattle.tdf_fixed.specs.Decimal.{seconds_text_at}
use Rattle.tdf_dynamic.specs.Below.{Flat}
use Rattle.tdf_sim_history.specs.Cells.{run_cells}
use Rattle.tdf_sim_history.specs.Instant.{RunFault, engine, instant, is_due}
use Rattle.tdf_sim_history.specs.World.{ClusterAt, Rules, World}
use Rattle.tdf_sim_history.specs.History.{HistoryState, On, Stopped, Spent, Step, Going, Fault, Past, end_time, history}
use Rattle.tdf_dynamic_texts.specs.Plans.{PlanRows, line, plan_text}
use Rattle.tdf_trace_rows.specs.Rows.{Writing, trace_text}
use Rattle.tdf_lang_tree.specs.Pure.{PureTree}

-- the plan of a cluster in progress
abbrev pub plan_of : ClusterAt → PlanRows
plan_of c = record { entries = c.entries; bounds = c.bounds; period = c.now.info.period }

abbrev pub plan_note : Flat → (time cluster : ℕ) → Option ClusterAt → List ℕ
plan_note flat time cluster None = []
plan_note flat time cluster (Some c) =
    plan_text flat.resolution flat.tables cluster time (plan_of c)

-- the plans of all clusters at the start
abbrev pub first_plans : Flat → List ClusterAt → List ℕ
first_plans flat clusters =
    flat_map (λ n. plan_note flat 0 (n + 1) (slice_get clusters n))
    (range_with_len 0 (length clusters))

module _ {K : Type 0} where
  -- the new plans of an instant, also of one that ends the run
  abbrev pub new_plans : Flat → (time : ℕ) → World K → List ℕ
  new_plans flat time w =
      flat_map (λ n. plan_note flat time (n + 1) (slice_get w.clusters n)) w.planned

  abbrev pub left_by : Step (World K) RunFault → World K
  left_by (Going w) = w
  left_by (Fault fault w) = w
  left_by (Past w) = w

  abbrev pub notes_in : PureTree → Flat → Rules K → (time : ℕ) → HistoryState (World K) RunFault
      → List ℕ
  notes_in model flat rules time (On w) = if is_due rules w time
      then new_plans flat time (left_by (instant model flat rules time w)) else []
  notes_in model flat rules time (Stopped at fault w) = []
  notes_in model flat rules time (Spent at w) = []

  -- those of all instants below a time
  unfoldable pub notes_to : PureTree → Flat → Rules K → World K → (time : ℕ) → List ℕ
  notes_to model flat rules start zero = []
  notes_to model flat rules start (suc time) = notes_to model flat rules start time
      ++ notes_in model flat rules time (history (engine model flat rules) 0 start time)

  -- how the run ended: `end TIME turns USED`, `stopped TIME cluster C CODE PLACE`, or
  -- `spent TIME turns BUDGET`
  abbrev pub closing_text : Resolution → (stop turns : ℕ) → HistoryState (World K) RunFault → List ℕ
  closing_text unit stop turns (On w) = line (codes "end " ++ seconds_text_at unit stop
      ++ codes " turns " ++ decimal (turns - w.left))
  closing_text unit stop turns (Stopped time fault w) = line (codes "stopped "
      ++ seconds_text_at unit time ++ codes " cluster " ++ decimal fault.cluster ++ codes " "
      ++ fault_text fault.fault)
  closing_text unit stop turns (Spent time w) = line (codes "spent " ++ seconds_text_at unit time
      ++ codes " turns " ++ decimal turns)

  -- the state of the history at the stop, and the end time
  abbrev pub state_at : PureTree → Flat → Rules K → World K → (stop : ℕ)
      → HistoryState (World K) RunFault
  state_at model flat rules start stop = history (engine model flat rules) 0 start stop

  abbrev pub end_of : PureTree → Flat → Rules K → World K → (stop : ℕ) → ℕ
  end_of model flat rules start stop = end_time (state_at model flat rules start stop) stop

  -- the notes of a run with so many turns
  abbrev pub run_notes : PureTree → Flat → Rules K → World K → (stop : ℕ) → List ℕ
  run_notes model flat rules start stop = first_plans flat start.clusters
      ++ notes_to model flat rules start stop
      ++ closing_text flat.resolution stop start.left (state_at model flat rules start stop)

  -- its trace, written in some way
  abbrev pub run_trace : Writing → PureTree → Flat → Rules K → World K → (stop : ℕ) → List ℕ
  run_trace writing model flat rules start stop = trace_text writing
      (run_cells model flat rules start (end_of model flat rules start stop))
      (end_of model flat rules start stop)
