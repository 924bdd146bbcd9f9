-- How the history of a model ended at a stop, and the closing line of its notes.
-- Source: own.
use Rattle.std.specs.Fmt.{decimal}
use Rattle.std.specs.Prelude.{ℕ, ◌-◌, ◌++◌, All, List, codes}
use Rattle.tdf_base.specs.Fault.{fault_text}
use Rattle.tdf_base.specs.declared.faults.Fault.{Fault}
use Rattle.tdf_base.specs.declared.resolution.Resolution.{Resolution}
use Rattle.tdf_dynamic_first.specs.declared.first.First.{First}
use Rattle.tdf_events.specs.Side.{SideOf}
use Rattle.tdf_fixed.specs.Decimal.{seconds_text_at}
use Rattle.tdf_bind.specs.declared.model.Flat.{Flat}
use Rattle.tdf_sim_history.specs.Answers.{AreAnswers}
use Rattle.tdf_sim_history.specs.Instant.{RunFault}
use Rattle.tdf_sim_history.specs.Texts.{run_notes, state_at}
use Rattle.tdf_sim_history.specs.World.{Change, World}
use Rattle.tdf_sim_history.specs.History.{HistoryState, On, Spent, Stopped}
use Rattle.tdf_dynamic_texts.specs.Plans.{line}
use Rattle.tdf_sim_notes.specs.declared.ending.End.{End}
use Rattle.tdf_sim_notes.specs.declared.ending.End.TheVariants as ending
use Rattle.tdf_lang_tree.specs.Pure.{PureTree}
use Rattle.tdf_sim_history.specs.Continuing.{HasToldCounts}
use Rattle.tdf_sim_history.specs.Rules.{rules_of, start_world}

-- how a history ended at a stop, of so many turns
abbrev pub end_of : (stop turns : ℕ) → HistoryState (World SideOf) RunFault → End
end_of stop turns (On w) = ending.Reached stop (turns - w.left)
end_of stop turns (Stopped time fault w) = ending.Stopped time fault.cluster fault.fault
end_of stop turns (Spent time w) = ending.Spent time

-- the history of a model from its first plans on, with what is told of its boundaries, at a stop
abbrev pub run_state : PureTree → Flat → List First → (ahead : List (List Change))
    → (stop turns : ℕ) → HistoryState (World SideOf) RunFault
run_state model flat firsts ahead stop turns =
    state_at model flat (rules_of model flat) (start_world model flat firsts ahead turns) stop

-- what is told of the boundaries of a model from its first plans on is their answers, up to a stop,
-- and new plans come with their counts
pub record HaveAnswers (model : PureTree) (flat : Flat) (firsts : List First)
    (ahead : List (List Change)) (stop turns : ℕ) : Type 0 where
  pub are : AreAnswers model flat (rules_of model flat) (start_world model flat firsts ahead turns)
      stop
  pub counts : All (All HasToldCounts) ahead

-- how it ended, and its notes
abbrev pub run_end : PureTree → Flat → List First → (ahead : List (List Change))
    → (stop turns : ℕ) → End
run_end model flat firsts ahead stop turns =
    end_of stop turns (run_state model flat firsts ahead stop turns)

abbrev pub run_note : PureTree → Flat → List First → (ahead : List (List Change))
    → (stop turns : ℕ) → List ℕ
run_note model flat firsts ahead stop turns =
    run_notes model flat (rules_of model flat) (start_world model flat firsts ahead turns) stop

-- `end TIME turns TAKEN`
unfoldable pub end_line : Resolution → (time taken : ℕ) → List ℕ
end_line unit time taken =
    line (codes "end " ++ seconds_text_at unit time ++ codes " turns " ++ decimal taken)

-- `stopped TIME cluster C CODE PLACE`
unfoldable pub stopped_line : Resolution → (time cluster : ℕ) → Fault → List ℕ
stopped_line unit time cluster fault = line (codes "stopped " ++ seconds_text_at unit time
    ++ codes " cluster " ++ decimal cluster ++ codes " " ++ fault_text fault)

-- `spent TIME turns GIVEN`
unfoldable pub spent_line : Resolution → (time given : ℕ) → List ℕ
spent_line unit time given =
    line (codes "spent " ++ seconds_text_at unit time ++ codes " turns " ++ decimal given)

-- the closing line of a run that was given so many turns
abbrev pub end_text : Resolution → (turns : ℕ) → End → List ℕ
end_text unit turns (ending.Reached time taken) = end_line unit time taken
end_text unit turns (ending.Stopped time cluster fault) = stopped_line unit time cluster fault
end_text unit turns (ending.Spent time) = spent_line unit time turns
