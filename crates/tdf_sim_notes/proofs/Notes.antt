-- The notes of a run: its first plans, the new plans of its instants, and its closing line.
use Rattle.std.proofs.Common.{◌≡◌, ◌∙◌, ℕ, List, ◌++◌, refl, ap}
use Rattle.tdf_base.specs.declared.resolution.Resolution.{Resolution}
use Rattle.tdf_events.specs.Side.{SideOf}
use Rattle.tdf_sim_history.specs.Instant.{RunFault}
use Rattle.tdf_sim_history.specs.Texts.{closing_text, notes_to}
use Rattle.tdf_sim_history.specs.World.{World}
use Rattle.tdf_sim_history.specs.History.{On, Spent, HistoryState, Stopped}
use Rattle.tdf_sim_notes.proofs.Listed.{plans_are_first}
use Rattle.tdf_sim_notes.specs.Ending.{end_line, end_of, end_text, spent_line, run_state, stopped_line}
use Rattle.tdf_sim_notes.specs.Laws.{NotesAreWritten}
use Rattle.tdf_sim_notes.specs.Plans.{plans_of}
use Rattle.tdf_sim_history.specs.Rules.{rules_of, start_world}

-- the closing line of the notes says how the history ended
pub closing_is : (unit : Resolution) (stop turns : ℕ) (x : HistoryState (World SideOf) RunFault) → closing_text unit stop turns x ≡ end_text unit turns (end_of stop turns x)
unfolding end_line stopped_line spent_line
closing_is unit stop turns (On w) = refl
closing_is unit stop turns (Stopped time fault w) = refl
closing_is unit stop turns (Spent time w) = refl

pub notes_are : NotesAreWritten
notes_are model flat firsts ahead stop turns =
    let new : List ℕ = notes_to model flat (rules_of model flat) (start_world model flat firsts ahead turns) stop in
    ap (λ t. t ++ new ++ closing_text flat.resolution stop turns (run_state model flat firsts ahead stop turns)) (plans_are_first model flat firsts ahead)
    ∙ ap (λ t. plans_of flat firsts ++ new ++ t) (closing_is flat.resolution stop turns (run_state model flat firsts ahead stop turns))
