-- The notes of a run are its first plans, the new plans of its instants, and its closing line.
-- Source: own.
use Rattle.std.specs.Prelude.{◌≡◌, ℕ, List, ◌++◌}
use Rattle.tdf_dynamic_first.specs.declared.first.First.{First}
use Rattle.tdf_bind.specs.declared.model.Flat.{Flat}
use Rattle.tdf_sim_history.specs.Start.{first_clusters}
use Rattle.tdf_sim_history.specs.Texts.{first_plans, notes_to}
use Rattle.tdf_sim_history.specs.World.{Change}
use Rattle.tdf_sim_notes.specs.Ending.{end_text, run_end, run_note}
use Rattle.tdf_sim_notes.specs.Plans.{plans_of}
use Rattle.tdf_lang_tree.specs.Pure.{PureTree}
use Rattle.tdf_sim_history.specs.Rules.{rules_of, start_world}

-- the plans that clusters start with are the first plans
abbrev pub PlansAreFirst : Type 0
PlansAreFirst = (model : PureTree) (flat : Flat) (firsts : List First)
    → (ahead : List (List Change))
    → first_plans flat (first_clusters model flat firsts ahead) ≡ plans_of flat firsts

-- so the notes are the first plans, then the new ones of all instants, and then how the run ended
abbrev pub NotesAreWritten : Type 0
NotesAreWritten = (model : PureTree) (flat : Flat) (firsts : List First)
    → (ahead : List (List Change)) (stop turns : ℕ)
    → run_note model flat firsts ahead stop turns ≡ plans_of flat firsts
    ++ notes_to model flat (rules_of model flat) (start_world model flat firsts ahead turns) stop
    ++ end_text flat.resolution turns (run_end model flat firsts ahead stop turns)
