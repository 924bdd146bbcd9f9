-- What a run writes up to a stop goes by what is told of its boundaries up to it, and where that is
-- their answers, by the model alone. Each boundary leads to attributes of its cluster then.
-- Source: own.
use Rattle.std.specs.Prelude.{◌≡◌, ◌≤◌, ◌+◌, ℕ, List, Contains, Some, slice_get}
use Rattle.tdf_dynamic.specs.Laws.{IsBoundary}
use Rattle.tdf_dynamic_plans.specs.Attributes.{clusters_of}
use Rattle.tdf_expr.specs.Checked.{IsCheckedOf}
use Rattle.tdf_dynamic.specs.Below.{AreAttributes, AreWithinLimits, Flat}
use Rattle.tdf_sim_history.specs.Answers.{AreAnswers, OfAll, asks_in}
use Rattle.tdf_sim_history.specs.Instant.{engine}
use Rattle.tdf_sim_history.specs.Telling.{AreTold, state_as, world_told, world_untold}
use Rattle.tdf_sim_history.specs.Texts.{run_notes, run_trace}
use Rattle.tdf_sim_history.specs.World.{Change, ClusterAt, Rules, World}
use Rattle.tdf_sim_history.specs.History.{history}
use Rattle.tdf_trace_rows.specs.Rows.{Writing}
use Rattle.tdf_lang_tree.specs.Kept.{IsKept}
use Rattle.tdf_lang_tree.specs.Pure.{PureTree}

-- from two starts a run has the same trace, written in some way, and the same notes
pub record WriteTheSame (writing : Writing) (model : PureTree) (flat : Flat) (rules : Rules ℕ)
    (one other : World ℕ) (stop : ℕ) : Type 0 where
  pub trace : run_trace writing model flat rules one stop
      ≡ run_trace writing model flat rules other stop
  pub notes : run_notes model flat rules one stop ≡ run_notes model flat rules other stop

-- where something is told of each boundary up to the stop, more that is told changes nothing
abbrev pub MoreWritesTheSame : Type 0
MoreWritesTheSame = (writing : Writing) (model : PureTree) (flat : Flat) (rules : Rules ℕ)
    → (start : World ℕ) (more : List (List Change)) (stop : ℕ)
    → AreTold model flat rules start stop
    → WriteTheSame writing model flat rules (world_told more start) start stop

-- two starts with the same clusters, of whose boundaries the answers are told, write the same
abbrev pub AnswersWriteOne : Type 0
AnswersWriteOne = (writing : Writing) (model : PureTree) (flat : Flat) (rules : Rules ℕ)
    → (one other : World ℕ) (stop : ℕ) → world_untold one ≡ world_untold other
    → OfAll model flat rules one stop (λ number c. IsBoundary flat number
    (asks_in model flat number c) c.now.info.table)
    → AreAnswers model flat rules one stop → AreAnswers model flat rules other stop
    → WriteTheSame writing model flat rules one other stop

-- the clusters of a start are those of the model, by number, and their attributes are their own
pub record HaveAttributes {K : Type 0} (flat : Flat) (w : World K) : Type 0 where
  pub has : (n : ℕ) (c : ClusterAt) → slice_get w.clusters n ≡ Some c
      → Contains (clusters_of flat.tables) (n + 1)
  pub each : (n : ℕ) (c : ClusterAt) → slice_get w.clusters n ≡ Some c
      → AreAttributes flat (n + 1) c.now.info.table

-- where the answers of the boundaries of such a start are told, each of them leads from attributes
-- of its cluster to such ones
abbrev pub BoundariesHaveTables : Type 0
BoundariesHaveTables = (model : PureTree) (flat : Flat) (rules : Rules ℕ) (start : World ℕ)
    → (stop : ℕ) → IsKept model → IsCheckedOf model flat.checked → AreWithinLimits flat
    → HaveAttributes flat start → AreAnswers model flat rules start stop
    → OfAll model flat rules start stop (λ number c. IsBoundary flat number
    (asks_in model flat number c) c.now.info.table)

-- two starts with the same clusters, of whose boundaries the answers are told up to a stop, have
-- one history up to it but for what is told
abbrev pub AnswersAgree : Type 0
AnswersAgree = (model : PureTree) (flat : Flat) (rules : Rules ℕ) (one other : World ℕ)
    → (stop time : ℕ) → IsKept model → IsCheckedOf model flat.checked → AreWithinLimits flat
    → HaveAttributes flat one → world_untold one ≡ world_untold other
    → AreAnswers model flat rules one stop → AreAnswers model flat rules other stop
    → time ≤ stop → state_as world_untold (history (engine model flat rules) 0 one time)
    ≡ state_as world_untold (history (engine model flat rules) 0 other time)
