-- What holds of the histories of models.
-- Source: own.
use Rattle.std.specs.Prelude.{◌≡◌, ◌≤◌, ℕ, false, List, [], All, IsSome}
use Rattle.tdf_bind_tables.specs.FlatTables.{FlatTablesOf}
use Rattle.tdf_dynamic.specs.Laws.{IsBoundary}
use Rattle.tdf_dynamic_plans.specs.Attributes.{AttrsOf}
use Rattle.tdf_dynamic.specs.Below.{First, Flat, has_changes}
use Rattle.tdf_sim_history.specs.Answers.{AreAnswers, AreFirstAnswers, IsAnswer, OfAll, OfFirst, asks_in, last_cells}
use Rattle.tdf_sim_history.specs.Instant.{at_begin, boundary, engine}
use Rattle.tdf_sim_history.specs.Start.{first_world}
use Rattle.tdf_sim_history.specs.Telling.{AreTold, IsTold, all_told, state_as, step_as, world_told, world_untold}
use Rattle.tdf_sim_history.specs.World.{Change, ClusterAt, Rules, Same, World}
use Rattle.tdf_sim_history.specs.History.{On, history, turns_to}
use Rattle.tdf_lang_tree.specs.Pure.{PureTree}

-- nothing happens in a model without clusters and with an event side where nothing is ever pending
abbrev pub IdleStaysOn : Type 0
IdleStaysOn = (model : PureTree) (flat : Flat) (rules : Rules ℕ) (start : World ℕ)
    → start.clusters ≡ [] → ((time : ℕ) → rules.event_side.is_due start.events time ≡ false)
    → (time : ℕ) → history (engine model flat rules) 0 start time ≡ On start

-- where no module of a cluster changes its attributes, and what they hold is known, the answer of
-- its boundary is that nothing differs
abbrev pub UnchangedStay : Type 0
UnchangedStay = (model : PureTree) (flat : Flat) (number : ℕ) (c : ClusterAt)
    → All (λ (attrs : AttrsOf). has_changes flat.tables.modules attrs.number ≡ false)
    c.now.info.table
    → All (λ (attrs : AttrsOf). IsSome (last_cells model flat number c attrs.number))
    c.now.info.table → IsAnswer model flat number c (Same c.now.info.table)

-- where something is told of each boundary up to a stop, more changes nothing up to it: the
-- history is the same, with more ahead, and what is told of those boundaries is still their
-- answers; a start of which more is told is a start
pub record MoreIsTold : Type 0 where
  pub starts : (model : PureTree) (flat : Flat) (firsts : List First)
      → (ahead more : List (List Change)) (events turns : ℕ)
      → world_told more (first_world model flat firsts ahead events turns)
      ≡ first_world model flat firsts (all_told ahead more) events turns
  pub history_is : (model : PureTree) (flat : Flat) (rules : Rules ℕ) (start : World ℕ)
      → (more : List (List Change)) (stop time : ℕ) → AreTold model flat rules start stop
      → time ≤ stop → history (engine model flat rules) 0 (world_told more start) time
      ≡ state_as (world_told more) (history (engine model flat rules) 0 start time)
  pub turns_are : (tables : FlatTablesOf) (time n : ℕ) (w : World ℕ) (more : List (List Change))
      → OfFirst tables time n w (λ number c. IsTold c)
      → turns_to (boundary tables time) n (at_begin (world_told more w))
      ≡ step_as (world_told more) (turns_to (boundary tables time) n (at_begin w))
  pub first_told : (tables : FlatTablesOf) (time n : ℕ) (w : World ℕ) (more : List (List Change))
      → OfFirst tables time n w (λ number c. IsTold c)
      → OfFirst tables time n (world_told more w) (λ number c. IsTold c)
  pub first_answers : (model : PureTree) (flat : Flat) (time n : ℕ) (w : World ℕ)
      → (more : List (List Change)) → OfFirst flat.tables time n w (λ number c. IsTold c)
      → AreFirstAnswers model flat time n w → AreFirstAnswers model flat time n (world_told more w)
  pub told : (model : PureTree) (flat : Flat) (rules : Rules ℕ) (start : World ℕ)
      → (more : List (List Change)) (stop : ℕ) → AreTold model flat rules start stop
      → AreTold model flat rules (world_told more start) stop
  pub answers : (model : PureTree) (flat : Flat) (rules : Rules ℕ) (start : World ℕ)
      → (more : List (List Change)) (stop : ℕ) → AreTold model flat rules start stop
      → AreAnswers model flat rules start stop
      → AreAnswers model flat rules (world_told more start) stop

-- two starts with the same clusters, of whose boundaries the answers are told, have one history
abbrev pub AnswersTellOne : Type 0
AnswersTellOne = (model : PureTree) (flat : Flat) (rules : Rules ℕ) (one other : World ℕ)
    → (stop time : ℕ) → world_untold one ≡ world_untold other
    → OfAll model flat rules one stop (λ number c. IsBoundary flat number
    (asks_in model flat number c) c.now.info.table)
    → AreAnswers model flat rules one stop → AreAnswers model flat rules other stop
    → time ≤ stop → state_as world_untold (history (engine model flat rules) 0 one time)
    ≡ state_as world_untold (history (engine model flat rules) 0 other time)
