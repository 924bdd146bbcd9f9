-- What is told of the boundaries to come: more of it, or nothing.
-- Source: own.
use Rattle.std.specs.List.{enumerate_from}
use Rattle.std.specs.Prelude.{◌<◌, ℕ, List, [], ◌∷◌, ◌++◌, length, map, slice_index_or}
use Rattle.tdf_dynamic.specs.Below.{Flat}
use Rattle.tdf_sim_history.specs.Answers.{OfAll}
use Rattle.tdf_sim_history.specs.World.{Change, ClusterAt, Rules, World}
use Rattle.tdf_sim_history.specs.History.{HistoryState, On, Spent, Stopped, Step, Fault, Going, Past}
use Rattle.tdf_lang_tree.specs.Pure.{PureTree}

-- something is told of the next boundary
abbrev pub IsTold : ClusterAt → Type 0
IsTold c = 0 < length c.ahead

-- more is told, after what is told already; and nothing at all
abbrev pub told_more : List Change → ClusterAt → ClusterAt
told_more more c = record c { ahead = c.ahead ++ more }

abbrev pub untold : ClusterAt → ClusterAt
untold c = record c { ahead = [] }

-- the same by cluster
abbrev pub all_told : List (List Change) → (more : List (List Change)) → List (List Change)
all_told [] more = more
all_told (a ∷ ahead) [] = a ∷ ahead
all_told (a ∷ ahead) (m ∷ more) = (a ++ m) ∷ all_told ahead more

module _ {K : Type 0} where
  -- of each boundary that has its turn below a stop something is told
  abbrev pub AreTold : PureTree → Flat → Rules K → World K → (stop : ℕ) → Type 0
  AreTold model flat rules start stop =
      OfAll model flat rules start stop (λ number c. IsTold c)

  -- more is told of all clusters, by their order
  abbrev pub world_told : List (List Change) → World K → World K
  world_told more w = record w {
    clusters = map (λ (c : ℕ × ClusterAt). told_more (slice_index_or more c.0 []) c.1)
        (enumerate_from 0 w.clusters);
  }

  -- a world without what is told
  abbrev pub world_untold : World K → World K
  world_untold w = record w { clusters = map untold w.clusters }

module _ {W F : Type 0} (to : W → W) where
  -- the same of each world that there is
  abbrev pub step_as : Step W F → Step W F
  step_as (Going w) = Going (to w)
  step_as (Fault fault w) = Fault fault (to w)
  step_as (Past w) = Past (to w)

  abbrev pub state_as : HistoryState W F → HistoryState W F
  state_as (On w) = On (to w)
  state_as (Stopped time fault w) = Stopped time fault (to w)
  state_as (Spent time w) = Spent time (to w)
