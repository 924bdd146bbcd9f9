-- What holds of a history that goes on from what another one came to.
-- Source: own.
use Rattle.std.specs.Prelude.{◌≡◌, ◌<◌, ◌≤◌, ◌+◌, ◌++◌, ℕ, false, List, All, Some, length, slice_get}
use Rattle.tdf_bind.specs.Flat.{IsFlatOf}
use Rattle.tdf_bind.specs.declared.model.Flat.{Flat}
use Rattle.tdf_bind_invariants.specs.Limits.{AreWithinLimits}
use Rattle.tdf_dynamic_first.specs.First.{IsFirstPlan}
use Rattle.tdf_dynamic_first.specs.declared.first.First.{First}
use Rattle.tdf_events.specs.Side.{SideOf}
use Rattle.tdf_expr.specs.Checked.{IsCheckedOf}
use Rattle.tdf_lang_tree.specs.Kept.{IsKept}
use Rattle.tdf_lang_tree.specs.Pure.{PureTree}
use Rattle.tdf_sim_history.specs.Answers.{AreAnswers}
use Rattle.tdf_sim_history.specs.Continuing.{HasToldCounts}
use Rattle.tdf_sim_history.specs.History.{On}
use Rattle.tdf_sim_history.specs.Instant.{is_due}
use Rattle.tdf_sim_history.specs.Rules.{rules_of, start_world}
use Rattle.tdf_sim_history.specs.Texts.{notes_to, state_at}
use Rattle.tdf_sim_history.specs.World.{Change, ClusterAt, World}
use Rattle.tdf_sim_split.specs.Alike.{StatesAlike}
use Rattle.tdf_sim_split.specs.Following.{Follows, IsResumedCluster, IsSoundCluster}

-- the clusters of a world are sound
pub record AreSound (flat : Flat) (w : World SideOf) : Type 0 where
  pub each : (n : ℕ) (c : ClusterAt) → slice_get w.clusters n ≡ Some c
      → IsSoundCluster flat (n + 1) c

-- a world in which each cluster goes on from what one of another world holds, with the same event
-- side and as many turns left; before a time nothing is due in it
pub record GoesOnFrom (model : PureTree) (flat : Flat) (time : ℕ) (w v : World SideOf)
    : Type 0 where
  pub same : length v.clusters ≡ length w.clusters
  pub each : (n : ℕ) (c b : ClusterAt) → slice_get w.clusters n ≡ Some c
      → slice_get v.clusters n ≡ Some b → IsResumedCluster model flat (n + 1) c b
  pub sound : AreSound flat v
  pub events : v.events ≡ w.events
  pub left : v.left ≡ w.left
  pub quiet : (t : ℕ) → t < time → is_due (rules_of model flat) v t ≡ false

-- clusters that came from those of a world, and from those of one that goes on from it
pub record HasCome (w v : World SideOf) (n : ℕ) (h g : ClusterAt) : Type 0 where
  pub c : ClusterAt
  pub b : ClusterAt
  pub c_at : slice_get w.clusters n ≡ Some c
  pub b_at : slice_get v.clusters n ≡ Some b
  pub follows : Follows c b h g

-- what a history came to from a world, and what one came to that goes on from there
pub record HaveCome (w v a b : World SideOf) : Type 0 where
  pub same : length b.clusters ≡ length a.clusters
  pub each : (n : ℕ) (h g : ClusterAt) → slice_get a.clusters n ≡ Some h
      → slice_get b.clusters n ≡ Some g → HasCome w v n h g
  pub events : b.events ≡ a.events
  pub left : b.left ≡ a.left

-- the history that goes on is told answers, ends as the whole one, and brings the plans that are
-- left
pub record GoesAlike (model : PureTree) (flat : Flat) (one two w : World SideOf) (from stop : ℕ)
    : Type 0 where
  pub answers : AreAnswers model flat (rules_of model flat) two stop
  pub states : StatesAlike (HaveCome w two) (state_at model flat (rules_of model flat) one stop)
      (state_at model flat (rules_of model flat) two stop)
  pub notes : notes_to model flat (rules_of model flat) one stop
      ≡ notes_to model flat (rules_of model flat) one from
      ++ notes_to model flat (rules_of model flat) two stop

-- a history from a world that goes on from what another one came to is what that one does from
-- there on
abbrev pub HistoryGoesOnFrom : Type 0
HistoryGoesOnFrom = (model : PureTree) (flat : Flat) (one two w : World SideOf) (from stop : ℕ)
    → IsKept model → IsFlatOf model flat → IsCheckedOf model flat.checked → AreWithinLimits flat
    → AreSound flat one → AreAnswers model flat (rules_of model flat) one stop → from ≤ stop
    → state_at model flat (rules_of model flat) one from ≡ On w
    → GoesOnFrom model flat from w two → GoesAlike model flat one two w from stop

-- a run from its text begins with sound clusters, where it has their first plans and new plans that
-- are told come with their counts
abbrev pub TextsBeginSound : Type 0
TextsBeginSound = (model : PureTree) (flat : Flat) (firsts : List First)
    → (ahead : List (List Change)) (turns : ℕ) → IsFlatOf model flat → AreWithinLimits flat
    → ((n : ℕ) (first : First) → slice_get firsts n ≡ Some first → IsFirstPlan flat (n + 1) first)
    → All (All HasToldCounts) ahead
    → AreSound flat (start_world model flat firsts ahead turns)
