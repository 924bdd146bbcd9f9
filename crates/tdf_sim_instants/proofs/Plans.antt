-- The plans of clusters in progress are those of the history, also where an instant ends in its firings.
use Rattle.std.proofs.Common.{◌≡◌, ◌≢◌, ◌⊎◌, ◌∙◌, ℕ, List, Some, option_map, set, slice_get, inl, inr, refl, sym, ap}
use Rattle.std.proofs.lemmas.Option.{slice_get_within}
use Rattle.tdf_sim_instants.proofs.Boundaries.{have_plans}
use Rattle.tdf_sim_instants.specs.CrossingLaws.{HavePlansOf, rows_in}
use Rattle.tdf_bind.specs.declared.model.Flat.{Flat}
use Rattle.tdf_sim_history.specs.Texts.{plan_of}
use Rattle.tdf_sim_history.specs.World.{ClusterAt, Rules, World}
use Rattle.tdf_sim_refinement.proofs.Api.{get_set_other, get_set_same, same_or_not, set_own}
use Rattle.tdf_sim_refinement.specs.Firings.{world_after}
use Rattle.tdf_sim_refinement.specs.Pass.{HasPassedTo, PassAt, PassIsSpent, RunOf, world_with}
use Rattle.tdf_lang_tree.specs.Pure.{PureTree}

-- a cluster with another place in its plan has that plan
set_plan : (hs : List ClusterAt) (n m : ℕ) (h g : ClusterAt) → slice_get hs n ≡ Some h → plan_of g ≡ plan_of h → (m ≡ n) ⊎ (m ≢ n)
    → option_map plan_of (slice_get (set hs n g) m) ≡ option_map plan_of (slice_get hs m)
set_plan hs n m h g at same (inl is) =
    ap (λ j. option_map plan_of (slice_get (set hs n g) j)) is ∙ ap (option_map plan_of) (get_set_same hs n g (slice_get_within hs n h at)) ∙ ap Some same
    ∙ sym (ap (option_map plan_of) at) ∙ ap (λ j. option_map plan_of (slice_get hs j)) (sym is)
set_plan hs n m h g at same (inr apart) = ap (option_map plan_of) (get_set_other hs n m g apart)

-- where the turns were too few for a cluster, the clusters are as they were before its turn
few_same : (flat : Flat) (pass : PassAt) (n : ℕ) (x y : RunOf) (to : HasPassedTo flat pass n x y) → y.clusters ≡ to.mid.clusters
few_same flat pass n x y to = to.is.after ∙ ap (set to.mid.clusters n) to.ended.few.same ∙ set_own to.mid.clusters n to.turn.before to.is.before

pub spent_plans : {K : Type 0} (model : PureTree) (flat : Flat) (rules : Rules K) (pass : PassAt) (n all : ℕ) (w : World K) (x y : RunOf) (to : HasPassedTo flat pass n x y)
    (p : PassIsSpent model flat rules pass n all w to.mid to.sent) → HavePlansOf (world_after model flat rules n p.h (world_with flat.tables w p.before.clusters to.mid.left to.sent) to.mid.left).clusters y.clusters
spent_plans model flat rules pass n all w x y to p m =
    set_plan p.before.clusters n m p.h _ p.here refl (same_or_not m n)
    ∙ have_plans model flat pass.since p.before.clusters to.mid.clusters p.before.at m
    ∙ ap (λ l. option_map rows_in (slice_get l m)) (sym (few_same flat pass n x y to))
