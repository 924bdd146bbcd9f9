-- The firings of an instant keep the period of each cluster.
use Rattle.std.proofs.Common.{◌≡◌, ◌∙◌, ℕ, refl, subst}
use Rattle.tdf_bind.specs.declared.model.Flat.{Flat}
use Rattle.tdf_fixed.specs.declared.raw.Raw.{Raw}
use Rattle.tdf_sim_history.specs.Instant.{all_firings, stepped, with_read}
use Rattle.tdf_sim_history.specs.World.{ClusterAt, Rules, World}
use Rattle.tdf_sim_history.specs.History.{Going, turns_to}
use Rattle.tdf_lang_tree.specs.Pure.{PureTree}
use Rattle.tdf_sim_history.proofs.Api.{AllBy, LeadsBy, firings_by, turns_by}

-- a cluster that is in the same period
pub record IsInPeriod (c d : ClusterAt) : Type 0 where
  pub origin : d.origin ≡ c.origin
  pub since : d.since ≡ c.since
  pub old : d.old ≡ c.old
  pub now : d.now ≡ c.now

in_itself : (c : ClusterAt) → IsInPeriod c c
in_itself c = record { origin = refl; since = refl; old = refl; now = refl }

in_through : (b c d : ClusterAt) → IsInPeriod b c → IsInPeriod c d → IsInPeriod b d
in_through b c d x y = record { origin = y.origin ∙ x.origin; since = y.since ∙ x.since; old = y.old ∙ x.old; now = y.now ∙ x.now }

step_in : (c : ClusterAt) → IsInPeriod c (stepped c)
step_in c = record { origin = refl; since = refl; old = refl; now = refl }

read_in : (m : ℕ) (value : Raw) (c : ClusterAt) → IsInPeriod c (with_read m value c)
read_in m value c = record { origin = refl; since = refl; old = refl; now = refl }

module _ {K : Type 0} (model : PureTree) (flat : Flat) (rules : Rules K) where
  all_lead : (time n : ℕ) (w : World K) → LeadsBy IsInPeriod in_itself in_through w (turns_to (all_firings model flat rules time) n w)
  all_lead time n w = turns_by IsInPeriod in_itself in_through (all_firings model flat rules time)
      (λ k v. firings_by IsInPeriod in_itself in_through model flat rules step_in read_in time k v) n w

  pub firings_keep : (time n : ℕ) (w v : World K) → turns_to (all_firings model flat rules time) n w ≡ Going v → AllBy IsInPeriod w v
  firings_keep time n w v goes = subst (LeadsBy IsInPeriod in_itself in_through w) goes (all_lead time n w)
