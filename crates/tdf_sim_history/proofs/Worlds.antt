-- Where an instant goes on, and so where a history does, all clusters go on.
use Rattle.std.proofs.Common.{◌≡◌, ◌∙◌, ℕ, zero, suc, ◌+◌, ◌-◌, ◌≤◌, Bool, true, false, if◌then◌else◌, sym, ap, subst, arith}
use Rattle.tdf_dynamic.specs.Below.{Flat}
use Rattle.tdf_sim_history.specs.Instant.{RunFault, all_firings, engine, instant}
use Rattle.tdf_sim_history.specs.World.{Rules, World}
use Rattle.tdf_sim_history.specs.History.{Fault, Going, On, Past, Spent, HistoryState, Step, Stopped, after, history, state_of}
use Rattle.tdf_lang_tree.specs.Pure.{PureTree}
use Rattle.tdf_sim_history.proofs.Clusters.{goes_refl, goes_trans, new_goes, read_goes, same_goes, step_goes}
use Rattle.tdf_sim_history.proofs.Leading.{AllBy}
use Rattle.tdf_sim_history.proofs.Leading as leading
use Rattle.tdf_sim_history.specs.Continuing.{AllGoOn, ClusterGoesOn}

module _ {K : Type 0} where
  by_going : (w v : World K) → AllBy ClusterGoesOn w v → AllGoOn w v
  by_going w v all = record { same = all.same; each = all.each }

  as_by : (w v : World K) → AllGoOn w v → AllBy ClusterGoesOn w v
  as_by w v all = record { same = all.same; each = all.each }

  pub all_refl : (w : World K) → AllGoOn w w
  all_refl w = by_going w w (leading.all_itself ClusterGoesOn goes_refl goes_trans w)

  pub all_trans : (u w v : World K) → AllGoOn u w → AllGoOn w v → AllGoOn u v
  all_trans u w v x y = by_going u v (leading.all_through ClusterGoesOn goes_refl goes_trans u w v (as_by u w x) (as_by w v y))

  -- a step that goes on leads to a world whose clusters go on
  abbrev Leads : World K → Step (World K) RunFault → Type 0
  Leads w (Going v) = AllGoOn w v
  Leads w (Fault fault v) = Unit {0}
  Leads w (Past v) = Unit {0}

  leads_by : (w : World K) (s : Step (World K) RunFault) → leading.LeadsBy ClusterGoesOn goes_refl goes_trans w s → Leads w s
  leads_by w (Going v) x = by_going w v x
  leads_by w (Fault fault v) x = tt
  leads_by w (Past v) x = tt

  module _ (model : PureTree) (flat : Flat) (rules : Rules K) where
    pub firings_lead : (time n : ℕ) (w : World K) → Leads w (all_firings model flat rules time n w)
    firings_lead time n w = leads_by w (all_firings model flat rules time n w) (leading.firings_by ClusterGoesOn goes_refl goes_trans model flat rules step_goes read_goes time n w)

    pub instant_leads : (time : ℕ) (w : World K) → Leads w (instant model flat rules time w)
    instant_leads time w = leads_by w (instant model flat rules time w) (leading.instant_by ClusterGoesOn goes_refl goes_trans model flat rules step_goes read_goes same_goes (new_goes flat.tables) time w)

    -- a state of the history that is on
    abbrev Lies : World K → HistoryState (World K) RunFault → Type 0
    Lies w (On v) = AllGoOn w v
    Lies w (Stopped time fault v) = Unit {0}
    Lies w (Spent time v) = Unit {0}

    step_lies : (u w : World K) (time : ℕ) (s : Step (World K) RunFault) → AllGoOn u w → Leads w s → Lies u (state_of time s)
    step_lies u w time (Going v) x y = all_trans u w v x y
    step_lies u w time (Fault fault v) x y = tt
    step_lies u w time (Past v) x y = tt

    after_lies : (u : World K) (time : ℕ) (x : HistoryState (World K) RunFault) → Lies u x → Lies u (after (engine model flat rules) time x)
    after_lies u time (Stopped at fault v) lies = tt
    after_lies u time (Spent at v) lies = tt
    after_lies u time (On w) lies = go ((engine model flat rules).is_due w time)
      where
        go : (b : Bool) → Lies u (if b then state_of time (instant model flat rules time w) else On w)
        go true = step_lies u w time (instant model flat rules time w) lies (instant_leads time w)
        go false = lies

    module _ (start w : World K) (now : ℕ) (on : history (engine model flat rules) 0 start now ≡ On w) where
      lies : (k : ℕ) → Lies w (history (engine model flat rules) 0 start (k + now))
      unfolding history
      lies zero = let e : 0 + now ≡ now = omega arith in subst (Lies w) (sym (ap (history (engine model flat rules) 0 start) e ∙ on)) (all_refl w)
      lies (suc k) = let e : suc k + now ≡ suc (k + now) = omega arith in
          subst (λ n. Lies w (history (engine model flat rules) 0 start n)) (sym e)
          (after_lies w (0 + (k + now)) (history (engine model flat rules) 0 start (k + now)) (lies k))

      -- where the history goes on to an end, all clusters go on
      pub go_on : (end : ℕ) (v : World K) → now ≤ end → history (engine model flat rules) 0 start end ≡ On v → AllGoOn w v
      go_on end v low at = let e : end - now + now ≡ end = omega (arith, low) in
          subst (Lies w) (ap (history (engine model flat rules) 0 start) e ∙ at) (lies (end - now))
