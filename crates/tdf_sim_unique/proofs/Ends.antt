-- A history ends by its stop.
use Rattle.std.proofs.Common.{ℕ, zero, suc, ◌≤◌, Bool, true, false, if◌then◌else◌, sym, subst, arith}
use Rattle.tdf_bind.specs.declared.model.Flat.{Flat}
use Rattle.tdf_events.specs.Side.{SideOf}
use Rattle.tdf_lang_tree.specs.Pure.{PureTree}
use Rattle.tdf_sim_history.proofs.Api.{next_is}
use Rattle.tdf_sim_history.specs.History.{Fault, Going, HistoryState, On, Past, Spent, Step, Stopped, after, end_time, history, state_of}
use Rattle.tdf_sim_history.specs.Instant.{RunFault, engine, instant, is_due}
use Rattle.tdf_sim_history.specs.Rules.{rules_of}
use Rattle.tdf_sim_history.specs.World.{World}

module _ (model : PureTree) (flat : Flat) (start : World SideOf) where
  -- a history that ended did so by this time
  abbrev EndedBy : ℕ → HistoryState (World SideOf) RunFault → Type 0
  EndedBy k (On w) = Unit {0}
  EndedBy k (Stopped time fault w) = time ≤ k
  EndedBy k (Spent time w) = time ≤ k

  step_ended : (time : ℕ) (s : Step (World SideOf) RunFault) → EndedBy (suc time) (state_of time s)
  step_ended time (Going w) = tt
  step_ended time (Fault fault w) = omega arith
  step_ended time (Past w) = omega arith

  after_ended : (time : ℕ) (s : HistoryState (World SideOf) RunFault) → EndedBy time s → EndedBy (suc time) (after (engine model flat (rules_of model flat)) time s)
  after_ended time (Stopped at fault w) low = omega (arith, low)
  after_ended time (Spent at w) low = omega (arith, low)
  after_ended time (On w) low = go (is_due (rules_of model flat) w time)
    where
      go : (b : Bool) → EndedBy (suc time) (if b then state_of time (instant model flat (rules_of model flat) time w) else On w)
      go true = step_ended time (instant model flat (rules_of model flat) time w)
      go false = tt

  ended : (time : ℕ) → EndedBy time (history (engine model flat (rules_of model flat)) 0 start time)
  unfolding history
  ended zero = tt
  ended (suc time) = subst (EndedBy (suc time)) (sym (next_is (engine model flat (rules_of model flat)) start time))
      (after_ended time (history (engine model flat (rules_of model flat)) 0 start time) (ended time))

  end_by : (stop : ℕ) (s : HistoryState (World SideOf) RunFault) → EndedBy stop s → end_time s stop ≤ stop
  end_by stop (On w) low = omega arith
  end_by stop (Stopped time fault w) low = low
  end_by stop (Spent time w) low = low

  pub ends_by_stop : (stop : ℕ) → end_time (history (engine model flat (rules_of model flat)) 0 start stop) stop ≤ stop
  ends_by_stop stop = end_by stop (history (engine model flat (rules_of model flat)) 0 start stop) (ended stop)
