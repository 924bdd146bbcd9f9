-- Two histories that go alike: what comes of the steps of both is the same, and what there is then
-- is in a relation.
-- Source: own.
use Rattle.std.specs.Prelude.{ℕ}
use Rattle.tdf_sim_history.specs.History.{Fault, Going, HistoryState, On, Past, Spent, Step, Stopped}

module _ {W V F : Type 0} (R : W → V → Type 0) where
  -- the same comes of both steps
  pub data StepsAlike : Step W F → Step V F → Type 0 where
    BothGo : (w : W) (v : V) → R w v → StepsAlike (Going w) (Going v)
    BothFault : (fault : F) (w : W) (v : V) → R w v → StepsAlike (Fault fault w) (Fault fault v)
    BothPast : (w : W) (v : V) → R w v → StepsAlike (Past w) (Past v)

  -- both go on, or both ended in the same way at the same time
  pub data StatesAlike : HistoryState W F → HistoryState V F → Type 0 where
    BothOn : (w : W) (v : V) → R w v → StatesAlike (On w) (On v)
    BothStopped : (time : ℕ) (fault : F) (w : W) (v : V) → R w v
        → StatesAlike (Stopped time fault w) (Stopped time fault v)
    BothSpent : (time : ℕ) (w : W) (v : V) → R w v
        → StatesAlike (Spent time w) (Spent time v)
