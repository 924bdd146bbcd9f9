-- What holds of histories, said of numbers: a statement about all types is no clause. The lemmas
-- that show it are about all types.
-- Source: own.
use Rattle.std.specs.Prelude.{◌≡◌, ℕ, ◌+◌, ◌-◌, ◌<◌, ◌≤◌, true, false}
use Rattle.tdf_sim_history.specs.History.{Engine, Step, Fault, Going, Past, On, Stopped, Spent, end_time, history, state_of, turns_to}

module _ {W F : Type 0} where
  -- the next time at which something is due, or the stop
  pub record IsNextTime (engine : Engine W F) (w : W) (from stop time : ℕ) : Type 0 where
    pub not_before : from ≤ time
    pub not_after : time ≤ stop
    pub none : (t : ℕ) → from ≤ t → t < time → engine.is_due w t ≡ false
    pub due : time < stop → engine.is_due w time ≡ true

  -- the history goes on before `now`, a time from its start on
  pub record IsOn (engine : Engine W F) (from : ℕ) (start : W) (now : ℕ) (w : W) : Type 0 where
    pub reached : from ≤ now
    pub on : history engine from start (now - from) ≡ On w

-- the instant at the next time happens, and leaves what it does
abbrev pub InstantHappens : Type 0
InstantHappens = (engine : Engine ℕ ℕ) (from : ℕ) (start : ℕ) (now : ℕ) (w : ℕ)
    → (stop time : ℕ) → IsOn engine from start now w → IsNextTime engine w now stop time
    → time < stop → history engine from start (time + 1 - from)
    ≡ state_of time (engine.instant time w)

-- where nothing is due before the stop, the history goes on up to it
abbrev pub TurnsReachStop : Type 0
TurnsReachStop = (engine : Engine ℕ ℕ) (from : ℕ) (start : ℕ) (now : ℕ) (w : ℕ) (stop : ℕ)
    → IsOn engine from start now w → IsNextTime engine w now stop stop
    → history engine from start (stop - from) ≡ On w

-- a fault at the next time is how it ends, whatever the stop
abbrev pub FaultEnds : Type 0
FaultEnds = (engine : Engine ℕ ℕ) (from : ℕ) (start : ℕ) (now : ℕ) (w : ℕ)
    → (stop time fault : ℕ) (u : ℕ) → IsOn engine from start now w
    → IsNextTime engine w now stop time → time < stop
    → engine.instant time w ≡ Fault fault u
    → history engine from start (stop - from) ≡ Stopped time fault u

-- and so is a turn past the budget
abbrev pub SpentEnds : Type 0
SpentEnds = (engine : Engine ℕ ℕ) (from : ℕ) (start : ℕ) (now : ℕ) (w : ℕ) (stop time : ℕ)
    → (u : ℕ) → IsOn engine from start now w → IsNextTime engine w now stop time → time < stop
    → engine.instant time w ≡ Past u → history engine from start (stop - from) ≡ Spent time u

-- the end time lies from any time up to which the history goes on to the stop
abbrev pub EndLies : Type 0
EndLies = (engine : Engine ℕ ℕ) (from : ℕ) (start : ℕ) (now : ℕ) (w : ℕ) (stop : ℕ)
    → IsOn engine from start now w → now ≤ stop
    → now ≤ end_time (history engine from start (stop - from)) stop

-- turns one after the other: one more, and what ended stays so
pub record TurnsGo : Type 0 where
  pub none : (turn : ℕ → ℕ → Step ℕ ℕ) (w : ℕ) → turns_to turn 0 w ≡ Going w
  pub more : (turn : ℕ → ℕ → Step ℕ ℕ) (n w v : ℕ) (x : Step ℕ ℕ)
      → turns_to turn n w ≡ Going v → turn n v ≡ x → turns_to turn (n + 1) w ≡ x
  pub fault : (turn : ℕ → ℕ → Step ℕ ℕ) (n m w v fault u : ℕ) → n < m
      → turns_to turn n w ≡ Going v → turn n v ≡ Fault fault u → turns_to turn m w ≡ Fault fault u
  pub past : (turn : ℕ → ℕ → Step ℕ ℕ) (n m w v u : ℕ) → n < m
      → turns_to turn n w ≡ Going v → turn n v ≡ Past u → turns_to turn m w ≡ Past u
