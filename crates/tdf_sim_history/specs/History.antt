-- The history of a run, over any types: at each time, in order, an instant happens where something
-- is due. W is all that stands at a time, F a fault that ends the run.
-- Source: own; instants after IEEE 1666-2011, 4.2 (the scheduler's time).
use Rattle.std.specs.Prelude.{ℕ, zero, suc, ◌+◌, Bool, if◌then◌else◌}

-- what comes of an instant: it went on, a fault came, or a turn was past the budget
pub data Step (W F : Type 0) : Type 0 where
  Going : (w : W) → Step W F
  Fault : (fault : F) → (w : W) → Step W F
  Past : (w : W) → Step W F

-- when something is due, and what an instant at a time does
pub record Engine (W F : Type 0) : Type 0 where
  pub is_due : W → (time : ℕ) → Bool
  pub instant : (time : ℕ) → W → Step W F

-- how a history stands: it goes on, or it ended at a time, with what stood when it did
pub data HistoryState (W F : Type 0) : Type 0 where
  On : (w : W) → HistoryState W F
  Stopped : (time : ℕ) → (fault : F) → (w : W) → HistoryState W F
  Spent : (time : ℕ) → (w : W) → HistoryState W F

module _ {W F : Type 0} where
  -- one thing after the other, as long as nothing ends the run
  abbrev pub and_then : Step W F → (W → Step W F) → Step W F
  and_then (Going w) next = next w
  and_then (Fault fault w) next = Fault fault w
  and_then (Past w) next = Past w

  -- so many turns, one after the other
  unfoldable pub turns_to : (turn : ℕ → W → Step W F) → ℕ → W → Step W F
  turns_to turn zero w = Going w
  turns_to turn (suc n) w = and_then (turns_to turn n w) (turn n)

  abbrev pub state_of : (time : ℕ) → Step W F → HistoryState W F
  state_of time (Going w) = On w
  state_of time (Fault fault w) = Stopped time fault w
  state_of time (Past w) = Spent time w

  -- the state after a time: what has ended stays so
  abbrev pub after : Engine W F → (time : ℕ) → HistoryState W F → HistoryState W F
  after engine time (On w) =
      if engine.is_due w time then state_of time (engine.instant time w) else On w
  after engine time (Stopped at fault w) = Stopped at fault w
  after engine time (Spent at w) = Spent at w

  -- the history from a time on, when all instants of the next `count` times have happened
  unfoldable pub history : Engine W F → (from : ℕ) → W → (count : ℕ) → HistoryState W F
  history engine from start zero = On start
  history engine from start (suc count) =
      after engine (from + count) (history engine from start count)

  -- the time at which it ended, or the stop
  abbrev pub end_time : HistoryState W F → (stop : ℕ) → ℕ
  end_time (On w) stop = stop
  end_time (Stopped time fault w) stop = time
  end_time (Spent time w) stop = time
