-- A run ends at its stop at the latest, and the rows of its trace are before.
use Rattle.std.proofs.Common.{◌≡◌, ℕ, zero, suc, ◌+◌, ◌<◌, ◌≤◌, Bool, true, false, if◌then◌else◌, List, [], ◌∷◌, filter, arith}
use Rattle.std.specs.List.{AllByRecursion, range_with_len}
use Rattle.tdf_sim_history.specs.History.{Engine, Fault, Going, HistoryState, On, Past, Spent, Step, Stopped, after, end_time, history, state_of}

module _ {W F : Type 0} (engine : Engine W F) (start : W) where
  abbrev EndsBy : (time : ℕ) → HistoryState W F → Type 0
  EndsBy time (On w) = Unit {0}
  EndsBy time (Stopped at fault w) = at ≤ time
  EndsBy time (Spent at w) = at ≤ time

  step_ends : (time : ℕ) (s : Step W F) → EndsBy (suc time) (state_of time s)
  step_ends time (Going w) = tt
  step_ends time (Fault fault w) = omega arith
  step_ends time (Past w) = omega arith

  due_ends : (time : ℕ) (b : Bool) (w : W) → EndsBy (suc time) (if b then state_of time (engine.instant time w) else On w)
  due_ends time true w = step_ends time (engine.instant time w)
  due_ends time false w = tt

  after_ends : (time : ℕ) (s : HistoryState W F) → EndsBy time s → EndsBy (suc time) (after engine time s)
  after_ends time (On w) h = due_ends time (engine.is_due w time) w
  after_ends time (Stopped at fault w) h = omega (arith, h)
  after_ends time (Spent at w) h = omega (arith, h)

  ends : (count : ℕ) → EndsBy count (history engine 0 start count)
  unfolding history
  ends zero = tt
  ends (suc count) = let e : 0 + count ≡ count = omega arith in rw e (after_ends count (history engine 0 start count) (ends count))

  within : (stop : ℕ) (s : HistoryState W F) → EndsBy stop s → end_time s stop ≤ stop
  within stop (On w) h = omega arith
  within stop (Stopped at fault w) h = h
  within stop (Spent at w) h = h

  pub ends_within : (stop : ℕ) → end_time (history engine 0 start stop) stop ≤ stop
  ends_within stop = within stop (history engine 0 start stop) (ends stop)

-- ---- the times of rows

range_below : (from count end : ℕ) → from + count ≤ end → AllByRecursion (λ t. t < end) (range_with_len from count)
range_below from zero end h = tt
range_below from (suc count) end h = (omega (arith, h), range_below (from + 1) count end (omega (arith, h)))

filter_kept : (P : ℕ → Type 0) (p : ℕ → Bool) (xs : List ℕ) → AllByRecursion P xs → AllByRecursion P (filter p xs)
filter_kept P p [] h = tt
filter_kept P p (x ∷ xs) h = go (p x) (filter_kept P p xs h.1)
  where
    go : (b : Bool) → AllByRecursion P (filter p xs) → AllByRecursion P (if b then x ∷ filter p xs else filter p xs)
    go true more = (h.0, more)
    go false more = more

pub times_below : (p : ℕ → Bool) (end : ℕ) → AllByRecursion (λ t. t < end) (filter p (range_with_len 0 end))
times_below p end = filter_kept (λ t. t < end) p (range_with_len 0 end) (range_below 0 end end (omega arith))
