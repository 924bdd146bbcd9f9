-- From one instant to the next, and the three ends of a history.
use Rattle.std.proofs.Common.{◌≡◌, ℕ, zero, suc, ◌+◌, ◌-◌, ◌<◌, ◌≤◌, Bool, true, false, refl, ap, sym, ◌∙◌, subst, arith}
use Rattle.std.specs.Prelude.{if◌then◌else◌}
use Rattle.tdf_sim_history.specs.History.{Engine, Step, Going, Fault, Past, HistoryState, On, Stopped, Spent, after, end_time, history, state_of}
use Rattle.tdf_sim_history.specs.TurnLaws.{IsNextTime, IsOn}

module _ {W F : Type 0} (engine : Engine W F) (from : ℕ) (start : W) where
  pub starts : history engine from start 0 ≡ On start
  unfolding history
  starts = refl

  -- nothing is due for a while
  pub skipped : (a : ℕ) (w : W) (k : ℕ) → history engine from start a ≡ On w → ((t : ℕ) → from + a ≤ t → t < from + a + k → engine.is_due w t ≡ false)
      → history engine from start (k + a) ≡ On w
  unfolding history
  skipped a w zero now none = let e : 0 + a ≡ a = omega arith in ap (history engine from start) e ∙ now
  skipped a w (suc k) now none =
      let e : suc k + a ≡ suc (k + a) = omega arith in
      let quiet : engine.is_due w (from + (k + a)) ≡ false = none (from + (k + a)) (omega arith) (omega arith) in
      ap (history engine from start) e ∙ ap (after engine (from + (k + a))) (skipped a w k now (λ t low high. none t low (omega (arith, high))))
      ∙ ap (λ (b : Bool). if b then state_of (from + (k + a)) (engine.instant (from + (k + a)) w) else On w) quiet

  -- what has ended stays so
  stays : (x : HistoryState W F) → ((t : ℕ) → after engine t x ≡ x) → (a k : ℕ) → history engine from start a ≡ x → history engine from start (k + a) ≡ x
  unfolding history
  stays x ends a zero h = let e : 0 + a ≡ a = omega arith in ap (history engine from start) e ∙ h
  stays x ends a (suc k) h =
      let e : suc k + a ≡ suc (k + a) = omega arith in
      ap (history engine from start) e ∙ ap (after engine (from + (k + a))) (stays x ends a k h) ∙ ends (from + (k + a))

  module _ (now : ℕ) (w : W) (on : IsOn engine from start now w) where
    -- the history before the next time
    waits : (stop time : ℕ) → IsNextTime engine w now stop time → history engine from start (time - from) ≡ On w
    waits stop time next =
        let low = on.reached in
        let up = next.not_before in
        let e : time - now + (now - from) ≡ time - from = omega (arith, low, up) in
        ap (history engine from start) (sym e)
        ∙ skipped (now - from) w (time - now) on.on (λ t above below. next.none t (omega (arith, low, above)) (omega (arith, low, up, below)))

    step : (time : ℕ) → from ≤ time → history engine from start (time - from) ≡ On w → engine.is_due w time ≡ true → history engine from start (suc (time - from)) ≡ state_of time (engine.instant time w)
    unfolding history
    step time low before due =
        let e : from + (time - from) ≡ time = omega (arith, low) in
        ap (after engine (from + (time - from))) before ∙ ap (λ t. after engine t (On w)) e ∙ ap (λ (b : Bool). if b then state_of time (engine.instant time w) else On w) due

    pub happens : (stop time : ℕ) → IsNextTime engine w now stop time → time < stop → history engine from start (time + 1 - from) ≡ state_of time (engine.instant time w)
    happens stop time next less =
        let low = on.reached in
        let up = next.not_before in
        let e : time + 1 - from ≡ suc (time - from) = omega (arith, low, up) in
        ap (history engine from start) e ∙ step time (omega (arith, low, up)) (waits stop time next) (next.due less)

    pub reached : (stop : ℕ) → IsNextTime engine w now stop stop → history engine from start (stop - from) ≡ On w
    reached stop next = waits stop stop next

    ended : (stop time : ℕ) (x : HistoryState W F) → ((t : ℕ) → after engine t x ≡ x) → IsNextTime engine w now stop time → time < stop → state_of time (engine.instant time w) ≡ x
        → history engine from start (stop - from) ≡ x
    ended stop time x ends next less is =
        let low = on.reached in
        let up = next.not_before in
        let e : stop - from ≡ stop - (time + 1) + (time + 1 - from) = omega (arith, low, up, less) in
        ap (history engine from start) e ∙ stays x ends (time + 1 - from) (stop - (time + 1)) (happens stop time next less ∙ is)

    pub fault_ends : (stop time : ℕ) (fault : F) (u : W) → IsNextTime engine w now stop time → time < stop → engine.instant time w ≡ Fault fault u
        → history engine from start (stop - from) ≡ Stopped time fault u
    fault_ends stop time fault u next less is = ended stop time (Stopped time fault u) (λ t. refl) next less (ap (state_of time) is)

    pub spent_ends : (stop time : ℕ) (u : W) → IsNextTime engine w now stop time → time < stop → engine.instant time w ≡ Past u → history engine from start (stop - from) ≡ Spent time u
    spent_ends stop time u next less is = ended stop time (Spent time u) (λ t. refl) next less (ap (state_of time) is)

    -- the end is not before the time up to which the history goes on
    abbrev EndsFrom : ℕ → HistoryState W F → Type 0
    EndsFrom stop x = (now ≤ stop → now ≤ end_time x stop)

    later : (k : ℕ) → (stop : ℕ) → now ≤ stop → now ≤ end_time (history engine from start (k + (now - from))) stop
    unfolding history
    later zero stop low = let e : 0 + (now - from) ≡ now - from = omega arith in
        subst (λ (x : HistoryState W F). now ≤ end_time x stop) (sym (ap (history engine from start) e ∙ on.on)) low
    later (suc k) stop low =
        let e : suc k + (now - from) ≡ suc (k + (now - from)) = omega arith in
        let reach = on.reached in
        let time : now ≤ from + (k + (now - from)) = omega (arith, reach) in
        subst (λ n. now ≤ end_time (history engine from start n) stop) (sym e) (go (history engine from start (k + (now - from))) (from + (k + (now - from))) time (later k stop low))
      where
        stepped : (t : ℕ) → now ≤ t → (x : Step W F) → now ≤ stop → now ≤ end_time (state_of t x) stop
        stepped t past (Going v) l = l
        stepped t past (Fault f v) l = past
        stepped t past (Past v) l = past

        go : (x : HistoryState W F) (t : ℕ) → now ≤ t → now ≤ end_time x stop → now ≤ end_time (after engine t x) stop
        go (Stopped at f v) t past l = l
        go (Spent at v) t past l = l
        go (On v) t past l = both (engine.is_due v t)
          where
            both : (b : Bool) → now ≤ end_time (if b then state_of t (engine.instant t v) else On v) stop
            both true = stepped t past (engine.instant t v) low
            both false = low

    pub end_lies : (stop : ℕ) → now ≤ stop → now ≤ end_time (history engine from start (stop - from)) stop
    end_lies stop low =
        let reach = on.reached in
        let e : stop - from ≡ stop - now + (now - from) = omega (arith, reach, low) in
        subst (λ n. now ≤ end_time (history engine from start n) stop) (sym e) (later (stop - now) stop low)
