-- A history that ends at a time went on before it.
use Rattle.std.proofs.Common.{◌≡◌, ◌∙◌, ℕ, zero, suc, ◌+◌, ◌≤◌, Bool, true, false, if◌then◌else◌, refl, ap, arith}
use Rattle.tdf_sim_history.specs.History.{Engine, Step, Going, Fault, Past, HistoryState, On, Stopped, Spent, after, end_time, history, state_of}

module _ {W F : Type 0} (engine : Engine W F) (start : W) where
  -- the history goes on before the end of a state
  abbrev IsBeforeEnd : (stop : ℕ) → HistoryState W F → Type 0
  IsBeforeEnd stop x = (w : W) × (history engine 0 start (end_time x stop) ≡ On w)

  one_more : (k : ℕ) (x : HistoryState W F) → history engine 0 start k ≡ x → IsBeforeEnd k x → history engine 0 start (suc k) ≡ after engine (0 + k) x → IsBeforeEnd (suc k) (after engine (0 + k) x)
  one_more k (Stopped at fault v) is before next = before
  one_more k (Spent at v) is before next = before
  one_more k (On v) is before next = due (engine.is_due v (0 + k)) next
    where
      at_zero : history engine 0 start (0 + k) ≡ On v
      at_zero = let z : 0 + k ≡ k = omega arith in ap (history engine 0 start) z ∙ is

      stepped : (s : Step W F) → history engine 0 start (suc k) ≡ state_of (0 + k) s → IsBeforeEnd (suc k) (state_of (0 + k) s)
      stepped (Going w) e = (w, e)
      stepped (Fault fault w) e = (v, at_zero)
      stepped (Past w) e = (v, at_zero)

      due : (b : Bool) → history engine 0 start (suc k) ≡ (if b then state_of (0 + k) (engine.instant (0 + k) v) else On v)
          → IsBeforeEnd (suc k) (if b then state_of (0 + k) (engine.instant (0 + k) v) else On v)
      due true e = stepped (engine.instant (0 + k) v) e
      due false e = (v, e)

  pub before_end : (stop : ℕ) → (w : W) × (history engine 0 start (end_time (history engine 0 start stop) stop) ≡ On w)
  unfolding history
  before_end zero = (start, refl)
  before_end (suc k) = one_more k (history engine 0 start k) refl (before_end k) refl

  -- it ends by the stop
  one_within : (k : ℕ) (x : HistoryState W F) → end_time x k ≤ k → end_time (after engine (0 + k) x) (suc k) ≤ suc k
  one_within k (Stopped at fault v) low = omega (arith, low)
  one_within k (Spent at v) low = omega (arith, low)
  one_within k (On v) low = due (engine.is_due v (0 + k))
    where
      stepped : (s : Step W F) → end_time (state_of (0 + k) s) (suc k) ≤ suc k
      stepped (Going w) = omega arith
      stepped (Fault fault w) = omega arith
      stepped (Past w) = omega arith

      due : (b : Bool) → end_time (if b then state_of (0 + k) (engine.instant (0 + k) v) else On v) (suc k) ≤ suc k
      due true = stepped (engine.instant (0 + k) v)
      due false = omega arith

  pub end_lies_in : (stop : ℕ) → end_time (history engine 0 start stop) stop ≤ stop
  unfolding history
  end_lies_in zero = omega arith
  end_lies_in (suc k) = one_within k (history engine 0 start k) (end_lies_in k)
