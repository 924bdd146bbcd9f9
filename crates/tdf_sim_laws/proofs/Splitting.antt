-- A history in two parts.
use Rattle.std.proofs.Common.{◌≡◌, ◌∙◌, ℕ, zero, suc, ◌+◌, ◌<◌, false, ap, sym, arith}
use Rattle.tdf_sim_history.proofs.Api.{skipped, starts}
use Rattle.tdf_sim_history.specs.History.{Engine, On, after, history}
use Rattle.tdf_sim_history.specs.Rules.{world_engine}
use Rattle.tdf_sim_laws.specs.Splitting.{HistorySplits, QuietIsFromZero}

module _ {W F : Type 0} (engine : Engine W F) where
  splits : (from : ℕ) (start w : W) (a b : ℕ) → history engine from start a ≡ On w → history engine from start (a + b) ≡ history engine (from + a) w b
  unfolding history
  splits from start w a zero h = let e : a + 0 ≡ a = omega arith in ap (history engine from start) e ∙ h
  splits from start w a (suc b) h = let e : a + suc b ≡ suc (a + b) = omega arith in let t : from + (a + b) ≡ from + a + b = omega arith in
      ap (history engine from start) e ∙ ap (after engine (from + (a + b))) (splits from start w a b h) ∙ ap (λ time. after engine time (history engine (from + a) w b)) t

  quiet_on : (from : ℕ) (w : W) → ((t : ℕ) → t < from → engine.is_due w t ≡ false) → history engine 0 w from ≡ On w
  quiet_on from w none = let e : from + 0 ≡ from = omega arith in ap (history engine 0 w) (sym e) ∙ skipped engine 0 w 0 w from (starts engine 0 w) (λ t low high. none t (omega (arith, high)))

  quiet_from : (from : ℕ) (w : W) (b : ℕ) → ((t : ℕ) → t < from → engine.is_due w t ≡ false) → history engine 0 w (from + b) ≡ history engine from w b
  quiet_from from w b none = let z : 0 + from ≡ from = omega arith in splits 0 w w from b (quiet_on from w none) ∙ ap (λ k. history engine k w b) z

pub history_splits : HistorySplits
history_splits model flat from start w a b on = splits (world_engine model flat) from start w a b on

pub quiet_is_from_zero : QuietIsFromZero
quiet_is_from_zero model flat from w b none = quiet_from (world_engine model flat) from w b none
