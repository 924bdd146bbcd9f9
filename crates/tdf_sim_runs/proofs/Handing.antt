-- News that were handed on, and those that a run holds.
use Rattle.std.proofs.Common.{◌≡◌, ◌∙◌, ℕ, List, [], ◌++◌, append-nil, append_assoc, ap, subst, sym}
use Rattle.tdf_bind.specs.declared.model.Flat.{Flat}
use Rattle.tdf_events.specs.Side.{SideOf}
use Rattle.tdf_lang_tree.specs.Pure.{PureTree}
use Rattle.tdf_sim_history.specs.World.{World}
use Rattle.tdf_sim_runs.specs.Running.{IsRunning, IsRunningAt}
use Rattle.tdf_sim_runs.specs.declared.running.Running.{Running}

-- those of an instant come after all before
pub news_more : (handed held more now : List ℕ) → now ≡ held ++ more → handed ++ now ≡ (handed ++ held) ++ more
news_more handed held more now is = ap (λ l. handed ++ l) is ∙ sym (append_assoc handed held more)

module _ (model : PureTree) (flat : Flat) (start : World SideOf) (r : Running) where
  -- where none are handed on
  pub hands_none : (handed : List ℕ) → IsRunningAt model flat start handed r → IsRunningAt model flat start (handed ++ []) r
  hands_none handed run = subst (λ l. IsRunningAt model flat start l r) (sym (append-nil handed)) run

  -- some, and then others
  pub hands_then : (handed one other : List ℕ) → IsRunningAt model flat start ((handed ++ one) ++ other) r → IsRunningAt model flat start (handed ++ (one ++ other)) r
  hands_then handed one other run = subst (λ l. IsRunningAt model flat start l r) (append_assoc handed one other) run
