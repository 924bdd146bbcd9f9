-- The new plans of instants are the same by compiled bodies of one text.
use Rattle.std.proofs.Common.{◌≡◌, ℕ, zero, suc, [], ◌++◌, if◌then◌else◌, refl}
use Rattle.tdf_sim_unique.proofs.Bodies.{with_bodies}
use Rattle.tdf_sim_unique.proofs.Checks.{AreSame}
use Rattle.tdf_sim_unique.proofs.Instants.{history_same, instant_same}
use Rattle.tdf_expr.specs.declared.checked.Checked.{Checked}
use Rattle.tdf_bind.specs.declared.model.Flat.{Flat}
use Rattle.tdf_sim_history.specs.Instant.{RunFault, is_due}
use Rattle.tdf_sim_history.specs.Texts.{left_by, new_plans, notes_in, notes_to}
use Rattle.tdf_sim_history.specs.World.{Rules, World}
use Rattle.tdf_sim_history.specs.History.{On, Spent, HistoryState, Stopped}
use Rattle.tdf_lang_tree.specs.Pure.{PureTree}

module _ (model : PureTree) (a : Flat) (y : Checked) (same : AreSame a.checked y) {K : Type 0} (rules : Rules K) where
  in_same : (time : ℕ) (x : HistoryState (World K) RunFault) → notes_in model a rules time x ≡ notes_in model (with_bodies a y) rules time x
  in_same time (On w) = λ i. if is_due rules w time then new_plans a time (left_by (instant_same model a y same rules time w i)) else []
  in_same time (Stopped at fault w) = refl
  in_same time (Spent at w) = refl

  pub news_same : (start : World K) (time : ℕ) → notes_to model a rules start time ≡ notes_to model (with_bodies a y) rules start time
  unfolding notes_to
  news_same start zero = refl
  news_same start (suc time) = λ i. news_same start time i ++ in_same time (history_same model a y same rules start time i) i
