-- The notes of new plans, from one instant to the next.
use Rattle.std.proofs.Common.{◌≡◌, ◌∙◌, ℕ, zero, suc, ◌+◌, ◌-◌, ◌<◌, ◌≤◌, Option, Some, None, option_map, List, [], ◌++◌, append_assoc, slice_get, if◌then◌else◌, refl, sym, ap, arith}
use Rattle.std.proofs.lemmas.List.{append-nil}
use Rattle.std.specs.List.{flat_map}
use Rattle.tdf_sim_instants.specs.CrossingLaws.{HavePlansOf}
use Rattle.tdf_sim_runs.specs.News.{news_text, rows_note}
use Rattle.tdf_events.specs.Side.{SideOf}
use Rattle.tdf_sim_instants.specs.Below.{ClusterOf}
use Rattle.tdf_bind.specs.declared.model.Flat.{Flat}
use Rattle.tdf_sim_history.specs.Instant.{instant, engine}
use Rattle.tdf_sim_history.specs.Texts.{left_by, new_plans, notes_in, notes_to, plan_note, plan_of}
use Rattle.tdf_sim_history.specs.World.{ClusterAt, Rules, World}
use Rattle.tdf_sim_history.specs.History.{On, history}
use Rattle.tdf_sim_history.specs.TurnLaws.{IsNextTime}
use Rattle.tdf_lang_tree.specs.Pure.{PureTree}

note_is : (flat : Flat) (time cluster : ℕ) (o : Option ClusterAt) → plan_note flat time cluster o ≡ rows_note flat time cluster (option_map plan_of o)
note_is flat time cluster None = refl
note_is flat time cluster (Some c) = refl

-- the text of new plans is that of the history
pub news_are : (flat : Flat) (time : ℕ) (v : World SideOf) (cs : List ClusterOf) (planned : List ℕ) → HavePlansOf v.clusters cs → v.planned ≡ planned → news_text flat time cs planned ≡ new_plans flat time v
news_are flat time v cs planned plans same =
    λ i. flat_map (λ n. (ap (rows_note flat time (n + 1)) (sym (plans n)) ∙ sym (note_is flat time (n + 1) (slice_get v.clusters n))) i) (sym same i)

module _ {K : Type 0} (model : PureTree) (flat : Flat) (rules : Rules K) (start : World K) where
  one_later : (time : ℕ) → notes_to model flat rules start (suc time) ≡ notes_to model flat rules start time ++ notes_in model flat rules time (history (engine model flat rules) 0 start time)
  unfolding notes_to
  one_later time = refl

  -- where instants have no news, there are none
  rest_to : (a k : ℕ) → ((t : ℕ) → a ≤ t → t < a + k → notes_in model flat rules t (history (engine model flat rules) 0 start t) ≡ []) → notes_to model flat rules start (a + k) ≡ notes_to model flat rules start a
  rest_to a zero none = let z : a + 0 ≡ a = omega arith in ap (notes_to model flat rules start) z
  rest_to a (suc k) none =
      let e : a + suc k ≡ suc (a + k) = omega arith in
      ap (notes_to model flat rules start) e ∙ one_later (a + k)
      ∙ ap (λ t. notes_to model flat rules start (a + k) ++ t) (none (a + k) (omega arith) (omega arith))
      ∙ append-nil (notes_to model flat rules start (a + k)) ∙ rest_to a k (λ t low high. none t low (omega (arith, high)))

  -- those of later instants come after
  on_to : (a k : ℕ) → (rest : List ℕ) × (notes_to model flat rules start (a + k) ≡ notes_to model flat rules start a ++ rest)
  on_to a zero = let z : a + 0 ≡ a = omega arith in ([], ap (notes_to model flat rules start) z ∙ sym (append-nil (notes_to model flat rules start a)))
  on_to a (suc k) =
      let e : a + suc k ≡ suc (a + k) = omega arith in
      let before = on_to a k in
      let now = notes_in model flat rules (a + k) (history (engine model flat rules) 0 start (a + k)) in
      (before.0 ++ now, ap (notes_to model flat rules start) e ∙ one_later (a + k) ∙ ap (λ t. t ++ now) before.1 ∙ append_assoc (notes_to model flat rules start a) before.0 now)

  pub notes_on : (a b : ℕ) → a ≤ b → (rest : List ℕ) × (notes_to model flat rules start b ≡ notes_to model flat rules start a ++ rest)
  notes_on a b low =
      let e : b ≡ a + (b - a) = omega (arith, low) in
      let on = on_to a (b - a) in (on.0, ap (notes_to model flat rules start) e ∙ on.1)

  pub notes_rest : (a b : ℕ) → a ≤ b → ((t : ℕ) → a ≤ t → t < b → notes_in model flat rules t (history (engine model flat rules) 0 start t) ≡ []) → notes_to model flat rules start b ≡ notes_to model flat rules start a
  notes_rest a b low none =
      let e : b ≡ a + (b - a) = omega (arith, low) in
      ap (notes_to model flat rules start) e ∙ rest_to a (b - a) (λ t above below. none t above (omega (arith, below, low)))

  -- up to and with the next instant
  pub notes_over : (from time : ℕ) (w : World K) → from ≤ time → ((t : ℕ) → from ≤ t → t ≤ time → history (engine model flat rules) 0 start t ≡ On w) → {stop : ℕ} → IsNextTime (engine model flat rules) w from stop time → time < stop
      → notes_to model flat rules start (time + 1) ≡ notes_to model flat rules start from ++ new_plans flat time (left_by (instant model flat rules time w))
  notes_over from time w low on next less =
      let e : time + 1 ≡ suc time = omega arith in
      ap (notes_to model flat rules start) e ∙ one_later time
      ∙ (λ i. notes_rest from time low (λ t above below. quiet t above below) i ++ (ap (notes_in model flat rules time) (on time low (omega arith)) ∙ ap (λ b. if b then new_plans flat time (left_by (instant model flat rules time w)) else []) (next.due less)) i)
    where
      quiet : (t : ℕ) → from ≤ t → t < time → notes_in model flat rules t (history (engine model flat rules) 0 start t) ≡ []
      quiet t above below = ap (notes_in model flat rules t) (on t above (omega (arith, below))) ∙ ap (λ b. if b then new_plans flat t (left_by (instant model flat rules t w)) else []) (next.none t above below)
