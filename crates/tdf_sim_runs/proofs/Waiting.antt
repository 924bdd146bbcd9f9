-- A run goes on up to the next time at which something is due.
use Rattle.std.proofs.Common.{◌≡◌, ◌∙◌, ℕ, ◌+◌, ◌-◌, ◌<◌, ◌≤◌, List, [], ◌∷◌, map, subst, if◌then◌else◌, inl, inr, refl, sym, ap, arith}
use Rattle.std.specs.List.{enumerate_from, list_any}
use Rattle.std.specs.Prelude.{◌||◌, slice_index_or}
use Rattle.std.proofs.lemmas.Bool.{cases_lt}
use Rattle.tdf_events.specs.Runnable.{AreOfSignals, signal_formats}
use Rattle.tdf_sim_instants.specs.Engine.{IsEngineOf, IsReadyAt}
use Rattle.tdf_sim_instants.specs.Times.{IsNextDue}
use Rattle.tdf_sim_instants.specs.declared.engine.Engine.{Engine}
use Rattle.tdf_events.specs.Kernel.{side_of}
use Rattle.tdf_events.specs.Side.{SideOf}
use Rattle.tdf_fixed.specs.declared.raw.Raw.{Raw}
use Rattle.tdf_bind.specs.declared.model.Flat.{Flat}
use Rattle.tdf_sim_history.specs.Cells.{world_of}
use Rattle.tdf_sim_history.specs.Instant.{RunFault, instant, is_cluster_due, is_due}
use Rattle.tdf_sim_history.specs.Answers.{IsAnswer, OfAll, OfClusters}
use Rattle.tdf_sim_history.specs.Telling.{IsTold, told_more, world_told}
use Rattle.tdf_sim_history.specs.Texts.{new_plans, notes_in, left_by}
use Rattle.tdf_sim_history.specs.World.{Change, ClusterAt, Rules, World, next_change}
use Rattle.tdf_sim_history.proofs.Api.{skipped}
use Rattle.tdf_sim_instants.proofs.Api.{true_false}
use Rattle.tdf_sim_history.specs.History.{On, HistoryState, history}
use Rattle.tdf_sim_history.specs.TurnLaws.{IsNextTime, IsOn}
use Rattle.tdf_sim_runs.proofs.Dues.{next_is}
use Rattle.tdf_sim_runs.specs.Running.{IsRunning, RunsToNext}
use Rattle.tdf_sim_runs.proofs.Plans.{notes_rest}
use Rattle.tdf_sim_shown.proofs.Api.{later_is_shown}
use Rattle.tdf_sim_shown.specs.Below.{Shown}
use Rattle.tdf_lang_tree.specs.Pure.{PureTree}
use Rattle.tdf_sim_history.specs.Rules.{rules_of, world_engine}

-- what a history is on at, where two say it
abbrev pub on_world : World SideOf → HistoryState (World SideOf) RunFault
on_world w = On w

pub on_same : (u v : World SideOf) → on_world u ≡ on_world v → u ≡ v
on_same u v same = ap (λ (x : HistoryState (World SideOf) RunFault). world_of x) same

-- what is due is due whatever is told
due_from : (more : List (List Change)) (time k : ℕ) (cs : List ClusterAt) → list_any (is_cluster_due time) (map (λ (c : ℕ × ClusterAt). told_more (slice_index_or more c.0 []) c.1) (enumerate_from k cs)) ≡ list_any (is_cluster_due time) cs
due_from more time k [] = refl
due_from more time k (c ∷ cs) = ap (λ b. is_cluster_due time c || b) (due_from more time (k + 1) cs)

pub due_told : (rules : Rules SideOf) (more : List (List Change)) (w : World SideOf) (time : ℕ) → is_due rules (world_told more w) time ≡ is_due rules w time
due_told rules more w time = ap (λ b. b || rules.event_side.is_due w.events time) (due_from more time 0 w.clusters)

-- where nothing is due up to a time, what holds of all boundaries holds up to it
module _ (model : PureTree) (flat : Flat) (own : World SideOf) (from stop : ℕ) (w : World SideOf) (on : IsOn (world_engine model flat) 0 own from w) where
  stays_on : (time : ℕ) → IsNextTime (world_engine model flat) w from stop time → (t : ℕ) → from ≤ t → t ≤ time → history (world_engine model flat) 0 own t ≡ On w
  stays_on time next t low high =
      let z : from ≡ from - 0 = omega arith in
      let k : t ≡ t - from + from = omega (arith, low) in
      ap (history (world_engine model flat) 0 own) k
      ∙ skipped (world_engine model flat) 0 own from w (t - from) (ap (history (world_engine model flat) 0 own) z ∙ on.on)
      (λ u above below. next.none u (omega (arith, above)) (omega (arith, below, low, high)))

  pub all_on : (time : ℕ) → IsNextTime (world_engine model flat) w from stop time → (P : OfClusters) → OfAll model flat (rules_of model flat) own from P → OfAll model flat (rules_of model flat) own time P
  all_on time next P before t n u below at due = elim (cases_lt t from) [
    | inl early ↦ before t n u early at due
    | inr low ↦ absurd (
        let same = on_same u w (sym at ∙ stays_on time next t low (omega (arith, below))) in
        true_false (sym due ∙ ap (λ v. is_due (rules_of model flat) v t) same ∙ next.none t low below))
  ]

module _ (model : PureTree) (flat : Flat) (start : World SideOf) (from stop time left : ℕ) (e : Engine) (s : Shown) (news : List ℕ) (of : IsEngineOf flat e) (ready : IsReadyAt from e)
    (run : IsRunning model flat start from e left s news) (within : from ≤ stop) (next : IsNextDue e.clusters.items e.since.items (side_of e.kernel) stop time) where
  abbrev pub own : World SideOf
  own = world_told run.going.ahead start

  pub next_time : IsNextTime (world_engine model flat) run.going.world from stop time
  next_time = next_is model flat run.going.world e left of run.going.now from stop time ready next within

  -- the history stays as it is up to the next time
  pub on_between : (t : ℕ) → from ≤ t → t ≤ time → history (world_engine model flat) 0 own t ≡ On run.going.world
  on_between t low high = stays_on model flat own from stop run.going.world run.going.on time next_time t low high

  abbrev pub values_of : HistoryState (World SideOf) RunFault → List Raw
  values_of x = (world_of x).events.values

  pub quiet : (t : ℕ) → from ≤ t → t < time → notes_in model flat (rules_of model flat) t (history (world_engine model flat) 0 own t) ≡ []
  quiet t low high = ap (notes_in model flat (rules_of model flat) t) (on_between t low (omega (arith, high)))
      ∙ ap (λ b. if b then new_plans flat t (left_by (instant model flat (rules_of model flat) t run.going.world)) else []) (next_time.none t low high)

  unfoldable pub runs_to : IsRunning model flat start time e left s news
  runs_to = record {
    going = record {
      can = run.going.can;
      ahead = run.going.ahead;
      told = record {
        answers = all_on model flat own from stop run.going.world run.going.on time next_time (λ number c. IsAnswer model flat number c (next_change c)) run.going.told.answers;
        counts = run.going.told.counts;
      };
      some = all_on model flat own from stop run.going.world run.going.on time next_time (λ number c. IsTold c) run.going.some;
      world = run.going.world;
      on = record {
        reached = omega arith;
        on = let z : time - 0 ≡ time = omega arith in ap (history (world_engine model flat) 0 own) z ∙ on_between time next_time.not_before (omega arith);
      };
      now = run.going.now;
      timed = run.going.timed;
    };
    shown = later_is_shown model flat own run.going.world from time s run.shown next_time.not_before
        (λ t low high. ap values_of (on_between t low high) ∙ sym (ap values_of (on_between from (omega arith) next_time.not_before)));
    fits = λ t low. elim (cases_lt t from) [
      | inl early ↦ run.fits t (omega (arith, early))
      | inr late ↦ subst (AreOfSignals (signal_formats flat)) (ap values_of (on_between from (omega arith) next_time.not_before) ∙ sym (ap values_of (on_between t late low))) (run.fits from (omega arith))
    ];
    news_are = run.news_are ∙ sym (notes_rest model flat (rules_of model flat) own from time next_time.not_before quiet);
  }

unfoldable pub runs_to_next : RunsToNext
runs_to_next model flat start from stop time left e s news of ready run within next = runs_to model flat start from stop time left e s news of ready run within next
