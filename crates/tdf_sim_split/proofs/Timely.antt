-- The clusters of a run from its text: their periods are whole, one after the other, and each is done from its head.
use Rattle.std.proofs.Common.{◌≡◌, ◌∙◌, ◌⊎◌, ℕ, zero, suc, ◌+◌, ◌≤◌, true, List, [], ◌∷◌, ◌++◌, Some, slice_get, inl, inr, refl, sym, subst, arith}
use Rattle.std.proofs.lemmas.Bool.Decides.{nat_tests}
use Rattle.std.proofs.lemmas.List.Sums.{sum_by_push}
use Rattle.std.proofs.lemmas.Option.{slice_get_within}
use Rattle.std.specs.Prelude.{slice_index_or}
use Rattle.tdf_bind.specs.declared.model.Flat.{Flat}
use Rattle.tdf_dynamic_first.specs.declared.first.First.{First}
use Rattle.tdf_dynamic_plans.specs.Attributes.{AttrsOf}
use Rattle.tdf_events.specs.Side.{SideOf}
use Rattle.tdf_expr.specs.Checked.{IsCheckedOf}
use Rattle.tdf_lang_tree.specs.Kept.{IsKept}
use Rattle.tdf_lang_tree.specs.Pure.{PureTree}
use Rattle.tdf_schedule.specs.declared.entry.Entry.{Entry}
use Rattle.tdf_sim_history.specs.Answers.{AreAnswers}
use Rattle.tdf_sim_history.specs.History.{HistoryState, On, history}
use Rattle.tdf_sim_history.specs.Instant.{RunFault, engine, is_over, periods_of, same_period, with_new, with_same}
use Rattle.tdf_sim_history.specs.Rules.{rules_of, start_world}
use Rattle.tdf_sim_history.specs.Start.{first_cluster}
use Rattle.tdf_sim_history.specs.World.{Change, ClusterAt, World}
use Rattle.tdf_sim_split.proofs.Alike.{AreBetween, StepsKeep, histories_alike}
use Rattle.tdf_sim_split.proofs.History.{on_other}
use Rattle.tdf_sim_split.proofs.Sound.{IsSoundSame, steps_sound}
use Rattle.tdf_sim_split.proofs.Starts.{first_at}
use Rattle.tdf_sim_split.specs.Alike.{BothOn, BothSpent, BothStopped, StatesAlike}
use Rattle.tdf_sim_split.specs.Laws.{AreSound}
use Rattle.tdf_streams.proofs.Api.{get_inside, none_some, some_same}
use Rattle.tdf_streams.specs.Periods.{PeriodRecord, period_record}
use Rattle.tdf_streams.specs.Signals.{time_of_periods}

pub record IsTimely (c : ClusterAt) : Type 0 where
  pub since : c.since ≡ c.origin + time_of_periods c.old
  pub from : c.from ≡ 0
  pub whole : (k : ℕ) (p : PeriodRecord) → slice_get (periods_of c) k ≡ Some p → p.counts ≡ p.info.counts

-- so are those of a world
abbrev pub AreTimely : World SideOf → Type 0
AreTimely w = (n : ℕ) (c : ClusterAt) → slice_get w.clusters n ≡ Some c → IsTimely c

in_pushed : {A : Type 0} (xs : List A) (y : A) (k : ℕ) (x : A) → slice_get (xs ++ y ∷ []) k ≡ Some x → (slice_get xs k ≡ Some x) ⊎ (y ≡ x)
in_pushed [] y zero x at = inr (some_same y x at)
in_pushed [] y (suc k) x at = none_some x at
in_pushed (z ∷ zs) y zero x at = inl at
in_pushed (z ∷ zs) y (suc k) x at = in_pushed zs y k x at

-- ---- a new period

module _ (time : ℕ) (h : ClusterAt) (timely : IsTimely h) (over : is_over time h ≡ true) where
  ends : time ≡ h.origin + time_of_periods (periods_of h)
  ends =
      let e : time ≡ h.since + h.now.info.period = grind (arith, nat_tests, over) in
      let s = timely.since in
      let p = sum_by_push (λ (r : PeriodRecord). r.info.period) h.old h.now in omega (arith, e, s, p)

  all_whole : (next : PeriodRecord) → next.counts ≡ next.info.counts → (k : ℕ) (p : PeriodRecord) → slice_get (periods_of h ++ next ∷ []) k ≡ Some p → p.counts ≡ p.info.counts
  all_whole next is k p at = elim (in_pushed (periods_of h) next k p at) [ inl old ↦ timely.whole k p old | inr new ↦ subst (λ (r : PeriodRecord). r.counts ≡ r.info.counts) new is ]

  same_timely : (table : List AttrsOf) → IsTimely (with_same time table h)
  same_timely table = record { since = ends; from = refl; whole = all_whole (same_period table h.now) refl }

  new_timely : (flat : Flat) (table : List AttrsOf) (counts : List ℕ) (period : ℕ) (entries : List Entry) (bounds : List ℕ) → IsTimely (with_new flat.tables time table counts period entries bounds h)
  new_timely flat table counts period entries bounds = record { since = ends; from = refl; whole = all_whole (period_record flat.tables table counts period true) refl }

-- ---- along a history

module _ (model : PureTree) (flat : Flat) (kept : IsKept model) (checked : IsCheckedOf model flat.checked) where
  abbrev IsTimelySame : ℕ → ClusterAt → ClusterAt → Type 0
  IsTimelySame n h g = IsSoundSame model flat kept checked n h g × IsTimely h

  sounds : StepsKeep model flat (IsSoundSame model flat kept checked)
  sounds = steps_sound model flat kept checked

  steps_timely : StepsKeep model flat IsTimelySame
  steps_timely = record {
    view = λ n h g q. sounds.view n h g q.0;
    answer = λ n h g x q answer. sounds.answer n h g x q.0 answer;
    sink = λ n h g x q next is. sounds.sink n h g x q.0 next is;
    step = λ n h g x q next plain. (sounds.step n h g x q.0 next plain, record { since = q.1.since; from = q.1.from; whole = q.1.whole });
    read = λ n h g x value q next sampler. (sounds.read n h g x value q.0 next sampler, record { since = q.1.since; from = q.1.from; whole = q.1.whole });
    same = λ n time h g table q over told answer. (sounds.same n time h g table q.0 over told answer, same_timely time h q.1 over table);
    new = λ n time h g table counts period entries bounds q over told answer.
        (sounds.new n time h g table counts period entries bounds q.0 over told answer, new_timely time h q.1 over flat table counts period entries bounds);
  }

  module _ (one : World SideOf) (sound : AreSound flat one) (timely : AreTimely one) (stop : ℕ) (answers : AreAnswers model flat (rules_of model flat) one stop) where
    begun : history (engine model flat (rules_of model flat)) 0 one 0 ≡ On one
    unfolding history
    begun = refl

    abbrev Between : World SideOf → World SideOf → Type 0
    Between = AreBetween model flat (rules_of model flat) IsTimelySame steps_timely

    abbrev first : ℕ → HistoryState (World SideOf) RunFault
    first time = history (engine model flat (rules_of model flat)) 0 one time

    itself : Between one one
    itself = record {
      same = refl;
      each = λ n h g h_at g_at. ((some_same g h (sym g_at ∙ h_at), sound.each n h h_at), timely n h h_at);
      events = refl;
      left = refl;
    }

    pub timely_at : (time : ℕ) → time ≤ stop → (w : World SideOf) → first time ≡ On w → AreTimely w
    timely_at time low w at = go (first time) (first time) at same
      where
        same : StatesAlike Between (first time) (first time)
        same =
            let z : 0 + time ≡ time = omega arith in
            subst (λ t. StatesAlike Between (first t) (first t)) z
            (histories_alike model flat (rules_of model flat) IsTimelySame steps_timely one one 0 stop one one begun begun itself answers time (omega (arith, low)))

        go : (x y : HistoryState (World SideOf) RunFault) → x ≡ On w → StatesAlike Between x y → AreTimely w
        go x y is (BothOn a b r) =
            let a_is : a ≡ w = on_other (On a) a w refl is in
            subst AreTimely a_is (λ n c c_at. (
            let i = slice_get_within a.clusters n c c_at in
            let d = get_inside b.clusters n (let s = r.same in omega (arith, i, s)) in
            (r.each n c d.0 c_at d.1).1))
        go x y is (BothStopped when fault a b r) = absurd cc
        go x y is (BothSpent when a b r) = absurd cc

-- ---- from the text

first_timely : (model : PureTree) (flat : Flat) (number : ℕ) (first : First) (ahead : List Change) → IsTimely (first_cluster model flat number first ahead)
first_timely model flat number first ahead = record { since = refl; from = refl; whole = only }
  where
    only : (k : ℕ) (p : PeriodRecord) → slice_get ((first_cluster model flat number first ahead).now ∷ []) k ≡ Some p → p.counts ≡ p.info.counts
    only zero p at = subst (λ (r : PeriodRecord). r.counts ≡ r.info.counts) (some_same (first_cluster model flat number first ahead).now p at) refl
    only (suc k) p at = none_some p at

pub texts_begin_timely : (model : PureTree) (flat : Flat) (firsts : List First) (ahead : List (List Change)) (turns : ℕ) → AreTimely (start_world model flat firsts ahead turns)
texts_begin_timely model flat firsts ahead turns n c at =
    let x = first_at (λ f. first_cluster model flat (f.0 + 1) f.1 (slice_index_or ahead f.0 [])) 0 firsts n c at in
    subst IsTimely (sym x.2) (first_timely model flat (0 + n + 1) x.0 (slice_index_or ahead (0 + n) []))
