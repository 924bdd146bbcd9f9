-- Along a history the period of a cluster begins when those before it are over.
use Rattle.std.proofs.Common.{◌≡◌, ◌∙◌, ℕ, ◌+◌, ◌≤◌, ◌&&◌, Bool, true, false, nat_eq, Some, length, slice_get, refl, sym, ap, subst, arith}
use Rattle.std.proofs.lemmas.Bool.{eqb-true}
use Rattle.std.proofs.lemmas.List.Sums.{sum_by_push}
use Rattle.std.proofs.lemmas.Option.{slice_get_within}
use Rattle.tdf_bind.specs.declared.model.Flat.{Flat}
use Rattle.tdf_events.specs.Side.{SideOf}
use Rattle.tdf_lang_tree.specs.Pure.{PureTree}
use Rattle.tdf_sim_history.specs.Answers.{AreAnswers, IsAnswer}
use Rattle.tdf_sim_history.specs.History.{HistoryState, On, history}
use Rattle.tdf_sim_history.specs.Instant.{RunFault, engine, is_over, periods_of, sample_taken, stepped, with_new, with_read, with_same}
use Rattle.tdf_sim_history.specs.Rules.{rules_of}
use Rattle.tdf_sim_history.specs.World.{ClusterAt, World}
use Rattle.tdf_sim_split.proofs.Alike.{AreBetween, StepsKeep, histories_alike}
use Rattle.tdf_sim_split.proofs.History.{on_other}
use Rattle.tdf_sim_split.specs.Alike.{BothOn, BothSpent, BothStopped, StatesAlike}
use Rattle.tdf_streams.proofs.Api.{get_inside, some_same}
use Rattle.tdf_streams.specs.Periods.{PeriodRecord}
use Rattle.tdf_streams.specs.Signals.{time_of_periods}

abbrev pub IsTimed : ClusterAt → Type 0
IsTimed c = c.since ≡ c.origin + time_of_periods c.old

abbrev pub IsTimedSame : ℕ → ClusterAt → ClusterAt → Type 0
IsTimedSame n h g = (g ≡ h) × IsTimed h

-- the next period begins when this one is over
next_timed : (time : ℕ) (h : ClusterAt) → IsTimed h → is_over time h ≡ true → time ≡ h.origin + time_of_periods (periods_of h)
next_timed time h timed over =
    let e = eqb-true time (h.since + h.now.info.period) (second (nat_eq h.place (length h.entries)) (nat_eq time (h.since + h.now.info.period)) over) in
    let p = sum_by_push (λ (q : PeriodRecord). q.info.period) h.old h.now in
    omega (arith, e, p, timed)
  where
    second : (p q : Bool) → (p && q) ≡ true → q ≡ true
    second true q is = is
    second false q is = absurd cc

steps_timed : (model : PureTree) (flat : Flat) → StepsKeep model flat IsTimedSame
steps_timed model flat = record {
  view = λ n h g q. record {
    entries = ap (λ (c : ClusterAt). c.entries) q.0;
    place = ap (λ (c : ClusterAt). c.place) q.0;
    since = ap (λ (c : ClusterAt). c.since) q.0;
    period = ap (λ (c : ClusterAt). c.now.info.period) q.0;
    table = ap (λ (c : ClusterAt). c.now.info.table) q.0;
    ahead = ap (λ (c : ClusterAt). c.ahead) q.0;
    bounds = ap (λ (c : ClusterAt). c.bounds) q.0;
  };
  answer = λ n h g x q answer. subst (λ c. IsAnswer model flat (n + 1) c x) (sym q.0) answer;
  sink = λ n h g x q next is. ap (λ (c : ClusterAt). sample_taken model flat (n + 1) c x.actor) q.0;
  step = λ n h g x q next plain. (ap stepped q.0, q.1);
  read = λ n h g x value q next sampler. (ap (λ (c : ClusterAt). stepped (with_read x.actor value c)) q.0, q.1);
  same = λ n time h g table q over told answer. (ap (with_same time table) q.0, next_timed time h q.1 over);
  new = λ n time h g table counts period entries bounds q over told answer. (ap (with_new flat.tables time table counts period entries bounds) q.0, next_timed time h q.1 over);
}

module _ (model : PureTree) (flat : Flat) (one : World SideOf) (timed : (n : ℕ) (c : ClusterAt) → slice_get one.clusters n ≡ Some c → IsTimed c) (stop : ℕ) (answers : AreAnswers model flat (rules_of model flat) one stop) where
  begun : history (engine model flat (rules_of model flat)) 0 one 0 ≡ On one
  unfolding history
  begun = refl

  abbrev Between : World SideOf → World SideOf → Type 0
  Between a b = AreBetween model flat (rules_of model flat) IsTimedSame (steps_timed model flat) a b

  pub timed_at : (time : ℕ) → time ≤ stop → (w : World SideOf) → history (engine model flat (rules_of model flat)) 0 one time ≡ On w → (n : ℕ) (c : ClusterAt) → slice_get w.clusters n ≡ Some c → IsTimed c
  timed_at time low w at = go (history (engine model flat (rules_of model flat)) 0 one time) (history (engine model flat (rules_of model flat)) 0 one time) at same
    where
      itself : Between one one
      itself = record {
        same = refl;
        each = λ n h g h_at g_at. (some_same g h (sym g_at ∙ h_at), timed n h h_at);
        events = refl;
        left = refl;
      }

      same : StatesAlike (AreBetween model flat (rules_of model flat) IsTimedSame (steps_timed model flat)) (history (engine model flat (rules_of model flat)) 0 one time) (history (engine model flat (rules_of model flat)) 0 one time)
      same =
          let z : 0 + time ≡ time = omega arith in
          subst (λ t. StatesAlike (AreBetween model flat (rules_of model flat) IsTimedSame (steps_timed model flat)) (history (engine model flat (rules_of model flat)) 0 one t) (history (engine model flat (rules_of model flat)) 0 one t)) z
          (histories_alike model flat (rules_of model flat) IsTimedSame (steps_timed model flat) one one 0 stop one one begun begun itself answers time (omega (arith, low)))

      go : (x y : HistoryState (World SideOf) RunFault) → x ≡ On w → StatesAlike (AreBetween model flat (rules_of model flat) IsTimedSame (steps_timed model flat)) x y → (n : ℕ) (c : ClusterAt) → slice_get w.clusters n ≡ Some c → IsTimed c
      go x y is (BothOn a b r) n c c_at =
          let a_is : a ≡ w = on_other (On a) a w refl is in
          let there : slice_get a.clusters n ≡ Some c = ap (λ (v : World SideOf). slice_get v.clusters n) a_is ∙ c_at in
          let i = slice_get_within a.clusters n c there in
          let d = get_inside b.clusters n (let s = r.same in omega (arith, i, s)) in
          (r.each n c d.0 there d.1).1
      go x y is (BothStopped when fault a b r) n c c_at = absurd cc
      go x y is (BothSpent when a b r) n c c_at = absurd cc
