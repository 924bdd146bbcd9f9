-- Of the faults and the plan of a cluster there is at most one.
use Rattle.std.proofs.Common.{◌≡◌, ◌∙◌, ℕ, zero, suc, ◌*◌, ◌<◌, ◌≤◌, List, [], ◌∷◌, Option, Some, None, length, refl, sym, ap, subst, arith, inl, inr, ◌⊎◌}
use Rattle.std.proofs.Math.ListN.{get_or}
use Rattle.std.proofs.lemmas.Bool.{cases_lt}
use Rattle.std.proofs.lemmas.List.{ext_get_or}
use Rattle.std.specs.Prelude.{All, Contains, slice_get}
use Rattle.tdf_balance.specs.Balance.{HasCounts}
use Rattle.tdf_balance.specs.Laws.{CountsAreUnique, AnswersExclude}
use Rattle.tdf_balance.specs.declared.err.BalanceErr.{BalanceErr}
use Rattle.tdf_balance.specs.declared.err.BalanceErr.TheVariants as balance
use Rattle.tdf_base.specs.declared.faults.Fault.{Fault}
use Rattle.tdf_bind_tables.specs.FlatTables.{FlatTablesOf}
use Rattle.tdf_dynamic_plans.proofs.Periods.{agreed_once, steps_err, steps_apart}
use Rattle.tdf_dynamic_plans.specs.Assignments.{assignments}
use Rattle.tdf_dynamic_plans.specs.Attributes.{AttrsOf, clusters_of}
use Rattle.tdf_dynamic_plans.specs.Faults.{IsBalanceErr, balance_fault, IsCountsFault, IsStepErr, step_fault, IsPeriodFault, HasCountsOf, HasStepsOf, HasTiming, OfCounts, OfPeriod, pace_in, IsPlanErr, plan_fault, IsNetFault, OfTiming, OfPlan, IsNetPlan}
use Rattle.tdf_dynamic_plans.specs.Rates.{NetOf}
use Rattle.tdf_graph.specs.Clusters.{AreClusters}
use Rattle.tdf_graph.specs.Ranges.{IsEdge}
use Rattle.tdf_graph.specs.declared.actors.Edge.{Edge}
use Rattle.tdf_dynamic_plans.specs.Same.{AreSamePlans}
use Rattle.tdf_schedule.specs.Laws.{PlansAreUnique, BoundsAreUnique}
use Rattle.tdf_schedule.specs.Plan.{pace_of, IsBound, IsLate, IsDeadlock, IsNoncausal, HasPlan}
use Rattle.tdf_schedule.specs.declared.entry.Plan.{Plan}
use Rattle.tdf_schedule.specs.declared.err.PlanErr.{PlanErr}
use Rattle.tdf_schedule.specs.declared.err.PlanErr.TheVariants as planning
use Rattle.tdf_timestep.specs.declared.assign.Steps.{Steps}

some_same : {A : Type 0} {x y : A} → Some x ≡ Some y → x ≡ y
some_same {A} {x} {y} e = ap or_x e
  where
    or_x : Option A → A
    or_x None = x
    or_x (Some z) = z

told_same : (a b : Option Fault) (x y : Fault) → a ≡ b → a ≡ Some x → b ≡ Some y → x ≡ y
told_same a b x y same one other = some_same (sym one ∙ same ∙ other)

-- counts
module _ (net : NetOf) (clusters : List ℕ) (cluster : ℕ) (answers : AnswersExclude) (fit : All (IsEdge (length clusters)) net.edges)
    (are : AreClusters (length clusters) net.edges clusters) (has : Contains clusters cluster) where
  counts_err : (one other : BalanceErr) → IsBalanceErr net clusters cluster one → IsBalanceErr net clusters cluster other → one ≡ other
  counts_err (balance.Rates j) (balance.Rates k) p q = ap balance.Rates (answers.one_edge net.edges clusters cluster j k p q)
  counts_err (balance.Rates j) balance.TooLarge p q = absurd (answers.rates_or_size net.edges clusters cluster j p q)
  counts_err balance.TooLarge (balance.Rates k) p q = absurd (answers.rates_or_size net.edges clusters cluster k q p)
  counts_err balance.TooLarge balance.TooLarge p q = refl
  counts_err balance.Memory other p q = absurd p
  counts_err (balance.Rates j) balance.Memory p q = absurd q
  counts_err balance.TooLarge balance.Memory p q = absurd q

  counts_apart : (why : BalanceErr) (counts : List ℕ) → IsBalanceErr net clusters cluster why → HasCounts net.edges clusters cluster counts → ⊥
  counts_apart (balance.Rates k) counts p has_counts = answers.rates_or_counts net.edges clusters counts cluster k p has_counts
  counts_apart balance.TooLarge counts p has_counts = answers.size_or_counts (length clusters) net.edges clusters counts cluster fit are has p has_counts
  counts_apart balance.Memory counts p has_counts = p

-- steps
module _ (net : NetOf) (table : List AttrsOf) (counts : List ℕ) where
  steps_same : (one other : Steps) → HasStepsOf net table counts one → HasStepsOf net table counts other → (one.period ≡ other.period) × (one.actor_steps.items ≡ other.actor_steps.items)
  steps_same one other p q = (period, ext_get_or 0 one.actor_steps.items other.actor_steps.items (p.long ∙ sym q.long) (λ i less. at i (cases_lt 0 (get_or counts i 0))))
    where
      period : one.period ≡ other.period
      period = agreed_once net.ports counts (assignments table) one.period other.period p.is.agreed q.is.agreed

      cancelled : (a b c : ℕ) → 0 < c → a * c ≡ b * c → a ≡ b
      cancelled a b c some e = grind (arith, some, e)

      at : (i : ℕ) → (0 < get_or counts i 0) ⊎ (get_or counts i 0 ≤ 0) → get_or one.actor_steps.items i 0 ≡ get_or other.actor_steps.items i 0
      at i (inl some) = cancelled _ _ (get_or counts i 0) some (p.firing i some ∙ period ∙ sym (q.firing i some))
      at i (inr none) = let z : get_or counts i 0 ≡ 0 = omega (arith, none) in p.none i z ∙ sym (q.none i z)

-- plans
module _ (net : NetOf) (counts : List ℕ) (steps : Steps) where
  plan_err : (one other : PlanErr) → IsPlanErr net counts steps one → IsPlanErr net counts steps other → one ≡ other
  plan_err planning.TooLarge planning.TooLarge p q = refl
  plan_err planning.TooLarge (planning.Deadlock m) p q = absurd (let h = q.0 in omega (arith, p, h))
  plan_err planning.TooLarge (planning.Noncausal m a) p q = absurd (let h = q.0 in omega (arith, p, h))
  plan_err (planning.Deadlock m) planning.TooLarge p q = absurd (let h = p.0 in omega (arith, q, h))
  plan_err (planning.Noncausal m a) planning.TooLarge p q = absurd (let h = p.0 in omega (arith, q, h))
  plan_err (planning.Deadlock m) (planning.Deadlock n) p q = ap planning.Deadlock (go (cases_lt m n) (cases_lt n m))
    where
      go : (m < n) ⊎ (n ≤ m) → (n < m) ⊎ (m ≤ n) → m ≡ n
      go (inl less) second = absurd (p.1.ungrounded (q.1.first m p.1.firing less p.1.within))
      go (inr more) (inl less) = absurd (q.1.ungrounded (p.1.first n q.1.firing less q.1.within))
      go (inr more) (inr most) = omega (arith, more, most)
  plan_err (planning.Deadlock m) (planning.Noncausal n b) p q = absurd (p.1.ungrounded (q.1.grounded m p.1.firing p.1.within))
  plan_err (planning.Noncausal m a) (planning.Deadlock n) p q = absurd (q.1.ungrounded (p.1.grounded n q.1.firing q.1.within))
  plan_err (planning.Noncausal m a) (planning.Noncausal n b) p q = both (sinks (cases_lt m n) (cases_lt n m))
    where
      sinks : (m < n) ⊎ (n ≤ m) → (n < m) ⊎ (m ≤ n) → m ≡ n
      sinks (inl less) second = absurd (q.1.first m a less p.1.late)
      sinks (inr more) (inl less) = absurd (p.1.first n b less q.1.late)
      sinks (inr more) (inr most) = omega (arith, more, most)

      firings : m ≡ n → (a < b) ⊎ (b ≤ a) → (b < a) ⊎ (a ≤ b) → a ≡ b
      firings same (inl less) second = absurd (q.1.earliest a less (subst (λ k. IsLate net.edges net.actors (pace_in net steps) counts k a) same p.1.late))
      firings same (inr more) (inl less) = absurd (p.1.earliest b less (subst (λ k. IsLate net.edges net.actors (pace_in net steps) counts k b) (sym same) q.1.late))
      firings same (inr more) (inr most) = omega (arith, more, most)

      both : m ≡ n → planning.Noncausal m a ≡ planning.Noncausal n b
      both same = ap (λ k. planning.Noncausal k a) same ∙ ap (planning.Noncausal n) (firings same (cases_lt a b) (cases_lt b a))
  plan_err planning.Memory other p q = absurd p
  plan_err planning.TooLarge planning.Memory p q = absurd q
  plan_err (planning.Deadlock m) planning.Memory p q = absurd q
  plan_err (planning.Noncausal m a) planning.Memory p q = absurd q

-- the second phase depends on the steps of the actors alone
moved_err : (net : NetOf) (counts : List ℕ) (one other : Steps) (why : PlanErr) → one.actor_steps.items ≡ other.actor_steps.items → IsPlanErr net counts one why → IsPlanErr net counts other why
moved_err net counts one other planning.TooLarge same p = p
moved_err net counts one other (planning.Deadlock m) same p = (p.0, subst (λ xs. IsDeadlock net.edges (pace_of net.actors xs) counts m) same p.1)
moved_err net counts one other (planning.Noncausal m a) same p = (p.0, subst (λ xs. IsNoncausal net.edges net.actors (pace_of net.actors xs) counts m a) same p.1)
moved_err net counts one other planning.Memory same p = p

some_at : {A : Type 0} (xs : List A) (k : ℕ) → k < length xs → (x : A) × (slice_get xs k ≡ Some x)
some_at [] k less = absurd (omega (arith, less))
some_at (x ∷ xs) zero less = (x, refl)
some_at (x ∷ xs) (suc k) less = some_at xs k (omega (arith, less))

module _ (plans : PlansAreUnique) (unique : BoundsAreUnique) (edges : List Edge) (counts : List ℕ) where
  same_plan : (pace : ℕ → ℕ) (period : ℕ) (one other : Plan) → HasPlan edges pace counts period one → HasPlan edges pace counts period other → AreSamePlans one other
  same_plan pace period one other p q = record {
    entries = entries;
    bounds = ext_get_or 0 one.bounds.items other.bounds.items (p.long ∙ sym q.long)
        (λ k less. let e = some_at edges k (subst (λ n. k < n) p.long less) in at k e.0 e.1 (cases_lt 0 (get_or counts e.0.writer 0)));
    period = p.same ∙ sym q.same;
  }
    where
      entries : one.entries.items ≡ other.entries.items
      entries = plans edges pace counts one.entries.items other.entries.items p.planned q.planned

      at : (k : ℕ) (e : Edge) → slice_get edges k ≡ Some e → (0 < get_or counts e.writer 0) ⊎ (get_or counts e.writer 0 ≤ 0) → get_or one.bounds.items k 0 ≡ get_or other.bounds.items k 0
      at k e is (inl some) = unique one.entries.items e (get_or one.bounds.items k 0) (get_or other.bounds.items k 0) (p.bounded k e is some)
          (subst (λ xs. IsBound xs e (get_or other.bounds.items k 0)) (sym entries) (q.bounded k e is some))
      at k e is (inr none) = let z : get_or counts e.writer 0 ≡ 0 = omega (arith, none) in p.outside k e is z ∙ sym (q.outside k e is z)

-- all phases
module _ (tables : FlatTablesOf) (net : NetOf) (cluster : ℕ) (table : List AttrsOf) (answers : AnswersExclude) (unique : CountsAreUnique) (fit : All (IsEdge (length (clusters_of tables))) net.edges)
    (are : AreClusters (length (clusters_of tables)) net.edges (clusters_of tables)) (has : Contains (clusters_of tables) cluster) where
  pub one_counts : (a b : List ℕ) → HasCountsOf tables net cluster a → HasCountsOf tables net cluster b → a ≡ b
  one_counts a b p q = unique (length (clusters_of tables)) net.edges (clusters_of tables) cluster a b fit are has p.counts_are q.counts_are

  pub no_counts : (f : Fault) (counts : List ℕ) → IsCountsFault tables net cluster table f → HasCountsOf tables net cluster counts → ⊥
  no_counts f counts p q = counts_apart net (clusters_of tables) cluster answers fit are has p.why counts p.is q

  pub no_steps : (f : Fault) (a b : List ℕ) (steps : Steps) → HasCountsOf tables net cluster a → IsPeriodFault tables net table a f → HasTiming tables net cluster table b steps → ⊥
  no_steps f a b steps h p t = steps_apart net table b p.why steps (subst (λ (c : List ℕ). IsStepErr net table c p.why) (one_counts a b h t.counts_are) p.is) t.steps_are

  pub same_steps : (a b : List ℕ) (s t : Steps) → HasTiming tables net cluster table a s → HasTiming tables net cluster table b t → (s.period ≡ t.period) × (s.actor_steps.items ≡ t.actor_steps.items)
  same_steps a b s t p q = steps_same net table a s t p.steps_are (subst (λ (c : List ℕ). HasStepsOf net table c t) (sym (one_counts a b p.counts_are q.counts_are)) q.steps_are)

  -- an error of the second phase, told of the counts and steps of another
  pub here_err : (a b : List ℕ) (s t : Steps) (why : PlanErr) → HasTiming tables net cluster table a s → HasTiming tables net cluster table b t → IsPlanErr net b t why → IsPlanErr net a s why
  here_err a b s t why p q e = moved_err net a t s why (sym (same_steps a b s t p q).1)
      (subst (λ (c : List ℕ). IsPlanErr net c t why) (sym (one_counts a b p.counts_are q.counts_are)) e)

  pub fault_once : (f g : Fault) → IsNetFault tables net cluster table f → IsNetFault tables net cluster table g → f ≡ g
  fault_once f g (OfTiming (OfCounts p)) (OfTiming (OfCounts q)) =
      told_same _ _ f g (ap (balance_fault tables table) (counts_err net (clusters_of tables) cluster answers fit are has p.why q.why p.is q.is)) p.told q.told
  fault_once f g (OfTiming (OfCounts p)) (OfTiming (OfPeriod b h q)) = absurd (no_counts f b p h)
  fault_once f g (OfTiming (OfCounts p)) (OfPlan b t h q) = absurd (no_counts f b p h.counts_are)
  fault_once f g (OfTiming (OfPeriod a h p)) (OfTiming (OfCounts q)) = absurd (no_counts g a q h)
  fault_once f g (OfTiming (OfPeriod a h p)) (OfTiming (OfPeriod b k q)) =
      told_same _ _ f g (ap (step_fault tables table) (steps_err net table a p.why q.why p.is (subst (λ (c : List ℕ). IsStepErr net table c q.why) (sym (one_counts a b h k)) q.is))) p.told q.told
  fault_once f g (OfTiming (OfPeriod a h p)) (OfPlan b t k q) = absurd (no_steps f a b t h p k)
  fault_once f g (OfPlan a s h p) (OfTiming (OfCounts q)) = absurd (no_counts g a q h.counts_are)
  fault_once f g (OfPlan a s h p) (OfTiming (OfPeriod b k q)) = absurd (no_steps g b a s k q h)
  fault_once f g (OfPlan a s h p) (OfPlan b t k q) =
      told_same _ _ f g (ap (plan_fault tables table) (plan_err net a s p.why q.why p.is (here_err a b s t q.why h k q.is))) p.told q.told

  pub fault_apart : (f : Fault) (plan : Plan) → IsNetFault tables net cluster table f → IsNetPlan tables net cluster table plan → ⊥
  fault_apart f plan (OfTiming (OfCounts p)) q = no_counts f q.counts p q.timing.counts_are
  fault_apart f plan (OfTiming (OfPeriod a h p)) q = no_steps f a q.counts q.steps h p q.timing
  fault_apart f plan (OfPlan a s h p) q = q.plan_is.none p.why (here_err q.counts a q.steps s p.why q.timing h p.is)

  module _ (plans : PlansAreUnique) (bounds : BoundsAreUnique) where
    pub plan_once : (one other : Plan) → IsNetPlan tables net cluster table one → IsNetPlan tables net cluster table other → AreSamePlans one other
    plan_once one other p q = same_plan plans bounds net.edges p.counts (pace_in net p.steps) p.steps.period one other p.plan_is.planned there
      where
        same : (p.steps.period ≡ q.steps.period) × (p.steps.actor_steps.items ≡ q.steps.actor_steps.items)
        same = same_steps p.counts q.counts p.steps q.steps p.timing q.timing

        there : HasPlan net.edges (pace_in net p.steps) p.counts p.steps.period other
        there = subst (λ (c : List ℕ). HasPlan net.edges (pace_in net p.steps) c p.steps.period other) (sym (one_counts p.counts q.counts p.timing.counts_are q.timing.counts_are))
            (subst (λ n. HasPlan net.edges (pace_in net p.steps) q.counts n other) (sym same.0)
            (subst (λ xs. HasPlan net.edges (pace_of net.actors xs) q.counts q.steps.period other) (sym same.1) q.plan_is.planned))
