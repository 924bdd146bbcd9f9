-- The first cluster of a flat model with a fault, and the plans of all clusters.
use Rattle.std.proofs.Common.{◌≡◌, ◌∙◌, ℕ, zero, suc, ◌+◌, ◌-◌, ◌<◌, ◌≤◌, List, [], ◌∷◌, Some, length, map, refl, sym, ap, subst, inl, inr, arith}
use Rattle.std.proofs.lemmas.Bool.{cases_eq, cases_lt}
use Rattle.std.proofs.lemmas.Option.{slice_get_within}
use Rattle.std.specs.Prelude.{slice_get}
use Rattle.tdf_base.specs.declared.faults.Fault.{Fault}
use Rattle.tdf_dynamic_first.specs.First.{IsFirstPlan, IsClusterFault, IsPlannable}
use Rattle.tdf_dynamic_first.specs.Laws.{ClustersAreWhole, ClustersHaveOne, IsPlannableCluster}
use Rattle.tdf_dynamic_plans.specs.Same.{AreSamePlans}
use Rattle.tdf_dynamic_first.specs.declared.first.First.{First}
use Rattle.tdf_bind.specs.declared.model.Flat.{Flat}
use Rattle.tdf_dynamic_texts.specs.Plans.{PlanRows, rows_of_plan}
use Rattle.tdf_schedule.specs.declared.entry.Entry.{Entry}
use Rattle.tdf_schedule.specs.declared.entry.Plan.{Plan}
use Rattle.tdf_sim.proofs.Alike.{IsAlike, move_fault, move_plan, same_table}
use Rattle.tdf_sim.specs.Accepted.{ArePlans}
use Rattle.tdf_sim.specs.FirstFault.{IsPlansFault, cluster_count}
use Rattle.tdf_sim.specs.PlanText.{plan_rows}

same_count : (a b : Flat) → IsAlike a b → cluster_count a.tables ≡ cluster_count b.tables
same_count a b same = ap cluster_count same.tables

pub has_cluster : ClustersAreWhole → (flat : Flat) (cluster : ℕ) → IsPlannable flat → 1 ≤ cluster → cluster ≤ cluster_count flat.tables → IsPlannableCluster flat cluster
has_cluster whole flat cluster plannable some few = record {
  plannable = plannable;
  has = whole flat.tables cluster plannable.wired some few;
}

module _ (one : ClustersHaveOne) (whole : ClustersAreWhole) where
  -- of two models that are alike, the first cluster with a fault is the same, and so is the fault
  pub fault_once : (a b : Flat) (f g : Fault) → IsPlannable a → IsPlannable b → IsAlike a b → IsPlansFault a f → IsPlansFault b g → f ≡ g
  fault_once a b f g plan_a plan_b same p q = elim (cases_lt p.cluster q.cluster) [
    | inl less ↦ (let first = q.before p.cluster p.some less in let within = p.within in let count = same_count a b same in
        absurd (one.fault_or_plan b p.cluster f first.0 (has_cluster whole b p.cluster plan_b p.some (omega (arith, within, count)))
        (move_fault a b p.cluster f same p.is) first.1))
    | inr not_less ↦ elim (cases_eq p.cluster q.cluster) [
      | inl here ↦ one.one_fault b q.cluster f g (has_cluster whole b q.cluster plan_b q.some q.within)
          (move_fault a b q.cluster f same (subst (λ (c : ℕ). IsClusterFault a c f) here p.is)) q.is
      | inr apart ↦ (let some = q.some in let within = q.within in let count = same_count a b same in
          let first = p.before q.cluster q.some (omega (arith, not_less, apart)) in
          absurd (one.fault_or_plan b q.cluster g first.0 (has_cluster whole b q.cluster plan_b q.some q.within) q.is
          (move_plan a b q.cluster first.0 same first.1)))
    ]
  ]

  -- a model with a fault does not have the plans of all clusters
  pub fault_or_plans : (a b : Flat) (f : Fault) (firsts : List First) → IsPlannable a → IsPlannable b → IsAlike a b → IsPlansFault a f → ArePlans b firsts → ⊥
  fault_or_plans a b f firsts plan_a plan_b same p plans =
      let within = p.within in let some = p.some in let count = same_count a b same in let all = plans.all in
      let here = there firsts (p.cluster - 1) (omega (arith, within, some, count, all)) in
      let number : p.cluster - 1 + 1 ≡ p.cluster = omega (arith, some) in
      one.fault_or_plan b p.cluster f here.0 (has_cluster whole b p.cluster plan_b p.some (omega (arith, within, count))) (move_fault a b p.cluster f same p.is)
      (subst (λ (c : ℕ). IsFirstPlan b c here.0) number (plans.each (p.cluster - 1) here.0 here.1))
    where
      there : (xs : List First) (k : ℕ) → k < length xs → (x : First) × (slice_get xs k ≡ Some x)
      there [] k less = absurd (omega (arith, less))
      there (x ∷ xs) zero less = (x, refl)
      there (x ∷ xs) (suc k) less = there xs k (omega (arith, less))

  same_rows : (x y : Plan) → AreSamePlans x y → rows_of_plan x ≡ rows_of_plan y
  same_rows x y same =
      ap (λ (entries : List Entry). row entries x.bounds.items x.period) same.entries
      ∙ ap (λ (bounds : List ℕ). row y.entries.items bounds x.period) same.bounds
      ∙ ap (λ (period : ℕ). row y.entries.items y.bounds.items period) same.period
    where
      row : List Entry → List ℕ → ℕ → PlanRows
      row entries bounds period = record { entries = entries; bounds = bounds; period = period }

  same_maps : {X Y : Type 0} (f : X → Y) (xs ys : List X) → length xs ≡ length ys → ((k : ℕ) (x y : X) → slice_get xs k ≡ Some x → slice_get ys k ≡ Some y → f x ≡ f y) → map f xs ≡ map f ys
  same_maps f [] [] long each = refl
  same_maps f [] (y ∷ ys) long each = absurd (omega (arith, long))
  same_maps f (x ∷ xs) [] long each = absurd (omega (arith, long))
  same_maps f (x ∷ xs) (y ∷ ys) long each =
      ap (λ z. z ∷ map f xs) (each 0 x y refl refl) ∙ ap (λ zs. f y ∷ zs) (same_maps f xs ys (omega (arith, long)) (λ k a b. each (suc k) a b))

  -- two models that are alike have the same attributes
  pub attrs_alike : (a b : Flat) (xs ys : List First) → IsAlike a b → ArePlans a xs → ArePlans b ys → map (λ (f : First). f.attrs.rows) xs ≡ map (λ (f : First). f.attrs.rows) ys
  attrs_alike a b xs ys same p q =
      same_maps (λ (f : First). f.attrs.rows) xs ys (p.all ∙ same_count a b same ∙ sym q.all)
      (λ k x y x_is y_is. (p.each k x x_is).attrs_are ∙ same_table a b (k + 1) same ∙ sym (q.each k y y_is).attrs_are)

  -- and the same plans
  pub firsts_alike : (a b : Flat) (xs ys : List First) → IsPlannable b → IsAlike a b → ArePlans a xs → ArePlans b ys → map plan_rows xs ≡ map plan_rows ys
  firsts_alike a b xs ys plan_b same p q =
      let count = same_count a b same in let p_all = p.all in let q_all = q.all in
      same_maps plan_rows xs ys (p_all ∙ count ∙ sym q_all) (λ k x y x_is y_is. same_at k x y x_is y_is)
    where
      within : (zs : List First) (k : ℕ) (z : First) → slice_get zs k ≡ Some z → k < length zs
      within zs k z is = slice_get_within zs k z is

      same_at : (k : ℕ) (x y : First) → slice_get xs k ≡ Some x → slice_get ys k ≡ Some y → plan_rows x ≡ plan_rows y
      same_at k x y x_is y_is =
          let low = within ys k y y_is in let q_all = q.all in
          let both = one.one_plan b (k + 1) x y (has_cluster whole b (k + 1) plan_b (omega arith) (omega (arith, low, q_all)))
          (move_plan a b (k + 1) x same (p.each k x x_is)) (q.each k y y_is) in
          same_rows x.plan y.plan both.plans_are
