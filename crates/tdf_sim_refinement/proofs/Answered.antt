-- Where the period of a cluster is done, what its modules ask for leads to the answer of its boundary.
use Rattle.std.proofs.Common.{◌≡◌, ◌∙◌, ℕ, false, List, [], Some, length, option_map, nat_eq, sym, ap, subst, arith}
use Rattle.std.proofs.lemmas.Bool.{eq-eqb}
use Rattle.std.proofs.lemmas.Option.{slice_get-get_or, slice_get-map}
use Rattle.std.specs.Prelude.{◌||◌, All, IsSome, is_some, not, slice_get, slice_index, slice_index_or, unwrap_or, ℤ}
use Rattle.tdf_exec.specs.Below.{IsBoundary, asks_of, table_after}
use Rattle.tdf_dynamic_plans.specs.Attributes.{AttrsOf, IsOfCluster, clusters_of}
use Rattle.tdf_exec.specs.Cluster.{ClusterOf}
use Rattle.tdf_exec.specs.Crossing.{AreCellsOf, cells_in, values_at}
use Rattle.tdf_exec.specs.Played.{runner_cells}
use Rattle.tdf_expr.specs.Checked.{IsCheckedOf}
use Rattle.tdf_bind.specs.declared.model.Flat.{Flat}
use Rattle.tdf_sim_history.specs.Answers.{IsAnswer, Leads, asks_in, last_cells}
use Rattle.tdf_sim_history.specs.World.{Change, ClusterAt}
use Rattle.tdf_bind_invariants.specs.Limits.{AreWithinLimits}
use Rattle.tdf_sim_refinement.proofs.Crossing.{all_at, all_done, record_now}
use Rattle.tdf_sim_refinement.proofs.Answering.{cluster_there}
use Rattle.tdf_streams.proofs.Api.{get_inside, is_wired}
use Rattle.tdf_exec.proofs.Api.{module_kind}
use Rattle.tdf_dynamic_plans.proofs.Api.{modules_few}
use Rattle.tdf_sim_refinement.specs.At.{IsAt}
use Rattle.tdf_sim_refinement.specs.Boundary.{HasAnswered}
use Rattle.tdf_streams.specs.Cluster.{is_outside_cluster, is_sampler_kind}
use Rattle.tdf_streams.specs.Periods.{AreAttributes}
use Rattle.tdf_sim_refinement.proofs.Knowing.{held}
use Rattle.tdf_sim_refinement.specs.SampleLaws.{AnswersAreTold, HasAnswer}
use Rattle.tdf_lang_tree.specs.Pure.{PureTree}

all_from : {A : Type 0} (P : A → Type 0) (xs : List A) → ((j : ℕ) (x : A) → slice_get xs j ≡ Some x → P x) → All P xs
all_from P xs each = λ j d below. each j (slice_index_or xs j d) (slice_get-get_or xs j d below)

module _ (model : PureTree) (flat : Flat) (number : ℕ) (h : ClusterAt) (c : ClusterOf) (change : Change) (checked : IsCheckedOf model flat.checked) (limits : AreWithinLimits flat)
    (at : IsAt model flat number h c) (answered : HasAnswered flat c change) where
  row_own : (i : ℕ) (a : AttrsOf) → slice_get c.table i ≡ Some a → IsOfCluster flat.tables number a
  row_own i a there = subst (λ n. IsOfCluster flat.tables n a) at.number_is (all_at (IsOfCluster flat.tables c.number) c.table i a at.of.attributes.own there)

  not_outside : (a : AttrsOf) → IsOfCluster flat.tables number a → is_outside_cluster flat.tables number a.number ≡ false
  not_outside a own =
      ap (λ k. is_sampler_kind k || not (nat_eq (slice_index (clusters_of flat.tables) a.number) number)) (module_kind (length flat.tables.modules) flat.tables limits.actors a.number own.is_module)
      ∙ ap not (eq-eqb (slice_index (clusters_of flat.tables) a.number) number own.inside)

  -- what each module of the table holds is known
  holds : (i : ℕ) (a : AttrsOf) → slice_get c.table i ≡ Some a → last_cells model flat number h a.number ≡ Some (values_at c.runners a.number)
  holds i a there =
      let own = row_own i a there in
      let few = modules_few flat.tables (is_wired flat limits) in
      let r = get_inside c.runners a.number (let b = own.is_module in let l = at.of.actors in omega (arith, few, b, l)) in
      held model flat number h c at (all_done model flat number h c at answered.done) a.number (values_at c.runners a.number)
      (slice_get-map runner_cells c.runners a.number ∙ ap (option_map runner_cells) r.1 ∙ sym (ap (λ o. Some (cells_in o)) r.1)) (not_outside a own)

  abbrev cells : ℕ → List ℤ
  cells m = unwrap_or (last_cells model flat number h m) []

  are : AreCellsOf c cells
  are = record { each = λ i a there. ap (λ o. unwrap_or o []) (holds i a there) }

  known : All (λ (a : AttrsOf). IsSome (last_cells model flat number h a.number)) c.table
  known = all_from (λ (a : AttrsOf). IsSome (last_cells model flat number h a.number)) c.table (λ i a there. ap is_some (holds i a there))

  answer : IsAnswer model flat number h change
  answer = record {
    known = subst (All (λ (a : AttrsOf). IsSome (last_cells model flat number h a.number))) at.table_is known;
    leads = subst (λ t. Leads flat.tables number (asks_in model flat number h) t change) at.table_is
        (subst (λ n. Leads flat.tables n (asks_of model flat cells) c.table change) at.number_is (answered.leads model cells checked are));
  }

  boundary : IsBoundary flat number (asks_in model flat number h) h.now.info.table
  boundary = record {
    limits = limits;
    has = cluster_there flat number h.now limits (record_now model flat number h c at);
    before = subst (AreAttributes flat number) at.table_is (subst (λ n. AreAttributes flat n c.table) at.number_is at.of.attributes);
    after = subst (λ t. AreAttributes flat number (table_after (asks_in model flat number h) t)) at.table_is
        (subst (λ n. AreAttributes flat n (table_after (asks_of model flat cells) c.table)) at.number_is (answered.after model cells checked are));
  }

  pub has_answer : HasAnswer model flat number h change
  has_answer = record { answer = answer; boundary = boundary }

pub answers_are_told : AnswersAreTold
answers_are_told model flat number h c change checked limits at answered = has_answer model flat number h c change checked limits at answered
