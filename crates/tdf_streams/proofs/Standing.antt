-- A cluster at its start stands, and its actors are active where a period ends.
use Rattle.std.proofs.Common.{◌≡◌, ◌∙◌, ℕ, ◌≤◌, List, [], ◌∷◌, length, slice_get, slice_index, slice_index_or, refl, ap, sym, arith}
use Rattle.std.proofs.lemmas.Bool.{eqb-true}
use Rattle.std.proofs.lemmas.List.{length-map}
use Rattle.std.proofs.lemmas.Option.{get_or_from_slice_get, slice_get_within}
use Rattle.tdf_bind_tables.specs.Actors.{cluster_of}
use Rattle.tdf_dynamic_plans.specs.Attributes.{clusters_of}
use Rattle.tdf_fixed.specs.declared.raw.Raw.{Raw}
use Rattle.tdf_bind_invariants.specs.Below.{Flat}
use Rattle.tdf_streams.proofs.FlowStarts.{start_stands}
use Rattle.tdf_streams.specs.Stands.{AreActive, Stands}
use Rattle.tdf_streams.proofs.Rows.{not_true, or_right}
use Rattle.tdf_streams.specs.Cluster.{Start, cluster_net, is_sampler_kind, zero_sample}
use Rattle.tdf_streams.specs.Laws.{ClusterPlay}
use Rattle.tdf_streams.specs.Periods.{IsTimedRecord, PeriodRecord}
use Rattle.tdf_streams.specs.Places.{actor_kind}
use Rattle.tdf_streams.specs.Starts.{ArePast}
use Rattle.tdf_lang_tree.specs.Pure.{PureTree}

module _ (model : PureTree) (flat : Flat) (cluster : ℕ) (start : Start) where
  -- with the lists and the states of the start, and nothing done since
  pub cluster_stands : (p : PeriodRecord) (reads : ℕ → List Raw) (y : ClusterPlay) → ((m : ℕ) → slice_index y.turns m ≡ 0) → y.states ≡ start.cells → y.lists ≡ start.lists
      → Stands (cluster_net model flat cluster start) [] p reads 0 y
  cluster_stands p reads y turns states lists = start_stands (cluster_net model flat cluster start) p reads y (record {
    turns = turns;
    states = λ m x at plain. sym (get_or_from_slice_get start.cells m x [] (ap (λ l. slice_get l m) (sym states) ∙ at));
    long = λ e inside. ap (λ l. length (slice_index_or l e [])) lists;
    items = λ e j x inside at. sym (get_or_from_slice_get (slice_index_or start.lists e []) j x zero_sample (ap (λ (l : List (List Raw)). slice_get (slice_index_or l e []) j) (sym lists) ∙ at));
  })

  -- each actor with a state is activated in a period that follows another
  pub are_active : (old : List PeriodRecord) (p : PeriodRecord) (y : ClusterPlay) → ArePast flat cluster start old p → IsTimedRecord flat cluster p → length y.states ≤ length flat.tables.actors
      → AreActive (cluster_net model flat cluster start) old p y
  are_active [] p y past timed few m x at plain none = refl
  are_active (first ∷ later) p y past timed few m x at plain none = absurd
      (let inside = eqb-true (slice_index (clusters_of flat.tables) m) cluster (not_true _ (or_right (is_sampler_kind (actor_kind flat.tables m)) _ plain)) in
      let long = sym (length-map flat.tables.actors cluster_of) in let there = slice_get_within y.states m x at in
      let some = timed.counts_are.positive m (omega (arith, there, few, long)) inside in
      let whole : slice_index p.counts m ≡ slice_index p.info.counts m = ap (λ l. slice_index l m) past.1 in omega (arith, some, whole, none))
