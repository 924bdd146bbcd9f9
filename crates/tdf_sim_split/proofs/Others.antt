-- What starts of streams say of modules of other clusters.
use Rattle.std.proofs.Common.{◌≡◌, ◌≢◌, ◌∙◌, ℕ, suc, ℤ, ◌+◌, ◌<◌, ◌≤◌, Bool, true, false, ◌||◌, not, nat_eq, if◌then◌else◌, List, [], ◌∷◌, Some, None, length, map, slice_get, slice_index_or, refl, sym, ap, inl, inr, arith}
use Rattle.std.proofs.lemmas.Bool.{cases_lt, eq-eqb, ne_eqb}
use Rattle.std.proofs.lemmas.List.{get_or_past}
use Rattle.std.proofs.lemmas.List.FromFn.{length-map-range_with_len}
use Rattle.std.proofs.lemmas.Option.{get_or_from_slice_get}
use Rattle.std.specs.List.{range_with_len}
use Rattle.std.specs.Prelude.{slice_index, unwrap_or}
use Rattle.tdf_bind.specs.declared.model.Flat.{Flat}
use Rattle.tdf_bind_invariants.specs.Limits.{AreWithinLimits}
use Rattle.tdf_dynamic_plans.specs.Attributes.{AttrsOf, IsOfCluster, attrs_at, clusters_of, rates_in}
use Rattle.tdf_exec_layout.proofs.Api.{module_kind}
use Rattle.tdf_lang_tree.specs.Pure.{PureTree}
use Rattle.tdf_saved.specs.State.{ClusterStateOf, ModuleStateOf}
use Rattle.tdf_sim_resumed.specs.Restored.{kept_by_state, list_for, state_start}
use Rattle.tdf_sim_split.specs.Snapshots.{SaysOthers}
use Rattle.tdf_streams.proofs.Api.{get_made_at}
use Rattle.tdf_streams.specs.Bodies.{initialized}
use Rattle.tdf_streams.specs.Cluster.{Start, is_outside_cluster, is_sampler_kind, text_start}
use Rattle.tdf_streams.specs.Places.{actor_kind}

module _ {X : Type 0} where
  pub made_or : (f : ℕ → X) (d : X) (n m : ℕ) → m < n → slice_index_or (map f (range_with_len 0 n)) m d ≡ f m
  made_or f d n m inside =
      let z : 0 + m ≡ m = omega arith in
      get_or_from_slice_get (map f (range_with_len 0 n)) m (f (0 + m)) d (get_made_at f 0 n m inside) ∙ ap f z

  made_past : (f : ℕ → X) (d : X) (n m : ℕ) → n ≤ m → slice_index_or (map f (range_with_len 0 n)) m d ≡ d
  made_past f d n m past = let l = length-map-range_with_len f 0 n in get_or_past (map f (range_with_len 0 n)) m d (omega (arith, past, l))

  -- what isn't listed
  none_listed : (table : List AttrsOf) (lists : List (List X)) (m : ℕ) → ((i : ℕ) (a : AttrsOf) → slice_get table i ≡ Some a → a.number ≢ m) → list_for (map (λ (a : AttrsOf). a.number) table) lists m ≡ None
  none_listed [] lists m apart = refl
  none_listed (x ∷ table) [] m apart = refl
  none_listed (x ∷ table) (l ∷ lists) m apart =
      ap (λ b. if b then Some l else list_for (map (λ (a : AttrsOf). a.number) table) lists m) (ne_eqb x.number m (apart 0 x refl)) ∙ none_listed table lists m (λ i a at. apart (suc i) a at)

no_attrs : (table : List AttrsOf) (m : ℕ) → ((i : ℕ) (a : AttrsOf) → slice_get table i ≡ Some a → a.number ≢ m) → attrs_at table m ≡ None
no_attrs [] m apart = refl
no_attrs (x ∷ table) m apart = ap (λ b. if b then Some x else attrs_at table m) (ne_eqb x.number m (apart 0 x refl)) ∙ no_attrs table m (λ i a at. apart (suc i) a at)

on_off : (b : Bool) → b ≡ true → not b ≡ true → ⊥
on_off true on off = absurd cc
on_off false on off = absurd cc

module _ (model : PureTree) (flat : Flat) (limits : AreWithinLimits flat) (number : ℕ) (table : List AttrsOf) (own : (i : ℕ) (a : AttrsOf) → slice_get table i ≡ Some a → IsOfCluster flat.tables number a) where
  -- a module that is outside is of another cluster, and has no row
  apart_from : (m : ℕ) → m < length flat.tables.modules → is_outside_cluster flat.tables number m ≡ true → (i : ℕ) (a : AttrsOf) → slice_get table i ≡ Some a → a.number ≢ m
  apart_from m inside outside i a at same =
      let plain : is_sampler_kind (actor_kind flat.tables m) ≡ false = ap is_sampler_kind (module_kind (length flat.tables.modules) flat.tables limits.actors m inside) in
      let away : not (nat_eq (slice_index (clusters_of flat.tables) m) number) ≡ true = sym (ap (λ b. b || not (nat_eq (slice_index (clusters_of flat.tables) m) number)) plain) ∙ outside in
      on_off (nat_eq (slice_index (clusters_of flat.tables) m) number) (eq-eqb (slice_index (clusters_of flat.tables) m) number (ap (slice_index (clusters_of flat.tables)) (sym same) ∙ (own i a at).inside)) away

  -- where it says of each module without rates what the text does, it says so of others
  says_by : (f : ℕ → List ℤ) → ((m : ℕ) → m < length flat.tables.modules → is_outside_cluster flat.tables number m ≡ true → f m ≡ initialized model flat m []) → (start : Start)
      → start.cells ≡ map f (range_with_len 0 (length flat.tables.modules)) → SaysOthers model flat number start
  says_by f is start cells = record {
    same = λ m outside. ap (λ l. slice_index_or l m []) cells ∙ (elim (cases_lt m (length flat.tables.modules)) [
      | inl inside ↦ made_or f [] (length flat.tables.modules) m inside ∙ is m inside outside ∙ sym (made_or (λ k. initialized model flat k []) [] (length flat.tables.modules) m inside)
      | inr past ↦ made_past f [] (length flat.tables.modules) m past ∙ sym (made_past (λ k. initialized model flat k []) [] (length flat.tables.modules) m past)
    ]);
  }

  -- so does the start of the text
  pub text_others : SaysOthers model flat number (text_start model flat number table)
  text_others = says_by (λ m. initialized model flat m (rates_in (attrs_at table m)))
      (λ m inside outside. ap (λ o. initialized model flat m (rates_in o)) (no_attrs table m (apart_from m inside outside))) (text_start model flat number table) refl

  -- and that of a state
  pub state_others : (s : ClusterStateOf) → SaysOthers model flat number (state_start model flat number table s)
  state_others s = says_by (kept_by_state model flat table s)
      (λ m inside outside. (
      ap (λ o. unwrap_or o (initialized model flat m (rates_in (attrs_at table m)))) (none_listed table (map (λ (x : ModuleStateOf). x.cells) s.modules) m (apart_from m inside outside))
      ∙ ap (λ o. initialized model flat m (rates_in o)) (no_attrs table m (apart_from m inside outside))))
      (state_start model flat number table s) refl
