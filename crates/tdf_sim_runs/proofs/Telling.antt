-- The states of clusters, one after the other.
use Rattle.std.proofs.Common.{◌≡◌, ◌∙◌, ◌+◌, ◌-◌, ℕ, List, [], ◌∷◌, ◌++◌, Some, length, length-append, slice_get, sym, ap, subst, inl, inr, arith}
use Rattle.std.proofs.lemmas.Bool.{cases_lt}
use Rattle.std.proofs.lemmas.Option.{slice_get_within}
use Rattle.tdf_sim_instants.specs.Below.{ClusterOf, cluster_state}
use Rattle.tdf_saved.specs.State.{ClusterStateOf}
use Rattle.tdf_sim_shown.specs.Below.{AreToldStates}
use Rattle.tdf_streams.proofs.Api.{get_high, get_low, some_same}

-- the states of the first n clusters
pub record AreFirstStates (n : ℕ) (since : List ℕ) (clusters : List ClusterOf) (states : List ClusterStateOf) : Type 0 where
  pub long : length states ≡ n
  pub each : (k : ℕ) (c : ClusterOf) (t : ℕ) (s : ClusterStateOf) → slice_get clusters k ≡ Some c → slice_get since k ≡ Some t → slice_get states k ≡ Some s → s ≡ cluster_state c t

pub none_told : (since : List ℕ) (clusters : List ClusterOf) (states : List ClusterStateOf) → states ≡ [] → AreFirstStates 0 since clusters states
none_told since clusters states none = record {
  long = ap length none;
  each = λ k c t s c_at t_at s_at. absurd (let bad : slice_get [] k ≡ Some s = ap (λ (l : List ClusterStateOf). slice_get l k) (sym none) ∙ s_at in cc);
}

module _ (n : ℕ) (since : List ℕ) (clusters : List ClusterOf) (states : List ClusterStateOf) (told : AreFirstStates n since clusters states) (c : ClusterOf) (t : ℕ) (c_at : slice_get clusters n ≡ Some c) (t_at : slice_get since n ≡ Some t) where
  pub one_told : (more : List ClusterStateOf) → more ≡ states ++ cluster_state c t ∷ [] → AreFirstStates (n + 1) since clusters more
  one_told more is = subst (AreFirstStates (n + 1) since clusters) (sym is) (record {
    long = (let l = length-append states (cluster_state c t ∷ []) in let m = told.long in omega (arith, l, m));
    each = λ k d u s d_at u_at s_at. elim (cases_lt k (length states)) [
      | inl low ↦ told.each k d u s d_at u_at (sym (get_low states (cluster_state c t ∷ []) k low) ∙ s_at)
      | inr high ↦ (
          let within = slice_get_within (states ++ cluster_state c t ∷ []) k s s_at in
          let l = length-append states (cluster_state c t ∷ []) in
          let m = told.long in
          let here : k ≡ n = omega (arith, high, within, l, m) in
          let zero_at : k - length states ≡ 0 = omega (arith, high, within, l) in
          let same : cluster_state c t ≡ s = some_same (cluster_state c t) s (sym (get_high states (cluster_state c t ∷ []) k high ∙ ap (slice_get (cluster_state c t ∷ [])) zero_at) ∙ s_at) in
          let cluster : c ≡ d = some_same c d (sym c_at ∙ ap (slice_get clusters) (sym here) ∙ d_at) in
          let begun : t ≡ u = some_same t u (sym t_at ∙ ap (slice_get since) (sym here) ∙ u_at) in
          sym same ∙ (λ i. cluster_state (cluster i) (begun i)))
    ];
  })

pub all_told : (since : List ℕ) (clusters : List ClusterOf) (states : List ClusterStateOf) → AreFirstStates (length clusters) since clusters states → AreToldStates since clusters states
all_told since clusters states told = record { same = told.long; each = told.each }
