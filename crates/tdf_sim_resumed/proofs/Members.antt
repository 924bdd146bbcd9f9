-- The clusters of a resumed world, one by one.
use Rattle.std.proofs.Common.{◌≡◌, ◌∙◌, ℕ, zero, suc, ◌+◌, List, [], ◌∷◌, Some, map, slice_get, refl, sym, ap, subst, arith}
use Rattle.std.proofs.lemmas.Option.{get_or_from_slice_get, slice_get_within}
use Rattle.std.specs.List.{enumerate_from, zip}
use Rattle.tdf_bind.specs.declared.model.Flat.{Flat}
use Rattle.tdf_dynamic_first.specs.declared.first.First.{First}
use Rattle.tdf_lang_tree.specs.Pure.{PureTree}
use Rattle.tdf_saved.specs.State.{ClusterStateOf, SnapshotOf}
use Rattle.tdf_sim_history.specs.World.{Change, ClusterAt}
use Rattle.tdf_sim_resumed.specs.Resuming.{resumed_cluster, resumed_clusters}
use Rattle.tdf_streams.proofs.Api.{some_same}
use Rattle.std.specs.Prelude.{All, slice_index_or}

-- what holds of all holds of each
pub each_at : {X : Type 0} (P : X → Type 0) (xs : List X) (n : ℕ) (x : X) → All P xs → slice_get xs n ≡ Some x → P x
each_at P xs n x all is = subst P (get_or_from_slice_get xs n x x is) (all n x (slice_get_within xs n x is))

-- an item of two lists, gone through together
pub record BothAt {A B : Type 0} (xs : List A) (ys : List B) (n : ℕ) : Type 0 where
  pub one : A
  pub other : B
  pub one_at : slice_get xs n ≡ Some one
  pub other_at : slice_get ys n ≡ Some other

module _ {A B C : Type 0} (f : ℕ × (A × B) → C) where
  pub both_at : (k : ℕ) (xs : List A) (ys : List B) (n : ℕ) (c : C) → slice_get (map f (enumerate_from k (zip xs ys))) n ≡ Some c
      → (b : BothAt xs ys n) × (c ≡ f (k + n, (b.one, b.other)))
  both_at k [] ys n c at = absurd cc
  both_at k (x ∷ xs) [] n c at = absurd cc
  both_at k (x ∷ xs) (y ∷ ys) zero c at =
      let z : k ≡ k + 0 = omega arith in
      (record { one = x; other = y; one_at = refl; other_at = refl }, sym (some_same _ c at) ∙ ap (λ j. f (j, (x, y))) z)
  both_at k (x ∷ xs) (y ∷ ys) (suc n) c at =
      let r = both_at (k + 1) xs ys n c at in
      let z : k + 1 + n ≡ k + suc n = omega arith in
      (record { one = r.0.one; other = r.0.other; one_at = r.0.one_at; other_at = r.0.other_at }, r.1 ∙ ap (λ j. f (j, (r.0.one, r.0.other))) z)

-- a cluster of it, by the plan and the state of its number
pub record ResumedAt (model : PureTree) (flat : Flat) (firsts : List First) (s : SnapshotOf) (ahead : List (List Change)) (n : ℕ) (c : ClusterAt) : Type 0 where
  pub first : First
  pub state : ClusterStateOf
  pub first_at : slice_get firsts n ≡ Some first
  pub state_at : slice_get s.clusters n ≡ Some state
  pub is : c ≡ resumed_cluster model flat (n + 1) s.time first state (slice_index_or ahead n [])

pub resumed_at : (model : PureTree) (flat : Flat) (firsts : List First) (s : SnapshotOf) (ahead : List (List Change)) (n : ℕ) (c : ClusterAt)
    → slice_get (resumed_clusters model flat firsts s ahead) n ≡ Some c → ResumedAt model flat firsts s ahead n c
resumed_at model flat firsts s ahead n c at =
    let r = both_at (λ (x : ℕ × (First × ClusterStateOf)). resumed_cluster model flat (x.0 + 1) s.time x.1.0 x.1.1 (slice_index_or ahead x.0 [])) 0 firsts s.clusters n c at in
    let z : 0 + n ≡ n = omega arith in
    record {
      first = r.0.one;
      state = r.0.other;
      first_at = r.0.one_at;
      state_at = r.0.other_at;
      is = r.1 ∙ ap (λ k. resumed_cluster model flat (k + 1) s.time r.0.one r.0.other (slice_index_or ahead k [])) z;
    }
