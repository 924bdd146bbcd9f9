-- All clusters in progress at their starts are what the history begins with.
use Rattle.std.proofs.Common.{◌≡◌, ◌∙◌, ℕ, zero, suc, ◌+◌, List, [], ◌∷◌, Some, length, map, replicate, sym, ap, subst, refl, arith}
use Rattle.std.proofs.lemmas.List.{length-map}
use Rattle.std.proofs.lemmas.List.FromFn.{length-enumerate_from}
use Rattle.std.specs.List.{enumerate_from}
use Rattle.std.specs.Prelude.{slice_get}
use Rattle.tdf_exec.specs.Below.{First}
use Rattle.tdf_bind.specs.declared.model.Flat.{Flat}
use Rattle.tdf_streams.proofs.Api.{none_some, some_same}
use Rattle.tdf_sim_history.specs.Start.{first_cluster}
use Rattle.tdf_sim_history.specs.World.{ClusterAt}
use Rattle.tdf_sim_refinement.proofs.Beginning.{start_at}
use Rattle.tdf_sim_refinement.specs.At.{IsAt}
use Rattle.tdf_sim_refinement.specs.Begun.{AllStartsAreAt}
use Rattle.tdf_lang_tree.specs.Pure.{PureTree}

-- cluster n of the history's start is that of first n
first_at : (model : PureTree) (flat : Flat) (k : ℕ) (firsts : List First) (n : ℕ) (h : ClusterAt) → slice_get (map (λ (first : ℕ × First). first_cluster model flat (first.0 + 1) first.1 []) (enumerate_from k firsts)) n ≡ Some h
    → (first : First) × (slice_get firsts n ≡ Some first) × (first_cluster model flat (k + n + 1) first [] ≡ h)
first_at model flat k [] n h at = none_some h at
first_at model flat k (x ∷ xs) zero h at = let z : k + 0 + 1 ≡ k + 1 = omega arith in (x, refl, ap (λ j. first_cluster model flat j x []) z ∙ some_same _ _ at)
first_at model flat k (x ∷ xs) (suc n) h at = let r = first_at model flat (k + 1) xs n h at in let z : k + suc n + 1 ≡ k + 1 + n + 1 = omega arith in (r.0, r.1, ap (λ j. first_cluster model flat j r.0 []) z ∙ r.2)

none_since : (m n s : ℕ) → slice_get (replicate m 0) n ≡ Some s → s ≡ 0
none_since zero n s at = none_some s at
none_since (suc m) zero s at = sym (some_same 0 s at)
none_since (suc m) (suc n) s at = none_since m n s at

pub all_starts_are_at : AllStartsAreAt
all_starts_are_at model flat firsts cs is checked limits begun = record {
  same = length-map (enumerate_from 0 firsts) (λ (first : ℕ × First). first_cluster model flat (first.0 + 1) first.1 []) ∙ length-enumerate_from 0 firsts ∙ begun.same;
  each = λ n h c at there. (
      let f = first_at model flat 0 firsts n h at in
      let z : 0 + n + 1 ≡ n + 1 = omega arith in
      let e = ap (λ j. first_cluster model flat j f.0 []) (sym z) ∙ f.2 in
      subst (λ (g : ClusterAt). IsAt model flat (n + 1) g c) e (start_at model flat (n + 1) f.0 c is checked limits (begun.each n f.0 c f.1 there)));
  begun = λ n s h at since. (let f = first_at model flat 0 firsts n h at in none_since (length cs) n s since ∙ ap (λ (g : ClusterAt). g.since) f.2);
}
