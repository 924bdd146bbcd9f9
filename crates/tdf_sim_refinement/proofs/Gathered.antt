-- The links of the samplers of all clusters, one actor after the other.
use Rattle.std.proofs.Common.{◌≡◌, ◌∙◌, ◌≢◌, ◌⊎◌, ℕ, ◌+◌, ◌<◌, ◌≤◌, true, false, Some, List, [], ◌∷◌, ◌++◌, get_or, length, nat_eq, nat_le, nat_lt, ◌&&◌, refl, sym, subst, inl, inr, arith, slice_get, set}
use Rattle.std.proofs.lemmas.Bool.{cases_eq, ne_eqb}
use Rattle.std.proofs.lemmas.Bool.Decides.{nat_tests}
use Rattle.std.proofs.lemmas.List.{length-append, length-set}
use Rattle.std.proofs.lemmas.Option.{slice_get_read, slice_get_within}
use Rattle.tdf_bind_tables.specs.FlatTables.{FlatTablesOf}
use Rattle.tdf_bind_tables.specs.declared.actors.ActorRow.{ActorRow}
use Rattle.tdf_convert.specs.declared.links.Links.{Links}
use Rattle.tdf_graph.specs.declared.actors.Actor.{Actor}
use Rattle.tdf_graph.specs.declared.actors.Actor.TheVariants as actor
use Rattle.tdf_sim_refinement.proofs.Found.{none_yet, passed_over, pushed, sampler_links_are}
use Rattle.tdf_sim_refinement.proofs.Passing.{get_set_other, set_is}
use Rattle.tdf_sim_refinement.proofs.Rows.{false_true}
use Rattle.tdf_sim_refinement.specs.Linked.{AreSamplerLinks, is_own_sampler, is_sampler}
use Rattle.tdf_sim_refinement.specs.declared.linking.Wanted.TheVariants.{SamplersOf}
use Rattle.tdf_sim_refinement.specs.machine.Linking.{AreAllLinkedUpTo, AreLinkedUpTo, AreWithoutLinks, is_some_sampler}

-- no cluster, and one more without links
pub without_none : (links : List Links) → links ≡ [] → AreWithoutLinks 0 links
without_none links none = subst (AreWithoutLinks 0) (sym none) (record { long = refl; each = λ m l at. absurd cc })

pub without_more : (n : ℕ) (links : List Links) (own : Links) → AreWithoutLinks n links → own.list.items ≡ [] → AreWithoutLinks (n + 1) (links ++ own ∷ [])
without_more n links own are none = record {
  long = let a = length-append links (own ∷ []) in let l = are.long in omega (arith, a, l);
  each = λ m l at. each m l (pushed links own m l at);
}
  where
    each : (m : ℕ) (l : Links) → (slice_get links m ≡ Some l) ⊎ ((m ≡ length links) × (own ≡ l)) → l.list.items ≡ []
    each m l (inl old) = are.each m l old
    each m l (inr last) = subst (λ (x : Links). x.list.items ≡ []) last.1 none

-- before the first actor
pub none_linked_yet : (tables : FlatTablesOf) (count : ℕ) (links : List Links) → AreWithoutLinks count links → AreAllLinkedUpTo tables count 0 links
none_linked_yet tables count links are = record {
  long = are.long;
  each = λ m l at. subst (AreLinkedUpTo tables (SamplersOf (m + 1)) 0) (sym (are.each m l at)) (none_yet tables (SamplersOf (m + 1)));
}

-- what is no sampler of these clusters is none of one of them
within_count : (cluster m count : ℕ) → (nat_lt 0 cluster && nat_le cluster count) ≡ false → m < count → cluster ≡ m + 1 → ⊥
within_count cluster m count none inside is = grind (arith, nat_tests, none, inside, is)

not_own : (kind : Actor) (cluster m count : ℕ) → (is_sampler kind && nat_lt 0 cluster && nat_le cluster count) ≡ false → m < count → (is_sampler kind && nat_eq cluster (m + 1)) ≡ false
not_own actor.Module cluster m count none inside = refl
not_own actor.Sampler cluster m count none inside = ne_eqb cluster (m + 1) (within_count cluster m count none inside)
not_own actor.Sink cluster m count none inside = refl

-- nor is it of another than its own
not_other : (kind : Actor) (cluster m : ℕ) → cluster ≢ m + 1 → (is_sampler kind && nat_eq cluster (m + 1)) ≡ false
not_other actor.Module cluster m apart = refl
not_other actor.Sampler cluster m apart = ne_eqb cluster (m + 1) apart
not_other actor.Sink cluster m apart = refl

-- where the links of its cluster stand
pub has_place : (row : ActorRow) (count : ℕ) → is_some_sampler count row ≡ true → (0 < row.cluster) × (row.cluster ≤ count)
has_place row count is = go row.kind is
  where
    go : (kind : Actor) → (is_sampler kind && nat_lt 0 row.cluster && nat_le row.cluster count) ≡ true → (0 < row.cluster) × (row.cluster ≤ count)
    go actor.Module h = false_true h
    go actor.Sampler h = (grind (arith, nat_tests, h), grind (arith, nat_tests, h))
    go actor.Sink h = false_true h

module _ (tables : FlatTablesOf) (count n : ℕ) (row : ActorRow) (at : slice_get tables.actors n ≡ Some row) (links : List Links) (are : AreAllLinkedUpTo tables count n links) where
  -- the links of a cluster that the actor is no sampler of stay
  stays : (m : ℕ) (l : Links) → slice_get links m ≡ Some l → is_own_sampler (m + 1) row ≡ false → AreLinkedUpTo tables (SamplersOf (m + 1)) (n + 1) l.list.items
  stays m l here none = passed_over tables (SamplersOf (m + 1)) n row at l.list.items (are.each m l here) none

  -- an actor that is a sampler of none of them
  pub none_linked : is_some_sampler count row ≡ false → AreAllLinkedUpTo tables count (n + 1) links
  none_linked none = record {
    long = are.long;
    each = λ m l here. (let w = slice_get_within links m l here in let e = are.long in stays m l here (not_own row.kind row.cluster m count none (omega (arith, w, e))));
  }

  -- the links of the cluster of a sampler
  pub linked_here : (place : ℕ) (l : Links) → place + 1 ≡ row.cluster → place < length links → l ≡ get_or links place l → AreLinkedUpTo tables (SamplersOf row.cluster) n l.list.items
  linked_here place l is inside read =
      subst (λ k. AreLinkedUpTo tables (SamplersOf k) n l.list.items) is (are.each place l (slice_get_read links (length links) place l refl inside read))

  -- a sampler whose link came to those of its cluster
  pub one_linked : (place : ℕ) (new : Links) → place + 1 ≡ row.cluster → place < count → AreLinkedUpTo tables (SamplersOf row.cluster) (n + 1) new.list.items
      → AreAllLinkedUpTo tables count (n + 1) (set links place new)
  one_linked place new is inside linked = record {
    long = length-set links place new ∙ are.long;
    each = λ m l here. each m l (cases_eq m place) here;
  }
    where
      each : (m : ℕ) (l : Links) → (m ≡ place) ⊎ (m ≢ place) → slice_get (set links place new) m ≡ Some l → AreLinkedUpTo tables (SamplersOf (m + 1)) (n + 1) l.list.items
      each m l (inl same) here =
          let is_new : new ≡ l = set_is links place m new l (let e = are.long in omega (arith, inside, e)) same here in
          let number : row.cluster ≡ m + 1 = omega (arith, is, same) in
          subst (λ (x : Links). AreLinkedUpTo tables (SamplersOf (m + 1)) (n + 1) x.list.items) is_new (subst (λ k. AreLinkedUpTo tables (SamplersOf k) (n + 1) new.list.items) number linked)
      each m l (inr apart) here = stays m l (sym (get_set_other links place m new apart) ∙ here) (not_other row.kind row.cluster m (λ e. apart (omega (arith, is, e))))

-- those of all samplers of these clusters
pub all_linked_are : (tables : FlatTablesOf) (count : ℕ) (links : List Links) → AreAllLinkedUpTo tables count (length tables.actors) links
    → (m : ℕ) (l : Links) → slice_get links m ≡ Some l → AreSamplerLinks tables (m + 1) l.list.items
all_linked_are tables count links are m l at = sampler_links_are tables (m + 1) l.list.items (are.each m l at)
