-- How clusters that go on from states are made.
use Rattle.std.proofs.Common.{◌≡◌, ◌∙◌, ◌⊎◌, ℕ, zero, suc, ◌+◌, ◌<◌, List, [], ◌∷◌, ◌++◌, Some, length, inl, inr, refl, sym, ap, subst, arith}
use Rattle.std.proofs.lemmas.List.{length_push}
use Rattle.std.proofs.lemmas.Option.{slice_get_within}
use Rattle.std.specs.Prelude.{Contains, Err, IfOk, Ok, Result, slice_get}
use Rattle.tdf_bind.specs.declared.model.Flat.{Flat}
use Rattle.tdf_bind_invariants.specs.Limits.{AreWithinLimits}
use Rattle.tdf_dynamic_first.specs.Laws.{ClustersAreWhole}
use Rattle.tdf_dynamic_plans.specs.Attributes.{clusters_of}
use Rattle.tdf_sim_refinement.specs.Below.{ClusterOf, HasLayoutOf, IsAtState, IsClusterOf, IsStateAt, KeepsLayouts, LayoutOf, StandsAtState}
use Rattle.tdf_graph.specs.Clusters.{greatest}
use Rattle.tdf_saved.specs.State.{ClusterStateOf}
use Rattle.tdf_saved.specs.declared.err.StateErr.{StateErr}
use Rattle.tdf_saved.specs.declared.err.StateErr.TheVariants.{Bad, Memory}
use Rattle.tdf_sim_resumed.specs.Made.{AllGoOnFromStates, AreStatesAt, GoesOnFromState}
use Rattle.tdf_sim_resumed.specs.machine.Making.{AreMadeUpTo, AreMadeWith}
use Rattle.tdf_streams.proofs.Api.{get_inside, is_wired, none_some, some_same}

-- ---- one of them

pub has_number : ClustersAreWhole → (flat : Flat) (place number : ℕ) → AreWithinLimits flat → place < greatest (clusters_of flat.tables) → number ≡ place + 1 → Contains (clusters_of flat.tables) number
has_number law flat place number limits below same = law flat.tables number (is_wired flat limits) (omega (arith, same)) (omega (arith, same, below))

pub goes_on : (flat : Flat) (number n : ℕ) (s : ClusterStateOf) (time : ℕ) (result : Result ClusterOf StateErr) → number ≡ n → IfOk result (λ c. IsClusterOf flat c) → IfOk result (λ c. IsAtState flat number s time c)
    → IfOk result (λ c. StandsAtState flat s c) → IfOk result (λ c. GoesOnFromState flat n s time c)
goes_on flat number n s time (Ok c) same of at stands = record { of = of; at = subst (λ k. IsAtState flat k s time c) same at; stands = stands }
goes_on flat number n s time (Err e) same of at stands = tt

pub is_bad : (flat : Flat) (number n : ℕ) (s : ClusterStateOf) (time : ℕ) (result : Result ClusterOf StateErr) → number ≡ n → (result ≡ Err Bad → IsStateAt flat number s time → ⊥)
    → result ≡ Err Bad → IsStateAt flat n s time → ⊥
is_bad flat number n s time result same bad is at = bad is (subst (λ k. IsStateAt flat k s time) (sym same) at)

-- ---- one more

pushed : {A : Type 0} (xs : List A) (y : A) (n : ℕ) (x : A) → slice_get (xs ++ y ∷ []) n ≡ Some x → (slice_get xs n ≡ Some x) ⊎ ((n ≡ length xs) × (y ≡ x))
pushed [] y zero x at = inr (refl, some_same y x at)
pushed [] y (suc n) x at = none_some x at
pushed (z ∷ zs) y zero x at = inl at
pushed (z ∷ zs) y (suc n) x at = elim (pushed zs y n x at) [ inl old ↦ inl old | inr new ↦ inr (ap suc new.0, new.1) ]

module _ (flat : Flat) (states : List ClusterStateOf) (time : ℕ) where
  made_none : AreMadeUpTo flat states time 0 []
  made_none = record { long = refl; each = λ m s c at there. none_some c there }

  made_more : (n : ℕ) (cs : List ClusterOf) (s : ClusterStateOf) (c : ClusterOf) → AreMadeUpTo flat states time n cs → slice_get states n ≡ Some s → GoesOnFromState flat (n + 1) s time c
      → AreMadeUpTo flat states time (n + 1) (cs ++ c ∷ [])
  made_more n cs s c made here goes = record {
    long = length_push cs c ∙ ap (λ k. k + 1) made.long;
    each = λ m x d at there. by_case m x d at (pushed cs c m d there);
  }
    where
      by_case : (m : ℕ) (x : ClusterStateOf) (d : ClusterOf) → slice_get states m ≡ Some x → (slice_get cs m ≡ Some d) ⊎ ((m ≡ length cs) × (c ≡ d)) → GoesOnFromState flat (m + 1) x time d
      by_case m x d at (inl old) = made.each m x d at old
      by_case m x d at (inr new) =
          let k : m ≡ n = new.0 ∙ made.long in
          let y : s ≡ x = some_same s x (sym here ∙ ap (slice_get states) (sym k) ∙ at) in
          subst (λ j. GoesOnFromState flat (j + 1) x time d) (sym k) (subst (GoesOnFromState flat (n + 1) x time) new.1 (subst (λ z. GoesOnFromState flat (n + 1) z time c) y goes))

  -- each takes what is laid out for it
  pub none_made : (cs : List ClusterOf) (layout : LayoutOf) → cs ≡ [] → ((m : ℕ) → HasLayoutOf flat m layout) → AreMadeWith flat states time 0 cs layout
  none_made cs layout none has = record { made = subst (AreMadeUpTo flat states time 0) (sym none) made_none; left = λ m above. has m }

  pub made_with : (n : ℕ) (cs : List ClusterOf) (old new : LayoutOf) (s : ClusterStateOf) (c : ClusterOf) → AreMadeWith flat states time n cs old → slice_get states n ≡ Some s
      → GoesOnFromState flat (n + 1) s time c → KeepsLayouts flat (n + 1) old new → AreMadeWith flat states time (n + 1) (cs ++ c ∷ []) new
  made_with n cs old new s c have here goes keeps = record {
    made = made_more n cs s c have.made here goes;
    left = λ m above. keeps m (λ e. absurd (omega (arith, above, e))) (have.left m (omega (arith, above)));
  }

  -- ---- all of them

  pub all_made : (cs : List ClusterOf) → AreMadeUpTo flat states time (length states) cs → AllGoOnFromStates flat states time cs
  all_made cs made = record { same = made.long; each = made.each }

  are_states : (cs : List ClusterOf) → AllGoOnFromStates flat states time cs → AreStatesAt flat states time
  are_states cs go n s at =
      let i = slice_get_within states n s at in let l = go.same in
      let c = get_inside cs n (omega (arith, i, l)) in
      let g = go.each n s c.0 at c.1 in
      record { table = c.0.table; plan = g.at.plan; is = g.at.is }

-- a refusal is one of two, and says as much of a cluster as of all
one_of : {A : Type 0} (why : StateErr) (result : Result A StateErr) → result ≡ Err why → (result ≡ Err Bad) ⊎ (result ≡ Err Memory)
one_of Bad result is = inl is
one_of Memory result is = inr is

-- where some cluster can't go on, none are made
pub refused : (flat : Flat) (states : List ClusterStateOf) (time : ℕ) {V : Type 0} (items_of : V → List ClusterOf) (result : Result V StateErr)
    → IfOk result (λ v. AllGoOnFromStates flat states time (items_of v)) → (AreStatesAt flat states time → ⊥) → (result ≡ Err Bad) ⊎ (result ≡ Err Memory)
refused flat states time items_of (Ok v) made none = absurd (none (are_states flat states time (items_of v) made))
refused flat states time items_of (Err why) made none = one_of why (Err why) refl

not_bad : {A : Type 0} (result : Result A StateErr) → result ≡ Err Memory → result ≡ Err Bad → ⊥
not_bad result is bad = absurd cc

pub same_why : {A B : Type 0} (why : StateErr) (one : Result A StateErr) (other : Result B StateErr) → one ≡ Err why → other ≡ Err why → one ≡ Err Bad → other ≡ Err Bad
same_why Bad one other is there bad = there
same_why Memory one other is there bad = absurd (not_bad one is bad)
