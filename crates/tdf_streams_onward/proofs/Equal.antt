-- Streams that go on are those of the whole run, counted from the start.
use Rattle.std.proofs.Common.{◌≡◌, ℕ, zero, suc, ◌+◌, Option, Some, None, option_map, List, [], ◌∷◌, ◌++◌, append_assoc, slice_get, slice_index, false, refl, ap, sym, ◌∙◌, subst, arith}
use Rattle.tdf_streams.specs.Grounds.{firings}
use Rattle.tdf_streams.specs.Net.{Net, Period, Run, Turn}
use Rattle.tdf_streams.specs.Streams.{known}
use Rattle.tdf_streams.specs.Stands.{AreActive, KeepsReads, Less, Play, Stands, run_of}
use Rattle.tdf_streams.proofs.Api.{known_more}
use Rattle.tdf_streams_onward.specs.Onward.{GoByKey, GoOnAs, IsEnough, IsRest, StartsFrom, acts_before, all_known, started, taken_before}
use Rattle.tdf_streams_onward.proofs.Back.{place_back, whole_resumed}
use Rattle.tdf_streams_onward.proofs.Resumed.{place_ahead, plain_state, resumed_whole, start_known}

-- two that are known where the other is are the same
pub both_ways : {A : Type 0} (o v : Option A) → ((a : A) → o ≡ Some a → v ≡ Some a) → ((a : A) → v ≡ Some a → o ≡ Some a) → o ≡ v
both_ways None None to back = refl
both_ways None (Some a) to back = back a refl
both_ways (Some a) v to back = sym (to a refl)

module _ {S V I K : Type 0} (key : I → K) (net : Net S V I) (old later : List (Period I)) (p q : Period I) (short long rest : ℕ → List V) (f : ℕ) (y : Play S V)
    (delay : ℕ → ℕ) (initial : ℕ → ℕ → V) (start : ℕ → S) (by : GoByKey key net) (stands : Stands net old p short f y) (active : AreActive net old p y)
    (keeps : KeepsReads short long) (left : IsRest key p y q) (from : StartsFrom net y delay initial start)
    (given : (m n : ℕ) → slice_get (rest m) n ≡ slice_get (long m) (acts_before old y m + n))
    (enough : IsEnough net (record { periods = old ++ p ∷ later; reads = long })) (enough_rest : IsEnough (started net delay initial start) (record { periods = q ∷ later; reads = rest })) where
  abbrev two : Net S V I
  two = started net delay initial start

  abbrev whole_run : Run V I
  whole_run = record { periods = old ++ p ∷ later; reads = long }

  abbrev rest_run : Run V I
  rest_run = record { periods = q ∷ later; reads = rest }

  to_whole : (m n : ℕ) (t : Turn S V) → all_known two rest_run m n ≡ Some t → all_known net whole_run m (acts_before old y m + n) ≡ Some t
  to_whole m n t h = enough (firings (q ∷ later) + f) m (acts_before old y m + n) t
      (resumed_whole key net old later p q short long rest f y delay initial start by stands active keeps left from (λ m n x at. sym (given m n) ∙ at) (firings (q ∷ later)) m n t h)

  to_rest : (m n : ℕ) (t : Turn S V) → all_known net whole_run m (acts_before old y m + n) ≡ Some t → all_known two rest_run m n ≡ Some t
  to_rest m n t h = enough_rest (firings (old ++ p ∷ later)) m n t
      (whole_resumed key net old later p q short long rest f y delay initial start by stands active keeps left from (λ m n x at. given m n ∙ at) (firings (old ++ p ∷ later)) m n t h)

  before_all : Less (known net (run_of old p short) f) (all_known net whole_run)
  before_all = record {
    keeps = λ m n t h. enough (0 + f) m n t
        ((known_more net (run_of old p short) whole_run (record { rest = later; periods = sym (append_assoc old (p ∷ []) later); reads = keeps }) f 0).keeps m n t h);
  }

  same_all : Less (all_known net whole_run) (all_known net whole_run)
  same_all = record { keeps = λ m n t h. h }

  pub go_on_as : GoOnAs net whole_run two rest_run (acts_before old y) (taken_before net old p y)
  go_on_as = record {
    turns = λ m n. both_ways _ _ (to_whole m n) (to_rest m n);
    places = λ e k inside. both_ways _ _
        (λ v. place_ahead key net old later p q short long rest f y delay initial start by stands active keeps left from (λ m n x at. sym (given m n) ∙ at)
        (all_known two rest_run) (all_known net whole_run) before_all to_whole e k v inside)
        (λ v. place_back key net old later p q short long rest f y delay initial start by stands active keeps left from (λ m n x at. given m n ∙ at)
        (all_known net whole_run) (all_known net whole_run) (all_known two rest_run) before_all same_all to_rest e k v inside);
  }

  -- the state that an actor has after n activations from the start on; at the start itself the bodies of the boundary have run
  -- where none of its activations in the period is done yet
  pub same_state : (m n : ℕ) → net.is_sampler m ≡ false → (n ≡ 0 → slice_index y.turns m ≡ 0 → old ≡ []) → plain_state two (all_known two rest_run) m n ≡ plain_state net (all_known net whole_run) m (acts_before old y m + n)
  unfolding plain_state
  same_state m zero plain first = let z : acts_before old y m ≡ acts_before old y m + 0 = omega arith in
      sym (subst (λ k. plain_state net (all_known net whole_run) m k ≡ Some (start m)) z
      (start_known key net old later p q short long rest f y delay initial start by stands active keeps left from (λ m n x at. sym (given m n) ∙ at)
      (all_known two rest_run) (all_known net whole_run) before_all to_whole m plain (first refl)))
  same_state m (suc n) plain first = let z : suc (acts_before old y m + n) ≡ acts_before old y m + suc n = omega arith in
      ap (option_map (λ (t : Turn S V). t.state)) (go_on_as.turns m n) ∙ ap (plain_state net (all_known net whole_run) m) z
