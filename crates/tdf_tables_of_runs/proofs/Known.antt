-- What is known of the streams of a net keeps a fact of samples, where its bodies, its initial samples and what its samplers
-- read do.
use Rattle.std.proofs.Common.{◌≡◌, ℕ, zero, suc, ◌+◌, ◌-◌, ◌*◌, Bool, true, false, if◌then◌else◌, nat_eq, nat_lt, List, [], ◌∷◌, Option, Some, None, option_map, refl, subst}
use Rattle.std.specs.List.{AllByRecursion, sum_by}
use Rattle.std.specs.Option.{option_and_then}
use Rattle.std.specs.Prelude.{slice_get, slice_index}
use Rattle.tdf_streams.specs.Net.{Net, Past, Period, Run, Turn, count, taken, written}
use Rattle.tdf_streams.specs.Streams.{Spot, find, input, inputs, known, output, place, places, sampled, state_before, turn, turn_at}

-- ---- what stands behind a `Some`

pub map_some : {A B : Type 0} (f : A → B) (o : Option A) (y : B) → option_map f o ≡ Some y → (x : A) × (o ≡ Some x) × (f x ≡ y)
map_some f None y e = absurd (cc)
map_some f (Some x) y e = (x, refl, cc)

pub then_some : {A B : Type 0} (f : A → Option B) (o : Option A) (y : B) → option_and_then f o ≡ Some y → (x : A) × (o ≡ Some x) × (f x ≡ Some y)
then_some f None y e = absurd (cc)
then_some f (Some x) y e = (x, refl, e)

some_is : {A : Type 0} (P : A → Type 0) (x y : A) → Some x ≡ Some y → P x → P y
some_is P x y e h = let same : x ≡ y = cc in subst P same h

module _ {S V I : Type 0} (P : V → Type 0) (net : Net S V I) (initial : (e k : ℕ) → P (net.initial e k))
    (acts : (m : ℕ) (p : Period I) (x : S) (xs : List (List V)) → AllByRecursion (AllByRecursion P) xs → (port k : ℕ) → P ((net.process m p x xs).outputs port k)) where
  -- each turn that is known has such outputs
  abbrev pub GivesAll : Past S V → Type 0
  GivesAll past = (m n : ℕ) (t : Turn S V) → past m n ≡ Some t → (port k : ℕ) → P (t.outputs port k)

  module _ (periods : List (Period I)) (past : Past S V) (gives : GivesAll past) where
    output_kept : (e : ℕ) (s : Spot I) (v : V) → output net past e s ≡ Some v → P v
    unfolding output
    output_kept e s v is =
        let t = map_some _ _ v is in
        subst P t.2 (gives _ _ t.0 t.1 _ _)

    pub place_kept : (e k : ℕ) (v : V) → place net periods past e k ≡ Some v → P v
    unfolding place
    place_kept e k v is = go (nat_lt k (net.delay e)) is
      where
        go : (b : Bool) → (if b then Some (net.initial e k) else option_and_then (output net past e) (find (written net e) [] periods (k - net.delay e))) ≡ Some v → P v
        go true at = some_is P (net.initial e k) v at (initial e k)
        go false at = let s = then_some (output net past e) (find (written net e) [] periods (k - net.delay e)) v at in output_kept e s.0 v s.2

    places_kept : (e k n : ℕ) (vs : List V) → places net periods past e k n ≡ Some vs → AllByRecursion P vs
    unfolding places
    places_kept e k zero vs is = some_is (AllByRecursion P) [] vs is tt
    places_kept e k (suc n) vs is =
        let first = then_some _ (place net periods past e k) vs is in
        let rest = map_some _ (places net periods past e (k + 1) n) vs first.2 in
        subst (AllByRecursion P) rest.2 (place_kept e k first.0 first.1, places_kept e (k + 1) n rest.0 rest.1)

    input_kept : (m : ℕ) (s : Spot I) (e : ℕ) (vs : List V) → input net periods past m s e ≡ Some vs → AllByRecursion P vs
    unfolding input
    input_kept m s e vs is = go (nat_eq (net.reader e) m) is
      where
        from : ℕ
        from = sum_by (taken net e) s.before + s.rest * slice_index s.period.reads e

        go : (b : Bool) → (if b then places net periods past e (sum_by (taken net e) s.before + s.rest * slice_index s.period.reads e) (slice_index s.period.reads e) else Some []) ≡ Some vs → AllByRecursion P vs
        go true at = places_kept e (sum_by (taken net e) s.before + s.rest * slice_index s.period.reads e) (slice_index s.period.reads e) vs at
        go false at = some_is (AllByRecursion P) [] vs at tt

    inputs_kept : (m : ℕ) (s : Spot I) (e n : ℕ) (vs : List (List V)) → inputs net periods past m s e n ≡ Some vs → AllByRecursion (AllByRecursion P) vs
    unfolding inputs
    inputs_kept m s e zero vs is = some_is (AllByRecursion (AllByRecursion P)) [] vs is tt
    inputs_kept m s e (suc n) vs is =
        let first = then_some _ (input net periods past m s e) vs is in
        let rest = map_some _ (inputs net periods past m s (e + 1) n) vs first.2 in
        subst (AllByRecursion (AllByRecursion P)) rest.2 (input_kept m s e first.0 first.1, inputs_kept m s (e + 1) n rest.0 rest.1)

  module _ (run : Run V I) (reads : (m : ℕ) → AllByRecursion P (run.reads m)) where
    read_kept : (xs : List V) (n : ℕ) (x : V) → AllByRecursion P xs → slice_get xs n ≡ Some x → P x
    read_kept [] n x h at = absurd (cc)
    read_kept (y ∷ ys) zero x h at = some_is P y x at h.0
    read_kept (y ∷ ys) (suc n) x h at = read_kept ys n x h.1 at

    turn_kept : (past : Past S V) → GivesAll past → (m n : ℕ) (s : Spot I) (t : Turn S V) → turn_at net run past m n s ≡ Some t → (port k : ℕ) → P (t.outputs port k)
    unfolding turn_at
    turn_kept past gives m n s t is port k = go (net.is_sampler m) is
      where
        go : (b : Bool) → (if b then option_map (sampled net m) (slice_get (run.reads m) n) else option_and_then (λ (x : S). option_map (net.process m s.period x) (inputs net run.periods past m s 0 net.edges))
            (state_before net past m s n)) ≡ Some t → P (t.outputs port k)
        go true at = let x = map_some (sampled net m) (slice_get (run.reads m) n) t at in
            subst (λ (u : Turn S V). P (u.outputs port k)) x.2 (read_kept (run.reads m) n x.0 (reads m) x.1)
        go false at = let x = then_some _ (state_before net past m s n) t at in
            let xs = map_some (net.process m s.period x.0) (inputs net run.periods past m s 0 net.edges) t x.2 in
            subst (λ (u : Turn S V). P (u.outputs port k)) xs.2 (acts m s.period x.0 xs.0 (inputs_kept run.periods past gives m s 0 net.edges xs.0 xs.1) port k)

    pub known_kept : (f : ℕ) → GivesAll (known net run f)
    unfolding known turn
    known_kept zero m n t is port k = absurd (cc)
    known_kept (suc f) m n t is port k =
        let s = then_some (turn_at net run (known net run f) m n) (find (count m) [] run.periods n) t is in
        turn_kept (known net run f) (known_kept f) m n s.0 t s.2 port k
