-- What is known with further values of samplers is known without them, where those that it follows were given.
use Rattle.std.proofs.Common.{◌≡◌, ℕ, zero, suc, ◌+◌, ◌-◌, ◌*◌, ◌/◌, ◌<◌, ◌≤◌, Bool, true, false, Option, Some, None, option_map, if◌then◌else◌, nat_eq, nat_lt, List, [], ◌∷◌, ◌++◌, length, length-append, map, slice_get, slice_index, refl, ap, sym, ◌∙◌, subst, inl, inr, arith}
use Rattle.std.specs.Option.{option_and_then}
use Rattle.std.specs.List.{range_with_len, sum_by}
use Rattle.std.proofs.lemmas.Bool.{cases_lt, eqb-true, lt-ltb}
use Rattle.std.proofs.lemmas.List.FromFn.{length-map-range_with_len}
use Rattle.std.proofs.lemmas.Option.{slice_get_within}
use Rattle.tdf_streams.specs.Net.{Net, Past, Period, Turn, count, taken, written}
use Rattle.tdf_streams.specs.Streams.{Spot, find, input, inputs, known, output, place, places, sampled, state_before, turn, turn_at}
use Rattle.tdf_streams.specs.Stands.{KeepsReads}
use Rattle.tdf_streams.specs.Fed.{Follows, IsFed, IsRead, own, sample}
use Rattle.tdf_streams.specs.Grounds.{AreGiven, AreSound, firings}
use Rattle.tdf_streams.proofs.Lists.{get_inside, get_low}
use Rattle.tdf_streams.proofs.Steps.{map_more, none_some}
use Rattle.tdf_streams.proofs.Values.{all_are_known}

and_then_where : {A B : Type 0} (f g : A → Option B) (o o2 : Option A) (r : B) → ((a : A) → o ≡ Some a → o2 ≡ Some a)
    → ((a : A) → o ≡ Some a → f a ≡ Some r → g a ≡ Some r) → option_and_then f o ≡ Some r → option_and_then g o2 ≡ Some r
and_then_where f g None o2 r keeps more h = none_some r h
and_then_where f g (Some a) o2 r keeps more h = ap (option_and_then g) (keeps a refl) ∙ more a refl h

not_early : (k d : ℕ) → nat_lt k d ≡ false → d ≤ k
not_early k d late = elim (cases_lt k d) [ inl early ↦ absurd (no_true (sym (lt-ltb k d early) ∙ late)) | inr h ↦ h ]
  where
    no_true : true ≡ false → ⊥
    no_true h = subst (λ b. elim b as (λ _. Type 0) [ true ↦ Unit {0} | false ↦ ⊥ ]) h tt

module _ {S V I : Type 0} (net : Net S V I) (ps : List (Period I)) (past less : Past S V) where
  -- what is known of an activation in the one is known in the other
  Kept : (l b : ℕ) → Type 0
  Kept l b = (t : Turn S V) → past l b ≡ Some t → less l b ≡ Some t

  PlaceKept : (e k : ℕ) → Type 0
  PlaceKept e k = (v : V) → place net ps past e k ≡ Some v → place net ps less e k ≡ Some v

  place_fed : (e k : ℕ) → ((s : Spot I) → net.delay e ≤ k → find (written net e) [] ps (k - net.delay e) ≡ Some s
      → Kept (net.writer e) (sum_by (count (net.writer e)) s.before + s.rest / slice_index s.period.writes e)) → PlaceKept e k
  unfolding Kept PlaceKept place output
  place_fed e k keeps v h = go (nat_lt k (net.delay e)) refl h
    where
      go : (b : Bool) → nat_lt k (net.delay e) ≡ b
          → (if b then Some (net.initial e k) else option_and_then (output net past e) (find (written net e) [] ps (k - net.delay e))) ≡ Some v
          → (if b then Some (net.initial e k) else option_and_then (output net less e) (find (written net e) [] ps (k - net.delay e))) ≡ Some v
      go true early h = h
      go false late h = and_then_where (output net past e) (output net less e) (find (written net e) [] ps (k - net.delay e)) (find (written net e) [] ps (k - net.delay e)) v
          (λ s at. at) (λ s at i. map_more _ _ _ v (keeps s (not_early k (net.delay e) late) at) i) h

  places_fed : (e k n : ℕ) (xs : List V) → ((q : ℕ) → k ≤ q → q < k + n → PlaceKept e q) → places net ps past e k n ≡ Some xs → places net ps less e k n ≡ Some xs
  unfolding PlaceKept places
  places_fed e k zero xs keeps h = h
  places_fed e k (suc n) xs keeps h = and_then_where _ _ _ _ xs (keeps k (omega arith) (omega arith))
      (λ x at. map_more _ _ _ xs (λ ys. places_fed e (k + 1) n ys (λ q low high. keeps q (omega (arith, low)) (omega (arith, high))))) h

  ReadsKept : (m : ℕ) → Spot I → Type 0
  ReadsKept m s = (e k : ℕ) → IsRead net m s e k → PlaceKept e k

  input_fed : (m : ℕ) (s : Spot I) (e : ℕ) (xs : List V) → e < net.edges → ReadsKept m s → input net ps past m s e ≡ Some xs → input net ps less m s e ≡ Some xs
  unfolding ReadsKept input
  input_fed m s e xs inside keeps h = go (nat_eq (net.reader e) m) (λ i. eqb-true _ m i) h
    where
      go : (b : Bool) → (b ≡ true → net.reader e ≡ m)
          → (if b then places net ps past e (sum_by (taken net e) s.before + s.rest * slice_index s.period.reads e) (slice_index s.period.reads e) else Some []) ≡ Some xs
          → (if b then places net ps less e (sum_by (taken net e) s.before + s.rest * slice_index s.period.reads e) (slice_index s.period.reads e) else Some []) ≡ Some xs
      go true reads h = places_fed e _ _ xs (λ q low high. keeps e q (record { inside = inside; reader = reads refl; low = low; high = high })) h
      go false reads h = h

  inputs_fed : (m : ℕ) (s : Spot I) (e n : ℕ) (xs : List (List V)) → e + n ≤ net.edges → ReadsKept m s → inputs net ps past m s e n ≡ Some xs → inputs net ps less m s e n ≡ Some xs
  unfolding inputs
  inputs_fed m s e zero xs inside keeps h = h
  inputs_fed m s e (suc n) xs inside keeps h = and_then_where _ _ _ _ xs (λ x. input_fed m s e x (omega (arith, inside)) keeps)
      (λ x at. map_more _ _ _ xs (λ ys. inputs_fed m s (e + 1) n ys (omega (arith, inside)) keeps)) h

  state_fed : (m : ℕ) (s : Spot I) (n : ℕ) (x : S) → ((k : ℕ) → n ≡ suc k → Kept m k) → state_before net past m s n ≡ Some x → state_before net less m s n ≡ Some x
  unfolding Kept state_before
  state_fed m s zero x keeps h = h
  state_fed m s (suc n) x keeps h = map_more _ _ _ x (keeps n refl) h

module _ {S V I : Type 0} (net : Net S V I) (periods : List (Period I)) (short long : ℕ → List V) (keeps : KeepsReads short long) where
  given_in_both : (m n : ℕ) (x : V) → n < length (short m) → slice_get (long m) n ≡ Some x → slice_get (short m) n ≡ Some x
  given_in_both m n x inside at = let y = get_inside (short m) n inside in y.1 ∙ sym (keeps m n y.0 y.1) ∙ at

  turn_at_fed : (past less : Past S V) (m n : ℕ) (s : Spot I) (t : Turn S V) → find (count m) [] periods n ≡ Some s → (net.is_sampler m ≡ true → n < length (short m))
      → (net.is_sampler m ≡ false → (l b : ℕ) → Follows net periods m n l b → (u : Turn S V) → past l b ≡ Some u → less l b ≡ Some u)
      → turn_at net (record { periods = periods; reads = long }) past m n s ≡ Some t → turn_at net (record { periods = periods; reads = short }) less m n s ≡ Some t
  unfolding turn_at Kept PlaceKept ReadsKept
  turn_at_fed past less m n s t found fed keeps_all h = go (net.is_sampler m) refl h
    where
      go : (b : Bool) → net.is_sampler m ≡ b
          → (if b then option_map (sampled net m) (slice_get (long m) n) else option_and_then (λ (x : S). option_map (net.process m s.period x) (inputs net periods past m s 0 net.edges)) (state_before net past m s n)) ≡ Some t
          → (if b then option_map (sampled net m) (slice_get (short m) n) else option_and_then (λ (x : S). option_map (net.process m s.period x) (inputs net periods less m s 0 net.edges)) (state_before net less m s n)) ≡ Some t
      go true is h = map_more _ _ _ t (λ x. given_in_both m n x (fed is)) h
      go false plain h = and_then_where _ _ _ _ t (λ x. state_fed net periods past less m s n x (λ k before. keeps_all plain m k (own refl before)))
          (λ x at. map_more _ _ _ t (λ xs. inputs_fed net periods past less m s 0 net.edges xs (omega arith)
          (λ e k read. place_fed net periods past less e k (λ v late at_v. keeps_all plain (net.writer e) _ (sample s v e k found read late at_v refl refl))))) h

  known_fed : (f m n : ℕ) (t : Turn S V) → IsFed net (record { periods = periods; reads = short }) f m n
      → known net (record { periods = periods; reads = long }) f m n ≡ Some t → known net (record { periods = periods; reads = short }) f m n ≡ Some t
  unfolding known turn IsFed
  known_fed zero m n t fed h = h
  known_fed (suc f) m n t fed h = and_then_where _ _ _ _ t (λ s at. at)
      (λ s at. turn_at_fed (known net (record { periods = periods; reads = long }) f) (known net (record { periods = periods; reads = short }) f) m n s t at fed.0
      (λ plain l b follows u i. known_fed f l b u (fed.1 plain l b follows) i)) h

module _ {S V I : Type 0} (net : Net S V I) (reads : ℕ → List V) (periods : List (Period I)) where
  -- values for all activations: where none was given, any
  filled : ℕ → List V
  filled m = reads m ++ map (λ (k : ℕ). net.initial 0 0) (range_with_len 0 (sum_by (count m) periods))

  filled_keeps : KeepsReads reads filled
  unfolding filled
  filled_keeps m n x at = get_low (reads m) _ n (slice_get_within (reads m) n x at) ∙ at

  filled_given : AreGiven net filled periods
  unfolding filled
  filled_given m n is below = let a = length-append (reads m) (map (λ (k : ℕ). net.initial 0 0) (range_with_len 0 (sum_by (count m) periods))) in
      let l = length-map-range_with_len (λ (k : ℕ). net.initial 0 0) 0 (sum_by (count m) periods) in omega (arith, below, a, l)

pub fed_are_known : {S V I : Type 0} (net : Net S V I) (actors : ℕ) (delay begun : ℕ → ℕ) (reads : ℕ → List V) (first : Period I) (later : List (Period I))
    → AreSound net actors delay begun first later → (m n : ℕ) → n < sum_by (count m) (first ∷ later)
    → IsFed net (record { periods = first ∷ later; reads = reads }) (firings (first ∷ later)) m n
    → (t : Turn S V) × (known net (record { periods = first ∷ later; reads = reads }) (firings (first ∷ later)) m n ≡ Some t)
fed_are_known net actors delay begun reads first later sound m n below fed =
    let v = all_are_known net actors delay (filled net reads (first ∷ later)) begun first later sound (filled_given net reads (first ∷ later)) m n below in
    (v.0, known_fed net (first ∷ later) reads (filled net reads (first ∷ later)) (filled_keeps net reads (first ∷ later)) (firings (first ∷ later)) m n v.0 fed v.1)
