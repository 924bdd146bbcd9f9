-- What some things of a model have, by the numbers of the model.
use Rattle.std.proofs.Common.{◌≡◌, ◌≢◌, ◌∙◌, ◌⊎◌, inl, inr, ℕ, zero, suc, ◌<◌, ◌≤◌, List, [], ◌∷◌, Some, length, map, sym, ap, subst, arith}
use Rattle.std.proofs.Math.ListN.{get_or}
use Rattle.std.proofs.lemmas.Bool.{cases_eq, cases_lt}
use Rattle.std.proofs.lemmas.List.{ext_get_or, get_or_default, get_or-map, get_or-replicate, get_or-set_other, get_or-set_same, get_or_past, length-map, length-replicate, length-set}
use Rattle.std.proofs.lemmas.Option.{get_or_from_slice_get, slice_get-get_or, slice_get_within}
use Rattle.std.specs.Prelude.{replicate, slice_get, slice_index, slice_set}
use Rattle.tdf_places.specs.Places.{AreDistinct, StandApart, IsNowhere, PlacesOf}
use Rattle.tdf_places.specs.Spread.{spread, spread_by}

-- a number stands at some place, or at none
pub stands : (numbers : List ℕ) (m : ℕ) → ((i : ℕ) × (i < length numbers) × (slice_index numbers i ≡ m)) ⊎ ((i : ℕ) → i < length numbers → slice_index numbers i ≢ m)
stands [] m = inr (λ i less. absurd (omega (arith, less)))
stands (n ∷ numbers) m = go (cases_eq n m) (stands numbers m)
  where
    go : (n ≡ m) ⊎ (n ≢ m) → ((i : ℕ) × (i < length numbers) × (slice_index numbers i ≡ m)) ⊎ ((i : ℕ) → i < length numbers → slice_index numbers i ≢ m)
        → ((i : ℕ) × (i < length (n ∷ numbers)) × (slice_index (n ∷ numbers) i ≡ m)) ⊎ ((i : ℕ) → i < length (n ∷ numbers) → slice_index (n ∷ numbers) i ≢ m)
    go (inl same) rest = inl (0, omega arith, same)
    go (inr other) (inl found) = inl (suc found.0, (let l = found.1 in omega (arith, l)), found.2)
    go (inr other) (inr none) = inr each
      where
        each : (i : ℕ) → i < length (n ∷ numbers) → slice_index (n ∷ numbers) i ≢ m
        each zero less = other
        each (suc i) less = none i (omega (arith, less))

module _ {A : Type 0} (count : ℕ) (other : A) where
  long_by : (numbers : List ℕ) (values : List A) → length (spread_by count other numbers values) ≡ count
  unfolding spread_by
  long_by [] values = length-replicate {A = A} count other
  long_by (n ∷ numbers) [] = length-replicate {A = A} count other
  long_by (n ∷ numbers) (v ∷ values) = length-set (spread_by count other numbers values) n v ∙ long_by numbers values

  elsewhere_by : (numbers : List ℕ) (values : List A) (m : ℕ) → m < count → ((i : ℕ) → i < length numbers → slice_index numbers i ≢ m) → get_or (spread_by count other numbers values) m other ≡ other
  unfolding spread_by
  elsewhere_by [] values m inside none = get_or-replicate count m other other inside
  elsewhere_by (n ∷ numbers) [] m inside none = get_or-replicate count m other other inside
  elsewhere_by (n ∷ numbers) (v ∷ values) m inside none =
      get_or-set_other (spread_by count other numbers values) n m v other (λ same. none 0 (omega arith) (sym same))
      ∙ elsewhere_by numbers values m inside (λ i less. none (suc i) (omega (arith, less)))

  at_by : (numbers : List ℕ) (values : List A) (i : ℕ) → AreDistinct count numbers → length values ≡ length numbers → i < length numbers
      → get_or (spread_by count other numbers values) (slice_index numbers i) other ≡ get_or values i other
  unfolding spread_by
  at_by [] values i apart long less = absurd (omega (arith, less))
  at_by (n ∷ numbers) [] i apart long less = absurd (omega (arith, long))
  at_by (n ∷ numbers) (v ∷ values) zero apart long less =
      get_or-set_same (spread_by count other numbers values) n v other (let w = apart.within 0 less in let l = long_by numbers values in omega (arith, w, l))
  at_by (n ∷ numbers) (v ∷ values) (suc i) apart long less =
      get_or-set_other (spread_by count other numbers values) n (slice_index numbers i) v other (λ same. absurd (let z = apart.once (suc i) 0 less (omega arith) same in omega (arith, z)))
      ∙ at_by numbers values i rest (omega (arith, long)) (omega (arith, less))
    where
      rest : AreDistinct count numbers
      rest = record {
        within = λ j below. apart.within (suc j) (omega (arith, below));
        once = λ j k j_in k_in same. (let s = apart.once (suc j) (suc k) (omega (arith, j_in)) (omega (arith, k_in)) same in omega (arith, s));
      }

module _ {A : Type 0} (other : A) (places : PlacesOf) where
  pub spread_long : (values : List A) → length (spread other places values) ≡ places.count
  spread_long values = long_by places.count other places.numbers values

  pub spread_elsewhere : (values : List A) (m : ℕ) → m < places.count → IsNowhere places m → get_or (spread other places values) m other ≡ other
  spread_elsewhere values m inside none = elsewhere_by places.count other places.numbers values m inside none

  pub spread_at : StandApart places → (values : List A) (i : ℕ) → length values ≡ length places.numbers → i < length places.numbers
      → get_or (spread other places values) (slice_index places.numbers i) other ≡ get_or values i other
  spread_at apart values i long less = at_by places.count other places.numbers values i apart long less

  -- what isn't the other value stands at a place
  pub spread_found : (values : List A) (m : ℕ) → m < places.count → (get_or (spread other places values) m other ≡ other → ⊥)
      → (i : ℕ) × (i < length places.numbers) × (slice_index places.numbers i ≡ m)
  spread_found values m inside differs = go (stands places.numbers m)
    where
      go : ((i : ℕ) × (i < length places.numbers) × (slice_index places.numbers i ≡ m)) ⊎ IsNowhere places m → (i : ℕ) × (i < length places.numbers) × (slice_index places.numbers i ≡ m)
      go (inl found) = found
      go (inr none) = absurd (differs (spread_elsewhere values m inside none))

  -- a list that has these values at the numbers, and the other value elsewhere
  pub spread_is : StandApart places → (values all : List A) → length values ≡ length places.numbers → length all ≡ places.count
      → ((i : ℕ) → i < length places.numbers → get_or all (slice_index places.numbers i) other ≡ get_or values i other)
      → ((m : ℕ) → m < places.count → IsNowhere places m → get_or all m other ≡ other) → spread other places values ≡ all
  spread_is apart values all long whole each none =
      ext_get_or other (spread other places values) all (spread_long values ∙ sym whole) (λ m below. go m (let l = spread_long values in omega (arith, l, below)) (stands places.numbers m))
    where
      go : (m : ℕ) → m < places.count → ((i : ℕ) × (i < length places.numbers) × (slice_index places.numbers i ≡ m)) ⊎ IsNowhere places m
          → get_or (spread other places values) m other ≡ get_or all m other
      go m inside (inl found) =
          subst (λ n. get_or (spread other places values) n other ≡ get_or all n other) found.2
          (spread_at apart values found.0 long found.1 ∙ sym (each found.0 found.1))
      go m inside (inr nowhere) = spread_elsewhere values m inside nowhere ∙ sym (none m inside nowhere)

  -- another value at a place is one at its number
  pub spread_set : StandApart places → (values : List A) (i : ℕ) (x : A) → length values ≡ length places.numbers → i < length places.numbers
      → spread other places (slice_set values i x) ≡ slice_set (spread other places values) (slice_index places.numbers i) x
  spread_set apart values i x long less =
      spread_is apart (slice_set values i x) (slice_set (spread other places values) (slice_index places.numbers i) x) (length-set values i x ∙ long)
      (length-set (spread other places values) (slice_index places.numbers i) x ∙ spread_long values)
      (λ j below. each j below (cases_eq j i))
      (λ m inside none.
      get_or-set_other (spread other places values) (slice_index places.numbers i) m x other (λ same. none i less (sym same))
      ∙ spread_elsewhere values m inside none)
    where
      each : (j : ℕ) → j < length places.numbers → (j ≡ i) ⊎ (j ≢ i)
          → get_or (slice_set (spread other places values) (slice_index places.numbers i) x) (slice_index places.numbers j) other ≡ get_or (slice_set values i x) j other
      each j below (inl same) =
          subst (λ k. get_or (slice_set (spread other places values) (slice_index places.numbers i) x) (slice_index places.numbers k) other ≡ get_or (slice_set values i x) k other) (sym same)
          (get_or-set_same (spread other places values) (slice_index places.numbers i) x other (let w = apart.within i less in let l = spread_long values in omega (arith, w, l))
          ∙ sym (get_or-set_same values i x other (omega (arith, less, long))))
      each j below (inr apart_from) =
          get_or-set_other (spread other places values) (slice_index places.numbers i) (slice_index places.numbers j) x other (λ same. apart_from (apart.once j i below less same))
          ∙ spread_at apart values j long below ∙ sym (get_or-set_other values i j x other apart_from)

  -- values that are all the other one
  pub spread_replicate : StandApart places → spread other places (replicate (length places.numbers) other) ≡ replicate places.count other
  spread_replicate apart =
      spread_is apart (replicate (length places.numbers) other) (replicate places.count other) (length-replicate {A = A} (length places.numbers) other) (length-replicate {A = A} places.count other)
      (λ i less. get_or-replicate places.count (slice_index places.numbers i) other other (apart.within i less) ∙ sym (get_or-replicate (length places.numbers) i other other less))
      (λ m inside none. get_or-replicate places.count m other other inside)

-- the values of a list at the numbers
pub gathered : {A : Type 0} (other d : A) (places : PlacesOf) → StandApart places → (all : List A) → length all ≡ places.count
    → ((m : ℕ) → m < places.count → IsNowhere places m → get_or all m other ≡ other)
    → spread other places (map (λ n. get_or all n d) places.numbers) ≡ all
gathered other d places apart all whole none =
    spread_is other places apart (map (λ n. get_or all n d) places.numbers) all (length-map places.numbers (λ n. get_or all n d)) whole
    (λ i less. get_or_default all (slice_index places.numbers i) other d (let w = apart.within i less in omega (arith, w, whole)) ∙ sym (get_or-map (λ n. get_or all n d) places.numbers i 0 other less)) none

-- the same by the place that a number was found at
module _ {A : Type 0} (other : A) (places : PlacesOf) where
  pub place_at : (place m : ℕ) → slice_get places.numbers place ≡ Some m → (place < length places.numbers) × (slice_index places.numbers place ≡ m)
  place_at place m at = (slice_get_within places.numbers place m at, get_or_from_slice_get places.numbers place m 0 at)

  pub spread_nowhere : (values : List A) (m : ℕ) → IsNowhere places m → get_or (spread other places values) m other ≡ other
  spread_nowhere values m none = go (cases_lt m places.count)
    where
      go : (m < places.count) ⊎ (places.count ≤ m) → get_or (spread other places values) m other ≡ other
      go (inl inside) = spread_elsewhere other places values m inside none
      go (inr past) = get_or_past (spread other places values) m other (let l = spread_long other places values in omega (arith, l, past))

  module _ (apart : StandApart places) (values : List A) (long : length values ≡ length places.numbers) (place m : ℕ) (at : slice_get places.numbers place ≡ Some m) where
    pub number_inside : m < places.count
    number_inside = (let w = apart.within place (place_at place m at).0 in let s = (place_at place m at).1 in omega (arith, w, s))

    pub spread_there : slice_get (spread other places values) m ≡ Some (get_or values place other)
    spread_there =
        slice_get-get_or (spread other places values) m other (let l = spread_long other places values in let n = number_inside in omega (arith, n, l))
        ∙ ap Some (ap (λ k. get_or (spread other places values) k other) (sym (place_at place m at).1) ∙ spread_at other places apart values place long (place_at place m at).0)

    pub spread_put : (x : A) → spread other places (slice_set values place x) ≡ slice_set (spread other places values) m x
    spread_put x = spread_set other places apart values place x long (place_at place m at).0 ∙ ap (λ k. slice_set (spread other places values) k x) (place_at place m at).1
