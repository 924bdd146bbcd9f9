-- What the first things have, as they get it one by one.
use Rattle.std.proofs.Common.{◌≡◌, ◌≢◌, ◌∙◌, ◌⊎◌, inl, inr, ℕ, ◌+◌, ◌<◌, ◌≤◌, ◌++◌, List, [], ◌∷◌, length, refl, sym, ap, subst, take, arith}
use Rattle.std.proofs.Math.ListN.{get_or, get_or-append}
use Rattle.std.proofs.Math.Seq.{get_or-append_seam}
use Rattle.std.proofs.lemmas.Bool.{cases_lt}
use Rattle.std.proofs.lemmas.List.{get_or-set_other, get_or-set_same, get_or-take, length-append, length-set, length-take-le}
use Rattle.std.specs.Prelude.{replicate, slice_index, slice_set}
use Rattle.tdf_places.proofs.Spreads.{spread_at, spread_elsewhere, spread_is, spread_long}
use Rattle.tdf_places.specs.Places.{AreDistinct, PlacesOf}
use Rattle.tdf_places.specs.Spread.{spread_by}

-- nothing has a value yet
pub front_none : {A : Type 0} (count : ℕ) (other : A) (numbers : List ℕ) (values : List A) → values ≡ [] → spread_by count other (take 0 numbers) values ≡ replicate count other
unfolding spread_by
front_none count other [] values is = refl
front_none count other (n ∷ numbers) values is = refl

module _ {A : Type 0} (count : ℕ) (other : A) (numbers : List ℕ) (apart : AreDistinct count numbers) where
  abbrev front : ℕ → PlacesOf
  front i = record { numbers = take i numbers; count = count }

  long_front : (i : ℕ) → i ≤ length numbers → length (take i numbers) ≡ i
  long_front i less = length-take-le i numbers less

  front_apart : (i : ℕ) → i ≤ length numbers → AreDistinct count (take i numbers)
  front_apart i less = record {
    within = λ j below.
        (let l = long_front i less in
        subst (λ k. k < count) (sym (get_or-take i numbers j 0 (omega (arith, below, l)))) (apart.within j (omega (arith, below, l, less))));
    once = λ j k j_in k_in same.
        (let l = long_front i less in
        apart.once j k (omega (arith, j_in, l, less)) (omega (arith, k_in, l, less))
        (sym (get_or-take i numbers j 0 (omega (arith, j_in, l))) ∙ same ∙ get_or-take i numbers k 0 (omega (arith, k_in, l))));
  }

  -- the next thing gets its value
  pub front_more : (values : List A) (i : ℕ) (x : A) → length values ≡ i → i < length numbers
      → spread_by count other (take (i + 1) numbers) (values ++ x ∷ []) ≡ slice_set (spread_by count other (take i numbers) values) (slice_index numbers i) x
  front_more values i x long less =
      spread_is other (front (i + 1)) (front_apart (i + 1) (omega (arith, less))) (values ++ x ∷ []) (slice_set (spread_by count other (take i numbers) values) (slice_index numbers i) x)
      (length-append values (x ∷ []) ∙ ap (λ n. n + 1) long ∙ sym (long_front (i + 1) (omega (arith, less))))
      (length-set (spread_by count other (take i numbers) values) (slice_index numbers i) x ∙ spread_long other (front i) values)
      (λ j below. each j (let l = long_front (i + 1) (omega (arith, less)) in omega (arith, below, l)) (cases_lt j i))
      (λ m inside none. elsewhere m inside none)
    where
      next : slice_index (take (i + 1) numbers) i ≡ slice_index numbers i
      next = get_or-take (i + 1) numbers i 0 (omega arith)

      whole : length (spread_by count other (take i numbers) values) ≡ count
      whole = spread_long other (front i) values

      each : (j : ℕ) → j < i + 1 → (j < i) ⊎ (i ≤ j)
          → get_or (slice_set (spread_by count other (take i numbers) values) (slice_index numbers i) x) (slice_index (take (i + 1) numbers) j) other ≡ get_or (values ++ x ∷ []) j other
      each j below (inl before) =
          get_or-set_other (spread_by count other (take i numbers) values) (slice_index numbers i) (slice_index (take (i + 1) numbers) j) x other
          (λ same. absurd (let z = apart.once j i (omega (arith, before, less)) less (sym (get_or-take (i + 1) numbers j 0 below) ∙ same) in omega (arith, z, before)))
          ∙ ap (λ k. get_or (spread_by count other (take i numbers) values) k other) (get_or-take (i + 1) numbers j 0 below ∙ sym (get_or-take i numbers j 0 before))
          ∙ spread_at other (front i) (front_apart i (omega (arith, less))) values j (long ∙ sym (long_front i (omega (arith, less)))) (let l = long_front i (omega (arith, less)) in omega (arith, l, before))
          ∙ sym (get_or-append values (x ∷ []) other j (omega (arith, long, before)))
      each j below (inr past) =
          let is : i ≡ j = omega (arith, below, past) in
          subst (λ k. get_or (slice_set (spread_by count other (take i numbers) values) (slice_index numbers i) x) (slice_index (take (i + 1) numbers) k) other ≡ get_or (values ++ x ∷ []) k other) is
          (ap (λ k. get_or (slice_set (spread_by count other (take i numbers) values) (slice_index numbers i) x) k other) next
          ∙ get_or-set_same (spread_by count other (take i numbers) values) (slice_index numbers i) x other (let w = apart.within i less in let l = whole in omega (arith, w, l))
          ∙ sym (ap (λ k. get_or (values ++ x ∷ []) k other) (sym long) ∙ get_or-append_seam values x [] other))

      elsewhere : (m : ℕ) → m < count → ((j : ℕ) → j < length (take (i + 1) numbers) → slice_index (take (i + 1) numbers) j ≢ m)
          → get_or (slice_set (spread_by count other (take i numbers) values) (slice_index numbers i) x) m other ≡ other
      elsewhere m inside none =
          get_or-set_other (spread_by count other (take i numbers) values) (slice_index numbers i) m x other
          (λ same. none i (let l = long_front (i + 1) (omega (arith, less)) in omega (arith, l)) (next ∙ sym same))
          ∙ spread_elsewhere other (front i) values m inside
          (λ j below same. (let l = long_front i (omega (arith, less)) in let k = long_front (i + 1) (omega (arith, less)) in
          none j (omega (arith, below, l, k)) (get_or-take (i + 1) numbers j 0 (omega (arith, below, l)) ∙ sym (get_or-take i numbers j 0 (omega (arith, below, l))) ∙ same)))
