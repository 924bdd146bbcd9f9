-- A map from numbers to their places.
use Rattle.std.proofs.Common.{◌≡◌, ◌∙◌, ◌⊎◌, inl, inr, ℕ, ◌+◌, ◌<◌, ◌≤◌, List, length, sym, ap, subst, arith}
use Rattle.std.proofs.lemmas.Bool.{cases_lt}
use Rattle.std.proofs.lemmas.List.{get_or-set_other, get_or-set_same, length-set}
use Rattle.std.specs.Prelude.{slice_index, slice_set}
use Rattle.tdf_places.specs.Places.{AreDistinct}
use Rattle.tdf_places.specs.views.Mapped.{AreMapped, AreMappedUpTo}

pub mapped_none : (numbers map : List ℕ) → AreMappedUpTo 0 numbers map
mapped_none numbers map = record { within = λ i less. absurd (omega (arith, less)); back = λ i less. absurd (omega (arith, less)) }

-- one place more
pub mapped_more : (numbers map : List ℕ) (n : ℕ) → AreMappedUpTo n numbers map → slice_index numbers n < length map → slice_index map (slice_index numbers n) ≡ n → AreMappedUpTo (n + 1) numbers map
mapped_more numbers map n are inside at = record { within = λ i less. (go i less (cases_lt i n)).0; back = λ i less. (go i less (cases_lt i n)).1 }
  where
    go : (i : ℕ) → i < n + 1 → (i < n) ⊎ (n ≤ i) → (slice_index numbers i < length map) × (slice_index map (slice_index numbers i) ≡ i)
    go i less (inl below) = (are.within i below, are.back i below)
    go i less (inr past) =
        let same : n ≡ i = omega (arith, less, past) in
        subst (λ k. (slice_index numbers k < length map) × (slice_index map (slice_index numbers k) ≡ k)) same (inside, at)

-- the place of one number more is set
pub mapped_set : (numbers map : List ℕ) (count n : ℕ) → AreDistinct count numbers → n < length numbers → length map ≡ count → AreMappedUpTo n numbers map
    → AreMappedUpTo (n + 1) numbers (slice_set map (slice_index numbers n) n)
mapped_set numbers map count n apart below long are = record { within = λ i less. (go i less (cases_lt i n)).0; back = λ i less. (go i less (cases_lt i n)).1 }
  where
    same_long : length (slice_set map (slice_index numbers n) n) ≡ length map
    same_long = length-set map (slice_index numbers n) n

    go : (i : ℕ) → i < n + 1 → (i < n) ⊎ (n ≤ i) → (slice_index numbers i < length (slice_set map (slice_index numbers n) n))
        × (slice_index (slice_set map (slice_index numbers n) n) (slice_index numbers i) ≡ i)
    go i less (inl lower) = (
      (let w = are.within i lower in omega (arith, w, same_long)),
      get_or-set_other map (slice_index numbers n) (slice_index numbers i) n 0 (λ e. absurd (let z = apart.once i n (omega (arith, lower, below)) below e in omega (arith, z, lower)))
          ∙ are.back i lower,
    )
    go i less (inr past) =
        let same : n ≡ i = omega (arith, less, past) in
        let inside : slice_index numbers n < length map = (let w = apart.within n below in omega (arith, w, long)) in
        subst (λ k. (slice_index numbers k < length (slice_set map (slice_index numbers n) n)) × (slice_index (slice_set map (slice_index numbers n) n) (slice_index numbers k) ≡ k)) same
        (omega (arith, inside, same_long), get_or-set_same map (slice_index numbers n) n 0 inside)

-- the numbers of a map are different
pub mapped_apart : (numbers map : List ℕ) → AreMapped numbers map → AreDistinct (length map) numbers
mapped_apart numbers map are = record { within = are.within; once = λ i j i_in j_in same. sym (are.back i i_in) ∙ ap (slice_index map) same ∙ are.back j j_in }
