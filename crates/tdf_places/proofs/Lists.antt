-- Lists of which the numbers that are not 0 are kept, with their places.
use Rattle.std.proofs.Common.{◌≡◌, ◌≢◌, ◌∙◌, ◌⊎◌, inl, inr, ℕ, ◌+◌, ◌<◌, ◌≤◌, ◌++◌, List, [], ◌∷◌, true, false, length, map, take, refl, sym, ap, subst, arith, ltb}
use Rattle.std.proofs.Math.ListN.{get_or, get_or-append}
use Rattle.std.proofs.Math.Seq.{get_or-append_seam}
use Rattle.std.proofs.lemmas.Bool.{cases_lt}
use Rattle.std.proofs.lemmas.Bool.Decides.{nat_tests}
use Rattle.std.proofs.lemmas.List.{get_or-map, get_or-take, length-append, length-map, length-take-le, map-append}
use Rattle.std.specs.List.Sorted.{IsNonDecreasingBy, IsPartitionPoint}
use Rattle.std.specs.Prelude.{nat_lt, slice_index}
use Rattle.tdf_places.proofs.Ranges.{rising_all}
use Rattle.tdf_places.proofs.Spreads.{spread_at, spread_elsewhere, spread_is, spread_long, spread_nowhere, stands}
use Rattle.tdf_places.specs.Places.{AllBelow, AreDistinct, IsAmong, PlacesOf, Rise}
use Rattle.tdf_places.specs.Sparse.{set_below}
use Rattle.tdf_places.specs.Spread.{spread_by}
use Rattle.tdf_places.specs.declared.sparse.Kept.{Kept}
use Rattle.tdf_places.specs.views.Kept.{AreKept, IsKeptAt, moved_by, places_of, values_of, whole_list}

-- rising numbers are different
pub rising_apart : (count : ℕ) (numbers : List ℕ) → AllBelow count numbers → Rise numbers → AreDistinct count numbers
rising_apart count numbers within rising = record { within = within; once = λ i j i_in j_in same. go i j i_in j_in same (cases_lt i j) (cases_lt j i) }
  where
    go : (i j : ℕ) → i < length numbers → j < length numbers → slice_index numbers i ≡ slice_index numbers j → (i < j) ⊎ (j ≤ i) → (j < i) ⊎ (i ≤ j) → i ≡ j
    go i j i_in j_in same (inl below) q = absurd (let r = rising i j below j_in in omega (arith, r, same))
    go i j i_in j_in same (inr low) (inl below) = absurd (let r = rising j i below i_in in omega (arith, r, same))
    go i j i_in j_in same (inr low) (inr high) = omega (arith, low, high)

module _ (kept : List Kept) where
  many : length (values_of kept) ≡ length (places_of kept)
  many = length-map kept (λ (k : Kept). k.value) ∙ sym (length-map kept (λ (k : Kept). k.place))

  module _ (count : ℕ) (are : AreKept count kept) where
    own : PlacesOf
    own = record { numbers = places_of kept; count = count }

    apart : AreDistinct count (places_of kept)
    apart = rising_apart count (places_of kept) are.within are.rising

    pub long_list : length (whole_list count kept) ≡ count
    long_list = spread_long 0 (record { numbers = places_of kept; count = count }) (values_of kept)

    at_place : (i : ℕ) → i < length (places_of kept) → slice_index (whole_list count kept) (slice_index (places_of kept) i) ≡ slice_index (values_of kept) i
    at_place i less = spread_at 0 (record { numbers = places_of kept; count = count }) apart (values_of kept) i many less

    pub at_none : (m : ℕ) → ((i : ℕ) → i < length (places_of kept) → slice_index (places_of kept) i ≢ m) → slice_index (whole_list count kept) m ≡ 0
    at_none m none = spread_nowhere 0 (record { numbers = places_of kept; count = count }) (values_of kept) m none

    -- the value that is kept for a place
    pub at_kept : (i place value : ℕ) → IsKeptAt kept i place value → value ≡ slice_index (whole_list count kept) place
    at_kept i place value is =
        sym is.is
        ∙ sym (at_place i (let l = length-map kept (λ (k : Kept). k.place) in let w = is.within in omega (arith, l, w)))
        ∙ ap (slice_index (whole_list count kept)) is.here

    -- one 0 more
    pub zero_more : (AreKept (count + 1) kept) × (whole_list (count + 1) kept ≡ whole_list count kept ++ 0 ∷ [])
    zero_more = (
      more,
      spread_is 0 (record { numbers = places_of kept; count = count + 1 }) (rising_apart (count + 1) (places_of kept) more.within more.rising) (values_of kept) (whole_list count kept ++ 0 ∷ []) many
          (length-append (whole_list count kept) (0 ∷ []) ∙ ap (λ n. n + 1) long_list)
          (λ i less. get_or-append (whole_list count kept) (0 ∷ []) 0 (slice_index (places_of kept) i) (let w = are.within i less in let l = long_list in omega (arith, w, l)) ∙ at_place i less)
          (λ m inside none. elsewhere m inside none (cases_lt m count)),
    )
      where
        more : AreKept (count + 1) kept
        more = record { within = λ i less. (let w = are.within i less in omega (arith, w)); rising = are.rising; some = are.some }

        elsewhere : (m : ℕ) → m < count + 1 → ((i : ℕ) → i < length (places_of kept) → slice_index (places_of kept) i ≢ m) → (m < count) ⊎ (count ≤ m)
            → get_or (whole_list count kept ++ 0 ∷ []) m 0 ≡ 0
        elsewhere m inside none (inl below) = get_or-append (whole_list count kept) (0 ∷ []) 0 m (let l = long_list in omega (arith, below, l)) ∙ at_none m none
        elsewhere m inside none (inr past) =
            let is : length (whole_list count kept) ≡ m = (let l = long_list in omega (arith, l, inside, past)) in
            subst (λ k. get_or (whole_list count kept ++ 0 ∷ []) k 0 ≡ 0) is (get_or-append_seam (whole_list count kept) 0 [] 0)

    module _ (value : ℕ) (new : List Kept) (new_is : new ≡ kept ++ (record { place = count; value = value }) ∷ []) where
      last : Kept
      last = record { place = count; value = value }

      places_new : places_of new ≡ places_of kept ++ count ∷ []
      places_new = ap places_of new_is ∙ map-append (λ (k : Kept). k.place) kept ((record { place = count; value = value }) ∷ [])

      values_new : values_of new ≡ values_of kept ++ value ∷ []
      values_new = ap values_of new_is ∙ map-append (λ (k : Kept). k.value) kept ((record { place = count; value = value }) ∷ [])

      place_before : (i : ℕ) → i < length (places_of kept) → slice_index (places_of kept ++ count ∷ []) i ≡ slice_index (places_of kept) i
      place_before i less = get_or-append (places_of kept) (count ∷ []) 0 i less

      place_last : slice_index (places_of kept ++ count ∷ []) (length (places_of kept)) ≡ count
      place_last = get_or-append_seam (places_of kept) count [] 0

      long_new : length (places_of kept ++ count ∷ []) ≡ length (places_of kept) + 1
      long_new = length-append (places_of kept) (count ∷ [])

      within_new : (i : ℕ) → i < length (places_of kept ++ count ∷ []) → slice_index (places_of kept ++ count ∷ []) i < count + 1
      within_new i less = go (cases_lt i (length (places_of kept)))
        where
          go : (i < length (places_of kept)) ⊎ (length (places_of kept) ≤ i) → slice_index (places_of kept ++ count ∷ []) i < count + 1
          go (inl below) = (let e = place_before i below in let w = are.within i below in omega (arith, e, w))
          go (inr past) =
              let is : length (places_of kept) ≡ i = (let l = long_new in omega (arith, l, less, past)) in
              subst (λ k. slice_index (places_of kept ++ count ∷ []) k < count + 1) is (let e = place_last in omega (arith, e))

      rising_new : Rise (places_of kept ++ count ∷ [])
      rising_new i j below less = go (cases_lt j (length (places_of kept)))
        where
          go : (j < length (places_of kept)) ⊎ (length (places_of kept) ≤ j) → slice_index (places_of kept ++ count ∷ []) i < slice_index (places_of kept ++ count ∷ []) j
          go (inl before) =
              (let e = place_before i (omega (arith, below, before)) in let f = place_before j before in let r = are.rising i j below before in omega (arith, e, f, r))
          go (inr past) =
              let is : length (places_of kept) ≡ j = (let l = long_new in omega (arith, l, less, past)) in
              let i_in : i < length (places_of kept) = omega (arith, is, below) in
              subst (λ k. slice_index (places_of kept ++ count ∷ []) i < slice_index (places_of kept ++ count ∷ []) k) is
              (let e = place_before i i_in in let w = are.within i i_in in let f = place_last in omega (arith, e, w, f))

      some_new : value ≢ 0 → (i : ℕ) → i < length (values_of kept ++ value ∷ []) → 0 < slice_index (values_of kept ++ value ∷ []) i
      some_new some i less = go (cases_lt i (length (values_of kept)))
        where
          go : (i < length (values_of kept)) ⊎ (length (values_of kept) ≤ i) → 0 < slice_index (values_of kept ++ value ∷ []) i
          go (inl below) = (let e = get_or-append (values_of kept) (value ∷ []) 0 i below in let s = are.some i below in omega (arith, e, s))
          go (inr past) =
              let is : length (values_of kept) ≡ i = (let l = length-append (values_of kept) (value ∷ []) in omega (arith, l, less, past)) in
              subst (λ k. 0 < slice_index (values_of kept ++ value ∷ []) k) is (let e = get_or-append_seam (values_of kept) value [] 0 in omega (arith, e, some))

      pub kept_more : value ≢ 0 → AreKept (count + 1) new
      kept_more some = record {
        within = subst (AllBelow (count + 1)) (sym places_new) within_new;
        rising = subst Rise (sym places_new) rising_new;
        some = subst (λ vs. (i : ℕ) → i < length vs → 0 < slice_index vs i) (sym values_new) (some_new some);
      }

      -- one number more
      pub value_more : whole_list (count + 1) new ≡ whole_list count kept ++ value ∷ []
      value_more =
          ap (λ ps. spread_by (count + 1) 0 ps (values_of new)) places_new ∙ ap (spread_by (count + 1) 0 (places_of kept ++ count ∷ [])) values_new
          ∙ spread_is 0 (record { numbers = places_of kept ++ count ∷ []; count = count + 1 }) (rising_apart (count + 1) (places_of kept ++ count ∷ []) within_new rising_new)
          (values_of kept ++ value ∷ []) (whole_list count kept ++ value ∷ [])
          (let a = length-append (values_of kept) (value ∷ []) in let b = long_new in let m = many in omega (arith, a, b, m))
          (length-append (whole_list count kept) (value ∷ []) ∙ ap (λ n. n + 1) long_list)
          (λ i less. each i less (cases_lt i (length (places_of kept))))
          (λ m inside none. elsewhere m inside none (cases_lt m count))
        where
          each : (i : ℕ) → i < length (places_of kept ++ count ∷ []) → (i < length (places_of kept)) ⊎ (length (places_of kept) ≤ i)
              → get_or (whole_list count kept ++ value ∷ []) (slice_index (places_of kept ++ count ∷ []) i) 0 ≡ get_or (values_of kept ++ value ∷ []) i 0
          each i less (inl below) =
              ap (λ k. get_or (whole_list count kept ++ value ∷ []) k 0) (place_before i below)
              ∙ get_or-append (whole_list count kept) (value ∷ []) 0 (slice_index (places_of kept) i) (let w = are.within i below in let l = long_list in omega (arith, w, l))
              ∙ at_place i below ∙ sym (get_or-append (values_of kept) (value ∷ []) 0 i (let m = many in omega (arith, m, below)))
          each i less (inr past) =
              let is : length (places_of kept) ≡ i = (let l = long_new in omega (arith, l, less, past)) in
              subst (λ k. get_or (whole_list count kept ++ value ∷ []) (slice_index (places_of kept ++ count ∷ []) k) 0 ≡ get_or (values_of kept ++ value ∷ []) k 0) is
              (ap (λ k. get_or (whole_list count kept ++ value ∷ []) k 0) (place_last ∙ sym long_list)
              ∙ get_or-append_seam (whole_list count kept) value [] 0
              ∙ sym (ap (λ k. get_or (values_of kept ++ value ∷ []) k 0) (sym many) ∙ get_or-append_seam (values_of kept) value [] 0))

          elsewhere : (m : ℕ) → m < count + 1 → ((i : ℕ) → i < length (places_of kept ++ count ∷ []) → slice_index (places_of kept ++ count ∷ []) i ≢ m) → (m < count) ⊎ (count ≤ m)
              → get_or (whole_list count kept ++ value ∷ []) m 0 ≡ 0
          elsewhere m inside none (inl below) =
              get_or-append (whole_list count kept) (value ∷ []) 0 m (let l = long_list in omega (arith, below, l))
              ∙ at_none m (λ i less same. none i (let l = long_new in omega (arith, l, less)) (place_before i less ∙ same))
          elsewhere m inside none (inr past) =
              absurd (none (length (places_of kept)) (let l = long_new in omega (arith, l)) (place_last ∙ omega (arith, inside, past)))

    -- moved to the places of a longer list
    module _ (whole : ℕ) (places : List ℕ) (long : count ≡ length places) (within : AllBelow whole places) (rising : Rise places) where
      moved_places : places_of (map (moved_by places) kept) ≡ map (slice_index places) (places_of kept)
      moved_places = go kept
        where
          go : (list : List Kept) → places_of (map (moved_by places) list) ≡ map (slice_index places) (places_of list)
          go [] = refl
          go (k ∷ list) = ap (λ (rest : List ℕ). slice_index places k.place ∷ rest) (go list)

      moved_values : values_of (map (moved_by places) kept) ≡ values_of kept
      moved_values = go kept
        where
          go : (list : List Kept) → values_of (map (moved_by places) list) ≡ values_of list
          go [] = refl
          go (k ∷ list) = ap (λ (rest : List ℕ). k.value ∷ rest) (go list)

      long_moved : length (map (slice_index places) (places_of kept)) ≡ length (places_of kept)
      long_moved = length-map (places_of kept) (slice_index places)

      moved_at : (i : ℕ) → i < length (places_of kept) → slice_index (map (slice_index places) (places_of kept)) i ≡ slice_index places (slice_index (places_of kept) i)
      moved_at i less = get_or-map (slice_index places) (places_of kept) i 0 0 less

      within_moved : (i : ℕ) → i < length (map (slice_index places) (places_of kept)) → slice_index (map (slice_index places) (places_of kept)) i < whole
      within_moved i less =
          let below : i < length (places_of kept) = (let l = long_moved in omega (arith, less, l)) in
          (let e = moved_at i below in let w = within (slice_index (places_of kept) i) (let v = are.within i below in omega (arith, v, long)) in omega (arith, e, w))

      rising_moved : Rise (map (slice_index places) (places_of kept))
      rising_moved i j before less =
          let j_in : j < length (places_of kept) = (let l = long_moved in omega (arith, less, l)) in
          (let e = moved_at i (omega (arith, before, j_in)) in let f = moved_at j j_in in
          let r = rising (slice_index (places_of kept) i) (slice_index (places_of kept) j) (are.rising i j before j_in) (let v = are.within j j_in in omega (arith, v, long)) in omega (arith, e, f, r))

      pub kept_moved : AreKept whole (map (moved_by places) kept)
      kept_moved = record {
        within = subst (AllBelow whole) (sym moved_places) within_moved;
        rising = subst Rise (sym moved_places) rising_moved;
        some = subst (λ vs. (i : ℕ) → i < length vs → 0 < slice_index vs i) (sym moved_values) are.some;
      }

      abbrev target : PlacesOf
      target = record { numbers = places; count = whole }

      pub list_moved : whole_list whole (map (moved_by places) kept) ≡ spread_by whole 0 places (whole_list count kept)
      list_moved =
          ap (λ ps. spread_by whole 0 ps (values_of (map (moved_by places) kept))) moved_places ∙ ap (spread_by whole 0 (map (slice_index places) (places_of kept))) moved_values
          ∙ spread_is 0 (record { numbers = map (slice_index places) (places_of kept); count = whole })
          (rising_apart whole (map (slice_index places) (places_of kept)) within_moved rising_moved) (values_of kept) (spread_by whole 0 places (whole_list count kept))
          (many ∙ sym long_moved) (spread_long 0 target (whole_list count kept)) (λ i less. each i (let l = long_moved in omega (arith, less, l)))
          (λ m inside none. elsewhere m inside none (stands places m))
        where
          same_long : length (whole_list count kept) ≡ length places
          same_long = long_list ∙ long

          each : (i : ℕ) → i < length (places_of kept) → get_or (spread_by whole 0 places (whole_list count kept)) (slice_index (map (slice_index places) (places_of kept)) i) 0 ≡ get_or (values_of kept) i 0
          each i less =
              ap (λ k. get_or (spread_by whole 0 places (whole_list count kept)) k 0) (moved_at i less)
              ∙ spread_at 0 target (rising_apart whole places within rising) (whole_list count kept) (slice_index (places_of kept) i) same_long (let v = are.within i less in omega (arith, v, long))
              ∙ at_place i less

          elsewhere : (m : ℕ) → m < whole → ((i : ℕ) → i < length (map (slice_index places) (places_of kept)) → slice_index (map (slice_index places) (places_of kept)) i ≢ m)
              → ((i : ℕ) × (i < length places) × (slice_index places i ≡ m)) ⊎ ((i : ℕ) → i < length places → slice_index places i ≢ m)
              → get_or (spread_by whole 0 places (whole_list count kept)) m 0 ≡ 0
          elsewhere m inside none (inr nowhere) = spread_elsewhere 0 target (whole_list count kept) m inside nowhere
          elsewhere m inside none (inl found) =
              ap (λ k. get_or (spread_by whole 0 places (whole_list count kept)) k 0) (sym found.2)
              ∙ spread_at 0 target (rising_apart whole places within rising) (whole_list count kept) found.0 same_long found.1
              ∙ at_none found.0 (λ i less same. none i (let l = long_moved in omega (arith, l, less)) (moved_at i less ∙ ap (slice_index places) same ∙ found.2))

-- what is kept goes by place
pub goes_up : (kept : List Kept) (count : ℕ) → AreKept count kept → IsNonDecreasingBy (λ (k : Kept). k.place) kept
goes_up kept count are i j d le less = go (cases_lt i j)
  where
    at : (k : ℕ) → k < length kept → slice_index (places_of kept) k ≡ (get_or kept k d).place
    at k inside = get_or-map (λ (x : Kept). x.place) kept k d 0 inside

    go : (i < j) ⊎ (j ≤ i) → (get_or kept i d).place ≤ (get_or kept j d).place
    go (inl below) =
        (let e = at i (omega (arith, below, less)) in let f = at j less in let r = are.rising i j below (let l = length-map kept (λ (k : Kept). k.place) in omega (arith, l, less)) in omega (arith, e, f, r))
    go (inr past) = let same : i ≡ j = omega (arith, le, past) in subst (λ k. (get_or kept i d).place ≤ (get_or kept k d).place) same (omega arith)

-- no place is that of a number, where those before a point are below it, the one at the point is another, and the others come after
module _ (kept : List Kept) (count place near : ℕ) (are : AreKept count kept) (point : IsPartitionPoint (λ (k : Kept). ltb k.place place ≡ true) (λ (k : Kept). ltb k.place place ≡ false) kept near)
    (other : near < length kept → slice_index (places_of kept) near ≢ place) where
  pub not_kept : slice_index (whole_list count kept) place ≡ 0
  not_kept = at_none kept count are place (λ i less same. go i (let l = length-map kept (λ (k : Kept). k.place) in omega (arith, l, less)) same (cases_lt i near) (cases_lt near i))
    where
      at : (d : Kept) (i : ℕ) → i < length kept → slice_index (places_of kept) i ≡ (get_or kept i d).place
      at d i less = get_or-map (λ (k : Kept). k.place) kept i d 0 less

      d : Kept
      d = record { place = 0; value = 0 }

      go : (i : ℕ) → i < length kept → slice_index (places_of kept) i ≡ place → (i < near) ⊎ (near ≤ i) → (near < i) ⊎ (i ≤ near) → ⊥
      go i less same (inl below) q = (let e = at d i less in let h = point.0 i d (omega arith) below in grind (arith, nat_tests, h, e, same))
      go i less same (inr low) (inr high) = other (omega (arith, less, low)) (ap (slice_index (places_of kept)) (omega (arith, low, high)) ∙ same)
      go i less same (inr low) (inl after) =
          (let e = at d near (omega (arith, less, after)) in let h = point.1 near d (omega arith) (omega (arith, less, after)) in
          let r = are.rising near i after (let l = length-map kept (λ (k : Kept). k.place) in omega (arith, l, less)) in grind (arith, nat_tests, h, e, r, same))

-- the places below a number are those of what is kept before the point
module _ (kept : List Kept) (count number near : ℕ) (are : AreKept count kept) (inside : near ≤ length kept)
    (point : IsPartitionPoint (λ (k : Kept). ltb k.place number ≡ true) (λ (k : Kept). ltb k.place number ≡ false) kept near) where
  pub set_places : take near (places_of kept) ≡ set_below number (whole_list count kept)
  set_places = rising_all (λ e. nat_lt 0 (slice_index (whole_list count kept) e)) number (take near (places_of kept)) below rising meant (λ m less is. among m less is (stands (places_of kept) m))
    where
      d : Kept
      d = record { place = 0; value = 0 }

      long : length (places_of kept) ≡ length kept
      long = length-map kept (λ (k : Kept). k.place)

      long_front : length (take near (places_of kept)) ≡ near
      long_front = length-take-le near (places_of kept) (let l = long in omega (arith, l, inside))

      front : (i : ℕ) → i < near → slice_index (take near (places_of kept)) i ≡ slice_index (places_of kept) i
      front i less = get_or-take near (places_of kept) i 0 less

      at : (i : ℕ) → i < length kept → slice_index (places_of kept) i ≡ (get_or kept i d).place
      at i less = get_or-map (λ (k : Kept). k.place) kept i d 0 less

      below : AllBelow number (take near (places_of kept))
      below i less =
          let i_in : i < near = (let l = long_front in omega (arith, l, less)) in
          (let f = front i i_in in let e = at i (omega (arith, i_in, inside)) in let h = point.0 i d (omega arith) i_in in grind (arith, nat_tests, h, e, f))

      rising : Rise (take near (places_of kept))
      rising i j before less =
          let j_in : j < near = (let l = long_front in omega (arith, l, less)) in
          (let f = front i (omega (arith, before, j_in)) in let g = front j j_in in let r = are.rising i j before (let l = long in omega (arith, l, j_in, inside)) in omega (arith, f, g, r))

      meant : (i : ℕ) → i < length (take near (places_of kept)) → nat_lt 0 (slice_index (whole_list count kept) (slice_index (take near (places_of kept)) i)) ≡ true
      meant i less =
          let i_in : i < near = (let l = long_front in omega (arith, l, less)) in
          let there : i < length (places_of kept) = (let l = long in omega (arith, l, i_in, inside)) in
          let value : slice_index (whole_list count kept) (slice_index (take near (places_of kept)) i) ≡ slice_index (values_of kept) i =
          ap (slice_index (whole_list count kept)) (front i i_in) ∙ at_place kept count are i there in
          (let s = are.some i (let m = many kept in omega (arith, m, there)) in grind (arith, nat_tests, value, s))

      among : (m : ℕ) → m < number → nat_lt 0 (slice_index (whole_list count kept) m) ≡ true
          → ((i : ℕ) × (i < length (places_of kept)) × (slice_index (places_of kept) i ≡ m)) ⊎ ((i : ℕ) → i < length (places_of kept) → slice_index (places_of kept) i ≢ m)
          → IsAmong (take near (places_of kept)) m
      among m less is (inr nowhere) = absurd (let z = at_none kept count are m nowhere in grind (arith, nat_tests, z, is))
      among m less is (inl found) = go found.0 found.1 found.2 (cases_lt found.0 near)
        where
          go : (i : ℕ) → i < length (places_of kept) → slice_index (places_of kept) i ≡ m → (i < near) ⊎ (near ≤ i) → IsAmong (take near (places_of kept)) m
          go i i_in same (inl before) = (i, (let l = long_front in omega (arith, l, before)), front i before ∙ same)
          go i i_in same (inr past) =
              absurd (let l = long in let e = at i (omega (arith, l, i_in)) in let h = point.1 i d past (omega (arith, l, i_in)) in grind (arith, nat_tests, h, e, same, less))
