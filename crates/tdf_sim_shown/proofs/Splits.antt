-- Samples at rising times, before a time and from it on.
use Rattle.std.proofs.Common.{◌≡◌, ◌∙◌, ◌<◌, ◌≤◌, ◌+◌, ◌-◌, ◌*◌, ◌++◌, ℕ, zero, suc, Bool, true, false, not, nat_lt, Some, List, [], ◌∷◌, length, map, slice_get, refl, ap, sym, subst, inl, inr, arith}
use Rattle.std.proofs.lemmas.Bool.{cases_lt, le-ltb, lt-ltb}
use Rattle.std.proofs.lemmas.List.Sums.{sum_by-cons}
use Rattle.std.specs.List.{count_by}
use Rattle.std.specs.Prelude.{cond, filter}
use Rattle.tdf_saved.specs.declared.state.Stamp.{Stamp as SavedStamp}
use Rattle.tdf_sim_history.proofs.Api.{first_time}
use Rattle.tdf_sim_history.specs.Columns.{Stamp, spans_to}
use Rattle.tdf_sim_shown.proofs.Rising.{above, tail}
use Rattle.tdf_streams.proofs.Api.{none_some, some_same}
use Rattle.tdf_trace_rows.specs.Positions.{AreChained, Span}
use Rattle.tdf_trace_states.specs.ColumnStates.{DoRise}

abbrev pub is_before : ℕ → SavedStamp → Bool
is_before t x = nat_lt x.time t

abbrev pub is_from : ℕ → SavedStamp → Bool
is_from t x = not (nat_lt x.time t)

none_low : (t : ℕ) (xs : List SavedStamp) → ((i : ℕ) (x : SavedStamp) → slice_get xs i ≡ Some x → t ≤ x.time) → filter (is_before t) xs ≡ []
none_low t [] high = refl
none_low t (x ∷ xs) high = ap (λ b. cond b (x ∷ filter (is_before t) xs) (filter (is_before t) xs)) (le-ltb x.time t (high 0 x refl)) ∙ none_low t xs (λ i y at. high (suc i) y at)

all_high : (t : ℕ) (xs : List SavedStamp) → ((i : ℕ) (x : SavedStamp) → slice_get xs i ≡ Some x → t ≤ x.time) → filter (is_from t) xs ≡ xs
all_high t [] high = refl
all_high t (x ∷ xs) high = ap (λ b. cond (not b) (x ∷ filter (is_from t) xs) (filter (is_from t) xs)) (le-ltb x.time t (high 0 x refl)) ∙ ap (λ l. x ∷ l) (all_high t xs (λ i y at. high (suc i) y at))

pub split_at : (t : ℕ) (xs : List SavedStamp) → DoRise xs → xs ≡ filter (is_before t) xs ++ filter (is_from t) xs
split_at t [] rise = refl
split_at t (x ∷ xs) rise = elim (cases_lt x.time t) [
  | inl low ↦ ap (λ l. x ∷ l) (split_at t xs (tail x xs rise))
      ∙ ap (λ b. cond b (x ∷ filter (is_before t) xs) (filter (is_before t) xs) ++ filter (is_from t) xs) (sym (lt-ltb x.time t low))
      ∙ ap (λ b. filter (is_before t) (x ∷ xs) ++ cond (not b) (x ∷ filter (is_from t) xs) (filter (is_from t) xs)) (sym (lt-ltb x.time t low))
  | inr high ↦ sym (ap (λ l. l ++ filter (is_from t) (x ∷ xs)) (none_low t (x ∷ xs) (λ i y at. all_later high i y at)) ∙ all_high t (x ∷ xs) (λ i y at. all_later high i y at))
]
  where
    all_later : t ≤ x.time → (i : ℕ) (y : SavedStamp) → slice_get (x ∷ xs) i ≡ Some y → t ≤ y.time
    all_later high zero y at = let e : x.time ≡ y.time = ap (λ (z : SavedStamp). z.time) (some_same x y at) in omega (arith, e, high)
    all_later high (suc i) y at = let a = above xs x rise i y at in omega (arith, a, high)

-- those that a test keeps are so many, and meet it
pub kept_count : {A : Type 0} (f : A → Bool) (xs : List A) → length (filter f xs) ≡ count_by f xs
kept_count f [] = refl
kept_count {A} f (x ∷ xs) = go (f x) refl (kept_count f xs)
  where
    go : (b : Bool) → f x ≡ b → length (filter f xs) ≡ count_by f xs → length (cond b (x ∷ filter f xs) (filter f xs)) ≡ count_by f (x ∷ xs)
    go true is r =
        let one : ◌≡◌ {A = ℕ} (cond (f x) 1 0) 1 = ap (λ b. cond b 1 0) is in
        let c : count_by f (x ∷ xs) ≡ cond (f x) 1 0 + count_by f xs = sum_by-cons (λ y. cond (f y) 1 0) x xs in omega (arith, one, r, c)
    go false is r =
        let none : ◌≡◌ {A = ℕ} (cond (f x) 1 0) 0 = ap (λ b. cond b 1 0) is in
        let c : count_by f (x ∷ xs) ≡ cond (f x) 1 0 + count_by f xs = sum_by-cons (λ y. cond (f y) 1 0) x xs in omega (arith, none, r, c)

pub kept_is : {A : Type 0} (f : A → Bool) (xs : List A) (i : ℕ) (x : A) → slice_get (filter f xs) i ≡ Some x → f x ≡ true
kept_is f [] i x at = none_some x at
kept_is {A} f (y ∷ ys) i x at = go (λ j there. kept_is f ys j x there) (f y) refl i at
  where
    go : ((j : ℕ) → slice_get (filter f ys) j ≡ Some x → f x ≡ true) → (b : Bool) → f y ≡ b → (j : ℕ) → slice_get (cond b (y ∷ filter f ys) (filter f ys)) j ≡ Some x → f x ≡ true
    go rest true is zero there = ap f (sym (some_same y x there)) ∙ is
    go rest true is (suc j) there = rest j there
    go rest false is j there = rest j there

-- the first part of a list that rises does, too
pub rise_front : (xs ys : List SavedStamp) → DoRise (xs ++ ys) → DoRise xs
rise_front xs ys rise i x y at next = rise i x y (in_front xs ys i x at) (in_front xs ys (i + 1) y next)
  where
    in_front : {A : Type 0} (xs ys : List A) (k : ℕ) (z : A) → slice_get xs k ≡ Some z → slice_get (xs ++ ys) k ≡ Some z
    in_front [] ys k z at = none_some z at
    in_front (x ∷ xs) ys zero z at = at
    in_front (x ∷ xs) ys (suc k) z at = in_front xs ys k z at

-- as samples of a column's start they are spans one after the other, and those of periods follow
pub rising_chain : (f : SavedStamp → Stamp) → ((x : SavedStamp) → (f x).time ≡ x.time) → (end : ℕ) (xs : List SavedStamp) (spans : List Span) → DoRise xs
    → ((i : ℕ) (x : SavedStamp) → slice_get xs i ≡ Some x → x.time < end) → AreChained end spans → AreChained (first_time (map f xs) end) (spans_to (map f xs) end ++ spans)
unfolding spans_to AreChained
rising_chain f same end [] spans rise inside chained = chained
rising_chain f same end (x ∷ []) spans rise inside chained =
    let e = same x in let b = inside 0 x refl in
    let z : end ≡ (f x).time + 1 * (end - (f x).time) = omega (arith, e, b) in
    (refl, omega (arith, e, b), subst (λ t. AreChained t spans) z chained)
rising_chain f same end (x ∷ (y ∷ ys)) spans rise inside chained =
    let e = same x in let g = same y in let b = above (y ∷ ys) x rise 0 y refl in
    let z : (f y).time ≡ (f x).time + 1 * ((f y).time - (f x).time) = omega (arith, e, g, b) in (
      refl,
      omega (arith, e, g, b),
      subst (λ t. AreChained t (spans_to (f y ∷ map f ys) end ++ spans)) z
          (rising_chain f same end (y ∷ ys) spans (tail x (y ∷ ys) rise) (λ i w at. inside (suc i) w at) chained),
    )
