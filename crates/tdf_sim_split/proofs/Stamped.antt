-- The samples that a trace shows at times: which there are, and that their times rise.
use Rattle.std.proofs.Common.{◌≡◌, ◌≢◌, ◌∙◌, ◌<◌, ◌≤◌, ◌+◌, ℕ, zero, suc, Bool, true, false, nat_lt, if◌then◌else◌, Option, Some, None, List, [], ◌∷◌, ◌++◌, map, slice_get, refl, ap, sym, subst, inl, inr, arith}
use Rattle.std.proofs.lemmas.Bool.{cases_eq, cases_lt, eq-eqb, le-ltb, lt-ltb, ne_eqb}
use Rattle.std.specs.List.{flat_map, range_with_len}
use Rattle.std.specs.Prelude.{cond, filter}
use Rattle.tdf_fixed.specs.declared.raw.Raw.{Raw}
use Rattle.tdf_saved.specs.declared.state.Stamp.{Stamp as SavedStamp}
use Rattle.tdf_sim_history.proofs.Api.{AreRising}
use Rattle.tdf_sim_history.specs.Columns.{Stamp, stamp_at}
use Rattle.tdf_sim_resumed.specs.Snapshot.{stamp_of_cell}
use Rattle.tdf_streams.proofs.Api.{none_some, some_same}

-- those of some cells, at so many times from one on
abbrev pub stamps_in : (ℕ → Option (Option Raw)) → (from count : ℕ) → List SavedStamp
stamps_in cell from count = flat_map (λ time. stamp_of_cell time (cell time)) (range_with_len from count)

abbrev pub stamp_for : ℕ → Raw → SavedStamp
stamp_for time value = record { time = time; num = value.num }

-- one that is among them is the sample of a cell
pub record IsShown (cell : ℕ → Option (Option Raw)) (from count : ℕ) (x : SavedStamp) : Type 0 where
  pub value : Raw
  pub low : from ≤ x.time
  pub high : x.time < from + count
  pub there : cell x.time ≡ Some (Some value)
  pub num : x.num ≡ value.num

module _ (cell : ℕ → Option (Option Raw)) where
  pub shown_at : (from count i : ℕ) (x : SavedStamp) → slice_get (stamps_in cell from count) i ≡ Some x → IsShown cell from count x
  shown_at from zero i x at = none_some x at
  shown_at from (suc count) i x at = go (λ j there. wider (shown_at (from + 1) count j x there)) (cell from) refl i at
    where
      wider : IsShown cell (from + 1) count x → IsShown cell from (suc count) x
      wider w = record { value = w.value; low = (let l = w.low in omega (arith, l)); high = (let l = w.high in omega (arith, l)); there = w.there; num = w.num }

      go : ((j : ℕ) → slice_get (stamps_in cell (from + 1) count) j ≡ Some x → IsShown cell from (suc count) x)
          → (o : Option (Option Raw)) → cell from ≡ o → (j : ℕ) → slice_get (stamp_of_cell from o ++ stamps_in cell (from + 1) count) j ≡ Some x → IsShown cell from (suc count) x
      go rest None is j there = rest j there
      go rest (Some None) is j there = rest j there
      go rest (Some (Some value)) is zero there =
          let e : stamp_for from value ≡ x = some_same (stamp_for from value) x there in
          let t : from ≡ x.time = ap (λ (y : SavedStamp). y.time) e in
          record {
            value = value;
            low = omega (arith, t);
            high = omega (arith, t);
            there = ap cell (sym t) ∙ is;
            num = sym (ap (λ (y : SavedStamp). y.num) e);
          }
      go rest (Some (Some value)) is (suc j) there = rest j there

  -- and the sample of a cell is among them
  pub has_shown : (from count time : ℕ) (value : Raw) → from ≤ time → time < from + count → cell time ≡ Some (Some value) → (i : ℕ) × (slice_get (stamps_in cell from count) i ≡ Some (stamp_for time value))
  has_shown from zero time value low high is = absurd (omega (arith, low, high))
  has_shown from (suc count) time value low high is = elim (cases_eq from time) [
    | inl same ↦ (0, ap (λ o. slice_get (stamp_of_cell from o ++ stamps_in cell (from + 1) count) 0) (ap cell same ∙ is) ∙ ap (λ t. Some (stamp_for t value)) same)
    | inr apart ↦ later (has_shown (from + 1) count time value (omega (arith, low, apart)) (omega (arith, high)) is) (cell from)
  ]
    where
      later : (i : ℕ) × (slice_get (stamps_in cell (from + 1) count) i ≡ Some (stamp_for time value)) → (o : Option (Option Raw))
          → (i : ℕ) × (slice_get (stamp_of_cell from o ++ stamps_in cell (from + 1) count) i ≡ Some (stamp_for time value))
      later x None = x
      later x (Some None) = x
      later x (Some (Some first)) = (suc x.0, x.1)

  -- ---- as samples of a column's start

  module _ (f : SavedStamp → Stamp) (keeps : (x : SavedStamp) → (f x).time ≡ x.time) where
    -- one for a time
    pub stamp_there : (from count time : ℕ) (value : Raw) → from ≤ time → time < from + count → cell time ≡ Some (Some value) → stamp_at (map f (stamps_in cell from count)) time ≡ Some (f (stamp_for time value)).value
    stamp_there from zero time value low high is = absurd (omega (arith, low, high))
    stamp_there from (suc count) time value low high is = elim (cases_eq from time) [
      | inl same ↦ (
          ap (λ o. stamp_at (map f (stamp_of_cell from o ++ stamps_in cell (from + 1) count)) time) (ap cell same ∙ is)
          ∙ ap (λ b. if b then Some (f (stamp_for from value)).value else stamp_at (map f (stamps_in cell (from + 1) count)) time) (eq-eqb (f (stamp_for from value)).time time (keeps (stamp_for from value) ∙ same))
          ∙ ap (λ t. Some (f (stamp_for t value)).value) same)
      | inr apart ↦ later (stamp_there (from + 1) count time value (omega (arith, low, apart)) (omega (arith, high)) is) apart (cell from)
    ]
      where
        later : stamp_at (map f (stamps_in cell (from + 1) count)) time ≡ Some (f (stamp_for time value)).value → from ≢ time → (o : Option (Option Raw))
            → stamp_at (map f (stamp_of_cell from o ++ stamps_in cell (from + 1) count)) time ≡ Some (f (stamp_for time value)).value
        later rest apart None = rest
        later rest apart (Some None) = rest
        later rest apart (Some (Some first)) =
            ap (λ b. if b then Some (f (stamp_for from first)).value else stamp_at (map f (stamps_in cell (from + 1) count)) time) (ne_eqb (f (stamp_for from first)).time time (λ e. apart (sym (keeps (stamp_for from first)) ∙ e))) ∙ rest

    -- none for a time without one
    pub stamp_lacks : (from count time : ℕ) → ((value : Raw) → from ≤ time → time < from + count → cell time ≡ Some (Some value) → ⊥) → stamp_at (map f (stamps_in cell from count)) time ≡ None
    stamp_lacks from zero time none = refl
    stamp_lacks from (suc count) time none = go (stamp_lacks (from + 1) count time (λ value low high is. none value (omega (arith, low)) (omega (arith, high)) is)) (cell from) refl
      where
        go : stamp_at (map f (stamps_in cell (from + 1) count)) time ≡ None → (o : Option (Option Raw)) → cell from ≡ o → stamp_at (map f (stamp_of_cell from o ++ stamps_in cell (from + 1) count)) time ≡ None
        go rest None is = rest
        go rest (Some None) is = rest
        go rest (Some (Some first)) is =
            let apart : from ≢ time = (λ e. none first (omega (arith, e)) (omega (arith, e)) (ap cell (sym e) ∙ is)) in
            ap (λ b. if b then Some (f (stamp_for from first)).value else stamp_at (map f (stamps_in cell (from + 1) count)) time) (ne_eqb (f (stamp_for from first)).time time (λ e. apart (sym (keeps (stamp_for from first)) ∙ e))) ∙ rest

    -- those before an end rise up to it
    pub early_rise : (end from count low : ℕ) → low ≤ from → low ≤ end → AreRising low (map f (filter (λ (x : SavedStamp). nat_lt x.time end) (stamps_in cell from count))) end
    unfolding AreRising
    early_rise end from zero low within before = before
    early_rise end from (suc count) low within before =
        go (early_rise end (from + 1) count low (omega (arith, within)) before) (λ less. early_rise end (from + 1) count (from + 1) (omega arith) (omega (arith, less))) (cell from)
      where
        is_before : SavedStamp → Bool
        is_before x = nat_lt x.time end

        go : AreRising low (map f (filter is_before (stamps_in cell (from + 1) count))) end → (from < end → AreRising (from + 1) (map f (filter is_before (stamps_in cell (from + 1) count))) end)
            → (o : Option (Option Raw)) → AreRising low (map f (filter is_before (stamp_of_cell from o ++ stamps_in cell (from + 1) count))) end
        go rest later None = rest
        go rest later (Some None) = rest
        go rest later (Some (Some value)) = elim (cases_lt from end) [
          | inl less ↦ subst (λ b. AreRising low (map f (cond b (stamp_for from value ∷ filter is_before (stamps_in cell (from + 1) count)) (filter is_before (stamps_in cell (from + 1) count)))) end) (sym (lt-ltb from end less))
              ((let e = keeps (stamp_for from value) in omega (arith, e, within)), subst (λ t. AreRising (t + 1) (map f (filter is_before (stamps_in cell (from + 1) count))) end) (sym (keeps (stamp_for from value))) (later less))
          | inr past ↦ subst (λ b. AreRising low (map f (cond b (stamp_for from value ∷ filter is_before (stamps_in cell (from + 1) count)) (filter is_before (stamps_in cell (from + 1) count)))) end) (sym (le-ltb from end past)) rest
        ]

-- ---- those that a test keeps

-- one that is kept was there, and meets the test
pub kept_there : {A : Type 0} (f : A → Bool) (xs : List A) (i : ℕ) (x : A) → slice_get (filter f xs) i ≡ Some x → (j : ℕ) × (slice_get xs j ≡ Some x) × (f x ≡ true)
kept_there f [] i x at = none_some x at
kept_there {A} f (y ∷ ys) i x at = go (λ j there. kept_there f ys j x there) (f y) refl i at
  where
    more : (j : ℕ) × (slice_get ys j ≡ Some x) × (f x ≡ true) → (j : ℕ) × (slice_get (y ∷ ys) j ≡ Some x) × (f x ≡ true)
    more w = (suc w.0, w.1, w.2)

    go : ((j : ℕ) → slice_get (filter f ys) j ≡ Some x → (k : ℕ) × (slice_get ys k ≡ Some x) × (f x ≡ true)) → (b : Bool) → f y ≡ b → (j : ℕ)
        → slice_get (cond b (y ∷ filter f ys) (filter f ys)) j ≡ Some x → (k : ℕ) × (slice_get (y ∷ ys) k ≡ Some x) × (f x ≡ true)
    go rest true is zero there = (0, there, ap f (sym (some_same y x there)) ∙ is)
    go rest true is (suc j) there = more (rest j there)
    go rest false is j there = more (rest j there)

-- one that meets it is kept
pub there_kept : {A : Type 0} (f : A → Bool) (xs : List A) (i : ℕ) (x : A) → slice_get xs i ≡ Some x → f x ≡ true → (j : ℕ) × (slice_get (filter f xs) j ≡ Some x)
there_kept f [] i x at is = none_some x at
there_kept f (y ∷ ys) zero x at is = (0, ap (λ b. slice_get (cond b (y ∷ filter f ys) (filter f ys)) 0) (ap f (some_same y x at) ∙ is) ∙ at)
there_kept {A} f (y ∷ ys) (suc i) x at is = go (f y) (there_kept f ys i x at is)
  where
    go : (b : Bool) → (j : ℕ) × (slice_get (filter f ys) j ≡ Some x) → (j : ℕ) × (slice_get (cond b (y ∷ filter f ys) (filter f ys)) j ≡ Some x)
    go true w = (suc w.0, w.1)
    go false w = w
