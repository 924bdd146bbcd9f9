-- How many entries of a cluster are due.
use Rattle.std.proofs.Common.{◌≡◌, ◌∙◌, ℕ, zero, suc, ◌+◌, ◌-◌, ◌<◌, ◌≤◌, inl, inr, Bool, true, false, List, [], ◌∷◌, Some, length, length-drop, drop, nat_eq, refl, sym, ap, subst, arith}
use Rattle.std.proofs.lemmas.Bool.{eq-eqb, cases_lt, eqb-true, ne_eqb}
use Rattle.std.proofs.lemmas.List.Sums.{sum_by-cons}
use Rattle.std.proofs.lemmas.Option.{get_or_from_slice_get, slice_get_past, slice_get_within}
use Rattle.std.specs.List.{count_by}
use Rattle.std.specs.Prelude.{cond, slice_get}
use Rattle.tdf_convert.specs.Sampled.{AreByOffset}
use Rattle.tdf_exec.specs.Cluster.{due_from}
use Rattle.tdf_streams.proofs.Api.{get_inside}
use Rattle.tdf_sim_history.specs.Instant.{is_entry_due}
use Rattle.tdf_sim_history.specs.World.{ClusterAt}
use Rattle.tdf_sim_refinement.specs.Firings.{AreDueNext, IsNotLate}
use Rattle.tdf_sim_refinement.specs.Laws.{DueAreCounted}
use Rattle.tdf_schedule.specs.declared.entry.Entry.{Entry}

pub true_false : true ≡ false → ⊥
true_false h = subst (λ b. elim b as (λ _. Type 0) [ true ↦ Unit {0} | false ↦ ⊥ ]) h tt

-- those that pass are the first ones
count_front : {A : Type 0} (p : A → Bool) (xs : List A) (k : ℕ) → k ≤ length xs
    → ((j : ℕ) (x : A) → j < k → slice_get xs j ≡ Some x → p x ≡ true)
    → ((j : ℕ) (x : A) → k ≤ j → slice_get xs j ≡ Some x → p x ≡ false)
    → count_by p xs ≡ k
count_front p [] k within front back = omega (arith, within)
count_front p (x ∷ xs) zero within front back =
    let a = sum_by-cons (λ z. cond {A = ℕ} (p z) 1 0) x xs in
    let b : cond {A = ℕ} (p x) 1 0 ≡ 0 = ap (λ (o : Bool). cond {A = ℕ} o 1 0) (back 0 x (omega arith) refl) in
    let r = count_front p xs 0 (omega arith) (λ j y l at. absurd (omega (arith, l))) (λ j y l at. back (suc j) y (omega arith) at) in
    omega (arith, a, b, r)
count_front p (x ∷ xs) (suc k) within front back =
    let a = sum_by-cons (λ z. cond {A = ℕ} (p z) 1 0) x xs in
    let b : cond {A = ℕ} (p x) 1 0 ≡ 1 = ap (λ (o : Bool). cond {A = ℕ} o 1 0) (front 0 x (omega arith) refl) in
    let r = count_front p xs k (omega (arith, within)) (λ j y l at. front (suc j) y (omega (arith, l)) at) (λ j y l at. back (suc j) y (omega (arith, l)) at) in
    omega (arith, a, b, r)

all_more : (P : ℕ → Type 0) (k : ℕ) → ((i : ℕ) → i < k → P i) → P k → (i : ℕ) → i < suc k → P i
all_more P k low next i less = elim (cases_lt i k) [ inl under ↦ low i under | inr over ↦ (let e : k ≡ i = omega (arith, less, over) in subst P e next) ]

-- a plan by offset
pub by_offset : (entries : List Entry) (i j : ℕ) (x y : Entry) → AreByOffset entries → i ≤ j → slice_get entries i ≡ Some x → slice_get entries j ≡ Some y → x.offset ≤ y.offset
by_offset entries i j x y sorted low at to =
    let s = sorted i j x low (slice_get_within entries j y to) in
    let a = ap (λ (z : Entry). z.offset) (get_or_from_slice_get entries i x x at) in
    let b = ap (λ (z : Entry). z.offset) (get_or_from_slice_get entries j y x to) in omega (arith, s, a, b)

get_drop : {A : Type 0} (n : ℕ) (xs : List A) (j : ℕ) → slice_get (drop n xs) j ≡ slice_get xs (n + j)
get_drop zero xs j = let e : j ≡ 0 + j = omega arith in ap (slice_get xs) e
get_drop (suc n) [] j = refl
get_drop (suc n) (x ∷ xs) j = let e : suc (n + j) ≡ suc n + j = omega arith in get_drop n xs j ∙ ap (slice_get (x ∷ xs)) e

module _ (time : ℕ) (h : ClusterAt) where
  -- an entry that is due has the offset
  pub offset_is : (x : Entry) → is_entry_due time h (Some x) ≡ true → x.offset ≡ time - h.since
  offset_is x due = let e = eqb-true time (h.since + x.offset) due in omega (arith, e)

  pub is_due_by : (x : Entry) → h.since ≤ time → x.offset ≡ time - h.since → is_entry_due time h (Some x) ≡ true
  is_due_by x begun e = let z : time ≡ h.since + x.offset = omega (arith, begun, e) in eq-eqb time (h.since + x.offset) z

  -- there is a number of entries that are due
  more : (k : ℕ) → h.place + k < length h.entries → ((i : ℕ) → i < k → is_entry_due time h (slice_get h.entries (h.place + i)) ≡ true)
      → ((((i : ℕ) → i < suc k → is_entry_due time h (slice_get h.entries (h.place + i)) ≡ true)) → (m : ℕ) × AreDueNext time m h)
      → (b : Bool) → is_entry_due time h (slice_get h.entries (h.place + k)) ≡ b → (m : ℕ) × AreDueNext time m h
  more k inside due rest true next = rest (all_more (λ i. is_entry_due time h (slice_get h.entries (h.place + i)) ≡ true) k due next)
  more k inside due rest false next = (k, record { within = omega (arith, inside); due = due; last = next })

  pub some_next : (d k : ℕ) → h.place + k + d ≡ length h.entries → ((i : ℕ) → i < k → is_entry_due time h (slice_get h.entries (h.place + i)) ≡ true) → (m : ℕ) × AreDueNext time m h
  some_next zero k e due = (
    k,
    record {
      within = omega (arith, e);
      due = due;
      last = ap (is_entry_due time h) (slice_get_past h.entries (h.place + k) (omega (arith, e)));
    },
  )
  some_next (suc d) k e due = more k (omega (arith, e)) due (λ next. some_next d (suc k) (omega (arith, e)) next)
      (is_entry_due time h (slice_get h.entries (h.place + k))) refl

  -- no entry after them is due, in a plan by offset
  module _ (sorted : AreByOffset h.entries) (not_late : IsNotLate time h) where
    reached : (k : ℕ) (z : Entry) → ((i : ℕ) → i < k → is_entry_due time h (slice_get h.entries (h.place + i)) ≡ true) → slice_get h.entries (h.place + k) ≡ Some z → time - h.since ≤ z.offset
    reached zero z due at = let e : h.place + 0 ≡ h.place = omega arith in
        let l = not_late.next z (ap (slice_get h.entries) (sym e) ∙ at) in omega (arith, l)
    reached (suc k) z due at =
        let inside = slice_get_within h.entries (h.place + suc k) z at in
        let x = get_inside h.entries (h.place + k) (omega (arith, inside)) in
        let same = offset_is x.0 (ap (is_entry_due time h) (sym x.1) ∙ due k (omega arith)) in
        let up = by_offset h.entries (h.place + k) (h.place + suc k) x.0 z sorted (omega arith) x.1 at in omega (arith, same, up)

    pub none_after : (k j : ℕ) (y : Entry) → AreDueNext time k h → k ≤ j → slice_get h.entries (h.place + j) ≡ Some y → y.offset ≡ time - h.since → ⊥
    none_after k j y due low at same =
        let inside = slice_get_within h.entries (h.place + j) y at in
        let z = get_inside h.entries (h.place + k) (omega (arith, inside, low)) in
        let up = by_offset h.entries (h.place + k) (h.place + j) z.0 y sorted (omega (arith, low)) z.1 at in
        let least = reached k z.0 due.due z.1 in
        let is : z.0.offset ≡ time - h.since = omega (arith, up, least, same) in
        true_false (sym (is_due_by z.0 not_late.begun is) ∙ ap (is_entry_due time h) (sym z.1) ∙ due.last)

    pub due_is : (k : ℕ) → AreDueNext time k h → due_from h.place (time - h.since) h.entries ≡ k
    unfolding due_from
    due_is k due = let inside = due.within in
        count_front (λ (x : Entry). nat_eq x.offset (time - h.since)) (drop h.place h.entries) k (let l = length-drop h.place h.entries in omega (arith, l, inside))
        (λ j x less at. (let z = sym (get_drop h.place h.entries j) ∙ at in eq-eqb x.offset (time - h.since) (offset_is x (ap (is_entry_due time h) (sym z) ∙ due.due j less))))
        (λ j x low at. (let z = sym (get_drop h.place h.entries j) ∙ at in ne_eqb x.offset (time - h.since) (none_after k j x due low z)))

pub due_counted : DueAreCounted
due_counted time h sorted inside not_late =
    let n = some_next time h (length h.entries - h.place) 0 (omega (arith, inside)) (λ i less. absurd (omega (arith, less))) in
    subst (λ m. AreDueNext time m h) (sym (due_is time h sorted not_late n.0 n.1)) n.1
