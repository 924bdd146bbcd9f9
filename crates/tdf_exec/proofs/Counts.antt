-- How many entries of a sorted plan have an offset.
use Rattle.std.proofs.Common.{◌≡◌, ◌∙◌, ℕ, zero, suc, ◌+◌, ◌-◌, ◌<◌, ◌≤◌, Bool, true, false, List, [], ◌∷◌, Option, Some, None, length, length-drop, drop, get_or, nat_eq, refl, sym, ap, subst, arith}
use Rattle.std.proofs.lemmas.Bool.{eq-eqb, ne_eqb}
use Rattle.std.proofs.lemmas.List.Sums.{count_by-le-length, sum_by-cons}
use Rattle.std.proofs.lemmas.Option.{get_or_from_slice_get, slice_get-get_or, slice_get_within}
use Rattle.std.specs.List.{count_by}
use Rattle.std.specs.Prelude.{cond, slice_get}
use Rattle.tdf_convert.specs.Sampled.{AreByOffset}
use Rattle.tdf_exec.specs.Cluster.{ClusterOf, due_count, due_from, is_next_due, is_offset, next_offset, offset_in}
use Rattle.tdf_exec.specs.Played.{IsMoved}
use Rattle.tdf_schedule.specs.declared.entry.Entry.{Entry}

-- those that pass are those from one place up to another
count_range : {A : Type 0} (p : A → Bool) (xs : List A) (low high : ℕ) → high ≤ length xs
    → ((j : ℕ) (x : A) → low ≤ j → j < high → slice_get xs j ≡ Some x → p x ≡ true)
    → ((j : ℕ) (x : A) → j < low → slice_get xs j ≡ Some x → p x ≡ false)
    → ((j : ℕ) (x : A) → high ≤ j → slice_get xs j ≡ Some x → p x ≡ false)
    → count_by p xs ≡ high - low
count_range p [] low high within inner lower upper = omega (arith, within)
count_range p (x ∷ xs) low zero within inner lower upper =
    let a = sum_by-cons (λ z. cond {A = ℕ} (p z) 1 0) x xs in
    let b : cond {A = ℕ} (p x) 1 0 ≡ 0 = ap (λ (o : Bool). cond {A = ℕ} o 1 0) (upper 0 x (omega arith) refl) in
    let r = count_range p xs 0 0 (omega arith) (λ j y l h at. absurd (omega (arith, h))) (λ j y l at. absurd (omega (arith, l))) (λ j y l at. upper (suc j) y (omega arith) at) in
    omega (arith, a, b, r)
count_range p (x ∷ xs) zero (suc high) within inner lower upper =
    let a = sum_by-cons (λ z. cond {A = ℕ} (p z) 1 0) x xs in
    let b : cond {A = ℕ} (p x) 1 0 ≡ 1 = ap (λ (o : Bool). cond {A = ℕ} o 1 0) (inner 0 x (omega arith) (omega arith) refl) in
    let r = count_range p xs 0 high (omega (arith, within)) (λ j y l h at. inner (suc j) y (omega arith) (omega (arith, h)) at) (λ j y l at. absurd (omega (arith, l)))
    (λ j y l at. upper (suc j) y (omega (arith, l)) at) in
    omega (arith, a, b, r)
count_range p (x ∷ xs) (suc low) (suc high) within inner lower upper =
    let a = sum_by-cons (λ z. cond {A = ℕ} (p z) 1 0) x xs in
    let b : cond {A = ℕ} (p x) 1 0 ≡ 0 = ap (λ (o : Bool). cond {A = ℕ} o 1 0) (lower 0 x (omega arith) refl) in
    let r = count_range p xs low high (omega (arith, within)) (λ j y l h at. inner (suc j) y (omega (arith, l)) (omega (arith, h)) at)
    (λ j y l at. lower (suc j) y (omega (arith, l)) at) (λ j y l at. upper (suc j) y (omega (arith, l)) at) in
    omega (arith, a, b, r)

get_drop : {A : Type 0} (n : ℕ) (xs : List A) (j : ℕ) → slice_get (drop n xs) j ≡ slice_get xs (n + j)
get_drop zero xs j = let e : j ≡ 0 + j = omega arith in ap (slice_get xs) e
get_drop (suc n) [] j = refl
get_drop (suc n) (x ∷ xs) j = let e : suc (n + j) ≡ suc n + j = omega arith in get_drop n xs j ∙ ap (slice_get (x ∷ xs)) e

module _ (place offset low high : ℕ) (entries : List Entry)
    (before : (j : ℕ) (x : Entry) → j < low → slice_get entries j ≡ Some x → x.offset < offset)
    (from : (j : ℕ) (x : Entry) → low ≤ j → slice_get entries j ≡ Some x → offset ≤ x.offset)
    (upto : (j : ℕ) (x : Entry) → j < high → slice_get entries j ≡ Some x → x.offset ≤ offset)
    (after : (j : ℕ) (x : Entry) → high ≤ j → slice_get entries j ≡ Some x → offset < x.offset) (within : high ≤ length entries) where
  -- from a place on
  pub due_is : due_from place offset entries ≡ high - place - (low - place)
  unfolding due_from
  due_is = count_range (λ (x : Entry). nat_eq x.offset offset) (drop place entries) (low - place) (high - place)
      (let l = length-drop place entries in omega (arith, l, within))
      (λ j x l h at. eq-eqb _ _ (let a = from (place + j) x (omega (arith, l)) (sym (get_drop place entries j) ∙ at) in let b = upto (place + j) x (omega (arith, h)) (sym (get_drop place entries j) ∙ at) in omega (arith, a, b)))
      (λ j x l at. ne_eqb _ _ (λ same. let a = before (place + j) x (omega (arith, l)) (sym (get_drop place entries j) ∙ at) in absurd (omega (arith, a, same))))
      (λ j x l at. ne_eqb _ _ (λ same. let a = after (place + j) x (omega (arith, l)) (sym (get_drop place entries j) ∙ at) in absurd (omega (arith, a, same))))

-- the entries that have the offset of the next one are those up to the first that hasn't
module _ (place offset high : ℕ) (entries : List Entry) (sorted : AreByOffset entries) (next : offset_in (slice_get entries place) ≡ Some offset)
    (up : place ≤ high) (within : high ≤ length entries) (over : is_offset (offset_in (slice_get entries high)) offset ≡ false)
    (each : (i : ℕ) (x : Entry) → place ≤ i → i < high → slice_get entries i ≡ Some x → x.offset ≡ offset) where
  offset_at : (o : Option Entry) (y : Entry) → o ≡ Some y → offset_in o ≡ Some offset → y.offset ≡ offset
  offset_at None y is so = absurd cc
  offset_at (Some x) y is so = cc

  later : (j : ℕ) (x : Entry) → high ≤ j → slice_get entries j ≡ Some x → nat_eq x.offset offset ≡ false
  later j x past at =
      let inside = slice_get_within entries j x at in
      let first = slice_get-get_or entries place x (omega (arith, up, past, inside)) in
      let last = slice_get-get_or entries high x (omega (arith, past, inside)) in
      let here : (get_or entries j x).offset ≡ x.offset = ap (λ (y : Entry). y.offset) (get_or_from_slice_get entries j x x at) in
      let low = sorted place high x up (omega (arith, past, inside)) in
      let most = sorted high j x past inside in
      let at_first = offset_at (slice_get entries place) (get_or entries place x) first next in
      let not : nat_eq (get_or entries high x).offset offset ≡ false = ap (λ o. is_offset (offset_in o) offset) (sym last) ∙ over in
      ne_eqb _ _ (λ same. absurd (true_not_false (sym (eq-eqb _ _ (omega (arith, low, most, here, at_first, same))) ∙ not)))
    where
      true_not_false : true ≡ false → ⊥
      true_not_false is = absurd cc

  pub done_count : due_from place offset entries ≡ high - place
  unfolding due_from
  done_count = count_range (λ (x : Entry). nat_eq x.offset offset) (drop place entries) 0 (high - place)
      (let l = length-drop place entries in omega (arith, l, within))
      (λ j x l h at. eq-eqb _ _ (each (place + j) x (omega arith) (omega (arith, h)) (sym (get_drop place entries j) ∙ at)))
      (λ j x l at. absurd (omega (arith, l)))
      (λ j x l at. later (place + j) x (omega (arith, l)) (sym (get_drop place entries j) ∙ at)) ∙ omega arith

-- there are no more of them than entries are left
pub few_due : (place offset : ℕ) (entries : List Entry) → due_from place offset entries ≤ length entries - place
unfolding due_from
few_due place offset entries =
    let most = count_by-le-length (λ (x : Entry). nat_eq x.offset offset) (drop place entries) in
    let l = length-drop place entries in omega (arith, most, l)

-- so a cluster has done as many as its place has moved on by
pub done_here : (offset : ℕ) (c d : ClusterOf) → AreByOffset c.entries → next_offset c ≡ Some offset → IsMoved c d
    → ((i : ℕ) (x : Entry) → c.place ≤ i → i < d.place → slice_get c.entries i ≡ Some x → x.offset ≡ offset)
    → is_next_due d offset ≡ false → d.place - c.place ≡ due_count c offset
done_here offset c d sorted next moved each over =
    let same : d.entries ≡ c.entries = ap (λ (x : ClusterOf). x.entries) moved.rest in
    let ended : is_offset (offset_in (slice_get c.entries d.place)) offset ≡ false =
    subst (λ (l : List Entry). is_offset (offset_in (slice_get l d.place)) offset ≡ false) same over in
    sym (done_count c.place offset d.place c.entries sorted next moved.up moved.within ended each)
