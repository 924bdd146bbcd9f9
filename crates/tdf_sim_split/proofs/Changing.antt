-- The column of an event signal shows its changes.
use Rattle.std.proofs.Common.{◌≡◌, ◌≢◌, ◌∙◌, ◌<◌, ◌≤◌, ◌+◌, ◌-◌, ◌++◌, ◌&&◌, ℕ, zero, suc, Bool, true, false, if◌then◌else◌, nat_eq, Option, Some, None, option_map, List, [], ◌∷◌, map, refl, ap, sym, subst, inl, inr, arith}
use Rattle.std.proofs.lemmas.Bool.{cases_eq, eq-eqb, ne_eqb}
use Rattle.std.proofs.lemmas.Bool.Decides.{Decides-int_eq}
use Rattle.std.specs.Ordering.{int_eq}
use Rattle.std.specs.Prelude.{ℤ, unwrap_or}
use Rattle.tdf_fixed.specs.declared.raw.Raw.{Raw}
use Rattle.tdf_saved.specs.declared.state.Stamp.{Stamp as SavedStamp}
use Rattle.tdf_sim_history.specs.Cells.{cell_or, changed_cell, is_same_value}
use Rattle.tdf_sim_history.specs.Columns.{Stamp, stamp_at}
use Rattle.tdf_sim_resumed.specs.Snapshot.{stamp_of_cell}
use Rattle.tdf_sim_split.proofs.Rises.{found_in}
use Rattle.tdf_sim_split.specs.Columns.{StandRising}
use Rattle.tdf_streams.proofs.Api.{some_same}
use Rattle.tdf_trace_rows.proofs.Api.{last_more}
use Rattle.tdf_trace_rows.specs.Rows.{Cells, last}
use Rattle.tdf_trace_states.specs.Windows.{AreChangesTo}

-- what a column shows just before a time, as a number
abbrev pub shown_num : Cells → (column time : ℕ) → Option ℤ
shown_num cells column time = option_map (λ (v : Raw). v.num) (last cells column time)

-- a cell that shows a change
pub data IsChange (cells : Cells) (column t : ℕ) : Type 0 where
  Same : cells.at column t ≡ None → IsChange cells column t
  Other : (v : Raw) → cells.at column t ≡ Some (Some v) → shown_num cells column t ≢ Some v.num → IsChange cells column t

abbrev pub number_of : SavedStamp → ℤ
number_of x = x.num

module _ (cells : Cells) (column : ℕ) where
  -- its changes from a time on lead to what it shows in the end
  pub changes_to : (n a : ℕ) (x y : ℤ) → shown_num cells column a ≡ Some x → shown_num cells column (a + n) ≡ Some y → ((t : ℕ) → a ≤ t → t < a + n → IsChange cells column t)
      → AreChangesTo x (map number_of (found_in (cells.at column) a n)) y
  unfolding AreChangesTo
  changes_to zero a x y here there each = let z : a + 0 ≡ a = omega arith in some_same x y (sym here ∙ sym (ap (shown_num cells column) z) ∙ there)
  changes_to (suc n) a x y here there each = go (λ k next. changes_to n (a + 1) k y next (let z : a + 1 + n ≡ a + suc n = omega arith in ap (shown_num cells column) z ∙ there) (λ t low high. each t (omega (arith, low)) (omega (arith, high)))) (each a (omega arith) (omega arith))
    where
      go : ((k : ℤ) → shown_num cells column (a + 1) ≡ Some k → AreChangesTo k (map number_of (found_in (cells.at column) (a + 1) n)) y) → IsChange cells column a
          → AreChangesTo x (map number_of (stamp_of_cell a (cells.at column a) ++ found_in (cells.at column) (a + 1) n)) y
      go rest (Same none) = subst (λ o. AreChangesTo x (map number_of (stamp_of_cell a o ++ found_in (cells.at column) (a + 1) n)) y) (sym none)
          (rest x (ap (option_map (λ (v : Raw). v.num)) (last_more cells column a ∙ ap (λ (o : Option (Option Raw)). unwrap_or o (last cells column a)) none) ∙ here))
      go rest (Other v at other) = subst (λ o. AreChangesTo x (map number_of (stamp_of_cell a o ++ found_in (cells.at column) (a + 1) n)) y) (sym at)
          ((λ e. other (here ∙ ap Some e)), rest v.num (ap (option_map (λ (u : Raw). u.num)) (last_more cells column a ∙ ap (λ (o : Option (Option Raw)). unwrap_or o (last cells column a)) at)))

-- ---- values that settle

both_true : (p q : Bool) → p ≡ true → q ≡ true → (p && q) ≡ true
both_true p q first second = ap (λ b. b && q) first ∙ second

one_true : (p q : Bool) → (p && q) ≡ true → p ≡ true
one_true true q is = refl
one_true false q is = is

-- two values that aren't the same have different numbers, where they have as many places
other_number : (a b : Raw) → a.frac ≡ b.frac → is_same_value a b ≡ false → a.num ≢ b.num
other_number a b frac other num = absurd (let e : true ≡ false = sym (both_true (int_eq a.num b.num) (nat_eq a.frac b.frac) ((Decides-int_eq a.num b.num).1 num) (eq-eqb a.frac b.frac frac)) ∙ other in cc)

same_number : (a b : Raw) → is_same_value a b ≡ true → a.num ≡ b.num
same_number a b is = (Decides-int_eq a.num b.num).0 (one_true (int_eq a.num b.num) (nat_eq a.frac b.frac) is)

-- a column whose cells from a time on are where a value changes, of numbers with as many places
module _ (cells : Cells) (column begin end : ℕ) (value : ℕ → Raw) (settles : (t : ℕ) → begin ≤ t → t < end → cells.at column t ≡ changed_cell (value t) (value (t + 1)))
    (places : (t : ℕ) → begin ≤ t → t < end → (value t).frac ≡ (value (t + 1)).frac) (begins : shown_num cells column begin ≡ Some (value begin).num) where
  next_shown : (t : ℕ) → begin ≤ t → t < end → shown_num cells column t ≡ Some (value t).num → shown_num cells column (t + 1) ≡ Some (value (t + 1)).num
  next_shown t low high here =
      ap (option_map (λ (v : Raw). v.num)) (last_more cells column t ∙ ap (λ (o : Option (Option Raw)). unwrap_or o (last cells column t)) (settles t low high))
      ∙ go (is_same_value (value t) (value (t + 1))) refl
    where
      go : (b : Bool) → is_same_value (value t) (value (t + 1)) ≡ b
          → option_map (λ (v : Raw). v.num) (unwrap_or (if b then None else Some (Some (value (t + 1)))) (last cells column t)) ≡ Some (value (t + 1)).num
      go true same = here ∙ ap Some (same_number (value t) (value (t + 1)) same)
      go false other = refl

  -- it shows the value
  pub value_shown : (n : ℕ) → begin + n ≤ end → shown_num cells column (begin + n) ≡ Some (value (begin + n)).num
  value_shown zero low = let z : begin ≡ begin + 0 = omega arith in subst (λ t. shown_num cells column t ≡ Some (value t).num) z begins
  value_shown (suc n) low =
      let z : begin + n + 1 ≡ begin + suc n = omega arith in
      subst (λ t. shown_num cells column t ≡ Some (value t).num) z (next_shown (begin + n) (omega arith) (omega (arith, low)) (value_shown n (omega (arith, low))))

  pub value_at : (t : ℕ) → begin ≤ t → t ≤ end → shown_num cells column t ≡ Some (value t).num
  value_at t low high = let z : begin + (t - begin) ≡ t = omega (arith, low) in subst (λ u. shown_num cells column u ≡ Some (value u).num) z (value_shown (t - begin) (omega (arith, z, high)))

  -- and each cell is a change
  pub value_changes : (t : ℕ) → begin ≤ t → t < end → IsChange cells column t
  value_changes t low high = go (is_same_value (value t) (value (t + 1))) refl
    where
      go : (b : Bool) → is_same_value (value t) (value (t + 1)) ≡ b → IsChange cells column t
      go true same = Same (settles t low high ∙ ap (λ (b : Bool). if b then None else Some (Some (value (t + 1)))) same)
      go false other = Other (value (t + 1)) (settles t low high ∙ ap (λ (b : Bool). if b then None else Some (Some (value (t + 1)))) other)
          (λ e. other_number (value t) (value (t + 1)) (places t low high) other (some_same (value t).num (value (t + 1)).num (sym (value_at t low (omega (arith, high))) ∙ e)))

-- ---- samples that stand at their times

-- no sample stands before them
pub stamp_none : (from end t : ℕ) (xs : List Stamp) → StandRising from xs end → t < from → stamp_at xs t ≡ None
stamp_none from end t [] rising low = refl
stamp_none from end t (x ∷ xs) rising low =
    let l = rising.0 in
    ap (λ b. if b then Some x.value else stamp_at xs t) (ne_eqb x.time t (λ e. omega (arith, e, l, low)))
    ∙ stamp_none (x.time + 1) end t xs rising.1 (omega (arith, l, low))

-- from a time on a column shows changes, up to a number at the end
pub record ShowsChanges (cells : Cells) (column a end : ℕ) (y : ℤ) : Type 0 where
  pub each : (t : ℕ) → a ≤ t → t < end → IsChange cells column t
  pub some : (t : ℕ) → a ≤ t → t ≤ end → (k : ℤ) × (shown_num cells column t ≡ Some k)
  pub final : shown_num cells column end ≡ Some y

module _ (cells : Cells) (column end : ℕ) where
  one_more : (a : ℕ) (x y : ℤ) → shown_num cells column a ≡ Some x → IsChange cells column a → ShowsChanges cells column (a + 1) end y → ShowsChanges cells column a end y
  one_more a x y here change rest = record {
    each = λ t low high. elim (cases_eq t a) [
      | inl same ↦ subst (IsChange cells column) (sym same) change
      | inr apart ↦ rest.each t (omega (arith, low, apart)) high
    ];
    some = λ t low high. elim (cases_eq t a) [
      | inl same ↦ (x, ap (shown_num cells column) same ∙ here)
      | inr apart ↦ rest.some t (omega (arith, low, apart)) high
    ];
    final = rest.final;
  }

  pub stamps_change : (n a : ℕ) (x y : ℤ) (xs : List Stamp) → a + n ≡ end → StandRising a xs end → ((t : ℕ) → a ≤ t → t < end → cells.at column t ≡ cell_or (stamp_at xs t) None) → AreChangesTo x (map (λ (z : Stamp). z.value.num) xs) y
      → shown_num cells column a ≡ Some x → ShowsChanges cells column a end y
  unfolding AreChangesTo
  stamps_change zero a x y (z ∷ zs) sum rising is changes here = absurd (let l = rising.0 in let r = stand_end (z.time + 1) zs rising.1 in omega (arith, sum, l, r))
    where
      stand_end : (from : ℕ) (zs : List Stamp) → StandRising from zs end → from ≤ end
      stand_end from [] rising = rising
      stand_end from (u ∷ us) rising = let l = rising.0 in let r = stand_end (u.time + 1) us rising.1 in omega (arith, l, r)
  stamps_change zero a x y [] sum rising is changes here =
      let e : a ≡ end = omega (arith, sum) in
      record {
        each = λ t low high. absurd (omega (arith, low, high, e));
        some = λ t low high. (let z : t ≡ a = omega (arith, low, high, e) in (x, ap (shown_num cells column) z ∙ here));
        final = ap (shown_num cells column) (sym e) ∙ here ∙ ap Some changes;
      }
  stamps_change (suc n) a x y [] sum rising is changes here =
      let none = is a (omega arith) (omega (arith, sum)) in
      one_more a x y here (Same none) (stamps_change n (a + 1) x y [] (omega (arith, sum)) (omega (arith, sum)) (λ t low high. is t (omega (arith, low)) high) changes
      (ap (option_map (λ (v : Raw). v.num)) (last_more cells column a ∙ ap (λ (o : Option (Option Raw)). unwrap_or o (last cells column a)) none) ∙ here))
  stamps_change (suc n) a x y (z ∷ zs) sum rising is changes here = elim (cases_eq z.time a) [
    | inl same ↦ (
        let at : cells.at column a ≡ Some (Some z.value) = is a (omega arith) (omega (arith, sum)) ∙ ap (λ b. cell_or (if b then Some z.value else stamp_at zs a) None) (eq-eqb z.time a same) in
        one_more a x y here (Other z.value at (λ e. changes.0 (some_same x z.value.num (sym here ∙ e))))
        (stamps_change n (a + 1) z.value.num y zs (omega (arith, sum)) (subst (λ k. StandRising (k + 1) zs end) same rising.1)
        (λ t low high. is t (omega (arith, low)) high ∙ ap (λ b. cell_or (if b then Some z.value else stamp_at zs t) None) (ne_eqb z.time t (λ e. omega (arith, e, same, low))))
        changes.1 (ap (option_map (λ (v : Raw). v.num)) (last_more cells column a ∙ ap (λ (o : Option (Option Raw)). unwrap_or o (last cells column a)) at))))
    | inr apart ↦ (
        let l = rising.0 in
        let none : cells.at column a ≡ None = is a (omega arith) (omega (arith, sum)) ∙ ap (λ o. cell_or o None) (stamp_none (a + 1) end a (z ∷ zs) (omega (arith, l, apart), rising.1) (omega arith)) in
        one_more a x y here (Same none) (stamps_change n (a + 1) x y (z ∷ zs) (omega (arith, sum)) (omega (arith, l, apart), rising.1) (λ t low high. is t (omega (arith, low)) high) changes
        (ap (option_map (λ (v : Raw). v.num)) (last_more cells column a ∙ ap (λ (o : Option (Option Raw)). unwrap_or o (last cells column a)) none) ∙ here)))
  ]
