-- The states of columns, and columns that go on from states.
use Rattle.std.proofs.Common.{◌≡◌, ◌∙◌, ◌<◌, ◌≤◌, ◌+◌, ◌++◌, ℕ, zero, suc, ℤ, Bool, true, false, nat_eq, if◌then◌else◌, List, [], ◌∷◌, Option, Some, None, option_map, is_some, length, map, take, append-nil, get_or, slice_get, refl, sym, ap, subst, inl, inr, arith}
use Rattle.std.proofs.lemmas.Bool.{cases_eq, cases_lt, eq-eqb, ne_eqb}
use Rattle.std.proofs.lemmas.Grind.{flat_map-append}
use Rattle.std.proofs.lemmas.List.{length_push, take_more}
use Rattle.std.proofs.lemmas.Option.{same_Some, slice_get_within}
use Rattle.std.specs.List.{zip}
use Rattle.tdf_fixed.specs.Cast.{fraction_of}
use Rattle.tdf_fixed.specs.declared.format.Format.{Format}
use Rattle.tdf_fixed.specs.declared.raw.Raw.{Raw}
use Rattle.tdf_saved.specs.State.{ColumnStateOf}
use Rattle.tdf_saved.specs.declared.state.Stamp.{Stamp}
use Rattle.tdf_trace.proofs.ColumnPlaces.{get_first, get_last, get_some}
use Rattle.tdf_trace.specs.Columns.{ColumnSeen, HasFewPlaces, held_at}
use Rattle.tdf_trace.specs.Stands.{RowsSeen, Stands}
use Rattle.tdf_trace.specs.States.{AreColumnStates, AreStampedFrom, AreStatesOf, IsStateOfColumn, cell_number, cell_stated, cells_of_states, column_state, column_states, first_stated, known_part, stamp_of, stamps_held}
use Rattle.tdf_trace.specs.declared.about.Variable.{Variable}
use Rattle.tdf_trace.specs.declared.column.Held.{Held}
use Rattle.tdf_trace.specs.machine.Resuming.{AreColumnsIn, column_in, held_in}
use Rattle.tdf_trace.specs.machine.Turning.{AreSound, HaveFewPlaces, IsSound, Rising}
use Rattle.tdf_trace_rows.proofs.Api.{last_kept}
use Rattle.tdf_trace_rows.specs.Rows.{last}
use Rattle.tdf_trace_states.specs.ColumnStates.{DoRise, IsColumnState, number_at, sample_in}

-- ---- the state of a column

-- one cell more
pub stamps_more : (held : List Held) (n : ℕ) (d : Held) (list new : List Stamp) → n < length held → list ≡ stamps_held (take n held) → new ≡ list ++ stamp_of (get_or held n d).time (get_or held n d).value
    → new ≡ stamps_held (take (n + 1) held)
stamps_more held n d list new less is more =
    let x = get_or held n d in
    more ∙ ap (λ l. l ++ stamp_of x.time x.value) is ∙ ap (λ l. stamps_held (take n held) ++ l) (sym (append-nil (stamp_of x.time x.value)))
    ∙ sym (flat_map-append (λ (y : Held). stamp_of y.time y.value) (take n held) (x ∷ [])) ∙ ap stamps_held (sym (take_more held n d less))

-- samples at rising times, by the next place
abbrev RisesOn : List Stamp → Type 0
RisesOn xs = (i : ℕ) (x y : Stamp) → slice_get xs i ≡ Some x → slice_get xs (suc i) ≡ Some y → x.time < y.time

on_of : (xs : List Stamp) → DoRise xs → RisesOn xs
on_of xs rise i x y at next = let e : suc i ≡ i + 1 = omega arith in rise i x y at (subst (λ n. slice_get xs n ≡ Some y) e next)

of_on : (xs : List Stamp) → RisesOn xs → DoRise xs
of_on xs rise i x y at next = let e : i + 1 ≡ suc i = omega arith in rise i x y at (subst (λ n. slice_get xs n ≡ Some y) e next)

-- the first stamp of a list with or without one in front
stamp_low : (a time : ℕ) (value : Option Raw) (rest : List Stamp) → a ≤ time → ((i : ℕ) (x : Stamp) → slice_get rest i ≡ Some x → time + 1 ≤ x.time)
    → (i : ℕ) (x : Stamp) → slice_get (stamp_of time value ++ rest) i ≡ Some x → a ≤ x.time
stamp_low a time None rest low above i x at = let l = above i x at in omega (arith, l, low)
stamp_low a time (Some v) rest low above zero x at = let e : time ≡ x.time = ap (λ (y : Stamp). y.time) (same_Some _ x at) in omega (arith, e, low)
stamp_low a time (Some v) rest low above (suc i) x at = let l = above i x at in omega (arith, l, low)

pub stamps_from : (a : ℕ) (xs : List Held) → Rising a xs → (i : ℕ) (x : Stamp) → slice_get (stamps_held xs) i ≡ Some x → a ≤ x.time
unfolding Rising
stamps_from a [] r i x at = absurd (grind (arith, at))
stamps_from a (h ∷ hs) r i x at = stamp_low a h.time h.value (stamps_held hs) r.0 (stamps_from (h.time + 1) hs r.1) i x at

stamp_rises : (time : ℕ) (value : Option Raw) (rest : List Stamp) → ((i : ℕ) (x : Stamp) → slice_get rest i ≡ Some x → time + 1 ≤ x.time) → RisesOn rest → RisesOn (stamp_of time value ++ rest)
stamp_rises time None rest above rise i x y at next = rise i x y at next
stamp_rises time (Some v) rest above rise zero x y at next = let e : time ≡ x.time = ap (λ (z : Stamp). z.time) (same_Some _ x at) in let l = above 0 y next in omega (arith, e, l)
stamp_rises time (Some v) rest above rise (suc i) x y at next = rise i x y at next

stamps_on : (a : ℕ) (xs : List Held) → Rising a xs → RisesOn (stamps_held xs)
unfolding Rising
stamps_on a [] r i x y at next = absurd (grind (arith, at))
stamps_on a (h ∷ hs) r i x y at next = stamp_rises h.time h.value (stamps_held hs) (stamps_from (h.time + 1) hs r.1) (stamps_on (h.time + 1) hs r.1) i x y at next

pub stamps_rise : (a : ℕ) (xs : List Held) → Rising a xs → DoRise (stamps_held xs)
stamps_rise a xs r = of_on (stamps_held xs) (stamps_on a xs r)

-- no sample has this time
pub number_apart : (time : ℕ) (samples : List Stamp) → ((i : ℕ) (x : Stamp) → slice_get samples i ≡ Some x → x.time ≡ time → ⊥) → number_at samples time ≡ None
unfolding number_at
number_apart time [] apart = refl
number_apart time (x ∷ xs) apart = rw (ne_eqb x.time time (apart 0 x refl)) (number_apart time xs (λ i y at. apart (suc i) y at))

-- the first one that has
pub number_here : (time : ℕ) (samples : List Stamp) (j : ℕ) (x : Stamp) → slice_get samples j ≡ Some x → x.time ≡ time → ((i : ℕ) (y : Stamp) → i < j → slice_get samples i ≡ Some y → y.time ≡ time → ⊥) → number_at samples time ≡ Some x.num
unfolding number_at
number_here time [] j x at same before = absurd (grind (arith, at))
number_here time (y ∷ ys) zero x at same before = let e : y ≡ x = same_Some y x at in rw (eq-eqb y.time time (ap (λ (z : Stamp). z.time) e ∙ same)) (ap (λ (z : Stamp). Some z.num) e)
number_here time (y ∷ ys) (suc j) x at same before = rw (ne_eqb y.time time (before 0 y (omega arith) refl)) (number_here time ys j x at same (λ i z less here. before (suc i) z (omega (arith, less)) here))

pub number_none : (time : ℕ) (samples : List Stamp) → ((i : ℕ) (x : Stamp) → slice_get samples i ≡ Some x → time < x.time) → number_at samples time ≡ None
number_none time samples above = number_apart time samples (λ i x at e. let l = above i x at in omega (arith, e, l))

-- a value's number, or another
abbrev unwrapped : Option Raw → Option ℤ → Option ℤ
unwrapped None other = other
unwrapped (Some v) other = Some v.num

number_stamped : (time : ℕ) (value : Option Raw) (s : ℕ) (rest : List Stamp) → number_at (stamp_of time value ++ rest) s ≡ (if nat_eq time s then unwrapped value (number_at rest s) else number_at rest s)
unfolding number_at
number_stamped time None s rest = both (nat_eq time s) (number_at rest s)
  where
    both : {A : Type 0} (b : Bool) (x : A) → x ≡ (if b then x else x)
    both true x = refl
    both false x = refl
number_stamped time (Some v) s rest = refl

pub number_held : (a s : ℕ) (xs : List Held) → Rising a xs → number_at (stamps_held xs) s ≡ cell_number (held_at xs s)
unfolding Rising held_at number_at
number_held a s [] r = refl
number_held a s (h ∷ hs) r = number_stamped h.time h.value s (stamps_held hs) ∙ rest (number_held (h.time + 1) s hs r.1)
  where
    here : (value : Option Raw) → number_at (stamps_held hs) s ≡ None → unwrapped value (number_at (stamps_held hs) s) ≡ cell_number (Some value)
    here None none = none
    here (Some v) none = refl

    rest : number_at (stamps_held hs) s ≡ cell_number (held_at hs s) → (if nat_eq h.time s then unwrapped h.value (number_at (stamps_held hs) s) else number_at (stamps_held hs) s) ≡ cell_number (if nat_eq h.time s then Some h.value else held_at hs s)
    rest next = elim (cases_eq h.time s) [
      | inl same ↦ rw (eq-eqb h.time s same) (here h.value (number_none s (stamps_held hs) (λ i x at. let l = stamps_from (h.time + 1) hs r.1 i x at in omega (arith, l, same))))
      | inr apart ↦ rw (ne_eqb h.time s apart) next
    ]

pub states_are : (rows : RowsSeen) → AreSound rows.upto rows.columns → AreStatesOf rows (column_states rows)
states_are rows sound cells stands column s at =
    let w = of_map rows.columns column s at in
    let h = sound column w.0 w.1 in
    subst (IsStateOfColumn cells column rows.upto) w.2 (record {
      carry = ap (option_map (λ (v : Raw). v.num)) (stands.shown column w.0 w.1);
      samples = λ time low. number_held rows.upto time w.0.held h.rising ∙ ap cell_number (stands.held column time w.0 w.1 low);
      first = stamps_from rows.upto w.0.held h.rising;
      rising = stamps_rise rows.upto w.0.held h.rising;
      later = refl;
    })
  where
    of_map : (xs : List ColumnSeen) (k : ℕ) (y : ColumnStateOf) → slice_get (map column_state xs) k ≡ Some y → (x : ColumnSeen) × (slice_get xs k ≡ Some x) × (column_state x ≡ y)
    of_map [] k y here = absurd (grind (arith, here))
    of_map (x ∷ xs) zero y here = (x, refl, same_Some (column_state x) y here)
    of_map (x ∷ xs) (suc k) y here = of_map xs k y here

-- ---- a column that goes on from a state

pub held_is : (format : Format) (samples : List Stamp) (time : ℕ) → held_at (map (held_in format) samples) time ≡ option_map (λ num. Some (sample_in format num)) (number_at samples time)
unfolding held_at number_at
held_is format [] time = refl
held_is format (x ∷ xs) time = elim (cases_eq x.time time) [
  | inl same ↦ rw (eq-eqb x.time time same) refl
  | inr apart ↦ rw (ne_eqb x.time time apart) (held_is format xs time)
]

held_on : (format : Format) (a : ℕ) (samples : List Stamp) → RisesOn samples → ((x : Stamp) → slice_get samples 0 ≡ Some x → a ≤ x.time) → Rising a (map (held_in format) samples)
unfolding Rising
held_on format a [] rise low = tt
held_on format a (x ∷ xs) rise low = (low x refl, held_on format (x.time + 1) xs (λ i y z at next. rise (suc i) y z at next) (λ y at. let l = rise 0 x y refl at in omega (arith, l)))

held_rises : (format : Format) (a : ℕ) (samples : List Stamp) → DoRise samples → ((x : Stamp) → slice_get samples 0 ≡ Some x → a ≤ x.time) → Rising a (map (held_in format) samples)
held_rises format a samples rise low = held_on format a samples (on_of samples rise) low

few_in : (format : Format) → fraction_of format ≤ 120
few_in format = let l = format.fraction_bits in omega (arith, l)

held_few : (format : Format) (samples : List Stamp) → HaveFewPlaces (map (held_in format) samples)
unfolding HaveFewPlaces
held_few format [] = tt
held_few format (x ∷ xs) = (few_in format, held_few format xs)

carry_few : (format : Format) (carry : Option ℤ) → HasFewPlaces (option_map (sample_in format) carry)
carry_few format None = tt
carry_few format (Some num) = few_in format

pub column_sound : (format : Format) (from : ℕ) (s : ColumnStateOf) → DoRise s.samples → ((i : ℕ) (x : Stamp) → slice_get s.samples i ≡ Some x → from ≤ x.time) → IsSound from (column_in format s)
column_sound format from s rise low = record {
  rising = held_rises format from s.samples rise (λ x at. low 0 x at);
  few = held_few format s.samples;
  shown = carry_few format s.carry;
}

abbrev parts : Option ℤ → List Stamp → ColumnStateOf
parts carry samples = record { carry = carry; samples = samples; later = [] }

-- its state is the one that it goes on from
pub state_back : (format : Format) (s : ColumnStateOf) → column_state (column_in format s) ≡ known_part s
state_back format s = ap (λ o. parts o (stamps_held (map (held_in format) s.samples))) (carry_back s.carry) ∙ ap (parts s.carry) (stamps_back s.samples)
  where
    carry_back : (o : Option ℤ) → option_map (λ (v : Raw). v.num) (option_map (sample_in format) o) ≡ o
    carry_back None = refl
    carry_back (Some num) = refl

    stamps_back : (xs : List Stamp) → stamps_held (map (held_in format) xs) ≡ xs
    stamps_back [] = refl
    stamps_back (x ∷ xs) = ap (λ ys. x ∷ ys) (stamps_back xs)

-- ---- all columns

pub get_zip : {A B : Type 0} (xs : List A) (ys : List B) (k : ℕ) (x : A) (y : B) → slice_get xs k ≡ Some x → slice_get ys k ≡ Some y → slice_get (zip xs ys) k ≡ Some (x, y)
get_zip [] ys k x y at here = absurd (grind (arith, at, here))
get_zip (v ∷ vs) [] k x y at here = absurd (grind (arith, at, here))
get_zip (v ∷ vs) (w ∷ ws) zero x y at here = ap (λ a. Some (a, w)) (same_Some v x at) ∙ ap (λ b. Some (x, b)) (same_Some w y here)
get_zip (v ∷ vs) (w ∷ ws) (suc k) x y at here = get_zip vs ws k x y at here

-- the column of a place, its variable and its state
pub record HasOne (variables : List Variable) (states : List ColumnStateOf) (k : ℕ) (column : ColumnSeen) : Type 0 where
  pub variable : Variable
  pub state : ColumnStateOf
  pub here : slice_get variables k ≡ Some variable
  pub there : slice_get states k ≡ Some state
  pub is : column ≡ column_in variable.format state
  pub both : slice_get (zip variables states) k ≡ Some (variable, state)

pub one_at : (variables : List Variable) (states : List ColumnStateOf) (columns : List ColumnSeen) → length states ≡ length variables → AreColumnsIn variables states (length states) columns
    → (k : ℕ) (column : ColumnSeen) → slice_get columns k ≡ Some column → HasOne variables states k column
one_at variables states columns long are k column at =
    let l : k < length states = (let m = slice_get_within columns k column at in let n = are.long in omega (arith, m, n)) in
    let v = get_some variables k (omega (arith, l, long)) in
    let s = get_some states k l in record {
      variable = v.0;
      state = s.0;
      here = v.1;
      there = s.1;
      is = same_Some column (column_in v.0.format s.0) (sym at ∙ are.each k v.0 s.0 l v.1 s.1);
      both = get_zip variables states k v.0 s.0 v.1 s.1;
    }

pub columns_sound : (variables : List Variable) (states : List ColumnStateOf) (columns : List ColumnSeen) (from : ℕ) → length states ≡ length variables → AreColumnsIn variables states (length states) columns
    → ((k : ℕ) (s : ColumnStateOf) → slice_get states k ≡ Some s → DoRise s.samples) → AreStampedFrom from states → AreSound from columns
columns_sound variables states columns from long are rise low k column at =
    let w = one_at variables states columns long are k column at in
    subst (λ (x : ColumnSeen). IsSound from x) (sym w.is) (column_sound w.variable.format from w.state (rise k w.state w.there) (low k w.state w.there))

pub columns_stand : (variables : List Variable) (states : List ColumnStateOf) (columns : List ColumnSeen) (from : ℕ) → length states ≡ length variables → AreColumnsIn variables states (length states) columns
    → AreStampedFrom from states → Stands (cells_of_states variables states) (record { columns = columns; upto = from })
unfolding last
columns_stand variables states columns from long are low = record {
  count = are.long ∙ long;
  held = λ k time column at after. (let w = one_at variables states columns long are k column at in
      ap (λ (x : ColumnSeen). held_at x.held time) w.is ∙ held_is w.variable.format w.state.samples time ∙ ap (λ o. cell_stated o time) (sym w.both));
  shown = λ k column at. (let w = one_at variables states columns long are k column at in
      ap (λ (x : ColumnSeen). x.shown) w.is ∙ ap first_stated (sym w.both)
      ∙ sym (last_kept (cells_of_states variables states) k 0 from (omega arith) (λ time _ early. ap (λ o. cell_stated o time) w.both
      ∙ ap (option_map (λ num. Some (sample_in w.variable.format num))) (number_none time w.state.samples (λ i x here. let l = low k w.state w.there i x here in omega (arith, l, early))))));
}

-- the states of the columns are those that they go on from
pub states_back : (variables : List Variable) (states : List ColumnStateOf) (columns : List ColumnSeen) → length states ≡ length variables → AreColumnsIn variables states (length states) columns
    → map column_state columns ≡ map known_part states
states_back variables states columns long are = same_maps columns states are.long (λ k column s at there.
    let w = one_at variables states columns long are k column at in
    ap column_state w.is ∙ state_back w.variable.format w.state ∙ ap known_part (same_Some w.state s (sym w.there ∙ there)))
  where
    same_maps : (xs : List ColumnSeen) (ys : List ColumnStateOf) → length xs ≡ length ys → ((k : ℕ) (x : ColumnSeen) (y : ColumnStateOf) → slice_get xs k ≡ Some x → slice_get ys k ≡ Some y → column_state x ≡ known_part y)
        → map column_state xs ≡ map known_part ys
    same_maps [] [] same each = refl
    same_maps [] (y ∷ ys) same each = absurd (omega (arith, same))
    same_maps (x ∷ xs) [] same each = absurd (omega (arith, same))
    same_maps (x ∷ xs) (y ∷ ys) same each = ap (λ z. z ∷ map column_state xs) (each 0 x y refl refl) ∙ ap (λ zs. known_part y ∷ zs) (same_maps xs ys (omega (arith, same)) (λ k v w at here. each (suc k) v w at here))

pub ruleset going_laws = (columns_stand, states_back)

-- one column more
pub columns_more : (variables : List Variable) (states : List ColumnStateOf) (n : ℕ) (v : Variable) (s : ColumnStateOf) (columns new : List ColumnSeen) (column : ColumnSeen)
    → slice_get variables n ≡ Some v → slice_get states n ≡ Some s → column ≡ column_in v.format s → new ≡ columns ++ column ∷ [] → AreColumnsIn variables states n columns → AreColumnsIn variables states (n + 1) new
columns_more variables states n v s columns new column at there is push are = subst (AreColumnsIn variables states (n + 1)) (sym push) (record {
  long = length_push columns column ∙ ap (λ k. k + 1) are.long;
  each = λ k x y less here has. elim (cases_lt k n) [
    | inl below ↦ get_first columns (column ∷ []) k (let l = are.long in omega (arith, l, below)) ∙ are.each k x y below here has
    | inr past ↦ last k x y (omega (arith, less, past)) here has
  ];
})
  where
    last : (k : ℕ) (x : Variable) (y : ColumnStateOf) → n ≡ k → slice_get variables k ≡ Some x → slice_get states k ≡ Some y → slice_get (columns ++ column ∷ []) k ≡ Some (column_in x.format y)
    last k x y same here has =
        let xs : v ≡ x = same_Some v x (sym (subst (λ j. slice_get variables j ≡ Some v) same at) ∙ here) in
        let ys : s ≡ y = same_Some s y (sym (subst (λ j. slice_get states j ≡ Some s) same there) ∙ has) in
        ap (slice_get (columns ++ column ∷ [])) (sym same ∙ sym are.long) ∙ get_last columns column ∙ ap Some (is ∙ ap (λ (z : Variable). column_in z.format s) xs ∙ ap (column_in x.format) ys)

-- the samples of each state stand at rising times
pub states_rise : (variables : List Variable) (time : ℕ) (states : List ColumnStateOf) → AreColumnStates variables time states → (k : ℕ) (s : ColumnStateOf) → slice_get states k ≡ Some s → DoRise s.samples
states_rise variables time states are k s at =
    let l : k < length states = slice_get_within states k s at in
    let n : length states ≡ length variables = are.long in
    let v = get_some variables k (let m : k < length variables = omega (arith, l, n) in m) in
    let one : IsColumnState v.0.format (is_some v.0.first) time s = are.each k v.0 s v.1 at in one.rising

-- one state more
pub states_more : (variables : List Variable) (time : ℕ) (states : List ColumnStateOf) (n : ℕ) (v : Variable) (s : ColumnStateOf)
    → slice_get variables n ≡ Some v → slice_get states n ≡ Some s → IsColumnState v.format (is_some v.first) time s
    → ((k : ℕ) (x : Variable) (y : ColumnStateOf) → k < n → slice_get variables k ≡ Some x → slice_get states k ≡ Some y → IsColumnState x.format (is_some x.first) time y)
    → (k : ℕ) (x : Variable) (y : ColumnStateOf) → k < n + 1 → slice_get variables k ≡ Some x → slice_get states k ≡ Some y → IsColumnState x.format (is_some x.first) time y
states_more variables time states n v s at there one before k x y less here has = elim (cases_lt k n) [
  | inl below ↦ before k x y below here has
  | inr past ↦ (let same : n ≡ k = omega (arith, less, past) in
      let xs : v ≡ x = same_Some v x (sym (subst (λ j. slice_get variables j ≡ Some v) same at) ∙ here) in
      let ys : s ≡ y = same_Some s y (sym (subst (λ j. slice_get states j ≡ Some s) same there) ∙ has) in
      subst (λ (z : Variable). IsColumnState z.format (is_some z.first) time y) xs (subst (λ (z : ColumnStateOf). IsColumnState v.format (is_some v.first) time z) ys one))
]
