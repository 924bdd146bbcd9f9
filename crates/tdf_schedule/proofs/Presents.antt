-- Along a plan what an entry needs stands before it.
use Rattle.std.proofs.Common.{◌≡◌, ◌∙◌, ℕ, zero, suc, ◌+◌, ◌-◌, ◌*◌, ◌/◌, ◌<◌, ◌≤◌, ◌⊎◌, inl, inr, Bool, true, false, Some, List, [], ◌∷◌, length, cond, refl, sym, ap, subst, arith}
use Rattle.std.proofs.Math.ListN.{get_or}
use Rattle.std.proofs.Math.Nat.{div-lt_iff_lt-mul, mul-le-mul_right}
use Rattle.std.proofs.lemmas.Bool.{cases_eq, cases_lt, lt-ltb, le-ltb, eq-eqb, ne_eqb}
use Rattle.std.proofs.lemmas.List.Elements.{All-contains}
use Rattle.std.proofs.lemmas.List.Sums.{sum_by-cons}
use Rattle.std.proofs.lemmas.Option.{slice_get_within, slice_get-get_or}
use Rattle.std.specs.List.{count_by}
use Rattle.std.specs.Prelude.{slice_get, Contains, All}
use Rattle.tdf_graph.specs.Counts.{IsBalanced}
use Rattle.tdf_graph.specs.Ranges.{IsEdge}
use Rattle.tdf_graph.specs.declared.actors.Edge.{Edge}
use Rattle.tdf_schedule.proofs.Flows.{done_none, done_here, done_other}
use Rattle.tdf_schedule.proofs.Grounds.{needs_inside}
use Rattle.tdf_schedule.proofs.Keys.{some_same, none_some, at_contains}
use Rattle.tdf_schedule.proofs.Works.{true_false}
use Rattle.tdf_schedule.specs.Laws.{StandsBefore, IsPresent, IsNarrow}
use Rattle.tdf_schedule.specs.Needs.{Needs, Within, HasKey}
use Rattle.tdf_schedule.specs.Plan.{IsPlan, IsBound, is_firing, is_earlier, key_in, done}
use Rattle.tdf_schedule.specs.declared.entry.Entry.{Entry}
use Rattle.tdf_schedule.specs.declared.key.Key.{Key}

-- members that meet a test, counted
module _ {X : Type 0} (p : X → Bool) where
  count_cons : (y : X) (ys : List X) (b : Bool) → p y ≡ b → count_by p (y ∷ ys) ≡ cond {A = ℕ} b 1 0 + count_by p ys
  count_cons y ys b is = sum_by-cons (λ x. cond {A = ℕ} (p x) 1 0) y ys ∙ ap (λ t. cond {A = ℕ} t 1 0 + count_by p ys) is

  pub one_place : (xs : List X) (i : ℕ) (x : X) → slice_get xs i ≡ Some x → p x ≡ true → 1 ≤ count_by p xs
  one_place [] i x is met = absurd (none_some is)
  one_place (y ∷ ys) zero x is met = let c : count_by p (y ∷ ys) ≡ 1 + count_by p ys = count_cons y ys true (ap p (some_same is) ∙ met) in omega (arith, c)
  one_place (y ∷ ys) (suc i) x is met = let c = count_cons y ys (p y) refl in let r = one_place ys i x is met in omega (arith, c, r)

  pub two_places : (xs : List X) (i j : ℕ) (x y : X) → i < j → slice_get xs i ≡ Some x → slice_get xs j ≡ Some y → p x ≡ true → p y ≡ true → 2 ≤ count_by p xs
  two_places [] i j x y less x_is y_is met too = absurd (none_some x_is)
  two_places (z ∷ zs) i zero x y less x_is y_is met too = absurd (omega (arith, less))
  two_places (z ∷ zs) zero (suc j) x y less x_is y_is met too =
      let c : count_by p (z ∷ zs) ≡ 1 + count_by p zs = count_cons z zs true (ap p (some_same x_is) ∙ met) in
      let r = one_place zs j y y_is too in
      omega (arith, c, r)
  two_places (z ∷ zs) (suc i) (suc j) x y less x_is y_is met too =
      let c = count_cons z zs (p z) refl in
      let r = two_places zs i j x y (omega (arith, less)) x_is y_is met too in
      omega (arith, c, r)

  pub found_place : (xs : List X) → 1 ≤ count_by p xs → (j : ℕ) × (x : X) × (slice_get xs j ≡ Some x) × (p x ≡ true)
  found_place [] some = absurd (omega (arith, some))
  found_place (y ∷ ys) some = go (λ more. found_place ys more) (p y) refl
    where
      go : (1 ≤ count_by p ys → (j : ℕ) × (x : X) × (slice_get ys j ≡ Some x) × (p x ≡ true)) → (b : Bool) → p y ≡ b → (j : ℕ) × (x : X) × (slice_get (y ∷ ys) j ≡ Some x) × (p x ≡ true)
      go next true met = (0, y, refl, met)
      go next false unmet =
          let c : count_by p (y ∷ ys) ≡ 0 + count_by p ys = count_cons y ys false unmet in
          let r = next (omega (arith, c, some)) in
          (suc r.0, r.1, r.2, r.3)

pub firing_yes : (m a : ℕ) (x : Entry) → x.actor ≡ m → x.index ≡ a → is_firing m a x ≡ true
firing_yes m a x same too = rw (eq-eqb x.actor m same, eq-eqb x.index a too) refl

firing_is : (m a : ℕ) (x : Entry) → is_firing m a x ≡ true → (x.actor ≡ m) × (x.index ≡ a)
firing_is m a x met = go (cases_eq x.actor m) (cases_eq x.index a)
  where
    go : (x.actor ≡ m) ⊎ (x.actor ≡ m → ⊥) → (x.index ≡ a) ⊎ (x.index ≡ a → ⊥) → (x.actor ≡ m) × (x.index ≡ a)
    go (inl same) (inl too) = (same, too)
    go (inl same) (inr other) = absurd (true_false (sym met ∙ rw (eq-eqb x.actor m same, ne_eqb x.index a other) refl))
    go (inr other) second = absurd (true_false (sym met ∙ rw (ne_eqb x.actor m other) refl))

earlier_is : (x y : Entry) → y.level < x.level → y.offset ≤ x.offset → is_earlier y x ≡ true
earlier_is x y less low = go (cases_lt y.offset x.offset)
  where
    go : (y.offset < x.offset) ⊎ (x.offset ≤ y.offset) → is_earlier y x ≡ true
    go (inl sooner) = rw (lt-ltb y.offset x.offset sooner) refl
    go (inr high) = rw (le-ltb y.offset x.offset high, eq-eqb y.offset x.offset (omega (arith, low, high)), lt-ltb y.level x.level less) refl

more_by : (x r : ℕ) → (x + 1) * r ≡ x * r + r
more_by x r = grind arith

-- the firings before place i are the first ones of each actor
pub record AreFirst (entries : List Entry) (i : ℕ) : Type 0 where
  pub below : (j : ℕ) (y : Entry) → j < i → slice_get entries j ≡ Some y → y.index < done entries i y.actor
  pub each : (m a : ℕ) → a < done entries i m → StandsBefore entries i m a

module _ (edges : List Edge) (pace : ℕ → ℕ) (counts : List ℕ) (entries : List Entry) (planned : IsPlan edges pace counts entries) where
  pub key_of : (i : ℕ) (x : Entry) → slice_get entries i ≡ Some x → HasKey edges pace x.actor x.index (key_in x)
  key_of i x is = All-contains (λ (y : Entry). HasKey edges pace y.actor y.index (key_in y)) entries x planned.keys (at_contains entries i x is)

  pub inside : (i : ℕ) (x : Entry) → slice_get entries i ≡ Some x → x.index < get_or counts x.actor 0
  inside i x is = go (cases_lt x.index (get_or counts x.actor 0))
    where
      go : (x.index < get_or counts x.actor 0) ⊎ (get_or counts x.actor 0 ≤ x.index) → x.index < get_or counts x.actor 0
      go (inl less) = less
      go (inr high) =
          let one = one_place (is_firing x.actor x.index) entries i x is (firing_yes x.actor x.index x refl refl) in
          let none : count_by (is_firing x.actor x.index) entries ≡ 0 = planned.complete x.actor x.index ∙ rw (le-ltb x.index (get_or counts x.actor 0) high) refl in
          absurd (omega (arith, one, none))

  pub few : (m a : ℕ) → count_by (is_firing m a) entries ≤ 1
  few m a = go (cases_lt a (get_or counts m 0))
    where
      go : (a < get_or counts m 0) ⊎ (get_or counts m 0 ≤ a) → count_by (is_firing m a) entries ≤ 1
      go (inl less) = let e : count_by (is_firing m a) entries ≡ 1 = planned.complete m a ∙ rw (lt-ltb a (get_or counts m 0) less) refl in omega (arith, e)
      go (inr high) = let e : count_by (is_firing m a) entries ≡ 0 = planned.complete m a ∙ rw (le-ltb a (get_or counts m 0) high) refl in omega (arith, e)

  pub found : (m a : ℕ) → a < get_or counts m 0 → StandsBefore entries (length entries) m a
  found m a less =
      let one : count_by (is_firing m a) entries ≡ 1 = planned.complete m a ∙ rw (lt-ltb a (get_or counts m 0) less) refl in
      let at = found_place (is_firing m a) entries (omega (arith, one)) in
      let is = firing_is m a at.1 at.3 in
      record { place = at.0; before = slice_get_within entries at.0 at.1 at.2; entry = at.1; there = at.2; actor = is.0; index = is.1 }

module _ (edges : List Edge) (pace : ℕ → ℕ) (counts : List ℕ) (entries : List Entry) (fit : All (IsEdge (length counts)) edges)
    (balanced : (e : Edge) → Contains edges e → IsBalanced (λ m. get_or counts m 0) e) (planned : IsPlan edges pace counts entries) where
  below_it : (m a n b f o : ℕ) (k : Key) → Within edges pace f o m a → Needs edges m a n b → HasKey edges pace n b k → (k.level < f) × (k.offset ≤ o)
  unfolding Within
  below_it m a n b zero o k within need key = absurd within
  below_it m a n b (suc f) o k within need key = let r = key.least f o (within.1 n b need) in (let s = r.0 in omega (arith, s), r.1)

  pub before_it : (i n b : ℕ) (x : Entry) → slice_get entries i ≡ Some x → Needs edges x.actor x.index n b → StandsBefore entries i n b
  before_it i n b x x_is need = record { place = at.place; before = sooner (cases_lt at.place i); entry = at.entry; there = at.there; actor = at.actor; index = at.index }
    where
      at : StandsBefore entries (length entries) n b
      at = found edges pace counts entries planned n b (needs_inside edges pace counts fit balanced x.actor x.index n b (inside edges pace counts entries planned i x x_is) need)

      less : (at.entry.level < x.level) × (at.entry.offset ≤ x.offset)
      less = below_it x.actor x.index n b x.level x.offset (key_in at.entry) (key_of edges pace counts entries planned i x x_is).within need
          (subst (λ m. HasKey edges pace m b (key_in at.entry)) at.actor (subst (λ a. HasKey edges pace at.entry.actor a (key_in at.entry)) at.index (key_of edges pace counts entries planned at.place at.entry at.there)))

      sooner : (at.place < i) ⊎ (i ≤ at.place) → at.place < i
      sooner (inl before) = before
      sooner (inr late) = go (cases_eq i at.place)
        where
          go : (i ≡ at.place) ⊎ (i ≡ at.place → ⊥) → at.place < i
          go (inl same) =
              let e : at.entry.level ≡ x.level = ap (λ (y : Entry). y.level) (some_same (sym at.there ∙ ap (slice_get entries) (sym same) ∙ x_is)) in
              let l = less.0 in absurd (omega (arith, e, l))
          go (inr other) = absurd (true_false (sym (earlier_is x at.entry less.0 less.1) ∙ planned.sorted i at.place x at.entry (omega (arith, late, other)) x_is at.there))

  index_is : (i : ℕ) (x : Entry) → slice_get entries i ≡ Some x → AreFirst entries i → x.index ≡ done entries i x.actor
  index_is i x x_is first = go (cases_lt x.index (done entries i x.actor)) (cases_lt (done entries i x.actor) x.index)
    where
      go : (x.index < done entries i x.actor) ⊎ (done entries i x.actor ≤ x.index) → (done entries i x.actor < x.index) ⊎ (x.index ≤ done entries i x.actor) → x.index ≡ done entries i x.actor
      go (inl less) second =
          let s = first.each x.actor x.index less in
          let two = two_places (is_firing x.actor x.index) entries s.place i s.entry x s.before s.there x_is (firing_yes x.actor x.index s.entry s.actor s.index) (firing_yes x.actor x.index x refl refl) in
          let one = few edges pace counts entries planned x.actor x.index in
          absurd (omega (arith, two, one))
      go (inr high) (inl more) =
          let s = before_it i x.actor (x.index - 1) x x_is (inl (refl, omega (arith, more))) in
          let b : s.entry.index < done entries i x.actor = subst (λ m. s.entry.index < done entries i m) s.actor (first.below s.place s.entry s.before s.there) in
          let e = s.index in
          absurd (omega (arith, b, e, more))
      go (inr high) (inr low) = omega (arith, high, low)

  abbrev pub none : Entry
  none = record { offset = 0; level = 0; actor = 0; index = 0 }

  later : (i j m a : ℕ) → i ≤ j → StandsBefore entries i m a → StandsBefore entries j m a
  later i j m a more s = record { place = s.place; before = let b = s.before in omega (arith, b, more); entry = s.entry; there = s.there; actor = s.actor; index = s.index }

  module _ (i : ℕ) (here : i < length entries) where
    abbrev pub at_i : Entry
    at_i = get_or entries i none

    pub at_is : slice_get entries i ≡ Some at_i
    at_is = slice_get-get_or entries i none here

    pub grown : (m : ℕ) → done entries i m ≤ done entries (i + 1) m
    grown m = go (cases_eq at_i.actor m)
      where
        go : (at_i.actor ≡ m) ⊎ (at_i.actor ≡ m → ⊥) → done entries i m ≤ done entries (i + 1) m
        go (inl same) = subst (λ n. done entries i n ≤ done entries (i + 1) n) same (let d = done_here entries i none here in omega (arith, d))
        go (inr other) = let d = done_other entries i m none here other in omega (arith, d)

    first_step : AreFirst entries i → AreFirst entries (i + 1)
    first_step first = record {
      below = λ j y less there. low j y there (cases_lt j i) less;
      each = λ m a less. found_in m a less (cases_eq at_i.actor m) (cases_lt a (done entries i m));
    }
      where
        same_index : at_i.index ≡ done entries i at_i.actor
        same_index = index_is i at_i at_is first

        low : (j : ℕ) (y : Entry) → slice_get entries j ≡ Some y → (j < i) ⊎ (i ≤ j) → j < i + 1 → y.index < done entries (i + 1) y.actor
        low j y there (inl sooner) less = let b = first.below j y sooner there in let g = grown y.actor in omega (arith, b, g)
        low j y there (inr late) less =
            subst (λ (z : Entry). z.index < done entries (i + 1) z.actor) (some_same (sym at_is ∙ ap (slice_get entries) (omega (arith, late, less)) ∙ there))
            (let d = done_here entries i none here in omega (arith, d, same_index))

        found_in : (m a : ℕ) → a < done entries (i + 1) m → (at_i.actor ≡ m) ⊎ (at_i.actor ≡ m → ⊥) → (a < done entries i m) ⊎ (done entries i m ≤ a) → StandsBefore entries (i + 1) m a
        found_in m a less which (inl old) = later i (i + 1) m a (omega arith) (first.each m a old)
        found_in m a less (inl same) (inr new) =
            let d : done entries (i + 1) m ≡ done entries i m + 1 = subst (λ n. done entries (i + 1) n ≡ done entries i n + 1) same (done_here entries i none here) in
            record { place = i; before = omega arith; entry = at_i; there = at_is; actor = same; index = same_index ∙ ap (done entries i) same ∙ omega (arith, d, less, new) }
        found_in m a less (inr other) (inr new) = let d = done_other entries i m none here other in absurd (omega (arith, d, less, new))

  pub all_first : (i : ℕ) → i ≤ length entries → AreFirst entries i
  all_first zero here = record { below = λ j y less there. absurd (omega (arith, less)); each = λ m a less. absurd (let d = done_none entries m in omega (arith, d, less)) }
  all_first (suc i) here = subst (AreFirst entries) (omega arith) (first_step i (omega (arith, here)) (all_first i (omega (arith, here))))

  pub by_index : (i : ℕ) (x : Entry) → slice_get entries i ≡ Some x → x.index ≡ done entries i x.actor
  by_index i x is = index_is i x is (all_first i (let w = slice_get_within entries i x is in omega (arith, w)))

  pub present_at : (i : ℕ) (x : Entry) (e : Edge) → slice_get entries i ≡ Some x → Contains edges e → e.reader ≡ x.actor
      → done entries i e.reader * e.read_rate + e.read_rate ≤ e.initial + done entries i e.writer * e.write_rate
  present_at i x e x_is there reads = subst (λ n. n * e.read_rate + e.read_rate ≤ e.initial + done entries i e.writer * e.write_rate) (by_index i x x_is ∙ ap (done entries i) (sym reads))
      (go (cases_lt (x.index * e.read_rate + e.read_rate - 1) e.initial))
    where
      fits : IsEdge (length counts) e
      fits = All-contains (IsEdge (length counts)) edges e fit there

      last : ℕ
      last = x.index * e.read_rate + e.read_rate - 1

      go : (x.index * e.read_rate + e.read_rate - 1 < e.initial) ⊎ (e.initial ≤ x.index * e.read_rate + e.read_rate - 1) → x.index * e.read_rate + e.read_rate ≤ e.initial + done entries i e.writer * e.write_rate
      go (inl early) = omega (arith, early)
      go (inr late) =
          let some = fits.reads.some in
          let s = before_it i e.writer ((last - e.initial) / e.write_rate) x x_is (inr (record {
            edge = e;
            there = there;
            reads = reads;
            writes = refl;
            place = last;
            low = omega (arith, some);
            high = omega (arith, some);
            late = late;
            made = refl;
          })) in
          let first = all_first i (let w = slice_get_within entries i x x_is in omega (arith, w)) in
          let b : (last - e.initial) / e.write_rate < done entries i e.writer = subst (λ a. a < done entries i e.writer) s.index (subst (λ m. s.entry.index < done entries i m) s.actor (first.below s.place s.entry s.before s.there)) in
          let l = (div-lt_iff_lt-mul fits.writes.some).0 b in
          omega (arith, l, late, some)

  pub held_at : (i : ℕ) (e : Edge) → i ≤ length entries → Contains edges e → done entries i e.reader * e.read_rate ≤ e.initial + done entries i e.writer * e.write_rate
  held_at zero e here there = subst (λ n. n * e.read_rate ≤ e.initial + done entries 0 e.writer * e.write_rate) (sym (done_none entries e.reader)) (omega arith)
  held_at (suc i) e here there = subst (λ j. done entries j e.reader * e.read_rate ≤ e.initial + done entries j e.writer * e.write_rate) (omega arith)
      (go (held_at i e (omega (arith, here)) there) (cases_eq (get_or entries i none).actor e.reader))
    where
      less : i < length entries
      less = omega (arith, here)

      written : done entries i e.writer * e.write_rate ≤ done entries (i + 1) e.writer * e.write_rate
      written = mul-le-mul_right e.write_rate (grown i less e.writer)

      go : done entries i e.reader * e.read_rate ≤ e.initial + done entries i e.writer * e.write_rate → ((get_or entries i none).actor ≡ e.reader) ⊎ ((get_or entries i none).actor ≡ e.reader → ⊥) → done entries (i + 1) e.reader * e.read_rate ≤ e.initial + done entries (i + 1) e.writer * e.write_rate
      go h (inl same) =
          let d : done entries (i + 1) e.reader ≡ done entries i e.reader + 1 = subst (λ n. done entries (i + 1) n ≡ done entries i n + 1) same (done_here entries i none less) in
          let p = present_at i (get_or entries i none) e (at_is i less) there (sym same) in
          let r : done entries (i + 1) e.reader * e.read_rate ≡ done entries i e.reader * e.read_rate + e.read_rate = ap (λ n. n * e.read_rate) d ∙ more_by (done entries i e.reader) e.read_rate in
          omega (arith, p, r, written)
      go h (inr other) =
          let r : done entries (i + 1) e.reader * e.read_rate ≡ done entries i e.reader * e.read_rate = ap (λ n. n * e.read_rate) (done_other entries i e.reader none less other) in
          omega (arith, h, r, written)

  pub few_done : (i m : ℕ) → i ≤ length entries → done entries i m ≤ get_or counts m 0
  few_done i m here = go (cases_lt (get_or counts m 0) (done entries i m))
    where
      go : (get_or counts m 0 < done entries i m) ⊎ (done entries i m ≤ get_or counts m 0) → done entries i m ≤ get_or counts m 0
      go (inl more) =
          let s = (all_first i here).each m (get_or counts m 0) more in
          let w : s.entry.index < get_or counts m 0 = subst (λ n. s.entry.index < get_or counts n 0) s.actor (inside edges pace counts entries planned s.place s.entry s.there) in
          let e = s.index in
          absurd (omega (arith, w, e))
      go (inr low) = low

  pub all_done : (m : ℕ) → done entries (length entries) m ≡ get_or counts m 0
  all_done m = go (cases_lt (done entries (length entries) m) (get_or counts m 0))
    where
      go : (done entries (length entries) m < get_or counts m 0) ⊎ (get_or counts m 0 ≤ done entries (length entries) m) → done entries (length entries) m ≡ get_or counts m 0
      go (inl less) =
          let s = found edges pace counts entries planned m (done entries (length entries) m) less in
          let b : s.entry.index < done entries (length entries) m = subst (λ n. s.entry.index < done entries (length entries) n) s.actor ((all_first (length entries) (omega arith)).below s.place s.entry s.before s.there) in
          let e = s.index in
          absurd (omega (arith, b, e))
      go (inr high) = let f = few_done (length entries) m (omega arith) in omega (arith, f, high)

  pub back_at_first : (e : Edge) → Contains edges e
      → e.initial + done entries (length entries) e.writer * e.write_rate - done entries (length entries) e.reader * e.read_rate ≡ e.initial
  back_at_first e there =
      let b : done entries (length entries) e.writer * e.write_rate ≡ done entries (length entries) e.reader * e.read_rate =
      ap (λ n. n * e.write_rate) (all_done e.writer) ∙ balanced e there ∙ ap (λ n. n * e.read_rate) (sym (all_done e.reader)) in
      omega (arith, b)

  pub is_present : IsPresent edges counts entries
  is_present = record { by_index = by_index; needs = before_it; present = present_at; held = held_at; all_done = all_done; back = back_at_first }

  pub is_narrow : (e : Edge) (bound : ℕ) → Contains edges e → 0 < get_or counts e.reader 0 → IsBound entries e bound → IsNarrow e counts bound
  is_narrow e bound there some is = record {
    reads =
        let s = found edges pace counts entries planned e.reader 0 some in
        let p = present_at s.place s.entry e s.there there (sym s.actor) in
        let m = is.most s.place (let b = s.before in omega (arith, b)) in
        omega (arith, p, m);
    first =
        let m = is.most 0 (omega arith) in
        let r : done entries 0 e.reader * e.read_rate ≡ 0 = ap (λ n. n * e.read_rate) (done_none entries e.reader) ∙ omega arith in
        omega (arith, m, r);
    most =
        let r = is.reached in
        let f = mul-le-mul_right e.write_rate (few_done r.0 e.writer r.1) in
        let g = r.2 in
        omega (arith, f, g);
  }
