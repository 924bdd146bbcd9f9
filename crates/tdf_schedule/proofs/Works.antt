-- One turn of the worklist.
use Rattle.std.proofs.Common.{◌≡◌, ◌≢◌, ◌∙◌, ℕ, zero, suc, ◌+◌, ◌-◌, ◌*◌, ◌^◌, ◌<◌, ◌≤◌, ◌⊎◌, inl, inr, Bool, true, false, Some, List, [], ◌∷◌, ◌++◌, length, set, replicate, refl, sym, ap, subst, arith}
use Rattle.std.proofs.Math.ListN.{get_or}
use Rattle.std.proofs.Math.Nat.{mul-le-mul_right}
use Rattle.std.proofs.lemmas.Bool.{cases_eq, cases_lt}
use Rattle.std.proofs.lemmas.Grind.{get_or-set_at}
use Rattle.std.proofs.lemmas.List.{length-set, length-replicate, length_push, get_or-set_other, get_or-replicate, get_or_past}
use Rattle.std.proofs.lemmas.List.Sums.{sum_by-cons, sum_by-set}
use Rattle.std.proofs.lemmas.Option.{slice_get_within, slice_get-map}
use Rattle.std.specs.Option.{option_map}
use Rattle.std.specs.Prelude.{slice_get, All, Contains, sum}
use Rattle.tdf_base.specs.Limits.{most_firings}
use Rattle.tdf_graph.specs.Ranges.{IsEdge}
use Rattle.tdf_graph.specs.declared.actors.Edge.{Edge}
use Rattle.tdf_schedule.proofs.Keys.{none_some, contains_at, next_key}
use Rattle.tdf_schedule.proofs.Linked.{in_front, last_of, push_cases, row_here, row_other, inputs_at}
use Rattle.tdf_schedule.specs.Needs.{HasKey}
use Rattle.tdf_schedule.specs.declared.key.Key.{Key}
use Rattle.tdf_schedule.specs.views.Table.{row_at, total, IsJoined, need_of, key_of}
use Rattle.tdf_schedule.specs.views.Work.{links_at, with_key, weight, AreGiven, AreRows, AreOutputsUpTo, HasGrown, IsSettled, IsStarted, IsWorked, ArePushed, reader_of, readers_in}

pub true_false : true ≡ false → ⊥
true_false e = subst only_true e tt
  where
    only_true : Bool → Type 0
    only_true true = Unit {0}
    only_true false = ⊥

false_unless : (b : Bool) → (b ≡ true → ⊥) → b ≡ false
false_unless true not = absurd (not refl)
false_unless false not = refl

before_last : (xs : List ℕ) (m j k : ℕ) → k ≢ m → slice_get (xs ++ m ∷ []) j ≡ Some k → slice_get xs j ≡ Some k
before_last xs m j k apart h = go (push_cases xs m j k h)
  where
    go : (slice_get xs j ≡ Some k) ⊎ ((j ≡ length xs) × (k ≡ m)) → slice_get xs j ≡ Some k
    go (inl before) = before
    go (inr p) = absurd (apart p.1)

-- the rows hold no more keys than the counts allow
pub total_few : (table : List (List Key)) (counts : List ℕ) → length table ≡ length counts → ((m : ℕ) → length (get_or table m []) ≤ get_or counts m 0) → total table ≤ sum counts
total_few [] counts same within = omega arith
total_few (row ∷ table) [] same within = absurd (omega (arith, same))
total_few (row ∷ table) (c ∷ counts) same within =
    let rest = total_few table counts (omega (arith, same)) (λ m. within (suc m)) in
    let a = sum_by-cons {X = List Key} length row table in let b = sum_by-cons (λ x. x) c counts in let h = within 0 in omega (arith, a, b, rest, h)

pub count_few : (counts : List ℕ) (m : ℕ) → get_or counts m 0 ≤ sum counts
count_few [] m = omega arith
count_few (c ∷ counts) zero = let b = sum_by-cons (λ x. x) c counts in omega (arith, b)
count_few (c ∷ counts) (suc m) = let b = sum_by-cons (λ x. x) c counts in let r = count_few counts m in omega (arith, b, r)

module _ (edges : List Edge) (counts paces : List ℕ) (inputs outputs : List (List ℕ)) (given : AreGiven edges counts paces inputs outputs) (table : List (List Key))
    (rows : AreRows edges (λ k. get_or paces k 0) counts table) (m : ℕ) (m_in : m < length counts) where
  pub row_small : length (row_at table m) ≤ most_firings
  row_small = let w = rows.within m in let c = count_few counts m in let f = given.few in omega (arith, w, c, f)

  pub due_small : length (row_at table m) * get_or paces m 0 < 2 ^ 63
  due_small = let w = mul-le-mul_right (get_or paces m 0) (rows.within m) in let s = given.short m in omega (arith, w, s)

  -- its next firing has its key
  module _ (r : Key) (more : length (row_at table m) ≡ get_or counts m 0 → ⊥) (joined : IsJoined edges (λ k. get_or paces k 0) table m (length (row_at table m)) (links_at inputs m) (length (links_at inputs m)) r) where
    key : Key
    key = key_of (r.level + 1) r.offset

    abbrev next : List (List Key)
    next = with_key table m (key_of (r.level + 1) r.offset)

    m_row : m < length table
    m_row = subst (λ n. m < n) (sym rows.same) m_in

    here_row : row_at next m ≡ row_at table m ++ key_of (r.level + 1) r.offset ∷ []
    here_row = row_here table m (row_at table m ++ key_of (r.level + 1) r.offset ∷ []) m_row

    other_row : (k : ℕ) → k ≢ m → row_at next k ≡ row_at table k
    other_row k apart = row_other table m k (row_at table m ++ key_of (r.level + 1) r.offset ∷ []) apart

    total_next : total next ≡ total table + 1
    total_next =
        let s = sum_by-set {X = List Key} length table m (row_at table m ++ key_of (r.level + 1) r.offset ∷ []) [] m_row in
        let l = length_push (row_at table m) (key_of (r.level + 1) r.offset) in omega (arith, s, l)

    fit_rows : All (IsEdge (length table)) edges
    fit_rows = subst (λ n. All (IsEdge n) edges) (sym rows.same) given.fit

    new_key : HasKey edges (λ k. get_or paces k 0) m (length (row_at table m)) (key_of (r.level + 1) r.offset)
    new_key = next_key edges (λ k. get_or paces k 0) table m (links_at inputs m) fit_rows rows.keys rows.low (length (row_at table m)) r
        (inputs_at counts edges inputs m (let w = rows.within m in omega (arith, w, more)) given.into) joined

    keys_next : (k a : ℕ) (x : Key) → slice_get (row_at next k) a ≡ Some x → (k ≡ m) ⊎ (k ≡ m → ⊥) → HasKey edges (λ i. get_or paces i 0) k a x × (x.level ≤ total next)
    keys_next k a x is (inr apart) =
        let old = sym (ap (λ (l : List Key). slice_get l a) (other_row k apart)) ∙ is in (rows.keys k a x old, (let l = rows.low k a x old in omega (arith, l, total_next)))
    keys_next k a x is (inl same) = go (push_cases (row_at table m) (key_of (r.level + 1) r.offset) a x
        (sym (ap (λ (l : List Key). slice_get l a) here_row) ∙ ap (λ n. slice_get (row_at next n) a) (sym same) ∙ is))
      where
        go : (slice_get (row_at table m) a ≡ Some x) ⊎ ((a ≡ length (row_at table m)) × (x ≡ key_of (r.level + 1) r.offset)) → HasKey edges (λ i. get_or paces i 0) k a x × (x.level ≤ total next)
        go (inl before) =
            (subst (λ n. HasKey edges (λ i. get_or paces i 0) n a x) (sym same) (rows.keys m a x before), (let l = rows.low m a x before in omega (arith, l, total_next)))
        go (inr p) = (
          subst (λ n. HasKey edges (λ i. get_or paces i 0) n a x) (sym same) (subst (λ n. HasKey edges (λ i. get_or paces i 0) m n x) (sym p.0) (subst (HasKey edges (λ i. get_or paces i 0) m (length (row_at table m))) (sym p.1) new_key)),
          (let e = ap (λ (y : Key). y.level) p.1 in let f = joined.few in omega (arith, e, f, total_next)),
        )

    pub rows_next : AreRows edges (λ k. get_or paces k 0) counts (with_key table m (key_of (r.level + 1) r.offset))
    rows_next = record {
      same = length-set table m _ ∙ rows.same;
      within = λ k. within k (cases_eq k m);
      keys = λ k a x is. (keys_next k a x is (cases_eq k m)).0;
      low = λ k a x is. (keys_next k a x is (cases_eq k m)).1;
    }
      where
        within : (k : ℕ) → (k ≡ m) ⊎ (k ≡ m → ⊥) → length (row_at next k) ≤ get_or counts k 0
        within k (inl same) =
            let e = ap (λ n. length (row_at next n)) same in let h = ap (λ (l : List Key). length l) here_row in let l = length_push (row_at table m) (key_of (r.level + 1) r.offset) in
            let w = rows.within m in let c = ap (λ n. get_or counts n 0) same in omega (arith, e, h, l, w, c, more)
        within k (inr apart) = let e = ap (λ (l : List Key). length l) (other_row k apart) in let w = rows.within k in omega (arith, e, w)

pub row_longer : (table new : List (List Key)) (m : ℕ) (key : Key) → m < length table → new ≡ with_key table m key → length (row_at new m) ≡ length (row_at table m) + 1
row_longer table new m key m_row new_is =
    ap (λ (t : List (List Key)). length (row_at t m)) new_is ∙ ap (λ (l : List Key). length l) (row_here table m (row_at table m ++ key ∷ []) m_row) ∙ length_push (row_at table m) key

-- one actor has more keys
pub grown_none : (m : ℕ) (table : List (List Key)) → HasGrown m table table
grown_none m table = record { kept = omega arith; others = λ k apart. refl; whole = refl }

pub grown_more : (m : ℕ) (old table new : List (List Key)) (key : Key) → m < length table → new ≡ with_key table m key → HasGrown m old table → HasGrown m old new
grown_more m old table new key m_row new_is grown = subst (HasGrown m old) (sym new_is) (record {
  kept = (let h = here in let k = grown.kept in omega (arith, h, k));
  others = λ k apart. row_other table m k (row_at table m ++ key ∷ []) apart ∙ grown.others k apart;
  whole = (let s = sum_by-set {X = List Key} length table m (row_at table m ++ key ∷ []) [] m_row in let h = here in let l = length_push (row_at table m) key in let w = grown.whole in omega (arith, s, h, l, w));
})
  where
    here : length (row_at (with_key table m key) m) ≡ length (row_at table m) + 1
    here = ap (λ (l : List Key). length l) (row_here table m (row_at table m ++ key ∷ []) m_row) ∙ length_push (row_at table m) key

-- an actor that was taken from the stack has all the keys that it can have
module _ (edges : List Edge) (counts : List ℕ) (outputs : List (List ℕ)) (out : AreOutputsUpTo (length edges) counts edges outputs) (old new : List (List Key)) (m : ℕ)
    (stack : List ℕ) (on : List Bool) (worked : IsWorked edges counts old (stack ++ m ∷ []) on) (grown : HasGrown m old new) (here : IsSettled edges counts new m) where
  m_in : m < length counts
  m_in = worked.inside (length stack) m (last_of stack m)

  other_flag : (k : ℕ) → k ≢ m → get_or (set on m false) k false ≡ get_or on k false
  other_flag k apart = get_or-set_other on m k false false apart

  own_flag : get_or (set on m false) m false ≡ false
  own_flag = get_or-set_at on m m false false refl (subst (λ n. m < n) (sym worked.flags) m_in)

  not_own : (k : ℕ) → get_or (set on m false) k false ≡ true → k ≢ m
  not_own k h same = true_false (sym h ∙ ap (λ n. get_or (set on m false) n false) same ∙ own_flag)

  -- another actor stays settled, unless it waits for a key that came
  still : (k : ℕ) → k ≢ m → ((e : Edge) → Contains edges e → e.reader ≡ k → e.writer ≡ m → length (row_at new m) ≤ length (row_at old m)) → IsSettled edges counts old k → IsSettled edges counts new k
  still k apart none (inl full) = inl (ap (λ (l : List Key). length l) (grown.others k apart) ∙ full)
  still k apart none (inr stuck) = inr (record {
    edge = stuck.edge;
    there = stuck.there;
    reads = stuck.reads;
    firing = stuck.firing;
    needs = subst (λ (l : List Key). need_of stuck.edge (length l) ≡ Some stuck.firing) (sym (grown.others k apart)) stuck.needs;
    absent = absent (cases_eq stuck.edge.writer m);
  })
    where
      absent : (stuck.edge.writer ≡ m) ⊎ (stuck.edge.writer ≡ m → ⊥) → length (row_at new stuck.edge.writer) ≤ stuck.firing
      absent (inr other) = subst (λ (l : List Key). length l ≤ stuck.firing) (sym (grown.others stuck.edge.writer other)) stuck.absent
      absent (inl writes) =
          let few = none stuck.edge stuck.there stuck.reads writes in let a = ap (λ n. length (row_at new n)) writes in let b = ap (λ n. length (row_at old n)) writes in
          let was = stuck.absent in omega (arith, few, a, b, was)

  -- it got none
  pub worked_still : length (row_at new m) ≡ length (row_at old m) → IsWorked edges counts new stack (set on m false)
  worked_still same = record {
    flags = length-set on m false ∙ worked.flags;
    stacked = λ k h. let w = worked.stacked k (sym (other_flag k (not_own k h)) ∙ h) in (w.0, before_last stack m w.0 k (not_own k h) w.1);
    inside = λ j k h. worked.inside j k (in_front stack (m ∷ []) j k h);
    settled = λ k inside h. settled k inside h (cases_eq k m);
  }
    where
      settled : (k : ℕ) → k < length counts → get_or (set on m false) k false ≡ false → (k ≡ m) ⊎ (k ≡ m → ⊥) → IsSettled edges counts new k
      settled k inside h (inl is) = subst (IsSettled edges counts new) (sym is) here
      settled k inside h (inr apart) = still k apart (λ e there reads writes. omega (arith, same)) (worked.settled k inside (sym (other_flag k apart) ∙ h))

  -- it got some, and those that read from it are put on the stack
  pub worked_on : (after : List ℕ) (flags : List Bool) → length (row_at new m) ≤ get_or counts m 0 → ArePushed (readers_in edges (links_at outputs m)) (length (links_at outputs m)) stack after (set on m false) flags → IsWorked edges counts new after flags
  worked_on after flags within pushed = record {
    flags = pushed.flags ∙ length-set on m false ∙ worked.flags;
    stacked = λ k h. stacked k (pushed.stacked k h);
    inside = λ j k h. inside j k (pushed.inside j k h);
    settled = λ k inside h. settled k inside h (cases_eq k m);
  }
    where
      stacked : (k : ℕ) → (get_or (set on m false) k false ≡ true) ⊎ ((j : ℕ) × (slice_get after j ≡ Some k)) → (j : ℕ) × (slice_get after j ≡ Some k)
      stacked k (inr w) = w
      stacked k (inl was) = let w = worked.stacked k (sym (other_flag k (not_own k was)) ∙ was) in (w.0, pushed.kept w.0 k (before_last stack m w.0 k (not_own k was) w.1))

      inside : (j k : ℕ) → (k < length (set on m false)) ⊎ (slice_get stack j ≡ Some k) → k < length counts
      inside j k (inl below) = subst (λ n. k < n) (length-set on m false ∙ worked.flags) below
      inside j k (inr was) = worked.inside j k (in_front stack (m ∷ []) j k was)

      reads_it : (k : ℕ) → get_or flags k false ≡ false → (e : Edge) → Contains edges e → e.reader ≡ k → e.writer ≡ m → length (row_at new m) ≤ length (row_at old m)
      reads_it k h e there reads writes = go (cases_eq (get_or counts m 0) 0)
        where
          go : (get_or counts m 0 ≡ 0) ⊎ (get_or counts m 0 ≡ 0 → ⊥) → length (row_at new m) ≤ length (row_at old m)
          go (inl none) = omega (arith, within, none)
          go (inr some) =
              let at = contains_at edges e there in
              let j = out.all at.0 e (slice_get_within edges at.0 e at.1) at.1 (subst (λ n. 0 < get_or counts n 0) (sym writes) (omega (arith, some))) in
              let here : slice_get (links_at outputs m) j.0 ≡ Some at.0 = ap (λ n. slice_get (links_at outputs n) j.0) (sym writes) ∙ j.1 in
              let found : slice_get (readers_in edges (links_at outputs m)) j.0 ≡ Some k =
              slice_get-map (λ (n : ℕ). reader_of (slice_get edges n)) (links_at outputs m) j.0 ∙ ap (option_map (λ (n : ℕ). reader_of (slice_get edges n))) here ∙ ap Some (ap reader_of at.1 ∙ reads) in
              absurd (true_false (sym (pushed.pushed j.0 k (slice_get_within (links_at outputs m) j.0 at.0 here) found) ∙ h))

      settled : (k : ℕ) → k < length counts → get_or flags k false ≡ false → (k ≡ m) ⊎ (k ≡ m → ⊥) → IsSettled edges counts new k
      settled k k_in h (inl is) = subst (IsSettled edges counts new) (sym is) here
      settled k k_in h (inr apart) = still k apart (reads_it k h) (worked.settled k k_in (false_unless (get_or on k false) (λ t. true_false (sym (pushed.on k (other_flag k apart ∙ t)) ∙ h))))

  pub less_on : (after : List ℕ) (flags : List Bool) → length new ≡ length counts → ((k : ℕ) → length (row_at new k) ≤ get_or counts k 0) → (length (row_at new m) ≡ length (row_at old m) → ⊥)
      → ArePushed (readers_in edges (links_at outputs m)) (length (links_at outputs m)) stack after (set on m false) flags → weight edges counts new after ≤ weight edges counts old stack
  less_on after flags same within more pushed =
      let top = total_few new counts same within in let whole = grown.whole in let kept = grown.kept in
      step (sum counts - total new) (sum counts - total old) (length edges) (length after) (length stack) (length (links_at outputs m)) (omega (arith, top, whole, kept, more)) pushed.few (out.few m)
    where
      step : (l1 l0 w s2 s n : ℕ) → l1 + 1 ≤ l0 → s2 ≤ s + n → n ≤ w → l1 * (w + 2) + s2 ≤ l0 * (w + 2) + s
      step l1 l0 w s2 s n fewer grew few = let p : (l1 + 1) * (w + 2) ≡ l1 * (w + 2) + (w + 2) = grind arith in let q = mul-le-mul_right (w + 2) fewer in omega (arith, p, q, grew, few)

-- before any turn
pub rows_start : (edges : List Edge) (pace : ℕ → ℕ) (counts : List ℕ) (table : List (List Key)) (count : ℕ) → count ≡ length counts → table ≡ replicate count []
    → AreRows edges pace counts table
rows_start edges pace counts table count is table_is = subst (AreRows edges pace counts) (sym table_is) (record {
  same = length-replicate count [] ∙ is;
  within = λ m. let e = ap (λ (l : List Key). length l) (empty m (cases_lt m count)) in omega (arith, e);
  keys = λ m a key found. absurd (none_some (ap (λ (l : List Key). slice_get l a) (sym (empty m (cases_lt m count))) ∙ found));
  low = λ m a key found. absurd (none_some (ap (λ (l : List Key). slice_get l a) (sym (empty m (cases_lt m count))) ∙ found));
})
  where
    empty : (m : ℕ) → (m < count) ⊎ (count ≤ m) → row_at (replicate count []) m ≡ []
    empty m (inl here) = get_or-replicate count m [] [] here
    empty m (inr past) = get_or_past (replicate count []) m [] (subst (λ n. n ≤ m) (sym (length-replicate count [])) past)

pub started_none : (counts stack : List ℕ) (on : List Bool) → stack ≡ [] → on ≡ replicate (length counts) false → IsStarted 0 counts stack on
started_none counts stack on none off = subst (λ l. IsStarted 0 counts l on) (sym none) (subst (IsStarted 0 counts []) (sym off) (record {
  flags = length-replicate (length counts) false;
  stacked = λ k h. absurd (true_false (sym h ∙ is_off k (cases_lt k (length counts))));
  inside = λ j k h. absurd (none_some h);
  firing = λ k less. absurd (omega (arith, less));
}))
  where
    is_off : (k : ℕ) → (k < length counts) ⊎ (length counts ≤ k) → get_or (replicate (length counts) false) k false ≡ false
    is_off k (inl here) = get_or-replicate (length counts) k false false here
    is_off k (inr past) = get_or_past (replicate (length counts) false) k false (subst (λ n. n ≤ k) (sym (length-replicate (length counts) false)) past)

pub started_more : (n : ℕ) (counts stack after : List ℕ) (on flags : List Bool) → IsStarted n counts stack on → ArePushed (n ∷ []) 1 stack after on flags → IsStarted (n + 1) counts after flags
started_more n counts stack after on flags started pushed = record {
  flags = pushed.flags ∙ started.flags;
  stacked = λ k h. stacked k (pushed.stacked k h);
  inside = λ j k h. inside j k (pushed.inside j k h);
  firing = λ k less some. firing k less some (cases_eq k n);
}
  where
    stacked : (k : ℕ) → (get_or on k false ≡ true) ⊎ ((j : ℕ) × (slice_get after j ≡ Some k)) → (j : ℕ) × (slice_get after j ≡ Some k)
    stacked k (inr w) = w
    stacked k (inl was) = let w = started.stacked k was in (w.0, pushed.kept w.0 k w.1)

    inside : (j k : ℕ) → (k < length on) ⊎ (slice_get stack j ≡ Some k) → k < length counts
    inside j k (inl below) = subst (λ n. k < n) started.flags below
    inside j k (inr was) = started.inside j k was

    firing : (k : ℕ) → k < n + 1 → 0 < get_or counts k 0 → (k ≡ n) ⊎ (k ≡ n → ⊥) → get_or flags k false ≡ true
    firing k less some (inl same) = pushed.pushed 0 k (omega arith) (ap Some (sym same))
    firing k less some (inr apart) = pushed.on k (started.firing k (omega (arith, less, apart)) some)

pub started_still : (n : ℕ) (counts stack : List ℕ) (on : List Bool) → get_or counts n 0 ≡ 0 → IsStarted n counts stack on → IsStarted (n + 1) counts stack on
started_still n counts stack on none started = record {
  flags = started.flags;
  stacked = started.stacked;
  inside = started.inside;
  firing = λ k less some. firing k less some (cases_eq k n);
}
  where
    firing : (k : ℕ) → k < n + 1 → 0 < get_or counts k 0 → (k ≡ n) ⊎ (k ≡ n → ⊥) → get_or on k false ≡ true
    firing k less some (inl same) = absurd (let e = ap (λ i. get_or counts i 0) same in omega (arith, e, none, some))
    firing k less some (inr apart) = started.firing k (omega (arith, less, apart)) some

pub worked_start : (edges : List Edge) (pace : ℕ → ℕ) (counts : List ℕ) (table : List (List Key)) (stack : List ℕ) (on : List Bool) → AreRows edges pace counts table → IsStarted (length counts) counts stack on
    → IsWorked edges counts table stack on
worked_start edges pace counts table stack on rows started = record {
  flags = started.flags;
  stacked = started.stacked;
  inside = started.inside;
  settled = λ k k_in h. inl (idle k (rows.within k) (cases_eq (get_or counts k 0) 0) k_in h);
}
  where
    idle : (k : ℕ) → length (row_at table k) ≤ get_or counts k 0 → (get_or counts k 0 ≡ 0) ⊎ (get_or counts k 0 ≡ 0 → ⊥) → k < length counts → get_or on k false ≡ false → length (row_at table k) ≡ get_or counts k 0
    idle k within (inl none) k_in h = omega (arith, within, none)
    idle k within (inr some) k_in h = absurd (true_false (sym (started.firing k k_in (omega (arith, some))) ∙ h))
