-- The turns of actors, one more, and the firings laid out by them.
use Rattle.std.proofs.Common.{◌≡◌, ◌∙◌, ℕ, ◌+◌, ◌-◌, ◌<◌, ◌≤◌, ◌⊎◌, inl, inr, Bool, true, false, ◌&&◌, Some, List, [], ◌∷◌, ◌++◌, length, set, replicate, map, take, nat_lt, nat_eq, if◌then◌else◌, refl, sym, ap, subst, arith}
use Rattle.std.proofs.Math.ListN.{get_or}
use Rattle.std.proofs.lemmas.Bool.{cases_eq, cases_lt, lt-ltb, le-ltb, eq-eqb, ne_eqb}
use Rattle.std.proofs.lemmas.Grind.{get_or-set_at}
use Rattle.std.proofs.lemmas.List.{append-nil, append_assoc, replicate_more, length-set, length_push, length-map, get_or-replicate, get_or-set_other, get_or_past, get_or_append_left, get_or-append_right, get_or_default, length-append, get_or-map, same_lists, take_more, take_all, length-replicate}
use Rattle.std.proofs.lemmas.List.Elements.{All-push}
use Rattle.std.proofs.lemmas.List.Folds.{sum_by-replicate}
use Rattle.std.proofs.lemmas.List.Sums.{sum_by-append, sum_by_push, sum_by-set, sum_by_more, sum_by-take-le, sum-map}
use Rattle.std.specs.List.{sum_by}
use Rattle.std.specs.Prelude.{slice_get, sum}
use Rattle.tdf_schedule.proofs.Linked.{row_here, row_other}
use Rattle.tdf_schedule.specs.Plan.{is_firing, key_in}
use Rattle.tdf_schedule.specs.declared.entry.Entry.{Entry}
use Rattle.tdf_schedule.specs.declared.key.Key.{Key}
use Rattle.tdf_schedule.specs.views.Entries.{IsComplete, one_if}
use Rattle.tdf_schedule.specs.views.Table.{row_at, total}
use Rattle.tdf_schedule.specs.views.Turns.{turns_in, turns_of, at_level, GainsTurns, AreByLevel, AreLaid, HasAllTurns}
use Rattle.tdf_schedule.specs.views.Work.{links_at}

-- a number or nothing, by a test
abbrev pub where_so : Bool → ℕ → ℕ
where_so t x = if t then x else 0

either : (t : Bool) (x y : ℕ) → where_so t x + where_so t y ≡ where_so t (x + y)
either true x y = refl
either false x y = omega arith

nothing : (t : Bool) → where_so t 0 ≡ 0
nothing true = refl
nothing false = refl

empty : (n l : ℕ) → (l < n) ⊎ (n ≤ l) → links_at (replicate n []) l ≡ []
empty n l (inl within) = get_or-replicate n l [] [] within
empty n l (inr beyond) = get_or_past (replicate n []) l [] (subst (λ c. c ≤ l) (sym (length-replicate n [])) beyond)

-- empty lists more
pub gains_none : (m n : ℕ) (lists new : List (List ℕ)) → new ≡ lists ++ replicate n [] → GainsTurns m [] lists new
gains_none m n lists new new_is = subst (GainsTurns m [] lists) (sym new_is) (record {
  each = λ l k. let e = ap (λ (list : List ℕ). turns_in list k) (same l (cases_lt l (length lists))) in let z = nothing (nat_eq k m) in omega (arith, e, z);
  all = λ k. let a = sum_by-append (λ (list : List ℕ). turns_in list k) lists (replicate n []) in let r = sum_by-replicate (λ (list : List ℕ). turns_in list k) n [] in
      let z = nothing (nat_eq k m) in omega (arith, a, r, z);
})
  where
    same : (l : ℕ) → (l < length lists) ⊎ (length lists ≤ l) → links_at (lists ++ replicate n []) l ≡ links_at lists l
    same l (inl here) = get_or_append_left lists (replicate n []) [] l here
    same l (inr past) = get_or-append_right lists (replicate n []) (length lists) l [] refl past ∙ empty n (l - length lists) (cases_lt (l - length lists) n) ∙ sym (get_or_past lists l [] past)

pub gains_start : (m : ℕ) (lists : List (List ℕ)) → GainsTurns m [] lists lists
gains_start m lists = gains_none m 0 lists lists (sym (append-nil lists))

-- empty lists more, one by one
pub empty_none : (lists : List (List ℕ)) → lists ≡ lists ++ replicate (length lists - length lists) []
empty_none lists = sym (ap (λ n. lists ++ replicate n []) none ∙ append-nil lists)
  where
    none : length lists - length lists ≡ 0
    none = omega arith

pub empty_more : (old lists new : List (List ℕ)) → lists ≡ old ++ replicate (length lists - length old) [] → new ≡ lists ++ [] ∷ [] → new ≡ old ++ replicate (length new - length old) []
empty_more old lists new is new_is =
    new_is ∙ ap (λ (l : List (List ℕ)). l ++ [] ∷ []) is ∙ append_assoc old (replicate (length lists - length old) []) ([] ∷ []) ∙ ap (λ (l : List (List ℕ)). old ++ l) (replicate_more (length lists - length old) [])
    ∙ ap (λ n. old ++ replicate n []) count
  where
    count : length lists - length old + 1 ≡ length new - length old
    count = let e = ap (λ (l : List (List ℕ)). length l) is in let a = length-append old (replicate (length lists - length old) []) in let n = ap (λ (l : List (List ℕ)). length l) new_is in
        let p = length_push lists [] in omega (arith, e, a, n, p)

-- one turn more
pub gains_one : (m l0 : ℕ) (key : Key) (lists : List (List ℕ)) → l0 < length lists → key.level ≡ l0 → GainsTurns m (key ∷ []) lists (set lists l0 (links_at lists l0 ++ m ∷ []))
gains_one m l0 key lists inside level = record {
  each = λ l k. each l k (cases_eq l l0);
  all = λ k. let s = sum_by-set (λ (list : List ℕ). turns_in list k) lists l0 (links_at lists l0 ++ m ∷ []) [] inside in let p = pushed k in let f = flipped k in omega (arith, s, p, f);
}
  where
    pushed : (k : ℕ) → turns_in (links_at lists l0 ++ m ∷ []) k ≡ turns_in (links_at lists l0) k + where_so (nat_eq m k) 1
    pushed k = sum_by_push (λ (n : ℕ). where_so (nat_eq n k) 1) (links_at lists l0) m

    flipped : (k : ℕ) → where_so (nat_eq m k) 1 ≡ where_so (nat_eq k m) 1
    flipped k = go (cases_eq m k)
      where
        go : (m ≡ k) ⊎ (m ≡ k → ⊥) → where_so (nat_eq m k) 1 ≡ where_so (nat_eq k m) 1
        go (inl is) = rw (eq-eqb m k is, eq-eqb k m (sym is)) refl
        go (inr not) = rw (ne_eqb m k not, ne_eqb k m (λ e. not (sym e))) refl

    each : (l k : ℕ) → (l ≡ l0) ⊎ (l ≡ l0 → ⊥) → turns_in (links_at (set lists l0 (links_at lists l0 ++ m ∷ [])) l) k ≡ turns_in (links_at lists l) k + where_so (nat_eq k m) (at_level l (key ∷ []))
    each l k (inr other) =
        let e = ap (λ (list : List ℕ). turns_in list k) (row_other lists l0 l (links_at lists l0 ++ m ∷ []) other) in
        let z : at_level l (key ∷ []) ≡ 0 = rw (ne_eqb key.level l (λ e. other (sym e ∙ level))) refl in
        let n = ap (λ x. where_so (nat_eq k m) x) z ∙ nothing (nat_eq k m) in omega (arith, e, n)
    each l k (inl same) =
        subst (λ n. turns_in (links_at (set lists l0 (links_at lists l0 ++ m ∷ [])) n) k ≡ turns_in (links_at lists n) k + where_so (nat_eq k m) (at_level n (key ∷ []))) (sym same)
        (let e = ap (λ (list : List ℕ). turns_in list k) (row_here lists l0 (links_at lists l0 ++ m ∷ []) inside) in
        let one : at_level l0 (key ∷ []) ≡ 1 = rw (eq-eqb key.level l0 level) refl in
        let n = ap (λ x. where_so (nat_eq k m) x) one in let p = pushed k in let f = flipped k in omega (arith, e, n, p, f))

-- some, and then others
pub gains_then : (m : ℕ) (xs ys : List Key) (a b c : List (List ℕ)) → GainsTurns m xs a b → GainsTurns m ys b c → GainsTurns m (xs ++ ys) a c
gains_then m xs ys a b c first second = record {
  each = λ l k. let f = first.each l k in let s = second.each l k in let e = either (nat_eq k m) (at_level l xs) (at_level l ys) in
      let p = ap (λ n. where_so (nat_eq k m) n) (sum_by-append (λ (key : Key). if nat_eq key.level l then 1 else 0) xs ys) in omega (arith, f, s, e, p);
  all = λ k. let f = first.all k in let s = second.all k in let e = either (nat_eq k m) (length xs) (length ys) in
      let p = ap (λ n. where_so (nat_eq k m) n) (length-append xs ys) in omega (arith, f, s, e, p);
}

pub gains_reached : (m n : ℕ) (xs : List Key) (a b new : List (List ℕ)) → GainsTurns m xs a b → new ≡ b ++ replicate n [] → GainsTurns m xs a new
gains_reached m n xs a b new before new_is = subst (λ (keys : List Key). GainsTurns m keys a new) (append-nil xs) (gains_then m xs [] a b new before (gains_none m n b new new_is))

-- the next key of a row
pub gains_more : (m i : ℕ) (d : Key) (row : List Key) (a b new : List (List ℕ)) (l0 : ℕ) → i < length row → l0 < length b → (get_or row i d).level ≡ l0
    → GainsTurns m (take i row) a b → new ≡ set b l0 (links_at b l0 ++ m ∷ []) → GainsTurns m (take (i + 1) row) a new
gains_more m i d row a b new l0 within inside level before new_is = subst (GainsTurns m (take (i + 1) row) a) (sym new_is)
    (subst (λ (keys : List Key). GainsTurns m keys a (set b l0 (links_at b l0 ++ m ∷ []))) (sym (take_more row i d within))
    (gains_then m (take i row) (get_or row i d ∷ []) a b (set b l0 (links_at b l0 ++ m ∷ [])) before (gains_one m l0 (get_or row i d) b inside level)))

-- the turns of one actor more
pub levels_more : (n : ℕ) (table : List (List Key)) (levels new : List (List ℕ)) → AreByLevel n table levels → GainsTurns n (row_at table n) levels new → AreByLevel (n + 1) table new
levels_more n table levels new are gains = record {
  each = λ l k. gains.each l k ∙ ap (λ x. x + where_so (nat_eq k n) (at_level l (row_at table n))) (are.each l k) ∙ joined (at_level l) k (cases_eq k n) (cases_lt k n);
  all = λ k. gains.all k ∙ ap (λ x. x + where_so (nat_eq k n) (length (row_at table n))) (are.all k) ∙ joined (λ (row : List Key). length row) k (cases_eq k n) (cases_lt k n);
}
  where
    joined : (f : List Key → ℕ) (k : ℕ) → (k ≡ n) ⊎ (k ≡ n → ⊥) → (k < n) ⊎ (n ≤ k)
        → where_so (nat_lt k n) (f (row_at table k)) + where_so (nat_eq k n) (f (row_at table n)) ≡ where_so (nat_lt k (n + 1)) (f (row_at table k))
    joined f k (inl is) below = rw (le-ltb k n (omega (arith, is)), eq-eqb k n is, lt-ltb k (n + 1) (omega (arith, is))) (let e = ap (λ i. f (row_at table i)) is in omega (arith, e))
    joined f k (inr not) (inl below) = rw (lt-ltb k n below, ne_eqb k n not, lt-ltb k (n + 1) (omega (arith, below))) (omega arith)
    joined f k (inr not) (inr above) = rw (le-ltb k n above, ne_eqb k n not, le-ltb k (n + 1) (omega (arith, above, not))) refl

pub levels_none : (table : List (List Key)) (levels : List (List ℕ)) → levels ≡ [] → AreByLevel 0 table levels
levels_none table levels none = subst (AreByLevel 0 table) (sym none) (record {
  each = λ l k. rw (le-ltb k 0 (omega arith)) refl;
  all = λ k. rw (le-ltb k 0 (omega arith)) refl;
})

-- after the last actor
pub all_turns : (n : ℕ) (table : List (List Key)) (levels : List (List ℕ)) → length table ≡ n → AreByLevel n table levels → HasAllTurns table levels
all_turns n table levels all are k = are.all k ∙ go (cases_lt k n)
  where
    go : (k < n) ⊎ (n ≤ k) → where_so (nat_lt k n) (length (row_at table k)) ≡ length (row_at table k)
    go (inl below) = rw (lt-ltb k n below) refl
    go (inr past) = rw (le-ltb k n past) (sym (ap (λ (row : List Key). length row) (get_or_past table k [] (subst (λ c. c ≤ k) (sym all) past))))

-- an actor with a firing has a row
pub row_inside : (table : List (List Key)) (m a : ℕ) → a < length (row_at table m) → m < length table
row_inside table m a some = go (cases_lt m (length table))
  where
    go : (m < length table) ⊎ (length table ≤ m) → m < length table
    go (inl here) = here
    go (inr past) = absurd (let e = ap (λ (row : List Key). length row) (get_or_past table m [] past) in omega (arith, some, e))

-- a row that was read
pub row_read : (table : List (List Key)) (m : ℕ) (row : List Key) → m < length table → row ≡ get_or table m row → row ≡ row_at table m
row_read table m row inside is = is ∙ get_or_default table m row [] inside

-- a firing more is laid out
laid_more : (table : List (List Key)) (done : List ℕ) (entries : List Entry) (m : ℕ) (key : Key) → m < length done → slice_get (row_at table m) (get_or done m 0) ≡ Some key → AreLaid table done entries
    → AreLaid table (set done m (get_or done m 0 + 1)) (entries ++ record { offset = key.offset; level = key.level; actor = m; index = get_or done m 0 } ∷ [])
laid_more table done entries m key inside is laid = record {
  long = length-set done m (get_or done m 0 + 1) ∙ laid.long;
  counted = λ k b. sum_by_push (λ (x : Entry). one_if (is_firing k b x)) entries next ∙ ap (λ n. n + one_if (is_firing k b next)) (laid.counted k b) ∙ counted k b (cases_eq m k) (cases_eq (get_or done m 0) b) (cases_lt b (get_or done m 0));
  keys = All-push (λ (x : Entry). slice_get (row_at table x.actor) x.index ≡ Some (key_in x)) entries next laid.keys is;
  many = (let p = length_push entries next in let s = sum_by-set (λ (x : ℕ). x) done m (get_or done m 0 + 1) 0 inside in let l = laid.many in omega (arith, p, s, l));
}
  where
    next : Entry
    next = record { offset = key.offset; level = key.level; actor = m; index = get_or done m 0 }

    counted : (k b : ℕ) → (m ≡ k) ⊎ (m ≡ k → ⊥) → (get_or done m 0 ≡ b) ⊎ (get_or done m 0 ≡ b → ⊥) → (b < get_or done m 0) ⊎ (get_or done m 0 ≤ b)
        → one_if (nat_lt b (get_or done k 0)) + one_if (nat_eq m k && nat_eq (get_or done m 0) b) ≡ one_if (nat_lt b (get_or (set done m (get_or done m 0 + 1)) k 0))
    counted k b (inr not) now below =
        rw (ne_eqb m k not, get_or-set_other done m k (get_or done m 0 + 1) 0 (λ e. not (sym e))) (omega arith)
    counted k b (inl same) (inl now) below =
        subst (λ i. one_if (nat_lt b (get_or done i 0)) + one_if (nat_eq m i && nat_eq (get_or done m 0) b) ≡ one_if (nat_lt b (get_or (set done m (get_or done m 0 + 1)) i 0))) same
        (rw (get_or-set_at done m m (get_or done m 0 + 1) 0 refl inside, eq-eqb m m refl, eq-eqb (get_or done m 0) b now, le-ltb b (get_or done m 0) (omega (arith, now)), lt-ltb b (get_or done m 0 + 1) (omega (arith, now))) refl)
    counted k b (inl same) (inr other) (inl below) =
        subst (λ i. one_if (nat_lt b (get_or done i 0)) + one_if (nat_eq m i && nat_eq (get_or done m 0) b) ≡ one_if (nat_lt b (get_or (set done m (get_or done m 0 + 1)) i 0))) same
        (rw (get_or-set_at done m m (get_or done m 0 + 1) 0 refl inside, eq-eqb m m refl, ne_eqb (get_or done m 0) b other, lt-ltb b (get_or done m 0) below, lt-ltb b (get_or done m 0 + 1) (omega (arith, below))) refl)
    counted k b (inl same) (inr other) (inr above) =
        subst (λ i. one_if (nat_lt b (get_or done i 0)) + one_if (nat_eq m i && nat_eq (get_or done m 0) b) ≡ one_if (nat_lt b (get_or (set done m (get_or done m 0 + 1)) i 0))) same
        (rw (get_or-set_at done m m (get_or done m 0 + 1) 0 refl inside, eq-eqb m m refl, ne_eqb (get_or done m 0) b other, le-ltb b (get_or done m 0) above, le-ltb b (get_or done m 0 + 1) (omega (arith, above, other))) refl)

-- the same as the code meets it
pub laid_next : (table : List (List Key)) (done : List ℕ) (entries new : List Entry) (m i : ℕ) (row : List Key) (key : Key) → AreLaid table done entries → get_or done m 0 < length (row_at table m)
    → i ≡ get_or done m i → row ≡ get_or table m row → slice_get row i ≡ Some key → new ≡ entries ++ record { offset = key.offset; level = key.level; actor = m; index = i } ∷ [] → AreLaid table (set done m (i + 1)) new
laid_next table done entries new m i row key laid more i_is row_is key_is new_is =
    let here = row_inside table m (get_or done m 0) more in
    let inside : m < length done = subst (λ n. m < n) (sym laid.long) here in
    let at : i ≡ get_or done m 0 = i_is ∙ get_or_default done m i 0 inside in
    subst (AreLaid table (set done m (i + 1))) (sym new_is)
    (subst (λ n. AreLaid table (set done m (n + 1)) (entries ++ record { offset = key.offset; level = key.level; actor = m; index = n } ∷ [])) (sym at)
    (laid_more table done entries m key inside (subst (λ (l : List Key). slice_get l (get_or done m 0) ≡ Some key) (row_read table m row here row_is) (ap (slice_get row) (sym at) ∙ key_is)) laid))

-- one turn more of a list
pub turn_more : (turns : List ℕ) (i k : ℕ) (d : ℕ) → i < length turns → turns_in (take (i + 1) turns) k ≡ turns_in (take i turns) k + where_so (nat_eq (get_or turns i d) k) 1
turn_more turns i k d within = sum_by_more (λ (n : ℕ). where_so (nat_eq n k) 1) turns i d within

-- the next turn is one of those that an actor has left
pub turn_left : (table : List (List Key)) (first done turns : List ℕ) (i d : ℕ) → i < length turns
    → ((k : ℕ) → get_or first k 0 + turns_in turns k ≤ length (row_at table k)) → ((k : ℕ) → get_or done k 0 ≡ get_or first k 0 + turns_in (take i turns) k)
    → get_or done (get_or turns i d) 0 < length (row_at table (get_or turns i d))
turn_left table first done turns i d within left is =
    let m = get_or turns i d in
    let one = turn_more turns i m d within in
    let test : where_so (nat_eq m m) 1 ≡ 1 = rw (eq-eqb m m refl) refl in
    let few = sum_by-take-le (λ (n : ℕ). where_so (nat_eq n m) 1) turns (i + 1) in
    let l = left m in let e = is m in omega (arith, one, test, few, l, e)

-- after the last list
pub all_done : (table : List (List Key)) (lists : List (List ℕ)) (i : ℕ) (done : List ℕ) → length lists ≤ i → HasAllTurns table lists → ((k : ℕ) → get_or done k 0 ≡ turns_of (take i lists) k)
    → (k : ℕ) → get_or done k 0 ≡ length (row_at table k)
all_done table lists i done past all is k = is k ∙ ap (λ (l : List (List ℕ)). turns_of l k) (take_all i lists past) ∙ all k

-- all is laid out
module _ (table : List (List Key)) (done : List ℕ) (entries : List Entry) (laid : AreLaid table done entries) (all : (k : ℕ) → get_or done k 0 ≡ length (row_at table k)) where
  pub laid_complete : IsComplete table entries
  laid_complete k b = laid.counted k b ∙ ap (λ n. one_if (nat_lt b n)) (all k) ∙ go (cases_lt k (length table))
    where
      go : (k < length table) ⊎ (length table ≤ k) → one_if (nat_lt b (length (row_at table k))) ≡ one_if (nat_lt k (length table) && nat_lt b (length (row_at table k)))
      go (inl here) = rw (lt-ltb k (length table) here) refl
      go (inr past) = let e : length (row_at table k) ≡ 0 = ap (λ (row : List Key). length row) (get_or_past table k [] past) in
          rw (le-ltb k (length table) past) (ap (λ n. one_if (nat_lt b n)) e ∙ ap one_if (le-ltb b 0 (omega arith)))

  pub laid_total : length entries ≡ total table
  laid_total = laid.many ∙ ap (λ (l : List ℕ). sum l) same ∙ sum-map (λ (row : List Key). length row) table
    where
      same : done ≡ map (λ (row : List Key). length row) table
      same = same_lists done (map (λ (row : List Key). length row) table) (laid.long ∙ sym (length-map table (λ (row : List Key). length row)))
          (λ k d here. let within : k < length table = subst (λ n. k < n) laid.long here in
          get_or_default done k d 0 here ∙ all k ∙ sym (get_or-map (λ (row : List Key). length row) table k [] d within))
