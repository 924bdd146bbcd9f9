-- Lists by actor, one number more.
use Rattle.std.proofs.Common.{◌≡◌, ◌≢◌, ◌∙◌, ℕ, zero, suc, ◌+◌, ◌<◌, ◌≤◌, ◌⊎◌, inl, inr, Some, List, [], ◌∷◌, ◌++◌, length, set, replicate, refl, sym, ap, subst, arith}
use Rattle.std.proofs.Math.ListN.{get_or}
use Rattle.std.proofs.lemmas.Bool.{cases_eq, cases_lt}
use Rattle.std.proofs.lemmas.Grind.{get_or-set_at}
use Rattle.std.proofs.lemmas.List.{length-set, length_push, length-replicate, get_or-replicate, get_or-set_other, get_or_past}
use Rattle.std.proofs.lemmas.List.Elements.{All-contains, All-weaker}
use Rattle.std.proofs.lemmas.Option.{slice_get_within, slice_get-get_or}
use Rattle.std.specs.Prelude.{slice_get, All}
use Rattle.tdf_graph.specs.Ranges.{IsEdge}
use Rattle.tdf_graph.specs.declared.actors.Edge.{Edge}
use Rattle.tdf_schedule.proofs.Keys.{some_same, none_some, at_contains}
use Rattle.tdf_schedule.specs.declared.entry.Entry.{Entry}
use Rattle.tdf_schedule.specs.declared.key.Key.{Key}
use Rattle.tdf_schedule.specs.Plan.{key_in}
use Rattle.tdf_schedule.specs.views.Entries.{HasOwnKeys}
use Rattle.tdf_schedule.specs.views.Table.{row_at, AreInputs, AreOutputs}
use Rattle.tdf_schedule.specs.views.Work.{links_at, AreInputsUpTo, AreOutputsUpTo}

-- a list with one more at its end
pub in_front : {A : Type 0} (xs ys : List A) (j : ℕ) (x : A) → slice_get xs j ≡ Some x → slice_get (xs ++ ys) j ≡ Some x
in_front [] ys j x h = absurd (none_some h)
in_front (y ∷ xs) ys zero x h = h
in_front (y ∷ xs) ys (suc j) x h = in_front xs ys j x h

pub last_of : {A : Type 0} (xs : List A) (x : A) → slice_get (xs ++ x ∷ []) (length xs) ≡ Some x
last_of [] x = refl
last_of (y ∷ xs) x = last_of xs x

pub push_cases : {A : Type 0} (xs : List A) (y : A) (j : ℕ) (x : A) → slice_get (xs ++ y ∷ []) j ≡ Some x → (slice_get xs j ≡ Some x) ⊎ ((j ≡ length xs) × (x ≡ y))
push_cases [] y zero x h = inr (refl, sym (some_same h))
push_cases [] y (suc j) x h = absurd (none_some h)
push_cases (z ∷ xs) y zero x h = inl h
push_cases {A} (z ∷ xs) y (suc j) x h = go (push_cases xs y j x h)
  where
    go : (slice_get xs j ≡ Some x) ⊎ ((j ≡ length xs) × (x ≡ y)) → (slice_get xs j ≡ Some x) ⊎ ((suc j ≡ suc (length xs)) × (x ≡ y))
    go (inl before) = inl before
    go (inr p) = inr (ap suc p.0, p.1)

-- the list of one actor is longer, all others are what they were
pub row_here : {A : Type 0} (lists : List (List A)) (m : ℕ) (row : List A) → m < length lists → get_or (set lists m row) m [] ≡ row
row_here lists m row here = get_or-set_at lists m m row [] refl here

pub row_other : {A : Type 0} (lists : List (List A)) (m k : ℕ) (row : List A) → k ≢ m → get_or (set lists m row) k [] ≡ get_or lists k []
row_other lists m k row other = get_or-set_other lists m k row [] other

none_in : (count m j k : ℕ) → slice_get (links_at (replicate count []) m) j ≡ Some k → ⊥
none_in count m j k is = go (cases_lt m count)
  where
    empty : links_at (replicate count []) m ≡ [] → ⊥
    empty e = none_some (ap (λ (l : List ℕ). slice_get l j) (sym e) ∙ is)

    go : (m < count) ⊎ (count ≤ m) → ⊥
    go (inl here) = empty (get_or-replicate count m [] [] here)
    go (inr past) = empty (get_or_past (replicate count []) m [] (subst (λ n. n ≤ m) (sym (length-replicate count [])) past))

pub no_inputs : (counts : List ℕ) (edges : List Edge) (lists : List (List ℕ)) → lists ≡ replicate (length counts) [] → AreInputsUpTo 0 counts edges lists
no_inputs counts edges lists is = subst (AreInputsUpTo 0 counts edges) (sym is) (record {
  long = length-replicate (length counts) [];
  all = λ k e less. absurd (omega (arith, less));
  only = λ m j k found. absurd (none_in (length counts) m j k found);
})

pub no_outputs : (counts : List ℕ) (edges : List Edge) (lists : List (List ℕ)) → lists ≡ replicate (length counts) [] → AreOutputsUpTo 0 counts edges lists
no_outputs counts edges lists is = subst (AreOutputsUpTo 0 counts edges) (sym is) (record {
  long = length-replicate (length counts) [];
  all = λ k e less. absurd (omega (arith, less));
  only = λ m j k found. absurd (none_in (length counts) m j k found);
  few = λ m. few m (cases_lt m (length counts));
})
  where
    few : (m : ℕ) → (m < length counts) ⊎ (length counts ≤ m) → length (links_at (replicate (length counts) []) m) ≤ 0
    few m (inl here) = let e = ap (λ (l : List ℕ). length l) (get_or-replicate (length counts) m [] [] here) in omega (arith, e)
    few m (inr past) = let e = ap (λ (l : List ℕ). length l) (get_or_past (replicate (length counts) []) m [] (subst (λ n. n ≤ m) (sym (length-replicate (length counts) [])) past)) in omega (arith, e)

module _ (n : ℕ) (counts : List ℕ) (edges : List Edge) (lists : List (List ℕ)) (d : Edge) (fit : All (IsEdge (length counts)) edges) (here : n < length edges) where
  abbrev e : Edge
  e = get_or edges n d

  e_is : slice_get edges n ≡ Some e
  e_is = slice_get-get_or edges n d here

  fits : IsEdge (length counts) e
  fits = All-contains (IsEdge (length counts)) edges e fit (at_contains edges n e e_is)

  is_e : (k : ℕ) (x : Edge) → k ≡ n → slice_get edges k ≡ Some x → x ≡ e
  is_e k x same x_is = some_same (sym x_is ∙ ap (slice_get edges) same ∙ e_is)

  pub inputs_more : AreInputsUpTo n counts edges lists → AreInputsUpTo (n + 1) counts edges (set lists (get_or edges n d).reader (links_at lists (get_or edges n d).reader ++ n ∷ []))
  inputs_more are = record {
    long = length-set lists e.reader row ∙ are.long;
    all = λ k x less x_is some. all k x less x_is some (cases_eq k n) (cases_eq x.reader e.reader);
    only = λ m j k found. only m j k found (cases_eq m e.reader);
  }
    where
      row : List ℕ
      row = links_at lists e.reader ++ n ∷ []

      inside : e.reader < length lists
      inside = subst (λ c. e.reader < c) (sym are.long) fits.reader

      all : (k : ℕ) (x : Edge) → k < n + 1 → slice_get edges k ≡ Some x → 0 < get_or counts x.reader 0 → (k ≡ n) ⊎ (k ≡ n → ⊥) → (x.reader ≡ e.reader) ⊎ (x.reader ≡ e.reader → ⊥)
          → (j : ℕ) × (slice_get (links_at (set lists e.reader row) x.reader) j ≡ Some k)
      all k x less x_is some (inl same) there = (
        length (links_at lists e.reader),
        subst (λ m. slice_get (links_at (set lists e.reader row) m) (length (links_at lists e.reader)) ≡ Some k) (sym (ap (λ (y : Edge). y.reader) (is_e k x same x_is)))
            (ap (λ (l : List ℕ). slice_get l (length (links_at lists e.reader))) (row_here lists e.reader row inside) ∙ last_of (links_at lists e.reader) n ∙ ap Some (sym same)),
      )
      all k x less x_is some (inr other) (inl there) = let b = are.all k x (omega (arith, less, other)) x_is some in (
        b.0,
        ap (λ m. slice_get (links_at (set lists e.reader row) m) b.0) there ∙ ap (λ (l : List ℕ). slice_get l b.0) (row_here lists e.reader row inside)
            ∙ in_front (links_at lists e.reader) (n ∷ []) b.0 k (ap (λ m. slice_get (links_at lists m) b.0) (sym there) ∙ b.1),
      )
      all k x less x_is some (inr other) (inr apart) = let b = are.all k x (omega (arith, less, other)) x_is some in
          (b.0, ap (λ (l : List ℕ). slice_get l b.0) (row_other lists e.reader x.reader row apart) ∙ b.1)

      only : (m j k : ℕ) → slice_get (links_at (set lists e.reader row) m) j ≡ Some k → (m ≡ e.reader) ⊎ (m ≡ e.reader → ⊥)
          → (x : Edge) × (slice_get edges k ≡ Some x) × (x.reader ≡ m)
      only m j k found (inr apart) = are.only m j k (sym (ap (λ (l : List ℕ). slice_get l j) (row_other lists e.reader m row apart)) ∙ found)
      only m j k found (inl same) = go (push_cases (links_at lists e.reader) n j k
          (sym (ap (λ (l : List ℕ). slice_get l j) (row_here lists e.reader row inside)) ∙ ap (λ p. slice_get (links_at (set lists e.reader row) p) j) (sym same) ∙ found))
        where
          go : (slice_get (links_at lists e.reader) j ≡ Some k) ⊎ ((j ≡ length (links_at lists e.reader)) × (k ≡ n)) → (x : Edge) × (slice_get edges k ≡ Some x) × (x.reader ≡ m)
          go (inl before) = are.only m j k (ap (λ p. slice_get (links_at lists p) j) same ∙ before)
          go (inr p) = (e, ap (slice_get edges) p.1 ∙ e_is, sym same)

  pub outputs_more : AreOutputsUpTo n counts edges lists → AreOutputsUpTo (n + 1) counts edges (set lists (get_or edges n d).writer (links_at lists (get_or edges n d).writer ++ n ∷ []))
  outputs_more are = record {
    long = length-set lists e.writer row ∙ are.long;
    all = λ k x less x_is some. all k x less x_is some (cases_eq k n) (cases_eq x.writer e.writer);
    only = λ m j k found. only m j k found (cases_eq m e.writer);
    few = λ m. few m (cases_eq m e.writer);
  }
    where
      row : List ℕ
      row = links_at lists e.writer ++ n ∷ []

      inside : e.writer < length lists
      inside = subst (λ c. e.writer < c) (sym are.long) fits.writer

      all : (k : ℕ) (x : Edge) → k < n + 1 → slice_get edges k ≡ Some x → 0 < get_or counts x.writer 0 → (k ≡ n) ⊎ (k ≡ n → ⊥) → (x.writer ≡ e.writer) ⊎ (x.writer ≡ e.writer → ⊥)
          → (j : ℕ) × (slice_get (links_at (set lists e.writer row) x.writer) j ≡ Some k)
      all k x less x_is some (inl same) there = (
        length (links_at lists e.writer),
        subst (λ m. slice_get (links_at (set lists e.writer row) m) (length (links_at lists e.writer)) ≡ Some k) (sym (ap (λ (y : Edge). y.writer) (is_e k x same x_is)))
            (ap (λ (l : List ℕ). slice_get l (length (links_at lists e.writer))) (row_here lists e.writer row inside) ∙ last_of (links_at lists e.writer) n ∙ ap Some (sym same)),
      )
      all k x less x_is some (inr other) (inl there) = let b = are.all k x (omega (arith, less, other)) x_is some in (
        b.0,
        ap (λ m. slice_get (links_at (set lists e.writer row) m) b.0) there ∙ ap (λ (l : List ℕ). slice_get l b.0) (row_here lists e.writer row inside)
            ∙ in_front (links_at lists e.writer) (n ∷ []) b.0 k (ap (λ m. slice_get (links_at lists m) b.0) (sym there) ∙ b.1),
      )
      all k x less x_is some (inr other) (inr apart) = let b = are.all k x (omega (arith, less, other)) x_is some in
          (b.0, ap (λ (l : List ℕ). slice_get l b.0) (row_other lists e.writer x.writer row apart) ∙ b.1)

      only : (m j k : ℕ) → slice_get (links_at (set lists e.writer row) m) j ≡ Some k → (m ≡ e.writer) ⊎ (m ≡ e.writer → ⊥)
          → (x : Edge) × (slice_get edges k ≡ Some x) × (x.writer ≡ m)
      only m j k found (inr apart) = are.only m j k (sym (ap (λ (l : List ℕ). slice_get l j) (row_other lists e.writer m row apart)) ∙ found)
      only m j k found (inl same) = go (push_cases (links_at lists e.writer) n j k
          (sym (ap (λ (l : List ℕ). slice_get l j) (row_here lists e.writer row inside)) ∙ ap (λ p. slice_get (links_at (set lists e.writer row) p) j) (sym same) ∙ found))
        where
          go : (slice_get (links_at lists e.writer) j ≡ Some k) ⊎ ((j ≡ length (links_at lists e.writer)) × (k ≡ n)) → (x : Edge) × (slice_get edges k ≡ Some x) × (x.writer ≡ m)
          go (inl before) = are.only m j k (ap (λ p. slice_get (links_at lists p) j) same ∙ before)
          go (inr p) = (e, ap (slice_get edges) p.1 ∙ e_is, sym same)

      few : (m : ℕ) → (m ≡ e.writer) ⊎ (m ≡ e.writer → ⊥) → length (links_at (set lists e.writer row) m) ≤ n + 1
      few m (inr apart) = let e2 = ap length (row_other lists e.writer m row apart) in let f = are.few m in omega (arith, e2, f)
      few m (inl same) =
          let a = ap (λ p. length (links_at (set lists e.writer row) p)) same in let b = ap length (row_here lists e.writer row inside) in
          let c = length_push (links_at lists e.writer) n in let f = are.few e.writer in omega (arith, a, b, c, f)

  -- an actor that doesn't fire needs no list
  pub inputs_still : get_or counts (get_or edges n d).reader 0 ≡ 0 → AreInputsUpTo n counts edges lists → AreInputsUpTo (n + 1) counts edges lists
  inputs_still none are = record {
    long = are.long;
    all = λ k x less x_is some. all k x less x_is some (cases_eq k n);
    only = are.only;
  }
    where
      all : (k : ℕ) (x : Edge) → k < n + 1 → slice_get edges k ≡ Some x → 0 < get_or counts x.reader 0 → (k ≡ n) ⊎ (k ≡ n → ⊥) → (j : ℕ) × (slice_get (links_at lists x.reader) j ≡ Some k)
      all k x less x_is some (inl same) = absurd (let c = ap (λ (y : Edge). get_or counts y.reader 0) (is_e k x same x_is) in omega (arith, c, none, some))
      all k x less x_is some (inr other) = are.all k x (omega (arith, less, other)) x_is some

  pub outputs_still : get_or counts (get_or edges n d).writer 0 ≡ 0 → AreOutputsUpTo n counts edges lists → AreOutputsUpTo (n + 1) counts edges lists
  outputs_still none are = record {
    long = are.long;
    all = λ k x less x_is some. all k x less x_is some (cases_eq k n);
    only = are.only;
    few = λ m. let f = are.few m in omega (arith, f);
  }
    where
      all : (k : ℕ) (x : Edge) → k < n + 1 → slice_get edges k ≡ Some x → 0 < get_or counts x.writer 0 → (k ≡ n) ⊎ (k ≡ n → ⊥) → (j : ℕ) × (slice_get (links_at lists x.writer) j ≡ Some k)
      all k x less x_is some (inl same) = absurd (let c = ap (λ (y : Edge). get_or counts y.writer 0) (is_e k x same x_is) in omega (arith, c, none, some))
      all k x less x_is some (inr other) = are.all k x (omega (arith, less, other)) x_is some

-- all of them
pub inputs_at : (counts : List ℕ) (edges : List Edge) (lists : List (List ℕ)) (m : ℕ) → 0 < get_or counts m 0 → AreInputsUpTo (length edges) counts edges lists → AreInputs edges m (links_at lists m)
inputs_at counts edges lists m fires are = record {
  all = λ k e e_is reads. let a = are.all k e (slice_get_within edges k e e_is) e_is (subst (λ n. 0 < get_or counts n 0) (sym reads) fires) in (a.0, ap (λ p. slice_get (links_at lists p) a.0) (sym reads) ∙ a.1);
  only = λ j k found. are.only m j k found;
}

pub outputs_at : (counts : List ℕ) (edges : List Edge) (lists : List (List ℕ)) (m : ℕ) → 0 < get_or counts m 0 → AreOutputsUpTo (length edges) counts edges lists → AreOutputs edges m (links_at lists m)
outputs_at counts edges lists m fires are = record {
  all = λ k e e_is writes. let a = are.all k e (slice_get_within edges k e e_is) e_is (subst (λ n. 0 < get_or counts n 0) (sym writes) fires) in (a.0, ap (λ p. slice_get (links_at lists p) a.0) (sym writes) ∙ a.1);
  only = λ j k found. are.only m j k found;
}

-- an actor with a firing in a table fires
fires : (table : List (List Key)) (counts : List ℕ) (m a : ℕ) (key : Key) → ((k : ℕ) → length (row_at table k) ≤ get_or counts k 0) → slice_get (row_at table m) a ≡ Some key → 0 < get_or counts m 0
fires table counts m a key within found = let l = slice_get_within (row_at table m) a key found in let w = within m in omega (arith, l, w)

-- the edges of the actors of a plan
pub inputs_of_all : (counts : List ℕ) (edges : List Edge) (lists : List (List ℕ)) (table : List (List Key)) (entries : List Entry) → ((k : ℕ) → length (row_at table k) ≤ get_or counts k 0) → HasOwnKeys table entries
    → AreInputsUpTo (length edges) counts edges lists → All (λ (x : Entry). AreInputs edges x.actor (links_at lists x.actor)) entries
inputs_of_all counts edges lists table entries within own are =
    All-weaker (λ (x : Entry). slice_get (row_at table x.actor) x.index ≡ Some (key_in x)) (λ (x : Entry). AreInputs edges x.actor (links_at lists x.actor)) (λ x found. inputs_at counts edges lists x.actor (fires table counts x.actor x.index (key_in x) within found) are) entries own

pub outputs_of_all : (counts : List ℕ) (edges : List Edge) (lists : List (List ℕ)) (table : List (List Key)) (entries : List Entry) → ((k : ℕ) → length (row_at table k) ≤ get_or counts k 0) → HasOwnKeys table entries
    → AreOutputsUpTo (length edges) counts edges lists → All (λ (x : Entry). AreOutputs edges x.actor (links_at lists x.actor)) entries
outputs_of_all counts edges lists table entries within own are =
    All-weaker (λ (x : Entry). slice_get (row_at table x.actor) x.index ≡ Some (key_in x)) (λ (x : Entry). AreOutputs edges x.actor (links_at lists x.actor)) (λ x found. outputs_at counts edges lists x.actor (fires table counts x.actor x.index (key_in x) within found) are) entries own

-- the numbers of an actor's list are those of edges
pub out_inside : (edges : List Edge) (counts : List ℕ) (lists : List (List ℕ)) (m : ℕ) (list : List ℕ) → AreOutputsUpTo (length edges) counts edges lists → list ≡ links_at lists m → (j : ℕ) → j < length list → get_or list j 0 < length edges
out_inside edges counts lists m list are is j here =
    let x = are.only m j (get_or list j 0) (ap (λ (l : List ℕ). slice_get l j) (sym is) ∙ slice_get-get_or list j 0 here) in slice_get_within edges (get_or list j 0) x.0 x.1
