-- The lists of a kernel grow by one.
use Rattle.std.proofs.Common.{◌≡◌, ◌≢◌, ℕ, zero, suc, ◌+◌, ◌<◌, ◌⊎◌, Bool, true, false, if◌then◌else◌, nat_eq, List, [], ◌∷◌, ◌++◌, Some, length, length-set, length-append, take, map, replicate, slice_get, slice_index, slice_set, get_or-set_same, get_or-set_other, refl, ap, sym, ◌∙◌, subst, inl, inr, arith}
use Rattle.std.specs.Option.{option_map}
use Rattle.std.proofs.lemmas.Bool.{cases_eq, cases_lt}
use Rattle.std.proofs.lemmas.Bool.Decides.{eqb_tells}
use Rattle.std.proofs.lemmas.List.{append-nil, ext_get_or, get_or-replicate, get_or_past, length-map, length-replicate, take_more}
use Rattle.std.proofs.lemmas.Option.{same_Some, slice_get_within, slice_get-get_or, slice_get-map, get_or_from_slice_get}
use Rattle.tdf_events_queue.specs.Lists.{list_at}
use Rattle.tdf_events_queue.specs.Sets.{is_on}
use Rattle.tdf_events.proofs.Reading.{has_at}
use Rattle.tdf_events.specs.Kernel.{AreSensitive}
use Rattle.tdf_events.specs.Processes.{owned_from}
use Rattle.tdf_events.specs.machine.Making.{AreAdded, AreAllPorts, AreFirstPorts, AreFrames, AreStarted, IsFirstFrame}
use Rattle.tdf_expr.specs.Frames.{FrameSeen, PortsSeen}
use Rattle.tdf_expr.specs.declared.checked.Checked.{Checked}
use Rattle.tdf_bind_connections.specs.ProcessBlocks.{BlockRowOf, ProcessRowOf}
use Rattle.tdf_bind_connections.specs.declared.blocks.EventRow.{EventRow}

at_end : (xs : List ℕ) (p : ℕ) → slice_get (xs ++ p ∷ []) (length xs) ≡ Some p
at_end [] p = refl
at_end (x ∷ xs) p = at_end xs p

in_front : (xs ys : List ℕ) (j k : ℕ) → slice_get xs j ≡ Some k → slice_get (xs ++ ys) j ≡ Some k
in_front [] ys j k h = absurd cc
in_front (x ∷ xs) ys zero k h = h
in_front (x ∷ xs) ys (suc j) k h = in_front xs ys j k h

front_or_end : (xs : List ℕ) (p j k : ℕ) → slice_get (xs ++ p ∷ []) j ≡ Some k → (slice_get xs j ≡ Some k) ⊎ (k ≡ p)
front_or_end [] p zero k h = inr (sym (same_Some p k h))
front_or_end [] p (suc j) k h = absurd cc
front_or_end (x ∷ xs) p zero k h = inl h
front_or_end (x ∷ xs) p (suc j) k h = front_or_end xs p j k h

-- an element of a list with one more at its end
pub pushed : {X : Type 0} (xs : List X) (x : X) (k : ℕ) (y : X) → slice_get (xs ++ x ∷ []) k ≡ Some y → (slice_get xs k ≡ Some y) ⊎ ((k ≡ length xs) × (y ≡ x))
pushed [] x zero y h = inr (refl, sym (same_Some x y h))
pushed [] x (suc k) y h = absurd cc
pushed (z ∷ xs) x zero y h = inl h
pushed (z ∷ xs) x (suc k) y h = elim (pushed xs x k y h) [ inl was ↦ inl was | inr last ↦ inr (ap suc last.0, last.1) ]

-- one number more
pub add_more : (numbers : List ℕ) (p i : ℕ) (old mid new : List (List ℕ)) → i < length numbers → slice_index numbers i < length mid → AreAdded numbers p i old mid
    → new ≡ slice_set mid (slice_index numbers i) (list_at mid (slice_index numbers i) ++ p ∷ []) → AreAdded numbers p (i + 1) old new
add_more numbers p i old mid new less inside before put = record {
  same = ap length put ∙ length-set mid s (list_at mid s ++ p ∷ []) ∙ before.same;
  kept = λ t k q h. keep t k q (before.kept t k q h);
  added = λ j t below at. elim (cases_lt j i) [
    | inl early ↦ (let w = before.added j t early at in (w.0, keep t w.0 p w.1))
    | inr up ↦ (let e : j ≡ i = omega (arith, below, up) in let t_is : t ≡ s = sym (same_Some s t (sym here ∙ ap (slice_get numbers) (sym e) ∙ at)) in
        (length (list_at mid s), ap (λ x. slice_get (list_at new x) (length (list_at mid s))) t_is ∙ ap (λ (xs : List ℕ). slice_get xs (length (list_at mid s))) mine ∙ at_end (list_at mid s) p))
  ];
  only = λ t k q h. elim (cases_eq t s) [
    | inl same ↦ elim (front_or_end (list_at mid s) p k q (sym (ap (λ x. slice_get (list_at new x) k) same ∙ ap (λ (xs : List ℕ). slice_get xs k) mine) ∙ h)) [
      | inl front ↦ back t k q (ap (λ x. slice_get (list_at mid x) k) same ∙ front)
      | inr last ↦ inr (last, i, here ∙ ap Some (sym same))
    ]
    | inr apart ↦ back t k q (sym (ap (λ (xs : List ℕ). slice_get xs k) (others t apart)) ∙ h)
  ];
}
  where
    s : ℕ
    s = slice_index numbers i

    here : slice_get numbers i ≡ Some s
    here = slice_get-get_or numbers i 0 less

    mine : list_at new s ≡ list_at mid s ++ p ∷ []
    mine = ap (λ xs. list_at xs s) put ∙ get_or-set_same mid s (list_at mid s ++ p ∷ []) [] inside

    others : (t : ℕ) → t ≢ s → list_at new t ≡ list_at mid t
    others t apart = ap (λ xs. list_at xs t) put ∙ get_or-set_other mid s t (list_at mid s ++ p ∷ []) [] apart

    keep : (t k q : ℕ) → slice_get (list_at mid t) k ≡ Some q → slice_get (list_at new t) k ≡ Some q
    keep t k q h = elim (cases_eq t s) [
      | inl same ↦ ap (λ x. slice_get (list_at new x) k) same ∙ ap (λ (xs : List ℕ). slice_get xs k) mine ∙ in_front (list_at mid s) (p ∷ []) k q (sym (ap (λ x. slice_get (list_at mid x) k) same) ∙ h)
      | inr apart ↦ ap (λ (xs : List ℕ). slice_get xs k) (others t apart) ∙ h
    ]

    back : (t k q : ℕ) → slice_get (list_at mid t) k ≡ Some q → (slice_get (list_at old t) k ≡ Some q) ⊎ ((q ≡ p) × (j : ℕ) × (slice_get numbers j ≡ Some t))
    back t k q h = before.only t k q h

-- one process more
pub sensitive_more : (numbers : ProcessRowOf → List ℕ) (rows : List ProcessRowOf) (i : ℕ) (row : ProcessRowOf) (mid new : List (List ℕ)) → slice_get rows i ≡ Some row → AreSensitive numbers rows i mid
    → AreAdded (numbers row) i (length (numbers row)) mid new → AreSensitive numbers rows (i + 1) new
sensitive_more numbers rows i row mid new at before more = record {
  all = λ p j s other less is there. elim (cases_lt p i) [
    | inl early ↦ (let w = before.all p j s other early is there in (w.0, more.kept s w.0 p w.1))
    | inr up ↦ (let e : p ≡ i = omega (arith, less, up) in let same : other ≡ row = same_Some other row (sym is ∙ ap (slice_get rows) e ∙ at) in
        let mine : slice_get (numbers row) j ≡ Some s = ap (λ (r : ProcessRowOf). slice_get (numbers r) j) (sym same) ∙ there in
        let w = more.added j s (slice_get_within (numbers row) j s mine) mine in (w.0, w.1 ∙ ap Some (sym e)))
  ];
  only = λ s k p h. elim (more.only s k p h) [
    | inl was ↦ before.only s k p was
    | inr new_one ↦ (row, ap (slice_get rows) new_one.0 ∙ at, new_one.1, new_one.2)
  ];
}

empty_at : (n s : ℕ) → list_at (replicate n []) s ≡ []
empty_at n s = elim (cases_lt s n) [
  | inl less ↦ get_or-replicate n s [] [] less
  | inr past ↦ get_or_past (replicate n []) s [] (let l : length (replicate {A = List ℕ} n []) ≡ n = length-replicate {A = List ℕ} n [] in omega (arith, l, past))
]

pub sensitive_none : (numbers : ProcessRowOf → List ℕ) (rows : List ProcessRowOf) (n : ℕ) (lists : List (List ℕ)) → lists ≡ replicate n [] → AreSensitive numbers rows 0 lists
sensitive_none numbers rows n lists new = record {
  all = λ p j s row less is there. absurd (omega (arith, less));
  only = λ s i p h. none i p (sym (ap (λ (xs : List ℕ). slice_get xs i) (ap (λ xs. list_at xs s) new ∙ empty_at n s)) ∙ h);
}
  where
    none : {A : Type 0} (i p : ℕ) → slice_get {X = ℕ} [] i ≡ Some p → A
    none i p h = absurd cc

-- one event more
owned_push : (owner first : ℕ) (rows : List EventRow) (row : EventRow) → owned_from owner first (rows ++ row ∷ []) ≡ owned_from owner first rows ++ (if nat_eq row.owner owner then (first + length rows) ∷ [] else [])
unfolding owned_from
owned_push owner first [] row = ap (λ n. if nat_eq row.owner owner then n ∷ [] else []) (omega arith)
owned_push owner first (x ∷ rows) row = let rest = owned_push owner (first + 1) rows row ∙ ap (λ n. owned_from owner (first + 1) rows ++ (if nat_eq row.owner owner then n ∷ [] else [])) (omega arith) in
    choose (nat_eq x.owner owner) (owned_from owner (first + 1) (rows ++ row ∷ [])) (owned_from owner (first + 1) rows) (if nat_eq row.owner owner then (first + suc (length rows)) ∷ [] else []) rest
  where
    choose : (b : Bool) (xs ys zs : List ℕ) → xs ≡ ys ++ zs → (if b then first ∷ xs else xs) ≡ (if b then first ∷ ys else ys) ++ zs
    choose true xs ys zs h = ap (λ ws. first ∷ ws) h
    choose false xs ys zs h = h

take_long : {X : Type 0} (xs : List X) (i : ℕ) → i < length xs → length (take i xs) ≡ i
take_long [] i less = absurd (omega (arith, less))
take_long (x ∷ xs) zero less = refl
take_long (x ∷ xs) (suc i) less = ap suc (take_long xs i (omega (arith, less)))

pub owned_none : (n count : ℕ) (lists : List (List ℕ)) → lists ≡ replicate count [] → list_at lists n ≡ owned_from n 0 []
unfolding owned_from
owned_none n count lists new = ap (λ xs. list_at xs n) new ∙ empty_at count n

at_zero : (n m : ℕ) → n ≡ m → 0 + n ≡ m
at_zero n m same = omega (arith, same)

pub owned_more : (events : List EventRow) (i n : ℕ) (row : EventRow) (mid new : List (List ℕ)) → slice_get events i ≡ Some row → row.owner < length mid → list_at mid n ≡ owned_from n 0 (take i events)
    → new ≡ slice_set mid row.owner (list_at mid row.owner ++ i ∷ []) → list_at new n ≡ owned_from n 0 (take (i + 1) events)
owned_more events i n row mid new at inside before put = elim (cases_eq n row.owner) [
  | inl same ↦ ap (list_at new) same ∙ ap (λ xs. list_at xs row.owner) put ∙ get_or-set_same mid row.owner (list_at mid row.owner ++ i ∷ []) [] inside
      ∙ ap (λ x. list_at mid x ++ i ∷ []) (sym same) ∙ ap (λ (xs : List ℕ). xs ++ i ∷ []) before ∙ sym (grown ∙ ap (λ b. owned_from n 0 (take i events) ++ (if b then i ∷ [] else [])) (is_true row.owner n (sym same)))
  | inr apart ↦ ap (λ xs. list_at xs n) put ∙ get_or-set_other mid row.owner n (list_at mid row.owner ++ i ∷ []) [] apart ∙ before
      ∙ sym (grown ∙ ap (λ b. owned_from n 0 (take i events) ++ (if b then i ∷ [] else [])) (is_false row.owner n (λ e. apart (sym e))) ∙ append-nil (owned_from n 0 (take i events)))
]
  where
    less : i < length events
    less = slice_get_within events i row at

    grown : owned_from n 0 (take (i + 1) events) ≡ owned_from n 0 (take i events) ++ (if nat_eq row.owner n then i ∷ [] else [])
    grown = ap (owned_from n 0) (take_more events i row less ∙ ap (λ x. take i events ++ x ∷ []) (get_or_from_slice_get events i row row at)) ∙ owned_push n 0 (take i events) row
        ∙ ap (λ k. owned_from n 0 (take i events) ++ (if nat_eq row.owner n then k ∷ [] else [])) (at_zero (length (take i events)) i (take_long events i less))

    is_true : (a b : ℕ) → a ≡ b → nat_eq a b ≡ true
    is_true a b same = elim (eqb_tells a b) [ inl y ↦ y.0 | inr x ↦ absurd (x.1 same) ]

    is_false : (a b : ℕ) → a ≢ b → nat_eq a b ≡ false
    is_false a b apart = elim (eqb_tells a b) [ inl y ↦ absurd (apart y.1) | inr x ↦ x.0 ]

-- the flags of the processes that run at the start
pub start_flags : (rows : List ProcessRowOf) (flags : List Bool) → AreStarted rows (length rows) flags → flags ≡ map (λ (row : ProcessRowOf). row.starts) rows
start_flags rows flags started = ext_get_or false flags (map (λ (row : ProcessRowOf). row.starts) rows) (started.long ∙ sym (length-map rows (λ (row : ProcessRowOf). row.starts)))
    (λ k less. (let inside : k < length rows = omega (arith, less, started.long) in let row = has_at rows k inside in
    started.each k row.0 inside row.1 ∙ sym (get_or_from_slice_get (map (λ (r : ProcessRowOf). r.starts) rows) k row.0.starts false (slice_get-map (λ (r : ProcessRowOf). r.starts) rows k ∙ ap (option_map (λ (r : ProcessRowOf). r.starts)) row.1))))

pub none_started : (rows : List ProcessRowOf) (flags : List Bool) → flags ≡ replicate (length rows) false → AreStarted rows 0 flags
none_started rows flags new = record {
  long = ap length new ∙ length-replicate {A = Bool} (length rows) false;
  each = λ k row less at. absurd (omega (arith, less));
  rest = λ k up. ap (λ xs. is_on xs k) new ∙ off k;
}
  where
    off : (k : ℕ) → is_on (replicate (length rows) false) k ≡ false
    off k = elim (cases_lt k (length rows)) [
      | inl less ↦ get_or-replicate (length rows) k false false less
      | inr past ↦ get_or_past (replicate (length rows) false) k false (let l : length (replicate (length rows) false) ≡ length rows = length-replicate {A = Bool} (length rows) false in omega (arith, l, past))
    ]

-- the frames of one instance more
pub frames_more : (checked : Checked) (rows : List BlockRowOf) (i : ℕ) (row : BlockRowOf) (frame : FrameSeen) (mid new : List FrameSeen) → slice_get rows i ≡ Some row → AreFrames checked rows i mid
    → IsFirstFrame checked row.block frame → new ≡ mid ++ frame ∷ [] → AreFrames checked rows (i + 1) new
frames_more checked rows i row frame mid new at before first push = record {
  long = ap length push ∙ length-append mid (frame ∷ []) ∙ ap (λ n. n + 1) before.long;
  each = λ k other f is there. elim (pushed mid frame k f (ap (λ (xs : List FrameSeen). slice_get xs k) (sym push) ∙ there)) [
    | inl was ↦ before.each k other f is was
    | inr last ↦ subst (λ (x : FrameSeen). IsFirstFrame checked other.block x) (sym last.1) (subst (λ (r : BlockRowOf). IsFirstFrame checked r.block frame) (same_Some row other (sym at ∙ ap (slice_get rows) (sym (last.0 ∙ before.long)) ∙ is)) first)
  ];
}

pub ports_more : (checked : Checked) (rows : List BlockRowOf) (i : ℕ) (row : BlockRowOf) (ports : PortsSeen) (mid new : List PortsSeen) → slice_get rows i ≡ Some row → AreAllPorts checked rows i mid
    → AreFirstPorts checked row.block ports → new ≡ mid ++ ports ∷ [] → AreAllPorts checked rows (i + 1) new
ports_more checked rows i row ports mid new at before first push = record {
  long = ap length push ∙ length-append mid (ports ∷ []) ∙ ap (λ n. n + 1) before.long;
  each = λ k other p is there. elim (pushed mid ports k p (ap (λ (xs : List PortsSeen). slice_get xs k) (sym push) ∙ there)) [
    | inl was ↦ before.each k other p is was
    | inr last ↦ subst (λ (x : PortsSeen). AreFirstPorts checked other.block x) (sym last.1) (subst (λ (r : BlockRowOf). AreFirstPorts checked r.block ports) (same_Some row other (sym at ∙ ap (slice_get rows) (sym (last.0 ∙ before.long)) ∙ is)) first)
  ];
}
