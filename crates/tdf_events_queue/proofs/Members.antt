-- A number more is listed.
use Rattle.std.proofs.Common.{◌≡◌, ℕ, zero, suc, ◌+◌, ◌-◌, ◌<◌, ◌≤◌, Bool, true, false, List, [], ◌∷◌, ◌++◌, length, slice_get, slice_index, slice_set, get_or-set_same, get_or-set_other, length-append, length-set, replicate, Some, refl, ap, sym, ◌∙◌, subst, inl, inr, arith, cond}
use Rattle.std.specs.List.{count_by}
use Rattle.std.proofs.lemmas.Bool.{cases_eq, cases_lt, true≢false}
use Rattle.std.proofs.lemmas.List.Sums.{sum_by-cons, count_by-le-length}
use Rattle.std.proofs.lemmas.List.{get_or_past, get_or-replicate, length-replicate}
use Rattle.std.proofs.lemmas.Option.{slice_get_within, slice_get-get_or}
use Rattle.tdf_events_queue.specs.Sets.{is_on, count_on, AreListed, AreRisingFlags}
use Rattle.tdf_events_queue.specs.machine.Clearing.{AreOff}

count_cons : (b : Bool) (flags : List Bool) → count_by (λ b. b) (b ∷ flags) ≡ cond b 1 0 + count_by (λ b. b) flags
count_cons b flags = sum_by-cons _ b flags

pub count_set : (flags : List Bool) (p : ℕ) → p < length flags → is_on flags p ≡ false → count_by (λ b. b) (slice_set flags p true) ≡ count_by (λ b. b) flags + 1
count_set [] p inside off = absurd (omega (arith, inside))
count_set (true ∷ flags) zero inside off = absurd (true≢false off)
count_set (false ∷ flags) zero inside off = count_cons true flags ∙ (let e : count_by (λ b. b) (false ∷ flags) ≡ 0 + count_by (λ b. b) flags = count_cons false flags in omega (arith, e))
count_set (b ∷ flags) (suc p) inside off = let e = count_cons b flags in let f = count_cons b (slice_set flags p true) in
    let h : count_by (λ b. b) (slice_set flags p true) ≡ count_by (λ b. b) flags + 1 = count_set flags p (omega (arith, inside)) off in omega (arith, e, f, h)

pub count_off : (flags : List Bool) (p : ℕ) → p < length flags → is_on flags p ≡ false → count_by (λ b. b) flags < length flags
count_off [] p inside off = absurd (omega (arith, inside))
count_off (true ∷ flags) zero inside off = absurd (true≢false off)
count_off (false ∷ flags) zero inside off = let e = count_cons false flags in let h : count_by (λ b. b) flags ≤ length flags = count_by-le-length (λ b. b) flags in omega (arith, e, h)
count_off (true ∷ flags) (suc p) inside off = let e = count_cons true flags in let h : count_by (λ b. b) flags < length flags = count_off flags p (omega (arith, inside)) off in omega (arith, e, h)
count_off (false ∷ flags) (suc p) inside off = let e = count_cons false flags in let h : count_by (λ b. b) flags < length flags = count_off flags p (omega (arith, inside)) off in omega (arith, e, h)

pub get_end : (xs : List ℕ) (p : ℕ) → slice_get (xs ++ p ∷ []) (length xs) ≡ Some p
get_end [] p = refl
get_end (x ∷ xs) p = get_end xs p

pub get_front : (xs ys : List ℕ) (j k : ℕ) → slice_get xs j ≡ Some k → slice_get (xs ++ ys) j ≡ Some k
get_front [] ys j k h = absurd (grind (arith, h))
get_front (x ∷ xs) ys zero k h = h
get_front (x ∷ xs) ys (suc j) k h = get_front xs ys j k h

-- an item of a list with one more at its end
data Spots (xs : List ℕ) (p j k : ℕ) : Type 0 where
  Front : slice_get xs j ≡ Some k → Spots xs p j k
  End : j ≡ length xs → k ≡ p → Spots xs p j k

spots : (xs : List ℕ) (p j k : ℕ) → slice_get (xs ++ p ∷ []) j ≡ Some k → Spots xs p j k
spots [] p zero k h = End refl (grind (arith, h))
spots [] p (suc j) k h = absurd (grind (arith, h))
spots (x ∷ xs) p zero k h = Front h
spots (x ∷ xs) p (suc j) k h = elim (spots xs p j k h) [ Front f ↦ Front f | End e f ↦ End (ap suc e) f ]

pub set_listed : (flags : List Bool) (list : List ℕ) (p : ℕ) → p < length flags → is_on flags p ≡ false → AreListed flags list → AreListed (slice_set flags p true) (list ++ p ∷ [])
set_listed flags list p inside off listed = record {
  on = λ j q at. elim (spots list p j q at) [ Front f ↦ kept q (listed.on j q f) | End e f ↦ subst (λ r. is_on (slice_set flags p true) r ≡ true) (sym f) here ];
  all = λ q on. elim (cases_eq q p) [
    | inl same ↦ (length list, subst (λ r. slice_get (list ++ p ∷ []) (length list) ≡ Some r) (sym same) (get_end list p))
    | inr apart ↦ (let w = listed.all q (sym (get_or-set_other flags p q true false apart) ∙ on) in (w.0, get_front list (p ∷ []) w.0 q w.1))
  ];
  once = λ i j q a b. elim (spots list p i q a) [
    | Front f ↦ elim (spots list p j q b) [ Front g ↦ listed.once i j q f g | End e h ↦ absurd (fresh i q f h) ]
    | End e h ↦ elim (spots list p j q b) [ Front g ↦ absurd (fresh j q g h) | End d h' ↦ e ∙ sym d ]
  ];
  count = (let c : length list ≡ count_by (λ b. b) flags = listed.count in let n : count_by (λ b. b) (slice_set flags p true) ≡ count_by (λ b. b) flags + 1 = count_set flags p inside off in
      let l : length (list ++ p ∷ []) ≡ length list + 1 = length-append list (p ∷ []) in omega (arith, c, n, l));
}
  where
    here : is_on (slice_set flags p true) p ≡ true
    here = get_or-set_same flags p true false inside

    kept : (q : ℕ) → is_on flags q ≡ true → is_on (slice_set flags p true) q ≡ true
    kept q on = elim (cases_eq q p) [ inl same ↦ subst (λ r. is_on (slice_set flags p true) r ≡ true) (sym same) here | inr apart ↦ get_or-set_other flags p q true false apart ∙ on ]

    fresh : (i q : ℕ) → slice_get list i ≡ Some q → q ≡ p → ⊥
    fresh i q at same = true≢false (sym (listed.on i q at) ∙ ap (is_on flags) same ∙ off)

-- in a list in rising order no number is above the last
up_to_last : (flags : List Bool) (list : List ℕ) (p : ℕ) → AreRisingFlags flags list → ((j last : ℕ) → slice_get list j ≡ Some last → j + 1 ≡ length list → last < p)
    → (i n : ℕ) → slice_get list i ≡ Some n → n < p
up_to_last flags list p rising below i n at = let within : i < length list = slice_get_within list i n at in
    let end : slice_get list (length list - 1) ≡ Some (slice_index list (length list - 1)) = slice_get-get_or list (length list - 1) 0 (omega (arith, within)) in
    let high : slice_index list (length list - 1) < p = below (length list - 1) _ end (omega (arith, within)) in
    elim (cases_eq i (length list - 1)) [
      | inl same ↦ below i n at (omega (arith, same, within))
      | inr apart ↦ (let up : n < slice_index list (length list - 1) = rising.rising i (length list - 1) n _ (omega (arith, apart, within)) at end in omega (arith, up, high))
    ]

pub set_rising : (flags : List Bool) (list : List ℕ) (p : ℕ) → p < length flags → is_on flags p ≡ false → AreListed flags list → AreRisingFlags flags list
    → ((j last : ℕ) → slice_get list j ≡ Some last → j + 1 ≡ length list → last < p) → AreRisingFlags (slice_set flags p true) (list ++ p ∷ [])
set_rising flags list p inside off listed rising below = record {
  on = set.on;
  all = set.all;
  rising = λ i j n m less a b. elim (spots list p j m b) [
    | Front g ↦ elim (spots list p i n a) [
      | Front f ↦ rising.rising i j n m less f g
      | End e f ↦ (let within : j < length list = slice_get_within list j m g in absurd (omega (arith, e, within, less)))
    ]
    | End e same ↦ elim (spots list p i n a) [
      | Front f ↦ (let up : n < p = up_to_last flags list p rising below i n f in omega (arith, up, same))
      | End d f ↦ absurd (omega (arith, d, e, less))
    ]
  ];
}
  where
    set : AreListed (slice_set flags p true) (list ++ p ∷ [])
    set = set_listed flags list p inside off listed

-- no number is listed
pub none_rising : (n : ℕ) → AreRisingFlags (replicate n false) []
none_rising n = record {
  on = λ j q at. absurd (grind (arith, at));
  all = λ q on. absurd (true≢false (sym on ∙ none_on n q));
  rising = λ i j q m less a b. absurd (grind (arith, a));
}
  where
    none_on : (n q : ℕ) → is_on (replicate n false) q ≡ false
    none_on n q = elim (cases_lt q n) [
      | inl less ↦ get_or-replicate n q false false less
      | inr past ↦ get_or_past (replicate n false) q false (let l = length-replicate {A = Bool} n false in omega (arith, l, past))
    ]

pub room_left : (flags : List Bool) (list : List ℕ) (p : ℕ) → p < length flags → is_on flags p ≡ false → AreListed flags list → length list < length flags
room_left flags list p inside off listed = let c : length list ≡ count_by (λ b. b) flags = listed.count in let n : count_by (λ b. b) flags < length flags = count_off flags p inside off in omega (arith, c, n)

pub has_room : (flags : List Bool) (list : List ℕ) (p len cap : ℕ) → p < length flags → is_on flags p ≡ false → AreListed flags list → length flags ≤ cap → len ≡ length list → len < cap
has_room flags list p len cap inside off listed room is = let less : length list < length flags = room_left flags list p inside off listed in omega (arith, less, room, is)

pub listed_inside : (flags : List Bool) (list : List ℕ) (j n : ℕ) → AreListed flags list → slice_get list j ≡ Some n → n < length flags
listed_inside flags list j n listed at = elim (cases_lt n (length flags)) [ inl less ↦ less | inr past ↦ absurd (true≢false (sym (listed.on j n at) ∙ get_or_past flags n false past)) ]

-- one more of the list is out
pub off_step : (list : List ℕ) (i n : ℕ) (old new : List Bool) → slice_get list i ≡ Some n → n < length new → AreOff list i old new → AreOff list (i + 1) old (slice_set new n false)
off_step list i n old new at inside off = record {
  same = length-set new n false ∙ off.same;
  off = λ j k less here. elim (cases_eq k n) [
    | inl same ↦ subst (λ m. is_on (slice_set new n false) m ≡ false) (sym same) out
    | inr apart ↦ elim (cases_lt j i) [
      | inl before ↦ get_or-set_other new n k false false apart ∙ off.off j k before here
      | inr up ↦ (let e : j ≡ i = omega (arith, up, less) in absurd (apart (some_one k n (sym here ∙ ap (slice_get list) e ∙ at))))
    ]
  ];
  kept = λ k was. elim (cases_eq k n) [
    | inl same ↦ subst (λ m. is_on (slice_set new n false) m ≡ false) (sym same) out
    | inr apart ↦ get_or-set_other new n k false false apart ∙ off.kept k was
  ];
}
  where
    out : is_on (slice_set new n false) n ≡ false
    out = get_or-set_same new n false false inside

    some_one : (a b : ℕ) → Some a ≡ Some b → a ≡ b
    some_one a b h = grind (arith, h)

count_none : (n : ℕ) → count_on (replicate n false) ≡ 0
count_none zero = refl
count_none (suc n) = let e : count_by (λ b. b) (false ∷ replicate n false) ≡ 0 + count_by (λ b. b) (replicate n false) = count_cons false (replicate n false) in
    let f : count_by (λ b. b) (replicate n false) ≡ 0 = count_none n in omega (arith, e, f)

pub none_listed : (n : ℕ) → AreListed (replicate n false) []
none_listed n = record {
  on = λ j k at. absurd (grind (arith, at));
  all = λ k on. absurd (true≢false (sym on ∙ out k));
  once = λ i j k at. absurd (grind (arith, at));
  count = sym (count_none n);
}
  where
    out : (k : ℕ) → is_on (replicate n false) k ≡ false
    out k = elim (cases_lt k n) [ inl less ↦ get_or-replicate n k false false less | inr past ↦ get_or_past (replicate n false) k false (let l : length (replicate n false) ≡ n = length-replicate {A = Bool} n false in omega (arith, l, past)) ]
