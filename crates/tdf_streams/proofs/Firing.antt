-- A firing leads from what stands to what stands.
use Rattle.std.proofs.Common.{◌≡◌, ℕ, zero, suc, ◌+◌, ◌-◌, ◌*◌, ◌<◌, ◌≤◌, Bool, true, false, Some, List, [], ◌∷◌, ◌++◌, length, length-append, length-drop, append_assoc, append-nil, map, take, drop, if◌then◌else◌, nat_eq, nat_lt, slice_get, slice_index, slice_index_or, refl, ap, sym, ◌∙◌, subst, inl, inr, arith}
use Rattle.std.specs.List.{sum_by, range_with_len}
use Rattle.std.proofs.Math.Nat.{mul-le-mul_right}
use Rattle.std.proofs.lemmas.Nat.{div-mul-add, mod-mul-add}
use Rattle.std.proofs.lemmas.Bool.{cases_eq, cases_lt, eq-eqb, ne_eqb, eqb-true, lt-ltb, le-ltb}
use Rattle.std.proofs.lemmas.List.Sums.{sum_by-cons}
use Rattle.std.proofs.lemmas.List.FromFn.{length-map-range_with_len}
use Rattle.tdf_streams.specs.Net.{Period, Turn, Net, Run, count, written, taken, Past}
use Rattle.tdf_streams.specs.Streams.{spot, sampled, find, output, place, places, input, inputs, state_before, turn_at, turn, known}
use Rattle.tdf_streams.specs.Stands.{Less, Play, Stands, Holds, HasValues, run_of}
use Rattle.tdf_streams.specs.Firing.{Flows, IsNextTurn, IsPresent, fronts, given, moved, processed}
use Rattle.tdf_streams.proofs.Lists.{get_drop, get_high, get_low, get_made}
use Rattle.tdf_streams.proofs.Known.{known_more, place_more, state_more}

module _ {I : Type 0} where
  pub find_now : (size : Period I → ℕ) (before ps : List (Period I)) (p : Period I) (n : ℕ) → n < size p → find size before (ps ++ p ∷ []) (sum_by size ps + n) ≡ Some (spot (before ++ ps) p n)
  unfolding find
  find_now size before [] p n below = let z : 0 + n ≡ n = omega arith in let e : before ≡ before ++ [] = sym (append-nil before) in
      rw (z, lt-ltb n (size p) below) (ap (λ b. Some (spot b p n)) e)
  find_now size before (q ∷ ps) p n below = let s : sum_by size (q ∷ ps) ≡ size q + sum_by size ps = sum_by-cons size q ps in
      let past : nat_lt (size q + sum_by size ps + n) (size q) ≡ false = le-ltb _ _ (omega arith) in let rest : size q + sum_by size ps + n - size q ≡ sum_by size ps + n = omega arith in
      rw (s, past, rest) (find_now size (before ++ q ∷ []) ps p n below ∙ ap (λ b. Some (spot b p n)) (append_assoc before (q ∷ []) ps))

module _ {S V I : Type 0} (net : Net S V I) where
  places_held : (periods : List (Period I)) (past : Past S V) (e k n : ℕ) (xs : List V) → n ≤ length xs
      → ((j : ℕ) (x : V) → slice_get xs j ≡ Some x → place net periods past e (k + j) ≡ Some x) → places net periods past e k n ≡ Some (take n xs)
  unfolding places
  places_held periods past e k zero xs within items = refl
  places_held periods past e k (suc n) [] within items = absurd (omega (arith, within))
  places_held periods past e k (suc n) (x ∷ xs) within items =
      let here : place net periods past e k ≡ Some x = (let z : k + 0 ≡ k = omega arith in subst (λ q. place net periods past e q ≡ Some x) z (items 0 x refl)) in
      let rest : places net periods past e (k + 1) n ≡ Some (take n xs) = places_held periods past e (k + 1) n xs (omega (arith, within))
      (λ j y at. (let z : k + suc j ≡ k + 1 + j = omega arith in subst (λ q. place net periods past e q ≡ Some y) z (items (suc j) y at))) in
      rw (here, rest) refl

  pub inputs_held : (old : List (Period I)) (p : Period I) (past : Past S V) (m t : ℕ) (lists : List (List V)) (e n : ℕ)
      → ((k : ℕ) → e ≤ k → k < e + n → net.reader k ≡ m → slice_index p.reads k ≤ length (slice_index_or lists k []))
      → ((k : ℕ) → e ≤ k → k < e + n → net.reader k ≡ m → (j : ℕ) (x : V) → slice_get (slice_index_or lists k []) j ≡ Some x → place net (old ++ p ∷ []) past k (sum_by (taken net k) old + t * slice_index p.reads k + j) ≡ Some x)
      → inputs net (old ++ p ∷ []) past m (spot old p t) e n ≡ Some (fronts net p m lists e n)
  unfolding inputs input fronts
  inputs_held old p past m t lists e zero present items = refl
  inputs_held old p past m t lists e (suc n) present items =
      rw (here (nat_eq (net.reader e) m) (λ h. eqb-true _ m h), inputs_held old p past m t lists (e + 1) n (λ k low high. present k (omega (arith, low)) (omega (arith, high))) (λ k low high. items k (omega (arith, low)) (omega (arith, high)))) refl
    where
      here : (b : Bool) → (b ≡ true → net.reader e ≡ m) → (if b then places net (old ++ p ∷ []) past e (sum_by (taken net e) old + t * slice_index p.reads e) (slice_index p.reads e) else Some [])
          ≡ Some (if b then take (slice_index p.reads e) (slice_index_or lists e []) else [])
      here true reads = places_held (old ++ p ∷ []) past e _ _ (slice_index_or lists e []) (present e (omega arith) (omega arith) (reads refl)) (items e (omega arith) (omega arith) (reads refl))
      here false reads = refl

  same_holds : (periods : List (Period I)) (past : Past S V) (e r r2 w w2 : ℕ) (xs xs2 : List V) → r ≡ r2 → w ≡ w2 → xs ≡ xs2 → Holds net periods past e r w xs → Holds net periods past e r2 w2 xs2
  same_holds periods past e r r2 w w2 xs xs2 a b c h = subst (λ (l : List V). Holds net periods past e r2 w2 l) c (subst (λ n. Holds net periods past e r2 n xs) b (subst (λ n. Holds net periods past e n w xs) a h))

  -- fuel f to f + 1 over the same run
  step_less : (run : Run V I) (f : ℕ) → Less (known net run f) (known net run (suc f))
  step_less run f = let e : 1 + f ≡ suc f = omega arith in subst (λ k. Less (known net run f) (known net run k)) e (known_more net run run (record { rest = []; periods = sym (append-nil run.periods); reads = λ m n x h. h }) f 1)

  module _ (old : List (Period I)) (p : Period I) (reads : ℕ → List V) (f m : ℕ) (t : Turn S V) (y z : Play S V)
      (stands : Stands net old p reads f y) (left : slice_index y.turns m < slice_index p.counts m) (present : IsPresent net p m y)
      (next : IsNextTurn net old p reads m y t) (flows : Flows net p m t y z) where
    abbrev now : ℕ
    now = sum_by (count m) old + slice_index y.turns m

    abbrev past : Past S V
    past = known net (run_of old p reads) f

    abbrev more : Past S V
    more = known net (run_of old p reads) (suc f)

    given_turn : (x : V) → net.is_sampler m ≡ true → slice_get (reads m) now ≡ Some x → t ≡ sampled net m x → more m now ≡ Some t
    unfolding known turn turn_at
    given_turn x is at same = rw (find_now (count m) [] old p (slice_index y.turns m) left, is, at) (ap Some (sym same))

    processed_turn : (s : S) → net.is_sampler m ≡ false → slice_get y.states m ≡ Some s → t ≡ net.process m p s (fronts net p m y.lists 0 net.edges) → more m now ≡ Some t
    unfolding known turn turn_at
    processed_turn s plain at same = rw (
      find_now (count m) [] old p (slice_index y.turns m) left,
      plain,
      stands.states m s at plain,
      inputs_held old p (known net (run_of old p reads) f) m (slice_index y.turns m) y.lists 0 net.edges (λ k low high reads_m. present k (omega (arith, high)) reads_m)
          (λ k low high reads_m j x there. subst (λ q. place net (old ++ p ∷ []) (known net (run_of old p reads) f) k (sum_by (taken net k) old + slice_index y.turns q * slice_index p.reads k + j) ≡ Some x) reads_m
          ((stands.lists k (omega (arith, high))).items j x there)),
    ) (ap Some (sym same))

    pub fired_turn : known net (run_of old p reads) (suc f) m (sum_by (count m) old + slice_index y.turns m) ≡ Some t
    fired_turn = elim next [ given x is at same ↦ given_turn x is at same | processed s plain at same ↦ processed_turn s plain at same ]

    new_m : (n : ℕ) → n < sum_by (count m) old + slice_index z.turns m → (v : Turn S V) × (more m n ≡ Some v)
    new_m n below = elim (cases_lt n now) [
      | inl before ↦ (let v = stands.has_values m n before in (v.0, (step_less (run_of old p reads) f).keeps m n v.0 v.1))
      | inr here ↦ (let same : n ≡ now = omega (arith, below, flows.turn, here) in (t, ap (more m) same ∙ fired_turn))
    ]

    new_values : HasValues net (run_of old p reads) (suc f) (λ k. sum_by (count k) old + slice_index z.turns k)
    new_values k n below = elim (cases_eq k m) [
      | inl same ↦ subst (λ q. (n : ℕ) → n < sum_by (count q) old + slice_index z.turns q → (v : Turn S V) × (more q n ≡ Some v)) (sym same) new_m n below
      | inr apart ↦ (let v = stands.has_values k n (subst (λ q. n < sum_by (count k) old + q) (flows.other_turns k apart) below) in (v.0, (step_less (run_of old p reads) f).keeps k n v.0 v.1))
    ]

    -- output i of the firing is its place on an edge that m writes
    place_put : (e i : ℕ) → net.writer e ≡ m → i < slice_index p.writes e
        → place net (old ++ p ∷ []) more e (net.delay e + (sum_by (written net e) old + slice_index y.turns (net.writer e) * slice_index p.writes e) + i) ≡ Some (t.outputs (net.source e) i)
    unfolding place output
    place_put e i writes below =
        let w = slice_index p.writes e in let b = sum_by (written net e) old in let n = slice_index y.turns (net.writer e) in
        let past_delay : nat_lt (net.delay e + (sum_by (written net e) old + slice_index y.turns (net.writer e) * slice_index p.writes e) + i) (net.delay e) ≡ false = le-ltb _ _ (omega arith) in
        let rest : net.delay e + (sum_by (written net e) old + slice_index y.turns (net.writer e) * slice_index p.writes e) + i - net.delay e ≡ sum_by (written net e) old + (slice_index y.turns (net.writer e) * slice_index p.writes e + i) = omega arith in
        let early : slice_index y.turns (net.writer e) < slice_index p.counts (net.writer e) = subst (λ q. slice_index y.turns q < slice_index p.counts q) (sym writes) left in
        let whole : (slice_index y.turns (net.writer e) + 1) * slice_index p.writes e ≤ slice_index p.counts (net.writer e) * slice_index p.writes e = mul-le-mul_right (slice_index p.writes e) (omega (arith, early)) in
        let one : (slice_index y.turns (net.writer e) + 1) * slice_index p.writes e ≡ slice_index y.turns (net.writer e) * slice_index p.writes e + slice_index p.writes e = grind arith in
        let there : more (net.writer e) (sum_by (count (net.writer e)) old + slice_index y.turns (net.writer e)) ≡ Some t = subst (λ q. more q (sum_by (count q) old + slice_index y.turns q) ≡ Some t) (sym writes) fired_turn in
        rw (
          past_delay,
          rest,
          find_now (written net e) [] old p (slice_index y.turns (net.writer e) * slice_index p.writes e + i) (omega (arith, whole, one, below)),
          div-mul-add (slice_index y.turns (net.writer e)) (slice_index p.writes e) i below,
          mod-mul-add (slice_index y.turns (net.writer e)) (slice_index p.writes e) i below,
          there,
        ) refl

    state_m : (x : S) → slice_get z.states m ≡ Some x → net.is_sampler m ≡ false → state_before net more m (spot old p (slice_index z.turns m)) (sum_by (count m) old + slice_index z.turns m) ≡ Some x
    unfolding state_before
    state_m x at plain = let n : sum_by (count m) old + slice_index z.turns m ≡ suc now = omega (arith, flows.turn) in let r : nat_eq (slice_index z.turns m) 0 ≡ false = ne_eqb _ 0 (λ e. absurd (omega (arith, e, flows.turn))) in
        rw (n, fired_turn, r) (sym (flows.state plain) ∙ at)

    new_states : (k : ℕ) (x : S) → slice_get z.states k ≡ Some x → net.is_sampler k ≡ false → state_before net more k (spot old p (slice_index z.turns k)) (sum_by (count k) old + slice_index z.turns k) ≡ Some x
    new_states k x at other = elim (cases_eq k m) [
      | inl same ↦ subst (λ q. slice_get z.states q ≡ Some x → net.is_sampler q ≡ false → state_before net more q (spot old p (slice_index z.turns q)) (sum_by (count q) old + slice_index z.turns q) ≡ Some x) (sym same) (state_m x) at other
      | inr apart ↦ subst (λ q. state_before net more k (spot old p q) (sum_by (count k) old + q) ≡ Some x) (sym (flows.other_turns k apart))
          (state_more net [] [] past more (step_less (run_of old p reads) f) k _ _ x (stands.states k x (sym (flows.other_states k apart) ∙ at) other))
    ]

    -- what is left of a list after the take
    held_front : (b : Bool) (e r w n : ℕ) (xs : List V) → n ≤ length xs → Holds net (old ++ p ∷ []) past e r w xs → Holds net (old ++ p ∷ []) more e (if b then r + n else r) w (if b then drop n xs else xs)
    held_front true e r w n xs within held = record {
      count = (let l = length-drop n xs in let c = held.count in omega (arith, l, c, within));
      items = λ j x at. (let z : r + n + j ≡ r + (n + j) = omega arith in subst (λ q. place net (old ++ p ∷ []) more e q ≡ Some x) (sym z) (later (r + (n + j)) x (held.items (n + j) x (sym (get_drop n xs j) ∙ at))));
    }
      where
        later : (k : ℕ) (x : V) → place net (old ++ p ∷ []) past e k ≡ Some x → place net (old ++ p ∷ []) more e k ≡ Some x
        later k x h = subst (λ ps. place net ps more e k ≡ Some x) (append-nil (old ++ p ∷ [])) (place_more net (old ++ p ∷ []) [] past more (step_less (run_of old p reads) f) e k x h)
    held_front false e r w n xs within held = record {
      count = held.count;
      items = λ j x at. subst (λ ps. place net ps more e (r + j) ≡ Some x) (append-nil (old ++ p ∷ [])) (place_more net (old ++ p ∷ []) [] past more (step_less (run_of old p reads) f) e (r + j) x (held.items j x at));
    }

    held_back : (b : Bool) (e r w n : ℕ) (xs : List V) → ((i : ℕ) → i < n → b ≡ true → place net (old ++ p ∷ []) more e (net.delay e + w + i) ≡ Some (t.outputs (net.source e) i))
        → Holds net (old ++ p ∷ []) more e r w xs → Holds net (old ++ p ∷ []) more e r (if b then w + n else w) (xs ++ (if b then map (t.outputs (net.source e)) (range_with_len 0 n) else []))
    held_back false e r w n xs put held = subst (λ (l : List V). Holds net (old ++ p ∷ []) more e r w l) (sym (append-nil xs)) held
    held_back true e r w n xs put held = record {
      count = (let a = length-append xs (map (t.outputs (net.source e)) (range_with_len 0 n)) in let l = length-map-range_with_len (t.outputs (net.source e)) 0 n in let c = held.count in omega (arith, a, l, c));
      items = λ j x at. elim (cases_lt j (length xs)) [
        | inl low ↦ held.items j x (sym (get_low xs _ j low) ∙ at)
        | inr high ↦ (let made = get_made (t.outputs (net.source e)) 0 n (j - length xs) x (sym (get_high xs _ j high) ∙ at) in let i : j - length xs < n = made.0 in
            let zero_plus : 0 + (j - length xs) ≡ j - length xs = omega arith in let is : t.outputs (net.source e) (j - length xs) ≡ x = sym (ap (t.outputs (net.source e)) zero_plus) ∙ made.1 in
            let k : r + j ≡ net.delay e + w + (j - length xs) = (let c = held.count in omega (arith, c, high)) in
            subst (λ q. place net (old ++ p ∷ []) more e q ≡ Some x) (sym k) (put (j - length xs) i refl ∙ ap Some is))
      ];
    }

    new_lists : (e : ℕ) → e < net.edges → Holds net (old ++ p ∷ []) more e (sum_by (taken net e) old + slice_index z.turns (net.reader e) * slice_index p.reads e)
        (sum_by (written net e) old + slice_index z.turns (net.writer e) * slice_index p.writes e) (slice_index_or z.lists e [])
    new_lists e inside = same_holds (old ++ p ∷ []) more e _ _ _ _ _ _ (sym (sum_after (net.reader e) (sum_by (taken net e) old) (slice_index p.reads e)))
        (sym (sum_after (net.writer e) (sum_by (written net e) old) (slice_index p.writes e))) (sym (flows.lists e inside)) list_e
      where
        sum_after : (k b c : ℕ) → b + slice_index z.turns k * c ≡ (if nat_eq k m then b + slice_index y.turns k * c + c else b + slice_index y.turns k * c)
        sum_after k b c = elim (cases_eq k m) [
          | inl same ↦ (let n : slice_index z.turns k ≡ slice_index y.turns k + 1 = subst (λ q. slice_index z.turns q ≡ slice_index y.turns q + 1) (sym same) flows.turn in
              let one : (slice_index y.turns k + 1) * c ≡ slice_index y.turns k * c + c = grind arith in rw (n, one, eq-eqb k m same) (omega arith))
          | inr apart ↦ rw (flows.other_turns k apart, ne_eqb k m apart) refl
        ]

        list_e : Holds net (old ++ p ∷ []) more e
            (if nat_eq (net.reader e) m then sum_by (taken net e) old + slice_index y.turns (net.reader e) * slice_index p.reads e + slice_index p.reads e else sum_by (taken net e) old + slice_index y.turns (net.reader e) * slice_index p.reads e)
            (if nat_eq (net.writer e) m then sum_by (written net e) old + slice_index y.turns (net.writer e) * slice_index p.writes e + slice_index p.writes e else sum_by (written net e) old + slice_index y.turns (net.writer e) * slice_index p.writes e)
            (moved net p m t e (slice_index_or y.lists e []))
        list_e = held_back (nat_eq (net.writer e) m) e _ _ (slice_index p.writes e) _ (λ i below writes. place_put e i (eqb-true _ m writes) below) (front (nat_eq (net.reader e) m) (λ h. eqb-true _ m h))
          where
            front : (b : Bool) → (b ≡ true → net.reader e ≡ m) → Holds net (old ++ p ∷ []) more e (if b then sum_by (taken net e) old + slice_index y.turns (net.reader e) * slice_index p.reads e + slice_index p.reads e else sum_by (taken net e) old + slice_index y.turns (net.reader e) * slice_index p.reads e)
                (sum_by (written net e) old + slice_index y.turns (net.writer e) * slice_index p.writes e) (if b then drop (slice_index p.reads e) (slice_index_or y.lists e []) else slice_index_or y.lists e [])
            front true reads_m = held_front true e _ _ (slice_index p.reads e) _ (present e inside (reads_m refl)) (stands.lists e inside)
            front false reads_m = held_front false e _ _ 0 _ (omega arith) (stands.lists e inside)

    pub firing_keeps : Stands net old p reads (suc f) z
    firing_keeps = record { has_values = new_values; states = new_states; lists = new_lists }
