-- What is known of the whole streams from a start inside them on is known of those that go on from there.
use Rattle.std.proofs.Common.{◌≡◌, ℕ, zero, suc, ◌+◌, ◌-◌, ◌*◌, ◌/◌, ◌%◌, ◌<◌, ◌≤◌, Bool, true, false, ◌&&◌, Option, Some, None, option_map, List, [], ◌∷◌, ◌++◌, append_assoc, append-nil, length, if◌then◌else◌, nat_eq, nat_lt, slice_get, slice_index, slice_index_or, refl, ap, sym, ◌∙◌, subst, arith}
use Rattle.std.specs.List.{sum_by}
use Rattle.std.specs.Option.{option_and_then}
use Rattle.std.proofs.Math.Nat.{mul-add-div_right, mul-add-mod_self_right}
use Rattle.std.proofs.lemmas.Bool.{eqb-true, le-ltb}
use Rattle.tdf_streams.specs.Net.{Net, Past, Period, Run, Turn, count, taken, written}
use Rattle.tdf_streams.specs.Streams.{Spot, entered, find, input, inputs, known, output, place, places, sampled, spot, state_before, turn, turn_at}
use Rattle.tdf_streams.specs.Stands.{AreActive, KeepsReads, Less, Play, Stands, run_of}
use Rattle.tdf_streams.proofs.Api.{known_more, place_more, place_kept, state_more, get_inside, none_some}
use Rattle.tdf_streams_onward.proofs.More.{and_then_more, map_more}
use Rattle.tdf_streams_onward.specs.Onward.{GoByKey, IsRest, StartsFrom, acts_before, started, taken_before, written_before}
use Rattle.tdf_streams_onward.proofs.Resumed.{After, Inside, LiesBack, before_plain, entered_not, lies_back, map_as, map_id, no_lt, not_first, plain_more, plain_state, sum_after, yes_lt}

module _ {S V I K : Type 0} (key : I → K) (net : Net S V I) (old later : List (Period I)) (p q : Period I) (short long rest : ℕ → List V) (f : ℕ) (y : Play S V)
    (delay : ℕ → ℕ) (initial : ℕ → ℕ → V) (start : ℕ → S) (by : GoByKey key net) (stands : Stands net old p short f y) (active : AreActive net old p y)
    (keeps : KeepsReads short long) (left : IsRest key p y q) (from : StartsFrom net y delay initial start)
    (given : (m n : ℕ) (x : V) → slice_get (long m) (acts_before old y m + n) ≡ Some x → slice_get (rest m) n ≡ Some x) where
  abbrev two : Net S V I
  two = started net delay initial start

  abbrev past0 : Past S V
  past0 = known net (run_of old p short) f

  written_left : (e : ℕ) → slice_index y.turns (net.writer e) * slice_index p.writes e + written net e q ≡ written net e p
  written_left e = rw left.writes (let c = left.counts (net.writer e) in
      let d : (slice_index y.turns (net.writer e) + slice_index q.counts (net.writer e)) * slice_index p.writes e ≡ slice_index y.turns (net.writer e) * slice_index p.writes e + slice_index q.counts (net.writer e) * slice_index p.writes e = grind arith in
      sym d ∙ ap (λ k. k * slice_index p.writes e) c)

  taken_left : (e : ℕ) → slice_index y.turns (net.reader e) * slice_index p.reads e + taken net e q ≡ taken net e p
  taken_left e = rw left.reads (let c = left.counts (net.reader e) in
      let d : (slice_index y.turns (net.reader e) + slice_index q.counts (net.reader e)) * slice_index p.reads e ≡ slice_index y.turns (net.reader e) * slice_index p.reads e + slice_index q.counts (net.reader e) * slice_index p.reads e = grind arith in
      sym d ∙ ap (λ k. k * slice_index p.reads e) c)

  -- `all` knows what both know
  module _ (past1 all past2 : Past S V) (less : Less past0 all) (less1 : Less past1 all)
      (back : (m n : ℕ) (t : Turn S V) → past1 m (acts_before old y m + n) ≡ Some t → past2 m n ≡ Some t) where
    output_back : (e n : ℕ) (s : Spot I) (v : V) → LiesBack (written net e) old later p q (slice_index y.turns (net.writer e) * slice_index p.writes e) n s
        → output net past1 e s ≡ Some v → option_and_then (output two past2 e) (find (written net e) [] (q ∷ later) n) ≡ Some v
    unfolding output
    output_back e n s v (Inside below is found) h = rw found (
        let some : 0 < slice_index p.writes e = positive (slice_index q.counts (net.writer e)) (slice_index p.writes e) (subst (λ l. n < slice_index q.counts (net.writer e) * slice_index l e) left.writes below) in
        let d : (slice_index y.turns (net.writer e) * slice_index p.writes e + n) / slice_index p.writes e ≡ slice_index y.turns (net.writer e) + n / slice_index p.writes e = mul-add-div_right some (slice_index y.turns (net.writer e)) n in
        let r : (slice_index y.turns (net.writer e) * slice_index p.writes e + n) % slice_index p.writes e ≡ n % slice_index p.writes e = mul-add-mod_self_right (slice_index y.turns (net.writer e)) (slice_index p.writes e) n in
        let z : sum_by (count (net.writer e)) old + (slice_index y.turns (net.writer e) + n / slice_index p.writes e) ≡ acts_before old y (net.writer e) + (0 + n / slice_index p.writes e) = omega arith in
        rw left.writes (map_more _ _ _ v (back (net.writer e) (0 + n / slice_index p.writes e))
        (subst (λ k. option_map (λ (t : Turn S V). t.outputs (net.source e) (n % slice_index p.writes e)) (past1 (net.writer e) k) ≡ Some v) z
        (subst (λ k. option_map (λ (t : Turn S V). t.outputs (net.source e) k) (past1 (net.writer e) (sum_by (count (net.writer e)) old + (slice_index y.turns (net.writer e) + n / slice_index p.writes e))) ≡ Some v) r
        (subst (λ k. option_map (λ (t : Turn S V). t.outputs (net.source e) ((slice_index y.turns (net.writer e) * slice_index p.writes e + n) % slice_index p.writes e)) (past1 (net.writer e) (sum_by (count (net.writer e)) old + k)) ≡ Some v) d
        (subst (λ x. output net past1 e x ≡ Some v) is h))))))
      where
        positive : (a b : ℕ) → n < a * b → 0 < b
        positive a zero l = (let z : a * 0 ≡ 0 = grind arith in absurd (omega (arith, l, z)))
        positive a (suc b) l = omega arith
    output_back e n s v (After b r k above is found) h = rw found (
        let z : sum_by (count (net.writer e)) (old ++ p ∷ b) + k / slice_index r.writes e ≡ acts_before old y (net.writer e) + (sum_by (count (net.writer e)) (q ∷ b) + k / slice_index r.writes e) =
        (let a = sum_after (count (net.writer e)) old b p q (slice_index y.turns (net.writer e)) (left.counts (net.writer e)) in omega (arith, a)) in
        map_more _ _ _ v (back (net.writer e) (sum_by (count (net.writer e)) (q ∷ b) + k / slice_index r.writes e))
        (subst (λ i. option_map (λ (t : Turn S V). t.outputs (net.source e) (k % slice_index r.writes e)) (past1 (net.writer e) i) ≡ Some v) z (subst (λ x. output net past1 e x ≡ Some v) is h)))

    pub place_back : (e k : ℕ) (v : V) → e < net.edges → place net (old ++ p ∷ later) past1 e (taken_before net old p y e + k) ≡ Some v → place two (q ∷ later) past2 e k ≡ Some v
    unfolding place
    place_back e k v inside h = go (nat_lt k (delay e)) refl
      where
        held : length (slice_index_or y.lists e []) + taken_before net old p y e ≡ net.delay e + written_before net old p y e
        held = (stands.lists e inside).count

        go : (c : Bool) → nat_lt k (delay e) ≡ c → (if c then Some (initial e k) else option_and_then (output two past2 e) (find (written net e) [] (q ∷ later) (k - delay e))) ≡ Some v
        go true early = (let x = get_inside (slice_index_or y.lists e []) k (let b = yes_lt k (delay e) early in let l = from.long e inside in omega (arith, b, l)) in
            let known_before : place net (old ++ p ∷ []) past0 e (taken_before net old p y e + k) ≡ Some x.0 = (stands.lists e inside).items k x.0 x.1 in
            let known_all : place net (old ++ p ∷ later) all e (taken_before net old p y e + k) ≡ Some x.0 =
            subst (λ ps. place net ps all e (taken_before net old p y e + k) ≡ Some x.0) (append_assoc old (p ∷ []) later) (place_more net (old ++ p ∷ []) later past0 all less e _ x.0 known_before) in
            let now_all : place net (old ++ p ∷ later) all e (taken_before net old p y e + k) ≡ Some v = place_kept net (old ++ p ∷ later) past1 all less1 e _ v h in
            ap Some (from.items e k x.0 inside x.1) ∙ sym known_all ∙ now_all)
        go false late = (let above : delay e ≤ k = no_lt k (delay e) late in let l = from.long e inside in
            let past_delay : nat_lt (taken_before net old p y e + k) (net.delay e) ≡ false = le-ltb _ _ (omega (arith, above, l, held)) in
            let n : taken_before net old p y e + k - net.delay e ≡ sum_by (written net e) old + slice_index y.turns (net.writer e) * slice_index p.writes e + (k - delay e) = omega (arith, above, l, held) in
            let moved : option_and_then (output net past1 e) (find (written net e) [] (old ++ p ∷ later) (sum_by (written net e) old + slice_index y.turns (net.writer e) * slice_index p.writes e + (k - delay e))) ≡ Some v =
            subst (λ j. option_and_then (output net past1 e) (find (written net e) [] (old ++ p ∷ later) j) ≡ Some v) n
            (subst (λ c. (if c then Some (net.initial e (taken_before net old p y e + k)) else option_and_then (output net past1 e) (find (written net e) [] (old ++ p ∷ later) (taken_before net old p y e + k - net.delay e))) ≡ Some v) past_delay h) in
            split (find (written net e) [] (old ++ p ∷ later) (sum_by (written net e) old + slice_index y.turns (net.writer e) * slice_index p.writes e + (k - delay e))) refl moved)
          where
            split : (o : Option (Spot I)) → find (written net e) [] (old ++ p ∷ later) (sum_by (written net e) old + slice_index y.turns (net.writer e) * slice_index p.writes e + (k - delay e)) ≡ o → option_and_then (output net past1 e) o ≡ Some v
                → option_and_then (output two past2 e) (find (written net e) [] (q ∷ later) (k - delay e)) ≡ Some v
            split None at h = none_some v h
            split (Some s) at h = output_back e (k - delay e) s v (lies_back (written net e) old later p q (slice_index y.turns (net.writer e) * slice_index p.writes e) (k - delay e) s (written_left e) at) h

    places_back : (e k n : ℕ) (xs : List V) → e < net.edges → places net (old ++ p ∷ later) past1 e (taken_before net old p y e + k) n ≡ Some xs → places two (q ∷ later) past2 e k n ≡ Some xs
    unfolding places
    places_back e k zero xs inside h = h
    places_back e k (suc n) xs inside h = let z : taken_before net old p y e + k + 1 ≡ taken_before net old p y e + (k + 1) = omega arith in
        and_then_more _ _ _ _ xs (λ v. place_back e k v inside) (λ v. map_more _ _ _ xs (λ ys i. places_back e (k + 1) n ys inside (subst (λ j. places net (old ++ p ∷ later) past1 e j n ≡ Some ys) z i))) h

    abbrev ReadsAhead : ℕ → (s v : Spot I) → Type 0
    ReadsAhead m s v = (e : ℕ) → net.reader e ≡ m → (taken_before net old p y e + (sum_by (taken net e) s.before + s.rest * slice_index s.period.reads e) ≡ sum_by (taken net e) v.before + v.rest * slice_index v.period.reads e)
        × (slice_index s.period.reads e ≡ slice_index v.period.reads e)

    input_back : (m : ℕ) (s v : Spot I) (e : ℕ) (xs : List V) → e < net.edges → ReadsAhead m s v → input net (old ++ p ∷ later) past1 m v e ≡ Some xs → input two (q ∷ later) past2 m s e ≡ Some xs
    unfolding input
    input_back m s v e xs inside reads h = go (nat_eq (net.reader e) m) (λ i. eqb-true _ m i) h
      where
        go : (b : Bool) → (b ≡ true → net.reader e ≡ m)
            → (if b then places net (old ++ p ∷ later) past1 e (sum_by (taken net e) v.before + v.rest * slice_index v.period.reads e) (slice_index v.period.reads e) else Some []) ≡ Some xs
            → (if b then places two (q ∷ later) past2 e (sum_by (taken net e) s.before + s.rest * slice_index s.period.reads e) (slice_index s.period.reads e) else Some []) ≡ Some xs
        go true is h = (let r = reads e (is refl) in places_back e _ _ xs inside (subst (λ n. places net (old ++ p ∷ later) past1 e (taken_before net old p y e + (sum_by (taken net e) s.before + s.rest * slice_index s.period.reads e)) n ≡ Some xs) (sym r.1)
            (subst (λ a. places net (old ++ p ∷ later) past1 e a (slice_index v.period.reads e) ≡ Some xs) (sym r.0) h)))
        go false is h = h

    inputs_back : (m : ℕ) (s v : Spot I) (e n : ℕ) (xs : List (List V)) → e + n ≤ net.edges → ReadsAhead m s v → inputs net (old ++ p ∷ later) past1 m v e n ≡ Some xs → inputs two (q ∷ later) past2 m s e n ≡ Some xs
    unfolding inputs
    inputs_back m s v e zero xs inside reads h = h
    inputs_back m s v e (suc n) xs inside reads h = and_then_more _ _ _ _ xs (λ x. input_back m s v e x (omega (arith, inside)) reads)
        (λ x. map_more _ _ _ xs (λ ys. inputs_back m s v (e + 1) n ys (omega (arith, inside)) reads)) h

    -- the state before the first activation after the start
    plain_start : (m : ℕ) → net.is_sampler m ≡ false → (slice_index y.turns m ≡ 0 → old ≡ []) → plain_state net all m (acts_before old y m) ≡ Some (start m)
    plain_start m plain first = plain_more net past0 all less m (acts_before old y m) (start m)
        (sym (map_id net (entered net m (spot old p (slice_index y.turns m))) (plain_state net past0 m (acts_before old y m)) (λ x. entered_not net m old p (slice_index y.turns m) x first))
        ∙ sym (before_plain net past0 m (spot old p (slice_index y.turns m)) (acts_before old y m)) ∙ stands.states m (start m) (from.states m plain) plain)

    entered_after : (m : ℕ) (b : List (Period I)) (r : Period I) (k : ℕ) (x : S) → entered two m (spot (q ∷ b) r k) x ≡ entered net m (spot (old ++ p ∷ b) r k) x
    entered_after m b r k x = rw (not_first old p b) (ap (λ z. if nat_eq k 0 && true then net.reinitialize m r z else x) (sym (by.change m old p q b x (sym left.same))))

    entered_inside : (m n : ℕ) (x : S) → entered two m (spot [] q (suc n)) x ≡ entered net m (spot old p (slice_index y.turns m + suc n)) x
    entered_inside m n x = entered_not two m [] q (suc n) x (λ e. refl) ∙ sym (entered_not net m old p (slice_index y.turns m + suc n) x (λ e. absurd (omega (arith, e))))

    state_back : (m n : ℕ) (v : Spot I) (x : S) → net.is_sampler m ≡ false → LiesBack (count m) old later p q (slice_index y.turns m) n v → state_before net past1 m v (acts_before old y m + n) ≡ Some x
        → option_and_then (λ s. state_before two past2 m s n) (find (count m) [] (q ∷ later) n) ≡ Some x
    unfolding state_before
    state_back m zero v x plain (Inside below is found) h = rw found (
        let z : acts_before old y m + 0 ≡ acts_before old y m = omega arith in
        let t : slice_index y.turns m + 0 ≡ slice_index y.turns m = omega arith in
        let now_all : state_before net all m (spot old p (slice_index y.turns m)) (acts_before old y m) ≡ Some x = state_more net [] [] past1 all less1 m (spot old p (slice_index y.turns m)) (acts_before old y m) x
        (subst (λ k. state_before net past1 m (spot old p k) (acts_before old y m) ≡ Some x) t (subst (λ n. state_before net past1 m (spot old p (slice_index y.turns m + 0)) n ≡ Some x) z (subst (λ u. state_before net past1 m u (acts_before old y m + 0) ≡ Some x) is h))) in
        let known_all : state_before net all m (spot old p (slice_index y.turns m)) (acts_before old y m) ≡ Some (start m) = state_more net [] [] past0 all less m (spot old p (slice_index y.turns m)) (acts_before old y m) (start m)
        (stands.states m (start m) (from.states m plain) plain) in
        sym known_all ∙ now_all)
    state_back m (suc n) v x plain (Inside below is found) h = rw found (
        let z : acts_before old y m + suc n ≡ suc (acts_before old y m + n) = omega arith in
        map_as (λ (t : Turn S V). entered net m (spot old p (slice_index y.turns m + suc n)) t.state) (λ (t : Turn S V). entered two m (spot [] q (suc n)) t.state) (past1 m (acts_before old y m + n)) (past2 m n) x (back m n)
        (λ t. sym (entered_inside m n t.state)) (subst (λ k. state_before net past1 m (spot old p (slice_index y.turns m + suc n)) k ≡ Some x) z (subst (λ u. state_before net past1 m u (acts_before old y m + suc n) ≡ Some x) is h)))
    state_back m zero v x plain (After b r k above is found) h = rw found (
        let z : acts_before old y m + 0 ≡ acts_before old y m = omega arith in
        let none : slice_index y.turns m ≡ 0 → slice_index p.counts m ≡ 0 = (λ t. (let c = left.counts m in omega (arith, c, t, above))) in
        let first : slice_index y.turns m ≡ 0 → old ≡ [] = (λ t. active m (start m) (from.states m plain) plain (none t)) in
        let now_all : state_before net all m (spot (old ++ p ∷ b) r k) (acts_before old y m) ≡ Some x = state_more net [] [] past1 all less1 m (spot (old ++ p ∷ b) r k) (acts_before old y m) x
        (subst (λ n. state_before net past1 m (spot (old ++ p ∷ b) r k) n ≡ Some x) z (subst (λ u. state_before net past1 m u (acts_before old y m + 0) ≡ Some x) is h)) in
        ap Some (entered_after m b r k (start m)) ∙ sym (before_plain net all m (spot (old ++ p ∷ b) r k) (acts_before old y m) ∙ ap (option_map (entered net m (spot (old ++ p ∷ b) r k))) (plain_start m plain first)) ∙ now_all)
    state_back m (suc n) v x plain (After b r k above is found) h = rw found (
        let z : acts_before old y m + suc n ≡ suc (acts_before old y m + n) = omega arith in
        map_as (λ (t : Turn S V). entered net m (spot (old ++ p ∷ b) r k) t.state) (λ (t : Turn S V). entered two m (spot (q ∷ b) r k) t.state) (past1 m (acts_before old y m + n)) (past2 m n) x (back m n)
        (λ t. sym (entered_after m b r k t.state)) (subst (λ j. state_before net past1 m (spot (old ++ p ∷ b) r k) j ≡ Some x) z (subst (λ u. state_before net past1 m u (acts_before old y m + suc n) ≡ Some x) is h)))

    reads_inside : (m n : ℕ) → ReadsAhead m (spot [] q n) (spot old p (slice_index y.turns m + n))
    reads_inside m n e is = (
      rw left.reads (subst (λ k. sum_by (taken net e) old + slice_index y.turns k * slice_index p.reads e + (0 + n * slice_index p.reads e) ≡ sum_by (taken net e) old + (slice_index y.turns m + n) * slice_index p.reads e) (sym is) (
          let d : (slice_index y.turns m + n) * slice_index p.reads e ≡ slice_index y.turns m * slice_index p.reads e + n * slice_index p.reads e = grind arith in omega (arith, d))),
      ap (λ l. slice_index l e) left.reads,
    )

    reads_after : (m : ℕ) (b : List (Period I)) (r : Period I) (k : ℕ) → ReadsAhead m (spot (q ∷ b) r k) (spot (old ++ p ∷ b) r k)
    reads_after m b r k e is = (let a = sum_after (taken net e) old b p q (slice_index y.turns (net.reader e) * slice_index p.reads e) (taken_left e) in omega (arith, a), refl)

    turn_at_back : (m n : ℕ) (v : Spot I) (t : Turn S V) → LiesBack (count m) old later p q (slice_index y.turns m) n v → turn_at net (record { periods = old ++ p ∷ later; reads = long }) past1 m (acts_before old y m + n) v ≡ Some t
        → option_and_then (turn_at two (record { periods = q ∷ later; reads = rest }) past2 m n) (find (count m) [] (q ∷ later) n) ≡ Some t
    unfolding turn_at
    turn_at_back m n v t at h = go (net.is_sampler m) refl h
      where
        acted : (s : Spot I) → net.is_sampler m ≡ false → find (count m) [] (q ∷ later) n ≡ Some s → ReadsAhead m s v → ((x : S) → net.process m v.period x ≡ net.process m s.period x)
            → option_and_then (λ (x : S). option_map (net.process m v.period x) (inputs net (old ++ p ∷ later) past1 m v 0 net.edges)) (state_before net past1 m v (acts_before old y m + n)) ≡ Some t
            → option_and_then (λ (x : S). option_map (net.process m s.period x) (inputs two (q ∷ later) past2 m s 0 net.edges)) (state_before two past2 m s n) ≡ Some t
        acted s plain found reads same h = and_then_more _ _ _ _ t
            (λ x i. (let r = state_back m n v x plain at i in ap (option_and_then (λ u. state_before two past2 m u n)) (sym found) ∙ r))
            (λ x. map_as (net.process m v.period x) (net.process m s.period x) _ _ t (λ xs. inputs_back m s v 0 net.edges xs (omega arith) reads) (λ xs. ap (λ (g : List (List V) → Turn S V). g xs) (same x))) h

        go : (b : Bool) → net.is_sampler m ≡ b
            → (if b then option_map (sampled net m) (slice_get (long m) (acts_before old y m + n))
            else option_and_then (λ (x : S). option_map (net.process m v.period x) (inputs net (old ++ p ∷ later) past1 m v 0 net.edges)) (state_before net past1 m v (acts_before old y m + n))) ≡ Some t
            → option_and_then (λ s. if net.is_sampler m then option_map (sampled two m) (slice_get (rest m) n)
            else option_and_then (λ (x : S). option_map (net.process m s.period x) (inputs two (q ∷ later) past2 m s 0 net.edges)) (state_before two past2 m s n)) (find (count m) [] (q ∷ later) n) ≡ Some t
        go true is h = elim at [
          | Inside below s_is found ↦ rw (found, is) (map_as (sampled net m) (sampled two m) _ _ t (given m n) (λ x. ap (λ z. record { state = z; outputs = λ port k. x }) (sym (from.kept m is))) h)
          | After b r k above s_is found ↦ rw (found, is) (map_as (sampled net m) (sampled two m) _ _ t (given m n) (λ x. ap (λ z. record { state = z; outputs = λ port k. x }) (sym (from.kept m is))) h)
        ]
        go false plain h = elim at [
          | Inside below is found ↦ rw (found, plain) (acted (spot [] q n) plain found (subst (λ u. ReadsAhead m (spot [] q n) u) (sym is) (reads_inside m n))
              (λ x. ap (λ (u : Spot I). net.process m u.period x) is ∙ ap (λ (g : S → List (List V) → Turn S V). g x) (by.process m p q (sym left.same))) h)
          | After b r k above is found ↦ rw (found, plain) (acted (spot (q ∷ b) r k) plain found (subst (λ u. ReadsAhead m (spot (q ∷ b) r k) u) (sym is) (reads_after m b r k))
              (λ x. ap (λ (u : Spot I). net.process m u.period x) is) h)
        ]

    turn_back : (m n : ℕ) (t : Turn S V) → turn net (record { periods = old ++ p ∷ later; reads = long }) past1 m (acts_before old y m + n) ≡ Some t → turn two (record { periods = q ∷ later; reads = rest }) past2 m n ≡ Some t
    unfolding turn
    turn_back m n t h = split (find (count m) [] (old ++ p ∷ later) (acts_before old y m + n)) refl h
      where
        split : (o : Option (Spot I)) → find (count m) [] (old ++ p ∷ later) (acts_before old y m + n) ≡ o → option_and_then (turn_at net (record { periods = old ++ p ∷ later; reads = long }) past1 m (acts_before old y m + n)) o ≡ Some t
            → option_and_then (turn_at two (record { periods = q ∷ later; reads = rest }) past2 m n) (find (count m) [] (q ∷ later) n) ≡ Some t
        split None at h = none_some t h
        split (Some v) at h = turn_at_back m n v t (lies_back (count m) old later p q (slice_index y.turns m) n v (left.counts m) at) h

  abbrev whole_run : Run V I
  whole_run = record { periods = old ++ p ∷ later; reads = long }

  all_less : (g : ℕ) → Less past0 (known net whole_run (g + f))
  all_less g = known_more net (run_of old p short) whole_run (record { rest = later; periods = sym (append_assoc old (p ∷ []) later); reads = keeps }) f g

  steps_less : (g : ℕ) → Less (known net whole_run g) (known net whole_run (g + f))
  steps_less g = let z : f + g ≡ g + f = omega arith in subst (λ k. Less (known net whole_run g) (known net whole_run k)) z
      (known_more net whole_run whole_run (record { rest = []; periods = sym (append-nil (old ++ p ∷ later)); reads = λ m n x at. at }) g f)

  pub whole_resumed : (g m n : ℕ) (t : Turn S V) → known net (record { periods = old ++ p ∷ later; reads = long }) g m (acts_before old y m + n) ≡ Some t
      → known two (record { periods = q ∷ later; reads = rest }) g m n ≡ Some t
  unfolding known
  whole_resumed zero m n t h = none_some t h
  whole_resumed (suc g) m n t h = turn_back (known net whole_run g) (known net whole_run (g + f)) (known two (record { periods = q ∷ later; reads = rest }) g) (all_less g) (steps_less g) (whole_resumed g) m n t h
