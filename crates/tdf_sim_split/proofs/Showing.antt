-- What a column of samples shows, by its positions and the samples that are there.
use Rattle.std.proofs.Common.{◌≡◌, ◌≢◌, ◌∙◌, ◌<◌, ◌≤◌, ◌+◌, ◌-◌, ◌*◌, ◌++◌, ℕ, zero, suc, Bool, true, false, if◌then◌else◌, min, nat_lt, not, Option, Some, None, option_map, List, [], ◌∷◌, length, map, slice_get, refl, ap, sym, subst, inl, inr, arith}
use Rattle.std.proofs.Math.Nat.{add-mul, mul-le-mul_right}
use Rattle.std.proofs.lemmas.Bool.{cases_lt, le-ltb, lt-ltb, ltb-true}
use Rattle.std.specs.List.{count_by, flat_map, range_with_len}
use Rattle.std.specs.Prelude.{IsSome, unwrap_or}
use Rattle.tdf_fixed.specs.declared.raw.Raw.{Raw}
use Rattle.tdf_saved.specs.declared.state.Stamp.{Stamp}
use Rattle.tdf_sim_resumed.specs.Snapshot.{number_of_sample, stamp_of_cell}
use Rattle.tdf_sim_split.proofs.Rises.{IsFound, IsIn, found_in, found_is, found_rise, counted_within, front_passes, in_range, is_found, of_range, one_list, passing, range_rises, rises_less, time_of}
use Rattle.tdf_sim_split.proofs.Spanning.{InPeriod, PeriodNumbers, late_spot, place_of, spot_of, time_in}
use Rattle.tdf_streams.proofs.Api.{none_some, some_same}
use Rattle.tdf_trace_rows.proofs.Api.{time_is}
use Rattle.tdf_trace_rows.specs.Positions.{Span, count_of_spans, position_at}
use Rattle.tdf_trace_rows.specs.Rows.{Cells, last}

-- ---- cells

-- a column shows the samples of its positions, the first of which are there
pub record ShowsPositions (cell : ℕ → Option (Option Raw)) (spans : List Span) (total : ℕ) : Type 0 where
  pub sample : ℕ → Option Raw
  pub is : (t : ℕ) → cell t ≡ option_map sample (position_at 0 spans t)
  pub there : (j : ℕ) → j < total → (v : Raw) × (sample j ≡ Some v)
  pub past : (j : ℕ) → total ≤ j → sample j ≡ None

module _ (cell : ℕ → Option (Option Raw)) (spans : List Span) (total : ℕ) (shows : ShowsPositions cell spans total) where
  -- a position of a time
  pub record HasPosition (t : ℕ) : Type 0 where
    pub j : ℕ
    pub at : position_at 0 spans t ≡ Some j

  positioned : (t : ℕ) (o : Option Raw) → cell t ≡ Some o → (p : HasPosition t) × (shows.sample p.j ≡ o)
  positioned t o is = go (position_at 0 spans t) refl (sym (shows.is t) ∙ is)
    where
      go : (x : Option ℕ) → position_at 0 spans t ≡ x → option_map shows.sample x ≡ Some o → (p : HasPosition t) × (shows.sample p.j ≡ o)
      go None at none = absurd (none_some o none)
      go (Some j) at some = (record { j = j; at = at }, some_same (shows.sample j) o some)

  pub unknown_is : (t : ℕ) → cell t ≡ Some None → (p : HasPosition t) × (total ≤ p.j)
  unknown_is t is =
      let p = positioned t None is in (
        p.0,
        elim (cases_lt p.0.j total) [
          | inl low ↦ absurd (let v = shows.there p.0.j low in none_some v.0 (sym p.1 ∙ v.1))
          | inr past ↦ past
        ],
      )

  pub known_is : (t : ℕ) (v : Raw) → cell t ≡ Some (Some v) → (p : HasPosition t) × (p.j < total)
  known_is t v is =
      let p = positioned t (Some v) is in (
        p.0,
        elim (cases_lt p.0.j total) [
          | inl low ↦ low
          | inr past ↦ none_some v (sym (shows.past p.0.j past) ∙ p.1)
        ],
      )

  pub known_at : (t j : ℕ) → position_at 0 spans t ≡ Some j → j < total → (v : Raw) × (cell t ≡ Some (Some v))
  known_at t j at low = let v = shows.there j low in (v.0, shows.is t ∙ ap (option_map shows.sample) at ∙ ap Some v.1)

  pub unknown_at : (t j : ℕ) → position_at 0 spans t ≡ Some j → total ≤ j → cell t ≡ Some None
  unknown_at t j at past = shows.is t ∙ ap (option_map shows.sample) at ∙ ap Some (shows.past j past)

-- the numbers of samples that are there
pub numbers_many : (sample : ℕ → Option Raw) (a n : ℕ) → ((j : ℕ) → a ≤ j → j < a + n → (v : Raw) × (sample j ≡ Some v)) → length (flat_map (λ j. number_of_sample (sample j)) (range_with_len a n)) ≡ n
numbers_many sample a zero there = refl
numbers_many sample a (suc n) there =
    let v = there a (omega arith) (omega arith) in
    ap (λ o. length (number_of_sample o ++ flat_map (λ j. number_of_sample (sample j)) (range_with_len (a + 1) n))) v.1
    ∙ ap suc (numbers_many sample (a + 1) n (λ j low high. there j (omega (arith, low)) (omega (arith, high))))

-- how many positions spans have
count_more : (xs : List Span) (y : Span) → count_of_spans (xs ++ y ∷ []) ≡ count_of_spans xs + y.count
unfolding count_of_spans
count_more [] y = omega arith
count_more (x ∷ xs) y = let r = count_more xs y in omega (arith, r)

-- ---- a column in the period in progress

abbrev pub unknown_from : (time : ℕ) → PeriodNumbers → ℕ
unknown_from time q = if nat_lt q.known q.count then min time (time_in q q.known) else time

abbrev pub front_of : (rows : ℕ) → PeriodNumbers → ℕ
front_of rows q = count_by (λ i. nat_lt (time_in q i) rows) (range_with_len 0 q.count)

-- the positions of a period before a time are its first ones
module _ (q : PeriodNumbers) (step : 0 < q.step) where
  pub up : (i j : ℕ) → i < j → time_in q i < time_in q j
  up i j less =
      let m : (i + 1) * q.step ≤ j * q.step = mul-le-mul_right q.step (omega (arith, less)) in
      let a = add-mul i 1 q.step in omega (arith, m, a, step)

  pub up_to : (i j : ℕ) → i ≤ j → time_in q i ≤ time_in q j
  up_to i j low = let m : i * q.step ≤ j * q.step = mul-le-mul_right q.step low in omega (arith, m)

  module _ (rows : ℕ) where
    front_is : (i : ℕ) → i < q.count → nat_lt (time_in q i) rows ≡ nat_lt i (front_of rows q)
    front_is i high =
        let z : 0 + front_of rows q ≡ front_of rows q = omega arith in
        front_passes (λ k. nat_lt (time_in q k) rows) (λ a b low is. lt-ltb (time_in q a) rows (let u = up_to a b low in let l = ltb-true (time_in q b) rows is in omega (arith, u, l))) 0 q.count i (omega arith) (omega (arith, high))
        ∙ ap (nat_lt i) z

    pub front_before : (i : ℕ) → i < q.count → i < front_of rows q → time_in q i < rows
    front_before i high low = ltb-true (time_in q i) rows (front_is i high ∙ lt-ltb i (front_of rows q) low)

    pub front_over : (i : ℕ) → i < q.count → time_in q i < rows → i < front_of rows q
    front_over i high low = ltb-true i (front_of rows q) (sym (front_is i high) ∙ lt-ltb (time_in q i) rows low)

    pub not_before : (i : ℕ) → i < q.count → front_of rows q ≤ i → rows ≤ time_in q i
    not_before i high past = elim (cases_lt (time_in q i) rows) [
      | inl low ↦ absurd (let c = front_over i high low in omega (arith, c, past))
      | inr up ↦ up
    ]

    pub front_past : (i : ℕ) → i < q.count → rows ≤ time_in q i → front_of rows q ≤ i
    front_past i high late = elim (cases_lt i (front_of rows q)) [
      | inl low ↦ absurd (let c = front_before i high low in omega (arith, c, late))
      | inr up ↦ up
    ]

    pub front_within : front_of rows q ≤ q.count
    front_within = counted_within (λ i. nat_lt (time_in q i) rows) 0 q.count

module _ (cell : ℕ → Option (Option Raw)) (spans : List Span) (total first : ℕ) (q : PeriodNumbers) (d : InPeriod first spans total q) (shows : ShowsPositions cell spans total) where
  abbrev base : ℕ
  base = count_of_spans d.before

  -- a time without a sample is that of a position which isn't known
  pub record IsUnknownSpot (t : ℕ) : Type 0 where
    pub i : ℕ
    pub low : d.skipped ≤ i
    pub high : i < q.count
    pub time_is : t ≡ time_in q i
    pub unknown : q.known ≤ i

  pub unknown_spot : (t : ℕ) → cell t ≡ Some None → IsUnknownSpot t
  unknown_spot t is =
      let u = unknown_is cell spans total shows t is in
      let past = u.1 in
      let e = d.done_is in
      let k = d.known in
      let s = spot_of first spans total q d t u.0.j u.0.at (omega (arith, past, e, k)) in
      record { i = s.i; low = s.low; high = s.high; time_is = s.time_is; unknown = (let n = s.number_is in omega (arith, n, past, e)) }

  -- rows begin no later than there
  pub rows_low : (rows time : ℕ) → ((t : ℕ) → t < rows → cell t ≢ Some None) → rows ≤ time → rows ≤ unknown_from time q
  rows_low rows time known early = go (nat_lt q.known q.count) refl
    where
      lacks : q.known < q.count → rows ≤ time_in q q.known
      lacks less = elim (cases_lt (time_in q q.known) rows) [
        | inl low ↦ absurd (known (time_in q q.known) low
            (unknown_at cell spans total shows (time_in q q.known) (base + (q.known - d.skipped)) (place_of first spans total q d q.known d.known less) (let e = d.done_is in let k = d.known in omega (arith, e, k))))
        | inr past ↦ past
      ]

      go : (b : Bool) → nat_lt q.known q.count ≡ b → rows ≤ (if b then min time (time_in q q.known) else time)
      go false at = early
      go true at = let l = lacks (ltb-true q.known q.count at) in omega (arith, l, early)

  -- and no earlier, where there is none
  pub rows_high : (rows time : ℕ) → cell rows ≡ Some None → unknown_from time q ≤ rows
  rows_high rows time is =
      let s = unknown_spot rows is in
      let h = s.high in
      let n = s.unknown in
      let t = up_to q d.step q.known s.i s.unknown in
      let e = s.time_is in
      let w : unknown_from time q ≡ min time (time_in q q.known) = ap (λ (b : Bool). if b then min time (time_in q q.known) else time) (lt-ltb q.known q.count (omega (arith, h, n))) in
      omega (arith, t, e, w)

  -- it lies where the column shows rows
  pub rows_after : (rows : ℕ) → cell rows ≡ Some None → first ≤ rows
  rows_after rows is =
      let s = unknown_spot rows is in
      let l = d.shown in
      let t = up_to q d.step d.skipped s.i s.low in
      let e = s.time_is in omega (arith, l, t, e)

  -- ---- from a time on

  module _ (rows : ℕ) (after : first ≤ rows) where
    skipped_before : (i : ℕ) → i < q.count → front_of rows q ≤ i → d.skipped ≤ i
    skipped_before i high past = elim (cases_lt i d.skipped) [
      | inl low ↦ absurd (let l = d.skips i low in let c = front_over q d.step rows i high (omega (arith, l, after)) in omega (arith, c, past))
      | inr up ↦ up
    ]

    abbrev later_than : ℕ → Bool
    later_than t = not (nat_lt t q.since)

    is_later : (t : ℕ) → q.since ≤ t → later_than t ≡ true
    is_later t late = ap not (le-ltb t q.since late)

    later_is : (t : ℕ) → later_than t ≡ true → q.since ≤ t
    later_is t is = elim (cases_lt t q.since) [
      | inl low ↦ absurd (let e : false ≡ true = sym (ap not (lt-ltb t q.since low)) ∙ is in cc)
      | inr past ↦ past
    ]

    module _ (until : ℕ) (inside : (i : ℕ) → i < q.count → time_in q i < until) where
      abbrev given : List Stamp
      given = found_in cell rows (until - rows)

      abbrev few : ℕ
      few = min q.known q.count - front_of rows q

      to : (t : ℕ) → IsIn t (map time_of (passing later_than given)) → IsIn t (map (time_in q) (range_with_len (front_of rows q) few))
      to t is =
          let f : IsFound cell later_than rows (until - rows) t = found_is cell later_than rows (until - rows) t is in
          let k = known_is cell spans total shows t f.value f.is in
          let s = late_spot first spans total q d t k.0.j (later_is t f.passes) k.0.at in
          let e = d.done_is in
          let n = s.number_is in
          let h = s.high in
          let less = k.1 in
          let l = f.low in
          let p = front_past q d.step rows s.i s.high (let te = s.time_is in omega (arith, l, te)) in
          subst (λ x. IsIn x (map (time_in q) (range_with_len (front_of rows q) few))) (sym s.time_is)
          (in_range (time_in q) (up q d.step) (front_of rows q) few s.i p (omega (arith, e, n, h, less, p)))

      back : (t : ℕ) → IsIn t (map (time_in q) (range_with_len (front_of rows q) few)) → IsIn t (map time_of (passing later_than given))
      back t is =
          let r = of_range (time_in q) (up q d.step) (front_of rows q) few t is in
          let low = r.1 in
          let high = r.2 in
          let there : r.0 < q.count = omega (arith, low, high) in
          let known : r.0 < q.known = omega (arith, low, high) in
          let s = skipped_before r.0 there low in
          let e = d.done_is in
          let v = known_at cell spans total shows (time_in q r.0) (base + (r.0 - d.skipped)) (place_of first spans total q d r.0 s there) (omega (arith, e, s, known)) in
          let a = not_before q d.step rows r.0 there low in
          let b = inside r.0 there in
          subst (λ x. IsIn x (map time_of (passing later_than given))) (sym r.3)
          (is_found cell later_than rows (until - rows) (time_in q r.0) (record { low = a; high = omega (arith, a, b); passes = is_later (time_in q r.0) (omega arith); value = v.0; is = v.1 }))

      -- the times of its samples in the period are those of the positions that are known
      pub known_times : map time_of (passing later_than given) ≡ map (time_in q) (range_with_len (front_of rows q) few)
      known_times = one_list 0 (map time_of (passing later_than given)) (map (time_in q) (range_with_len (front_of rows q) few))
          (rises_less rows 0 (map time_of (passing later_than given)) (omega arith) (found_rise cell later_than rows (until - rows)))
          (rises_less (time_in q (front_of rows q)) 0 (map (time_in q) (range_with_len (front_of rows q) few)) (omega arith) (range_rises (time_in q) (up q d.step) (front_of rows q) few))
          to back

  -- ---- samples for later positions

  pub later_many : length (flat_map (λ j. number_of_sample (shows.sample j)) (range_with_len (count_of_spans spans) (total - count_of_spans spans))) ≡ q.known - q.count
  later_many =
      numbers_many shows.sample (count_of_spans spans) (total - count_of_spans spans) (λ j low high. shows.there j (omega (arith, high, low)))
      ∙ (let c = all_count in let e = d.done_is in let w = d.within in let k = d.known in omega (arith, c, e, w, k))
    where
      all_count : count_of_spans spans ≡ base + (q.count - d.skipped)
      all_count = ap count_of_spans d.is ∙ count_more d.before _

  -- ---- what is carried

  -- where rows begin at the time 0, the first position stands there
  pub first_at : first ≡ 0 → position_at 0 spans 0 ≡ Some 0
  first_at none = (time_is d.from 0 spans 0 0 d.chained (d.starts none)).1

  -- a period that began later has its sample
  pub first_there : first ≡ 0 → 0 < q.since → (v : Raw) × (cell 0 ≡ Some (Some v))
  first_there none later =
      let j = first_at none in
      known_at cell spans total shows 0 0 j (elim (cases_lt 0 base) [
        | inl some ↦ (let e = d.done_is in let k = d.known in omega (arith, some, e, k))
        | inr past ↦ absurd (let s = spot_of first spans total q d 0 0 j (omega (arith, past)) in let t = s.time_is in omega (arith, t, later))
      ])

  pub first_found : (until : ℕ) → first ≡ 0 → 0 < q.since → 0 < until → (x : Stamp) × (slice_get (found_in cell 0 until) 0 ≡ Some x) × (x.time ≡ 0)
  first_found zero none later some = absurd (omega (arith, some))
  first_found (suc n) none later some =
      let v = first_there none later in
      (record { time = 0; num = v.0.num }, ap (λ o. slice_get (stamp_of_cell 0 o ++ found_in cell 1 n) 0) v.1, refl)

-- a column that shows something goes on to
pub still_some : (cells : Cells) (column a n : ℕ) → IsSome (last cells column a) → ((t : ℕ) → t < a + n → cells.at column t ≢ Some None) → IsSome (last cells column (a + n))
unfolding last
still_some cells column a zero some known = let z : a ≡ a + 0 = omega arith in subst (λ k. IsSome (last cells column k)) z some
still_some cells column a (suc n) some known =
    let z : suc (a + n) ≡ a + suc n = omega arith in
    subst (λ k. IsSome (last cells column k)) z (go (still_some cells column a n some (λ t low. known t (omega (arith, low)))) (cells.at column (a + n)) refl)
  where
    go : IsSome (last cells column (a + n)) → (o : Option (Option Raw)) → cells.at column (a + n) ≡ o → IsSome (unwrap_or o (last cells column (a + n)))
    go before None at = before
    go before (Some None) at = absurd (known (a + n) (omega arith) at)
    go before (Some (Some v)) at = refl
