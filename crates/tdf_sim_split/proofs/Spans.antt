-- The positions of a signal, by the periods that were before the one in progress and by those from it on.
use Rattle.std.proofs.Common.{◌≡◌, ◌∙◌, ◌⊎◌, ℕ, zero, suc, ◌+◌, ◌-◌, ◌*◌, ◌<◌, ◌≤◌, Bool, true, false, nat_lt, if◌then◌else◌, Option, Some, None, option_map, List, [], ◌∷◌, ◌++◌, slice_get, refl, sym, ap, subst, inl, inr, arith, append-nil, mul-le-mul_right}
use Rattle.std.proofs.Math.Nat.{add-mul}
use Rattle.std.proofs.lemmas.Bool.{cases_lt, le-ltb, lt-ltb}
use Rattle.std.proofs.lemmas.List.Sums.{sum_by-cons}
use Rattle.std.specs.List.{count_by, range_with_len, sum_by}
use Rattle.std.specs.Prelude.{cond}
use Rattle.tdf_bind_connections.specs.declared.modules.PortRow.{PortRow}
use Rattle.tdf_sim_history.specs.Cells.{column_spans, spans_from}
use Rattle.tdf_sim_history.specs.Columns.{ColumnStart, span_after, spans_to}
use Rattle.tdf_streams.proofs.Api.{none_some, some_same}
use Rattle.tdf_streams.specs.Periods.{PeriodRecord}
use Rattle.tdf_streams.specs.Signals.{positions, step_in, time_of_periods}
use Rattle.tdf_trace_rows.proofs.Api.{position_is, time_is}
use Rattle.tdf_trace_rows.specs.Positions.{AreChained, Span, count_of_spans, position_at, span_of, time_in_spans}

-- ---- two lists of spans, of which one has the later positions of the other

-- positions after those of the spans in front
pub time_behind : (xs ys : List Span) (k : ℕ) → time_in_spans (xs ++ ys) (count_of_spans xs + k) ≡ time_in_spans ys k
unfolding time_in_spans count_of_spans
time_behind [] ys k = let z : 0 + k ≡ k = omega arith in ap (time_in_spans ys) z
time_behind (x ∷ xs) ys k =
    let b : nat_lt (x.count + count_of_spans xs + k) x.count ≡ false = le-ltb _ _ (omega arith) in
    let z : x.count + count_of_spans xs + k - x.count ≡ count_of_spans xs + k = omega arith in
    rw (b, z) (time_behind xs ys k)

-- and theirs
pub time_in_front : (xs ys : List Span) (j : ℕ) → j < count_of_spans xs → time_in_spans (xs ++ ys) j ≡ time_in_spans xs j
unfolding time_in_spans count_of_spans
time_in_front [] ys j inside = absurd (omega (arith, inside))
time_in_front (x ∷ xs) ys j inside = elim (cases_lt j x.count) [
  | inl low ↦ rw (lt-ltb j x.count low) refl
  | inr high ↦ rw (le-ltb j x.count high) (time_in_front xs ys (j - x.count) (omega (arith, inside, high)))
]

-- a span without its first positions
pub time_skipped : (start step count skipped : ℕ) (later : List Span) (k : ℕ) → skipped ≤ count → time_in_spans (span_after start step count skipped ∷ later) k ≡ time_in_spans (span_of start step count ∷ later) (skipped + k)
unfolding time_in_spans
time_skipped start step count skipped later k within = elim (cases_lt k (count - skipped)) [
  | inl low ↦ (
      let b : nat_lt k (count - skipped) ≡ true = lt-ltb _ _ low in
      let c : nat_lt (skipped + k) count ≡ true = lt-ltb _ _ (omega (arith, low, within)) in
      let d = add-mul skipped k step in
      let z : start + skipped * step + k * step ≡ start + (skipped + k) * step = omega (arith, d) in
      rw (b, c, z) refl)
  | inr high ↦ (
      let b : nat_lt k (count - skipped) ≡ false = le-ltb _ _ high in
      let c : nat_lt (skipped + k) count ≡ false = le-ltb _ _ (omega (arith, high, within)) in
      let z : k - (count - skipped) ≡ skipped + k - count = omega (arith, high, within) in
      rw (b, c, z) refl)
]

module _ (a b : ℕ) (whole part : List Span) (whole_chained : AreChained a whole) (part_chained : AreChained b part) (n r bound : ℕ)
    (same : (k : ℕ) → time_in_spans part (r + k) ≡ time_in_spans whole (n + k))
    (whole_early : (j t : ℕ) → j < n → time_in_spans whole j ≡ Some t → t < bound)
    (part_early : (j t : ℕ) → j < r → time_in_spans part j ≡ Some t → t < bound) where
  -- from a time on they give the same cells, where their samples are the same
  pub cells_meet : {X : Type 0} (f g : ℕ → X) → ((k : ℕ) → g (r + k) ≡ f (n + k)) → (time : ℕ) → bound ≤ time → option_map g (position_at 0 part time) ≡ option_map f (position_at 0 whole time)
  cells_meet {X} f g alike time low = go (position_at 0 part time) refl
    where
      go : (o : Option ℕ) → position_at 0 part time ≡ o → option_map g o ≡ option_map f (position_at 0 whole time)
      go (Some j) at = (
          let p = position_is b 0 part j time part_chained at in
          let z : j ≡ p.0 = (let e = p.1 in omega (arith, e)) in
          elim (cases_lt p.0 r) [
            | inl less ↦ absurd (let l = part_early p.0 time less p.2 in omega (arith, l, low))
            | inr more ↦ (
                let k : ℕ = p.0 - r in
                let y : p.0 ≡ r + k = omega (arith, more) in
                let t : time_in_spans whole (n + k) ≡ Some time = sym (same k) ∙ ap (time_in_spans part) (sym y) ∙ p.2 in
                let x : 0 + (n + k) ≡ n + k = omega arith in
                ap (λ i. Some (g i)) (z ∙ y) ∙ ap Some (alike k) ∙ sym (ap (option_map f) ((time_is a 0 whole (n + k) time whole_chained t).1 ∙ ap Some x)))
          ])
      go None at = other (position_at 0 whole time) refl
        where
          other : (o : Option ℕ) → position_at 0 whole time ≡ o → None ≡ option_map f o
          other None there = refl
          other (Some i) there = (
              let p = position_is a 0 whole i time whole_chained there in
              elim (cases_lt p.0 n) [
                | inl less ↦ absurd (let l = whole_early p.0 time less p.2 in omega (arith, l, low))
                | inr more ↦ (
                    let k : ℕ = p.0 - n in
                    let y : p.0 ≡ n + k = omega (arith, more) in
                    let t : time_in_spans part (r + k) ≡ Some time = same k ∙ ap (time_in_spans whole) (sym y) ∙ p.2 in
                    none_some (0 + (r + k)) (sym at ∙ (time_is b 0 part (r + k) time part_chained t).1))
              ])

-- ---- a test that holds of the first numbers

module _ (test : ℕ → Bool) (falls : (i j : ℕ) → i ≤ j → test j ≡ true → test i ≡ true) where
  pub record IsFront (n q : ℕ) : Type 0 where
    pub within : q ≤ n
    pub low : (i : ℕ) → i < q → test i ≡ true
    pub high : (i : ℕ) → q ≤ i → i < n → test i ≡ false

  front_more : (n q : ℕ) (b : Bool) → test n ≡ b → IsFront n q → IsFront (suc n) (q + cond b 1 0)
  front_more n q true is front = record {
    within = (let w = front.within in omega (arith, w));
    low = λ i less. falls i n (let w = front.within in omega (arith, less, w)) is;
    high = λ i low less. absurd (
        let e : q ≡ n = all (cases_lt q n) in omega (arith, low, less, e));
  }
    where
      all : (q < n) ⊎ (n ≤ q) → q ≡ n
      all (inl less) = absurd (let no : true ≡ false = sym (falls q n (omega (arith, less)) is) ∙ front.high q (omega arith) less in cc)
      all (inr more) = let w = front.within in omega (arith, w, more)
  front_more n q false is front = record {
    within = (let w = front.within in omega (arith, w));
    low = λ i less. front.low i (omega (arith, less));
    high = λ i low less. elim (cases_lt i n) [
      | inl before ↦ front.high i (omega (arith, low)) before
      | inr last ↦ (let e : i ≡ n = omega (arith, less, last) in ap test e ∙ is)
    ];
  }

  count_more : (a n : ℕ) → count_by test (range_with_len a (suc n)) ≡ count_by test (range_with_len a n) + cond (test (a + n)) 1 0
  count_more a zero =
      let z : a + 0 ≡ a = omega arith in
      let c = sum_by-cons (λ (i : ℕ). cond {A = ℕ} (test i) 1 0) a [] in
      let none : sum_by (λ (i : ℕ). cond {A = ℕ} (test i) 1 0) [] ≡ 0 = refl in
      let e : ◌≡◌ {A = ℕ} (cond (test (a + 0)) 1 0) (cond (test a) 1 0) = ap (λ (k : ℕ). cond {A = ℕ} (test k) 1 0) z in
      omega (arith, c, none, e)
  count_more a (suc n) =
      let z : a + suc n ≡ a + 1 + n = omega arith in
      let c = sum_by-cons (λ (i : ℕ). cond {A = ℕ} (test i) 1 0) a (range_with_len (a + 1) (suc n)) in
      let d = sum_by-cons (λ (i : ℕ). cond {A = ℕ} (test i) 1 0) a (range_with_len (a + 1) n) in
      let r = count_more (a + 1) n in
      let e : ◌≡◌ {A = ℕ} (cond (test (a + suc n)) 1 0) (cond (test (a + 1 + n)) 1 0) = ap (λ (k : ℕ). cond {A = ℕ} (test k) 1 0) z in
      omega (arith, c, d, r, e)

  pub front_is : (n : ℕ) → IsFront n (count_by test (range_with_len 0 n))
  front_is zero = record { within = omega arith; low = λ i less. absurd (let z : count_by test [] ≡ 0 = refl in omega (arith, less, z)); high = λ i low less. absurd (omega (arith, less)) }
  front_is (suc n) =
      let z : 0 + n ≡ n = omega arith in
      subst (IsFront (suc n)) (sym (count_more 0 n ∙ ap (λ (k : ℕ). count_by test (range_with_len 0 n) + cond (test k) 1 0) z)) (front_more n (count_by test (range_with_len 0 n)) (test n) refl (front_is n))

-- ---- the positions of a signal in periods

module _ (port : PortRow) where
  -- steps cut a period in equal parts
  abbrev pub IsCut : PeriodRecord → Type 0
  IsCut p = (0 < step_in port p) × (positions port p * step_in port p ≡ p.info.period)

  abbrev pub AreCut : List PeriodRecord → Type 0
  AreCut ps = (k : ℕ) (p : PeriodRecord) → slice_get ps k ≡ Some p → IsCut p

  pub spans_chain : (t : ℕ) (ps : List PeriodRecord) (more : List Span) → AreCut ps → AreChained (t + time_of_periods ps) more → AreChained t (spans_from port t ps ++ more)
  unfolding AreChained
  spans_chain t [] more cut chained = let z : t + time_of_periods [] ≡ t = omega arith in subst (λ n. AreChained n more) z chained
  spans_chain t (p ∷ ps) more cut chained =
      let c = sum_by-cons (λ (r : PeriodRecord). r.info.period) p ps in
      let here = cut 0 p refl in
      let e : t + time_of_periods (p ∷ ps) ≡ t + p.info.period + time_of_periods ps = omega (arith, c) in
      let d : t + p.info.period ≡ t + positions port p * step_in port p = ap (λ n. t + n) (sym here.1) in (
        refl,
        here.0,
        subst (λ n. AreChained n (spans_from port (t + p.info.period) ps ++ more)) d (spans_chain (t + p.info.period) ps more (λ k q at. cut (suc k) q at) (subst (λ n. AreChained n more) e chained)),
      )

  pub spans_chained : (t : ℕ) (ps : List PeriodRecord) → AreCut ps → AreChained t (spans_from port t ps)
  unfolding AreChained
  spans_chained t ps cut = subst (AreChained t) (append-nil (spans_from port t ps)) (spans_chain t ps [] cut tt)

  pub spans_append : (t : ℕ) (ps qs : List PeriodRecord) → spans_from port t (ps ++ qs) ≡ spans_from port t ps ++ spans_from port (t + time_of_periods ps) qs
  spans_append t [] qs = let z : t ≡ t + time_of_periods [] = omega arith in ap (λ n. spans_from port n qs) z
  spans_append t (p ∷ ps) qs =
      let c = sum_by-cons (λ (r : PeriodRecord). r.info.period) p ps in
      let e : t + p.info.period + time_of_periods ps ≡ t + time_of_periods (p ∷ ps) = omega (arith, c) in
      ap (λ l. span_of t (step_in port p) (positions port p) ∷ l) (spans_append (t + p.info.period) ps qs ∙ ap (λ n. spans_from port (t + p.info.period) ps ++ spans_from port n qs) e)

  pub spans_count : (t : ℕ) (ps : List PeriodRecord) → count_of_spans (spans_from port t ps) ≡ sum_by (positions port) ps
  unfolding count_of_spans
  spans_count t [] = refl
  spans_count t (p ∷ ps) = let c = sum_by-cons (positions port) p ps in let r = spans_count (t + p.info.period) ps in omega (arith, c, r)

  -- each lies before the end of the periods
  pub spans_end : (t : ℕ) (ps : List PeriodRecord) (j s : ℕ) → AreCut ps → time_in_spans (spans_from port t ps) j ≡ Some s → s < t + time_of_periods ps
  unfolding time_in_spans
  spans_end t [] j s cut at = none_some s at
  spans_end t (p ∷ ps) j s cut at = elim (cases_lt j (positions port p)) [
    | inl low ↦ (
        let e : t + j * step_in port p ≡ s = some_same (t + j * step_in port p) s (sym (ap (λ b. if b then Some (t + j * step_in port p) else time_in_spans (spans_from port (t + p.info.period) ps) (j - positions port p)) (lt-ltb j (positions port p) low)) ∙ at) in
        let here = cut 0 p refl in
        let next : 1 + j ≤ positions port p = omega (arith, low) in
        let u : (1 + j) * step_in port p ≤ positions port p * step_in port p = mul-le-mul_right (step_in port p) next in
        let d = add-mul 1 j (step_in port p) in
        let o : 1 * step_in port p ≡ step_in port p = omega arith in
        let w = here.1 in let some = here.0 in
        omega (arith, c, e, u, d, o, w, some))
    | inr high ↦ (
        let r = spans_end (t + p.info.period) ps (j - positions port p) s (λ k q there. cut (suc k) q there)
        (sym (ap (λ b. if b then Some (t + j * step_in port p) else time_in_spans (spans_from port (t + p.info.period) ps) (j - positions port p)) (le-ltb j (positions port p) high)) ∙ at) in
        omega (arith, c, r))
  ]
    where
      c : time_of_periods (p ∷ ps) ≡ p.info.period + time_of_periods ps
      c = sum_by-cons (λ (r : PeriodRecord). r.info.period) p ps

  -- the positions of a column of a text are those of its periods
  pub text_spans : (s : ColumnStart) (origin : ℕ) (ps : List PeriodRecord) → s.stamps ≡ [] → s.skipped ≡ 0 → column_spans port s origin ps ≡ spans_from port origin ps
  unfolding spans_to
  text_spans s origin [] none first = refl
  text_spans s origin (p ∷ ps) none first =
      (λ i. spans_to (none i) (origin + first i * step_in port p) ++ span_after origin (step_in port p) (positions port p) (first i) ∷ spans_from port (origin + p.info.period) ps)
      ∙ ap (λ x. x ∷ spans_from port (origin + p.info.period) ps) (λ i. span_of (begins i) (step_in port p) (all i))
    where
      begins : origin + 0 * step_in port p ≡ origin
      begins = omega arith

      all : positions port p - 0 ≡ positions port p
      all = omega arith
