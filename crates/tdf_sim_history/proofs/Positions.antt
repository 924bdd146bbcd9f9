-- The positions of a signal in more periods, and the activations that its samples come from.
use Rattle.std.proofs.Common.{◌≡◌, ◌∙◌, ℕ, ◌+◌, ◌-◌, ◌*◌, ◌/◌, ◌%◌, ◌<◌, ◌≤◌, ◌&&◌, Bool, true, false, Option, Some, None, option_map, List, [], ◌∷◌, ◌++◌, if◌then◌else◌, length, length-append, map, nat_eq, nat_le, nat_lt, slice_index, refl, sym, ap, subst, inl, inr, arith, mul-le-mul_right, mul-zero}
use Rattle.std.proofs.lemmas.Bool.{cases_lt, le-leb, le-ltb, lt-leb, lt-ltb}
use Rattle.std.proofs.lemmas.List.{append_assoc, length-map}
use Rattle.std.proofs.lemmas.List.Sums.{sum_by-cons, sum_by_push}
use Rattle.std.proofs.lemmas.Nat.{div_below}
use Rattle.std.specs.List.{sum_by}
use Rattle.tdf_dynamic.proofs.Api.{none_some, some_same}
use Rattle.tdf_dynamic.specs.Below.{PeriodInfo, PeriodRecord, Spot, count, find, outputs_in, positions, rate_in, spot, step_in, time_of_periods}
use Rattle.tdf_sim_history.specs.Cells.{column_spans, spans_from}
use Rattle.tdf_sim_history.specs.Columns.{ColumnStart, Stamp, held_by, span_after, spans_to}
use Rattle.tdf_trace_rows.specs.Positions.{Span, span_end, place_in_span, position_at, span_of, count_of_spans}
use Rattle.tdf_bind_connections.specs.declared.modules.PortRow.{PortRow}

pub some_periods : (old : List PeriodRecord) (now : PeriodRecord) → 0 < length (old ++ now ∷ [])
some_periods [] now = omega arith
some_periods (p ∷ ps) now = omega arith

same_else : {A : Type 0} (b : Bool) (x y z : A) → y ≡ z → (if b then x else y) ≡ (if b then x else z)
same_else true x y z e = refl
same_else false x y z e = e

and_false : (b : Bool) → (b && false) ≡ false
and_false true = refl
and_false false = refl

-- where a product is more than a number, its second factor is some
factor_some : (n a r : ℕ) → n < a * r → 0 < r
factor_some n a r less = elim (cases_lt 0 r) [
  | inl some ↦ some
  | inr none ↦ absurd (let z : r ≡ 0 = omega (arith, none) in let p : a * r ≡ 0 = ap (λ k. a * k) z ∙ mul-zero a in omega (arith, less, p))
]

some_of : (first : ℕ) (o : Option ℕ) (j : ℕ) → option_map (λ place. first + place) o ≡ Some j → (k : ℕ) × (o ≡ Some k) × (first + k ≡ j)
some_of first None j h = none_some j h
some_of first (Some k) j h = (k, refl, some_same (first + k) j h)

-- the place of a time in a span is one of its places
place_within : (p : Span) (t k : ℕ) → p.start ≤ t → t < span_end p → place_in_span p t ≡ Some k → k < p.count
place_within p t k low high h = go (nat_eq ((t - p.start) % p.step) 0) h
  where
    less : t - p.start < p.count * p.step
    less = omega (arith, low, high)

    go : (b : Bool) → (if b then Some ((t - p.start) / p.step) else None) ≡ Some k → k < p.count
    go true e = subst (λ q. q < p.count) (some_same ((t - p.start) / p.step) k e) (div_below (t - p.start) p.step p.count (factor_some (t - p.start) p.count p.step less) less)
    go false e = none_some k e

-- what follows spans has its positions after theirs
same_after : (xs ys zs : List Span) (first t : ℕ) → ((n : ℕ) → position_at n ys t ≡ position_at n zs t) → position_at first (xs ++ ys) t ≡ position_at first (xs ++ zs) t
unfolding position_at
same_after [] ys zs first t same = same first
same_after (x ∷ xs) ys zs first t same = same_else (nat_le x.start t && nat_lt t (span_end x)) _ _ _ (same_after xs ys zs (first + x.count) t same)

-- a position at a time is one of those of the spans
within_first : (x : Span) (first t : ℕ) (later : Option ℕ) (j end : ℕ) → first + x.count ≤ end → (later ≡ Some j → j < end)
    → (if nat_le x.start t && nat_lt t (span_end x) then option_map (λ place. first + place) (place_in_span x t) else later) ≡ Some j → j < end
within_first x first t later j end most rest h =
    let past : (nat_le x.start t && nat_lt t (span_end x)) ≡ false → j < end = (λ out. rest (sym (ap (λ b. if b then option_map (λ place. first + place) (place_in_span x t) else later) out) ∙ h)) in
    elim (cases_lt t x.start) [
      | inl low ↦ past (rw (lt-leb x.start t low) refl)
      | inr up ↦ elim (cases_lt t (span_end x)) [
        | inl high ↦ (
            let both : (nat_le x.start t && nat_lt t (span_end x)) ≡ true = rw (le-leb x.start t up, lt-ltb t (span_end x) high) refl in
            let k = some_of first (place_in_span x t) j (sym (ap (λ b. if b then option_map (λ place. first + place) (place_in_span x t) else later) both) ∙ h) in
            let w = place_within x t k.0 up high k.1 in let e = k.2 in omega (arith, w, e, most))
        | inr after ↦ past (rw (le-ltb t (span_end x) after) (and_false (nat_le x.start t)))
      ]
    ]

pub within_total : (spans : List Span) (first t j : ℕ) → position_at first spans t ≡ Some j → j < first + count_of_spans spans
unfolding position_at count_of_spans
within_total [] first t j h = none_some j h
within_total (x ∷ xs) first t j h = within_first x first t (position_at (first + x.count) xs t) j (first + (x.count + count_of_spans xs)) (omega arith)
    (λ later. let r = within_total xs (first + x.count) t j later in omega (arith, r)) h

total_append : (xs ys : List Span) → count_of_spans (xs ++ ys) ≡ count_of_spans xs + count_of_spans ys
unfolding count_of_spans
total_append [] ys = omega arith
total_append (x ∷ xs) ys = let r = total_append xs ys in omega (arith, r)

-- samples at their times have one position each
pub stamps_total : (stamps : List Stamp) (end : ℕ) → count_of_spans (spans_to stamps end) ≡ length stamps
unfolding count_of_spans spans_to
stamps_total [] end = refl
stamps_total (x ∷ []) end = refl
stamps_total (x ∷ (y ∷ ys)) end = let r = stamps_total (y ∷ ys) end in omega (arith, r)

pub held_long : (s : ColumnStart) → length (held_by s) ≡ length s.stamps + length s.ahead
unfolding held_by
held_long s =
    let a = length-append (map (λ (x : Stamp). x.value) s.stamps) s.ahead in
    let m = length-map s.stamps (λ (x : Stamp). x.value) in omega (arith, a, m)

module _ (port : PortRow) where
  abbrev span_in : (time : ℕ) → PeriodRecord → Span
  span_in time p = span_of time (step_in port p) (positions port p)

  -- a time before the first period has no position
  none_before : (first time : ℕ) (ps : List PeriodRecord) (t : ℕ) → t < time → position_at first (spans_from port time ps) t ≡ None
  unfolding position_at
  none_before first time [] t low = refl
  none_before first time (p ∷ ps) t low = rw (lt-leb time t low) (none_before (first + positions port p) (time + p.info.period) ps t (omega (arith, low)))

  -- further periods change nothing below their start
  pub same_front : (first time : ℕ) (ps qs : List PeriodRecord) (t : ℕ) → t < time + time_of_periods ps → position_at first (spans_from port time (ps ++ qs)) t ≡ position_at first (spans_from port time ps) t
  unfolding position_at
  same_front first time [] qs t low = none_before first time qs t (let z : time_of_periods [] ≡ 0 = refl in omega (arith, low, z))
  same_front first time (p ∷ ps) qs t low = same_else (nat_le time t && nat_lt t (span_end (span_in time p))) _ _ _
      (same_front (first + positions port p) (time + p.info.period) ps qs t (let s = sum_by-cons (λ (q : PeriodRecord). q.info.period) p ps in omega (arith, low, s)))

  -- how many positions there are
  spans_total : (time : ℕ) (ps : List PeriodRecord) → count_of_spans (spans_from port time ps) ≡ sum_by (positions port) ps
  unfolding count_of_spans
  spans_total time [] = refl
  spans_total time (p ∷ ps) = let r = spans_total (time + p.info.period) ps in let c = sum_by-cons (positions port) p ps in omega (arith, r, c)

  spans_push : (t : ℕ) (ps : List PeriodRecord) (p : PeriodRecord) → spans_from port t (ps ++ p ∷ []) ≡ spans_from port t ps ++ span_of (t + time_of_periods ps) (step_in port p) (positions port p) ∷ []
  spans_push t [] p = let z : t ≡ t + 0 = omega arith in ap (λ n. span_of n (step_in port p) (positions port p) ∷ []) z
  spans_push t (q ∷ qs) p =
      let c = sum_by-cons (λ (r : PeriodRecord). r.info.period) q qs in
      let e : t + q.info.period + time_of_periods qs ≡ t + time_of_periods (q ∷ qs) = omega (arith, c) in
      ap (λ l. span_of t (step_in port q) (positions port q) ∷ l) (spans_push (t + q.info.period) qs p ∙ ap (λ n. spans_from port (t + q.info.period) qs ++ span_of n (step_in port p) (positions port p) ∷ []) e)

  -- the positions of a column
  module _ (s : ColumnStart) (origin : ℕ) where
    pub column_total : (p : PeriodRecord) (ps : List PeriodRecord) → count_of_spans (column_spans port s origin (p ∷ ps)) ≡ length s.stamps + ((positions port p - s.skipped) + sum_by (positions port) ps)
    unfolding count_of_spans
    column_total p ps =
        let a = total_append (spans_to s.stamps (origin + s.skipped * step_in port p)) (span_after origin (step_in port p) (positions port p) s.skipped ∷ spans_from port (origin + p.info.period) ps) in
        let t = stamps_total s.stamps (origin + s.skipped * step_in port p) in
        let r = spans_total (origin + p.info.period) ps in
        omega (arith, a, t, r)

    -- further periods change nothing below their start
    pub same_column : (ps qs : List PeriodRecord) (t : ℕ) → 0 < length ps → t < origin + time_of_periods ps → position_at 0 (column_spans port s origin (ps ++ qs)) t ≡ position_at 0 (column_spans port s origin ps) t
    unfolding position_at
    same_column [] qs t some low = absurd (omega (arith, some))
    same_column (p ∷ ps) qs t some low =
        same_after (spans_to s.stamps (origin + s.skipped * step_in port p)) (rest_span ∷ spans_from port (origin + p.info.period) (ps ++ qs)) (rest_span ∷ spans_from port (origin + p.info.period) ps) 0 t
        (λ n. same_else (nat_le rest_span.start t && nat_lt t (span_end rest_span)) _ _ _
        (same_front (n + rest_span.count) (origin + p.info.period) ps qs t (let c = sum_by-cons (λ (q : PeriodRecord). q.info.period) p ps in omega (arith, low, c))))
      where
        rest_span : Span
        rest_span = span_after origin (step_in port p) (positions port p) s.skipped

    -- one period more
    pub column_push : (ps : List PeriodRecord) (p : PeriodRecord) → 0 < length ps
        → column_spans port s origin (ps ++ p ∷ []) ≡ column_spans port s origin ps ++ span_of (origin + time_of_periods ps) (step_in port p) (positions port p) ∷ []
    column_push [] p some = absurd (omega (arith, some))
    column_push (q ∷ qs) p some =
        let c = sum_by-cons (λ (r : PeriodRecord). r.info.period) q qs in
        let e : origin + q.info.period + time_of_periods qs ≡ origin + time_of_periods (q ∷ qs) = omega (arith, c) in
        ap (λ l. spans_to s.stamps (origin + s.skipped * step_in port q) ++ span_after origin (step_in port q) (positions port q) s.skipped ∷ l)
        (spans_push (origin + q.info.period) qs p ∙ ap (λ n. spans_from port (origin + q.info.period) qs ++ span_of n (step_in port p) (positions port p) ∷ []) e)
        ∙ sym (append_assoc (spans_to s.stamps (origin + s.skipped * step_in port q)) (span_after origin (step_in port q) (positions port q) s.skipped ∷ spans_from port (origin + q.info.period) qs)
        (span_of (origin + time_of_periods (q ∷ qs)) (step_in port p) (positions port p) ∷ []))

    -- before the first period there are those of samples at their times alone
    pub before_first : (p : PeriodRecord) (ps : List PeriodRecord) (t j : ℕ) → t < origin → position_at 0 (column_spans port s origin (p ∷ ps)) t ≡ Some j → j < length s.stamps
    unfolding position_at count_of_spans
    before_first p ps t j low at =
        let e = same_after (spans_to s.stamps (origin + s.skipped * step_in port p)) (rest_span ∷ spans_from port (origin + p.info.period) ps) [] 0 t
        (λ n. rw (lt-leb rest_span.start t (omega (arith, low))) (none_before (n + rest_span.count) (origin + p.info.period) ps t (omega (arith, low)))) in
        let w = within_total (spans_to s.stamps (origin + s.skipped * step_in port p) ++ []) 0 t j (sym e ∙ at) in
        let a = total_append (spans_to s.stamps (origin + s.skipped * step_in port p)) [] in
        let m = stamps_total s.stamps (origin + s.skipped * step_in port p) in
        omega (arith, w, a, m)
      where
        rest_span : Span
        rest_span = span_after origin (step_in port p) (positions port p) s.skipped

    -- a position at a time in the periods after the first is one of those
    pub within_column : (p : PeriodRecord) (ps : List PeriodRecord) (t j : ℕ) → position_at 0 (column_spans port s origin (p ∷ ps)) t ≡ Some j
        → j < length s.stamps + ((positions port p - s.skipped) + sum_by (positions port) ps)
    within_column p ps t j at = let w = within_total (column_spans port s origin (p ∷ ps)) 0 t j at in let e = column_total p ps in omega (arith, w, e)

  -- output n is one of an activation that is among the first, k of them in the last period
  pub record Made (before ps : List PeriodRecord) (p : PeriodRecord) (k n : ℕ) : Type 0 where
    pub at : Spot PeriodInfo
    pub found : find (outputs_in port) before (ps ++ p ∷ []) n ≡ Some at
    pub early : sum_by (count port.«module») at.before + at.rest / rate_in port at.period < sum_by (count port.«module») before + (sum_by (count port.«module») ps + k)

  pub made : (before ps : List PeriodRecord) (p : PeriodRecord) (k n : ℕ) → k ≤ slice_index p.counts port.«module» → n < sum_by (outputs_in port) ps + k * rate_in port p → Made before ps p k n
  unfolding find
  made before [] p k n most low =
      let z : sum_by (outputs_in port) [] ≡ 0 = refl in
      let less : n < k * rate_in port p = omega (arith, low, z) in
      let m : k * rate_in port p ≤ outputs_in port p = mul-le-mul_right (rate_in port p) most in
      record {
        at = spot before p n;
        found = rw (lt-ltb n (outputs_in port p) (omega (arith, less, m))) refl;
        early = (let d = div_below n (rate_in port p) k (factor_some n k (rate_in port p) less) less in let y : sum_by (count {I = PeriodInfo} port.«module») [] ≡ 0 = refl in omega (arith, d, y));
      }
  made before (q ∷ ps) p k n most low = elim (cases_lt n (outputs_in port q)) [
    | inl here ↦ record {
      at = spot before q n;
      found = rw (lt-ltb n (outputs_in port q) here) refl;
      early = (
          let d = div_below n (rate_in port q) (slice_index q.counts port.«module») (factor_some n (slice_index q.counts port.«module») (rate_in port q) here) here in
          let s = sum_by-cons (count port.«module») q ps in omega (arith, d, s));
    }
    | inr past ↦ (
        let s = sum_by-cons (outputs_in port) q ps in
        let r = made (before ++ q ∷ []) ps p k (n - outputs_in port q) most (omega (arith, low, s, past)) in
        record {
          at = r.at;
          found = rw (le-ltb n (outputs_in port q) past) r.found;
          early = (let e = r.early in let b = sum_by_push (count port.«module») before q in let c = sum_by-cons (count port.«module») q ps in omega (arith, e, b, c));
        })
  ]
