-- What the state of a column of samples gives its signal: spans and samples from the start on that it says.
use Rattle.std.proofs.Common.{◌≡◌, ◌∙◌, ◌<◌, ◌≤◌, ◌+◌, ◌-◌, ◌*◌, ◌++◌, ℕ, ℤ, zero, suc, Bool, true, false, if◌then◌else◌, min, nat_lt, Some, option_map, List, [], ◌∷◌, length, length-append, map, slice_get, refl, ap, sym, subst, inl, inr, arith}
use Rattle.std.proofs.Math.Nat.{add-mul}
use Rattle.std.proofs.lemmas.Bool.{cases_lt, le-ltb, lt-ltb, ltb-true}
use Rattle.std.proofs.lemmas.List.{append_assoc, length-map, map-append}
use Rattle.std.proofs.lemmas.List.FromFn.{length-map-range_with_len}
use Rattle.std.proofs.lemmas.Option.{slice_get-map, slice_get_within}
use Rattle.std.specs.List.{count_by, range_with_len}
use Rattle.std.specs.Prelude.{cond, filter}
use Rattle.tdf_bind_connections.specs.declared.traces.TraceRow.{TraceRow}
use Rattle.tdf_bind_tables.specs.FlatTables.{FlatTablesOf}
use Rattle.tdf_fixed.specs.declared.format.Format.{Format}
use Rattle.tdf_fixed.specs.declared.raw.Raw.{Raw}
use Rattle.tdf_saved.specs.State.{ColumnStateOf}
use Rattle.tdf_saved.specs.declared.state.Stamp.{Stamp as SavedStamp}
use Rattle.tdf_sim_history.proofs.Api.{first_time, stamps_early, stamps_late, stamps_total}
use Rattle.tdf_sim_history.specs.Columns.{ColumnStart, Stamp, held_by, span_after, spans_to}
use Rattle.tdf_sim_resumed.specs.Starting.{Tracked, column_start_of, known_count, numbers_ahead, position_count, positions_before, stamp_of_trace, stamps_before, stamps_from, time_of_position, value_of_trace}
use Rattle.tdf_sim_resumed.specs.Valid.{IsValidSamples}
use Rattle.tdf_sim_shown.proofs.Splits.{is_before, is_from, kept_count, kept_is, rise_front, rising_chain, split_at}
use Rattle.tdf_sim_shown.specs.machine.Resuming.{given_from, later_in, rest_in}
use Rattle.tdf_streams.proofs.Api.{get_high, get_low, get_made_at}
use Rattle.tdf_streams.specs.Signals.{step_in}
use Rattle.tdf_trace.proofs.Api.{last_stamps}
use Rattle.tdf_trace.specs.Starts.{IsSampledBy, stamps_after_first}
use Rattle.tdf_trace.specs.Tracks.{IsChain}
use Rattle.tdf_trace_rows.specs.Positions.{AreChained, Span, count_of_spans, time_in_spans}
use Rattle.tdf_trace_rows.specs.Stamping.{IsStamping}
use Rattle.tdf_trace_states.specs.ColumnStates.{DoRise, sample_in}

kept_within : {A : Type 0} (f : A → Bool) (xs : List A) → length (filter f xs) ≤ length xs
kept_within f [] = omega arith
kept_within {A} f (x ∷ xs) = go (f x) (kept_within f xs)
  where
    go : (b : Bool) → length (filter f xs) ≤ length xs → length (cond b (x ∷ filter f xs) (filter f xs)) ≤ suc (length xs)
    go true r = omega (arith, r)
    go false r = omega (arith, r)

count_within : {A : Type 0} (f : A → Bool) (xs : List A) → count_by f xs ≤ length xs
count_within f xs = let k = kept_count f xs in let l = kept_within f xs in omega (arith, k, l)

-- the start that it says, with the spans and the samples, those that have a position and those that wait
module _ (tables : FlatTablesOf) (rows : ℕ) (row : TraceRow) (state : ColumnStateOf) (x : Tracked) where
  abbrev pub start_by : ColumnStart
  start_by = column_start_of tables rows row state (Some x)

  abbrev pub spans_by : List Span
  spans_by = spans_to start_by.stamps (x.cluster.origin + positions_before rows x * step_in x.port x.cluster.now)
      ++ span_after x.cluster.origin (step_in x.port x.cluster.now) (position_count x) (positions_before rows x) ∷ []

  abbrev pub held_by_it : List Raw
  held_by_it = map (λ (s : Stamp). s.value) start_by.stamps ++ map (value_of_trace tables row) (map (λ (s : SavedStamp). s.num) (stamps_from x.cluster.since state))

  abbrev pub waiting_by : List Raw
  waiting_by = map (value_of_trace tables row) state.later

module _ (tables : FlatTablesOf) (rows : ℕ) (row : TraceRow) (state : ColumnStateOf) (x : Tracked) (valid : IsValidSamples rows x state) (some : 0 < step_in x.port x.cluster.now) (begins : x.cluster.origin ≡ x.cluster.since) where
  abbrev since : ℕ
  since = x.cluster.since

  abbrev step : ℕ
  step = step_in x.port x.cluster.now

  abbrev count : ℕ
  count = position_count x

  abbrev skipped : ℕ
  skipped = positions_before rows x

  abbrev early : List SavedStamp
  early = stamps_before since state

  abbrev given : List SavedStamp
  given = stamps_from since state

  abbrev start_here : ColumnStart
  start_here = start_by tables rows row state x

  -- the end of the samples of earlier periods
  abbrev first_end : ℕ
  first_end = x.cluster.origin + skipped * step

  abbrev rest_span : Span
  rest_span = span_after x.cluster.origin step count skipped

  abbrev spans_here : List Span
  spans_here = spans_by tables rows row state x

  abbrev held_here : List Raw
  held_here = held_by_it tables rows row state x

  abbrev waits_here : List Raw
  waits_here = waiting_by tables rows row state x

  rise : DoRise state.samples
  rise = valid.rising.rise

  -- ---- how many there are

  pub skipped_within : skipped ≤ count
  skipped_within =
      let c = count_within (λ i. nat_lt (time_of_position x i) rows) (range_with_len 0 count) in
      let l = length-range 0 count in omega (arith, c, l)
    where
      length-range : (a n : ℕ) → length (range_with_len a n) ≡ n
      length-range a zero = refl
      length-range a (suc n) = ap suc (length-range (a + 1) n)

  pub given_long : length given ≡ min (known_count x) count - skipped
  given_long = sym (length-map given (λ (s : SavedStamp). s.time)) ∙ ap length valid.known ∙ length-map-range_with_len (time_of_position x) skipped (min (known_count x) count - skipped)

  -- those that the start holds for its period and later ones
  pub given_here : length start_here.ahead ≡ (min (known_count x) count - skipped) + (known_count x - count)
  given_here =
      let a = length-map (numbers_ahead since state) (value_of_trace tables row) in
      let b = length-append (map (λ (s : SavedStamp). s.num) given) state.later in
      let c = length-map given (λ (s : SavedStamp). s.num) in
      let g = given_long in let l = valid.later in omega (arith, a, b, c, g, l)

  pub given_count : given_from since state.samples ≡ length given
  given_count = sym (kept_count (is_from since) state.samples)

  pub done_is : min (given_from since state.samples) (count - skipped) ≡ length given
  done_is = let g = given_count in let l = given_long in omega (arith, g, l)

  stamps_long : length start_here.stamps ≡ length early
  stamps_long = length-map early (stamp_of_trace tables row)

  held_count : length held_here ≡ length early + length given
  held_count =
      let a = length-append (map (λ (s : Stamp). s.value) start_here.stamps) (map (value_of_trace tables row) (map (λ (s : SavedStamp). s.num) given)) in
      let b = length-map start_here.stamps (λ (s : Stamp). s.value) in
      let c = length-map (map (λ (s : SavedStamp). s.num) given) (value_of_trace tables row) in
      let d = length-map given (λ (s : SavedStamp). s.num) in
      let e = stamps_long in omega (arith, a, b, c, d, e)

  early_total : count_of_spans (spans_to start_here.stamps first_end) ≡ length early
  early_total = stamps_total start_here.stamps first_end ∙ stamps_long

  -- ---- the spans

  pub chain_here : IsChain spans_here
  unfolding AreChained
  chain_here = (
    first_time start_here.stamps first_end,
    rising_chain (stamp_of_trace tables row) (λ s. refl) first_end early (rest_span ∷ []) (rise_front early given (subst DoRise (split_at since state.samples rise) rise))
        (λ i s at. let k = kept_is (is_before since) state.samples i s at in let l = before s k in let b = begins in omega (arith, l, b)) (refl, some, tt),
  )
    where
      before : (s : SavedStamp) → nat_lt s.time since ≡ true → s.time < since
      before s is = ltb-true s.time since is

  pub stamping_here : IsStamping spans_here (length held_here) (rest_in since step count rows (given_from since state.samples))
  stamping_here =
      let s = last_stamps (spans_to start_here.stamps first_end) rest_span (length given) (let l = given_long in omega (arith, l)) in
      let e : count_of_spans (spans_to start_here.stamps first_end) + length given ≡ length held_here = (let a = early_total in let b = held_count in omega (arith, a, b)) in
      subst (λ n. IsStamping spans_here n (rest_in since step count rows (given_from since state.samples))) e
      (subst (λ k. IsStamping spans_here (count_of_spans (spans_to start_here.stamps first_end) + length given) (stamps_after_first (span_after k step count skipped) (min (given_from since state.samples) (count - skipped)))) begins
      (subst (λ d. IsStamping spans_here (count_of_spans (spans_to start_here.stamps first_end) + length given) (stamps_after_first rest_span d)) (sym done_is) s))

  -- ---- the samples

  later_none : 0 < count - skipped - length given → state.later ≡ []
  later_none left = (let l = valid.later in let g = given_long in empty state.later (omega (arith, l, g, left)))
    where
      empty : (xs : List ℤ) → length xs ≡ 0 → xs ≡ []
      empty [] none = refl
      empty (y ∷ ys) none = absurd (omega (arith, none))

  pub waits_are : (format : Format) → ((num : ℤ) → value_of_trace tables row num ≡ sample_in format num) → later_in format state.later (rest_in since step count rows (given_from since state.samples)).left ≡ waits_here
  waits_are format values = elim (cases_lt 0 (rest_in since step count rows (given_from since state.samples)).left) [
    | inl left ↦ ap (λ b. if b then [] else map (sample_in format) state.later) (lt-ltb 0 (rest_in since step count rows (given_from since state.samples)).left left)
        ∙ sym (ap (map (value_of_trace tables row)) (later_none (let d = done_is in omega (arith, left, d))))
    | inr none ↦ ap (λ b. if b then [] else map (sample_in format) state.later) (le-ltb 0 (rest_in since step count rows (given_from since state.samples)).left none)
        ∙ maps state.later
  ]
    where
      maps : (nums : List ℤ) → map (sample_in format) nums ≡ map (value_of_trace tables row) nums
      maps [] = refl
      maps (num ∷ nums) = λ i. sym (values num) i ∷ maps nums i

  -- all that the start holds
  pub all_held : held_by start_here ≡ held_here ++ waits_here
  unfolding held_by
  all_held =
      ap (λ l. map (λ (s : Stamp). s.value) start_here.stamps ++ l) (map-append (value_of_trace tables row) (map (λ (s : SavedStamp). s.num) given) state.later)
      ∙ sym (append_assoc (map (λ (s : Stamp). s.value) start_here.stamps) (map (value_of_trace tables row) (map (λ (s : SavedStamp). s.num) given)) waits_here)

  pub sampled_here : (format : Format) → ((num : ℤ) → value_of_trace tables row num ≡ sample_in format num) → IsSampledBy spans_here (held_here ++ waits_here) format state
  unfolding count_of_spans time_in_spans
  sampled_here format values = record {
    all = λ j spanned held. (let s = samples_long in let t = total in let h = held_count in let a = length-append held_here waits_here in let w = waits_long in let g = given_long in let v = valid.later in omega (arith, s, t, h, a, w, g, v, spanned, held));
    times = λ j s at. elim (cases_lt j (length early)) [
      | inl low ↦ stamps_early first_end j start_here.stamps (rest_span ∷ []) (let l = stamps_long in omega (arith, l, low))
          ∙ ap (option_map (λ (y : Stamp). y.time)) (slice_get-map (stamp_of_trace tables row) early j ∙ ap (option_map (stamp_of_trace tables row)) (early_at j s low at))
      | inr high ↦ (let i = j - length early in let e : j ≡ length start_here.stamps + i = (let l = stamps_long in omega (arith, l, high)) in
          ap (time_in_spans spans_here) e ∙ stamps_late first_end i start_here.stamps (rest_span ∷ []) ∙ rest_time i s (given_at j s high at))
    ];
    values = λ j s at. elim (cases_lt j (length early)) [
      | inl low ↦ get_low held_here waits_here j (let h = held_count in omega (arith, h, low)) ∙ held_early j s low (early_at j s low at) ∙ ap Some (values s.num)
      | inr high ↦ get_low held_here waits_here j (let h = held_count in let w = slice_get_within state.samples j s at in let n = samples_long in omega (arith, h, w, n)) ∙ held_given j s high (given_at j s high at) ∙ ap Some (values s.num)
    ];
  }
    where
      samples_long : length state.samples ≡ length early + length given
      samples_long = ap length (split_at since state.samples rise) ∙ length-append early given

      waits_long : length waits_here ≡ length state.later
      waits_long = length-map state.later (value_of_trace tables row)

      total : count_of_spans spans_here ≡ length early + (count - skipped)
      total = let t = total_append (spans_to start_here.stamps first_end) (rest_span ∷ []) in let e = early_total in omega (arith, t, e)
        where
          total_append : (ps qs : List Span) → count_of_spans (ps ++ qs) ≡ count_of_spans ps + count_of_spans qs
          total_append [] qs = let z : count_of_spans qs ≡ 0 + count_of_spans qs = omega arith in z
          total_append (p ∷ ps) qs = let r = total_append ps qs in omega (arith, r)

      early_at : (j : ℕ) (s : SavedStamp) → j < length early → slice_get state.samples j ≡ Some s → slice_get early j ≡ Some s
      early_at j s low at = sym (get_low early given j low) ∙ ap (λ l. slice_get l j) (sym (split_at since state.samples rise)) ∙ at

      given_at : (j : ℕ) (s : SavedStamp) → length early ≤ j → slice_get state.samples j ≡ Some s → slice_get given (j - length early) ≡ Some s
      given_at j s high at = sym (get_high early given j high) ∙ ap (λ l. slice_get l j) (sym (split_at since state.samples rise)) ∙ at

      held_early : (j : ℕ) (s : SavedStamp) → j < length early → slice_get early j ≡ Some s → slice_get held_here j ≡ Some (value_of_trace tables row s.num)
      held_early j s low at =
          get_low (map (λ (y : Stamp). y.value) start_here.stamps) (map (value_of_trace tables row) (map (λ (y : SavedStamp). y.num) given)) j (let a = length-map start_here.stamps (λ (y : Stamp). y.value) in let l = stamps_long in omega (arith, a, l, low))
          ∙ slice_get-map (λ (y : Stamp). y.value) start_here.stamps j
          ∙ ap (option_map (λ (y : Stamp). y.value)) (slice_get-map (stamp_of_trace tables row) early j ∙ ap (option_map (stamp_of_trace tables row)) at)

      held_given : (j : ℕ) (s : SavedStamp) → length early ≤ j → slice_get given (j - length early) ≡ Some s → slice_get held_here j ≡ Some (value_of_trace tables row s.num)
      held_given j s high at =
          let front : length (map (λ (y : Stamp). y.value) start_here.stamps) ≡ length early = length-map start_here.stamps (λ (y : Stamp). y.value) ∙ stamps_long in
          get_high (map (λ (y : Stamp). y.value) start_here.stamps) (map (value_of_trace tables row) (map (λ (y : SavedStamp). y.num) given)) j (omega (arith, front, high))
          ∙ ap (λ k. slice_get (map (value_of_trace tables row) (map (λ (y : SavedStamp). y.num) given)) (j - k)) front
          ∙ slice_get-map (value_of_trace tables row) (map (λ (y : SavedStamp). y.num) given) (j - length early)
          ∙ ap (option_map (value_of_trace tables row)) (slice_get-map (λ (y : SavedStamp). y.num) given (j - length early) ∙ ap (option_map (λ (y : SavedStamp). y.num)) at)

      -- the time of a position of the rest of the period
      rest_time : (i : ℕ) (s : SavedStamp) → slice_get given i ≡ Some s → time_in_spans (rest_span ∷ []) i ≡ Some s.time
      rest_time i s at =
          let low = slice_get_within given i s at in
          let g = given_long in
          let less : i < count - skipped = omega (arith, low, g) in
          let t : Some s.time ≡ Some (time_of_position x (skipped + i)) =
          sym (slice_get-map (λ (y : SavedStamp). y.time) given i ∙ ap (option_map (λ (y : SavedStamp). y.time)) at) ∙ ap (λ l. slice_get l i) valid.known
          ∙ get_made_at (time_of_position x) skipped (min (known_count x) count - skipped) i (omega (arith, low, g)) in
          let m = add-mul skipped i step in
          let b = begins in
          let e : x.cluster.origin + skipped * step + i * step ≡ since + (skipped + i) * step = omega (arith, m, b) in
          ap (λ b. if b then Some (x.cluster.origin + skipped * step + i * step) else time_in_spans [] (i - (count - skipped))) (lt-ltb i (count - skipped) less) ∙ ap Some e ∙ sym t
