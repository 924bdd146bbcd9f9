-- What happens to one traced signal.
use Rattle.std.proofs.Common.{◌≡◌, ℕ, zero, suc, ◌+◌, ◌-◌, ◌*◌, ◌<◌, ◌≤◌, Some, None, List, [], ◌∷◌, ◌++◌, length, drop, slice_get, refl, ap, sym, ◌∙◌, subst, arith}
use Rattle.std.proofs.lemmas.Option.{slice_get_past}
use Rattle.std.proofs.lemmas.List.{length_push, nil_from_length}
use Rattle.std.proofs.Math.ListN.{drop_of_length-le}
use Rattle.tdf_trace.proofs.Firsts.{first_end, first_push, first_span, full, known_first, next_cells, within}
use Rattle.tdf_trace.proofs.ColumnPlaces.{drop_next, get_last}
use Rattle.tdf_trace.proofs.Showings.{same_signal, signal_taken}
use Rattle.tdf_trace.specs.Tracked.{TrackedOf}
use Rattle.tdf_trace.specs.Tracks.{IsChain, Tracks}
use Rattle.tdf_trace.specs.machine.Firsts.{first_cells}
use Rattle.tdf_trace.specs.machine.Showing.{ClosedTo, IsAt, IsNotedBelow, OneHolds, TakesCells, with_signal}
use Rattle.tdf_fixed.specs.declared.raw.Raw.{Raw}
use Rattle.tdf_trace_rows.proofs.Api.{stamped_begin, stamped_on}
use Rattle.tdf_trace_rows.specs.Positions.{AreChained, Span, count_of_spans}
use Rattle.tdf_trace_rows.specs.Rows.{Cells}
use Rattle.tdf_trace_rows.specs.Stamping.{IsStamping, stamps_after}
use Rattle.tdf_trace_rows.specs.declared.stamps.Stamps.{Stamps}
use Rattle.tdf_trace.specs.Stands.{RowsSeen, Stands}

-- a tracked signal with other stamps and other samples that wait
abbrev pub tracked_with : TrackedOf → Stamps → List Raw → TrackedOf
tracked_with t stamps waiting = record {
  signal = t.signal;
  columns = t.columns;
  since = t.since;
  stamps = stamps;
  waiting = waiting;
}

-- the next position gets its sample, if there is one
pub stamped : (spans : List Span) (samples : List Raw) (n : ℕ) (stamps : Stamps) (columns : List ℕ) (cells : Cells) (before after : RowsSeen) → IsChain spans → IsStamping spans n stamps → 0 < stamps.left
    → TakesCells columns stamps.time (slice_get samples n) before after → Stands (with_signal columns cells (first_cells spans samples n)) before
    → Stands (with_signal columns cells (first_cells spans samples (n + 1))) after
stamped spans samples n stamps columns cells before after chained is more took stands =
    signal_taken columns cells (first_cells spans samples n) (first_cells spans samples (n + 1)) stamps.time (slice_get samples n) before after
    (next_cells spans samples n stamps chained is more) took stands

-- the cells with a value, as those of the first positions
pub firsts_of : (spans : List Span) (samples : List Raw) (cells : Cells) (t : TrackedOf) (rows : RowsSeen) (h : OneHolds spans samples cells t rows)
    → Stands (with_signal t.columns cells (first_cells spans samples h.tracked.done)) rows
firsts_of spans samples cells t rows h = same_signal t.columns cells _ _ rows (known_first spans samples t h.tracked) h.stands

pub held_by : (spans : List Span) (samples : List Raw) (cells : Cells) (t : TrackedOf) (rows : RowsSeen) (k : Tracks spans samples t)
    → Stands (with_signal t.columns cells (first_cells spans samples k.done)) rows → OneHolds spans samples cells t rows
held_by spans samples cells t rows k stands = record {
  tracked = k;
  stands = same_signal t.columns cells _ _ rows (λ time. sym (known_first spans samples t k time)) stands;
}

-- a sample that has a time
pub takes_now : (spans : List Span) (samples : List Raw) (cells : Cells) (v : Raw) (t : TrackedOf) (before after : RowsSeen) → 0 < t.stamps.left
    → TakesCells t.columns t.stamps.time (Some v) before after → OneHolds spans samples cells t before
    → OneHolds spans (samples ++ v ∷ []) cells (tracked_with t (stamps_after t.stamps) t.waiting) after
takes_now spans samples cells v t before after more took h =
    let k = h.tracked in
    let done : k.done ≡ length samples = full spans samples t k more in
    let none : length t.waiting ≡ 0 = (let m : k.done + length t.waiting ≡ length samples = k.many in omega (arith, m, done)) in
    let nil : t.waiting ≡ [] = nil_from_length t.waiting none in
    let here : slice_get (samples ++ v ∷ []) k.done ≡ Some v = ap (slice_get (samples ++ v ∷ [])) done ∙ get_last samples v in
    held_by spans (samples ++ v ∷ []) cells (tracked_with t (stamps_after t.stamps) t.waiting) after (record {
      done = k.done + 1;
      stamping = stamped_on spans k.done t.stamps.time t.stamps.step t.stamps.left more k.stamping;
      many = (let l : length (samples ++ v ∷ []) ≡ length samples + 1 = length_push samples v in omega (arith, l, done, none));
      waiting = nil ∙ sym (drop_of_length-le (samples ++ v ∷ []) (let l : length (samples ++ v ∷ []) ≡ length samples + 1 = length_push samples v in let g : length (samples ++ v ∷ []) ≤ k.done + 1 = omega (arith, l, done) in g));
      idle = λ some. absurd (omega (arith, some, none));
      chained = k.chained;
    })
    (stamped spans (samples ++ v ∷ []) k.done t.stamps t.columns cells before after k.chained k.stamping more
    (subst (λ o. TakesCells t.columns t.stamps.time o before after) (sym here) took)
    (same_signal t.columns cells _ _ before (λ time. first_push spans samples v k.done time (omega (arith, done))) (firsts_of spans samples cells t before h)))

-- a sample that waits
pub takes_later : (spans : List Span) (samples : List Raw) (cells : Cells) (v : Raw) (t u : TrackedOf) (rows : RowsSeen) → t.stamps.left ≡ 0 → u.columns ≡ t.columns → u.stamps ≡ t.stamps → u.waiting ≡ t.waiting ++ v ∷ []
    → OneHolds spans samples cells t rows → OneHolds spans (samples ++ v ∷ []) cells u rows
takes_later spans samples cells v t u rows none columns stamps waiting h =
    let k = h.tracked in
    let small : k.done ≤ length samples = within spans samples t k in
    held_by spans (samples ++ v ∷ []) cells u rows (record {
      done = k.done;
      stamping = subst (λ (s : Stamps). IsStamping spans k.done s) (sym stamps) k.stamping;
      many = (let m : k.done + length t.waiting ≡ length samples = k.many in
          let l : length (samples ++ v ∷ []) ≡ length samples + 1 = length_push samples v in
          let w : length u.waiting ≡ length t.waiting + 1 = ap length waiting ∙ length_push t.waiting v in omega (arith, m, l, w));
      waiting = waiting ∙ ap (λ xs. xs ++ v ∷ []) k.waiting ∙ sym (drop_push k.done samples v small);
      idle = λ some. ap (λ (s : Stamps). s.left) stamps ∙ none;
      chained = k.chained;
    })
    (subst (λ cs. Stands (with_signal cs cells (first_cells spans (samples ++ v ∷ []) k.done)) rows) (sym columns)
    (same_signal t.columns cells _ _ rows (λ time. first_push spans samples v k.done time small) (firsts_of spans samples cells t rows h)))
  where
    drop_push : (n : ℕ) (xs : List Raw) (y : Raw) → n ≤ length xs → drop n (xs ++ y ∷ []) ≡ drop n xs ++ y ∷ []
    drop_push zero xs y small = refl
    drop_push (suc n) [] y small = absurd (omega (arith, small))
    drop_push (suc n) (x ∷ xs) y small = drop_push n xs y (omega (arith, small))

-- a period has begun: nothing changes but the stamps
pub period_begun : (spans : List Span) (samples : List Raw) (cells : Cells) (start step count : ℕ) (t u : TrackedOf) (rows : RowsSeen) → t.stamps.left ≡ 0 → u.columns ≡ t.columns → u.waiting ≡ t.waiting
    → u.stamps ≡ record { time = start; step = step; left = count } → IsChain (spans ++ record { start = start; step = step; count = count } ∷ [])
    → (h : OneHolds spans samples cells t rows) → IsAt (spans ++ record { start = start; step = step; count = count } ∷ []) samples h.tracked.done cells u rows
period_begun spans samples cells start step count t u rows none columns waiting stamps chained h =
    let k = h.tracked in
    let all : k.done ≡ count_of_spans spans = (let w : count_of_spans spans ≡ k.done + t.stamps.left = k.stamping.whole in omega (arith, w, none)) in record {
      stamping = subst (λ (s : Stamps). IsStamping (spans ++ record { start = start; step = step; count = count } ∷ []) k.done s) (sym stamps)
          (stamped_begin spans k.done t.stamps.time t.stamps.step t.stamps.left start step count none k.stamping);
      many = ap (λ xs. k.done + length xs) waiting ∙ k.many;
      waiting = waiting ∙ k.waiting;
      chained = chained;
      stands = subst (λ cs. Stands (with_signal cs cells (first_cells (spans ++ record { start = start; step = step; count = count } ∷ []) samples k.done)) rows) (sym columns)
          (same_signal t.columns cells _ _ rows (λ time. first_span spans (record { start = start; step = step; count = count }) samples k.done time all) (firsts_of spans samples cells t rows h));
    }

-- a sample that waited got its time
pub caught_one : (spans : List Span) (samples : List Raw) (n : ℕ) (cells : Cells) (v : Raw) (t u : TrackedOf) (before after : RowsSeen) → 0 < t.stamps.left → u.columns ≡ t.columns
    → u.stamps ≡ stamps_after t.stamps → t.waiting ≡ v ∷ u.waiting → TakesCells t.columns t.stamps.time (Some v) before after → IsAt spans samples n cells t before
    → IsAt spans samples (n + 1) cells u after
caught_one spans samples n cells v t u before after more columns stamps some took at =
    let d = drop_next n samples u.waiting v (sym at.waiting ∙ some) in record {
      stamping = subst (λ (s : Stamps). IsStamping spans (n + 1) s) (sym stamps) (stamped_on spans n t.stamps.time t.stamps.step t.stamps.left more at.stamping);
      many = (let m : n + length t.waiting ≡ length samples = at.many in let l : length t.waiting ≡ suc (length u.waiting) = ap length some in omega (arith, m, l));
      waiting = sym d.1 ∙ ap (λ k. drop k samples) (let e : suc n ≡ n + 1 = omega arith in e);
      chained = at.chained;
      stands = subst (λ cs. Stands (with_signal cs cells (first_cells spans samples (n + 1))) after) (sym columns)
          (stamped spans samples n t.stamps t.columns cells before after at.chained at.stamping more (subst (λ o. TakesCells t.columns t.stamps.time o before after) (sym d.0) took) at.stands);
    }

-- all that can have caught up
pub caught_up : (spans : List Span) (samples : List Raw) (n : ℕ) (cells : Cells) (t : TrackedOf) (rows : RowsSeen) → (0 < length t.waiting → t.stamps.left ≡ 0) → IsAt spans samples n cells t rows
    → OneHolds spans samples cells t rows
caught_up spans samples n cells t rows idle at = held_by spans samples cells t rows
    (record { done = n; stamping = at.stamping; many = at.many; waiting = at.waiting; idle = idle; chained = at.chained }) at.stands

-- the first positions, when closing begins
pub closing : (spans : List Span) (samples : List Raw) (cells : Cells) (t : TrackedOf) (rows : RowsSeen) → OneHolds spans samples cells t rows → ClosedTo spans samples cells t.columns t.stamps rows
closing spans samples cells t rows h = record {
  n = h.tracked.done;
  stamping = h.tracked.stamping;
  past = λ more. (let f : h.tracked.done ≡ length samples = full spans samples t h.tracked more in omega (arith, f));
  chained = h.tracked.chained;
  stands = firsts_of spans samples cells t rows h;
}

-- one position more without a sample
pub closed_more : (spans : List Span) (samples : List Raw) (cells : Cells) (columns : List ℕ) (stamps : Stamps) (before after : RowsSeen) → 0 < stamps.left → TakesCells columns stamps.time None before after
    → ClosedTo spans samples cells columns stamps before → ClosedTo spans samples cells columns (stamps_after stamps) after
closed_more spans samples cells columns stamps before after more took h =
    let past : length samples ≤ h.n = h.past more in record {
      n = h.n + 1;
      stamping = stamped_on spans h.n stamps.time stamps.step stamps.left more h.stamping;
      past = λ left. omega (arith, past);
      chained = h.chained;
      stands = stamped spans samples h.n stamps columns cells before after h.chained h.stamping more (subst (λ o. TakesCells columns stamps.time o before after) (sym (slice_get_past samples h.n past)) took) h.stands;
    }

-- all below the end
pub closed_all : (spans : List Span) (samples : List Raw) (cells : Cells) (columns : List ℕ) (stamps : Stamps) (rows : RowsSeen) (end : ℕ) → (0 < stamps.left → end ≤ stamps.time)
    → ClosedTo spans samples cells columns stamps rows → IsNotedBelow end spans samples cells columns rows
closed_all spans samples cells columns stamps rows end last h = record {
  of = first_cells spans samples h.n;
  stand = h.stands;
  agree = λ time less. first_end spans samples h.n stamps end time h.chained h.stamping last less;
}

-- a signal before its first period
pub fresh_tracks : (t : TrackedOf) → IsStamping [] 0 t.stamps → t.stamps.left ≡ 0 → t.waiting ≡ [] → Tracks [] [] t
unfolding AreChained
fresh_tracks t stamping none waiting = record {
  done = 0;
  stamping = stamping;
  many = (let l : length t.waiting ≡ 0 = ap length waiting in omega (arith, l));
  waiting = waiting;
  idle = λ some. none;
  chained = (0, tt);
}

-- what doesn't see which stamps and samples these are
pub at_same : (spans : List Span) (samples : List Raw) (n : ℕ) (cells : Cells) (t u : TrackedOf) (rows : RowsSeen) → u.columns ≡ t.columns → u.stamps ≡ t.stamps → u.waiting ≡ t.waiting → IsAt spans samples n cells t rows
    → IsAt spans samples n cells u rows
at_same spans samples n cells t u rows columns stamps waiting at = record {
  stamping = subst (λ (s : Stamps). IsStamping spans n s) (sym stamps) at.stamping;
  many = ap (λ xs. n + length xs) waiting ∙ at.many;
  waiting = waiting ∙ at.waiting;
  chained = at.chained;
  stands = subst (λ cs. Stands (with_signal cs cells (first_cells spans samples n)) rows) (sym columns) at.stands;
}

pub still_small : (time step left limit : ℕ) → 0 < left → time + left * step < limit → time + step + (left - 1) * step < limit
still_small time step zero limit more small = absurd (omega (arith, more))
still_small time step (suc k) limit more small = let e : (k + 1) * step ≡ k * step + step = grind arith in
    let f : suc k ≡ k + 1 = omega arith in let g : suc k - 1 ≡ k = omega arith in let h : suc k * step ≡ k * step + step = ap (λ n. n * step) f ∙ e in
    let i : (suc k - 1) * step ≡ k * step = ap (λ n. n * step) g in omega (arith, h, i, small)
