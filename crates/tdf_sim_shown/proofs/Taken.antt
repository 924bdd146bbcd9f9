-- What is tracked after all columns have gone on.
use Rattle.std.proofs.Common.{◌≡◌, ◌∙◌, ◌<◌, ◌≤◌, ℕ, zero, suc, Option, Some, None, List, [], ◌++◌, length, slice_get, slice_index, refl, ap, sym, subst, inl, inr, arith}
use Rattle.std.proofs.lemmas.Bool.{cases_eq, eq-eqb, ne_eqb}
use Rattle.tdf_bind.specs.declared.model.Flat.{Flat}
use Rattle.tdf_bind_connections.specs.declared.traces.TraceRow.{TraceRow}
use Rattle.tdf_fixed.specs.declared.raw.Raw.{Raw}
use Rattle.tdf_saved.specs.State.{ColumnStateOf}
use Rattle.tdf_sim_shown.specs.machine.Resuming.{HaveTaken, Lost, Passed, TakesColumn, TakesSignal, Took, later_in, stamps_by}
use Rattle.tdf_sim_shown.specs.machine.Waiting.{driven_at, driven_in}
use Rattle.tdf_sim_traces.proofs.Api.{alike}
use Rattle.tdf_sim_traces.specs.Periods.{ClockAt}
use Rattle.tdf_streams.proofs.Api.{get_inside, none_some, some_same}
use Rattle.tdf_trace.specs.Starts.{with_one}
use Rattle.tdf_trace.specs.Tracked.{Label, TrackedOf, label, labels}
use Rattle.tdf_trace.specs.Tracks.{AreTracked, IsChain}
use Rattle.tdf_trace_rows.specs.Positions.{Span}
use Rattle.tdf_trace_rows.specs.Stamping.{IsStamping}

-- another value for a signal, if there is one
abbrev pub with_driven : {A : Type 0} → Option ℕ → (it of : ℕ → A) → ℕ → A
with_driven None it of = of
with_driven (Some signal) it of = with_one of signal (it signal)

one_here : {A : Type 0} (of : ℕ → A) (signal s : ℕ) (a : A) → s ≡ signal → with_one of signal a s ≡ a
one_here of signal s a same = rw (eq-eqb s signal same) refl

one_apart : {A : Type 0} (of : ℕ → A) (signal s : ℕ) (a : A) → (s ≡ signal → ⊥) → with_one of signal a s ≡ of s
one_apart of signal s a apart = rw (ne_eqb s signal apart) refl

module _ (flat : Flat) where
  -- the values of the signals of the first k columns, and else others
  abbrev pub begun_to : {A : Type 0} → (it of : ℕ → A) → (k : ℕ) → ℕ → A
  begun_to it of zero = of
  begun_to it of (suc k) = with_driven (driven_at flat.tables k) it (begun_to it of k)

  pub begun_some : {A : Type 0} (it of : ℕ → A) (n k signal : ℕ) → k < n → driven_at flat.tables k ≡ Some signal → begun_to it of n signal ≡ it signal
  begun_some it of zero k signal low is = absurd (omega (arith, low))
  begun_some {A} it of (suc n) k signal low is = go (λ apart. begun_some it of n k signal (omega (arith, low, apart)) is) (driven_at flat.tables n) refl
    where
      go : ((k ≡ n → ⊥) → begun_to it of n signal ≡ it signal) → (o : Option ℕ) → driven_at flat.tables n ≡ o → with_driven o it (begun_to it of n) signal ≡ it signal
      go before None none = before (λ e. none_some signal (sym none ∙ ap (driven_at flat.tables) (sym e) ∙ is))
      go before (Some s) at = elim (cases_eq signal s) [
        | inl same ↦ one_here (begun_to it of n) s signal (it s) same ∙ ap it (sym same)
        | inr apart ↦ one_apart (begun_to it of n) s signal (it s) apart ∙ before (λ e. apart (some_same signal s (sym is ∙ ap (driven_at flat.tables) e ∙ at)))
      ]

  pub begun_none : {A : Type 0} (it of : ℕ → A) (n signal : ℕ) → ((k : ℕ) → k < n → driven_at flat.tables k ≡ Some signal → ⊥) → begun_to it of n signal ≡ of signal
  begun_none it of zero signal none = refl
  begun_none {A} it of (suc n) signal none = go (begun_none it of n signal (λ k low is. none k (omega (arith, low)) is)) (driven_at flat.tables n) refl
    where
      go : begun_to it of n signal ≡ of signal → (o : Option ℕ) → driven_at flat.tables n ≡ o → with_driven o it (begun_to it of n) signal ≡ of signal
      go before None at = before
      go before (Some s) at = one_apart (begun_to it of n) s signal (it s) (λ e. none n (omega arith) (at ∙ ap Some (sym e))) ∙ before

  module _ (clock : ClockAt) (states : List ColumnStateOf) (rows : ℕ) (long : length states ≡ length flat.tables.traces) where
    -- what a column gives fits the spans and samples of its signal
    pub record FitsColumn (its : ℕ → List Span) (held waits : ℕ → List Raw) (column : ℕ) (row : TraceRow) (old new : List TrackedOf) (x : TakesSignal flat clock states rows column row old new) : Type 0 where
      pub chain : IsChain (its x.it.signal)
      pub stamping : IsStamping (its x.it.signal) (length (held x.it.signal)) (stamps_by flat (slice_index clock.since x.it.cluster) x.cluster x.it x.state rows)
      pub later : later_in x.takes.signal.format x.state.later (stamps_by flat (slice_index clock.since x.it.cluster) x.cluster x.it x.state rows).left ≡ waits x.it.signal

    driven_here : (k : ℕ) (row : TraceRow) (o : Option ℕ) → slice_get flat.tables.traces k ≡ Some row → driven_in flat.tables (Some row) ≡ o → driven_at flat.tables k ≡ o
    driven_here k row o at is = ap (driven_in flat.tables) at ∙ is

    labels_kept : (k : ℕ) → k ≤ length flat.tables.traces → (old new : List TrackedOf) → HaveTaken flat clock states rows k old new → labels new ≡ labels old
    unfolding HaveTaken
    labels_kept zero low old new h = ap labels h
    labels_kept (suc k) low old new h = let r = get_inside flat.tables.traces k (omega (arith, low)) in go r.0 (h.2 r.0 r.1) ∙ labels_kept k (omega (arith, low)) old h.0 h.1
      where
        go : (row : TraceRow) → TakesColumn flat clock states rows k row h.0 new → labels new ≡ labels h.0
        go row (Passed none same) = ap labels same
        go row (Lost none same) = ap labels same
        go row (Took x) = x.takes.resumed.labels

    pub all_labels : (old new : List TrackedOf) → HaveTaken flat clock states rows (length flat.tables.traces) old new → labels new ≡ labels old
    all_labels old new h = labels_kept (length flat.tables.traces) (omega arith) old new h

    module _ (its : ℕ → List Span) (held waits : ℕ → List Raw)
        (fits : (column : ℕ) (row : TraceRow) (old new : List TrackedOf) → slice_get flat.tables.traces column ≡ Some row → (x : TakesSignal flat clock states rows column row old new) → FitsColumn its held waits column row old new x) where
      abbrev no_spans : ℕ → List Span
      no_spans signal = []

      abbrev no_samples : ℕ → List Raw
      no_samples signal = []

      abbrev both : ℕ → List Raw
      both signal = held signal ++ waits signal

      tracked_to : (k : ℕ) → k ≤ length flat.tables.traces → (old new : List TrackedOf) → HaveTaken flat clock states rows k old new → AreTracked no_spans no_samples old
          → AreTracked (begun_to its no_spans k) (begun_to both no_samples k) new
      unfolding HaveTaken
      tracked_to zero low old new h tracked = subst (AreTracked no_spans no_samples) (sym h) tracked
      tracked_to (suc k) low old new h tracked = let r = get_inside flat.tables.traces k (omega (arith, low)) in go (tracked_to k (omega (arith, low)) old h.0 h.1 tracked) r.0 r.1 (h.2 r.0 r.1)
        where
          go : AreTracked (begun_to its no_spans k) (begun_to both no_samples k) h.0 → (row : TraceRow) → slice_get flat.tables.traces k ≡ Some row → TakesColumn flat clock states rows k row h.0 new
              → AreTracked (with_driven (driven_at flat.tables k) its (begun_to its no_spans k)) (with_driven (driven_at flat.tables k) both (begun_to both no_samples k)) new
          go before row at (Passed none same) = subst (λ (o : Option ℕ). AreTracked (with_driven o its (begun_to its no_spans k)) (with_driven o both (begun_to both no_samples k)) new) (sym (driven_here k row None at none))
              (subst (AreTracked (begun_to its no_spans k) (begun_to both no_samples k)) (sym same) before)
          go before row at (Lost none same) = absurd (let s = get_inside states k (omega (arith, low, long)) in none_some s.0 (sym none ∙ s.1))
          go before row at (Took x) =
              let f = fits k row h.0 new at x in
              subst (λ (o : Option ℕ). AreTracked (with_driven o its (begun_to its no_spans k)) (with_driven o both (begun_to both no_samples k)) new) (sym (driven_here k row (Some x.it.signal) at x.same))
              (subst (λ (w : List Raw). AreTracked (with_one (begun_to its no_spans k) x.it.signal (its x.it.signal)) (with_one (begun_to both no_samples k) x.it.signal (held x.it.signal ++ w)) new) f.later
              (x.takes.took (begun_to its no_spans k) (begun_to both no_samples k) (its x.it.signal) (held x.it.signal) f.chain f.stamping before))

      abbrev pub spans_now : ℕ → List Span
      spans_now = begun_to its no_spans (length flat.tables.traces)

      abbrev pub samples_now : ℕ → List Raw
      samples_now = begun_to both no_samples (length flat.tables.traces)

      pub all_tracked : (old new : List TrackedOf) → HaveTaken flat clock states rows (length flat.tables.traces) old new → AreTracked no_spans no_samples old → AreTracked spans_now samples_now new
      all_tracked old new h tracked = tracked_to (length flat.tables.traces) (omega arith) old new h tracked

    -- what each column of a signal gives it, it has at the end
    module _ (signal : ℕ) (P : TrackedOf → Type 0)
        (gives : (column : ℕ) (row : TraceRow) (old new : List TrackedOf) → slice_get flat.tables.traces column ≡ Some row → (x : TakesSignal flat clock states rows column row old new) → x.it.signal ≡ signal
        → (t : TrackedOf) → t.since ≡ slice_index clock.since x.it.cluster → t.stamps ≡ stamps_by flat (slice_index clock.since x.it.cluster) x.cluster x.it x.state rows → P t) where
      kept_to : (k : ℕ) → k ≤ length flat.tables.traces → (old new : List TrackedOf) → HaveTaken flat clock states rows k old new → (j : ℕ) → j < k → driven_at flat.tables j ≡ Some signal
          → (place : ℕ) (t : TrackedOf) → slice_get new place ≡ Some t → t.signal ≡ signal → P t
      unfolding HaveTaken
      kept_to zero low old new h j less is place t there same = absurd (omega (arith, less))
      kept_to (suc k) low old new h j less is place t there same = let r = get_inside flat.tables.traces k (omega (arith, low)) in
          go (λ apart at. kept_to k (omega (arith, low)) old h.0 h.1 j (omega (arith, less, apart)) is place t at same) r.0 r.1 (h.2 r.0 r.1)
        where
          go : ((j ≡ k → ⊥) → slice_get h.0 place ≡ Some t → P t) → (row : TraceRow) → slice_get flat.tables.traces k ≡ Some row → TakesColumn flat clock states rows k row h.0 new → P t
          go before row at (Passed none alike_lists) = before (λ e. none_some signal (sym (driven_here k row None at none) ∙ ap (driven_at flat.tables) (sym e) ∙ is)) (sym (ap (λ (l : List TrackedOf). slice_get l place) alike_lists) ∙ there)
          go before row at (Lost none alike_lists) = absurd (let s = get_inside states k (omega (arith, low, long)) in none_some s.0 (sym none ∙ s.1))
          go before row at (Took x) = elim (cases_eq x.it.signal signal) [
            | inl here ↦ gives k row h.0 new at x here t (x.takes.resumed.since place t there (same ∙ sym here)) (x.takes.resumed.stamps place t there (same ∙ sym here))
            | inr apart ↦ before (λ e. apart (some_same x.it.signal signal (sym (driven_here k row (Some x.it.signal) at x.same) ∙ ap (driven_at flat.tables) (sym e) ∙ is))) (
                let u = alike label new h.0 place t x.takes.resumed.labels there in
                let differs : u.0.signal ≡ x.it.signal → ⊥ = λ e. apart (sym e ∙ ap (λ (l : Label). l.signal) u.2 ∙ same) in
                u.1 ∙ sym (x.takes.resumed.others place u.0 differs u.1) ∙ there)
          ]

      pub all_kept : (old new : List TrackedOf) → HaveTaken flat clock states rows (length flat.tables.traces) old new → (j : ℕ) → j < length flat.tables.traces → driven_at flat.tables j ≡ Some signal
          → (place : ℕ) (t : TrackedOf) → slice_get new place ≡ Some t → t.signal ≡ signal → P t
      all_kept old new h j less is place t there same = kept_to (length flat.tables.traces) (omega arith) old new h j less is place t there same
