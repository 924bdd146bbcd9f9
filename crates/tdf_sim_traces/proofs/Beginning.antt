-- The periods of signals begin, one after the other.
use Rattle.std.proofs.Common.{◌≡◌, ℕ, zero, suc, ◌+◌, ◌<◌, ◌≤◌, ◌⊎◌, Bool, true, false, if◌then◌else◌, Option, Some, None, List, [], ◌∷◌, ◌++◌, slice_get, refl, ap, sym, ◌∙◌, subst, inl, inr, arith}
use Rattle.std.proofs.lemmas.Bool.{cases_eq, eq-eqb, ne_eqb}
use Rattle.tdf_bind_tables.specs.FlatTables.{FlatTablesOf}
use Rattle.tdf_trace.proofs.Api.{started_back}
use Rattle.tdf_trace.specs.Calls.{HasNoneLeft, HasStarted, TakesPeriod, with_span}
use Rattle.tdf_trace.specs.Tracked.{AreSince, TrackedOf, TrackingOf}
use Rattle.tdf_sim_refinement.specs.Below.{ClusterOf}
use Rattle.tdf_streams.proofs.Api.{none_some, some_same}
use Rattle.tdf_trace.specs.Tracks.{IsChain}
use Rattle.tdf_trace_rows.specs.Positions.{Span}
use Rattle.tdf_sim_traces.proofs.Items.{true_false}
use Rattle.tdf_sim_traces.specs.Periods.{ClockAt, begins, span_in}
use Rattle.tdf_sim_traces.specs.declared.signals.TracedSignal.{TracedSignal}
use Rattle.tdf_sim_traces.specs.machine.Beginning.{BeginsAmong, HaveStarted, IsBeginning, TakesBegun}
use Rattle.tdf_trace.specs.Stands.{RowsSeen, TraceSeen}

abbrev AreOnce : List TracedSignal → Type 0
AreOnce signals = (i j : ℕ) (t u : TracedSignal) → slice_get signals i ≡ Some t → slice_get signals j ≡ Some u → t.signal ≡ u.signal → i ≡ j

-- among the first
pub none_among : (clock : ClockAt) (signals : List TracedSignal) (s : ℕ) → BeginsAmong clock signals 0 s → ⊥
none_among clock signals s a = absurd (let b = a.below in omega (arith, b))

pub among_more : (clock : ClockAt) (signals : List TracedSignal) (k s : ℕ) → BeginsAmong clock signals k s → BeginsAmong clock signals (k + 1) s
among_more clock signals k s a = record {
  place = a.place;
  it = a.it;
  below = (let b = a.below in omega (arith, b));
  there = a.there;
  begun = a.begun;
  same = a.same;
}

among_last : (clock : ClockAt) (signals : List TracedSignal) (k : ℕ) (t : TracedSignal) → slice_get signals k ≡ Some t → begins clock t ≡ true → BeginsAmong clock signals (k + 1) t.signal
among_last clock signals k t at begun = record { place = k; it = t; below = omega arith; there = at; begun = begun; same = refl }

-- among one more: among those before, or it is this one
among_less : (clock : ClockAt) (signals : List TracedSignal) (k s : ℕ) (t : TracedSignal) → slice_get signals k ≡ Some t → BeginsAmong clock signals (k + 1) s
    → BeginsAmong clock signals k s ⊎ ((begins clock t ≡ true) × (t.signal ≡ s))
among_less clock signals k s t at a = elim (cases_eq a.place k) [
  | inl same ↦ (let e : a.it ≡ t = some_same a.it t (sym a.there ∙ ap (slice_get signals) same ∙ at) in
      inr (ap (begins clock) (sym e) ∙ a.begun, ap (λ (u : TracedSignal). u.signal) (sym e) ∙ a.same))
  | inr apart ↦ inl (record {
    place = a.place;
    it = a.it;
    below = (let b = a.below in omega (arith, b, apart));
    there = a.there;
    begun = a.begun;
    same = a.same;
  })
]

not_here : (clock : ClockAt) (signals : List TracedSignal) (k : ℕ) (t : TracedSignal) → AreOnce signals → slice_get signals k ≡ Some t → BeginsAmong clock signals k t.signal → ⊥
not_here clock signals k t once at a = absurd (let e : a.place ≡ k = once a.place k a.it t a.there at a.same in let b = a.below in omega (arith, e, b))

-- whether a period of a signal begins is decided
pub is_among : (clock : ClockAt) (signals : List TracedSignal) (k s : ℕ) → BeginsAmong clock signals k s ⊎ (BeginsAmong clock signals k s → ⊥)
is_among clock signals zero s = inr (none_among clock signals s)
is_among clock signals (suc k) s = elim (is_among clock signals k s) [
  | inl is ↦ inl (subst (λ n. BeginsAmong clock signals n s) (omega arith) (among_more clock signals k s is))
  | inr not ↦ last not (slice_get signals k) refl
]
  where
    back : (P : Type 0) → (BeginsAmong clock signals (k + 1) s → P) → BeginsAmong clock signals (suc k) s → P
    back P f a = f (subst (λ n. BeginsAmong clock signals n s) (omega arith) a)

    last : (BeginsAmong clock signals k s → ⊥) → (o : Option TracedSignal) → slice_get signals k ≡ o → BeginsAmong clock signals (suc k) s ⊎ (BeginsAmong clock signals (suc k) s → ⊥)
    last not None at = inr (λ a. elim (cases_eq a.place k) [
      | inl same ↦ none_some a.it (sym at ∙ ap (slice_get signals) (sym same) ∙ a.there)
      | inr apart ↦ not (record {
        place = a.place;
        it = a.it;
        below = (let b = a.below in omega (arith, b, apart));
        there = a.there;
        begun = a.begun;
        same = a.same;
      })
    ])
    last not (Some t) at = elim (cases_eq t.signal s) [
      | inl same ↦ by_begins same (begins clock t) refl
      | inr apart ↦ inr (back ⊥ (λ a. elim (among_less clock signals k s t at a) [
        | inl old ↦ not old
        | inr new ↦ apart new.1
      ]))
    ]
      where
        by_begins : t.signal ≡ s → (b : Bool) → begins clock t ≡ b → BeginsAmong clock signals (suc k) s ⊎ (BeginsAmong clock signals (suc k) s → ⊥)
        by_begins same true is = inl (subst (λ n. BeginsAmong clock signals n s) (omega arith) (subst (BeginsAmong clock signals (k + 1)) same (among_last clock signals k t at is)))
        by_begins same false is = inr (back ⊥ (λ a. elim (among_less clock signals k s t at a) [
          | inl old ↦ not old
          | inr new ↦ true_false (sym new.0 ∙ is)
        ]))

-- the periods of a signal by place
span_here : (spans : ℕ → List Span) (s : ℕ) (p : Span) (k : ℕ) → k ≡ s → with_span spans s p k ≡ spans k ++ p ∷ []
span_here spans s p k same = ap (λ (b : Bool). if b then spans k ++ p ∷ [] else spans k) (eq-eqb k s same)

span_there : (spans : ℕ → List Span) (s : ℕ) (p : Span) (k : ℕ) → (k ≡ s → ⊥) → with_span spans s p k ≡ spans k
span_there spans s p k apart = ap (λ (b : Bool). if b then spans k ++ p ∷ [] else spans k) (ne_eqb k s apart)

module _ (tables : FlatTablesOf) (clock : ClockAt) (signals : List TracedSignal) where
  pub none_begun : (list : List TrackedOf) (rows : RowsSeen) → TakesBegun tables clock signals 0 list list rows rows
  none_begun list rows traces cells spans samples next h = record {
    now = spans;
    have = record {
      begun = λ j t c below at is here. absurd (omega (arith, below));
      other = λ s not. refl;
    };
    holds = h;
  }

  pub none_started : (list : List TrackedOf) → HaveStarted clock signals 0 list list
  none_started list = record {
    labels = refl;
    here = λ place u at among. absurd (none_among clock signals u.signal among);
    from = λ place u at among. absurd (none_among clock signals u.signal among);
    others = λ place u not at. at;
  }

  module _ (k : ℕ) (t : TracedSignal) (once : AreOnce signals) (at : slice_get signals k ≡ Some t) where
    -- where the period of signal k begins
    pub begun_more : (c : ClusterOf) (first mid last : List TrackedOf) (before between after : RowsSeen) → begins clock t ≡ true → slice_get clock.clusters t.cluster ≡ Some c
        → TakesBegun tables clock signals k first mid before between → TakesPeriod t.signal (span_in tables clock.time c t) mid last between after → TakesBegun tables clock signals (k + 1) first last before after
    begun_more c first mid last before between after is here took period traces cells spans samples next h =
        let b = took traces cells spans samples next h in
        let e : b.now t.signal ≡ spans t.signal = b.have.other t.signal (not_here clock signals k t once at) in
        record {
          now = with_span b.now t.signal (span_in tables clock.time c t);
          have = record {
            begun = λ j u d below there begun cluster. elim (cases_eq u.signal t.signal) [
              | inl same ↦ (
                  let n : j ≡ k = once j k u t there at same in
                  let v : u ≡ t = some_same u t (sym there ∙ ap (slice_get signals) n ∙ at) in
                  let w : d ≡ c = some_same d c (sym cluster ∙ ap (λ (x : TracedSignal). slice_get clock.clusters x.cluster) v ∙ here) in
                  span_here b.now t.signal (span_in tables clock.time c t) u.signal same
                  ∙ ap (λ l. l ++ span_in tables clock.time c t ∷ []) (ap b.now same ∙ e ∙ ap spans (sym same))
                  ∙ ap (λ (x : ClusterOf). spans u.signal ++ span_in tables clock.time x t ∷ []) (sym w)
                  ∙ ap (λ (x : TracedSignal). spans u.signal ++ span_in tables clock.time d x ∷ []) (sym v))
              | inr apart ↦ span_there b.now t.signal (span_in tables clock.time c t) u.signal apart
                  ∙ b.have.begun j u d (lower j u below there apart) there begun cluster
            ];
            other = λ s not.
                span_there b.now t.signal (span_in tables clock.time c t) s (λ same. not (subst (BeginsAmong clock signals (k + 1)) (sym same) (among_last clock signals k t at is)))
                ∙ b.have.other s (λ among. not (among_more clock signals k s among));
          };
          holds = period traces cells b.now samples (subst (λ l. IsChain (l ++ span_in tables clock.time c t ∷ [])) (sym e) (next k t c at is here)) b.holds;
        }
      where
        lower : (j : ℕ) (u : TracedSignal) → j < k + 1 → slice_get signals j ≡ Some u → (u.signal ≡ t.signal → ⊥) → j < k
        lower j u below there apart = elim (cases_eq j k) [
          | inl same ↦ absurd (apart (ap (λ (x : TracedSignal). x.signal) (some_same u t (sym there ∙ ap (slice_get signals) same ∙ at))))
          | inr less ↦ omega (arith, below, less)
        ]

    pub started_more : (first mid last : List TrackedOf) → begins clock t ≡ true → HaveStarted clock signals k first mid → HasStarted t.signal clock.time mid last → HaveStarted clock signals (k + 1) first last
    started_more first mid last is have started = record {
      labels = started.labels ∙ have.labels;
      here = λ place u there among. elim (cases_eq u.signal t.signal) [
        | inl same ↦ started.here place u there same
        | inr apart ↦ (let back = started_back t.signal clock.time mid last place u started apart there in elim (among_less clock signals k u.signal t at among) [
          | inl old ↦ have.here place u back old
          | inr new ↦ absurd (apart (sym new.1))
        ])
      ];
      from = λ place u there among. elim (cases_eq u.signal t.signal) [
        | inl same ↦ started.from place u there same
        | inr apart ↦ (let back = started_back t.signal clock.time mid last place u started apart there in elim (among_less clock signals k u.signal t at among) [
          | inl old ↦ have.from place u back old
          | inr new ↦ absurd (apart (sym new.1))
        ])
      ];
      others = λ place u not there.
          have.others place u (λ among. not (among_more clock signals k u.signal among))
          (started_back t.signal clock.time mid last place u started (λ same. not (subst (BeginsAmong clock signals (k + 1)) (sym same) (among_last clock signals k t at is))) there);
    }

    pub left_more : (mid last : List TrackedOf) → HasStarted t.signal clock.time mid last → ((j : ℕ) (u : TracedSignal) → k ≤ j → slice_get signals j ≡ Some u → begins clock u ≡ true → HasNoneLeft u.signal mid)
        → (j : ℕ) (u : TracedSignal) → k + 1 ≤ j → slice_get signals j ≡ Some u → begins clock u ≡ true → HasNoneLeft u.signal last
    left_more mid last started none j u low there begun place v is same =
        none j u (omega (arith, low)) there begun place v
        (started_back t.signal clock.time mid last place v started (λ e. (let n : j ≡ k = once j k u t there at (sym same ∙ e) in absurd (omega (arith, n, low)))) is) same

    -- where it doesn't
    among_passed : (s : ℕ) → begins clock t ≡ false → BeginsAmong clock signals (k + 1) s → BeginsAmong clock signals k s
    among_passed s is among = elim (among_less clock signals k s t at among) [
      | inl old ↦ old
      | inr new ↦ absurd (true_false (sym new.0 ∙ is))
    ]

    pub begun_passed : (first mid : List TrackedOf) (before between : RowsSeen) → begins clock t ≡ false → TakesBegun tables clock signals k first mid before between → TakesBegun tables clock signals (k + 1) first mid before between
    begun_passed first mid before between is took traces cells spans samples next h = let b = took traces cells spans samples next h in record {
      now = b.now;
      have = record {
        begun = λ j u c below there begun cluster. elim (cases_eq j k) [
          | inl same ↦ absurd (true_false (sym begun ∙ ap (begins clock) (some_same u t (sym there ∙ ap (slice_get signals) same ∙ at)) ∙ is))
          | inr apart ↦ b.have.begun j u c (omega (arith, below, apart)) there begun cluster
        ];
        other = λ s not. b.have.other s (λ among. not (among_more clock signals k s among));
      };
      holds = b.holds;
    }

    pub started_passed : (first mid : List TrackedOf) → begins clock t ≡ false → HaveStarted clock signals k first mid → HaveStarted clock signals (k + 1) first mid
    started_passed first mid is have = record {
      labels = have.labels;
      here = λ place u there among. have.here place u there (among_passed u.signal is among);
      from = λ place u there among. have.from place u there (among_passed u.signal is among);
      others = λ place u not there. have.others place u (λ among. not (among_more clock signals k u.signal among)) there;
    }

-- so far
module _ (tables : FlatTablesOf) (clock : ClockAt) (signals : List TracedSignal) (k : ℕ) (t : TracedSignal) (once : AreOnce signals) (at : slice_get signals k ≡ Some t) where
  pub begins_more : (c : ClusterOf) (old mid new : TrackingOf) (before between after : TraceSeen) → begins clock t ≡ true → slice_get clock.clusters t.cluster ≡ Some c → IsBeginning tables clock signals k old mid before between
      → TakesPeriod t.signal (span_in tables clock.time c t) mid.list new.list between.rows after.rows → HasStarted t.signal clock.time mid.list new.list → new.width ≡ mid.width → after.rows.upto ≡ between.rows.upto → after.stage ≡ between.stage → after.about ≡ between.about
      → IsBeginning tables clock signals (k + 1) old new before after
  begins_more c old mid new before between after is here b took started width upto stage about = record {
    took = begun_more tables clock signals k t once at c old.list mid.list new.list before.rows between.rows after.rows is here b.took took;
    started = started_more tables clock signals k t once at old.list mid.list new.list is b.started started;
    none = left_more tables clock signals k t once at mid.list new.list started b.none;
    width = width ∙ b.width;
    upto = upto ∙ b.upto;
    stage = stage ∙ b.stage;
    about = about ∙ b.about;
  }

  pub begins_passed : (old mid : TrackingOf) (before between : TraceSeen) → begins clock t ≡ false → IsBeginning tables clock signals k old mid before between → IsBeginning tables clock signals (k + 1) old mid before between
  begins_passed old mid before between is b = record {
    took = begun_passed tables clock signals k t once at old.list mid.list before.rows between.rows is b.took;
    started = started_passed tables clock signals k t once at old.list mid.list is b.started;
    none = λ j u low there begun. b.none j u (omega (arith, low)) there begun;
    width = b.width;
    upto = b.upto;
    stage = b.stage;
    about = b.about;
  }

-- no period that begins is before rows that are written
pub begun_since : (clock : ClockAt) (signals : List TracedSignal) (k upto : ℕ) (old new : List TrackedOf) → upto ≤ clock.time → HaveStarted clock signals k old new → AreSince upto old → AreSince upto new
begun_since clock signals k upto old new low have since place u at more = elim (is_among clock signals k u.signal) [
  | inl among ↦ (let e : clock.time ≤ u.stamps.time = have.from place u at among in omega (arith, e, low))
  | inr not ↦ since place u (have.others place u not at) more
]
