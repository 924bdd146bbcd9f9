-- What happens to all traced signals.
use Rattle.std.proofs.Common.{◌≡◌, ℕ, zero, suc, ◌+◌, ◌<◌, ◌≤◌, Bool, true, false, nat_eq, not, ◌&&◌, if◌then◌else◌, Option, Some, None, List, [], ◌∷◌, ◌++◌, length, slice_get, slice_set, refl, ap, sym, ◌∙◌, subst, inl, inr, arith, append_assoc, append-nil}
use Rattle.std.proofs.lemmas.Bool.{cases_eq, eq-eqb, ne_eqb}
use Rattle.std.proofs.lemmas.List.{length-map}
use Rattle.std.proofs.lemmas.Option.{slice_get_within}
use Rattle.tdf_trace.proofs.ColumnPlaces.{Here, There, alike, replaced, set_map, set_other, some_same}
use Rattle.tdf_trace.proofs.Showings.{same_signal}
use Rattle.tdf_trace.specs.Calls.{HasStarted, Holds, StandBelow, TakesPeriod, TakesSamples, with_span, with_traced}
use Rattle.tdf_trace.specs.Tracked.{AreLater, Label, TrackedOf, label, labels, samples_traced, AreSince}
use Rattle.tdf_trace.specs.Tracks.{IsChain, Tracks, cells_by, known_by, known_cell}
use Rattle.tdf_trace.specs.Traces.{IsTrackingOf, is_among, shows_signal, sample_or, with_signal_samples}
use Rattle.tdf_trace.specs.machine.Finding.{Finds, found}
use Rattle.tdf_trace.specs.machine.Going.{NotesTo}
use Rattle.tdf_trace.specs.machine.Showing.{NotesOne, OneHolds, TakesOne, TakesOnePeriod, with_signal}
use Rattle.tdf_convert.specs.declared.outputs.Traced.{Traced}
use Rattle.tdf_fixed.specs.declared.raw.Raw.{Raw}
use Rattle.tdf_trace_rows.specs.Positions.{Span, cell_of}
use Rattle.tdf_trace_rows.specs.Rows.{Cells}
use Rattle.tdf_trace.proofs.Alike.{stands_alike}
use Rattle.tdf_trace.specs.Stands.{RowsSeen, Stands}
use Rattle.tdf_bind_connections.specs.declared.traces.TraceRow.{TraceRow}

-- the cell of a column by two functions
sample_same : (o : Option TraceRow) (f h : ℕ → Option (Option Raw)) (other : Option (Option Raw)) → ((row : TraceRow) → o ≡ Some row → row.event ≡ false → f row.signal ≡ h row.signal) → sample_or o f other ≡ sample_or o h other
sample_same None f h other same = refl
sample_same (Some row) f h other same = go row.event refl
  where
    go : (e : Bool) → row.event ≡ e → (if e then other else f row.signal) ≡ (if e then other else h row.signal)
    go true is = refl
    go false is = same row refl is

-- the cell of a column, where one signal's cells were put apart
pick_row : (o : Option TraceRow) (s : ℕ) (a other : Option (Option Raw)) (f h : ℕ → Option (Option Raw)) → a ≡ h s → ((k : ℕ) → (k ≡ s → ⊥) → f k ≡ h k) → (if shows_signal o s then a else sample_or o f other) ≡ sample_or o h other
pick_row None s a other f h here there = refl
pick_row (Some row) s a other f h here there = go row.event row.signal
  where
    go : (e : Bool) (n : ℕ) → (if not e && nat_eq n s then a else (if e then other else f n)) ≡ (if e then other else h n)
    go true n = refl
    go false n = elim (cases_eq n s) [
      | inl same ↦ rw (eq-eqb n s same) (here ∙ ap h (sym same))
      | inr apart ↦ rw (ne_eqb n s apart) (there n apart)
    ]

-- the cells of one signal apart from all
out_of : (traces : List TraceRow) (cells : Cells) (list : List TrackedOf) (of : IsTrackingOf traces list) (i : ℕ) (t : TrackedOf) (f : ℕ → ℕ → Option (Option Raw)) (rows : RowsSeen) → slice_get list i ≡ Some t
    → Stands (with_signal_samples traces cells f) rows → Stands (with_signal t.columns (with_signal_samples traces cells f) (f t.signal)) rows
out_of traces cells list of i t f rows at stands = stands_alike (with_signal_samples traces cells f) (with_signal t.columns (with_signal_samples traces cells f) (f t.signal)) rows
    (λ below. record {
      columns = refl;
      first = λ c less. refl;
      cells = λ c s inside low. sym (
          ap (λ (p : Bool). if p then f t.signal s else sample_or (slice_get traces c) (λ k. f k s) (cells.at c s)) (of.columns i t at c)
          ∙ pick_row (slice_get traces c) t.signal (f t.signal s) (cells.at c s) (λ k. f k s) (λ k. f k s) refl (λ k apart. refl));
    })
    stands

-- and back
into : (traces : List TraceRow) (cells : Cells) (list : List TrackedOf) (of : IsTrackingOf traces list) (i : ℕ) (t : TrackedOf) (a : ℕ → Option (Option Raw)) (f h : ℕ → ℕ → Option (Option Raw)) (rows : RowsSeen) → slice_get list i ≡ Some t
    → ((time : ℕ) → a time ≡ h t.signal time) → ((k time : ℕ) → (k ≡ t.signal → ⊥) → f k time ≡ h k time)
    → Stands (with_signal t.columns (with_signal_samples traces cells f) a) rows → Stands (with_signal_samples traces cells h) rows
into traces cells list of i t a f h rows at here there stands = stands_alike (with_signal t.columns (with_signal_samples traces cells f) a) (with_signal_samples traces cells h) rows
    (λ below. record {
      columns = refl;
      first = λ c less. refl;
      cells = λ c s inside low.
          ap (λ (p : Bool). if p then a s else sample_or (slice_get traces c) (λ k. f k s) (cells.at c s)) (of.columns i t at c)
          ∙ pick_row (slice_get traces c) t.signal (a s) (cells.at c s) (λ k. f k s) (λ k. h k s) (here s) (λ k apart. there k s apart);
    })
    stands

-- a signal with the same columns
pub label_of : (t u : TrackedOf) → label u ≡ label t → (u.signal ≡ t.signal) × (u.columns ≡ t.columns)
label_of t u same = (ap (λ (l : Label). l.signal) same, ap (λ (l : Label). l.columns) same)

-- the same signals with the same columns
pub of_kept : (traces : List TraceRow) (old new : List TrackedOf) → labels new ≡ labels old → IsTrackingOf traces old → IsTrackingOf traces new
of_kept traces old new same of = record {
  once = λ i j t u at au e. (let x = alike label new old i t same at in let y = alike label new old j u same au in
      of.once i j x.0 y.0 x.1 y.1 ((label_of t x.0 x.2).0 ∙ e ∙ sym (label_of u y.0 y.2).0));
  columns = λ i t at c. (let x = alike label new old i t same at in let l = label_of t x.0 x.2 in
      ap (λ cs. is_among cs c) (sym l.1) ∙ of.columns i x.0 x.1 c ∙ ap (shows_signal (slice_get traces c)) l.0);
  all = λ c row at is. (let w = of.all c row at is in let x = alike label old new w.place w.it (sym same) w.there in
      record { place = w.place; it = x.0; there = x.1; same = (label_of w.it x.0 x.2).0 ∙ w.same });
}

known_same : (spans other : ℕ → List Span) (samples more : ℕ → List Raw) (s time : ℕ) → other s ≡ spans s → more s ≡ samples s → known_by spans samples s time ≡ known_by other more s time
known_same spans other samples more s time e f = ap (λ xs. known_cell (cell_of xs (samples s) time)) (sym e) ∙ ap (λ ys. known_cell (cell_of (other s) ys time)) (sym f)

-- periods and samples that are the same for all that are tracked
pub holds_same : (traces : List TraceRow) (cells : Cells) (spans other : ℕ → List Span) (samples more : ℕ → List Raw) (list : List TrackedOf) (rows : RowsSeen)
    → ((i : ℕ) (t : TrackedOf) → slice_get list i ≡ Some t → other t.signal ≡ spans t.signal) → ((i : ℕ) (t : TrackedOf) → slice_get list i ≡ Some t → more t.signal ≡ samples t.signal)
    → Holds traces cells spans samples list rows → Holds traces cells other more list rows
holds_same traces cells spans other samples more list rows e f h = record {
  of = h.of;
  tracked = λ i t at. subst (λ xs. Tracks xs (more t.signal) t) (sym (e i t at)) (subst (λ ys. Tracks (spans t.signal) ys t) (sym (f i t at)) (h.tracked i t at));
  stands = stands_alike (with_signal_samples traces cells (known_by spans samples)) (with_signal_samples traces cells (known_by other more)) rows
      (λ below. record {
        columns = refl;
        first = λ c less. refl;
        cells = λ c s inside low.
            sample_same (slice_get traces c) (λ k. known_by spans samples k s) (λ k. known_by other more k s) (cells.at c s)
            (λ row at is. (let w = h.of.all c row at is in
            ap (λ k. known_by spans samples k s) (sym w.same) ∙ known_same spans other samples more w.it.signal s (e w.place w.it w.there) (f w.place w.it w.there) ∙ ap (λ k. known_by other more k s) w.same));
      })
      h.stands;
}

-- one signal's part has changed
pub holds_set : (traces : List TraceRow) (cells : Cells) (spans other : ℕ → List Span) (samples more : ℕ → List Raw) (list : List TrackedOf) (place : ℕ) (t u : TrackedOf) (before after : RowsSeen)
    → slice_get list place ≡ Some t → label u ≡ label t
    → (OneHolds (spans t.signal) (samples t.signal) (with_signal_samples traces cells (known_by spans samples)) t before
    → OneHolds (other t.signal) (more t.signal) (with_signal_samples traces cells (known_by spans samples)) u after)
    → ((s : ℕ) → (s ≡ t.signal → ⊥) → other s ≡ spans s) → ((s : ℕ) → (s ≡ t.signal → ⊥) → more s ≡ samples s)
    → Holds traces cells spans samples list before → Holds traces cells other more (slice_set list place u) after
holds_set traces cells spans other samples more list place t u before after at same step e f h =
    let l = label_of t u same in
    let one : OneHolds (other t.signal) (more t.signal) (with_signal_samples traces cells (known_by spans samples)) u after =
    step (record { tracked = h.tracked place t at; stands = out_of traces cells list h.of place t (known_by spans samples) before at h.stands }) in
    record {
      of = of_kept traces list (slice_set list place u) (set_map label list place u t at same) h.of;
      tracked = λ j w aw. elim (replaced list place u t j w at aw) [
        | Here where_ is ↦ subst (λ (v : TrackedOf). Tracks (other v.signal) (more v.signal) v) (sym is) (subst (λ n. Tracks (other n) (more n) u) (sym l.0) one.tracked)
        | There apart old ↦ (let differs = λ (k : w.signal ≡ t.signal). apart (h.of.once j place w t old at k) in
            subst (λ xs. Tracks xs (more w.signal) w) (sym (e w.signal differs)) (subst (λ ys. Tracks (spans w.signal) ys w) (sym (f w.signal differs)) (h.tracked j w old)))
      ];
      stands = into traces cells list h.of place t (known_by other more t.signal) (known_by spans samples) (known_by other more) after at (λ time. refl)
          (λ k time apart. known_same spans other samples more k time (e k apart) (f k apart))
          (subst (λ cs. Stands (with_signal cs (with_signal_samples traces cells (known_by spans samples)) (known_by other more t.signal)) after) l.1 one.stands);
    }

-- the samples of a list with one more
pub samples_append : (s : ℕ) (xs ys : List Traced) → samples_traced s (xs ++ ys) ≡ samples_traced s xs ++ samples_traced s ys
unfolding samples_traced
samples_append s [] ys = refl
samples_append s (x ∷ xs) ys = elim (cases_eq x.signal s) [
  | inl same ↦ rw (eq-eqb x.signal s same) (ap (λ zs. x.value ∷ zs) (samples_append s xs ys))
  | inr apart ↦ rw (ne_eqb x.signal s apart) (samples_append s xs ys)
]

sample_here : (samples : ℕ → List Raw) (x : Traced) (s : ℕ) → x.signal ≡ s → with_traced samples (x ∷ []) s ≡ samples s ++ x.value ∷ []
unfolding samples_traced
sample_here samples x s same = rw (eq-eqb x.signal s same) refl

sample_other : (samples : ℕ → List Raw) (x : Traced) (s : ℕ) → (x.signal ≡ s → ⊥) → with_traced samples (x ∷ []) s ≡ samples s
unfolding samples_traced
sample_other samples x s apart = rw (ne_eqb x.signal s apart) (append-nil (samples s))

none_traced : (samples : ℕ → List Raw) (s : ℕ) → with_traced samples [] s ≡ samples s
unfolding samples_traced
none_traced samples s = append-nil (samples s)

-- a sample of a signal that is tracked, and of one that isn't
pub sample_taken : (x : Traced) (list : List TrackedOf) (place : ℕ) (t u : TrackedOf) (before after : RowsSeen) → slice_get list place ≡ Some t → t.signal ≡ x.signal → label u ≡ label t
    → TakesOne x.value t u before after → TakesSamples (x ∷ []) list (slice_set list place u) before after
sample_taken x list place t u before after at is same one traces cells spans samples h =
    holds_set traces cells spans spans samples (with_traced samples (x ∷ [])) list place t u before after at same
    (λ k. subst (λ ys. OneHolds (spans t.signal) ys (with_signal_samples traces cells (known_by spans samples)) u after) (sym (sample_here samples x t.signal (sym is)))
    (one (spans t.signal) (samples t.signal) (with_signal_samples traces cells (known_by spans samples)) k))
    (λ s apart. refl) (λ s apart. sample_other samples x s (λ e. apart (sym e ∙ sym is))) h

pub sample_passed : (x : Traced) (list : List TrackedOf) (rows : RowsSeen) → ((i : ℕ) (t : TrackedOf) → slice_get list i ≡ Some t → t.signal ≡ x.signal → ⊥) → TakesSamples (x ∷ []) list list rows rows
sample_passed x list rows none traces cells spans samples h =
    holds_same traces cells spans spans samples (with_traced samples (x ∷ [])) list rows (λ i t at. refl) (λ i t at. sample_other samples x t.signal (λ e. none i t at (sym e))) h

pub none_given : (list : List TrackedOf) (rows : RowsSeen) → TakesSamples [] list list rows rows
none_given list rows traces cells spans samples h = holds_same traces cells spans spans samples (with_traced samples []) list rows (λ i t at. refl) (λ i t at. none_traced samples t.signal) h

pub more_given : (xs : List Traced) (x : Traced) (a b d : List TrackedOf) (p q r : RowsSeen) → TakesSamples xs a b p q → TakesSamples (x ∷ []) b d q r → TakesSamples (xs ++ x ∷ []) a d p r
more_given xs x a b d p q r first next traces cells spans samples h =
    holds_same traces cells spans spans (with_traced (with_traced samples xs) (x ∷ [])) (with_traced samples (xs ++ x ∷ [])) d r (λ i t at. refl)
    (λ i t at. ap (λ ys. samples t.signal ++ ys) (samples_append t.signal xs (x ∷ [])) ∙ sym (append_assoc (samples t.signal) (samples_traced t.signal xs) (samples_traced t.signal (x ∷ []))))
    (next traces cells spans (with_traced samples xs) (first traces cells spans samples h))

-- a period of a signal that is tracked, and of one that isn't
pub period_taken : (signal : ℕ) (span : Span) (list : List TrackedOf) (place : ℕ) (t u : TrackedOf) (before after : RowsSeen) → slice_get list place ≡ Some t → t.signal ≡ signal → label u ≡ label t
    → TakesOnePeriod span t u before after → TakesPeriod signal span list (slice_set list place u) before after
period_taken signal span list place t u before after at is same one traces cells spans samples chained h =
    holds_set traces cells spans (with_span spans signal span) samples samples list place t u before after at same
    (λ k. subst (λ xs. OneHolds xs (samples t.signal) (with_signal_samples traces cells (known_by spans samples)) u after) (sym here)
    (one (spans t.signal) (samples t.signal) (with_signal_samples traces cells (known_by spans samples)) (subst (λ n. IsChain (spans n ++ span ∷ [])) (sym is) chained) k))
    (λ s apart. other s apart) (λ s apart. refl) h
  where
    here : with_span spans signal span t.signal ≡ spans t.signal ++ span ∷ []
    here = rw (eq-eqb t.signal signal is) refl

    other : (s : ℕ) → (s ≡ t.signal → ⊥) → with_span spans signal span s ≡ spans s
    other s apart = rw (ne_eqb s signal (λ e. apart (e ∙ sym is))) refl

pub period_passed : (signal : ℕ) (span : Span) (list : List TrackedOf) (rows : RowsSeen) → ((i : ℕ) (t : TrackedOf) → slice_get list i ≡ Some t → t.signal ≡ signal → ⊥) → TakesPeriod signal span list list rows rows
period_passed signal span list rows none traces cells spans samples chained h =
    holds_same traces cells spans (with_span spans signal span) samples samples list rows (λ i t at. rw (ne_eqb t.signal signal (none i t at)) refl) (λ i t at. refl) h

-- the cells of one signal more below an end
pub none_noted : (end : ℕ) (list : List TrackedOf) (rows : RowsSeen) → NotesTo 0 end list rows rows
none_noted end list rows traces cells spans samples h = record {
  of = known_by spans samples;
  stand = h.stands;
  noted = λ i t less at time low. absurd (omega (arith, less));
  others = λ i t from at time. refl;
}

pub more_noted : (k end : ℕ) (list : List TrackedOf) (t : TrackedOf) (first before after : RowsSeen) → slice_get list k ≡ Some t → NotesOne end t before after → NotesTo k end list first before → NotesTo (k + 1) end list first after
more_noted k end list t first before after at one notes traces cells spans samples h =
    let n = notes traces cells spans samples h in
    let g = with_signal_samples traces cells n.of in
    let held : OneHolds (spans t.signal) (samples t.signal) (with_signal_samples traces cells n.of) t before = record {
      tracked = h.tracked k t at;
      stands = shown t (n.of t.signal) (known_by spans samples t.signal) (with_signal_samples traces cells n.of) before (n.others k t (omega arith) at)
          (out_of traces cells list h.of k t n.of before at n.stand);
    } in
    let d = one (spans t.signal) (samples t.signal) (with_signal_samples traces cells n.of) held in record {
      of = λ s. if nat_eq s t.signal then d.of else n.of s;
      stand = into traces cells list h.of k t d.of n.of (λ s. if nat_eq s t.signal then d.of else n.of s) after at (λ time. ap (λ (f : ℕ → Option (Option Raw)). f time) (sym (chosen t.signal t.signal d.of (n.of t.signal) refl)))
          (λ s time apart. ap (λ (f : ℕ → Option (Option Raw)). f time) (sym (left s t.signal d.of (n.of s) apart))) d.stand;
      noted = λ j w less aw time low. elim (cases_eq j k) [
        | inl same ↦ (let e : w ≡ t = some_same w t (sym aw ∙ ap (slice_get list) same ∙ at) in
            subst (λ (v : TrackedOf). (if nat_eq v.signal t.signal then d.of else n.of v.signal) time ≡ cells_by spans samples v.signal time) (sym e)
            (ap (λ (f : ℕ → Option (Option Raw)). f time) (chosen t.signal t.signal d.of (n.of t.signal) refl) ∙ d.agree time low))
        | inr apart ↦ (let differs = λ (s : w.signal ≡ t.signal). apart (h.of.once j k w t aw at s) in
            ap (λ (f : ℕ → Option (Option Raw)). f time) (left w.signal t.signal d.of (n.of w.signal) differs) ∙ n.noted j w (omega (arith, less, apart)) aw time low)
      ];
      others = λ j w from aw time. (let differs = λ (s : w.signal ≡ t.signal). (let z : j ≡ k = h.of.once j k w t aw at s in absurd (omega (arith, z, from))) in
          ap (λ (f : ℕ → Option (Option Raw)). f time) (left w.signal t.signal d.of (n.of w.signal) differs) ∙ n.others j w (omega (arith, from)) aw time);
    }
  where
    chosen : (a b : ℕ) (f g : ℕ → Option (Option Raw)) → a ≡ b → (if nat_eq a b then f else g) ≡ f
    chosen a b f g same = rw (eq-eqb a b same) refl

    left : (a b : ℕ) (f g : ℕ → Option (Option Raw)) → (a ≡ b → ⊥) → (if nat_eq a b then f else g) ≡ g
    left a b f g apart = rw (ne_eqb a b apart) refl

    shown : (v : TrackedOf) (f g : ℕ → Option (Option Raw)) (cs : Cells) (rows : RowsSeen) → ((time : ℕ) → f time ≡ g time) → Stands (with_signal v.columns cs f) rows → Stands (with_signal v.columns cs g) rows
    shown v f g cs rows same stands = same_signal v.columns cs f g rows same stands

pub all_noted : (k end : ℕ) (list : List TrackedOf) (before after : RowsSeen) → length list ≤ k → NotesTo k end list before after
    → (traces : List TraceRow) (cells : Cells) (spans : ℕ → List Span) (samples : ℕ → List Raw) → Holds traces cells spans samples list before → StandBelow (with_signal_samples traces cells (cells_by spans samples)) end after
all_noted k end list before after past notes traces cells spans samples h =
    let n = notes traces cells spans samples h in record {
      noted = with_signal_samples traces cells n.of;
      stand = n.stand;
      agree = record {
        columns = refl;
        first = λ c less. refl;
        cells = λ c s inside low.
            sample_same (slice_get traces c) (λ i. n.of i s) (λ i. cells_by spans samples i s) (cells.at c s)
            (λ row at is. (let w = h.of.all c row at is in
            let l : w.place < length list = slice_get_within list w.place w.it w.there in
            ap (λ i. n.of i s) (sym w.same) ∙ n.noted w.place w.it (omega (arith, l, past)) w.there s low ∙ ap (λ i. cells_by spans samples i s) w.same));
      };
    }

-- a signal with the same start, and no more positions left
pub since_set : (upto : ℕ) (list : List TrackedOf) (place : ℕ) (t u : TrackedOf) → slice_get list place ≡ Some t → t.stamps.time ≤ u.stamps.time → u.stamps.left ≤ t.stamps.left → AreSince upto list → AreSince upto (slice_set list place u)
since_set upto list place t u at same less since i v iv more = elim (replaced list place u t i v at iv) [
  | Here here k ↦ (
      let l : v.stamps.left ≡ u.stamps.left = ap (λ (x : TrackedOf). x.stamps.left) k in
      let s : v.stamps.time ≡ u.stamps.time = ap (λ (x : TrackedOf). x.stamps.time) k in
      let low = since place t at (omega (arith, more, l, less)) in omega (arith, low, s, same))
  | There apart old ↦ since i v old more
]

-- the times of next positions don't fall
pub later_self : (list : List TrackedOf) → AreLater list list
later_self list place t u at to = let e : t ≡ u = some_same t u (sym at ∙ to) in
    (let s = ap (λ (x : TrackedOf). x.stamps.time) e in omega (arith, s), let l = ap (λ (x : TrackedOf). x.stamps.left) e in omega (arith, l))

pub later_set : (list : List TrackedOf) (place : ℕ) (t u : TrackedOf) → slice_get list place ≡ Some t → t.stamps.time ≤ u.stamps.time → u.stamps.left ≤ t.stamps.left → AreLater list (slice_set list place u)
later_set list place t u at time left i x v ix iv = elim (replaced list place u t i v at iv) [
  | Here here k ↦ (
      let o : x ≡ t = some_same x t (sym ix ∙ ap (slice_get list) here ∙ at) in
      let a = ap (λ (y : TrackedOf). y.stamps.time) o in let b = ap (λ (y : TrackedOf). y.stamps.left) o in
      let s = ap (λ (y : TrackedOf). y.stamps.time) k in let l = ap (λ (y : TrackedOf). y.stamps.left) k in
      (omega (arith, a, s, time), omega (arith, b, l, left)))
  | There apart old ↦ later_self list i x v ix old
]

pub labels_long : (old new : List TrackedOf) → labels new ≡ labels old → length new ≡ length old
labels_long old new same = sym (length-map new label) ∙ ap length same ∙ length-map old label

item_inside : {A : Type 0} (xs : List A) (i : ℕ) → i < length xs → (x : A) × (slice_get xs i ≡ Some x)
item_inside [] i low = absurd (omega (arith, low))
item_inside (x ∷ xs) zero low = (x, refl)
item_inside (x ∷ xs) (suc i) low = item_inside xs i (omega (arith, low))

pub later_then : (a b c : List TrackedOf) → length c ≡ length b → AreLater a b → AreLater b c → AreLater a c
later_then a b c long one other i x v ix iv =
    let y = item_inside b i (let w = slice_get_within c i v iv in omega (arith, w, long)) in
    let p = one i x y.0 ix y.1 in let q = other i y.0 v y.1 iv in
    (let u = p.0 in let w = q.0 in omega (arith, u, w), let u = p.1 in let w = q.1 in omega (arith, u, w))

-- the start of a period
pub has_started : (signal start : ℕ) (places : List (Option ℕ)) (list : List TrackedOf) (place : ℕ) (t u : TrackedOf) → Finds places list → slice_get list place ≡ Some t → t.signal ≡ signal → label u ≡ label t → u.since ≡ start → start ≤ u.stamps.time
    → HasStarted signal start list (slice_set list place u)
has_started signal start places list place t u finds at is same since late = record {
  labels = set_map label list place u t at same;
  here = λ j w aw e. elim (replaced list place u t j w at aw) [
    | Here where_ k ↦ ap (λ (v : TrackedOf). v.since) k ∙ since
    | There apart old ↦ absurd (apart (one_place j w old e))
  ];
  from = λ j w aw e. elim (replaced list place u t j w at aw) [
    | Here where_ k ↦ subst (λ (v : TrackedOf). start ≤ v.stamps.time) (sym k) late
    | There apart old ↦ absurd (apart (one_place j w old e))
  ];
  others = λ j w differs aw. set_other list place j u (λ e. differs (ap (λ (v : TrackedOf). v.signal) (some_same w t (sym aw ∙ ap (slice_get list) e ∙ at)) ∙ is)) ∙ aw;
}
  where
    one_place : (j : ℕ) (w : TrackedOf) → slice_get list j ≡ Some w → w.signal ≡ signal → j ≡ place
    one_place j w aw e = some_same j place (sym (finds.back j w aw) ∙ ap (found places) (e ∙ sym is) ∙ finds.back place t at)
