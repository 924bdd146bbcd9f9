-- The beginning of an instant as a whole.
use Rattle.std.proofs.Common.{◌≡◌, ℕ, suc, ◌+◌, ◌||◌, Bool, true, false, if◌then◌else◌, List, [], ◌∷◌, Option, Some, None, map, length, slice_get, slice_set, refl, ap, sym, ◌∙◌, subst, inl, inr, arith}
use Rattle.std.specs.List.{list_any}
use Rattle.std.proofs.lemmas.Bool.{cases_eq}
use Rattle.std.proofs.lemmas.List.{ext_get_or, length-map}
use Rattle.std.proofs.lemmas.Option.{same_Some, slice_get_within}
use Rattle.tdf_events_queue.specs.Sets.{SetOf, is_on}
use Rattle.tdf_convert.specs.declared.writes.SignalWrite.{SignalWrite}
use Rattle.tdf_events.proofs.Evaluated.{elsewhere, there_is}
use Rattle.tdf_events.proofs.Reading.{has_at}
use Rattle.tdf_events.proofs.Steps.{any_place, any_there, flags_at, flags_long, or_either, or_left, or_right, same_bool}
use Rattle.tdf_events.proofs.Writing.{sinks_same}
use Rattle.tdf_events.specs.Delta.{AreWritesOf, begun, flags_from, is_due, waiting_with}
use Rattle.tdf_events.specs.Kernel.{IsKernelOf, KernelOf, side_of}
use Rattle.tdf_events.specs.Notices.{NoticesOf}
use Rattle.tdf_events.specs.Runnable.{signal_formats}
use Rattle.tdf_events.specs.Side.{SideOf}
use Rattle.tdf_events.specs.machine.Due.{comes}
use Rattle.tdf_events.specs.machine.Updating.{AreAllReached}
use Rattle.tdf_expr.specs.Frames.{IsOfFormat}
use Rattle.tdf_fixed.specs.declared.format.Format.{Format}
use Rattle.tdf_fixed.specs.declared.raw.Raw.{Raw}
use Rattle.tdf_bind.specs.declared.model.Flat.{Flat}
use Rattle.tdf_bind_connections.specs.ProcessBlocks.{ProcessRowOf}

-- whether a process is triggered when the notifications of a time have come
abbrev pub is_begun : (time : ℕ) → KernelOf → ℕ → ProcessRowOf → Bool
is_begun time k n row = is_on k.triggered.flags n || list_any (comes time k.notices.times) row.events

pub due_flags : (flat : Flat) (time : ℕ) (k : KernelOf) (new : List Bool) → IsKernelOf flat k → AreAllReached k.by_event (comes time k.notices.times) k.triggered.flags new
    → new ≡ flags_from (is_begun time k) 0 flat.tables.processes
due_flags flat time k new kernel events = ext_get_or false new (flags_from (is_begun time k) 0 rows) (long ∙ sym (flags_long (is_begun time k) 0 rows))
    (λ p less. (let row = has_at rows p (omega (arith, less, long)) in same_bool (is_on new p) (is_begun time k p row.0) (to p row.0 row.1) (back p row.0 row.1) ∙ ap (λ m. is_begun time k m row.0) (from_zero p) ∙ sym (flags_at (is_begun time k) 0 p rows row.0 row.1)))
  where
    rows : List ProcessRowOf
    rows = flat.tables.processes

    long : length new ≡ length rows
    long = events.same ∙ kernel.triggered

    from_zero : (n : ℕ) → n ≡ 0 + n
    from_zero n = omega arith

    to : (p : ℕ) (row : ProcessRowOf) → slice_get rows p ≡ Some row → is_on new p ≡ true → is_begun time k p row ≡ true
    to p row at on = elim (events.only p on) [
      | inl was ↦ or_left (is_on k.triggered.flags p) (list_any (comes time k.notices.times) row.events) was
      | inr by ↦ (let w = kernel.by_event.only by.number by.index p by.member in
          or_right (is_on k.triggered.flags p) (list_any (comes time k.notices.times) row.events)
          (any_there (comes time k.notices.times) row.events w.2 by.number (ap (λ (r : ProcessRowOf). slice_get r.events w.2) (same_Some row w.0 (sym at ∙ w.1)) ∙ w.3) by.passes))
    ]

    back : (p : ℕ) (row : ProcessRowOf) → slice_get rows p ≡ Some row → is_begun time k p row ≡ true → is_on new p ≡ true
    back p row at on = elim (or_either (is_on k.triggered.flags p) (list_any (comes time k.notices.times) row.events) on) [
      | inl was ↦ events.kept p was
      | inr other ↦ (let w = any_place (comes time k.notices.times) row.events other in let l = kernel.by_event.all p w.0 w.1 row (slice_get_within rows p row at) at w.2 in
          events.set w.1 l.0 p w.3 l.1)
    ]

-- each value that waits is of its signal's format
abbrev AreFormats : List Format → List (Option Raw) → Type 0
AreFormats formats waiting = (n : ℕ) (f : Format) (v : Raw) → slice_get formats n ≡ Some f → slice_get waiting n ≡ Some (Some v) → IsOfFormat f v

put_formats : (formats : List Format) (waiting : List (Option Raw)) (s : ℕ) (x : Raw) (g : Format) → AreFormats formats waiting → slice_get formats s ≡ Some g → IsOfFormat g x
    → AreFormats formats (slice_set waiting s (Some x))
put_formats formats waiting s x g before there of n f v is at = elim (cases_eq n s) [
  | inl same ↦ subst (λ (y : Raw). IsOfFormat f y) (there_is waiting s n x v same at) (subst (λ (h : Format). IsOfFormat h x) (same_Some g f (sym there ∙ ap (slice_get formats) (sym same) ∙ is)) of)
  | inr apart ↦ before n f v is (elsewhere waiting s n (Some x) (Some v) apart at)
]

sinks_formats : (formats : List Format) (writes : List SignalWrite) (waiting : List (Option Raw)) → AreWritesOf formats writes → AreFormats formats waiting → AreFormats formats (waiting_with writes waiting)
unfolding waiting_with
sinks_formats formats [] waiting are before = before
sinks_formats formats (w ∷ writes) waiting are before = let first = are.each 0 w refl in
    sinks_formats formats writes (slice_set waiting w.signal (Some w.value)) (record { each = λ i x at. are.each (suc i) x at }) (put_formats formats waiting w.signal w.value first.0 before first.1 first.2)

abbrev pub gone_at : (time : ℕ) → NoticesOf → NoticesOf
gone_at time n = record n { times = map (λ pending. if is_due time pending then None else pending) n.times }

pub begun_kernel : (flat : Flat) (time : ℕ) (k : KernelOf) (writes : List SignalWrite) (notices : NoticesOf) (triggered : SetOf) (waiting : List (Option Raw)) → IsKernelOf flat k
    → AreWritesOf (signal_formats flat) writes → notices ≡ gone_at time k.notices → length triggered.flags ≡ length flat.tables.processes → waiting ≡ waiting_with writes k.waiting
    → IsKernelOf flat (record k { notices = notices; triggered = triggered; waiting = waiting })
begun_kernel flat time k writes notices triggered waiting kernel are n t w = record {
  values = kernel.values;
  frames = kernel.frames;
  ports = kernel.ports;
  made = kernel.made;
  times = ap (λ (x : NoticesOf). length x.times) n ∙ length-map k.notices.times (λ pending. if is_due time pending then None else pending) ∙ kernel.times;
  triggered = t;
  waiting = ap length w ∙ sinks_same writes k.waiting ∙ kernel.waiting;
  formats = λ i f x is at. sinks_formats (signal_formats flat) writes k.waiting are kernel.formats i f x is (ap (λ (xs : List (Option Raw)). slice_get xs i) (sym w) ∙ at);
  signal_lists = kernel.signal_lists;
  event_lists = kernel.event_lists;
  by_signal = kernel.by_signal;
  by_event = kernel.by_event;
  own_lists = kernel.own_lists;
  own = kernel.own;
  going = kernel.going;
}

abbrev with : KernelOf → NoticesOf → List Bool → List (Option Raw) → SideOf
with k notices triggered waiting = record { values = k.values; frames = (side_of k).frames; notices = notices; triggered = triggered; waiting = waiting }

pub begun_side : (flat : Flat) (time : ℕ) (k : KernelOf) (writes : List SignalWrite) (notices : NoticesOf) (flags : List Bool) (waiting : List (Option Raw)) → notices ≡ gone_at time k.notices
    → flags ≡ flags_from (is_begun time k) 0 flat.tables.processes → waiting ≡ waiting_with writes k.waiting → with k notices flags waiting ≡ begun flat time writes (side_of k)
begun_side flat time k writes notices flags waiting n f w = ap (λ x. with k x flags waiting) n
    ∙ ap (λ x. with k (gone_at time k.notices) x waiting) f
    ∙ ap (λ x. with k (gone_at time k.notices) (flags_from (is_begun time k) 0 flat.tables.processes) x) w
