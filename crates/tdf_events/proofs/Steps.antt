-- One delta step as a whole.
use Rattle.std.proofs.Common.{◌≡◌, ℕ, zero, suc, ◌+◌, ◌<◌, ◌⊎◌, ◌||◌, Bool, true, false, List, [], ◌∷◌, Option, Some, None, map, replicate, length, slice_get, slice_index_or, unwrap_or, refl, ap, sym, ◌∙◌, subst, inl, inr, arith}
use Rattle.std.specs.List.{list_any}
use Rattle.std.proofs.lemmas.Bool.{cases_Bool, cases_lt, true≢false}
use Rattle.std.proofs.lemmas.List.{ext_get_or, get_or-replicate, get_or_past, length-map, length-replicate}
use Rattle.std.proofs.lemmas.Option.{get_or_from_slice_get, same_Some, slice_get-get_or, slice_get_within}
use Rattle.tdf_events_queue.specs.Lists.{list_at}
use Rattle.tdf_events_queue.specs.Sets.{SetOf, is_on}
use Rattle.tdf_events.proofs.Reading.{has_at}
use Rattle.tdf_events.proofs.Updates.{updated_at, updated_long}
use Rattle.tdf_events.specs.Delta.{after_update, signal_changes, flags_from, is_next, updated}
use Rattle.tdf_events.specs.Kernel.{AreSensitive, IsKernelOf, KernelOf, side_of}
use Rattle.tdf_events.specs.Notices.{NoticesOf}
use Rattle.tdf_events.specs.Runnable.{AreOfSignals, signal_formats}
use Rattle.tdf_events.specs.Side.{SideOf, value_at}
use Rattle.tdf_events.specs.machine.Updating.{AreAllReached, does_change}
use Rattle.tdf_expr.specs.Frames.{IsOfFormat}
use Rattle.tdf_fixed.specs.declared.format.Format.{Format}
use Rattle.tdf_fixed.specs.declared.raw.Raw.{Raw}
use Rattle.tdf_bind.specs.declared.model.Flat.{Flat}
use Rattle.tdf_expr_state.specs.State.{FrameState}
use Rattle.tdf_bind_connections.specs.ProcessBlocks.{ProcessRowOf}

abbrev nothing : Option Raw
nothing = None

pub any_there : (test : ℕ → Bool) (xs : List ℕ) (j s : ℕ) → slice_get xs j ≡ Some s → test s ≡ true → list_any test xs ≡ true
any_there test [] j s at on = absurd cc
any_there test (x ∷ xs) zero s at on = ap (λ b. b || list_any test xs) (ap test (same_Some x s at) ∙ on)
any_there test (x ∷ xs) (suc j) s at on = ap (λ b. test x || b) (any_there test xs j s at on) ∙ either (test x)
  where
    either : (b : Bool) → (b || true) ≡ true
    either true = refl
    either false = refl

pub any_place : (test : ℕ → Bool) (xs : List ℕ) → list_any test xs ≡ true → (j : ℕ) × (s : ℕ) × (slice_get xs j ≡ Some s) × (test s ≡ true)
any_place test [] on = absurd (true≢false (sym on))
any_place test (x ∷ xs) on = elim (cases_Bool (test x)) [
  | inl yes_x ↦ (0, x, refl, yes_x)
  | inr no_x ↦ (let w = any_place test xs (sym (ap (λ b. b || list_any test xs) no_x) ∙ on) in (suc w.0, w.1, w.2, w.3))
]

pub flags_at : (f : ℕ → ProcessRowOf → Bool) (n k : ℕ) (rows : List ProcessRowOf) (row : ProcessRowOf) → slice_get rows k ≡ Some row → is_on (flags_from f n rows) k ≡ f (n + k) row
unfolding flags_from
flags_at f n k [] row at = absurd cc
flags_at f n zero (r ∷ rows) row at = let e : n ≡ n + 0 = omega arith in ap (f n) (same_Some r row at) ∙ ap (λ m. f m row) e
flags_at f n (suc k) (r ∷ rows) row at = let e : n + 1 + k ≡ n + suc k = omega arith in flags_at f (n + 1) k rows row at ∙ ap (λ m. f m row) e

pub flags_long : (f : ℕ → ProcessRowOf → Bool) (n : ℕ) (rows : List ProcessRowOf) → length (flags_from f n rows) ≡ length rows
unfolding flags_from
flags_long f n [] = refl
flags_long f n (r ∷ rows) = ap suc (flags_long f (n + 1) rows)

pub same_bool : (a b : Bool) → (a ≡ true → b ≡ true) → (b ≡ true → a ≡ true) → a ≡ b
same_bool true b to back = sym (to refl)
same_bool false true to back = back refl
same_bool false false to back = refl

pub or_left : (a b : Bool) → a ≡ true → (a || b) ≡ true
or_left a b h = ap (λ x. x || b) h

pub or_right : (a b : Bool) → b ≡ true → (a || b) ≡ true
or_right true b h = refl
or_right false b h = h

pub or_either : (a b : Bool) → (a || b) ≡ true → (a ≡ true) ⊎ (b ≡ true)
or_either true b h = inl refl
or_either false b h = inr h

-- the processes that the lists trigger are those that the definition triggers
pub next_flags : (flat : Flat) (k : KernelOf) (cleared mid new : List Bool) → IsKernelOf flat k → cleared ≡ replicate (length k.triggered.flags) false
    → AreAllReached k.by_signal (does_change k.values k.waiting) cleared mid → AreAllReached k.by_event (is_on k.notices.delta) mid new
    → new ≡ flags_from (λ n row. is_next (side_of k) row) 0 flat.tables.processes
next_flags flat k cleared mid new kernel clear signals events = ext_get_or false new (flags_from next 0 rows) (long ∙ sym (flags_long next 0 rows))
    (λ p less. (let row = has_at rows p (omega (arith, less, long)) in same_bool (is_on new p) (is_next (side_of k) row.0) (to p row.0 row.1) (back p row.0 row.1) ∙ sym (flags_at next 0 p rows row.0 row.1)))
  where
    rows : List ProcessRowOf
    rows = flat.tables.processes

    next : ℕ → ProcessRowOf → Bool
    next n row = is_next (side_of k) row

    long : length new ≡ length rows
    long = events.same ∙ signals.same ∙ ap length clear ∙ length-replicate {A = Bool} (length k.triggered.flags) false ∙ kernel.triggered

    off : (p : ℕ) → is_on cleared p ≡ false
    off p = ap (λ xs. is_on xs p) clear ∙ elim (cases_lt p (length k.triggered.flags)) [
      | inl less ↦ get_or-replicate (length k.triggered.flags) p false false less
      | inr past ↦ get_or_past (replicate (length k.triggered.flags) false) p false (let l = length-replicate {A = Bool} (length k.triggered.flags) false in omega (arith, l, past))
    ]

    to : (p : ℕ) (row : ProcessRowOf) → slice_get rows p ≡ Some row → is_on new p ≡ true → is_next (side_of k) row ≡ true
    to p row at on = elim (events.only p on) [
      | inl was ↦ elim (signals.only p was) [
        | inl before ↦ absurd (true≢false (sym before ∙ off p))
        | inr by ↦ (let w = kernel.by_signal.only by.number by.index p by.member in
            or_left (list_any (signal_changes (side_of k)) row.signals) (list_any (is_on k.notices.delta) row.events)
            (any_there (signal_changes (side_of k)) row.signals w.2 by.number (ap (λ (r : ProcessRowOf). slice_get r.signals w.2) (same_Some row w.0 (sym at ∙ w.1)) ∙ w.3) by.passes))
      ]
      | inr by ↦ (let w = kernel.by_event.only by.number by.index p by.member in
          or_right (list_any (signal_changes (side_of k)) row.signals) (list_any (is_on k.notices.delta) row.events)
          (any_there (is_on k.notices.delta) row.events w.2 by.number (ap (λ (r : ProcessRowOf). slice_get r.events w.2) (same_Some row w.0 (sym at ∙ w.1)) ∙ w.3) by.passes))
    ]

    back : (p : ℕ) (row : ProcessRowOf) → slice_get rows p ≡ Some row → is_next (side_of k) row ≡ true → is_on new p ≡ true
    back p row at on = elim (or_either (list_any (signal_changes (side_of k)) row.signals) (list_any (is_on k.notices.delta) row.events) on) [
      | inl one ↦ (let w = any_place (signal_changes (side_of k)) row.signals one in let l = kernel.by_signal.all p w.0 w.1 row (slice_get_within rows p row at) at w.2 in
          events.kept p (signals.set w.1 l.0 p w.3 l.1))
      | inr other ↦ (let w = any_place (is_on k.notices.delta) row.events other in let l = kernel.by_event.all p w.0 w.1 row (slice_get_within rows p row at) at w.2 in
          events.set w.1 l.0 p w.3 l.1)
    ]

-- each listed process is one of the model
pub listed_below : (numbers : ProcessRowOf → List ℕ) (rows : List ProcessRowOf) (n : ℕ) (lists : List (List ℕ)) → AreSensitive numbers rows n lists → (s j p : ℕ) → slice_get (list_at lists s) j ≡ Some p → p < length rows
listed_below numbers rows n lists are s j p at = let w = are.only s j p at in slice_get_within rows p w.0 w.1

pub updated_formats : (flat : Flat) (k : KernelOf) → IsKernelOf flat k → AreOfSignals (signal_formats flat) (updated k.values k.waiting)
updated_formats flat k kernel = record {
  long = updated_long k.values k.waiting ∙ kernel.values.long;
  each = λ n f v is at. (let less : n < length k.values = (let l = slice_get_within (updated k.values k.waiting) n v at in let e = updated_long k.values k.waiting in omega (arith, l, e)) in
      subst (λ (x : Raw). IsOfFormat f x) (sym (updated_at k.values k.waiting n less) ∙ get_or_from_slice_get (updated k.values k.waiting) n v _ at) (one n f is less (slice_index_or k.waiting n None) refl));
}
  where
    one : (n : ℕ) (f : Format) → slice_get (signal_formats flat) n ≡ Some f → n < length k.values → (o : Option Raw) → slice_index_or k.waiting n None ≡ o → IsOfFormat f (unwrap_or o (value_at k.values n))
    one n f is less None there = kernel.values.each n f (value_at k.values n) is (slice_get-get_or k.values n _ less)
    one n f is less (Some v) there = kernel.formats n f v is (elim (cases_lt n (length k.waiting)) [
      | inl inside ↦ slice_get-get_or k.waiting n None inside ∙ ap Some there
      | inr past ↦ absurd (nothing_past v (sym (get_or_past k.waiting n None past) ∙ there))
    ])
      where
        nothing_past : (v : Raw) → None ≡ Some v → ⊥
        nothing_past v h = absurd cc

pub stepped_kernel : (flat : Flat) (k : KernelOf) (values : List Raw) (notices : NoticesOf) (triggered : SetOf) (waiting : List (Option Raw)) → IsKernelOf flat k → values ≡ updated k.values k.waiting
    → notices ≡ record k.notices { delta = map (λ on. false) k.notices.delta } → length triggered.flags ≡ length flat.tables.processes → waiting ≡ map (λ value. None) k.waiting
    → IsKernelOf flat (record k { values = values; notices = notices; triggered = triggered; waiting = waiting })
stepped_kernel flat k values notices triggered waiting kernel v n t w = record {
  values = subst (λ xs. AreOfSignals (signal_formats flat) xs) (sym v) (updated_formats flat k kernel);
  frames = kernel.frames;
  ports = kernel.ports;
  made = kernel.made;
  times = ap (λ (x : NoticesOf). length x.times) n ∙ kernel.times;
  triggered = t;
  waiting = ap length w ∙ length-map k.waiting (λ value. None) ∙ kernel.waiting;
  formats = λ i f x is at. absurd (gone k.waiting i x (ap (λ (xs : List (Option Raw)). slice_get xs i) (sym w) ∙ at));
  signal_lists = kernel.signal_lists;
  event_lists = kernel.event_lists;
  by_signal = kernel.by_signal;
  by_event = kernel.by_event;
  own_lists = kernel.own_lists;
  own = kernel.own;
  going = kernel.going;
}
  where
    gone : (xs : List (Option Raw)) (i : ℕ) (x : Raw) → slice_get (map (λ (value : Option Raw). nothing) xs) i ≡ Some (Some x) → ⊥
    gone [] i x h = absurd cc
    gone (y ∷ ys) zero x h = absurd cc
    gone (y ∷ ys) (suc i) x h = gone ys i x h

abbrev with : List Raw → List FrameState → NoticesOf → List Bool → List (Option Raw) → SideOf
with values frames notices triggered waiting = record { values = values; frames = frames; notices = notices; triggered = triggered; waiting = waiting }

pub stepped_side : (flat : Flat) (k : KernelOf) (values : List Raw) (notices : NoticesOf) (flags : List Bool) (waiting : List (Option Raw)) → values ≡ updated k.values k.waiting
    → notices ≡ record k.notices { delta = map (λ on. false) k.notices.delta } → flags ≡ flags_from (λ n row. is_next (side_of k) row) 0 flat.tables.processes → waiting ≡ map (λ value. None) k.waiting
    → record { values = values; frames = (side_of k).frames; notices = notices; triggered = flags; waiting = waiting } ≡ after_update flat (side_of k)
stepped_side flat k values notices flags waiting v n f w = ap (λ x. with x (side_of k).frames notices flags waiting) v
    ∙ ap (λ x. with (updated k.values k.waiting) (side_of k).frames x flags waiting) n
    ∙ ap (λ x. with (updated k.values k.waiting) (side_of k).frames (record k.notices { delta = map (λ on. false) k.notices.delta }) x waiting) f
    ∙ ap (λ x. with (updated k.values k.waiting) (side_of k).frames (record k.notices { delta = map (λ on. false) k.notices.delta }) (flags_from (λ n row. is_next (side_of k) row) 0 flat.tables.processes) x) w
