-- The event side that goes on from the state of one between two instants is that one.
use Rattle.std.proofs.Common.{◌≡◌, ◌≢◌, ◌∙◌, ℕ, zero, suc, ◌+◌, ◌<◌, ◌≤◌, ◌&&◌, not, Bool, true, false, if◌then◌else◌, cond, nat_eq, List, [], ◌∷◌, ◌++◌, Option, Some, None, map, replicate, length, slice_get, slice_index_or, refl, ap, sym, inl, inr, arith}
use Rattle.std.proofs.lemmas.Bool.{cases_eq, cases_lt, eq-eqb, eqb-true, ne_eqb, or_from}
use Rattle.std.proofs.lemmas.List.FromFn.{length-map-range_with_len}
use Rattle.std.proofs.lemmas.List.Sums.{sum_by-cons}
use Rattle.std.proofs.lemmas.Option.{get_or_from_slice_get, slice_get_within}
use Rattle.std.specs.List.{flat_map, list_any, range_with_len, zip}
use Rattle.tdf_bind.specs.declared.model.Flat.{Flat}
use Rattle.tdf_bind_connections.specs.ProcessBlocks.{BlockRowOf, ProcessRowOf}
use Rattle.tdf_events.specs.Delta.{is_due, is_idle}
use Rattle.tdf_events.specs.Laws.{HasNothingWaiting}
use Rattle.tdf_events.specs.Runnable.{AreOfSignals, signal_formats}
use Rattle.tdf_events.specs.Side.{SideOf}
use Rattle.tdf_events.specs.State.{frame_with, kernel_state_of, notification_of, notifications, resumed_side, time_pending, times_pending, value_in}
use Rattle.tdf_events_queue.specs.Sets.{count_on}
use Rattle.tdf_events_queue.specs.Times.{pending_time}
use Rattle.tdf_expr.specs.Made.{start_rates}
use Rattle.tdf_expr.specs.declared.checked.Checked.{Checked}
use Rattle.tdf_expr_state.specs.State.{FrameState}
use Rattle.tdf_fixed.specs.declared.format.Format.{Format}
use Rattle.tdf_fixed.specs.declared.raw.Raw.{Raw}
use Rattle.tdf_saved.specs.declared.state.Pending.{Pending}
use Rattle.tdf_sim_history.specs.Rules.{is_side_due}
use Rattle.tdf_sim_resumed.specs.Snapshot.{IsSideBefore}
use Rattle.tdf_sim_split.proofs.Calm.{IsSteadySide}
use Rattle.tdf_streams.proofs.Api.{get_made_at, some_same}

-- ---- lists

same_items : {A : Type 0} (xs ys : List A) → length xs ≡ length ys → ((j : ℕ) (x y : A) → slice_get xs j ≡ Some x → slice_get ys j ≡ Some y → x ≡ y) → xs ≡ ys
same_items [] [] long same = refl
same_items [] (y ∷ ys) long same = absurd (omega (arith, long))
same_items (x ∷ xs) [] long same = absurd (omega (arith, long))
same_items (x ∷ xs) (y ∷ ys) long same = rw (same 0 x y refl refl, same_items xs ys (omega (arith, long)) (λ j a b at there. same (suc j) a b at there)) refl

-- a list with one value at all places
all_one : {A : Type 0} (d : A) (n : ℕ) (xs : List A) → length xs ≡ n → ((i : ℕ) → slice_index_or xs i d ≡ d) → replicate n d ≡ xs
all_one d zero [] long each = refl
all_one d zero (x ∷ xs) long each = absurd (omega (arith, long))
all_one d (suc n) [] long each = absurd (omega (arith, long))
all_one d (suc n) (x ∷ xs) long each = λ i. sym (each 0) i ∷ all_one d n xs (omega (arith, long)) (λ j. each (suc j)) i

-- ---- values and instances

values_again : (formats : List Format) (values : List Raw) → AreOfSignals formats values → map (λ v. value_in v.0 v.1) (zip formats (map (λ (value : Raw). value.num) values)) ≡ values
values_again [] [] are = refl
values_again [] (v ∷ values) are = absurd (let l = are.long in omega (arith, l))
values_again (f ∷ formats) [] are = absurd (let l = are.long in omega (arith, l))
values_again (f ∷ formats) (v ∷ values) are =
    λ i. record { num = v.num; frac = sym (are.each 0 f v refl refl).frac i } ∷ values_again formats values (record { long = (let l = are.long in omega (arith, l)); each = λ n g u at there. are.each (suc n) g u at there }) i

frames_again : (checked : Checked) (rows : List BlockRowOf) (frames : List FrameState) → length frames ≡ length rows
    → ((n : ℕ) (row : BlockRowOf) (f : FrameState) → slice_get rows n ≡ Some row → slice_get frames n ≡ Some f → f.rates ≡ start_rates checked row.block)
    → map (λ b. frame_with checked b.0 b.1) (zip rows (map (λ (frame : FrameState). frame.cells) frames)) ≡ frames
frames_again checked [] [] long rates = refl
frames_again checked [] (f ∷ frames) long rates = absurd (omega (arith, long))
frames_again checked (row ∷ rows) [] long rates = absurd (omega (arith, long))
frames_again checked (row ∷ rows) (f ∷ frames) long rates =
    λ i. record { cells = f.cells; rates = sym (rates 0 row f refl refl) i } ∷ frames_again checked rows frames (omega (arith, long)) (λ n r g at there. rates (suc n) r g at there) i

-- ---- notifications

module _ (f : ℕ → Option ℕ) where
  abbrev listed : (a n : ℕ) → List Pending
  listed a n = flat_map (λ event. notification_of event (f event)) (range_with_len a n)

  none_before : (a n event : ℕ) → event < a → time_pending (listed a n) event ≡ None
  unfolding time_pending
  none_before a zero event low = refl
  none_before a (suc n) event low = go (f a) (none_before (a + 1) n event (omega (arith, low)))
    where
      go : (o : Option ℕ) → time_pending (listed (a + 1) n) event ≡ None → time_pending (notification_of a o ++ listed (a + 1) n) event ≡ None
      go None rest = rest
      go (Some t) rest = ap (λ b. if b then Some t else time_pending (listed (a + 1) n) event) (ne_eqb a event (λ e. omega (arith, e, low))) ∙ rest

  here : (a n event : ℕ) → a ≡ event → (o : Option ℕ) → time_pending (listed (a + 1) n) event ≡ None → time_pending (notification_of a o ++ listed (a + 1) n) event ≡ o
  unfolding time_pending
  here a n event same None rest = rest
  here a n event same (Some t) rest = ap (λ b. if b then Some t else time_pending (listed (a + 1) n) event) (eq-eqb a event same)

  later : (a n event : ℕ) → a ≢ event → (o : Option ℕ) → time_pending (listed (a + 1) n) event ≡ f event → time_pending (notification_of a o ++ listed (a + 1) n) event ≡ f event
  unfolding time_pending
  later a n event apart None rest = rest
  later a n event apart (Some t) rest = ap (λ b. if b then Some t else time_pending (listed (a + 1) n) event) (ne_eqb a event apart) ∙ rest

  found : (a n event : ℕ) → a ≤ event → event < a + n → time_pending (listed a n) event ≡ f event
  found a zero event low high = absurd (omega (arith, low, high))
  found a (suc n) event low high = elim (cases_eq a event) [
    | inl same ↦ here a n event same (f a) (none_before (a + 1) n event (omega (arith, same))) ∙ ap f same
    | inr apart ↦ later a n event apart (f a) (found (a + 1) n event (omega (arith, low, apart)) (omega (arith, high)))
  ]

times_again : (count : ℕ) (times : List (Option ℕ)) → length times ≡ count → times_pending count (notifications times) ≡ times
times_again count times long = same_items (times_pending count (notifications times)) times (length-map-range_with_len (time_pending (notifications times)) 0 count ∙ sym long) (λ j x y x_at y_at. (
    let below : j < length times = slice_get_within times j y y_at in
    let z : 0 + j ≡ j = omega arith in
    let here : slice_get (times_pending count (notifications times)) j ≡ Some (time_pending (notifications times) (0 + j)) = get_made_at (time_pending (notifications times)) 0 count j (omega (arith, below, long)) in
    some_same x (time_pending (notifications times) (0 + j)) (sym x_at ∙ here) ∙ ap (time_pending (notifications times)) z
    ∙ found (pending_time times) 0 (length times) j (omega arith) (omega (arith, below)) ∙ get_or_from_slice_get times j y None y_at))

-- ---- processes

none_on : (flags : List Bool) → count_on flags ≡ 0 → (i : ℕ) → slice_index_or flags i false ≡ false
none_on [] none i = refl
none_on (true ∷ flags) none i = absurd (let s : count_on (true ∷ flags) ≡ 1 + count_on flags = sum_by-cons (λ on. cond {A = ℕ} on 1 0) true flags in omega (arith, s, none))
none_on (false ∷ flags) none zero = refl
none_on (false ∷ flags) none (suc i) = none_on flags (let s : count_on (false ∷ flags) ≡ 0 + count_on flags = sum_by-cons (λ on. cond {A = ℕ} on 1 0) false flags in omega (arith, s, none)) i

off_later : (time : ℕ) (rows : List ProcessRowOf) → 0 < time → map (λ (row : ProcessRowOf). nat_eq time 0 && row.starts) rows ≡ replicate (length rows) false
off_later time [] late = refl
off_later time (row ∷ rows) late = λ i. (ne_eqb time 0 (λ e. omega (arith, e, late)) i && row.starts) ∷ off_later time rows late i

on_first : (time : ℕ) (rows : List ProcessRowOf) → time ≡ 0 → map (λ (row : ProcessRowOf). nat_eq time 0 && row.starts) rows ≡ map (λ (row : ProcessRowOf). row.starts) rows
on_first time [] first = refl
on_first time (row ∷ rows) first = λ i. (eq-eqb time 0 first i && row.starts) ∷ on_first time rows first i

triggered_again : (time : ℕ) (rows : List ProcessRowOf) (flags : List Bool) → length flags ≡ length rows → (0 < time → count_on flags ≡ 0) → (time ≡ 0 → flags ≡ map (λ (row : ProcessRowOf). row.starts) rows)
    → map (λ (row : ProcessRowOf). nat_eq time 0 && row.starts) rows ≡ flags
triggered_again time rows flags long idle first = elim (cases_lt 0 time) [
  | inl late ↦ off_later time rows late ∙ all_one false (length rows) flags long (none_on flags (idle late))
  | inr early ↦ (let z : time ≡ 0 = omega (arith, early) in on_first time rows z ∙ sym (first z))
]

-- ---- all of it

pub side_again : (flat : Flat) (time bound : ℕ) (side : SideOf) → IsSideBefore flat time side → HasNothingWaiting side → IsSteadySide flat bound side
    → (time ≡ 0 → side.triggered ≡ map (λ (row : ProcessRowOf). row.starts) flat.tables.processes) → resumed_side flat time (kernel_state_of side) ≡ side
side_again flat time bound side before waiting steady first = λ i. record {
  values = values_again (signal_formats flat) side.values before.values i;
  frames = frames_again flat.checked flat.tables.blocks side.frames before.frames steady.rates i;
  notices = record {
    times = times_again (length flat.tables.events) side.notices.times before.times i;
    delta = all_one false (length flat.tables.events) side.notices.delta steady.delta waiting.delta i;
  };
  triggered = triggered_again time flat.tables.processes side.triggered before.triggered (λ late. eqb-true (count_on side.triggered) 0 (before.idle late)) first i;
  waiting = all_one None (length flat.tables.de_signals) side.waiting before.waiting waiting.values i;
}

-- ---- and nothing is due on it before its time

none_listed : (t : ℕ) (times : List (Option ℕ)) → ((event pending : ℕ) → pending_time times event ≡ Some pending → t < pending) → list_any (is_due t) times ≡ false
none_listed t [] later = refl
none_listed t (None ∷ times) later = none_listed t times (λ event pending at. later (suc event) pending at)
none_listed t (Some x ∷ times) later = or_from (nat_eq x t) (list_any (is_due t) times) (ne_eqb x t (λ e. let l = later 0 x refl in omega (arith, e, l))) (none_listed t times (λ event pending at. later (suc event) pending at))

pub none_on_side : (t : ℕ) (side : SideOf) → is_idle side ≡ true → ((event pending : ℕ) → pending_time side.notices.times event ≡ Some pending → t < pending) → is_side_due side t ≡ false
none_on_side t side idle later = or_from (not (is_idle side)) (list_any (is_due t) side.notices.times) (ap not idle) (none_listed t side.notices.times later)
