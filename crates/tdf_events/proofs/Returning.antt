-- What goes on from a state has this state.
use Rattle.std.proofs.Common.{◌≡◌, ◌≢◌, ◌∙◌, ◌<◌, ◌≤◌, ◌+◌, ℕ, zero, suc, ℤ, if◌then◌else◌, List, [], ◌∷◌, ◌++◌, Option, Some, None, length, map, slice_get, refl, sym, ap, subst, inl, inr, arith}
use Rattle.std.proofs.lemmas.Bool.{cases_eq, eq-eqb, ne_eqb}
use Rattle.std.proofs.lemmas.List.{length-map}
use Rattle.std.proofs.lemmas.List.FromFn.{get_or-map-range_with_len, length-map-range_with_len}
use Rattle.std.proofs.lemmas.Option.{same_Some}
use Rattle.std.specs.List.{flat_map, range_with_len, zip}
use Rattle.tdf_bind.specs.declared.model.Flat.{Flat}
use Rattle.tdf_bind_connections.specs.ProcessBlocks.{BlockRowOf}
use Rattle.tdf_events.proofs.Onward.{saved}
use Rattle.tdf_events.proofs.Resumed.{rises_to}
use Rattle.tdf_events.proofs.Times.{AreOfOthers, first_is_apart, none_in, rest_come}
use Rattle.tdf_events.specs.Runnable.{signal_formats}
use Rattle.tdf_events.specs.State.{ArePendingFrom, IsKernelState, frame_with, kernel_state_of, notification_of, notifications, resumed_side, time_pending, times_pending, value_in}
use Rattle.tdf_events_queue.specs.Times.{pending_time}
use Rattle.tdf_expr.specs.Plans.{shape_written}
use Rattle.tdf_expr.specs.declared.checked.Checked.{Checked}
use Rattle.tdf_expr_state.specs.State.{FrameState}
use Rattle.tdf_fixed.specs.declared.format.Format.{Format}
use Rattle.tdf_fixed.specs.declared.raw.Raw.{Raw}
use Rattle.tdf_saved.specs.State.{KernelStateOf}
use Rattle.tdf_saved.specs.declared.state.Pending.{Pending}

values_kept : (formats : List Format) (nums : List ℤ) → length nums ≡ length formats → map (λ (v : Raw). v.num) (map (λ (v : Format × ℤ). value_in v.0 v.1) (zip formats nums)) ≡ nums
values_kept [] [] same = refl
values_kept [] (n ∷ ns) same = absurd (omega (arith, same))
values_kept (f ∷ fs) [] same = absurd (omega (arith, same))
values_kept (f ∷ fs) (n ∷ ns) same = ap (λ xs. n ∷ xs) (values_kept fs ns (omega (arith, same)))

cells_kept : (checked : Checked) (rows : List BlockRowOf) (blocks : List (List ℤ)) → length blocks ≡ length rows
    → map (λ (f : FrameState). f.cells) (map (λ (b : BlockRowOf × List ℤ). frame_with checked b.0 b.1) (zip rows blocks)) ≡ blocks
cells_kept checked [] [] same = refl
cells_kept checked [] (b ∷ bs) same = absurd (omega (arith, same))
cells_kept checked (r ∷ rs) [] same = absurd (omega (arith, same))
cells_kept checked (r ∷ rs) (b ∷ bs) same = ap (λ xs. b ∷ xs) (cells_kept checked rs bs (omega (arith, same)))

-- ---- notifications

-- what is pending of an event has its time
own_time : (events time : ℕ) (list : List Pending) (i : ℕ) (p : Pending) → ArePendingFrom events time list → slice_get list i ≡ Some p → time_pending list p.event ≡ Some p.time
unfolding time_pending
own_time events time [] i p all at = absurd cc
own_time events time (q ∷ qs) zero p all at =
    let here : q ≡ p = same_Some q p at in
    subst (λ (x : Pending). time_pending (q ∷ qs) x.event ≡ Some x.time) here (ap (λ b. if b then Some q.time else time_pending qs q.event) (eq-eqb q.event q.event refl))
own_time events time (q ∷ qs) (suc i) p all at =
    let apart : q.event ≢ p.event = (λ same. absurd (first_is_apart events time q qs all i p at (sym same))) in
    ap (λ b. if b then Some q.time else time_pending qs p.event) (ne_eqb q.event p.event apart) ∙ own_time events time qs i p (rest_come events time q qs all) at

inside_at : (events : ℕ) (list : List Pending) (k : ℕ) → k < events → pending_time (times_pending events list) k ≡ time_pending list k
inside_at events list k less = get_or-map-range_with_len (time_pending list) 0 events k k None less (omega arith)

-- these are the times from an event on
record AreTimesFrom (times : ℕ → Option ℕ) (from : ℕ) (list : List Pending) : Type 0 where
  pub own : (i : ℕ) (p : Pending) → slice_get list i ≡ Some p → times p.event ≡ Some p.time
  pub none : (event : ℕ) → from ≤ event → AreOfOthers list event → times event ≡ None
  pub low : (i : ℕ) (p : Pending) → slice_get list i ≡ Some p → from ≤ p.event

abbrev told_from : (times : ℕ → Option ℕ) (from count : ℕ) → List Pending
told_from times from count = flat_map (λ event. notification_of event (times event)) (range_with_len from count)

also : (p : Pending) (ps : List Pending) (event : ℕ) → p.event ≢ event → AreOfOthers ps event → AreOfOthers (p ∷ ps) event
also p ps event apart others zero q at = subst (λ (x : Pending). x.event ≢ event) (same_Some p q at) apart
also p ps event apart others (suc i) q at = others i q at

higher : (events time from : ℕ) (p : Pending) (ps : List Pending) → ArePendingFrom events time (p ∷ ps) → from + 1 ≤ p.event → (i : ℕ) (q : Pending) → slice_get (p ∷ ps) i ≡ Some q
    → from + 1 ≤ q.event
higher events time from p ps all low zero q at = subst (λ (x : Pending). from + 1 ≤ x.event) (same_Some p q at) low
higher events time from p ps all low (suc i) q at = let less = rises_to events time (p ∷ ps) all 0 (suc i) p q (omega arith) refl at in omega (arith, less, low)

told : (events time : ℕ) (times : ℕ → Option ℕ) (count from : ℕ) (list : List Pending) → events ≡ from + count → ArePendingFrom events time list → AreTimesFrom times from list
    → told_from times from count ≡ list
told events time times zero from [] end all are = refl
told events time times zero from (p ∷ ps) end all are = absurd (let inside = (all.each 0 p refl).event in let low = are.low 0 p refl in omega (arith, inside, low, end))
told events time times (suc n) from [] end all are =
    ap (λ t. notification_of from t ++ told_from times (from + 1) n) (are.none from (omega arith) (λ i p at. absurd cc))
    ∙ told events time times n (from + 1) [] (omega (arith, end)) all (record {
      own = are.own;
      none = λ event up apart. are.none event (omega (arith, up)) apart;
      low = λ i p at. absurd cc;
    })
told events time times (suc n) from (p ∷ ps) end all are = elim (cases_eq p.event from) [
  | inl same ↦ ap (λ t. notification_of from t ++ told_from times (from + 1) n) (ap times (sym same) ∙ are.own 0 p refl)
      ∙ ap (λ e. record { event = e; time = p.time } ∷ told_from times (from + 1) n) (sym same)
      ∙ ap (λ l. p ∷ l) (told events time times n (from + 1) ps (omega (arith, end)) (rest_come events time p ps all) (record {
        own = λ i q at. are.own (suc i) q at;
        none = λ event up apart. are.none event (omega (arith, up)) (also p ps event (λ e. absurd (omega (arith, e, same, up))) apart);
        low = λ i q at. (let less = rises_to events time (p ∷ ps) all 0 (suc i) p q (omega arith) refl at in omega (arith, less, same));
      }))
  | inr apart ↦ (let low = are.low 0 p refl in
      ap (λ t. notification_of from t ++ told_from times (from + 1) n) (are.none from (omega arith)
      (also p ps from apart (λ i q at e. absurd (let less = rises_to events time (p ∷ ps) all 0 (suc i) p q (omega arith) refl at in omega (arith, less, low, e)))))
      ∙ told events time times n (from + 1) (p ∷ ps) (omega (arith, end)) all (record {
        own = are.own;
        none = λ event up others. are.none event (omega (arith, up)) others;
        low = higher events time from p ps all (omega (arith, low, apart));
      }))
]

told_same : (f g : ℕ → Option ℕ) (count from : ℕ) → ((k : ℕ) → k < from + count → f k ≡ g k) → told_from f from count ≡ told_from g from count
told_same f g zero from same = refl
told_same f g (suc n) from same = ap (λ t. notification_of from t ++ told_from f (from + 1) n) (same from (omega arith))
    ∙ ap (λ l. notification_of from (g from) ++ l) (told_same f g n (from + 1) (λ k less. same k (omega (arith, less))))

pub state_kept : (flat : Flat) (time : ℕ) (s : KernelStateOf) → IsKernelState flat time s → kernel_state_of (resumed_side flat time s) ≡ s
state_kept flat time s is =
    let n = length flat.tables.events in
    let list = times_pending n s.pending in
    let times : ℕ → Option ℕ = time_pending s.pending in
    let long : length list ≡ n = length-map-range_with_len times 0 n in
    let are : AreTimesFrom times 0 s.pending = record {
      own = λ i p at. own_time n time s.pending i p is.pending at;
      none = λ event up apart. none_in s.pending event apart;
      low = λ i p at. omega arith;
    } in
    let pending : notifications list ≡ s.pending = ap (told_from (pending_time list) 0) long ∙ told_same (pending_time list) times n 0 (λ k less. inside_at n s.pending k (omega (arith, less)))
    ∙ told n time times n 0 s.pending (omega arith) is.pending are in
    ap (λ x. saved x (kernel_state_of (resumed_side flat time s)).blocks (notifications list)) (values_kept (signal_formats flat) s.values (is.values.long ∙ length-map (signal_formats flat) shape_written))
    ∙ ap (λ x. saved s.values x (notifications list)) (cells_kept flat.checked flat.tables.blocks s.blocks is.blocks.long)
    ∙ ap (λ x. saved s.values s.blocks x) pending
