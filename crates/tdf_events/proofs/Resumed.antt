-- A kernel that goes on from a state.
use Rattle.std.proofs.Common.{◌≡◌, ◌≢◌, ◌∙◌, ◌<◌, ◌+◌, ◌-◌, ℕ, zero, suc, ℤ, List, [], ◌∷◌, ◌++◌, Option, Some, None, length, map, take, append-nil, slice_get, slice_set, length-set, length-append, get_or-set_other, refl, sym, ap, subst, inl, inr, arith}
use Rattle.std.proofs.lemmas.Bool.{cases_lt}
use Rattle.std.proofs.lemmas.Grind.{flat_map-append}
use Rattle.std.proofs.lemmas.List.{ext_get_or, length-map, take_all, take_more}
use Rattle.std.proofs.lemmas.Option.{get_or_from_slice_get, same_Some, slice_get-map, slice_get_within}
use Rattle.std.proofs.lemmas.Slice.Zip.{length-zip}
use Rattle.std.specs.List.{flat_map, range_with_len, zip}
use Rattle.std.specs.Option.{option_map}
use Rattle.std.specs.Prelude.{pos}
use Rattle.tdf_events_queue.specs.Times.{pending_time}
use Rattle.tdf_events.proofs.Reading.{has_at}
use Rattle.tdf_events.proofs.Tables.{pushed}
use Rattle.tdf_events.specs.Notices.{NoticesOf}
use Rattle.tdf_events.specs.State.{ArePendingFrom, notification_of, value_in}
use Rattle.tdf_events.specs.machine.Resuming.{AreValuesIn, HaveCells, with_cells, with_pending}
use Rattle.tdf_expr.specs.Frames.{FrameSeen}
use Rattle.tdf_expr_state.specs.State.{cell_at}
use Rattle.tdf_fixed.specs.declared.format.Format.{Format}
use Rattle.tdf_fixed.specs.declared.raw.Raw.{Raw}
use Rattle.tdf_saved.specs.declared.state.Pending.{Pending}

-- ---- places of a list

set_here : {X : Type 0} (xs : List X) (i : ℕ) (x : X) → i < length xs → slice_get (slice_set xs i x) i ≡ Some x
set_here [] i x less = absurd (omega (arith, less))
set_here (y ∷ xs) zero x less = refl
set_here (y ∷ xs) (suc i) x less = set_here xs i x (omega (arith, less))

set_else : {X : Type 0} (xs : List X) (i k : ℕ) (x : X) → k ≢ i → slice_get (slice_set xs i x) k ≡ slice_get xs k
set_else [] i k x apart = refl
set_else (y ∷ xs) zero zero x apart = absurd (apart refl)
set_else (y ∷ xs) zero (suc k) x apart = refl
set_else (y ∷ xs) (suc i) zero x apart = refl
set_else (y ∷ xs) (suc i) (suc k) x apart = set_else xs i k x (λ e. apart (ap suc e))

zip_at : {A : Type 0} (xs : List A) (nums : List ℤ) (k : ℕ) (x : A) → slice_get xs k ≡ Some x → k < length nums → slice_get (zip xs nums) k ≡ Some (x, cell_at nums k)
zip_at [] nums k x at within = absurd cc
zip_at (y ∷ xs) [] k x at within = absurd (omega (arith, within))
zip_at (y ∷ xs) (n ∷ nums) zero x at within = ap (option_map (λ z. (z, n))) at
zip_at (y ∷ xs) (n ∷ nums) (suc k) x at within = zip_at xs nums k x at (omega (arith, within))

-- ---- values

-- one value more
pub values_more : (formats : List Format) (nums : List ℤ) (n : ℕ) (f : Format) (value : Raw) (mid new : List Raw) → slice_get formats n ≡ Some f → AreValuesIn formats nums n mid
    → value ≡ value_in f (cell_at nums n) → new ≡ mid ++ value ∷ [] → AreValuesIn formats nums (n + 1) new
values_more formats nums n f value mid new at before one push = record {
  long = ap length push ∙ length-append mid (value ∷ []) ∙ ap (λ k. k + 1) before.long;
  each = λ k g v is there. elim (pushed mid value k v (ap (λ (xs : List Raw). slice_get xs k) (sym push) ∙ there)) [
    | inl was ↦ before.each k g v is was
    | inr last ↦ (let here : k ≡ n = last.0 ∙ before.long in last.1 ∙ one
        ∙ ap (λ h. value_in h (cell_at nums n)) (same_Some f g (sym at ∙ ap (slice_get formats) (sym here) ∙ is)) ∙ ap (λ j. value_in g (cell_at nums j)) (sym here))
  ];
}

abbrev no_value : Raw
no_value = record { num = pos 0; frac = 0 }

-- all of them, as the side has them
pub values_are : (formats : List Format) (nums : List ℤ) (values : List Raw) → length nums ≡ length formats → AreValuesIn formats nums (length nums) values
    → values ≡ map (λ (v : Format × ℤ). value_in v.0 v.1) (zip formats nums)
values_are formats nums values same are = ext_get_or no_value values (map as_value (zip formats nums)) long
    (λ k less. (let inside : k < length formats = omega (arith, less, are.long, same) in let f = has_at formats k inside in let v = has_at values k less in
    let within : k < length nums = omega (arith, less, are.long) in
    get_or_from_slice_get values k v.0 no_value v.1 ∙ are.each k f.0 v.0 f.1 v.1
    ∙ sym (get_or_from_slice_get (map as_value (zip formats nums)) k (value_in f.0 (cell_at nums k)) no_value (slice_get-map as_value (zip formats nums) k ∙ ap (option_map as_value) (pair k f.0 f.1 within)))))
  where
    as_value : Format × ℤ → Raw
    as_value v = value_in v.0 v.1

    long : length values ≡ length (map as_value (zip formats nums))
    long = are.long ∙ omega (arith, same, length-zip formats nums, length-map (zip formats nums) as_value)

    pair : (k : ℕ) (f : Format) → slice_get formats k ≡ Some f → k < length nums → slice_get (zip formats nums) k ≡ Some (f, cell_at nums k)
    pair k f at within = zip_at formats nums k f at within

-- ---- frames

-- one instance more has its cells
pub cells_set : (blocks : List (List ℤ)) (n : ℕ) (old mid new : List FrameSeen) (f : FrameSeen) (nums : List ℤ) → slice_get mid n ≡ Some f → slice_get blocks n ≡ Some nums
    → HaveCells blocks n old mid → new ≡ slice_set mid n (with_cells f nums) → HaveCells blocks (n + 1) old new
cells_set blocks n old mid new f nums at held before step = record {
  long = ap length step ∙ length-set mid n (with_cells f nums) ∙ before.long;
  set = λ k g c less was has. elim (cases_lt k n) [
    | inl below ↦ ap (λ (xs : List FrameSeen). slice_get xs k) step ∙ set_else mid n k (with_cells f nums) (λ e. absurd (omega (arith, e, below))) ∙ before.set k g c below was has
    | inr past ↦ (let here : k ≡ n = omega (arith, less, past) in let f_is : f ≡ g = same_Some f g (sym at ∙ before.same n g (omega arith) (ap (slice_get old) (sym here) ∙ was)) in
        let c_is : nums ≡ c = same_Some nums c (sym held ∙ ap (slice_get blocks) (sym here) ∙ has) in
        ap (λ (xs : List FrameSeen). slice_get xs k) step ∙ ap (slice_get (slice_set mid n (with_cells f nums))) here ∙ set_here mid n (with_cells f nums) (slice_get_within mid n f at)
        ∙ ap Some (ap (λ x. with_cells x nums) f_is ∙ ap (with_cells g) c_is))
  ];
  same = λ k g up was. ap (λ (xs : List FrameSeen). slice_get xs k) step ∙ set_else mid n k (with_cells f nums) (λ e. absurd (omega (arith, e, up))) ∙ before.same k g (omega (arith, up)) was;
}

-- ---- notifications

abbrev with_times : NoticesOf → List (Option ℕ) → NoticesOf
with_times n times = record n { times = times }

-- the first n notifications were given, and no event above theirs has one
pub record AreNotified (list : List Pending) (n : ℕ) (old new : NoticesOf) : Type 0 where
  pub is : new ≡ record old { times = with_pending (take n list) old.times }
  pub free : (event : ℕ) → ((i : ℕ) (p : Pending) → i < n → slice_get list i ≡ Some p → p.event < event) → pending_time new.times event ≡ None

with_both : (xs ys : List Pending) (times : List (Option ℕ)) → with_pending (xs ++ ys) times ≡ with_pending ys (with_pending xs times)
unfolding with_pending
with_both [] ys times = refl
with_both (x ∷ xs) ys times = with_both xs ys (slice_set times x.event (Some x.time))

pub with_length : (list : List Pending) (times : List (Option ℕ)) → length (with_pending list times) ≡ length times
unfolding with_pending
with_length [] times = refl
with_length (p ∷ ps) times = with_length ps (slice_set times p.event (Some p.time)) ∙ length-set times p.event (Some p.time)

with_next : (list : List Pending) (n : ℕ) (p : Pending) (times : List (Option ℕ)) → slice_get list n ≡ Some p
    → with_pending (take (n + 1) list) times ≡ slice_set (with_pending (take n list) times) p.event (Some p.time)
unfolding with_pending
with_next list n p times at = ap (λ l. with_pending l times) (take_more list n p (slice_get_within list n p at) ∙ ap (λ x. take n list ++ x ∷ []) (get_or_from_slice_get list n p p at))
    ∙ with_both (take n list) (p ∷ []) times

-- events rise along notifications that may come
rises : (events time : ℕ) (list : List Pending) → ArePendingFrom events time list → (d i k : ℕ) (q p : Pending) → k ≡ i + (d + 1) → slice_get list i ≡ Some q → slice_get list k ≡ Some p → q.event < p.event
rises events time list all zero i k q p far at there = all.rising i q p at (subst (λ j. slice_get list j ≡ Some p) (far ∙ omega arith) there)
rises events time list all (suc d) i k q p far at there =
    let mid = has_at list (i + 1) (let w = slice_get_within list k p there in omega (arith, w, far)) in
    let low = all.rising i q mid.0 at mid.1 in
    let up = rises events time list all d (i + 1) k mid.0 p (omega (arith, far)) mid.1 there in omega (arith, low, up)

pub rises_to : (events time : ℕ) (list : List Pending) → ArePendingFrom events time list → (i k : ℕ) (q p : Pending) → i < k → slice_get list i ≡ Some q → slice_get list k ≡ Some p → q.event < p.event
rises_to events time list all i k q p less at there = rises events time list all (k - (i + 1)) i k q p (omega (arith, less)) at there

none_is : (l : List Pending) (old : NoticesOf) → old ≡ record old { times = with_pending (take 0 l) old.times }
unfolding with_pending
none_is [] old = refl
none_is (x ∷ xs) old = refl

pub none_notified : (list : List Pending) (old : NoticesOf) → ((event : ℕ) → pending_time old.times event ≡ None) → AreNotified list 0 old old
none_notified list old none = record { is = none_is list old; free = λ event above. none event }

-- one more
pub notified_more : (events time : ℕ) (list : List Pending) (n : ℕ) (old mid new : NoticesOf) (p : Pending) → ArePendingFrom events time list → slice_get list n ≡ Some p → AreNotified list n old mid
    → new ≡ record mid { times = slice_set mid.times p.event (Some p.time) } → AreNotified list (n + 1) old new
notified_more events time list n old mid new p all at before step = record {
  is = step ∙ ap (λ (x : NoticesOf). record x { times = slice_set x.times p.event (Some p.time) }) before.is ∙ ap (with_times old) (sym (with_next list n p old.times at));
  free = λ event above. (let past : p.event < event = above n p (omega arith) at in
      ap (λ (x : NoticesOf). pending_time x.times event) step ∙ get_or-set_other mid.times p.event event (Some p.time) None (λ e. absurd (omega (arith, e, past)))
      ∙ before.free event (λ i q less here. above i q (omega (arith, less)) here));
}

-- the event of the next one has none
pub next_free : (events time : ℕ) (list : List Pending) (n : ℕ) (old mid : NoticesOf) (p : Pending) → ArePendingFrom events time list → slice_get list n ≡ Some p → AreNotified list n old mid
    → pending_time mid.times p.event ≡ None
next_free events time list n old mid p all at before = before.free p.event (λ i q less here. rises_to events time list all i n q p less here at)

pub next_inside : (time : ℕ) (list : List Pending) (n : ℕ) (old mid : NoticesOf) (p : Pending) → ArePendingFrom (length old.times) time list → slice_get list n ≡ Some p → AreNotified list n old mid
    → p.event < length mid.times
next_inside time list n old mid p all at before = let e = (all.each n p at).event in
    let l : length mid.times ≡ length old.times = ap (λ (x : NoticesOf). length x.times) before.is ∙ with_length (take n list) old.times in omega (arith, e, l)

pub all_notified : (list : List Pending) (old new : NoticesOf) → AreNotified list (length list) old new → new ≡ record old { times = with_pending list old.times }
all_notified list old new all = all.is ∙ ap (λ l. with_times old (with_pending l old.times)) (take_all (length list) list (omega arith))

-- ---- what is pending

range_next : (a n j : ℕ) → a + n ≡ j → range_with_len a (n + 1) ≡ range_with_len a n ++ j ∷ []
range_next a zero j is = let e : a ≡ j = omega (arith, is) in ap (λ k. k ∷ []) e
range_next a (suc n) j is = let e : suc n + 1 ≡ suc (n + 1) = omega arith in ap (range_with_len a) e ∙ ap (λ list. a ∷ list) (range_next (a + 1) n j (omega (arith, is)))

-- one event more
pub pending_more : (f : ℕ → List Pending) (n : ℕ) (list new : List Pending) → list ≡ flat_map f (range_with_len 0 n) → new ≡ list ++ f n → new ≡ flat_map f (range_with_len 0 (n + 1))
pending_more f n list new is more = more ∙ ap (λ l. l ++ f n) is ∙ ap (λ l. flat_map f (range_with_len 0 n) ++ l) (sym (append-nil (f n)))
    ∙ sym (flat_map-append f (range_with_len 0 n) (n ∷ [])) ∙ ap (flat_map f) (sym (range_next 0 n n (omega arith)))

notification_is : (times : List (Option ℕ)) (event n : ℕ) (time : Option ℕ) → event ≡ n → pending_time times event ≡ time → notification_of n (pending_time times n) ≡ notification_of event time
notification_is times event n time same is = ap (λ k. notification_of k (pending_time times k)) (sym same) ∙ ap (notification_of event) is

pub with_one : (times : List (Option ℕ)) (event n time : ℕ) (list new : List Pending) → event ≡ n → pending_time times event ≡ Some time
    → list ≡ flat_map (λ k. notification_of k (pending_time times k)) (range_with_len 0 n) → new ≡ list ++ record { event = event; time = time } ∷ []
    → new ≡ flat_map (λ k. notification_of k (pending_time times k)) (range_with_len 0 (n + 1))
with_one times event n time list new same is before push = pending_more (λ k. notification_of k (pending_time times k)) n list new before
    (push ∙ ap (λ (l : List Pending). list ++ l) (sym (notification_is times event n (Some time) same is)))

pub with_none : (times : List (Option ℕ)) (event n : ℕ) (list new : List Pending) → event ≡ n → pending_time times event ≡ None
    → list ≡ flat_map (λ k. notification_of k (pending_time times k)) (range_with_len 0 n) → new ≡ list
    → new ≡ flat_map (λ k. notification_of k (pending_time times k)) (range_with_len 0 (n + 1))
with_none times event n list new same is before kept = pending_more (λ k. notification_of k (pending_time times k)) n list new before
    (kept ∙ sym (append-nil list) ∙ ap (λ (l : List Pending). list ++ l) (sym (notification_is times event n None same is)))
