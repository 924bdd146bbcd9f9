-- One notification more that comes.
use Rattle.std.proofs.Common.{◌≡◌, ◌≢◌, ℕ, ◌<◌, ◌≤◌, Bool, true, false, nat_eq, cond, if◌then◌else◌, List, [], ◌∷◌, map, zero, suc, Option, Some, None, is_some, length, length-set, slice_get, slice_set, get_or-set_same, get_or-set_other, refl, ap, sym, ◌∙◌, inl, inr, arith}
use Rattle.std.specs.List.{count_by}
use Rattle.std.proofs.lemmas.Bool.{cases_eq, cases_lt, true≢false}
use Rattle.std.proofs.lemmas.Bool.Decides.{eqb_tells}
use Rattle.std.proofs.lemmas.List.{ext_get_or, get_or_past, length-map}
use Rattle.std.proofs.lemmas.List.Sums.{sum_by-set}
use Rattle.std.proofs.lemmas.Option.{slice_get_within}
use Rattle.tdf_events_queue.specs.Lists.{list_at}
use Rattle.tdf_events_queue.specs.Times.{IsFirstPending, IsNonePending, pending_time}
use Rattle.tdf_events_queue.specs.Triggered.{AreTriggered}
use Rattle.tdf_events.specs.Delta.{is_due}
use Rattle.tdf_events.specs.machine.Due.{HaveCome, comes}
use Rattle.tdf_events.specs.machine.Updating.{AreAllReached}

pub none_due : (times : List (Option ℕ)) (time : ℕ) → IsNonePending times → (e : ℕ) → comes time times e ≡ false
none_due times time none e = ap (is_due time) (none.none e)

pub late_due : (times : List (Option ℕ)) (time event t : ℕ) → IsFirstPending times event t → time ≤ t → t ≢ time → (e : ℕ) → comes time times e ≡ false
late_due times time event t first up apart e = one (pending_time times e) refl
  where
    one : (o : Option ℕ) → pending_time times e ≡ o → comes time times e ≡ false
    one None is = ap (is_due time) is
    one (Some s) is = ap (is_due time) is ∙ elim (eqb_tells s time) [
      | inl y ↦ (let low : t ≤ s = first.least e s is in absurd (apart (omega (arith, low, up, y.1))))
      | inr n ↦ n.0
    ]

pub some_none : (o : Option ℕ) (t : ℕ) → o ≡ None → o ≡ Some t → ⊥
some_none o t a b = absurd (grind (arith, a, b))

pub inside_times : (times : List (Option ℕ)) (event t : ℕ) → pending_time times event ≡ Some t → event < length times
inside_times times event t is = elim (cases_lt event (length times)) [ inl less ↦ less | inr past ↦ absurd (some_none (pending_time times event) t (get_or_past times event None past) is) ]

pub come_none : (lists : List (List ℕ)) (time : ℕ) (times : List (Option ℕ)) (flags : List Bool) → (length times ≡ length times) → HaveCome lists time times times flags flags
come_none lists time times flags same = record {
  long = refl;
  each = λ e. inl refl;
  same = refl;
  kept = λ p on. on;
  set = λ e j p due gone at. absurd (never (pending_time times e) due gone);
  only = λ p on. inl on;
}
  where
    never : (o : Option ℕ) → is_due time o ≡ true → o ≡ None → ⊥
    never None due gone = absurd cc
    never (Some t) due gone = absurd cc

pub come_more : (lists : List (List ℕ)) (time event : ℕ) (old mid new : List (Option ℕ)) (before one two : List Bool) → HaveCome lists time old mid before one → pending_time mid event ≡ Some time
    → new ≡ slice_set mid event None → AreTriggered (list_at lists event) (length (list_at lists event)) one two → HaveCome lists time old new before two
come_more lists time event old mid new before one two come is taken more = record {
  long = ap length taken ∙ length-set mid event None ∙ come.long;
  each = λ e. elim (cases_eq e event) [
    | inl same ↦ inr (ap (pending_time new) same ∙ gone, ap (comes time old) same ∙ was_due)
    | inr apart ↦ elim (come.each e) [
      | inl kept ↦ inl (others e apart ∙ kept)
      | inr came ↦ inr (others e apart ∙ came.0, came.1)
    ]
  ];
  same = more.same ∙ come.same;
  kept = λ p on. more.kept p (come.kept p on);
  set = λ e j p due out at. elim (cases_eq e event) [
    | inl same ↦ (let there : slice_get (list_at lists event) j ≡ Some p = ap (λ x. slice_get (list_at lists x) j) (sym same) ∙ at in more.set j p (slice_get_within (list_at lists event) j p there) there)
    | inr apart ↦ more.kept p (come.set e j p due (sym (others e apart) ∙ out) at)
  ];
  only = λ p on. elim (more.only p on) [
    | inl was ↦ come.only p was
    | inr by ↦ inr (record { number = event; passes = was_due; index = by.0; member = by.1 })
  ];
}
  where
    gone : pending_time new event ≡ None
    gone = ap (λ xs. pending_time xs event) taken ∙ get_or-set_same mid event None None (inside_times mid event time is)

    others : (e : ℕ) → e ≢ event → pending_time new e ≡ pending_time mid e
    others e apart = ap (λ xs. pending_time xs e) taken ∙ get_or-set_other mid event e None None apart

    itself : nat_eq time time ≡ true
    itself = elim (eqb_tells time time) [ inl y ↦ y.0 | inr n ↦ absurd (n.1 refl) ]

    was_due : comes time old event ≡ true
    was_due = elim (come.each event) [
      | inl kept ↦ ap (is_due time) (sym kept ∙ is) ∙ itself
      | inr came ↦ came.1
    ]

-- one fewer is pending
pub fewer : (times new : List (Option ℕ)) (event t : ℕ) → pending_time times event ≡ Some t → new ≡ slice_set times event None → count_by is_some new < count_by is_some times
fewer times new event t is taken = let s = sum_by-set (λ (o : Option ℕ). cond (is_some o) 1 0) times event None None (inside_times times event t is) in
    let z : cond {A = ℕ} (is_some (pending_time times event)) 1 0 ≡ 1 = ap (λ (o : Option ℕ). cond {A = ℕ} (is_some o) 1 0) is in
    let e : count_by is_some new ≡ count_by is_some (slice_set times event None) = ap (count_by is_some) taken in omega (arith, s, z, e)

abbrev left_of : ℕ → Option ℕ → Option ℕ
left_of time pending = if is_due time pending then None else pending

left_at : (time : ℕ) (times : List (Option ℕ)) (e : ℕ) → pending_time (map (left_of time) times) e ≡ left_of time (pending_time times e)
left_at time [] e = refl
left_at time (t ∷ ts) zero = refl
left_at time (t ∷ ts) (suc e) = left_at time ts e

-- all that come have come
pub all_gone : (lists : List (List ℕ)) (time : ℕ) (old new : List (Option ℕ)) (before after : List Bool) → HaveCome lists time old new before after → ((e : ℕ) → comes time new e ≡ false)
    → new ≡ map (left_of time) old
all_gone lists time old new before after come none = ext_get_or None new (map (left_of time) old) (come.long ∙ sym (length-map old (left_of time))) (λ e less. one e ∙ sym (left_at time old e))
  where
    one : (e : ℕ) → pending_time new e ≡ left_of time (pending_time old e)
    one e = elim (come.each e) [
      | inl kept ↦ kept ∙ sym (ap (λ b. if b then None else pending_time old e) (sym (ap (is_due time) kept) ∙ none e))
      | inr came ↦ came.0 ∙ sym (ap (λ b. if b then None else pending_time old e) came.1)
    ]

pub all_come : (lists : List (List ℕ)) (time : ℕ) (old new : List (Option ℕ)) (before after : List Bool) → HaveCome lists time old new before after → ((e : ℕ) → comes time new e ≡ false)
    → AreAllReached lists (comes time old) before after
all_come lists time old new before after come none = record {
  same = come.same;
  kept = come.kept;
  set = λ e j p due at. come.set e j p due (elim (come.each e) [ inl kept ↦ absurd (true≢false (sym due ∙ sym (ap (is_due time) kept) ∙ none e)) | inr came ↦ came.0 ]) at;
  only = come.only;
}
