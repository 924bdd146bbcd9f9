-- Flags, waiting values and pending times, place by place.
use Rattle.std.proofs.Common.{◌≡◌, ◌≢◌, ℕ, zero, suc, ◌+◌, ◌<◌, Bool, true, false, ◌||◌, nat_eq, if◌then◌else◌, List, [], ◌∷◌, map, length, Option, Some, None, slice_get, slice_set, unwrap_or, refl, ap, sym, ◌∙◌, inl, inr, arith}
use Rattle.std.proofs.lemmas.Bool.{cases_lt, true≢false}
use Rattle.std.proofs.lemmas.Bool.Decides.{eqb_tells}
use Rattle.std.proofs.lemmas.List.{get_or_past, length-set}
use Rattle.std.specs.List.{AllByRecursion, list_any}
use Rattle.tdf_bind_connections.specs.ProcessBlocks.{ProcessRowOf}
use Rattle.tdf_convert.specs.declared.writes.SignalWrite.{SignalWrite}
use Rattle.tdf_events.specs.Delta.{flags_from, is_due, updated, waiting_with}
use Rattle.tdf_events.specs.Side.{value_at}
use Rattle.tdf_events_queue.specs.Sets.{is_on}
use Rattle.tdf_events_queue.specs.Times.{pending_time}
use Rattle.tdf_fixed.specs.declared.raw.Raw.{Raw}
use Rattle.tdf_stim_history.specs.Driver.{DriverOf, waiting_at}
use Rattle.tdf_stim_history.specs.Standing.{WritesOther, left_after}

pub or_true : (b : Bool) → (b || true) ≡ true
or_true true = refl
or_true false = refl

-- a flag of a process is the test of its row
pub flag_at : (test : ℕ → ProcessRowOf → Bool) (first : ℕ) (rows : List ProcessRowOf) (p : ℕ) (row : ProcessRowOf) → slice_get rows p ≡ Some row → is_on (flags_from test first rows) p ≡ test (first + p) row
unfolding flags_from
flag_at test first [] p row h = absurd (cc)
flag_at test first (r ∷ rs) zero row h = let same : r ≡ row = cc in let f : first + 0 ≡ first = omega arith in rw (f, same) refl
flag_at test first (r ∷ rs) (suc p) row h = let f : first + 1 + p ≡ first + suc p = omega arith in flag_at test (first + 1) rs p row h ∙ ap (λ k. test k row) f

pub none_any : (f : ℕ → Bool) (es : List ℕ) → ((e : ℕ) → list_any (nat_eq e) es ≡ true → f e ≡ false) → list_any f es ≡ false
none_any f [] h = refl
none_any f (e ∷ es) h =
    let same : nat_eq e e ≡ true = elim (eqb_tells e e) [ inl y ↦ y.0 | inr n ↦ absurd (n.1 refl) ] in
    let here : f e ≡ false = h e (rw same refl) in
    rw here (none_any f es (λ k there. h k (rw there (or_true (nat_eq k e)))))

pub some_any : (f : ℕ → Bool) (es : List ℕ) (e : ℕ) → list_any (nat_eq e) es ≡ true → f e ≡ true → list_any f es ≡ true
some_any f [] e h t = absurd (cc)
some_any f (k ∷ es) e h t = elim (eqb_tells e k) [
  | inl y ↦ (let same : e ≡ k = y.1 in rw (sym same, t) refl)
  | inr n ↦ (let g : list_any (nat_eq e) es ≡ true = rw n.0 at h in rw (some_any f es e g t) (or_true (f k)))
]

-- a flag that is on lies inside
pub on_inside : (flags : List Bool) (p : ℕ) → is_on flags p ≡ true → p < length flags
on_inside flags p on = elim (cases_lt p (length flags)) [ inl less ↦ less | inr past ↦ absurd (true≢false (sym on ∙ get_or_past flags p false past)) ]

pub cleared : (flags : List Bool) (e : ℕ) → is_on (map (λ (on : Bool). false) flags) e ≡ false
cleared [] e = refl
cleared (f ∷ fs) zero = refl
cleared (f ∷ fs) (suc e) = cleared fs e

abbrev pub nothing : Option Raw
nothing = None

abbrev pub emptied : List (Option Raw) → List (Option Raw)
emptied waiting = map (λ (value : Option Raw). nothing) waiting

pub none_waits : (waiting : List (Option Raw)) (x : ℕ) → waiting_at (emptied waiting) x ≡ nothing
none_waits [] x = refl
none_waits (w ∷ ws) zero = refl
none_waits (w ∷ ws) (suc x) = none_waits ws x

pub emptied_long : (waiting : List (Option Raw)) → length (emptied waiting) ≡ length waiting
emptied_long [] = refl
emptied_long (w ∷ ws) = ap suc (emptied_long ws)

pub updated_long : (values : List Raw) (waiting : List (Option Raw)) → length (updated values waiting) ≡ length values
unfolding updated
updated_long [] waiting = refl
updated_long (v ∷ vs) [] = refl
updated_long (v ∷ vs) (w ∷ ws) = ap suc (updated_long vs ws)

pub updated_at : (values : List Raw) (waiting : List (Option Raw)) (x : ℕ) → x < length values → value_at (updated values waiting) x ≡ unwrap_or (waiting_at waiting x) (value_at values x)
unfolding updated
updated_at [] waiting x less = absurd (omega (arith, less))
updated_at (v ∷ vs) [] x less = refl
updated_at (v ∷ vs) (w ∷ ws) zero less = refl
updated_at (v ∷ vs) (w ∷ ws) (suc x) less = updated_at vs ws x (omega (arith, less))

-- what sinks write is for other signals
other_set : (waiting : List (Option Raw)) (i x : ℕ) (v : Option Raw) → i ≢ x → waiting_at (slice_set waiting i v) x ≡ waiting_at waiting x
other_set [] i x v h = refl
other_set (w ∷ ws) zero zero v h = absurd (h refl)
other_set (w ∷ ws) zero (suc x) v h = refl
other_set (w ∷ ws) (suc i) zero v h = refl
other_set (w ∷ ws) (suc i) (suc x) v h = other_set ws i x v (λ e. h (ap suc e))

pub others_wait : (d : DriverOf) (writes : List SignalWrite) (waiting : List (Option Raw)) (x : ℕ) → AllByRecursion (WritesOther d) writes → d.drives x ≡ true → waiting_at (waiting_with writes waiting) x ≡ waiting_at waiting x
unfolding waiting_with
others_wait d [] waiting x h mine = refl
others_wait d (w ∷ ws) waiting x h mine =
    others_wait d ws (slice_set waiting w.signal (Some w.value)) x h.1 mine
    ∙ other_set waiting w.signal x (Some w.value) (λ same. true≢false (sym mine ∙ sym (ap d.drives same) ∙ h.0))

pub waiting_long : (writes : List SignalWrite) (waiting : List (Option Raw)) → length (waiting_with writes waiting) ≡ length waiting
unfolding waiting_with
waiting_long [] waiting = refl
waiting_long (w ∷ ws) waiting = waiting_long ws (slice_set waiting w.signal (Some w.value)) ∙ length-set waiting w.signal (Some w.value)

-- a pending time after those that are due are gone
pub gone_at : (time : ℕ) (times : List (Option ℕ)) (e : ℕ) → pending_time (map (λ pending. if is_due time pending then None else pending) times) e ≡ left_after time (pending_time times e)
gone_at time [] e = refl
gone_at time (x ∷ xs) zero = refl
gone_at time (x ∷ xs) (suc e) = gone_at time xs e

pub gone_long : (time : ℕ) (times : List (Option ℕ)) → length (map (λ pending. if is_due time pending then None else pending) times) ≡ length times
gone_long time [] = refl
gone_long time (x ∷ xs) = ap suc (gone_long time xs)

-- one pending time that is due is found among all
pub due_found : (time : ℕ) (times : List (Option ℕ)) (e : ℕ) → is_due time (pending_time times e) ≡ true → list_any (is_due time) times ≡ true
due_found time [] e due = absurd (cc)
due_found time (x ∷ xs) zero due = rw due refl
due_found time (x ∷ xs) (suc e) due = rw (due_found time xs e due) (or_true (is_due time x))
