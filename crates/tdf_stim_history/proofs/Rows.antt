-- From one time to the next: the rows before it, and the pending times.
use Rattle.std.proofs.Common.{◌≡◌, ℕ, zero, suc, ◌+◌, ◌-◌, ◌<◌, ◌≤◌, false, if◌then◌else◌, Option, Some, None, ap, sym, ◌∙◌, inl, inr, arith}
use Rattle.std.proofs.lemmas.Bool.{cases_eq, cases_lt}
use Rattle.std.proofs.lemmas.Bool.Decides.{leb_tells}
use Rattle.std.proofs.lemmas.Option.{same_Some}
use Rattle.tdf_events.specs.Delta.{is_due}
use Rattle.tdf_stim_history.proofs.Parts.{due_itself, not_due}
use Rattle.tdf_stim_history.specs.Driver.{DriverOf}
use Rattle.tdf_stim_history.specs.Rows.{AreRowsBefore, HasRowTimes, IsLastRow, pending_at}
use Rattle.tdf_stim_history.specs.Standing.{left_after}

-- a row is at the time
pub row_due : (d : DriverOf) (time m : ℕ) → HasRowTimes d → AreRowsBefore d time m → m < d.rows → d.time m ≡ time → AreRowsBefore d (time + 1) (m + 1)
row_due d time m has rows more here = record {
  some = omega arith;
  few = omega (arith, more);
  before = λ row less. elim (cases_eq row m) [
    | inl same ↦ (let e = ap d.time same in omega (arith, e, here))
    | inr apart ↦ (let low = rows.before row (omega (arith, less, apart)) in omega (arith, low))
  ];
  after = λ row up less. (let late = has.rising m row (omega (arith, up)) less in omega (arith, late, here));
}

-- no row is
pub row_none : (d : DriverOf) (time m : ℕ) → AreRowsBefore d time m → ((row : ℕ) → row < d.rows → d.time row ≡ time → ⊥) → AreRowsBefore d (time + 1) m
row_none d time m rows never = record {
  some = rows.some;
  few = rows.few;
  before = λ row less. (let low = rows.before row less in omega (arith, low));
  after = λ row up less. elim (cases_eq (d.time row) time) [
    | inl same ↦ absurd (never row less same)
    | inr apart ↦ (let low = rows.after row up less in omega (arith, low, apart))
  ];
}

-- where the row after those before isn't at the time, none is
pub none_at_time : (d : DriverOf) (time m : ℕ) → HasRowTimes d → AreRowsBefore d time m → (m < d.rows → d.time m ≡ time → ⊥) → (row : ℕ) → row < d.rows → d.time row ≡ time → ⊥
none_at_time d time m has rows never row less here = elim (cases_lt row m) [
  | inl before ↦ (let low = rows.before row before in omega (arith, low, here))
  | inr up ↦ elim (cases_eq row m) [
    | inl same ↦ never (omega (arith, less, same)) (sym (ap d.time same) ∙ here)
    | inr apart ↦ (let late = has.rising m row (omega (arith, up, apart)) less in
        let low = rows.after m (omega arith) (omega (arith, less, up)) in omega (arith, late, low, here))
  ]
]

pub first_before : (d : DriverOf) → HasRowTimes d → AreRowsBefore d 1 1
first_before d has = record {
  some = omega arith;
  few = has.some;
  before = λ row less. (let zero : row ≡ 0 = omega (arith, less) in let e = ap d.time zero in let first = has.first in omega (arith, e, first));
  after = λ row up less. (let late = has.rising 0 row (omega (arith, up)) less in omega (arith, late));
}

-- the last row before the next time is the last at or before this one
pub last_row : (d : DriverOf) (time m : ℕ) → AreRowsBefore d (time + 1) m → IsLastRow d time (m - 1)
last_row d time m rows = record {
  within = (let some = rows.some in let few = rows.few in omega (arith, some, few));
  at = (let some = rows.some in let low = rows.before (m - 1) (omega (arith, some)) in omega (arith, low));
  last = λ later up less. (let late = rows.after later (omega (arith, up)) less in omega (arith, late));
}

-- an event that is due is pending until its time
pub pending_before : (d : DriverOf) (time e : ℕ) → time ≤ d.due e → pending_at d time e ≡ Some (d.due e)
pending_before d time e low = elim (leb_tells (suc (d.due e)) time) [
  | inl y ↦ (let up = y.1 in absurd (omega (arith, up, low)))
  | inr n ↦ ap (λ b. if b then None else Some (d.due e)) n.0
]

pub pending_past : (d : DriverOf) (time e : ℕ) → d.due e < time → pending_at d time e ≡ None
pending_past d time e late = elim (leb_tells (suc (d.due e)) time) [
  | inl y ↦ ap (λ b. if b then None else Some (d.due e)) y.0
  | inr n ↦ (let low = n.1 in absurd (omega (arith, low, late)))
]

pub pending_is_due : (d : DriverOf) (time e : ℕ) → pending_at d time e ≡ Some time → d.due e ≡ time
pending_is_due d time e is = elim (cases_lt (d.due e) time) [
  | inl late ↦ (let none : None ≡ Some time = sym (pending_past d time e late) ∙ is in absurd (cc))
  | inr low ↦ same_Some (d.due e) time (sym (pending_before d time e low) ∙ is)
]

none_left : (time : ℕ) (pending : Option ℕ) → is_due time pending ≡ false → left_after time pending ≡ pending
none_left time pending not = ap (λ b. if b then None else pending) not

-- what an instant leaves of the pending times before it are those after it
pub pending_next : (d : DriverOf) (time e : ℕ) → left_after time (pending_at d time e) ≡ pending_at d (time + 1) e
pending_next d time e = elim (cases_lt (d.due e) time) [
  | inl late ↦ ap (left_after time) (pending_past d time e late) ∙ sym (pending_past d (time + 1) e (omega (arith, late)))
  | inr low ↦ elim (cases_eq (d.due e) time) [
    | inl same ↦ ap (left_after time) (pending_before d time e low ∙ ap Some same) ∙ ap (λ b. if b then None else Some time) (due_itself time) ∙ sym (pending_past d (time + 1) e (omega (arith, same)))
    | inr apart ↦ ap (left_after time) (pending_before d time e low)
        ∙ none_left time (Some (d.due e)) (not_due time (Some (d.due e)) (λ same. apart (same_Some (d.due e) time same)))
        ∙ sym (pending_before d (time + 1) e (omega (arith, low, apart)))
  ]
]
