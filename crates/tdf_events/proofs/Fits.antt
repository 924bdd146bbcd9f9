-- Whether a state is one of a model.
use Rattle.std.proofs.Common.{◌≡◌, ◌∙◌, ◌<◌, ◌≤◌, ◌+◌, ℕ, zero, suc, List, Some, ℤ, length, slice_get, refl, sym, ap, subst, inl, inr, arith}
use Rattle.std.proofs.lemmas.Bool.{cases_lt}
use Rattle.std.proofs.lemmas.Option.{slice_get_within, same_Some}
use Rattle.tdf_bind_connections.specs.ProcessBlocks.{BlockRowOf}
use Rattle.tdf_events.specs.State.{AreBlockCells, ArePendingFrom, IsPendingFrom}
use Rattle.tdf_expr.specs.Made.{CellsFit}
use Rattle.tdf_expr.specs.declared.checked.Checked.{Checked}
use Rattle.tdf_saved.specs.declared.state.Pending.{Pending}

-- the cells of the first n instances
abbrev pub AreCellsBelow : Checked → List BlockRowOf → List (List ℤ) → ℕ → Type 0
AreCellsBelow checked rows blocks n = (k : ℕ) (row : BlockRowOf) (nums : List ℤ) → k < n → slice_get rows k ≡ Some row → slice_get blocks k ≡ Some nums
    → CellsFit checked row.block nums

pub cells_more : (checked : Checked) (rows : List BlockRowOf) (blocks : List (List ℤ)) (n : ℕ) (row : BlockRowOf) (nums : List ℤ) → slice_get rows n ≡ Some row
    → slice_get blocks n ≡ Some nums → AreCellsBelow checked rows blocks n → CellsFit checked row.block nums → AreCellsBelow checked rows blocks (n + 1)
cells_more checked rows blocks n row nums at held before one k r c less here has = elim (cases_lt k n) [
  | inl below ↦ before k r c below here has
  | inr past ↦ (let same : n ≡ k = omega (arith, less, past) in
      subst (λ (x : BlockRowOf). CellsFit checked x.block c) (same_Some row r (sym (subst (λ j. slice_get rows j ≡ Some row) same at) ∙ here))
      (subst (CellsFit checked row.block) (same_Some nums c (sym (subst (λ j. slice_get blocks j ≡ Some nums) same held) ∙ has)) one))
]

pub cells_all : (checked : Checked) (rows : List BlockRowOf) (blocks : List (List ℤ)) → length blocks ≡ length rows → AreCellsBelow checked rows blocks (length blocks)
    → AreBlockCells checked rows blocks
cells_all checked rows blocks long all = record { long = long; each = λ k row nums at has. all k row nums (slice_get_within blocks k nums has) at has }

-- the first n notifications may come, and the next one may be of an event from a least one on
pub record ArePendingBelow (events time : ℕ) (list : List Pending) (n least : ℕ) : Type 0 where
  pub each : (i : ℕ) (p : Pending) → i < n → slice_get list i ≡ Some p → IsPendingFrom events time p
  pub rising : (i : ℕ) (p q : Pending) → i + 1 < n → slice_get list i ≡ Some p → slice_get list (i + 1) ≡ Some q → p.event < q.event
  pub last : (i : ℕ) (p : Pending) → i + 1 ≡ n → slice_get list i ≡ Some p → least ≡ p.event + 1
  pub first : n ≡ 0 → least ≡ 0

pub pending_more : (events time : ℕ) (list : List Pending) (n least : ℕ) (p : Pending) → slice_get list n ≡ Some p → ArePendingBelow events time list n least → least ≤ p.event
    → IsPendingFrom events time p → ArePendingBelow events time list (n + 1) (p.event + 1)
pending_more events time list n least p at before low one = record {
  each = λ i x less here. elim (cases_lt i n) [
    | inl below ↦ before.each i x below here
    | inr past ↦ subst (IsPendingFrom events time) (same_Some p x (sym (subst (λ j. slice_get list j ≡ Some p) (omega (arith, less, past)) at) ∙ here)) one
  ];
  rising = λ i x y less here next. elim (cases_lt (i + 1) n) [
    | inl below ↦ before.rising i x y below here next
    | inr past ↦ (let same : n ≡ i + 1 = omega (arith, less, past) in let y_is : y ≡ p = same_Some y p (sym next ∙ subst (λ j. slice_get list j ≡ Some p) same at) in
        let l : least ≡ x.event + 1 = before.last i x (sym same) here in let e : y.event ≡ p.event = ap (λ (z : Pending). z.event) y_is in omega (arith, l, e, low))
  ];
  last = λ i x same here. ap (λ (z : Pending). z.event + 1) (same_Some p x (sym (subst (λ j. slice_get list j ≡ Some p) (omega (arith, same)) at) ∙ here));
  first = λ no. absurd (omega (arith, no));
}

pub pending_all : (events time : ℕ) (list : List Pending) (least : ℕ) → ArePendingBelow events time list (length list) least → ArePendingFrom events time list
pending_all events time list least all = record {
  each = λ i p at. all.each i p (slice_get_within list i p at) at;
  rising = λ i p q at next. all.rising i p q (slice_get_within list (i + 1) q next) at next;
}

-- what comes next of notifications that may come
pub pending_next : (events time : ℕ) (list : List Pending) (n least : ℕ) (p : Pending) → slice_get list n ≡ Some p → ArePendingBelow events time list n least
    → ArePendingFrom events time list → (before : (i : ℕ) → i + 1 ≡ n → (q : Pending) × (slice_get list i ≡ Some q)) → least ≤ p.event
pending_next events time list zero least p at below all before = (let l = below.first refl in omega (arith, l))
pending_next events time list (suc n) least p at below all before = (let q = before n (omega arith) in let l = below.last n q.0 (omega arith) q.1 in
    let r = all.rising n q.0 p q.1 (subst (λ k. slice_get list k ≡ Some p) (omega arith) at) in omega (arith, l, r))
