use Rattle.std.proofs.Common.{rules, ◌≡◌, ◌∙◌, ℤ, List, [], Some, length, sym, ap, subst, to_z, of_z}
use Rattle.std.proofs.lemmas.Bool.{eqb-true}
use Rattle.std.proofs.lemmas.Int.{to_z-of_z}
use Rattle.std.proofs.lemmas.List.{nil_from_length}
use Rattle.std.specs.Int.{w128}
use Rattle.tdf_saved.specs.State.{ColumnStateOf}
use Rattle.tdf_saved.specs.declared.state.Stamp.{Stamp}
use Rattle.tdf_trace_states.proofs.Fits.{changes_of, of_changes}
use Rattle.tdf_trace_states.proofs.fitting.may_change.Goals as goal
use Rattle.tdf_trace_states.specs.machine.{AreChanges}

pub returns-else-not-is_empty : goal.returns-else-not-is_empty
returns-else-not-is_empty c =
    let s : ColumnStateOf = c.args.state.now in
    let num : ℤ = c.in-Some.carry in
    let as_is : to_z w128 (of_z w128 num) ≡ num = to_z-of_z w128 num (search rules) in
    let carry : s.carry ≡ Some num = ap (λ (x : ColumnStateOf). x.carry) (sym c.state.view_is) ∙ c.in-Some.is in
    let none : s.later ≡ [] = ap (λ (x : ColumnStateOf). x.later) (sym c.state.view_is) ∙ sym c.deref-later.ensures.value ∙
    nil_from_length c.deref-later.result.now (eqb-true (length c.deref-later.result.now) 0 (sym c.is_empty.ensures ∙ c.if-not-is_empty.false)) in
    let same : c.deref.result.now ≡ s.samples = c.deref.ensures.value ∙ ap (λ (x : ColumnStateOf). x.samples) c.state.view_is in (
      λ e on. changes_of s num c.args.time carry none
          (subst (λ n. AreChanges n s.samples c.args.time) as_is (subst (λ (xs : List Stamp). AreChanges (to_z w128 (of_z w128 num)) xs c.args.time) same (c.are_changes.ensures.0 e))),
      λ shows. c.are_changes.ensures.1 (subst (λ (xs : List Stamp). AreChanges (to_z w128 (of_z w128 num)) xs c.args.time) (sym same)
          (subst (λ n. AreChanges n s.samples c.args.time) (sym as_is) (of_changes s num c.args.time carry (shows c.if-not-event.false)))),
    )
