use Rattle.std.proofs.Common.{◌≡◌, ◌∙◌, ℤ, List, Option, IfSome, sym, ap, subst}
use Rattle.tdf_saved.specs.State.{ColumnStateOf}
use Rattle.tdf_saved.specs.declared.state.Stamp.{Stamp}
use Rattle.tdf_trace_states.proofs.fitting.is_column_state.Goals as goal
use Rattle.tdf_trace_states.specs.ColumnStates.{DoRise, IsInFormat}
use Rattle.tdf_trace_states.specs.machine.{AreInFormat, AreStampsInFormat}

pub returns-then-not-are_stamped : goal.returns-then-not-are_stamped
returns-then-not-are_stamped c =
    let same : c.deref.result.now ≡ c.args.state.now.samples = c.deref.ensures.value ∙ ap (λ (x : ColumnStateOf). x.samples) c.state.view_is in
    (λ e. absurd cc, λ is. sym c.if-not-are_stamped.true ∙ c.are_stamped.ensures.1 (subst (λ (xs : List Stamp). AreStampsInFormat c.args.format xs) (sym same) is.numbers.samples))

pub returns-then-not-are_numbers : goal.returns-then-not-are_numbers
returns-then-not-are_numbers c =
    let same : c.deref-2.result.now ≡ c.args.state.now.later = c.deref-2.ensures.value ∙ ap (λ (x : ColumnStateOf). x.later) c.state.view_is in
    (λ e. absurd cc, λ is. sym c.if-not-are_numbers.true ∙ c.are_numbers.ensures.1 (subst (λ (xs : List ℤ). AreInFormat c.args.format xs) (sym same) is.numbers.later))

pub returns : goal.returns
returns c =
    let carry : c.state.inside.carry ≡ c.args.state.now.carry = ap (λ (x : ColumnStateOf). x.carry) c.state.view_is in
    let stamped : c.deref.result.now ≡ c.args.state.now.samples = c.deref.ensures.value ∙ ap (λ (x : ColumnStateOf). x.samples) c.state.view_is in
    let later : c.deref-2.result.now ≡ c.args.state.now.later = c.deref-2.ensures.value ∙ ap (λ (x : ColumnStateOf). x.later) c.state.view_is in
    let rising : c.deref-3.result.now ≡ c.args.state.now.samples = c.deref-3.ensures.value ∙ ap (λ (x : ColumnStateOf). x.samples) c.state.view_is in (
      λ e. record {
        numbers = record {
          carry = subst (λ (o : Option ℤ). IfSome o (IsInFormat c.args.format)) carry (c.is_carry.ensures.0 c.if-not-is_carry.false);
          samples = subst (λ (xs : List Stamp). AreStampsInFormat c.args.format xs) stamped (c.are_stamped.ensures.0 c.if-not-are_stamped.false);
          later = subst (λ (xs : List ℤ). AreInFormat c.args.format xs) later (c.are_numbers.ensures.0 c.if-not-are_numbers.false);
        };
        rising = subst (λ (xs : List Stamp). DoRise xs) rising (c.do_rise.ensures.0 c.if-not-do_rise.false);
        changes = c.may_change.ensures.0 e;
      },
      λ is. c.may_change.ensures.1 is.changes,
    )
