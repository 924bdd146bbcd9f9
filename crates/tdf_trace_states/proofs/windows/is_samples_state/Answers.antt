use Rattle.std.proofs.Common.{◌≡◌, ◌∙◌, ◌-◌, ℤ, List, ap, length, subst, sym}
use Rattle.std.proofs.lemmas.Bool.{eq-eqb, eqb-true}
use Rattle.tdf_saved.specs.State.{ColumnStateOf}
use Rattle.tdf_saved.specs.declared.state.Stamp.{Stamp}
use Rattle.tdf_trace_states.proofs.Standing.{are_times, times_are}
use Rattle.tdf_trace_states.proofs.windows.is_samples_state.Goals as goal
use Rattle.tdf_trace_states.specs.Windows.{AreRisingFrom}
use Rattle.tdf_trace_states.specs.machine.{StandFrom}

pub returns-then-not-stand_from : goal.returns-then-not-stand_from
returns-then-not-stand_from c =
    let same : c.deref-2.result.now ≡ c.args.state.now.samples = c.deref-2.ensures.value ∙ ap (λ (x : ColumnStateOf). x.samples) c.state.view_is in (
      λ e. absurd cc,
      λ is. sym c.if-not-stand_from.true ∙ c.stand_from.ensures.1 (subst (λ (xs : List Stamp). StandFrom c.args.window c.args.window.first xs) (sym same) (are_times c.args.window c.args.state.now.samples c.args.window.first is.known)),
    )

pub returns : goal.returns
returns c =
    let rising : c.deref.result.now ≡ c.args.state.now.samples = c.deref.ensures.value ∙ ap (λ (x : ColumnStateOf). x.samples) c.state.view_is in
    let same : c.deref-2.result.now ≡ c.args.state.now.samples = c.deref-2.ensures.value ∙ ap (λ (x : ColumnStateOf). x.samples) c.state.view_is in
    let later : length c.deref-later.result.now ≡ length c.args.state.now.later = ap (λ (l : List ℤ). length l) (c.deref-later.ensures.value ∙ ap (λ (x : ColumnStateOf). x.later) c.state.view_is) in (
      λ e. record {
        rising = subst (λ (xs : List Stamp). AreRisingFrom c.args.rows xs) rising (c.are_rising_from.ensures.0 c.if-not-are_rising_from.false);
        carries = c.carries_from.ensures.0 c.if-not-carries_from.false;
        known = times_are c.args.window c.args.state.now.samples c.args.window.first
            (subst (λ (xs : List Stamp). StandFrom c.args.window c.args.window.first xs) same (c.stand_from.ensures.0 c.if-not-stand_from.false));
        later = sym later ∙ eqb-true (length c.deref-later.result.now) c.saturating_sub.result e ∙ c.saturating_sub.ensures;
      },
      λ is. eq-eqb (length c.deref-later.result.now) c.saturating_sub.result (later ∙ is.later ∙ sym c.saturating_sub.ensures),
    )
