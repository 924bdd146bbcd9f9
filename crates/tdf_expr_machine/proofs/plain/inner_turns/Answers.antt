use Rattle.std.proofs.Common.{rules, SFits, to_z, of_z, ◌≡◌, ◌∙◌, ◌+◌, ◌<◌, length, true, refl, sym, ap, subst, arith}
use Rattle.std.proofs.lemmas.Int.{to_z-of_z}
use Rattle.std.specs.Int.{w64}
use Rattle.tdf_expr_machine.specs.machine.Plain.{IsRowsProduct, inner_step}
use Rattle.tdf_expr_machine.proofs.Sums.{begin_in, begins, goes_on, reads_first, reads_second, reads_short}
use Rattle.tdf_expr_state.specs.State.{FrameState, cell_at, state_of, with_cell}
use Rattle.tdf_fixed.specs.Overflow.{IsOfWidth}
use Rattle.tdf_expr_machine.proofs.plain.inner_turns.Goals as goal

pub cell-requires : goal.cell-requires
cell-requires c =
    let a = c.args in
    begin_in a.act.now a.set.now a.inner.now a.turns.from a.turns.end a.loops.now (state_of a.cells.now a.signals.now) c.requires.set c.requires.inner c.requires.safe c.requires.some

pub loop-i-init : goal.loop-i-init
loop-i-init c =
    let a = c.args in
    let g = a.inner.now in
    let s = state_of a.cells.now a.signals.now in
    let first = c.in-Some.first in
    let fits : SFits w64 first = search rules in
    let same : to_z w64 (of_z w64 first) ≡ first = to_z-of_z w64 first fits in
    let value : first ≡ cell_at a.cells.now.cells g.at = search rules in
    let range : IsOfWidth g.cut.signed g.cut.wl first = search rules in
    let signed : IsOfWidth true g.cut.wl first = subst (λ b. IsOfWidth b g.cut.wl first) c.requires.inner.signed range in
    record {
      kept = refl;
      range = subst (λ z. IsOfWidth true g.cut.wl z) (sym same) signed;
      after = omega arith;
      within = omega (arith, c.requires.some);
      state = ap (λ z. with_cell g.at z s) (same ∙ value) ∙ begins a.act.now a.set.now g a.turns.from a.turns.end a.loops.now s c.requires.set c.requires.inner c.requires.safe;
    }

pub inner_step-requires-clause-first : goal.inner_step-requires-clause-first
inner_step-requires-clause-first c =
    let a = c.args in
    let kept = c.loop-i.invariant in
    subst (λ (f : FrameState). a.inner.now.first + c.loop-i.i < length f.cells) (sym kept.kept)
    (reads_first a.act.now a.set.now a.inner.now a.turns.from a.turns.end a.loops.now (state_of a.cells.now a.signals.now) c.requires.set c.requires.inner c.requires.safe
    c.loop-i.i (to_z w64 c.loop-i.sum-bits) kept.after c.loop-i-test.true kept.state)

pub inner_step-requires-clause-second : goal.inner_step-requires-clause-second
inner_step-requires-clause-second c =
    let a = c.args in
    let kept = c.loop-i.invariant in
    subst (λ (f : FrameState). a.inner.now.second + c.loop-i.i < length f.cells) (sym kept.kept)
    (reads_second a.act.now a.set.now a.inner.now a.turns.from a.turns.end a.loops.now (state_of a.cells.now a.signals.now) c.requires.set c.requires.inner c.requires.safe
    c.loop-i.i (to_z w64 c.loop-i.sum-bits) kept.after c.loop-i-test.true kept.state)

pub inner_step-requires-clause-short : goal.inner_step-requires-clause-short
inner_step-requires-clause-short c =
    let a = c.args in
    let kept = c.loop-i.invariant in
    subst (λ (f : FrameState). IsRowsProduct a.inner.now c.loop-i.i f.cells) (sym kept.kept)
    (reads_short a.act.now a.set.now a.inner.now a.turns.from a.turns.end a.loops.now (state_of a.cells.now a.signals.now) c.requires.set c.requires.inner c.requires.safe
    c.loop-i.i (to_z w64 c.loop-i.sum-bits) kept.after c.loop-i-test.true kept.state)

pub set_cell-requires : goal.set_cell-requires
set_cell-requires c =
    let a = c.args in
    subst (λ (f : FrameState). a.inner.now.at < length f.cells) (sym c.loop-i.invariant.kept)
    (begin_in a.act.now a.set.now a.inner.now a.turns.from a.turns.end a.loops.now (state_of a.cells.now a.signals.now) c.requires.set c.requires.inner c.requires.safe c.requires.some)

pub loop-i-preserved : goal.loop-i-preserved
loop-i-preserved c =
    let a = c.args in
    let g = a.inner.now in
    let s = state_of a.cells.now a.signals.now in
    let kept = c.loop-i.invariant in
    let next = c.in-Some-inner_step.next in
    let fits : SFits w64 next = search rules in
    let same : to_z w64 (of_z w64 next) ≡ next = to_z-of_z w64 next fits in
    let here : next ≡ inner_step g c.loop-i.i c.loop-i.sum c.loop-i.cells.cells = search rules in
    let sum : c.loop-i.sum ≡ to_z w64 c.loop-i.sum-bits = search rules in
    let value : next ≡ inner_step g c.loop-i.i (to_z w64 c.loop-i.sum-bits) a.cells.now.cells =
    here ∙ ap (λ (f : FrameState). inner_step g c.loop-i.i c.loop-i.sum f.cells) kept.kept ∙ ap (λ z. inner_step g c.loop-i.i z a.cells.now.cells) sum in
    let range : IsOfWidth g.cut.signed g.cut.wl next = search rules in
    let signed : IsOfWidth true g.cut.wl next = subst (λ b. IsOfWidth b g.cut.wl next) c.requires.inner.signed range in
    record {
      kept = kept.kept;
      range = subst (λ z. IsOfWidth true g.cut.wl z) (sym same) signed;
      after = omega (arith, kept.after);
      within = omega (arith, c.loop-i-test.true);
      state = ap (λ z. with_cell g.at z s) same ∙ goes_on a.act.now a.set.now g a.turns.from a.turns.end a.loops.now s c.requires.set c.requires.inner c.requires.safe
          c.loop-i.i (to_z w64 c.loop-i.sum-bits) kept.after c.loop-i-test.true kept.state next value range;
    }

pub set_cell-requires-2 : goal.set_cell-requires-2
set_cell-requires-2 c =
    let a = c.args in
    subst (λ (f : FrameState). a.inner.now.at < length f.cells) (sym c.loop-i.invariant.kept)
    (begin_in a.act.now a.set.now a.inner.now a.turns.from a.turns.end a.loops.now (state_of a.cells.now a.signals.now) c.requires.set c.requires.inner c.requires.safe c.requires.some)
