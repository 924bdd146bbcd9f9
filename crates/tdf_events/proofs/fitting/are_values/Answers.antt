use Rattle.std.proofs.Common.{rules, ◌≡◌, ◌∙◌, ◌<◌, Some, length, map, slice_get, slice_index_or, refl, sym, ap, arith, subst, to_z, of_z}
use Rattle.std.proofs.lemmas.Int.{to_z-of_z}
use Rattle.std.proofs.lemmas.List.{length-map}
use Rattle.std.proofs.lemmas.Option.{slice_get-get_or, slice_get-map}
use Rattle.std.specs.Int.{w128}
use Rattle.std.specs.Option.{option_map}
use Rattle.tdf_bind_connections.specs.declared.drivers.SignalRow.{SignalRow}
use Rattle.tdf_events.proofs.fitting.are_values.Goals as goal
use Rattle.tdf_expr.proofs.Api.{AreHeld, fits_one, held_fit, held_more}
use Rattle.tdf_expr.specs.Plans.{shape_written}
use Rattle.tdf_expr_state.specs.State.{cell_at}
use Rattle.tdf_fixed.specs.Overflow.{IsOfWidth}
use Rattle.tdf_fixed.specs.declared.format.Format.{Format}

abbrev format_of : SignalRow → Format
format_of row = row.format

pub returns-then-nums-signals : goal.returns-then-nums-signals
returns-then-nums-signals c = (λ e. absurd cc, λ fits. absurd (c.if-nums-signals.true (fits.long ∙ length-map (map format_of c.args.signals.now) shape_written ∙ length-map c.args.signals.now format_of)))

pub returns-then-not-holds : goal.returns-then-not-holds
returns-then-not-holds c =
    let r = slice_index_or c.args.signals.now c.loop-i.i c.index-signals-i.result in
    let f = r.format in
    let less : c.loop-i.i < length c.args.signals.now = omega (arith, c.loop-i-test.true, c.if-nums-signals.false) in
    let row : slice_get c.args.signals.now c.loop-i.i ≡ Some r = slice_get-get_or c.args.signals.now c.loop-i.i c.index-signals-i.result less in
    let at : slice_get (map format_of c.args.signals.now) c.loop-i.i ≡ Some f = slice_get-map format_of c.args.signals.now c.loop-i.i ∙ ap (option_map format_of) row in
    let same : to_z w128 (of_z w128 (cell_at c.args.nums.now c.loop-i.i)) ≡ cell_at c.args.nums.now c.loop-i.i = to_z-of_z w128 (cell_at c.args.nums.now c.loop-i.i) (search rules) in (
      λ e. absurd cc,
      λ fits. sym c.if-not-holds.true
          ∙ c.holds.ensures.1 (subst (λ n. IsOfWidth f.signed f.wl n) (sym same) (fits_one (map format_of c.args.signals.now) c.args.nums.now c.loop-i.i f at fits)),
    )

pub loop-i-preserved : goal.loop-i-preserved
loop-i-preserved c =
    let r = slice_index_or c.args.signals.now c.loop-i.i c.index-signals-i.result in
    let f = r.format in
    let less : c.loop-i.i < length c.args.signals.now = omega (arith, c.loop-i-test.true, c.if-nums-signals.false) in
    let row : slice_get c.args.signals.now c.loop-i.i ≡ Some r = slice_get-get_or c.args.signals.now c.loop-i.i c.index-signals-i.result less in
    let at : slice_get (map format_of c.args.signals.now) c.loop-i.i ≡ Some f = slice_get-map format_of c.args.signals.now c.loop-i.i ∙ ap (option_map format_of) row in
    let same : to_z w128 (of_z w128 (cell_at c.args.nums.now c.loop-i.i)) ≡ cell_at c.args.nums.now c.loop-i.i = to_z-of_z w128 (cell_at c.args.nums.now c.loop-i.i) (search rules) in
    held_more (map format_of c.args.signals.now) c.args.nums.now c.loop-i.i f at c.loop-i.invariant (subst (λ n. IsOfWidth f.signed f.wl n) same (c.holds.ensures.0 c.if-not-holds.false))

pub returns : goal.returns
returns c =
    let all : c.loop-i.i ≡ length c.args.nums.now = omega (arith, c.loop-i-test.false, c.loop-i.auto.i-end) in (
      λ same. held_fit (map format_of c.args.signals.now) c.args.nums.now (c.if-nums-signals.false ∙ sym (length-map c.args.signals.now format_of))
          (subst (AreHeld (map format_of c.args.signals.now) c.args.nums.now) all c.loop-i.invariant),
      λ fits. refl,
    )
