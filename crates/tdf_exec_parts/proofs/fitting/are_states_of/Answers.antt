use Rattle.std.proofs.Common.{◌≡◌, ◌∙◌, ◌<◌, Some, length, refl, sym, arith, slice_get, subst}
use Rattle.std.proofs.lemmas.Option.{slice_get_read}
use Rattle.tdf_exec_parts.proofs.Fits.{AreStatesBelow, states_all, states_more}
use Rattle.tdf_exec_parts.proofs.fitting.are_states_of.Goals as goal

pub returns-then-modules-table : goal.returns-then-modules-table
returns-then-modules-table c = (λ e. absurd cc, λ are. absurd (c.if-modules-table.true are.long))

pub returns-then-not-is_state_of_row : goal.returns-then-not-is_state_of_row
returns-then-not-is_state_of_row c =
    let table = c.args.table.now in let modules = c.args.modules.now in
    let row = c.index-table-i.result in let m = c.index-modules-i.result in
    let less : c.loop-i.i < length table = c.loop-i-test.true in
    let inside : c.loop-i.i < length modules = omega (arith, less, c.if-modules-table.false) in
    let at : slice_get table c.loop-i.i ≡ Some row = slice_get_read table (length table) c.loop-i.i row refl less c.index-table-i.is in
    let there : slice_get modules c.loop-i.i ≡ Some m = slice_get_read modules (length modules) c.loop-i.i m refl inside c.index-modules-i.is in
    (λ e. absurd cc, λ are. sym c.if-not-is_state_of_row.true ∙ c.is_state_of_row.ensures.1 (are.each c.loop-i.i row m at there))

pub loop-i-preserved : goal.loop-i-preserved
loop-i-preserved c =
    let table = c.args.table.now in let modules = c.args.modules.now in
    let row = c.index-table-i.result in let m = c.index-modules-i.result in
    let less : c.loop-i.i < length table = c.loop-i-test.true in
    let inside : c.loop-i.i < length modules = omega (arith, less, c.if-modules-table.false) in
    let at : slice_get table c.loop-i.i ≡ Some row = slice_get_read table (length table) c.loop-i.i row refl less c.index-table-i.is in
    let there : slice_get modules c.loop-i.i ≡ Some m = slice_get_read modules (length modules) c.loop-i.i m refl inside c.index-modules-i.is in
    states_more c.args.flat.now table modules c.loop-i.i row m at there c.loop-i.invariant (c.is_state_of_row.ensures.0 c.if-not-is_state_of_row.false)

pub returns : goal.returns
returns c =
    let all : c.loop-i.i ≡ length c.args.table.now = omega (arith, c.loop-i-test.false, c.loop-i.auto.i-end) in
    (λ same. states_all c.args.flat.now c.args.table.now c.args.modules.now c.if-modules-table.false (subst (AreStatesBelow c.args.flat.now c.args.table.now c.args.modules.now) all c.loop-i.invariant), λ are. refl)
