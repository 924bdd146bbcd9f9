use Rattle.std.proofs.Common.{◌≡◌, ◌<◌, List, Some, length, slice_get, refl, rules}
use Rattle.std.proofs.lemmas.Option.{slice_get_read}
use Rattle.tdf_saved.specs.State.{ColumnStateOf}
use Rattle.tdf_trace.proofs.Stated.{columns_more}
use Rattle.tdf_trace.proofs.states.columns_in.Goals as goal
use Rattle.tdf_trace.specs.declared.about.Variable.{Variable}

pub loop-i-preserved : goal.loop-i-preserved
loop-i-preserved c =
    let vs : List Variable = c.args.variables.now.items in
    let ss : List ColumnStateOf = c.args.states.now.items in
    let below : c.loop-i.i < length vs = search rules in
    let inside : c.loop-i.i < length ss = search rules in
    let at : slice_get vs c.loop-i.i ≡ Some c.index.result.now = slice_get_read vs (length vs) c.loop-i.i c.index.result.now refl below (search rules) in
    let there : slice_get ss c.loop-i.i ≡ Some c.index-in-loop-i.result.now = slice_get_read ss (length ss) c.loop-i.i c.index-in-loop-i.result.now refl inside (search rules) in
    columns_more vs ss c.loop-i.i c.index.result.now c.index-in-loop-i.result.now c.loop-i.columns.items c.push.new.self.items c.in_ok-column.column at there c.in_ok-column.ensures c.in_ok-push.ensures.items c.loop-i.invariant
