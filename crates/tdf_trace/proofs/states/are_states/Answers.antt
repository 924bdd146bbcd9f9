use Rattle.std.proofs.Common.{◌≡◌, ◌<◌, ◌≤◌, Bool, List, Some, is_some, length, slice_get, refl, rules, subst, arith}
use Rattle.std.proofs.lemmas.Option.{slice_get_read, slice_get_within}
use Rattle.tdf_saved.specs.State.{ColumnStateOf}
use Rattle.tdf_trace.proofs.Stated.{states_more}
use Rattle.tdf_trace.proofs.states.are_states.Goals as goal
use Rattle.tdf_trace.specs.declared.about.Variable.{Variable}
use Rattle.tdf_trace_states.specs.ColumnStates.{IsColumnState}

pub loop-i-preserved : goal.loop-i-preserved
loop-i-preserved c =
    let vs : List Variable = c.args.variables.now.items in
    let ss : List ColumnStateOf = c.args.states.now.items in
    let v : Variable = c.index-variable.result.now in
    let s : ColumnStateOf = c.index.result.now in
    let below : c.loop-i.i < length vs = search rules in
    let inside : c.loop-i.i < length ss = search rules in
    let at : slice_get vs c.loop-i.i ≡ Some v = slice_get_read vs (length vs) c.loop-i.i v refl below (search rules) in
    let there : slice_get ss c.loop-i.i ≡ Some s = slice_get_read ss (length ss) c.loop-i.i s refl inside (search rules) in
    let one : IsColumnState v.format (is_some v.first) c.args.time s =
    subst (λ (b : Bool). IsColumnState v.format b c.args.time s) c.is_some.ensures (c.is_column_state.ensures.0 c.if-not-is_column_state.false) in
    states_more vs c.args.time ss c.loop-i.i v s at there one c.loop-i.invariant

pub returns : goal.returns
returns c =
    let same : length c.args.states.now.items ≡ length c.args.variables.now.items = search rules in
    let past : length c.args.states.now.items ≤ c.loop-i.i = search rules in (
      λ e. record {
        long = same;
        each = λ n v s at there. c.loop-i.invariant n v s (let l : n < length c.args.states.now.items = slice_get_within c.args.states.now.items n s there in omega (arith, l, past)) at there;
      },
      λ all. refl,
    )
