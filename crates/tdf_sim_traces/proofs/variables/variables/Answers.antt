use Rattle.std.proofs.Common.{rules, ◌<◌, ◌∙◌, ◌∷◌, ◌++◌, [], length, take, sym, ap}
use Rattle.std.proofs.lemmas.List.{take_more}
use Rattle.std.specs.Prelude.{filter_map}
use Rattle.tdf_sim_traces.proofs.Pushing.{more_given}
use Rattle.tdf_sim_traces.proofs.variables.variables.Goals as goal
use Rattle.tdf_sim_traces.specs.Variables.{trace_variable}

pub loop-c-preserved : goal.loop-c-preserved
loop-c-preserved c =
    let less : c.loop-c.c < length c.args.tables.now.traces = search rules in
    let v = c.in_ok-variable_at.field-0 in
    c.in_ok-push.ensures.items ∙ more_given (trace_variable c.args.tables.now) (take c.loop-c.c c.args.tables.now.traces) c.index.result.now c.loop-c.list.items v c.loop-c.invariant c.in_ok-variable_at.ensures
    ∙ ap (filter_map (trace_variable c.args.tables.now)) (sym (take_more c.args.tables.now.traces c.loop-c.c c.index.result.now less ∙ ap (λ x. take c.loop-c.c c.args.tables.now.traces ++ x ∷ []) (search rules)))
