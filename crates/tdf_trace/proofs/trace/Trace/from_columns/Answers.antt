use Rattle.std.proofs.Common.{◌≡◌, ◌∙◌, ◌≤◌, length, subst, sym}
use Rattle.tdf_base.specs.Limits.{most_traces}
use Rattle.tdf_trace.proofs.Kept.{kept_stated}
use Rattle.tdf_trace.proofs.Stated.{columns_sound, columns_stand, states_rise}
use Rattle.tdf_trace.proofs.trace.Trace.from_columns.Goals as goal
use Rattle.tdf_trace.specs.States.{AreColumnStates}
use Rattle.tdf_trace.specs.machine.Resuming.{AreColumnsIn}

pub invariant_of-result : goal.invariant_of-result
invariant_of-result c =
    let ok : AreColumnStates c.args.variables.items c.args.time c.args.columns.items = c.are_states.ensures.0 c.if-not-are_states.false in
    let are : AreColumnsIn c.args.variables.items c.args.columns.items (length c.args.columns.items) c.in-Ok.columns.items = c.in-Ok.ensures in
    let same : length c.in-Ok.columns.items ≡ length c.args.variables.items = are.long ∙ ok.long in
    record {
      fits = record { same = sym same; few = subst (λ k. k ≤ most_traces) (sym same) c.requires.traced.few };
      sound = columns_sound c.args.variables.items c.args.columns.items c.in-Ok.columns.items c.args.upto ok.long are (states_rise c.args.variables.items c.args.time c.args.columns.items ok) c.requires.from;
      kept = kept_stated c.args.variables.items c.args.columns.items c.in-Ok.columns.items c.next_time.result ok.long are c.next_time.ensures;
    }

pub returns-in-Ok-clause-stands : goal.returns-in-Ok-clause-stands
returns-in-Ok-clause-stands c =
    let ok : AreColumnStates c.args.variables.items c.args.time c.args.columns.items = c.are_states.ensures.0 c.if-not-are_states.false in
    columns_stand c.args.variables.items c.args.columns.items c.in-Ok.columns.items c.args.upto ok.long c.in-Ok.ensures c.requires.from
