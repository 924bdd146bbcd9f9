use Rattle.std.proofs.Common.{rules, ◌≡◌, List, sym, subst}
use Rattle.tdf_trace.specs.Calls.{IsFresh}
use Rattle.tdf_sim_traces.proofs.Columns.{can_be_traced, variables_long}
use Rattle.tdf_sim_traces.proofs.shown.Shown.new.Goals as goal
use Rattle.tdf_trace.specs.Stands.{IsNew}
use Rattle.tdf_trace.specs.Writings.{CanBeTraced, about_of}
use Rattle.tdf_trace.specs.declared.about.Variable.{Variable}
use Rattle.tdf_bind_connections.specs.declared.traces.TraceRow.{TraceRow}

pub new-requires-2 : goal.new-requires-2
new-requires-2 c = subst CanBeTraced (sym c.in_ok-columns.ensures) (can_be_traced c.args.flat.now.tables c.requires.can)

pub returns : goal.returns
returns c =
    let traces_are : c.deref.result.now ≡ c.args.flat.now.tables.traces = search rules in
    record {
      trace = subst (λ (l : List Variable). IsNew c.in_ok-trace.trace (about_of c.args.kind c.args.flat.now.resolution l)) c.in_ok-columns.ensures (search rules);
      columns = variables_long c.args.flat.now.tables c.requires.can;
      tracking = subst (λ (l : List TraceRow). IsFresh l c.in_ok-tracking.tracking) traces_are c.in_ok-tracking.ensures;
      signals = c.in_ok-signals.ensures;
      events = search rules;
    }
