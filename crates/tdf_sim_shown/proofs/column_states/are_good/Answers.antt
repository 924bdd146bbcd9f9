use Rattle.std.proofs.Common.{rules, ◌≡◌, List, subst, sym}
use Rattle.tdf_bind_connections.specs.declared.traces.TraceRow.{TraceRow}
use Rattle.tdf_sim_shown.proofs.column_states.are_good.Goals as goal
use Rattle.tdf_sim_shown.specs.machine.Alike.{AreAlike}

pub returns-then-are_columns : goal.returns-then-are_columns
returns-then-are_columns c =
    let traces : c.deref.result.now ≡ c.args.flat.now.tables.traces = search rules in (
      λ e. (c.are_columns.ensures.0 c.if-are_columns.true, subst (λ (l : List TraceRow). AreAlike l c.args.columns.now) traces (c.are_alike.ensures.0 e)),
      λ both. c.are_alike.ensures.1 (subst (λ (l : List TraceRow). AreAlike l c.args.columns.now) (sym traces) both.1),
    )
