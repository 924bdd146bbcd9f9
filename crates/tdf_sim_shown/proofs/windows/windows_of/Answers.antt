use Rattle.std.proofs.Common.{rules, ◌≡◌, ◌<◌, ◌+◌, List, Option, arith, length, subst, sym}
use Rattle.tdf_sim_traces.specs.Periods.{clock_of}
use Rattle.tdf_sim_shown.proofs.Telling.{all_windows, more_windows, no_windows}
use Rattle.tdf_sim_shown.proofs.windows.windows_of.Goals as goal
use Rattle.tdf_sim_shown.specs.machine.Windows.{AreWindowsTo}
use Rattle.tdf_trace_states.specs.declared.windows.Window.{Window}

pub loop-column-init : goal.loop-column-init
loop-column-init c = subst (λ (l : List (Option Window)). AreWindowsTo c.args.flat.now (clock_of c.args.clock.now) 0 l) (sym c.new-windows.ensures.items) (no_windows c.args.flat.now (clock_of c.args.clock.now))

pub loop-column-preserved : goal.loop-column-preserved
loop-column-preserved c =
    let less : c.loop-column.column < length c.args.flat.now.tables.traces = search rules in
    subst (λ (l : List (Option Window)). AreWindowsTo c.args.flat.now (clock_of c.args.clock.now) (c.loop-column.column + 1) l) (sym c.in_ok-push.ensures.items)
    (more_windows c.args.flat.now (clock_of c.args.clock.now) c.loop-column.column c.loop-column.windows.items c.window_at.result less c.loop-column.invariant c.window_at.ensures.is c.window_at.ensures.room)

pub returns-clause-are : goal.returns-clause-are
returns-clause-are c =
    let past = c.loop-column-test.false in let end = c.loop-column.auto.column-end in let len : c.len-column-end.result ≡ length c.args.flat.now.tables.traces = search rules in
    all_windows c.args.flat.now (clock_of c.args.clock.now) c.loop-column.column c.loop-column.windows.items (omega (arith, past, end, len)) c.loop-column.invariant

pub returns-clause-long : goal.returns-clause-long
returns-clause-long c =
    let past = c.loop-column-test.false in let end = c.loop-column.auto.column-end in let len : c.len-column-end.result ≡ length c.args.flat.now.tables.traces = search rules in
    let long = c.loop-column.invariant.long in omega (arith, past, end, len, long)

pub returns-clause-room : goal.returns-clause-room
returns-clause-room c = c.loop-column.invariant.room
