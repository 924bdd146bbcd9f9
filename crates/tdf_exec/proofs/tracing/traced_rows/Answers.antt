use Rattle.std.proofs.Common.{◌<◌, ◌+◌, ap, arith, length, subst, sym, List}
use Rattle.tdf_exec.proofs.Marks.{traced_next}
use Rattle.tdf_exec.proofs.Rows.{all_at}
use Rattle.tdf_exec.specs.declared.runners.TracedPort.{TracedPort}
use Rattle.tdf_exec.specs.machine.Tracing.{AreTracedUpTo}
use Rattle.tdf_bind.specs.declared.model.Flat.{Flat}
use Rattle.tdf_streams.proofs.Api.{get_inside}
use Rattle.tdf_bind_connections.specs.declared.modules.PortRow.{PortRow}
use Rattle.tdf_exec.proofs.tracing.traced_rows.Goals as goal

pub loop-n-preserved : goal.loop-n-preserved
loop-n-preserved c =
    let inside : c.loop-n.n < length c.args.flat.now.tables.ports =
    (let t = c.loop-n-test.true in let n = c.len-n-end.ensures in let v = ap (λ (x : Flat). length x.tables.ports) c.flat.view_is in omega (arith, t, n, v)) in
    let row = get_inside c.args.flat.now.tables.ports c.loop-n.n inside in
    let put = c.in_ok-put_port.ensures row.0 row.1 in
    let own = all_at (λ (x : PortRow). x.«module» < length c.args.flat.now.tables.modules) c.args.flat.now.tables.ports c.loop-n.n row.0 c.requires.modules row.1 in
    subst (λ (l : List (List TracedPort)). AreTracedUpTo c.args.flat.now.tables (c.loop-n.n + 1) l) (sym put)
    (traced_next c.args.flat.now.tables c.loop-n.n row.0 row.1 c.loop-n.rows.items c.loop-n.invariant own)
