use Rattle.std.proofs.Common.{◌≡◌, ◌<◌, Some, ap, arith, length, sym, slice_get}
use Rattle.std.proofs.lemmas.Option.{slice_get_within}
use Rattle.tdf_bind_tables.specs.FlatTables.{FlatTablesOf}
use Rattle.tdf_sim_history.specs.Instant.{signal_of_port}
use Rattle.tdf_sim_refinement.proofs.Found.{port_read, row_read}
use Rattle.tdf_bind_connections.specs.declared.modules.PortRow.{PortRow}
use Rattle.tdf_sim_refinement.proofs.linking.signal_at.Goals as goal

pub index-requires : goal.index-requires
index-requires c =
    let t = c.args.tables.now in
    let v = ap (λ (x : FlatTablesOf). length x.ports) c.tables.view_is in let i = slice_get_within t.ports c.args.row.now.port c.requires.port c.requires.at in omega (arith, v, i)

pub returns : goal.returns
returns c =
    let t = c.args.tables.now in
    let port : PortRow = c.index.result.now in
    let inside : c.args.row.now.port < length t.ports = slice_get_within t.ports c.args.row.now.port c.requires.port c.requires.at in
    let there : slice_get t.ports c.args.row.now.port ≡ Some port = row_read c.tables.inside.ports.items t.ports c.args.row.now.port port (ap (λ (x : FlatTablesOf). x.ports) c.tables.view_is) inside c.index.ensures in
    record { inside = port_read t c.args.row.now port there c.requires; own = sym (ap signal_of_port there) }
