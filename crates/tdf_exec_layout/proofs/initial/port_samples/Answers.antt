use Rattle.std.proofs.Common.{rules, ◌≡◌, ◌∙◌, Some, ap, length, refl, sym, replicate, slice_get}
use Rattle.std.proofs.lemmas.Option.{slice_get_read}
use Rattle.tdf_bind_tables.specs.FlatTables.{FlatTablesOf}
use Rattle.tdf_exec_layout.proofs.Given.{port_given}
use Rattle.tdf_exec_layout.specs.machine.Initials.{given_to}
use Rattle.tdf_streams.specs.Cluster.{initial_samples, zero_of_port}
use Rattle.tdf_bind_connections.specs.declared.modules.PortRow.{PortRow}
use Rattle.tdf_exec_layout.proofs.initial.port_samples.Goals as goal

pub returns : goal.returns
returns c =
    let t = c.args.tables.now in
    let port : PortRow = c.index-port.result.now in
    let at : slice_get t.ports c.args.number ≡ Some port = sym (ap (λ (x : FlatTablesOf). slice_get x.ports c.args.number) c.tables.view_is) ∙ slice_get_read c.tables.inside.ports.items (length c.tables.inside.ports.items) c.args.number port refl (search rules) c.index-port.ensures in
    let zeros : c.in_ok-samples.samples.items ≡ replicate port.delay (zero_of_port t port) = c.in_ok-samples.ensures.items_if_clones_equal (λ y h. h) ∙ ap (replicate port.delay) c.zero_of-zero.ensures in
    c.put_given.ensures ∙ ap (λ g. given_to g c.in_ok-samples.samples.items) c.as_slice.ensures ∙ ap (given_to port.initials) zeros ∙ port_given t port ∙ ap (initial_samples t) (sym at)
