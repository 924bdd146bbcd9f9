use Rattle.std.proofs.Common.{rules, ◌≡◌, ◌∙◌, ◌<◌, Some, ap, length, refl, sym, slice_get}
use Rattle.std.proofs.lemmas.Option.{slice_get_read}
use Rattle.tdf_exec_layout.proofs.Gathers.{ends_next}
use Rattle.tdf_exec_layout.proofs.Rows.{all_at}
use Rattle.tdf_exec_layout.specs.machine.Ends.{read_by, written_by}
use Rattle.tdf_bind_tables.specs.FlatTables.{FlatTablesOf}
use Rattle.tdf_bind_connections.specs.declared.edges.EdgeRow.{EdgeRow}
use Rattle.tdf_exec_layout.proofs.gathering.gathered.Goals as goal

pub loop-e-preserved : goal.loop-e-preserved
loop-e-preserved c =
    let t = c.args.tables.now in
    let edge : EdgeRow = c.index-edge.result.now in
    let at : slice_get t.edges c.loop-e.e ≡ Some edge = sym (ap (λ (x : FlatTablesOf). slice_get x.edges c.loop-e.e) c.tables.view_is) ∙ slice_get_read c.tables.inside.edges.items (length c.tables.inside.edges.items) c.loop-e.e edge refl (search rules) c.index-edge.ensures in
    let reader : edge.reader < length t.actors = all_at (λ (x : EdgeRow). x.reader < length t.actors) t.edges c.loop-e.e edge c.requires.in_range.edge_readers at in
    let writer : edge.writer < length t.actors = all_at (λ (x : EdgeRow). x.writer < length t.actors) t.edges c.loop-e.e edge c.requires.in_range.edge_writers at in
    let r : c.put_reader.new.rows.items ≡ read_by t c.loop-e.e edge c.loop-e.rows.items = c.in_ok-put_reader.ensures in
    let w : c.put_writer.new.rows.items ≡ written_by t c.loop-e.e edge c.put_reader.new.rows.items = c.in_ok-put_writer.ensures in
    ends_next t c.loop-e.e edge at c.loop-e.rows.items c.loop-e.invariant reader writer c.put_writer.new.rows.items
    (w ∙ ap (written_by t c.loop-e.e edge) r)
