use Rattle.std.proofs.Common.{rules, ◌≡◌, Some, length, slice_get, refl}
use Rattle.std.proofs.lemmas.Option.{slice_get_read}
use Rattle.tdf_events.proofs.Tables.{sensitive_more}
use Rattle.tdf_events.proofs.making.by_event.Goals as goal

pub loop-i-preserved : goal.loop-i-preserved
loop-i-preserved c =
    let at : slice_get c.args.processes.now c.loop-i.i ≡ Some c.index-processes-i.result = slice_get_read c.args.processes.now (length c.args.processes.now) c.loop-i.i c.index-processes-i.result refl (search rules) (search rules) in
    record {
      long = search rules;
      lists = sensitive_more (λ row. row.events) c.args.processes.now c.loop-i.i c.index-processes-i.result c.loop-i.lists c.add_all.new.lists at c.loop-i.invariant.lists (search rules);
    }
