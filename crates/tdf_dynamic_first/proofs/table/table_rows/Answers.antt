use Rattle.std.proofs.Common.{◌++◌, ◌∙◌, [], ap, refl}
use Rattle.std.proofs.Math.ListN.{get_or}
use Rattle.std.specs.List.{cons_option}
use Rattle.tdf_dynamic_first.proofs.Own.{rows_next}
use Rattle.tdf_dynamic_first.specs.machine.Placed.{attrs_of}
use Rattle.tdf_dynamic_first.proofs.table.table_rows.Goals as goal

pub loop-i-preserved : goal.loop-i-preserved
loop-i-preserved c =
    rows_next (attrs_of c.args.flat.now) c.args.actors.now c.loop-i.i (get_or c.args.actors.now c.loop-i.i 0) c.loop-i.rows.items c.put_attrs.new.rows.items
    c.loop-i-test.true c.loop-i.invariant refl (c.in_ok-put_attrs.ensures ∙ ap (λ o. c.loop-i.rows.items ++ cons_option o []) c.in_ok-attrs.ensures)
