use Rattle.std.proofs.Common.{List, [], length, ◌∙◌, ap}
use Rattle.std.specs.Prelude.{None}
use Rattle.tdf_bind_hierarchy.proofs.Whole.{tables_next}
use Rattle.tdf_bind_hierarchy.specs.Tables.{TablesOf}
use Rattle.tdf_bind_hierarchy.specs.declared.tables.SignalNumber.{SignalNumber}
use Rattle.tdf_bind_hierarchy.specs.machine.Walk.{walked}
use Rattle.tdf_bind_hierarchy.proofs.walk.tables_of.Goals as goal

pub returns : goal.returns
returns c = tables_next c.args.blocks.now c.args.top c.walk_block.new.tables c.requires
    (c.in_ok-walk_block.ensures
    ∙ ap (λ (o : List SignalNumber). walked c.args.blocks.now (length c.args.blocks.now) c.args.top None o c.no_tables-tables.result) (c.deref.ensures.value ∙ c.new-outer.ensures.items)
    ∙ ap (λ (t : TablesOf). walked c.args.blocks.now (length c.args.blocks.now) c.args.top None [] t) c.no_tables-tables.ensures)
