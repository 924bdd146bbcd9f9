use Rattle.std.proofs.Common.{map}
use Rattle.tdf_tables.proofs.Texts.{err_then, ok_then, part_joined, whole_joined}
use Rattle.tdf_tables.specs.Rows.{row_of}
use Rattle.tdf_tables.proofs.writing.push_table.Goals as goal

pub returns-clause-whole : goal.returns-clause-whole
returns-clause-whole c = ok_then c.push_rows.result
    (whole_joined c.args.out.now.items c.push_head.new.out.items c.push_rows.new.out.items c.args.table.now (map row_of c.rows.result.now) c.in_ok-push_head.ensures.ok c.rows.ensures)
    c.push_rows.ensures.whole

pub returns-clause-part : goal.returns-clause-part
returns-clause-part c = err_then c.push_rows.result
    (part_joined c.args.out.now.items c.push_head.new.out.items c.push_rows.new.out.items c.args.table.now (map row_of c.rows.result.now) c.in_ok-push_head.ensures.ok c.rows.ensures)
    c.push_rows.ensures.part
