-- With one table for a text, and one fault, each answer comes wherever its cause is there.
use Rattle.tdf_tables.proofs.Wholes.{line_always, table_always}
use Rattle.tdf_tables.proofs.reading.read_table.Goals as goal

pub returns-clause-table_always : goal.returns-clause-table_always
returns-clause-table_always c = table_always c.args.bytes.now c.read.result c.read.ensures.table c.read.ensures.refused

pub returns-clause-line_always : goal.returns-clause-line_always
returns-clause-line_always c = line_always c.args.bytes.now c.read.result c.read.ensures.table c.read.ensures.refused
