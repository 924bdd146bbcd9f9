use Rattle.std.proofs.Common.{sym, append-nil}
use Rattle.tdf_tables.proofs.Texts.{before_none}
use Rattle.tdf_tables.proofs.writing.push_rows.Goals as goal

pub loop-k-init : goal.loop-k-init
loop-k-init c = rw (before_none c.args.rows.now) (sym (append-nil c.args.out.now.items))
