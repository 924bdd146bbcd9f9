use Rattle.tdf_sampling.proofs.Rising.{end_at}
use Rattle.tdf_sampling.proofs.choosing.end_time.Goals as goal

pub returns : goal.returns
returns c = end_at c.args.rows.now _ c.requires
