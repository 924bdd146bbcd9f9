use Rattle.std.proofs.Common.{arith}
use Rattle.tdf_streams.proofs.Api.{is_wired}
use Rattle.tdf_exec.proofs.laying.cluster_groups.Goals as goal

pub of-requires-clause-wired : goal.of-requires-clause-wired
of-requires-clause-wired c = is_wired c.args.flat.now (c.law_laid.ensures.laid c.args.flat.now c.requires.sound).limits

pub of-requires-clause-count : goal.of-requires-clause-count
of-requires-clause-count c = let count = c.cluster_count.ensures in omega (arith, count)
