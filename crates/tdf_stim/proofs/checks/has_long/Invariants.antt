use Rattle.std.proofs.Common.{◌≡◌, map, drop}
use Rattle.tdf_stim.specs.Drivable.{has_long}
use Rattle.tdf_stim.specs.machine.Maps.{seen}
use Rattle.tdf_tables.specs.Words.{words_of}
use Rattle.tdf_stim.proofs.checks.has_long.Given as goal

abbrev pub invariant-loop-source : goal.invariant-loop-source
invariant-loop-source l = has_long (map seen (drop l.source-index l.sources)) (words_of l.rest) ≡ has_long (map seen l.sources) (words_of l.fn.cells)
