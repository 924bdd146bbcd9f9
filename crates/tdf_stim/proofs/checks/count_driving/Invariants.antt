use Rattle.std.proofs.Common.{◌≡◌, ◌≤◌, map, take}
use Rattle.tdf_stim.specs.machine.Counted.{count_driving}
use Rattle.tdf_stim.specs.machine.Maps.{seen}
use Rattle.tdf_stim.proofs.checks.count_driving.Given as goal

abbrev pub invariant-loop-source : goal.invariant-loop-source
invariant-loop-source l = record {
  count : l.count ≡ count_driving (map seen (take l.source-index l.sources));
  few : l.count ≤ l.source-index;
}
