use Rattle.std.proofs.Common.{◌≡◌, ◌≤◌, ◌++◌, map, take}
use Rattle.tdf_stim.specs.Driver.{bind_lines}
use Rattle.tdf_stim.specs.machine.Counted.{count_driving, labels_in}
use Rattle.tdf_stim.specs.machine.Maps.{seen}
use Rattle.tdf_stim.proofs.driver.push_binds.Given as goal

abbrev pub invariant-loop-source : goal.invariant-loop-source
invariant-loop-source l = record {
  number : l.number ≡ count_driving (take l.source-index (map seen l.sources));
  few : l.number ≤ l.source-index;
  lines : l.lines.items ≡ l.fn.lines.items ++ bind_lines l.name 0 (labels_in (take l.source-index (map seen l.sources)));
}
