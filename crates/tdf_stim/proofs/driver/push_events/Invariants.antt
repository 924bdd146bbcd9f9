use Rattle.std.proofs.Common.{◌≡◌, ◌++◌, ◌-◌, map}
use Rattle.std.specs.List.{range_with_len}
use Rattle.tdf_lang_tree.specs.Views.{pure_de_line}
use Rattle.tdf_stim.specs.Driver.{event_line}
use Rattle.tdf_stim.proofs.driver.push_events.Given as goal

abbrev pub invariant-loop-number : goal.invariant-loop-number
invariant-loop-number l = map pure_de_line l.lines.items ≡ map pure_de_line l.fn.lines.items ++ map event_line (range_with_len 1 (l.number - 1))
