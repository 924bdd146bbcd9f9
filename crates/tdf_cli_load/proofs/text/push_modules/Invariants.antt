use Rattle.std.proofs.Common.{◌≡◌, ◌<◌, ◌++◌}
use Rattle.std.specs.List.{flat_map, range_with_len}
use Rattle.tdf_cli_load.specs.Chain.{module_level, module_number}
use Rattle.tdf_cli_load.specs.Text.{module_at}
use Rattle.tdf_cli_load.proofs.text.push_modules.Given as goal

abbrev pub invariant-loop-before : goal.invariant-loop-before
invariant-loop-before l = record {
  below : l.number < 65537;
  number : l.number ≡ module_number l.seed l.before;
  level : l.level ≡ module_level l.seed l.before;
  text : l.out.items ≡ l.initial.out.items ++ flat_map (module_at l.seed) (range_with_len 1 l.before);
}
