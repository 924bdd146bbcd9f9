-- What is pushed so far, with what is left.
use Rattle.std.proofs.Common.{◌≡◌, ◌++◌, drop}
use Rattle.std.specs.List.{flat_map}
use Rattle.std.specs.Prelude.{map}
use Rattle.tdf_bind_ports.proofs.ports.de_lines.Given as goal
use Rattle.tdf_bind_ports.specs.Ports.{port_of_de_line}
use Rattle.tdf_lang_tree.specs.Views.{pure_de_line}

abbrev pub invariant-loop-line : goal.invariant-loop-line
invariant-loop-line l = map (λ p. p.now) l.lines.items ++ flat_map port_of_de_line (map pure_de_line (drop l.line-index l.line-items)) ≡ flat_map port_of_de_line (map pure_de_line l.line-items)
