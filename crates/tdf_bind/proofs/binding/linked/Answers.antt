use Rattle.std.proofs.Common.{◌∙◌, sym}
use Rattle.tdf_bind.proofs.Linked.{line_fault}
use Rattle.tdf_bind.proofs.binding.linked.Goals as goal
use Rattle.tdf_lang_tree.specs.Views.{pure_tree}

pub returns-in-Ok-Some-clause-refused : goal.returns-in-Ok-Some-clause-refused
returns-in-Ok-Some-clause-refused c = line_fault (pure_tree c.args.tree.now) c.in-Ok-Some.fault (sym c.in-Ok-Some.field-0-is ∙ c.in-Ok-Some.ensures)
