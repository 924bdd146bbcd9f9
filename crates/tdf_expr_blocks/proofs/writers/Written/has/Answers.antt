use Rattle.std.proofs.Common.{◌∙◌, ap}
use Rattle.tdf_expr_blocks.specs.machine.Written.{has}
use Rattle.tdf_expr_blocks.proofs.Writing.{has_bytes}
use Rattle.tdf_expr_blocks.proofs.writers.Written.has.Goals as goal

pub returns : goal.returns
returns c = c.contains.ensures ∙ has_bytes c.self.inside.set.keys c.args.name.now ∙ ap (λ ns. has ns c.args.name.now) c.self.view_is
