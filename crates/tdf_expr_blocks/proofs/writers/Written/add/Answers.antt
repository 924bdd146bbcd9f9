use Rattle.std.proofs.Common.{◌∙◌, ap}
use Rattle.std.specs.Prelude.{map}
use Rattle.tdf_expr_blocks.specs.machine.Written.{with_one}
use Rattle.tdf_expr_blocks.proofs.Writing.{added_bytes}
use Rattle.tdf_expr_blocks.proofs.writers.Written.add.Goals as goal

pub returns : goal.returns
returns c = ap (map (λ k. k.now)) c.in_ok-insert_full.ensures.keys ∙ added_bytes c.self.inside.set.keys c.args.name
    ∙ ap (λ ns. with_one ns c.args.name.now) c.self.view_is
