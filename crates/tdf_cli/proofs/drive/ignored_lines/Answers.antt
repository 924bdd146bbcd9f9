use Rattle.std.proofs.Common.{◌≡◌, ◌∙◌, List, ℕ, ◌++◌, ap, sym, rules}
use Rattle.tdf_cli.proofs.Driven.{ignored_more, ignored_none}
use Rattle.tdf_cli.specs.Driven.{ignored_line}
use Rattle.tdf_cli.proofs.drive.ignored_lines.Goals as goal

pub loop-label-init : goal.loop-label-init
loop-label-init c = c.new-text.ensures.items ∙ ignored_none c.args.labels.now

pub loop-label-preserved : goal.loop-label-preserved
loop-label-preserved c =
    c.in_ok-push_ignored.ensures ∙ ap (λ (t : List ℕ). t ++ ignored_line c.label-item.result) c.loop-label.invariant
    ∙ sym (ignored_more c.args.labels.now c.loop-label.label-index c.label-item.result c.loop-label-test.true c.label-item.is)
