use Rattle.std.proofs.Common.{◌∙◌, ap, refl}
use Rattle.tdf_stim.proofs.Cells.{literal_more}
use Rattle.tdf_stim.specs.Driver.{cell_literal, literals}
use Rattle.tdf_stim.specs.machine.Cells.{above}
use Rattle.tdf_stim.proofs.literals.literals.Goals as goal

pub loop-text-init : goal.loop-text-init
unfolding literals
loop-text-init c = c.new-column.ensures.items

pub loop-text-preserved : goal.loop-text-preserved
loop-text-preserved c = literal_more c.args.start.now c.in_ok-value.value c.args.cells.now c.loop-text.text-index _ c.loop-text.column.items c.push.new.self.items
    c.loop-text-test.true c.loop-text.invariant
    (c.in_ok-value.ensures ∙ ap (λ l. cell_literal (above c.args.start.now l) c.first_word.result.now) c.as_slice.ensures.value
    ∙ ap (cell_literal (above c.args.start.now c.loop-text.column.items)) c.first_word.ensures)
    c.in_ok-push.ensures.items
