use Rattle.std.proofs.Common.{length, ap, sym, ◌≡◌, ◌∙◌}
use Rattle.tdf_save_reading.proofs.ModuleReads.{why_weaker}
use Rattle.tdf_save_reading.proofs.ValueSteps.{block_counted, block_miscounted, no_block}
use Rattle.tdf_save_reading.proofs.values.read_block.Goals as goal

pub returns-else-not-has_cells-clause-is : goal.returns-else-not-has_cells-clause-is
returns-else-not-has_cells-clause-is c =
    let path : c.deref.result.now ≡ c.args.member.now.path = c.deref.ensures.value ∙ ap (λ m. m.path) c.member.view_is in
    block_counted c.args.member.now c.deref.result.now c.args.text.now c.in-Ok.nums.items c.in-Ok.rest.now path c.in-Ok.ensures.is
    (ap length (sym c.deref-in-Ok.ensures.value) ∙ c.has_cells.ensures.yes c.if-not-has_cells.false)

pub returns-then-not-has_cells-clause-refused : goal.returns-then-not-has_cells-clause-refused
returns-then-not-has_cells-clause-refused c =
    let path : c.deref.result.now ≡ c.args.member.now.path = c.deref.ensures.value ∙ ap (λ m. m.path) c.member.view_is in
    block_miscounted c.args.member.now c.deref.result.now c.args.text.now c.in-Ok.nums.items c.in-Ok.rest.now path c.in-Ok.ensures.is
    (λ e. c.has_cells.ensures.no c.if-not-has_cells.true (ap length c.deref-in-Ok.ensures.value ∙ e))

pub returns-in-Err-clause-refused : goal.returns-in-Err-clause-refused
returns-in-Err-clause-refused c =
    let path : c.deref.result.now ≡ c.args.member.now.path = c.deref.ensures.value ∙ ap (λ m. m.path) c.member.view_is in
    why_weaker c.in-Err.why (no_block c.args.member.now c.deref.result.now c.args.text.now path) c.in-Err.ensures.refused
