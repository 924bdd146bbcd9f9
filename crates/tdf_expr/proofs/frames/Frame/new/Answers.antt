use Rattle.std.proofs.Common.{◌≡◌, ◌∙◌, ◌<◌, Some, length, map, refl, sym, ap, subst, pos, ◌-◌, arith, replicate}
use Rattle.std.proofs.lemmas.Option.{slice_get_read}
use Rattle.std.specs.Prelude.{slice_get}
use Rattle.tdf_expr.proofs.Ran.{block_starts}
use Rattle.tdf_expr.proofs.frames.Frame.new.Goals as goal
use Rattle.tdf_expr.specs.Frames.{FrameSeen, IsFrameFit}
use Rattle.tdf_expr.specs.Made.{formats_in, block_rates, starts_in}

pub invariant_of-result : goal.invariant_of-result
invariant_of-result c =
    let within : c.args.number < length c.args.checked.now.blocks.items = c.requires.block in
    let held : slice_get c.args.checked.now.blocks.items c.args.number ≡ Some c.index-block.result.now =
    slice_get_read c.args.checked.now.blocks.items (length c.args.checked.now.blocks.items) c.args.number c.index-block.result.now refl within c.index-block.ensures in
    let b = c.index-block.result.now in
    let formats : c.in_ok-formats.formats.items ≡ b.cells.formats.items = c.in_ok-formats.ensures.items ∙ c.deref.ensures.value in
    let rates : c.in_ok-rates.rates.items ≡ b.rates.items = c.in_ok-rates.ensures.items ∙ c.deref-2.ensures.value in
    let cells : c.new.result.cells ≡ b.cells.starts.items = c.new.ensures.cells ∙ c.in_ok-starts.ensures.items ∙ c.deref-3.ensures.value in
    let starts : c.new.result.rates ≡ map (λ r. r.start) b.rates.items = c.new.ensures.rates ∙ c.in_ok-start_rates.ensures ∙ ap (map (λ r. r.start)) c.deref-4.ensures.value in
    block_starts c.args.checked.now c.args.number b c.requires.made held (record { formats = c.in_ok-formats.formats.items; rates = c.in_ok-rates.rates.items; state = c.new.result })
    formats rates cells starts

pub returns-clause-formats : goal.returns-clause-formats
returns-clause-formats c =
    let within : c.args.number < length c.args.checked.now.blocks.items = c.requires.block in
    let held : slice_get c.args.checked.now.blocks.items c.args.number ≡ Some c.index-block.result.now =
    slice_get_read c.args.checked.now.blocks.items (length c.args.checked.now.blocks.items) c.args.number c.index-block.result.now refl within c.index-block.ensures in
    c.in_ok-formats.ensures.items ∙ c.deref.ensures.value ∙ sym (ap formats_in held)

pub returns-clause-rates : goal.returns-clause-rates
returns-clause-rates c =
    let within : c.args.number < length c.args.checked.now.blocks.items = c.requires.block in
    let held : slice_get c.args.checked.now.blocks.items c.args.number ≡ Some c.index-block.result.now =
    slice_get_read c.args.checked.now.blocks.items (length c.args.checked.now.blocks.items) c.args.number c.index-block.result.now refl within c.index-block.ensures in
    c.in_ok-rates.ensures.items ∙ c.deref-2.ensures.value ∙ sym (ap block_rates held)

pub returns-clause-start_cells : goal.returns-clause-start_cells
returns-clause-start_cells c =
    let within : c.args.number < length c.args.checked.now.blocks.items = c.requires.block in
    let held : slice_get c.args.checked.now.blocks.items c.args.number ≡ Some c.index-block.result.now =
    slice_get_read c.args.checked.now.blocks.items (length c.args.checked.now.blocks.items) c.args.number c.index-block.result.now refl within c.index-block.ensures in
    c.new.ensures.cells ∙ c.in_ok-starts.ensures.items ∙ c.deref-3.ensures.value ∙ sym (ap starts_in held)

pub returns-clause-start_rates : goal.returns-clause-start_rates
returns-clause-start_rates c =
    let within : c.args.number < length c.args.checked.now.blocks.items = c.requires.block in
    let held : slice_get c.args.checked.now.blocks.items c.args.number ≡ Some c.index-block.result.now =
    slice_get_read c.args.checked.now.blocks.items (length c.args.checked.now.blocks.items) c.args.number c.index-block.result.now refl within c.index-block.ensures in
    c.new.ensures.rates ∙ c.in_ok-start_rates.ensures ∙ ap (map (λ r. r.start)) (c.deref-4.ensures.value ∙ sym (ap block_rates held))
