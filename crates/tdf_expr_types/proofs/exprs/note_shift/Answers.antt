use Rattle.std.proofs.Common.{◌∙◌, sym, ap, Option}
use Rattle.std.specs.Prelude.{nat_lt}
use Rattle.tdf_base.specs.declared.codes.Code.TheVariants as code
use Rattle.tdf_base.proofs.Api.{least_append, least_if}
use Rattle.tdf_base.specs.First.{fault_if, least_with}
use Rattle.tdf_base.specs.declared.first.LineFault.{LineFault}
use Rattle.tdf_expr_symbols.specs.Faults.{wide_faults}
use Rattle.tdf_expr_symbols.specs.Width.{of_shift}
use Rattle.tdf_expr_types.proofs.exprs.note_shift.Goals as goal

pub returns-clause-first : goal.returns-clause-first
returns-clause-first c w is =
    let wide = wide_faults (of_shift c.args.left c.args.bits w) c.args.line in
    let far = fault_if (nat_lt 63 c.args.bits) code.Limit c.args.line in
    c.note_wide.ensures.first (of_shift c.args.left c.args.bits w) (c.shifted.ensures w is)
    ∙ ap (λ (first : Option LineFault). least_with first wide)
    (rw (c.noted.ensures, c.is_far.ensures) (sym (least_if (nat_lt 63 c.args.bits) code.Limit c.args.line c.args.first.now)))
    ∙ sym (least_append c.args.first.now far wide)
