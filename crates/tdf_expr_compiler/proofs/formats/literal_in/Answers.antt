use Rattle.std.proofs.Common.{◌≡◌, ◌∙◌, rules}
use Rattle.tdf_base.specs.Number.{numeral_of}
use Rattle.tdf_expr_compiler.proofs.Literals.{literal_read}
use Rattle.tdf_expr_compiler.proofs.formats.literal_in.Goals as goal
use Rattle.tdf_expr_semantics.specs.Value.{literal_number}

pub returns : goal.returns
returns c =
    let value = c.args.value.now in
    let num : c.read-num.result ≡ literal_number c.args.shape value.minus (numeral_of value.digits) =
    c.read-num.ensures _ (literal_read c.args.shape c.format_of.result value.minus value.digits _ c.format_of.ensures c.requires.number
    (c.deref.ensures.value ∙ c.in_ok-text.ensures)) in
    search rules
