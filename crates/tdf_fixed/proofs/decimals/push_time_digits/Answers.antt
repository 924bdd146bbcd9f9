-- The digits after the first of `second + rest`, without their last zeros.
use Rattle.std.proofs.Common.{◌++◌, ap, ◌∙◌}
use Rattle.tdf_fixed.proofs.CutDigits.{cut_body}
use Rattle.tdf_fixed.proofs.decimals.push_time_digits.Goals as goal

pub returns-clause-ok : goal.returns-clause-ok
returns-clause-ok c =
    c.in_ok-extend_from_slice.ensures.items
    ∙ ap (λ t. c.args.out.now.items ++ t)
    (cut_body c.args.places c.args.rest c.args.second c.kept_digits.result c.as_bytes.result.now c.requires.places c.requires.second c.requires.rest
    (c.as_bytes.ensures.value ∙ c.format.ensures.text) c.kept_digits.ensures.within c.kept_digits.ensures.zeros c.kept_digits.ensures.last)
