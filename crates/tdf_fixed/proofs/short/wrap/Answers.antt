-- The difference is the one number of the range.
use Rattle.std.proofs.Common.{◌≡◌, pos, ◌-ℤ◌, ◌∙◌, to_z, rules}
use Rattle.std.proofs.lemmas.Int.{to_z-of_z}
use Rattle.std.specs.Int.{w64}
use Rattle.std.specs.Prelude.{FitsSigned}
use Rattle.tdf_fixed.proofs.Shorts.{wrapped_rest}
use Rattle.tdf_fixed.proofs.short.wrap.Goals as goal

pub returns : goal.returns
returns c =
    let fits : FitsSigned w64 (to_z w64 c.rest-rest.result -ℤ to_z w64 c.excess.result) = search rules in
    let rest : to_z w64 c.rest-rest.result ≡ pos c.rest-rest.result = search rules in
    let excess : to_z w64 c.excess.result ≡ pos c.excess.result = search rules in
    to_z-of_z w64 (to_z w64 c.rest-rest.result -ℤ to_z w64 c.excess.result) fits
    ∙ rw (rest, excess, c.excess.ensures.value, c.rest-rest.ensures.value, to_z-of_z w64 c.args.num c.ranges.num)
    (wrapped_rest c.args.signed c.args.wl c.args.num c.requires.0)
