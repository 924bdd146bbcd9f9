use Rattle.std.proofs.Common.{rules, SFits, ◌≡◌, ◌≤◌, ◌*◌, ◌^◌, pos, ◌*ℤ◌}
use Rattle.std.proofs.lemmas.Int.{to_z-of_z}
use Rattle.std.specs.Int.{w64}
use Rattle.std.specs.Prelude.{unsigned_abs}
use Rattle.tdf_expr_cuts.proofs.Keeping.{raised_abs, range_raised}
use Rattle.tdf_expr_cuts.proofs.cuts.multiple_in.Goals as goal

pub returns-clause-small : goal.returns-clause-small
returns-clause-small c =
    let fits : SFits w64 c.multiple.result = search rules in
    let is : c.multiple.result ≡ c.args.num *ℤ pos (2 ^ c.args.bits) = search rules in
    let times : unsigned_abs c.args.num * 2 ^ c.args.bits ≤ 2 ^ 61 = range_raised c.args.num c.args.by.now.wl c.args.bits c.requires.few.0 c.requires.few.1 c.requires.range in
    let small : unsigned_abs c.multiple.result ≤ 2 ^ 61 = raised_abs c.args.num c.multiple.result c.args.bits is times in
    rw (to_z-of_z w64 c.multiple.result fits) small
