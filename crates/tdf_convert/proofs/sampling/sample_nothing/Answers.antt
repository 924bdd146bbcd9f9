use Rattle.std.proofs.Common.{arith, rules, ◌≡◌, ◌∙◌, [], length, List, subst, sym, true}
use Rattle.std.proofs.lemmas.Bool.Decides.{nat_tests}
use Rattle.std.proofs.lemmas.List.{nil_from_length}
use Rattle.std.specs.Vec.{vec_len}
use Rattle.tdf_convert.proofs.Samples.{none_sampled}
use Rattle.tdf_convert.specs.Sampled.{AreSampled}
use Rattle.tdf_convert.specs.declared.links.Link.{Link}
use Rattle.tdf_convert.proofs.sampling.sample_nothing.Goals as goal

pub returns : goal.returns
returns c told entries offset values inputs =
    let count : vec_len c.args.links.now.list ≡ length c.args.links.now.list.items = search rules in
    let empty = sym c.is_empty.ensures ∙ told in
    let zero : length c.args.links.now.list.items ≡ 0 = grind (arith, nat_tests, empty, count) in
    let none : c.args.links.now.list.items ≡ [] = nil_from_length c.args.links.now.list.items zero in
    subst (λ (l : List Link). AreSampled entries offset l values inputs inputs) (sym none) (none_sampled entries offset values inputs)
