use Rattle.std.proofs.Common.{rules, ◌<◌, ◌-◌, false, length}
use Rattle.std.proofs.lemmas.Option.{slice_get-get_or}
use Rattle.std.specs.Prelude.{slice_index_or}
use Rattle.tdf_convert.proofs.Added.{last_no, last_yes, no_of, yes_of}
use Rattle.tdf_convert.specs.declared.links.Link.{Link}
use Rattle.tdf_convert.proofs.links.samplers.Goals as goal

pub returns-then-not-last : goal.returns-then-not-last
returns-then-not-last c =
    let zero : Link = record { actor = 0; signal = 0; sampler = false; place = 0 } in
    let inside : length c.args.links.now - 1 < length c.args.links.now = search rules in
    let at = slice_get-get_or c.args.links.now (length c.args.links.now - 1) zero inside in
    last_no c.args.links.now (slice_index_or c.args.links.now (length c.args.links.now - 1) zero) c.requires.links at (no_of _ c.if-not-last.true)

pub returns : goal.returns
returns c =
    let zero : Link = record { actor = 0; signal = 0; sampler = false; place = 0 } in
    let inside : length c.args.links.now - 1 < length c.args.links.now = search rules in
    let at = slice_get-get_or c.args.links.now (length c.args.links.now - 1) zero inside in
    last_yes c.args.links.now (slice_index_or c.args.links.now (length c.args.links.now - 1) zero) c.requires.links at (yes_of _ c.if-not-last.false)
