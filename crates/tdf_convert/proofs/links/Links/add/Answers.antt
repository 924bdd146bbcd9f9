use Rattle.std.proofs.Common.{◌∙◌, ap, List, subst, sym}
use Rattle.tdf_convert.proofs.Added.{links_more}
use Rattle.tdf_convert.specs.Links.{AreLinks, samplers_in}
use Rattle.tdf_convert.specs.declared.links.Link.{Link}
use Rattle.tdf_convert.proofs.links.Links.add.Goals as goal

pub returns-clause-links : goal.returns-clause-links
returns-clause-links c =
    let link : Link = record { actor = c.args.actor; signal = c.args.signal; sampler = c.args.sampler; place = c.in-Some.place } in
    subst (λ (l : List Link). AreLinks l (samplers_in l)) (sym c.in_ok-push.ensures.items)
    (links_more c.args.self.now.list.items link c.requires.links c.requires.order (c.in-Some.ensures ∙ ap samplers_in c.deref.ensures.value))
