use Rattle.std.specs.Global.{Global}
use Rattle.std.specs.Prelude.{Vec}
use Rattle.tdf_convert.specs.declared.links.Links.{Links}
use Rattle.tdf_sim_instants.proofs.Beginning.{linked_all}
use Rattle.tdf_sim_instants.proofs.making.links_of.Goals as goal

pub returns : goal.returns
returns c =
    linked_all (λ (v : Vec Links Global). v.items) c.args.flat.now.tables c.args.count c.all_sampler_links.result c.all_sampler_links.ensures.long c.all_sampler_links.ensures.links
