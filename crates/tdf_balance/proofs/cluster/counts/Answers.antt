use Rattle.tdf_balance.proofs.Answered.{says_size, always_rates, always_size, always_counts}
use Rattle.tdf_balance.proofs.cluster.counts.Goals as goal

pub returns-clause-size : goal.returns-clause-size
returns-clause-size c = says_size c.args.net.now.edges.items c.args.clusters.now c.args.cluster c.answer.result c.answer.ensures

pub returns-clause-rates_always : goal.returns-clause-rates_always
returns-clause-rates_always c = always_rates c.args.net.now.edges.items c.args.clusters.now c.args.cluster c.answer.result c.answer.ensures

pub returns-clause-size_always : goal.returns-clause-size_always
returns-clause-size_always c = always_size c.args.net.now.edges.items c.args.clusters.now c.args.cluster _ c.args.net.now.in_range.edges_fit c.requires.clusters c.requires.has
    c.answer.result c.answer.ensures

pub returns-clause-counts_always : goal.returns-clause-counts_always
returns-clause-counts_always c = always_counts c.args.net.now.edges.items c.args.clusters.now c.args.cluster _ c.args.net.now.in_range.edges_fit c.requires.clusters c.requires.has
    c.answer.result c.answer.ensures
