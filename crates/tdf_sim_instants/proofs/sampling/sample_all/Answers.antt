use Rattle.tdf_sim_instants.proofs.Sampled.{links_now, sampled_more, signals_now}
use Rattle.tdf_sim_instants.specs.Sampling.{sampling_at}
use Rattle.tdf_sim_instants.proofs.sampling.sample_all.Goals as goal

pub sample_turn-requires-clause-links : goal.sample_turn-requires-clause-links
sample_turn-requires-clause-links c =
    links_now (sampling_at c.args.time c.args.since.now c.args.clusters.now c.args.links.now c.args.values.now) c.args.inputs.now.items c.requires c.loop-n.n c.loop-n.inputs.items c.loop-n.invariant c.loop-n-test.true
    c.index-clusters-n.result c.index-links-n.result c.index_mut.result.now c.index-clusters-n.is c.index-links-n.is c.index_mut.ensures.value

pub sample_turn-requires-clause-signals : goal.sample_turn-requires-clause-signals
sample_turn-requires-clause-signals c =
    signals_now (sampling_at c.args.time c.args.since.now c.args.clusters.now c.args.links.now c.args.values.now) c.args.inputs.now.items c.requires c.loop-n.n c.loop-n.inputs.items c.loop-n.invariant c.loop-n-test.true
    c.index-clusters-n.result c.index-links-n.result c.index_mut.result.now c.index-clusters-n.is c.index-links-n.is c.index_mut.ensures.value

pub loop-n-preserved : goal.loop-n-preserved
loop-n-preserved c =
    sampled_more (sampling_at c.args.time c.args.since.now c.args.clusters.now c.args.links.now c.args.values.now) c.args.inputs.now.items c.requires c.loop-n.n c.loop-n.inputs.items c.loop-n.invariant c.loop-n-test.true
    c.index-clusters-n.result c.index-links-n.result c.index_mut.result.now c.index-clusters-n.is c.index-links-n.is c.index_mut.ensures.value
    c.sample_turn.new.inputs c.sample_turn.ensures.due c.sample_turn.ensures.idle c.sample_turn.ensures.long
