use Rattle.tdf_streams.proofs.Api.{change_crosses, firing_keeps, heads_whole, install_stands, reads_keep, start_stands}
use Rattle.tdf_streams.specs.Cluster.{cluster_net}
use Rattle.tdf_streams.proofs.laws.law_standing.Goals as goal

pub returns : goal.returns
returns c = record {
  starts = λ model flat cluster start. start_stands (cluster_net model flat cluster start);
  reads = λ model flat cluster start. reads_keep (cluster_net model flat cluster start);
  fires = λ model flat cluster start. firing_keeps (cluster_net model flat cluster start);
  crosses = λ model flat cluster start. change_crosses (cluster_net model flat cluster start);
  installs = λ model flat cluster start. install_stands (cluster_net model flat cluster start);
  heads = heads_whole;
}
