use Rattle.tdf_graph.proofs.Unique.{same_clusters}
use Rattle.tdf_graph.proofs.laws.law_clusters.Goals as goal

pub returns : goal.returns
returns c = same_clusters
