use Rattle.std.proofs.Common.{length}
use Rattle.tdf_streams.proofs.Api.{are_sound}
use Rattle.tdf_streams.specs.Cluster.{cluster_net}
use Rattle.tdf_streams.specs.Periods.{done_before}
use Rattle.tdf_streams.specs.Starts.{held_at_head}
use Rattle.tdf_streams_onward.proofs.Enough.{known_enough}
use Rattle.tdf_streams_onward.proofs.laws.law_enough.Goals as goal

pub returns : goal.returns
returns c = λ model flat cluster start first later reads limits records.
    known_enough (cluster_net model flat cluster start) (length flat.tables.actors) (held_at_head flat.tables cluster) (done_before first) reads first later
    (are_sound model flat cluster start limits first later records)
