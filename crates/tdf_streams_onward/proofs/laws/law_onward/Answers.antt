use Rattle.tdf_streams.specs.Cluster.{cluster_net}
use Rattle.tdf_streams_onward.proofs.Back.{whole_resumed}
use Rattle.tdf_streams_onward.proofs.Bodies.{go_by_table}
use Rattle.tdf_streams_onward.proofs.Equal.{go_on_as}
use Rattle.tdf_streams_onward.proofs.Resumed.{resumed_whole}
use Rattle.tdf_streams_onward.specs.Laws.{table_of}
use Rattle.tdf_streams_onward.proofs.laws.law_onward.Goals as goal

pub returns : goal.returns
returns c = record {
  table = go_by_table;
  whole = λ model flat cluster begun old later p q short long rest f y delay initial start goes keeps given g m n t h.
      resumed_whole table_of (cluster_net model flat cluster begun) old later p q short long rest f y delay initial start
      (go_by_table model flat cluster begun) goes.stands goes.active keeps goes.rest goes.starts given g m n t h;
  resumed = λ model flat cluster begun old later p q short long rest f y delay initial start goes keeps given g m n t h.
      whole_resumed table_of (cluster_net model flat cluster begun) old later p q short long rest f y delay initial start
      (go_by_table model flat cluster begun) goes.stands goes.active keeps goes.rest goes.starts given g m n t h;
  on = λ model flat cluster begun old later p q short long rest f y delay initial start goes keeps given enough enough_rest.
      go_on_as table_of (cluster_net model flat cluster begun) old later p q short long rest f y delay initial start
      (go_by_table model flat cluster begun) goes.stands goes.active keeps goes.rest goes.starts given enough enough_rest;
}
