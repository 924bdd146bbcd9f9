-- A firing is grounded in the net of a cluster exactly where it is grounded among the edges of the model, whatever its pace.
use Rattle.std.proofs.Common.{◌≡◌, ◌∙◌, ℕ, zero, suc, ◌+◌, ◌-◌, ◌*◌, ◌/◌, ◌<◌, ◌≤◌, Some, List, length, slice_get, slice_index, ap, sym, subst, inl, inr, arith}
use Rattle.tdf_dynamic_plans.specs.Attributes.{clusters_of}
use Rattle.tdf_bind_invariants.specs.Below.{Flat}
use Rattle.tdf_streams.proofs.Lists.{some_same}
use Rattle.tdf_streams.specs.Grounds.{EndsIn, IsGrounded, Takes}
use Rattle.tdf_graph.specs.declared.actors.Edge.{Edge}
use Rattle.tdf_bind_invariants.specs.Limits.{AreWithinLimits}
use Rattle.tdf_schedule.specs.Needs.{IsGrounded as IsPlanned, Takes as PlanTakes, Within}
use Rattle.tdf_streams.proofs.Edges.{EdgeIn, edge_in, edge_number, held_own, one_cluster, rated}
use Rattle.tdf_streams.proofs.Rows.{at_contains}
use Rattle.tdf_streams.specs.Cluster.{Start, cluster_net}
use Rattle.tdf_streams.specs.Periods.{IsTimedRecord, PeriodRecord, net_in}
use Rattle.tdf_streams.specs.Places.{reader_of_row, writer_of_row}
use Rattle.tdf_streams.specs.Starts.{held_at_head}
use Rattle.tdf_lang_tree.specs.Pure.{PureTree}

-- what can be done by a time can be done by that time whatever the pace of each actor, if that is none
pub no_pace : (edges : List Edge) (pace : ℕ → ℕ) (f o m a : ℕ) → Within edges pace f o m a → Within edges (λ k. 0) f 0 m a
unfolding Within
no_pace edges pace zero o m a within = absurd within
no_pace edges pace (suc f) o m a within = (omega arith, λ n b needs. no_pace edges pace f o n b (within.1 n b needs))

module _ (model : PureTree) (flat : Flat) (cluster : ℕ) (start : Start) (p : PeriodRecord) (limits : AreWithinLimits flat) (timed : IsTimedRecord flat cluster p) where
  IsInside : ℕ → Type 0
  IsInside m = slice_index (clusters_of flat.tables) m ≡ cluster

  -- a sample that is taken, seen in both
  takes_there : (m a n b : ℕ) → IsInside m → Takes (cluster_net model flat cluster start) (held_at_head flat.tables cluster) p m a n b
      → PlanTakes (net_in flat.tables p).edges m a n b × IsInside n
  unfolding IsInside
  takes_there m a n b inside takes = (
    record {
      edge = rated flat limits cluster p timed e.edge;
      there = at_contains (net_in flat.tables p).edges takes.edge (rated flat limits cluster p timed e.edge) e.net_edge_at;
      reads = reader;
      writes = writer;
      place = takes.place;
      low = subst (λ r. a * r ≤ takes.place) e.reads takes.low;
      high = subst (λ r. takes.place < a * r + r) e.reads takes.high;
      late = subst (λ d. d ≤ takes.place) held takes.late;
      made = takes.made ∙ ap (λ d. (takes.place - d) / slice_index p.writes takes.edge) held ∙ ap (λ w. (takes.place - e.edge.initial) / w) e.writes;
    },
    own,
  )
    where
      e : EdgeIn flat limits cluster p timed takes.edge
      e = edge_in flat limits cluster p timed takes.edge takes.inside

      reader : e.edge.reader ≡ m
      reader = ap reader_of_row (sym e.at) ∙ takes.reads

      writer : e.edge.writer ≡ n
      writer = ap writer_of_row (sym e.at) ∙ takes.writes

      own_writer : slice_index (clusters_of flat.tables) e.edge.writer ≡ cluster
      own_writer = one_cluster flat limits takes.edge e.edge e.at ∙ ap (slice_index (clusters_of flat.tables)) reader ∙ inside

      own : slice_index (clusters_of flat.tables) n ≡ cluster
      own = ap (slice_index (clusters_of flat.tables)) (sym writer) ∙ own_writer

      held : held_at_head flat.tables cluster takes.edge ≡ e.edge.initial
      held = held_own flat limits cluster takes.edge e.edge e.at own_writer

  takes_here : (m a n b : ℕ) → IsInside m → PlanTakes (net_in flat.tables p).edges m a n b
      → Takes (cluster_net model flat cluster start) (held_at_head flat.tables cluster) p m a n b × IsInside n
  unfolding IsInside
  takes_here m a n b inside takes = (
    record {
      edge = number.0;
      inside = number.1;
      reads = ap reader_of_row e.at ∙ reader;
      writes = ap writer_of_row e.at ∙ writer;
      place = takes.place;
      low = subst (λ r. a * r ≤ takes.place) (sym read) takes.low;
      high = subst (λ r. takes.place < a * r + r) (sym read) takes.high;
      late = subst (λ d. d ≤ takes.place) (sym held) takes.late;
      made = takes.made ∙ ap (λ d. (takes.place - d) / takes.edge.write_rate) (sym held) ∙ ap (λ w. (takes.place - held_at_head flat.tables cluster number.0) / w) (sym write);
    },
    ap (slice_index (clusters_of flat.tables)) (sym writer) ∙ own_writer,
  )
    where
      number : (e : ℕ) × (e < length flat.tables.edges) × (slice_get (net_in flat.tables p).edges e ≡ Some takes.edge)
      number = edge_number flat limits cluster p timed takes.edge takes.there

      e : EdgeIn flat limits cluster p timed number.0
      e = edge_in flat limits cluster p timed number.0 number.1

      same : rated flat limits cluster p timed e.edge ≡ takes.edge
      same = some_same (rated flat limits cluster p timed e.edge) takes.edge (sym e.net_edge_at ∙ number.2)

      reader : e.edge.reader ≡ m
      reader = ap (λ (x : Edge). x.reader) same ∙ takes.reads

      writer : e.edge.writer ≡ n
      writer = ap (λ (x : Edge). x.writer) same ∙ takes.writes

      read : slice_index p.reads number.0 ≡ takes.edge.read_rate
      read = e.reads ∙ ap (λ (x : Edge). x.read_rate) same

      write : slice_index p.writes number.0 ≡ takes.edge.write_rate
      write = e.writes ∙ ap (λ (x : Edge). x.write_rate) same

      own_writer : slice_index (clusters_of flat.tables) e.edge.writer ≡ cluster
      own_writer = one_cluster flat limits number.0 e.edge e.at ∙ ap (slice_index (clusters_of flat.tables)) reader ∙ inside

      held : held_at_head flat.tables cluster number.0 ≡ takes.edge.initial
      held = held_own flat limits cluster number.0 e.edge e.at own_writer ∙ ap (λ (x : Edge). x.initial) same

  ends_in : (f o m a : ℕ) → IsInside m → Within (net_in flat.tables p).edges (λ k. 0) f o m a → EndsIn (cluster_net model flat cluster start) (held_at_head flat.tables cluster) p f m a
  unfolding Within EndsIn IsInside
  ends_in zero o m a inside within = absurd within
  ends_in (suc f) o m a inside within = λ n b needs. elim needs [
    | inl before ↦ ends_in f o n b (ap (slice_index (clusters_of flat.tables)) before.0 ∙ inside) (within.1 n b (inl before))
    | inr takes ↦ (let t = takes_there m a n b inside takes in ends_in f o n b t.1 (within.1 n b (inr t.0)))
  ]

  within_of : (f m a : ℕ) → IsInside m → EndsIn (cluster_net model flat cluster start) (held_at_head flat.tables cluster) p f m a → Within (net_in flat.tables p).edges (λ k. 0) f 0 m a
  unfolding Within EndsIn IsInside
  within_of zero m a inside ends = absurd ends
  within_of (suc f) m a inside ends = (
    omega arith,
    λ n b needs. elim needs [
      | inl before ↦ within_of f n b (ap (slice_index (clusters_of flat.tables)) before.0 ∙ inside) (ends n b (inl before))
      | inr takes ↦ (let t = takes_here m a n b inside takes in within_of f n b t.1 (ends n b (inr t.0)))
    ],
  )

  pub grounded_there : (m a : ℕ) → slice_index (clusters_of flat.tables) m ≡ cluster → IsPlanned (net_in flat.tables p).edges (λ k. 0) m a
      → IsGrounded (cluster_net model flat cluster start) (held_at_head flat.tables cluster) p m a
  unfolding IsInside
  grounded_there m a inside planned = (planned.0, ends_in planned.0 planned.1 m a inside planned.2)

  pub grounded_here : (m a : ℕ) → slice_index (clusters_of flat.tables) m ≡ cluster → IsGrounded (cluster_net model flat cluster start) (held_at_head flat.tables cluster) p m a
      → IsPlanned (net_in flat.tables p).edges (λ k. 0) m a
  unfolding IsInside
  grounded_here m a inside grounded = (grounded.0, 0, within_of grounded.0 m a inside grounded.1)
