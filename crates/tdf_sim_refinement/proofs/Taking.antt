-- A sink takes one sample an activation, in each period.
use Rattle.std.proofs.Common.{◌≡◌, ◌∙◌, ℕ, ◌<◌, List, [], ◌∷◌, ◌++◌, Some, length, sym, ap, subst}
use Rattle.std.proofs.lemmas.Option.{get_or_from_slice_get, slice_get_within}
use Rattle.std.specs.List.{All}
use Rattle.std.specs.Prelude.{slice_get, slice_index}
use Rattle.tdf_dynamic_plans.specs.Attributes.{AttrsOf}
use Rattle.tdf_dynamic_plans.specs.Rates.{net_of}
use Rattle.tdf_bind.specs.Flat.{IsFlatOf}
use Rattle.tdf_bind.specs.declared.model.Flat.{Flat}
use Rattle.tdf_streams.proofs.Api.{get_inside, get_low}
use Rattle.tdf_graph.specs.declared.actors.Actor.TheVariants as actor
use Rattle.tdf_sim_history.specs.World.{ClusterAt}
use Rattle.tdf_exec.proofs.Api.{edge_row, module_kind, sink_rates}
use Rattle.tdf_exec.specs.Below.{IsEdgeRow, Reads}
use Rattle.tdf_bind_invariants.specs.Limits.{AreWithinLimits}
use Rattle.tdf_sim_refinement.proofs.Due.{true_false}
use Rattle.tdf_sim_refinement.proofs.Writing.{is_sink}
use Rattle.tdf_sim_refinement.specs.At.{HaveTakenOne}
use Rattle.tdf_sim_refinement.specs.Laws.{SinksHaveTakenOne}
use Rattle.tdf_streams.specs.Periods.{PeriodRecord, read_rates}
use Rattle.tdf_streams.specs.Places.{actor_kind, reader_of_row}
use Rattle.tdf_lang_tree.specs.Pure.{PureTree}
use Rattle.tdf_bind_connections.specs.declared.edges.EdgeRow.{EdgeRow}
use Rattle.tdf_bind_connections.specs.declared.modules.PortRow.{PortRow}
use Rattle.tdf_sim_history.proofs.Api.{record_at}
use Rattle.tdf_sim_history.specs.WorldLaws.{AreRecordsOf}

all_at : {X : Type 0} (P : X → Type 0) (xs : List X) (j : ℕ) (x : X) → All P xs → slice_get xs j ≡ Some x → P x
all_at P xs j x all is = subst P (get_or_from_slice_get xs j x x is) (all j x (slice_get_within xs j x is))

module _ (model : PureTree) (flat : Flat) (is : IsFlatOf model flat) (limits : AreWithinLimits flat) where
  -- no port's module is a sink
  no_module : (m number : ℕ) (port : PortRow) → slice_get flat.tables.ports number ≡ Some port → port.«module» ≡ m → actor_kind flat.tables m ≡ Some actor.Sink → ⊥
  unfolding is_sink
  no_module m number port at own kind =
      let below = all_at (λ (p : PortRow). p.«module» < length flat.tables.modules) flat.tables.ports number port limits.in_range.port_modules at in
      true_false (sym (ap is_sink kind) ∙ ap is_sink (module_kind (length flat.tables.modules) flat.tables limits.actors m (subst (λ k. k < length flat.tables.modules) own below)))

  by_row : (table : List AttrsOf) (m e : ℕ) (edge : EdgeRow) → slice_get flat.tables.edges e ≡ Some edge → edge.reader ≡ m → actor_kind flat.tables m ≡ Some actor.Sink → IsEdgeRow flat.tables edge
      → slice_index (read_rates (net_of flat.tables table)) e ≡ 1
  by_row table m e edge at reader kind (IsEdgeRow.Between port out driver h) = absurd (no_module m edge.port port h.port_at (sym h.reader ∙ reader) kind)
  by_row table m e edge at reader kind (IsEdgeRow.FromSampler port h) = absurd (no_module m edge.port port h.port_at (sym h.reader ∙ reader) kind)
  by_row table m e edge at reader kind (IsEdgeRow.ToSink port h) = (sink_rates flat.tables table e edge port at h).read

  pub takes_one : (table : List AttrsOf) (m e : ℕ) → actor_kind flat.tables m ≡ Some actor.Sink → Reads flat.tables m e → slice_index (read_rates (net_of flat.tables table)) e ≡ 1
  takes_one table m e kind r = let row = get_inside flat.tables.edges e r.inside in
      by_row table m e row.0 row.1 (sym (ap reader_of_row row.1) ∙ r.reader) kind (edge_row model flat is e row.0 row.1)

  module _ (number : ℕ) (h : ClusterAt) (records : AreRecordsOf flat number h.begun (h.old ++ h.now ∷ [])) where
    old_one : (m e i : ℕ) (p : PeriodRecord) → actor_kind flat.tables m ≡ Some actor.Sink → Reads flat.tables m e → slice_get h.old i ≡ Some p → slice_index p.reads e ≡ 1
    old_one m e i p kind r at =
        let w = record_at flat number h.begun (h.old ++ h.now ∷ []) i p records (get_low h.old (h.now ∷ []) i (slice_get_within h.old i p at) ∙ at) in
        ap (λ l. slice_index l e) w.timed.reads_are ∙ takes_one p.info.table m e kind r

    pub have_one : HaveTakenOne flat.tables number h
    have_one = record {
      each = λ m e sink r i p below. (
          let q = get_inside h.old i below in
          subst (λ (o : PeriodRecord). slice_index o.reads e ≡ 1) (sym (get_or_from_slice_get h.old i q.0 p q.1)) (old_one m e i q.0 sink.kind_is r q.1));
    }

pub sinks_take_one : SinksHaveTakenOne
sinks_take_one model flat number h c is limits at = have_one model flat is limits number h at.records
