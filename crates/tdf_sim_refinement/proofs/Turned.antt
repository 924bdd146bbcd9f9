-- What a cluster traces in its turn.
use Rattle.std.proofs.Common.{◌≡◌, ◌≢◌, ◌∙◌, ℕ, ◌+◌, ◌-◌, ◌<◌, ◌≤◌, List, [], ◌++◌, Some, length, sym, ap, subst, arith}
use Rattle.std.specs.Prelude.{slice_get, slice_index, slice_index_or}
use Rattle.tdf_convert.specs.Outputs.{OutputsOf}
use Rattle.tdf_convert.specs.Sampled.{AreByOffset}
use Rattle.tdf_dynamic_plans.specs.Attributes.{clusters_of}
use Rattle.tdf_exec.specs.Cluster.{ClusterOf, due_count, next_offset}
use Rattle.tdf_exec.specs.Gained.{GiveAll}
use Rattle.tdf_exec.specs.Played.{play_of}
use Rattle.tdf_expr.specs.Checked.{IsCheckedOf}
use Rattle.tdf_fixed.specs.declared.raw.Raw.{Raw}
use Rattle.tdf_bind.specs.Flat.{IsFlatOf}
use Rattle.tdf_bind.specs.declared.model.Flat.{Flat}
use Rattle.tdf_bind_invariants.specs.Formats.{IsSoundModel}
use Rattle.tdf_graph.specs.declared.actors.Actor.TheVariants as actor
use Rattle.tdf_sim_history.specs.World.{ClusterAt}
use Rattle.tdf_exec.specs.Below.{SignalsHaveOnePort}
use Rattle.tdf_sim_refinement.proofs.Writing.{begins, enough, entry_in, given_here, turns_here, started}
use Rattle.tdf_sim_refinement.proofs.Along.{due_here}
use Rattle.tdf_sim_refinement.proofs.Arriving.{not_late}
use Rattle.tdf_sim_refinement.specs.At.{AreSettled, IsAt}
use Rattle.tdf_sim_refinement.specs.Fired.{HasFired}
use Rattle.tdf_sim_refinement.specs.Firings.{AreDueNext, after_firings, reads_after}
use Rattle.tdf_schedule.specs.declared.entry.Entry.{Entry}
use Rattle.tdf_streams.specs.Cluster.{cluster_net}
use Rattle.tdf_streams.specs.Places.{actor_kind}
use Rattle.tdf_sim_refinement.proofs.Walked.{actors_in, nothing, walk}
use Rattle.tdf_sim_refinement.specs.Samples.{AreSamplesOf, IsTracedPort, signal_samples}
use Rattle.tdf_lang_tree.specs.Pure.{PureTree}
use Rattle.tdf_bind_connections.specs.declared.modules.PortRow.{PortRow}
use Rattle.tdf_sim_history.specs.Columns.{ColumnStart}

after_none : (flat : Flat) (values : List Raw) (h : ClusterAt) → h ≡ after_firings flat.tables values h 0
unfolding reads_after
after_none flat values h = let z : h.place ≡ h.place + 0 = omega arith in ap (λ p. record h { place = p }) z

module _ (model : PureTree) (flat : Flat) (one_port : SignalsHaveOnePort) (sound : IsSoundModel model) (is : IsFlatOf model flat) (number time : ℕ) (values : List Raw) (h : ClusterAt) (c d : ClusterOf) (inputs : List Raw)
    (before after : OutputsOf) (left rest : ℕ) (checked : IsCheckedOf model flat.checked) (at : IsAt model flat number h c) (sorted : AreByOffset c.entries) (begun : h.since ≤ time) (next : next_offset c ≡ Some (time - h.since))
    (settled : AreSettled flat.tables values (time - h.since) c inputs) (fired : HasFired flat (time - h.since) inputs c d before after left rest) where
  abbrev k : ℕ
  k = due_count c (time - h.since)

  due : AreDueNext time k h
  due = due_here model flat number time h c at sorted begun next

  given : GiveAll flat (cluster_net model flat number h.begun) h.old h.now (λ m. slice_index_or (reads_after flat.tables values h k) m []) (actors_in h.entries k (h.place + 0)) (play_of h.from c) (play_of h.from d)
      fired.gained.sent fired.gained.traced
  given = given_here model flat number time values h c d inputs at begun k due (subst AreByOffset at.entries_are sorted) (not_late model flat number time values h c d inputs at begun next)
      before after checked settled fired.done fired.gained

  own : (i : ℕ) (x : Entry) → slice_get h.entries i ≡ Some x → slice_index (clusters_of flat.tables) x.actor ≡ number
  own i x there = at.of.safe.own i x (entry_in model flat number time values h c d inputs at begun i x there) ∙ at.number_is

  inside : (i : ℕ) (x : Entry) → slice_get h.entries i ≡ Some x → x.actor < length flat.tables.actors
  inside i x there = at.of.safe.inside i x (entry_in model flat number time values h c d inputs at begun i x there)

  -- of its own ports it has what it had and what it traced
  pub fired_own : (nr : ℕ) (port : PortRow) (s : ColumnStart) → IsTracedPort flat number nr port → actor_kind flat.tables port.«module» ≡ Some actor.Module → (had : List Raw) → AreSamplesOf model flat number nr port s h had
      → AreSamplesOf model flat number nr port s (after_firings flat.tables values h k) (had ++ signal_samples port.signal fired.gained.traced)
  fired_own nr port s traced kind had has =
      walk model flat one_port sound is number nr port traced values h k due.within (started model flat number time values h c d inputs at begun) at.have_read own inside kind s at.steps (enough model flat number time values h c d inputs at begun k due.within)
      k 0 (omega arith) (play_of h.from c) (play_of h.from d) fired.gained.sent fired.gained.traced had (begins model flat number time values h c d inputs at begun) (turns_here model flat number time values h c d inputs at begun) given
      (subst (λ g. AreSamplesOf model flat number nr port s g had) (after_none flat values h) has)

  -- of those of another cluster it traced nothing
  pub fired_other : (cluster nr : ℕ) (port : PortRow) → IsTracedPort flat cluster nr port → cluster ≢ number → signal_samples port.signal fired.gained.traced ≡ []
  fired_other cluster nr port traced apart =
      let w = due.within in
      nothing model flat one_port sound is cluster nr port traced (cluster_net model flat number h.begun) h.old h.now (λ m. slice_index_or (reads_after flat.tables values h k) m []) h.entries
      (λ i x there same. apart (sym traced.inside ∙ ap (slice_index (clusters_of flat.tables)) (sym same) ∙ own i x there))
      k (h.place + 0) (omega (arith, w)) (play_of h.from c) (play_of h.from d) fired.gained.sent fired.gained.traced given
