-- What clusters in progress say of themselves.
use Rattle.std.proofs.Common.{◌≡◌, ◌∙◌, ◌≤◌, ◌-◌, ◌*◌, ℕ, zero, suc, ◌+◌, List, [], ◌∷◌, Option, None, Some, length, option_map, slice_get, inl, inr, refl, sym, ap, subst, arith}
use Rattle.std.proofs.lemmas.Bool.{cases_lt}
use Rattle.std.proofs.lemmas.List.{get_or_past, length-map}
use Rattle.std.proofs.lemmas.List.FromFn.{length-map-range_with_len}
use Rattle.std.proofs.lemmas.Option.{get_or_from_slice_get, slice_get-map, slice_get_within}
use Rattle.std.specs.Prelude.{All, map, slice_index, slice_index_or}
use Rattle.tdf_bind.specs.declared.model.Flat.{Flat}
use Rattle.tdf_bind_invariants.specs.Limits.{AreWithinLimits}
use Rattle.tdf_dynamic_plans.specs.Attributes.{AttrsOf}
use Rattle.tdf_dynamic_plans.specs.Rates.{net_of}
use Rattle.tdf_sim_refinement.specs.Below.{ClusterOf, HasRows, IsInPeriod, Module, Outside, RoomIsForOwn, Runner, Sampler, Sink, cluster_state, due_before, edge_states, module_state, own_edges, play_of, runner_cells, turns_from}
use Rattle.tdf_expr.specs.Frames.{IsOfFormat}
use Rattle.tdf_fixed.specs.declared.raw.Raw.{Raw}
use Rattle.tdf_graph.specs.declared.actors.Actor.TheVariants as actor
use Rattle.tdf_lang_tree.specs.Pure.{PureTree}
use Rattle.tdf_rings.specs.Carried.{ring_at}
use Rattle.tdf_rings.specs.Rings.{RingOf, ring_of}
use Rattle.tdf_schedule.specs.Plan.{done}
use Rattle.tdf_sim_history.specs.Instant.{acts_now}
use Rattle.tdf_sim_history.specs.World.{ClusterAt}
use Rattle.tdf_sim_refinement.proofs.Api.{entry_in, none_done, turns_here}
use Rattle.tdf_sim_refinement.specs.At.{IsAt}
use Rattle.tdf_sim_resumed.proofs.Places.{place_of}
use Rattle.tdf_sim_resumed.specs.Laws.{ClustersAreSaved, IsUpTo}
use Rattle.tdf_sim_resumed.specs.Snapshot.{HoldsOwn, IsDoneTo, IsSavedCluster}
use Rattle.tdf_streams.proofs.Api.{get_inside}
use Rattle.tdf_streams.specs.Periods.{read_rates, write_rates}
use Rattle.tdf_streams.specs.Places.{actor_kind, reader_at, writer_at}
use Rattle.tdf_streams.specs.Starts.{held_at_head}

equal_sums : (a b c d e f g h : ℕ) → a ≡ e → b ≡ f → c ≡ g → d ≡ h → e + f ≡ g + h → a + b ≡ c + d
equal_sums a b c d e f g h w x y z sum = omega (arith, w, x, y, z, sum)

-- a list that is made of another, with what stands for nothing
mapped_or : {A B : Type 0} (f : A → B) (xs : List A) (i : ℕ) (d : A) (b : B) → f d ≡ b → slice_index_or (map f xs) i b ≡ f (slice_index_or xs i d)
mapped_or f [] i d b same = sym same
mapped_or f (x ∷ xs) zero d b same = refl
mapped_or f (x ∷ xs) (suc i) d b same = mapped_or f xs i d b same

get_none : {A : Type 0} (xs : List A) (i : ℕ) (d : A) → slice_get xs i ≡ None → slice_index_or xs i d ≡ d
get_none [] i d none = refl
get_none (x ∷ xs) zero d none = absurd cc
get_none (x ∷ xs) (suc i) d none = get_none xs i d none

module _ (law : RoomIsForOwn) (model : PureTree) (flat : Flat) (number : ℕ) (h : ClusterAt) (c : ClusterOf) (limits : AreWithinLimits flat) (at : IsAt model flat number h c) where
  begun : h.since ≤ h.since
  begun = omega arith

  turns_are : (m : ℕ) → slice_index (play_of h.from c).turns m ≡ acts_now h m
  turns_are m = elim (cases_lt m (length flat.tables.actors)) [
    | inl inside ↦ (let z : h.place + 0 ≡ h.place = omega arith in turns_here model flat number h.since [] h c c [] at begun m inside ∙ ap (λ i. done h.entries i m - done h.entries h.from m) z)
    | inr past ↦ (
        let none = none_done h.entries h.place m (λ k x there same. (let i = at.of.safe.inside k x (entry_in model flat number h.since [] h c c [] at begun k x there) in absurd (omega (arith, i, same, past)))) in
        let long = length-map-range_with_len (turns_from c.entries h.from c.place) 0 (length c.runners) in
        let a = at.of.actors in
        let zero_here : slice_index (play_of h.from c).turns m ≡ 0 = get_or_past (play_of h.from c).turns m 0 (omega (arith, long, a, past)) in
        zero_here ∙ (omega (arith, none)))
  ]

  done_to : (time since : ℕ) → since ≡ h.since → IsUpTo time since c → IsDoneTo time h.since h.now.info.period h.place h.entries
  done_to time since is up = record {
    inside = subst (λ k. IsInPeriod h.since time k) at.time_is (subst (λ k. IsInPeriod k time c.period) is up.inside);
    place_is = sym at.place_is ∙ place_of flat c at.of since time up.done up.next ∙ ap (λ k. due_before k time c.entries) is ∙ ap (due_before h.since time) at.entries_are;
  }

  list_is : (e : ℕ) → slice_index_or (play_of h.from c).lists e [] ≡ (ring_at c.rings e).samples
  list_is e = mapped_or (λ (r : RingOf). r.samples) c.rings e (ring_of [] 0) [] refl

  own : HoldsOwn flat.tables number h.now.info.table h.entries h.place (play_of h.from c)
  own = record {
    rows = subst (λ (t : List AttrsOf). HasRows flat.tables number t) at.table_is (subst (λ k. HasRows flat.tables k c.table) at.number_is at.of.rows);
    left = λ e below. equal_sums _ _ _ _ (length (ring_at c.rings e).samples) (done c.entries c.place (reader_at flat.tables.edges e) * slice_index c.reads e)
        (held_at_head flat.tables c.number e) (done c.entries c.place (writer_at flat.tables.edges e) * slice_index c.writes e)
        (ap (λ (l : List Raw). length l) (list_is e))
        (times_same (reader_at flat.tables.edges e) (read_rates (net_of flat.tables h.now.info.table)) c.reads e
        (ap (λ (t : List AttrsOf). read_rates (net_of flat.tables t)) (sym at.table_is) ∙ sym at.of.reads_are))
        (ap (λ k. held_at_head flat.tables k e) (sym at.number_is))
        (times_same (writer_at flat.tables.edges e) (write_rates (net_of flat.tables h.now.info.table)) c.writes e
        (ap (λ (t : List AttrsOf). write_rates (net_of flat.tables t)) (sym at.table_is) ∙ sym at.of.writes_are))
        (at.of.held.held e below);
    formats = λ e f below is. subst (All (IsOfFormat f)) (sym (list_is e)) (at.of.held.formats e f below is);
    none = λ m plain. none_kept m plain (slice_get c.runners m) refl;
  }
    where
      times_same : (m : ℕ) (xs ys : List ℕ) (e : ℕ) → xs ≡ ys → done h.entries h.place m * slice_index xs e ≡ done c.entries c.place m * slice_index ys e
      times_same m xs ys e same = λ i. done (sym at.entries_are i) (sym at.place_is i) m * slice_index (same i) e

      none_of : (m : ℕ) → (actor_kind flat.tables m ≡ Some actor.Module → ⊥) → (r : Runner) → slice_get c.runners m ≡ Some r → runner_cells r ≡ []
      none_of m plain (Module x) there = absurd (plain (at.of.runners m (Module x) there).actor_is.kind_is)
      none_of m plain (Sampler x) there = refl
      none_of m plain (Sink x) there = refl
      none_of m plain Outside there = refl

      none_kept : (m : ℕ) → (actor_kind flat.tables m ≡ Some actor.Module → ⊥) → (o : Option Runner) → slice_get c.runners m ≡ o → slice_index_or (play_of h.from c).states m [] ≡ []
      none_kept m plain None there = get_none (play_of h.from c).states m [] (slice_get-map runner_cells c.runners m ∙ ap (option_map runner_cells) there)
      none_kept m plain (Some r) there = get_or_from_slice_get (play_of h.from c).states m (runner_cells r) [] (slice_get-map runner_cells c.runners m ∙ ap (option_map runner_cells) there) ∙ none_of m plain r there

  saved_cluster : (time since : ℕ) → since ≡ h.since → IsUpTo time since c → IsSavedCluster model flat number time h (cluster_state c since)
  saved_cluster time since is up = record {
    start = is;
    play = play_of h.from c;
    steps = at.steps;
    turns = turns_are;
    actors = length-map c.runners runner_cells ∙ at.of.actors;
    stands = at.stands;
    modules = ap (map (module_state (play_of h.from c).states)) at.table_is;
    edges = ap (edge_states (play_of h.from c).lists) (law flat c limits at.of ∙ ap (own_edges flat.tables) at.number_is);
    done = done_to time since is up;
    own = own;
  }

pub clusters_are_saved : RoomIsForOwn → ClustersAreSaved
clusters_are_saved law model flat time w since clusters states limits at long up told = record {
  same = told.same ∙ sym at.same;
  each = λ n h s h_at s_at. (
      let i = slice_get_within w.clusters n h h_at in
      let l = at.same in
      let c = get_inside clusters n (omega (arith, i, l)) in
      let t = get_inside since n (omega (arith, i, l, long)) in
      subst (IsSavedCluster model flat (n + 1) time h) (sym (told.each n c.0 t.0 s c.1 t.1 s_at))
      (saved_cluster law model flat (n + 1) h c.0 limits (at.each n h c.0 h_at c.1) time t.0 (at.begun n t.0 h h_at t.1) (up n t.0 c.0 c.1 t.1)));
}
