-- The law on what sinks write, for a cluster in progress.
use Rattle.std.proofs.Common.{◌≡◌, ◌∙◌, ℕ, ◌+◌, ◌-◌, ◌<◌, ◌≤◌, Bool, true, false, List, [], ◌∷◌, ◌++◌, Option, Some, None, length, map, take, drop, nat_eq, refl, sym, ap, subst, arith, zero, suc}
use Rattle.std.proofs.Math.Seq.{take-length}
use Rattle.std.proofs.lemmas.List.Sums.{sum_by-append, sum_by-cons}
use Rattle.std.proofs.lemmas.Option.{get_or_from_slice_get}
use Rattle.std.specs.List.{count_by, range_with_len, sum_by}
use Rattle.std.specs.Prelude.{slice_get, slice_index, slice_index_or, sum, cond}
use Rattle.tdf_convert.specs.Outputs.{OutputsOf}
use Rattle.tdf_convert.specs.Sampled.{AreByOffset}
use Rattle.tdf_exec.specs.Cluster.{ClusterOf, due_from}
use Rattle.tdf_exec.specs.Gained.{GiveAll, HasGained}
use Rattle.tdf_exec.specs.Made.{IsActorOf, IsRunnerOf}
use Rattle.tdf_exec.specs.Played.{AreDone, actors_between, play_of, turns_from}
use Rattle.tdf_exec.specs.declared.runners.Runner.{Runner}
use Rattle.tdf_exec.specs.declared.runners.Runner.TheVariants as runner
use Rattle.tdf_expr.specs.Checked.{IsCheckedOf}
use Rattle.tdf_fixed.specs.declared.raw.Raw.{Raw}
use Rattle.tdf_bind.specs.declared.model.Flat.{Flat}
use Rattle.tdf_streams.proofs.Api.{get_inside, get_made_at}
use Rattle.tdf_streams.specs.Grounds.{firings}
use Rattle.tdf_streams.specs.Stands.{Stands}
use Rattle.tdf_graph.specs.declared.actors.Actor.{Actor}
use Rattle.tdf_graph.specs.declared.actors.Actor.TheVariants as actor
use Rattle.tdf_sim_history.specs.World.{ClusterAt}
use Rattle.tdf_exec.specs.Below.{IsEdgeOf}
use Rattle.tdf_sim_refinement.proofs.Arriving.{all_given, in_plan, kind_inside, not_late, place_d}
use Rattle.tdf_sim_refinement.proofs.Due.{due_counted, true_false}
use Rattle.tdf_sim_refinement.proofs.Sinking.{many, walk}
use Rattle.tdf_sim_refinement.specs.At.{AreSettled, HaveTakenOne, IsAt}
use Rattle.tdf_sim_refinement.specs.Firings.{AreDueNext, IsNotLate, reads_after, write_of, writes_after}
use Rattle.tdf_sim_refinement.specs.Laws.{SinksWrite}
use Rattle.tdf_schedule.specs.Plan.{done}
use Rattle.tdf_schedule.specs.declared.entry.Entry.{Entry}
use Rattle.tdf_streams.specs.Cluster.{cluster_net}
use Rattle.tdf_streams.specs.Periods.{PeriodRecord}
use Rattle.tdf_lang_tree.specs.Pure.{PureTree}
use Rattle.std.proofs.lemmas.List.{length-drop}

unfoldable pub is_sink : Option Actor → Bool
is_sink None = false
is_sink (Some actor.Module) = false
is_sink (Some actor.Sampler) = false
is_sink (Some actor.Sink) = true

-- the edge of a sink of a cluster
sink_edge : (flat : Flat) (c : ClusterOf) (m : ℕ) → IsActorOf flat.tables c.number m actor.Sink → (r : Runner) → IsRunnerOf flat c m r → (e : ℕ) × IsEdgeOf flat.tables m e × (slice_index c.reads e ≡ 1)
unfolding is_sink
sink_edge flat c m sink (runner.Module x) is = absurd (true_false (sym (ap is_sink sink.kind_is) ∙ ap is_sink is.actor_is.kind_is))
sink_edge flat c m sink (runner.Sampler s) is = absurd (true_false (sym (ap is_sink sink.kind_is) ∙ ap is_sink is.actor_is.kind_is))
sink_edge flat c m sink (runner.Sink k) is = (k.edge, is.edge_is, is.rate)
sink_edge flat c m sink runner.Outside is = absurd (is sink.inside)

-- the entries after a place
count_rest : (entries : List Entry) (i m : ℕ) → done entries i m + count_by (λ (x : Entry). nat_eq x.actor m) (drop i entries) ≡ count_by (λ (x : Entry). nat_eq x.actor m) entries
unfolding done
count_rest [] zero m = refl
count_rest [] (suc i) m = refl
count_rest (x ∷ es) zero m = omega arith
count_rest (x ∷ es) (suc i) m =
    let a = sum_by-cons (λ (z : Entry). cond {A = ℕ} (nat_eq z.actor m) 1 0) x (take i es) in
    let b = sum_by-cons (λ (z : Entry). cond {A = ℕ} (nat_eq z.actor m) 1 0) x es in
    let r = count_rest es i m in omega (arith, a, b, r)

pub done_all : (entries : List Entry) (m : ℕ) → count_by (λ (x : Entry). nat_eq x.actor m) entries ≡ done entries (length entries) m
unfolding done
done_all entries m = ap (count_by (λ (x : Entry). nat_eq x.actor m)) (sym (take-length entries))

module _ (model : PureTree) (flat : Flat) (number time : ℕ) (values : List Raw) (h : ClusterAt) (c d : ClusterOf) (inputs : List Raw) (at : IsAt model flat number h c) (begun : h.since ≤ time) where
  -- the start, or the period, lies at a place that is no later
  pub started : h.from ≤ h.place
  started = let s = at.period.started in let p = at.place_is in omega (arith, s, p)

  -- the firings of its periods are more than those that are done
  plan_within : length h.entries ≤ h.from + sum h.now.counts
  plan_within =
      let l = length-drop h.from h.entries in
      let w = many (drop h.from h.entries) h.now.counts (λ m.
      (let z = at.period.counts m in let e = ap (λ es. done es (length es) m - done es h.from m) at.entries_are in
      let a = done_all h.entries m in let r = count_rest h.entries h.from m in omega (arith, z, e, a, r))) in
      omega (arith, l, w)

  pub enough : (k : ℕ) → h.place + k ≤ length h.entries → k + at.steps ≤ firings (h.old ++ h.now ∷ [])
  enough k within =
      let s = sum_by-append (λ (p : PeriodRecord). sum p.counts) h.old (h.now ∷ []) in
      let o = sum_by-cons (λ (p : PeriodRecord). sum p.counts) h.now [] in
      let w = plan_within in let f = at.few in
      let n : sum_by (λ (p : PeriodRecord). sum p.counts) [] ≡ 0 = refl in omega (arith, s, o, w, f, within, n)

  runner_at : (m : ℕ) → m < length flat.tables.actors → (r : Runner) × (slice_get c.runners m ≡ Some r)
  runner_at m inside = let l = at.of.actors in get_inside c.runners m (omega (arith, l, inside))

  edge_at : (m : ℕ) → IsActorOf flat.tables number m actor.Sink → (e : ℕ) × IsEdgeOf flat.tables m e × (slice_index h.now.reads e ≡ 1)
  edge_at m sink =
      let there = runner_at m (kind_inside flat.tables.actors m actor.Sink sink.kind_is) in
      let own : IsActorOf flat.tables c.number m actor.Sink = record { kind_is = sink.kind_is; inside = sink.inside ∙ sym at.number_is } in
      let e = sink_edge flat c m own there.0 (at.of.runners m there.0 there.1) in
      (e.0, e.1, ap (λ l. slice_index l e.0) at.period.reads ∙ e.2)

  pub entry_in : (i : ℕ) (x : Entry) → slice_get h.entries i ≡ Some x → slice_get c.entries i ≡ Some x
  entry_in i x there = ap (λ (l : List Entry). slice_get l i) at.entries_are ∙ there

  pub turns_here : (m : ℕ) → m < length flat.tables.actors → slice_index (play_of h.from c).turns m ≡ done h.entries (h.place + 0) m - done h.entries h.from m
  turns_here m inside =
      let l = at.of.actors in
      let made = get_or_from_slice_get (map (turns_from c.entries h.from c.place) (range_with_len 0 (length c.runners))) m (turns_from c.entries h.from c.place (0 + m)) 0
      (get_made_at (turns_from c.entries h.from c.place) 0 (length c.runners) m (omega (arith, l, inside))) in
      let z : 0 + m ≡ m = omega arith in let y = ap (turns_from c.entries h.from c.place) z in
      let p : c.place ≡ h.place + 0 = (let q = at.place_is in omega (arith, q)) in
      made ∙ y ∙ ap (λ es. turns_from es h.from c.place m) at.entries_are ∙ ap (λ i. turns_from h.entries h.from i m) p

  pub begins : Stands (cluster_net model flat number h.begun) h.old h.now (λ m. slice_index_or (reads_after flat.tables values h 0) m []) (0 + at.steps) (play_of h.from c)
  unfolding reads_after
  begins = let e : at.steps ≡ 0 + at.steps = omega arith in
      subst (λ n. Stands (cluster_net model flat number h.begun) h.old h.now (λ m. slice_index_or h.reads m []) n (play_of h.from c)) e at.stands

  module _ (k : ℕ) (due : AreDueNext time k h) (sorted : AreByOffset h.entries) (late : IsNotLate time h) where
    order_is : AreDone (time - h.since) c d → actors_between c.entries c.place d.place ≡ map (λ (x : Entry). x.actor) (take k (drop (h.place + 0) h.entries))
    order_is all =
        let to = place_d model flat number time values h c d inputs at begun k due sorted late all in
        let p : c.place ≡ h.place + 0 = (let q = at.place_is in omega (arith, q)) in
        let n : d.place - c.place ≡ k = (let q = at.place_is in omega (arith, q, to)) in
        ap (λ i. map (λ (x : Entry). x.actor) (take i (drop c.place c.entries))) n
        ∙ ap (λ i. map (λ (x : Entry). x.actor) (take k (drop i c.entries))) p
        ∙ ap (λ es. map (λ (x : Entry). x.actor) (take k (drop (h.place + 0) es))) at.entries_are

    pub given_here : (before after : OutputsOf) → IsCheckedOf model flat.checked → AreSettled flat.tables values (time - h.since) c inputs → AreDone (time - h.since) c d
        → (gained : HasGained flat (time - h.since) inputs c d before after)
        → GiveAll flat (cluster_net model flat number h.begun) h.old h.now (λ m. slice_index_or (reads_after flat.tables values h k) m [])
        (map (λ (x : Entry). x.actor) (take k (drop (h.place + 0) h.entries))) (play_of h.from c) (play_of h.from d) gained.sent gained.traced
    given_here before after checked settled all gained =
        let given = gained.given model h.begun h.old h.now (λ m. slice_index_or (reads_after flat.tables values h k) m []) h.from checked at.period (all_given model flat number time values h c d inputs at begun k due sorted late settled) in
        let here = subst (λ l. GiveAll flat (cluster_net model flat c.number h.begun) h.old h.now (λ m. slice_index_or (reads_after flat.tables values h k) m []) l (play_of h.from c) (play_of h.from d) gained.sent gained.traced) (order_is all) given in
        subst (λ j. GiveAll flat (cluster_net model flat j h.begun) h.old h.now (λ m. slice_index_or (reads_after flat.tables values h k) m []) (map (λ (x : Entry). x.actor) (take k (drop (h.place + 0) h.entries))) (play_of h.from c) (play_of h.from d) gained.sent gained.traced) at.number_is here

    pub sinks_write_all : HaveTakenOne flat.tables number h → (before after : OutputsOf) → IsCheckedOf model flat.checked → AreSettled flat.tables values (time - h.since) c inputs → AreDone (time - h.since) c d
        → (gained : HasGained flat (time - h.since) inputs c d before after) → writes_after model flat values number h k ≡ map (write_of flat.tables) gained.sent
    unfolding writes_after
    sinks_write_all ones before after checked settled all gained =
        walk model flat number values h k due.within started at.have_read
        (λ i x there. at.of.safe.own i x (entry_in i x there) ∙ at.number_is) (λ i x there. at.of.safe.inside i x (entry_in i x there)) edge_at ones at.steps (enough k due.within)
        k 0 (omega arith) (play_of h.from c) (play_of h.from d) gained.sent gained.traced begins turns_here (given_here before after checked settled all gained)

pub sinks_write : SinksWrite
sinks_write model flat number time values h c d inputs before after checked at sorted ones begun next settled all gained =
    let sorted_h = subst AreByOffset at.entries_are sorted in
    let late = not_late model flat number time values h c d inputs at begun next in
    let due = due_counted time h sorted_h (in_plan model flat number time values h c d inputs at begun) late in
    let same = ap (λ p. due_from p (time - h.since) h.entries) (sym at.place_is) ∙ ap (λ l. due_from c.place (time - h.since) l) (sym at.entries_are) in
    sinks_write_all model flat number time values h c d inputs at begun (due_from c.place (time - h.since) c.entries) (subst (λ k. AreDueNext time k h) same due) sorted_h late ones before after checked settled all gained
