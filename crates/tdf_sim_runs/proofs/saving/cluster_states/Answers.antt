use Rattle.std.proofs.Common.{rules, ◌≡◌, ◌∙◌, ◌<◌, ◌∷◌, ◌++◌, [], Some, ap, arith, length, refl, slice_get}
use Rattle.std.proofs.lemmas.Option.{slice_get_read}
use Rattle.tdf_saved.specs.State.{ClusterStateOf}
use Rattle.tdf_sim_runs.proofs.Telling.{one_told}
use Rattle.tdf_sim_runs.proofs.saving.cluster_states.Goals as goal

pub loop-place-preserved : goal.loop-place-preserved
loop-place-preserved c =
    let clusters = c.args.clusters.now.items in
    let since = c.args.since.now.items in
    let less : c.loop-place.place < length clusters = search rules in
    let same = c.requires.long in
    let low : c.loop-place.place < length since = omega (arith, less, same) in
    let c_at : slice_get clusters c.loop-place.place ≡ Some c.index.result.now = slice_get_read clusters (length clusters) c.loop-place.place c.index.result.now refl less (search rules) in
    let t_at : slice_get since c.loop-place.place ≡ Some c.index-in-loop-place.result.now = slice_get_read since (length since) c.loop-place.place c.index-in-loop-place.result.now refl low (search rules) in
    one_told c.loop-place.place since clusters c.loop-place.states.items c.loop-place.invariant c.index.result.now c.index-in-loop-place.result.now c_at t_at c.push.new.self.items
    (c.in_ok-push.ensures.items ∙ ap (λ (s : ClusterStateOf). c.loop-place.states.items ++ s ∷ []) c.in_ok-state.ensures.state)
