use Rattle.std.proofs.Common.{rules, ◌≡◌, ◌∙◌, ℕ, List, [], ap, length, subst, sym}
use Rattle.std.specs.Prelude.{IfOk, slice_index_or}
use Rattle.tdf_cluster_plans.specs.Groups.{AreTableGroups}
use Rattle.tdf_exec.proofs.Elsewhere.{actors_distinct}
use Rattle.tdf_exec.proofs.Numbered.{in_actors}
use Rattle.tdf_exec.specs.Layout.{LayoutOf}
use Rattle.tdf_exec.specs.declared.runners.Runner.{Runner}
use Rattle.tdf_exec.specs.declared.runners.Runner.TheVariants as runner
use Rattle.tdf_exec.specs.views.Actors.{ActorsOf, spread_runners}
use Rattle.tdf_places.specs.Places.{PlacesOf}
use Rattle.tdf_places.specs.Spread.{spread, spread_by}
use Rattle.tdf_exec.proofs.starting.own_actors.Goals as goal

pub actors-numbers-requires : goal.actors-numbers-requires
actors-numbers-requires c =
    let tables = c.args.flat.now.tables in
    let given : AreTableGroups tables c.layout.inside.groups = subst (λ (l : LayoutOf). AreTableGroups tables l.groups) (sym c.layout.view_is) c.requires.groups in
    in_actors tables c.layout.inside.groups c.args.cluster c.requires.has given

pub of-requires : goal.of-requires
of-requires c =
    let tables = c.args.flat.now.tables in
    let given : AreTableGroups tables c.layout.inside.groups = subst (λ (l : LayoutOf). AreTableGroups tables l.groups) (sym c.layout.view_is) c.requires.groups in
    actors_distinct tables c.args.cluster c.layout.inside.groups c.requires.has given c.actors-numbers.result.now c.actors-numbers.ensures _ (search rules)

pub of-requires-2 : goal.of-requires-2
of-requires-2 c =
    c.requires.long ∙ ap (λ (l : LayoutOf). length (slice_index_or l.groups.actors c.args.cluster [])) (sym c.layout.view_is) ∙ ap length (sym c.actors-numbers.ensures)
    ∙ ap (λ (p : PlacesOf). length p.numbers) (sym c.in_ok-places.ensures)

pub returns-clause-runners : goal.returns-clause-runners
returns-clause-runners c =
    let group : c.actors-numbers.result.now ≡ slice_index_or c.args.layout.now.groups.actors c.args.cluster [] =
    c.actors-numbers.ensures ∙ ap (λ (l : LayoutOf). slice_index_or l.groups.actors c.args.cluster []) c.layout.view_is in
    let many : c.len-count.result ≡ length c.args.flat.now.tables.actors = search rules in
    let whole : spread runner.Outside c.in_ok-places.places c.args.runners.items
    ≡ spread_runners c.args.flat.now.tables (slice_index_or c.args.layout.now.groups.actors c.args.cluster []) c.args.runners.items =
    ap (λ (p : PlacesOf). spread runner.Outside p c.args.runners.items) c.in_ok-places.ensures
    ∙ ap (λ (n : ℕ). spread_by n runner.Outside c.actors-numbers.result.now c.args.runners.items) many
    ∙ ap (λ (ns : List ℕ). spread_runners c.args.flat.now.tables ns c.args.runners.items) group in
    subst (λ (l : List Runner). IfOk c.of-2.result (λ (actors : ActorsOf). actors.runners ≡ l)) whole c.of-2.ensures.runners
