use Rattle.std.proofs.Common.{◌∙◌, List, [], ℕ, ap, length, subst, sym, true}
use Rattle.std.proofs.lemmas.Result.{IfOk-weaker}
use Rattle.std.specs.Prelude.{slice_index_or}
use Rattle.tdf_cluster_plans.specs.Groups.{AreTableGroups, TableGroupsOf}
use Rattle.tdf_exec.proofs.Elsewhere.{are_parts, all_first, in_edges, no_bound, own_below, own_fits}
use Rattle.tdf_exec.proofs.Kept.{first_rates}
use Rattle.tdf_exec.proofs.Numbered.{is_there}
use Rattle.tdf_exec.proofs.Planned.{fit}
use Rattle.tdf_exec.specs.Layout.{HasLayoutOf, LayoutOf}
use Rattle.tdf_exec.specs.contracts.laying.Layout.{the_view}
use Rattle.tdf_exec.specs.machine.Starting.{HoldsText}
use Rattle.tdf_exec_parts.specs.Rings.{AreFirstRings}
use Rattle.tdf_places.specs.Spread.{spread}
use Rattle.tdf_rings.specs.Rings.{ring_of}
use Rattle.tdf_exec.proofs.starting.first_parts.Goals as goal

pub runners_of-requires-clause-has : goal.runners_of-requires-clause-has
runners_of-requires-clause-has c = is_there c.args.flat.now c.args.cluster c.args.first.now (c.law_laid.ensures.laid c.args.flat.now c.requires.sound) c.requires.plan

pub runners_of-requires-clause-rates : goal.runners_of-requires-clause-rates
runners_of-requires-clause-rates c =
    first_rates c.args.flat.now c.args.cluster c.args.first.now (c.law_laid.ensures.laid c.args.flat.now c.requires.sound) c.requires.plan

pub edges-numbers-requires : goal.edges-numbers-requires
edges-numbers-requires c =
    let flat = c.args.flat.now in
    let has : HasLayoutOf flat c.args.cluster (the_view c.layout.inside) = subst (HasLayoutOf flat c.args.cluster) (sym c.layout.view_is) c.requires.layout in
    in_edges flat.tables c.args.cluster c.layout.inside.groups (is_there flat c.args.cluster c.args.first.now (c.law_laid.ensures.laid flat c.requires.sound) c.requires.plan) has.groups

pub first_rings-requires-clause-inside : goal.first_rings-requires-clause-inside
first_rings-requires-clause-inside c =
    let flat = c.args.flat.now in
    own_below flat.tables c.args.cluster c.args.layout.now.groups (is_there flat c.args.cluster c.args.first.now (c.law_laid.ensures.laid flat c.requires.sound) c.requires.plan) c.requires.layout.groups
    c.edges-numbers.result.now (c.edges-numbers.ensures ∙ ap (λ (l : LayoutOf). slice_index_or l.groups.edges c.args.cluster []) c.layout.view_is)

pub first_rings-requires-clause-fits : goal.first_rings-requires-clause-fits
first_rings-requires-clause-fits c =
    let flat = c.args.flat.now in
    let first = c.args.first.now in
    let laid = c.law_laid.ensures.laid flat c.requires.sound in
    own_fits flat.tables c.args.cluster c.args.layout.now.groups (is_there flat c.args.cluster first laid c.requires.plan) c.requires.layout.groups
    c.edges-numbers.result.now (c.edges-numbers.ensures ∙ ap (λ (l : LayoutOf). slice_index_or l.groups.edges c.args.cluster []) c.layout.view_is)
    _ (fit flat c.args.cluster first c.requires.sound laid c.requires.plan c.law_laid.ensures.present)

pub parts_of-requires-clause-groups : goal.parts_of-requires-clause-groups
parts_of-requires-clause-groups c = subst (AreTableGroups c.args.flat.now.tables) (sym c.in_ok-runners.ensures.groups) c.requires.layout.groups

pub parts_of-requires-clause-rings : goal.parts_of-requires-clause-rings
parts_of-requires-clause-rings c =
    c.in_ok-rings.ensures.long
    ∙ ap (λ (l : List ℕ). length l) (c.edges-numbers.ensures ∙ ap (λ (l : LayoutOf). slice_index_or l.groups.edges c.args.cluster []) c.layout.view_is)
    ∙ ap (λ (g : TableGroupsOf). length (slice_index_or g.edges c.args.cluster [])) (sym c.in_ok-runners.ensures.groups)

pub parts_of-requires-clause-runners : goal.parts_of-requires-clause-runners
parts_of-requires-clause-runners c =
    c.in_ok-runners.ensures.long ∙ ap (λ (g : TableGroupsOf). length (slice_index_or g.actors c.args.cluster [])) (sym c.in_ok-runners.ensures.groups)

pub returns-clause-parts : goal.returns-clause-parts
returns-clause-parts c =
    let flat = c.args.flat.now in
    let first = c.args.first.now in
    let laid = c.law_laid.ensures.laid flat c.requires.sound in
    let own : AreFirstRings flat.tables c.args.cluster first.plan.bounds.items (length flat.tables.edges)
    (spread (ring_of [] 0) (record { numbers = slice_index_or c.args.layout.now.groups.edges c.args.cluster []; count = length flat.tables.edges }) c.in_ok-rings.rings.items) =
    all_first flat.tables c.args.cluster c.args.layout.now.groups (is_there flat c.args.cluster first laid c.requires.plan) c.requires.layout.groups
    c.edges-numbers.result.now (c.edges-numbers.ensures ∙ ap (λ (l : LayoutOf). slice_index_or l.groups.edges c.args.cluster []) c.layout.view_is)
    first.plan.bounds.items (no_bound flat c.args.cluster first laid c.requires.plan) c.in_ok-rings.rings.items
    c.in_ok-rings.ensures in
    IfOk-weaker c.parts_of.result _ _ (λ p out. are_parts flat c.args.cluster first (HoldsText flat true) (AreFirstRings flat.tables c.args.cluster first.plan.bounds.items (length flat.tables.edges))
    c.args.layout.now.groups _ c.in_ok-runners.ensures.groups c.in_ok-rings.rings.items c.in_ok-runners.runners.items own c.in_ok-runners.ensures.runners p.edges p.actors out) c.parts_of.ensures.parts
