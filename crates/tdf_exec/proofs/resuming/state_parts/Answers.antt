use Rattle.std.proofs.Common.{rules, ◌≡◌, ◌∙◌, Global, List, [], Vec, ap, length, map, subst, sym, ℕ, ℤ}
use Rattle.std.proofs.lemmas.List.{length-map}
use Rattle.std.proofs.lemmas.Result.{IfOk-weaker}
use Rattle.std.specs.Prelude.{slice_index_or}
use Rattle.tdf_cluster_plans.specs.Groups.{AreTableGroups, TableGroupsOf}
use Rattle.tdf_exec.proofs.Continued.{state_fits}
use Rattle.tdf_exec.proofs.Elsewhere.{are_parts, all_state, in_edges, many_placed, no_bound, own_below, placed}
use Rattle.tdf_exec.proofs.Numbered.{is_there}
use Rattle.tdf_exec.specs.Layout.{HasLayoutOf, LayoutOf}
use Rattle.tdf_exec.specs.contracts.laying.Layout.{the_view}
use Rattle.tdf_exec.specs.machine.Laid.{AreRunnersOf}
use Rattle.tdf_exec.specs.machine.Resuming.{HoldsState}
use Rattle.tdf_exec.specs.views.Actors.{spread_runners}
use Rattle.tdf_exec_parts.specs.Restored.{AreOwnStateRings, AreStateRings, FitStateRings}
use Rattle.tdf_saved.specs.State.{ClusterStateOf, ModuleStateOf}
use Rattle.tdf_places.specs.Spread.{spread}
use Rattle.tdf_rings.specs.Rings.{ring_of}
use Rattle.tdf_exec.proofs.resuming.state_parts.Goals as goal

pub edges-numbers-requires : goal.edges-numbers-requires
edges-numbers-requires c =
    let flat = c.args.flat.now in
    let has : HasLayoutOf flat c.args.cluster (the_view c.layout.inside) = subst (HasLayoutOf flat c.args.cluster) (sym c.layout.view_is) c.requires.layout in
    in_edges flat.tables c.args.cluster c.layout.inside.groups (is_there flat c.args.cluster c.args.standing.now.first (c.law_laid.ensures.laid flat c.requires.sound) c.requires.plan) has.groups

pub state_rings-requires-clause-inside : goal.state_rings-requires-clause-inside
state_rings-requires-clause-inside c =
    let flat = c.args.flat.now in
    own_below flat.tables c.args.cluster c.args.layout.now.groups (is_there flat c.args.cluster c.args.standing.now.first (c.law_laid.ensures.laid flat c.requires.sound) c.requires.plan) c.requires.layout.groups
    c.edges-numbers.result.now (c.edges-numbers.ensures ∙ ap (λ (l : LayoutOf). slice_index_or l.groups.edges c.args.cluster []) c.layout.view_is)

pub state_rings-requires-clause-many : goal.state_rings-requires-clause-many
state_rings-requires-clause-many c =
    let flat = c.args.flat.now in
    let edges : map {A = Vec ℤ Global} {B = List ℤ} (λ nums. nums.items) c.deref.result.now ≡ c.args.state.now.edges =
    ap (map {A = Vec ℤ Global} {B = List ℤ} (λ nums. nums.items)) c.deref.ensures.value ∙ ap (λ (s : ClusterStateOf). s.edges) c.state.view_is in
    sym (length-map c.deref.result.now (λ (nums : Vec ℤ Global). nums.items)) ∙ ap (λ (l : List (List ℤ)). length l) edges ∙ c.requires.edges.long
    ∙ sym (many_placed flat.tables c.args.cluster c.args.layout.now.groups (is_there flat c.args.cluster c.args.standing.now.first (c.law_laid.ensures.laid flat c.requires.sound) c.requires.plan) c.requires.layout.groups
    c.edges-numbers.result.now (c.edges-numbers.ensures ∙ ap (λ (l : LayoutOf). slice_index_or l.groups.edges c.args.cluster []) c.layout.view_is))

pub state_rings-requires-clause-fits : goal.state_rings-requires-clause-fits
state_rings-requires-clause-fits c =
    let flat = c.args.flat.now in
    let first = c.args.standing.now.first in
    let numbers = c.edges-numbers.result.now in
    let edges : map {A = Vec ℤ Global} {B = List ℤ} (λ nums. nums.items) c.deref.result.now ≡ c.args.state.now.edges =
    ap (map {A = Vec ℤ Global} {B = List ℤ} (λ nums. nums.items)) c.deref.ensures.value ∙ ap (λ (s : ClusterStateOf). s.edges) c.state.view_is in
    let own = placed flat.tables c.args.cluster c.args.layout.now.groups (is_there flat c.args.cluster c.args.standing.now.first (c.law_laid.ensures.laid flat c.requires.sound) c.requires.plan) c.requires.layout.groups
    c.edges-numbers.result.now (c.edges-numbers.ensures ∙ ap (λ (l : LayoutOf). slice_index_or l.groups.edges c.args.cluster []) c.layout.view_is) in
    let fits : FitStateRings flat.tables first.plan.bounds.items numbers c.args.state.now.edges =
    λ i less. state_fits flat c.args.cluster first c.requires.sound (c.law_laid.ensures.laid flat c.requires.sound) c.requires.plan c.law_laid.ensures.present
    c.args.state.now.edges c.args.standing.now.place c.requires.place c.requires.edges _ i (own i less) in
    subst (λ (l : List (List ℤ)). FitStateRings flat.tables first.plan.bounds.items numbers l) (sym edges) fits

pub restored_runners-requires-clause-has : goal.restored_runners-requires-clause-has
restored_runners-requires-clause-has c = is_there c.args.flat.now c.args.cluster c.args.standing.now.first (c.law_laid.ensures.laid c.args.flat.now c.requires.sound) c.requires.plan

pub parts_of-requires-clause-groups : goal.parts_of-requires-clause-groups
parts_of-requires-clause-groups c = subst (AreTableGroups c.args.flat.now.tables) (sym c.in_ok-runners.ensures.groups) c.requires.layout.groups

pub parts_of-requires-clause-rings : goal.parts_of-requires-clause-rings
parts_of-requires-clause-rings c =
    c.in_ok-rings.ensures.long
    ∙ ap (λ (l : List ℕ). length l) (c.edges-numbers.ensures ∙ ap (λ (l : LayoutOf). slice_index_or l.groups.edges c.args.cluster []) c.layout.view_is)
    ∙ ap (λ (g : TableGroupsOf). length (slice_index_or g.edges c.args.cluster [])) (sym c.in_ok-runners.ensures.groups)

pub parts_of-requires-clause-runners : goal.parts_of-requires-clause-runners
parts_of-requires-clause-runners c =
    c.in_ok-runners.ensures.long ∙ ap (λ (g : TableGroupsOf). length (slice_index_or g.actors c.args.cluster [])) (sym c.in_ok-runners.ensures.groups)

pub returns-clause-parts : goal.returns-clause-parts
returns-clause-parts c =
    let flat = c.args.flat.now in
    let first = c.args.standing.now.first in
    let laid = c.law_laid.ensures.laid flat c.requires.sound in
    let edges : map {A = Vec ℤ Global} {B = List ℤ} (λ nums. nums.items) c.deref.result.now ≡ c.args.state.now.edges =
    ap (map {A = Vec ℤ Global} {B = List ℤ} (λ nums. nums.items)) c.deref.ensures.value ∙ ap (λ (s : ClusterStateOf). s.edges) c.state.view_is in
    let rings : AreOwnStateRings flat.tables first.plan.bounds.items c.edges-numbers.result.now c.args.state.now.edges (length c.edges-numbers.result.now) c.in_ok-rings.rings.items =
    subst (λ (l : List (List ℤ)). AreOwnStateRings flat.tables first.plan.bounds.items c.edges-numbers.result.now l (length c.edges-numbers.result.now) c.in_ok-rings.rings.items) edges
    c.in_ok-rings.ensures in
    let own : AreStateRings flat.tables c.args.cluster first.plan.bounds.items c.args.state.now.edges (length flat.tables.edges)
    (spread (ring_of [] 0) (record { numbers = slice_index_or c.args.layout.now.groups.edges c.args.cluster []; count = length flat.tables.edges }) c.in_ok-rings.rings.items) =
    all_state flat.tables c.args.cluster c.args.layout.now.groups (is_there flat c.args.cluster first laid c.requires.plan) c.requires.layout.groups
    c.edges-numbers.result.now (c.edges-numbers.ensures ∙ ap (λ (l : LayoutOf). slice_index_or l.groups.edges c.args.cluster []) c.layout.view_is)
    first.plan.bounds.items (no_bound flat c.args.cluster first laid c.requires.plan) c.args.state.now.edges c.in_ok-rings.rings.items rings in
    let modules : c.deref-2.result.now ≡ c.args.state.now.modules = search rules in
    let held : AreRunnersOf flat (HoldsState first.attrs.rows c.args.state.now.modules) c.args.cluster first.attrs.rows
    (spread_runners flat.tables (slice_index_or c.args.layout.now.groups.actors c.args.cluster []) c.in_ok-runners.runners.items) =
    subst (λ (l : List ModuleStateOf). AreRunnersOf flat (HoldsState first.attrs.rows l) c.args.cluster first.attrs.rows
    (spread_runners flat.tables (slice_index_or c.args.layout.now.groups.actors c.args.cluster []) c.in_ok-runners.runners.items)) modules c.in_ok-runners.ensures.runners in
    IfOk-weaker c.parts_of.result _ _ (λ p out. are_parts flat c.args.cluster first (HoldsState first.attrs.rows c.args.state.now.modules)
    (AreStateRings flat.tables c.args.cluster first.plan.bounds.items c.args.state.now.edges (length flat.tables.edges))
    c.args.layout.now.groups _ c.in_ok-runners.ensures.groups c.in_ok-rings.rings.items c.in_ok-runners.runners.items own held p.edges p.actors out) c.parts_of.ensures.parts
