use Rattle.std.proofs.Common.{◌∙◌, ℕ, List, [], ap, arith, false, length, refl, subst, sym}
use Rattle.std.specs.Prelude.{slice_index_or}
use Rattle.tdf_dynamic_plans.proofs.Api.{modules_few}
use Rattle.tdf_dynamic_plans.specs.Attributes.{AttrsOf}
use Rattle.tdf_dynamic_plans.specs.Known.{AttrsTable}
use Rattle.tdf_exec.proofs.Kept.{of_modules}
use Rattle.tdf_exec.proofs.Numbered.{actors_here, in_actors, number_below, own_distinct}
use Rattle.tdf_exec.proofs.Resumed.{can_restore, state_rows}
use Rattle.tdf_exec.proofs.Taking.{can_take, first_told, keeps, restored_told, runners_are, told, told_long}
use Rattle.tdf_exec.specs.Layout.{HasLayoutOf, KeepsLayouts, LayoutOf}
use Rattle.tdf_exec.specs.contracts.laying.Layout.{the_view}
use Rattle.tdf_exec.specs.machine.Resuming.{AreRestored, CanRestore, HoldsState}
use Rattle.tdf_exec.specs.machine.Laid.{AreRunnersOf}
use Rattle.tdf_exec.specs.machine.Starting.{AreTakenUpTo, HoldsText}
use Rattle.tdf_exec.specs.views.Actors.{spread_runners}
use Rattle.tdf_streams.proofs.Api.{are_rates, is_wired}
use Rattle.tdf_exec.proofs.resuming.restored_runners.Goals as goal

pub first_runners-requires-clause-groups : goal.first_runners-requires-clause-groups
first_runners-requires-clause-groups c =
    let has : HasLayoutOf c.args.flat.now c.args.cluster (the_view c.layout.inside) = subst (HasLayoutOf c.args.flat.now c.args.cluster) (sym c.layout.view_is) c.requires.layout in
    has.groups

pub first_runners-requires-clause-long : goal.first_runners-requires-clause-long
first_runners-requires-clause-long c =
    let has : HasLayoutOf c.args.flat.now c.args.cluster (the_view c.layout.inside) = subst (HasLayoutOf c.args.flat.now c.args.cluster) (sym c.layout.view_is) c.requires.layout in
    has.actors

pub first_runners-requires-clause-modules : goal.first_runners-requires-clause-modules
first_runners-requires-clause-modules c =
    let has : HasLayoutOf c.args.flat.now c.args.cluster (the_view c.layout.inside) = subst (HasLayoutOf c.args.flat.now c.args.cluster) (sym c.layout.view_is) c.requires.layout in
    of_modules c.args.flat.now (c.law_laid.ensures.laid c.args.flat.now c.requires.sound) c.args.cluster c.layout.inside.wires.items has.wires

pub restore_all-requires-clause-can : goal.restore_all-requires-clause-can
restore_all-requires-clause-can c =
    let flat = c.args.flat.now in
    let laid = c.law_laid.ensures.laid flat c.requires.sound in
    let has : HasLayoutOf flat c.args.cluster (the_view c.layout.inside) = subst (HasLayoutOf flat c.args.cluster) (sym c.layout.view_is) c.requires.layout in
    let took : (samplers : ℕ) × AreTakenUpTo flat (HoldsText flat false) c.args.cluster (length c.layout.inside.wires.items) c.layout.inside.wires.items c.first_runners.new.wires.items samplers
    (spread_runners flat.tables c.actors-numbers.result.now c.in_ok-runners.runners.items) =
    subst (λ (l : List ℕ). (samplers : ℕ) × AreTakenUpTo flat (HoldsText flat false) c.args.cluster (length c.layout.inside.wires.items) c.layout.inside.wires.items c.first_runners.new.wires.items samplers
    (spread_runners flat.tables l c.in_ok-runners.runners.items)) (sym c.actors-numbers.ensures) c.in_ok-runners.ensures.taken in
    subst (λ (t : List AttrsOf). CanRestore flat.checked t c.args.modules.now (spread_runners flat.tables c.actors-numbers.result.now c.in_ok-runners.runners.items)) (sym (c.deref.ensures.value ∙ ap (λ (a : AttrsTable). a.rows) c.attrs.view_is))
    (can_restore flat c.args.cluster laid.limits c.args.modules.now c.args.attrs.now.rows c.requires.states c.requires.table
    (told flat laid (HoldsText flat false) c.args.cluster (the_view c.layout.inside) has took.0 (spread_runners flat.tables c.actors-numbers.result.now c.in_ok-runners.runners.items)) took.0 (spread_runners flat.tables c.actors-numbers.result.now c.in_ok-runners.runners.items)
    (told_long flat laid (HoldsText flat false) c.args.cluster (the_view c.layout.inside) has took.0 (spread_runners flat.tables c.actors-numbers.result.now c.in_ok-runners.runners.items))
    (first_told flat laid (HoldsText flat false) c.args.cluster (the_view c.layout.inside) has took.0 (spread_runners flat.tables c.actors-numbers.result.now c.in_ok-runners.runners.items) took.1.first))

pub restore_all-requires-clause-long : goal.restore_all-requires-clause-long
restore_all-requires-clause-long c = c.in_ok-runners.ensures.long ∙ ap length (sym c.actors-numbers.ensures)

pub restore_all-requires-clause-distinct : goal.restore_all-requires-clause-distinct
restore_all-requires-clause-distinct c =
    let flat = c.args.flat.now in
    let has : HasLayoutOf flat c.args.cluster (the_view c.layout.inside) = subst (HasLayoutOf flat c.args.cluster) (sym c.layout.view_is) c.requires.layout in
    own_distinct flat.tables c.args.cluster c.actors-numbers.result.now (actors_here flat.tables c.layout.inside.groups c.args.cluster c.requires.has has.groups c.actors-numbers.result.now c.actors-numbers.ensures)

pub actors-numbers-requires : goal.actors-numbers-requires
actors-numbers-requires c =
    let has : HasLayoutOf c.args.flat.now c.args.cluster (the_view c.layout.inside) = subst (HasLayoutOf c.args.flat.now c.args.cluster) (sym c.layout.view_is) c.requires.layout in
    in_actors c.args.flat.now.tables c.layout.inside.groups c.args.cluster c.requires.has has.groups

pub give_all-requires-clause-rising : goal.give_all-requires-clause-rising
give_all-requires-clause-rising c =
    let has : HasLayoutOf c.args.flat.now c.args.cluster (the_view c.layout.inside) = subst (HasLayoutOf c.args.flat.now c.args.cluster) (sym c.layout.view_is) c.requires.layout in
    (actors_here c.args.flat.now.tables c.layout.inside.groups c.args.cluster c.requires.has has.groups c.actors-numbers.result.now c.actors-numbers.ensures).rising

pub give_all-requires-clause-rates : goal.give_all-requires-clause-rates
give_all-requires-clause-rates c =
    are_rates c.args.flat.now (c.law_laid.ensures.laid c.args.flat.now c.requires.sound).limits c.args.attrs.now.rows c.requires.table.attributes.allowed

pub give_all-requires-clause-once : goal.give_all-requires-clause-once
give_all-requires-clause-once c =
    (state_rows c.args.flat.now c.args.cluster (c.law_laid.ensures.laid c.args.flat.now c.requires.sound).limits c.args.modules.now c.args.attrs.now.rows c.requires.states c.requires.table).once

pub give_all-requires-clause-within : goal.give_all-requires-clause-within
give_all-requires-clause-within c =
    let flat = c.args.flat.now in
    let has : HasLayoutOf flat c.args.cluster (the_view c.layout.inside) = subst (HasLayoutOf flat c.args.cluster) (sym c.layout.view_is) c.requires.layout in
    number_below flat.tables c.args.cluster c.actors-numbers.result.now (actors_here flat.tables c.layout.inside.groups c.args.cluster c.requires.has has.groups c.actors-numbers.result.now c.actors-numbers.ensures)

pub give_all-requires-clause-long : goal.give_all-requires-clause-long
give_all-requires-clause-long c = c.restore_all.ensures.same ∙ c.in_ok-runners.ensures.long ∙ ap length (sym c.actors-numbers.ensures)

pub give_all-requires-clause-many : goal.give_all-requires-clause-many
give_all-requires-clause-many c =
    let flat = c.args.flat.now in
    let has : HasLayoutOf flat c.args.cluster (the_view c.layout.inside) = subst (HasLayoutOf flat c.args.cluster) (sym c.layout.view_is) c.requires.layout in
    let few = modules_few flat.tables (is_wired flat (c.law_laid.ensures.laid flat c.requires.sound).limits) in
    let many = has.modules in
    omega (arith, few, many)

pub give_all-requires-clause-can : goal.give_all-requires-clause-can
give_all-requires-clause-can c =
    let flat = c.args.flat.now in
    let laid = c.law_laid.ensures.laid flat c.requires.sound in
    let has : HasLayoutOf flat c.args.cluster (the_view c.layout.inside) = subst (HasLayoutOf flat c.args.cluster) (sym c.layout.view_is) c.requires.layout in
    let took : (samplers : ℕ) × AreTakenUpTo flat (HoldsText flat false) c.args.cluster (length c.layout.inside.wires.items) c.layout.inside.wires.items c.first_runners.new.wires.items samplers
    (spread_runners flat.tables c.actors-numbers.result.now c.in_ok-runners.runners.items) =
    subst (λ (l : List ℕ). (samplers : ℕ) × AreTakenUpTo flat (HoldsText flat false) c.args.cluster (length c.layout.inside.wires.items) c.layout.inside.wires.items c.first_runners.new.wires.items samplers
    (spread_runners flat.tables l c.in_ok-runners.runners.items)) (sym c.actors-numbers.ensures) c.in_ok-runners.ensures.taken in
    let held = restored_told flat laid c.args.cluster (the_view c.layout.inside) has c.args.modules.now c.args.attrs.now.rows c.requires.states c.requires.table took.0
    (spread_runners flat.tables c.actors-numbers.result.now c.in_ok-runners.runners.items) (spread_runners flat.tables c.actors-numbers.result.now c.restore_all.new.runners.items) took.1.first
    (subst (λ (t : List AttrsOf). AreRestored flat.checked t c.args.modules.now (length t) (spread_runners flat.tables c.actors-numbers.result.now c.in_ok-runners.runners.items) (spread_runners flat.tables c.actors-numbers.result.now c.restore_all.new.runners.items))
    (c.deref.ensures.value ∙ ap (λ (a : AttrsTable). a.rows) c.attrs.view_is) c.restore_all.ensures.restored) in
    can_take flat laid (HoldsState c.args.attrs.now.rows c.args.modules.now) c.args.cluster (the_view c.layout.inside) has took.0 (spread_runners flat.tables c.actors-numbers.result.now c.restore_all.new.runners.items) held

pub returns-clause-long : goal.returns-clause-long
returns-clause-long c =
    c.give_all.ensures.same ∙ c.restore_all.ensures.same ∙ c.in_ok-runners.ensures.long ∙ ap (λ (l : LayoutOf). length (slice_index_or l.groups.actors c.args.cluster [])) c.layout.view_is

pub returns-clause-runners : goal.returns-clause-runners
returns-clause-runners c =
    let flat = c.args.flat.now in
    let laid = c.law_laid.ensures.laid flat c.requires.sound in
    let has : HasLayoutOf flat c.args.cluster (the_view c.layout.inside) = subst (HasLayoutOf flat c.args.cluster) (sym c.layout.view_is) c.requires.layout in
    let took : (samplers : ℕ) × AreTakenUpTo flat (HoldsText flat false) c.args.cluster (length c.layout.inside.wires.items) c.layout.inside.wires.items c.first_runners.new.wires.items samplers
    (spread_runners flat.tables c.actors-numbers.result.now c.in_ok-runners.runners.items) =
    subst (λ (l : List ℕ). (samplers : ℕ) × AreTakenUpTo flat (HoldsText flat false) c.args.cluster (length c.layout.inside.wires.items) c.layout.inside.wires.items c.first_runners.new.wires.items samplers
    (spread_runners flat.tables l c.in_ok-runners.runners.items)) (sym c.actors-numbers.ensures) c.in_ok-runners.ensures.taken in
    let held = restored_told flat laid c.args.cluster (the_view c.layout.inside) has c.args.modules.now c.args.attrs.now.rows c.requires.states c.requires.table took.0
    (spread_runners flat.tables c.actors-numbers.result.now c.in_ok-runners.runners.items) (spread_runners flat.tables c.actors-numbers.result.now c.restore_all.new.runners.items) took.1.first
    (subst (λ (t : List AttrsOf). AreRestored flat.checked t c.args.modules.now (length t) (spread_runners flat.tables c.actors-numbers.result.now c.in_ok-runners.runners.items) (spread_runners flat.tables c.actors-numbers.result.now c.restore_all.new.runners.items))
    (c.deref.ensures.value ∙ ap (λ (a : AttrsTable). a.rows) c.attrs.view_is) c.restore_all.ensures.restored) in
    let own = actors_here flat.tables c.layout.inside.groups c.args.cluster c.requires.has has.groups c.actors-numbers.result.now c.actors-numbers.ensures in
    subst (λ (l : List ℕ). AreRunnersOf flat (HoldsState c.args.attrs.now.rows c.args.modules.now) c.args.cluster c.args.attrs.now.rows (spread_runners flat.tables l c.give_all.new.runners.items))
    (c.actors-numbers.ensures ∙ ap (λ (l : LayoutOf). slice_index_or l.groups.actors c.args.cluster []) c.layout.view_is)
    (runners_are flat laid (HoldsState c.args.attrs.now.rows c.args.modules.now) c.args.cluster (the_view c.layout.inside) has took.0 (spread_runners flat.tables c.actors-numbers.result.now c.restore_all.new.runners.items) held
    c.args.attrs.now.rows c.actors-numbers.result.now own c.give_all.new.rows.items (spread_runners flat.tables c.actors-numbers.result.now c.give_all.new.runners.items) c.give_all.ensures.given)

pub returns-clause-others : goal.returns-clause-others
returns-clause-others c =
    let flat = c.args.flat.now in
    let laid = c.law_laid.ensures.laid flat c.requires.sound in
    let has : HasLayoutOf flat c.args.cluster (the_view c.layout.inside) = subst (HasLayoutOf flat c.args.cluster) (sym c.layout.view_is) c.requires.layout in
    let took : (samplers : ℕ) × AreTakenUpTo flat (HoldsText flat false) c.args.cluster (length c.layout.inside.wires.items) c.layout.inside.wires.items c.first_runners.new.wires.items samplers
    (spread_runners flat.tables c.actors-numbers.result.now c.in_ok-runners.runners.items) =
    subst (λ (l : List ℕ). (samplers : ℕ) × AreTakenUpTo flat (HoldsText flat false) c.args.cluster (length c.layout.inside.wires.items) c.layout.inside.wires.items c.first_runners.new.wires.items samplers
    (spread_runners flat.tables l c.in_ok-runners.runners.items)) (sym c.actors-numbers.ensures) c.in_ok-runners.ensures.taken in
    let held = restored_told flat laid c.args.cluster (the_view c.layout.inside) has c.args.modules.now c.args.attrs.now.rows c.requires.states c.requires.table took.0
    (spread_runners flat.tables c.actors-numbers.result.now c.in_ok-runners.runners.items) (spread_runners flat.tables c.actors-numbers.result.now c.restore_all.new.runners.items) took.1.first
    (subst (λ (t : List AttrsOf). AreRestored flat.checked t c.args.modules.now (length t) (spread_runners flat.tables c.actors-numbers.result.now c.in_ok-runners.runners.items) (spread_runners flat.tables c.actors-numbers.result.now c.restore_all.new.runners.items))
    (c.deref.ensures.value ∙ ap (λ (a : AttrsTable). a.rows) c.attrs.view_is) c.restore_all.ensures.restored) in
    let own = actors_here flat.tables c.layout.inside.groups c.args.cluster c.requires.has has.groups c.actors-numbers.result.now c.actors-numbers.ensures in
    let left : LayoutOf = the_view record {
      wires = c.first_runners.new.wires;
      traced = c.give_all.new.rows;
      groups = c.layout.inside.groups;
      edge_places = c.layout.inside.edge_places;
      actor_places = c.layout.inside.actor_places;
    } in
    subst (λ (l : LayoutOf). KeepsLayouts flat c.args.cluster l left) c.layout.view_is
    (keeps flat laid (HoldsState c.args.attrs.now.rows c.args.modules.now) c.args.cluster (the_view c.layout.inside) has took.0 (spread_runners flat.tables c.actors-numbers.result.now c.restore_all.new.runners.items) held
    c.args.attrs.now.rows c.actors-numbers.result.now own c.give_all.new.rows.items (spread_runners flat.tables c.actors-numbers.result.now c.give_all.new.runners.items) c.give_all.ensures.given
    left refl refl took.1.same took.1.others)
