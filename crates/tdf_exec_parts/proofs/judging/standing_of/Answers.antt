use Rattle.std.proofs.Common.{◌≡◌, ◌∙◌, ap, refl, sym}
use Rattle.std.specs.Prelude.{Err}
use Rattle.tdf_exec_parts.proofs.Onward.{known_under, none_stands, placed_under, refused_or, same_fits, stands_under, states_same, table_same}
use Rattle.tdf_exec_parts.proofs.judging.standing_of.Goals as goal
use Rattle.tdf_saved.specs.State.{ClusterStateOf}
use Rattle.tdf_saved.specs.declared.err.StateErr.TheVariants.{Bad}
use Rattle.tdf_exec_layout.proofs.Api.{are_rates}

pub stood-requires-clause-rates : goal.stood-requires-clause-rates
stood-requires-clause-rates c = are_rates c.args.flat.now c.requires.limits c.in-Ok.first.attrs.rows c.in-Ok.ensures.first.attributes.allowed

pub returns-in-Ok-clause-state : goal.returns-in-Ok-clause-state
returns-in-Ok-clause-state c =
    let f = c.args.flat.now in let s = c.args.state.now in let first = c.in-Ok.first in
    let same : c.deref.result.now ≡ s.modules = c.deref.ensures.value ∙ ap (λ (x : ClusterStateOf). x.modules) c.state.view_is in
    let states = states_same f c.args.cluster c.deref.result.now s.modules same c.in-Ok.ensures.states in
    let own = table_same f c.args.cluster c.deref.result.now s.modules same first.attrs.rows c.in-Ok.ensures.table in
    stands_under f c.args.cluster s c.args.time first states own c.in-Ok.ensures.first c.stood.result c.stood.ensures.first c.stood.ensures.inside c.stood.ensures.edges

pub returns-in-Ok-clause-place : goal.returns-in-Ok-clause-place
returns-in-Ok-clause-place c =
    let f = c.args.flat.now in let s = c.args.state.now in let first = c.in-Ok.first in
    let same : c.deref.result.now ≡ s.modules = c.deref.ensures.value ∙ ap (λ (x : ClusterStateOf). x.modules) c.state.view_is in
    let states = states_same f c.args.cluster c.deref.result.now s.modules same c.in-Ok.ensures.states in
    let own = table_same f c.args.cluster c.deref.result.now s.modules same first.attrs.rows c.in-Ok.ensures.table in
    placed_under f c.args.cluster s c.args.time first states own c.in-Ok.ensures.first c.stood.result c.stood.ensures.first c.stood.ensures.place

pub returns-in-Ok-clause-known : goal.returns-in-Ok-clause-known
returns-in-Ok-clause-known c =
    let f = c.args.flat.now in let s = c.args.state.now in let first = c.in-Ok.first in
    let same : c.deref.result.now ≡ s.modules = c.deref.ensures.value ∙ ap (λ (x : ClusterStateOf). x.modules) c.state.view_is in
    let states = states_same f c.args.cluster c.deref.result.now s.modules same c.in-Ok.ensures.states in
    let own = table_same f c.args.cluster c.deref.result.now s.modules same first.attrs.rows c.in-Ok.ensures.table in
    known_under f c.args.cluster s c.args.time first states own c.in-Ok.ensures.first c.stood.result c.stood.ensures.first

pub returns-in-Ok-clause-bad : goal.returns-in-Ok-clause-bad
returns-in-Ok-clause-bad c = λ bad at.
    let f = c.args.flat.now in let s = c.args.state.now in let first = c.in-Ok.first in
    let same : c.deref.result.now ≡ s.modules = c.deref.ensures.value ∙ ap (λ (x : ClusterStateOf). x.modules) c.state.view_is in
    let own = table_same f c.args.cluster c.deref.result.now s.modules same first.attrs.rows c.in-Ok.ensures.table in
    let fits = same_fits f c.args.cluster c.requires.limits c.requires.has c.law_counts.ensures.apart c.law_counts.ensures.unique c.law_plans.ensures.plans c.law_plans.ensures.bounds
    c.law_one_table.ensures s c.args.time first.attrs.rows first.plan own c.in-Ok.ensures.first.plan_is at in
    c.stood.ensures.bad bad fits.0 fits.1

pub returns-in-Ok-clause-bad_always : goal.returns-in-Ok-clause-bad_always
returns-in-Ok-clause-bad_always c =
    let f = c.args.flat.now in let s = c.args.state.now in let first = c.in-Ok.first in
    let same : c.deref.result.now ≡ s.modules = c.deref.ensures.value ∙ ap (λ (x : ClusterStateOf). x.modules) c.state.view_is in
    let states = states_same f c.args.cluster c.deref.result.now s.modules same c.in-Ok.ensures.states in
    let own = table_same f c.args.cluster c.deref.result.now s.modules same first.attrs.rows c.in-Ok.ensures.table in
    none_stands f c.args.cluster s c.args.time c.stood.result
    (stands_under f c.args.cluster s c.args.time first states own c.in-Ok.ensures.first c.stood.result c.stood.ensures.first c.stood.ensures.inside c.stood.ensures.edges)

pub returns-in-Err-clause-bad : goal.returns-in-Err-clause-bad
returns-in-Err-clause-bad c = λ bad at.
    let f = c.args.flat.now in let s = c.args.state.now in
    let same : c.deref.result.now ≡ s.modules = c.deref.ensures.value ∙ ap (λ (x : ClusterStateOf). x.modules) c.state.view_is in
    let is : c.in-Err.why ≡ Bad = cc in
    c.in-Err.ensures.bad (ap Err is) (states_same f c.args.cluster s.modules c.deref.result.now (sym same) at.is.modules) at.table at.plan
    (table_same f c.args.cluster s.modules c.deref.result.now (sym same) at.table at.is.table_is) at.is.planned

pub returns-in-Err-clause-bad_always : goal.returns-in-Err-clause-bad_always
returns-in-Err-clause-bad_always c = λ none. refused_or c.args.flat.now c.args.cluster c.args.state.now c.args.time (Err c.in-Err.why) c.in-Err.why refl
