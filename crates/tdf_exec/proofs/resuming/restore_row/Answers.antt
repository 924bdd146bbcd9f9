use Rattle.std.proofs.Common.{rules, ◌≡◌, ◌≢◌, ◌∙◌, ℕ, ◌<◌, None, Some, ap, length, sym}
use Rattle.std.specs.Prelude.{slice_get, slice_index, slice_set}
use Rattle.tdf_dynamic_plans.specs.Attributes.{AttrsOf}
use Rattle.tdf_exec.proofs.Moved.{some_inj}
use Rattle.tdf_exec.proofs.Restoring.{kept_here, kept_none, kept_set, none_set}
use Rattle.tdf_exec.specs.declared.runners.Runner.{Runner}
use Rattle.tdf_exec.specs.machine.Resuming.{with_values}
use Rattle.tdf_exec.specs.views.Actors.{spread_runners}
use Rattle.tdf_exec.proofs.resuming.restore_row.Goals as goal

pub restore_runner-requires : goal.restore_runner-requires
restore_runner-requires c =
    let n : c.row.inside.number ≡ c.args.row.now.number = ap (λ (a : AttrsOf). a.number) c.row.view_is in
    let here : slice_get (spread_runners c.args.flat.now.tables c.args.numbers.now c.args.runners.now.items) c.args.row.now.number ≡ Some c.index_mut.result.now =
    kept_here c.args.flat.now.tables c.args.numbers.now c.requires.distinct c.args.runners.now.items c.requires.long c.args.row.now.number c.in-Some.place c.in-Some.ensures.inside
    (c.in-Some.ensures.is ∙ n) c.index_mut.result.now c.index_mut.ensures.value in
    c.requires.can c.index_mut.result.now here

pub returns-in-Some-clause-taken : goal.returns-in-Some-clause-taken
returns-in-Some-clause-taken c r at =
    let n : c.row.inside.number ≡ c.args.row.now.number = ap (λ (a : AttrsOf). a.number) c.row.view_is in
    let here : slice_get (spread_runners c.args.flat.now.tables c.args.numbers.now c.args.runners.now.items) c.args.row.now.number ≡ Some c.index_mut.result.now =
    kept_here c.args.flat.now.tables c.args.numbers.now c.requires.distinct c.args.runners.now.items c.requires.long c.args.row.now.number c.in-Some.place c.in-Some.ensures.inside
    (c.in-Some.ensures.is ∙ n) c.index_mut.result.now c.index_mut.ensures.value in
    let same : c.index_mut.result.now ≡ r = some_inj c.index_mut.result.now r (sym here ∙ at) in
    kept_set c.args.flat.now.tables c.args.numbers.now c.requires.distinct c.args.runners.now.items c.requires.long c.args.row.now.number c.in-Some.place c.in-Some.ensures.inside
    (c.in-Some.ensures.is ∙ n) c.restore_runner.new.runner
    ∙ ap (slice_set (spread_runners c.args.flat.now.tables c.args.numbers.now c.args.runners.now.items) c.args.row.now.number)
    (c.restore_runner.ensures ∙ ap (with_values c.args.row.now.rates c.args.state.now.cells) same)

pub returns-in_default-clause-taken : goal.returns-in_default-clause-taken
returns-in_default-clause-taken c r at =
    let n : c.row.inside.number ≡ c.args.row.now.number = ap (λ (a : AttrsOf). a.number) c.row.view_is in
    let is : c.place_in.result ≡ None = search rules in
    let none : (i : ℕ) → i < length c.args.numbers.now → slice_index c.args.numbers.now i ≢ c.args.row.now.number =
    (λ i less same. c.place_in.ensures.none is i less (same ∙ sym n)) in
    none_set c.args.flat.now.tables c.args.numbers.now c.requires.distinct c.args.runners.now.items c.requires.long c.args.row.now.number none
    ∙ ap (λ (x : Runner). slice_set (spread_runners c.args.flat.now.tables c.args.numbers.now c.args.runners.now.items) c.args.row.now.number
    (with_values c.args.row.now.rates c.args.state.now.cells x))
    (sym (kept_none c.args.flat.now.tables c.args.numbers.now c.requires.distinct c.args.runners.now.items c.requires.long c.args.row.now.number none r at))
