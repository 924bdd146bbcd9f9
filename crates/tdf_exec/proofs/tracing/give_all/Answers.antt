use Rattle.std.proofs.Common.{◌≡◌, ◌≢◌, ◌∙◌, ℕ, ◌<◌, ◌+◌, ◌≤◌, arith, length, subst, sym, Some}
use Rattle.std.proofs.lemmas.List.{length-set}
use Rattle.std.proofs.lemmas.Option.{slice_get-get_or}
use Rattle.std.specs.Prelude.{slice_get, slice_index, slice_set}
use Rattle.tdf_exec.proofs.InTurn.{given_more, given_none}
use Rattle.tdf_exec.proofs.Nexts.{get_read}
use Rattle.tdf_exec.proofs.Owned.{value_there}
use Rattle.tdf_exec.specs.declared.runners.Runner.TheVariants as runner
use Rattle.tdf_exec.specs.machine.Tracing.{AreGivenTraced}
use Rattle.tdf_exec.specs.views.Actors.{spread_runners}
use Rattle.tdf_places.proofs.Api.{rising_apart, spread_put}
use Rattle.tdf_places.specs.Places.{PlacesOf}
use Rattle.tdf_exec.proofs.tracing.give_all.Goals as goal

pub loop-i-preserved-then-m-len : goal.loop-i-preserved-then-m-len
loop-i-preserved-then-m-len c =
    let past : length c.args.rows.now.items ≤ slice_index c.args.numbers.now c.loop-i.i = (let t = c.if-m-len.true in let n = c.len.ensures in let l = c.loop-i.invariant.given.many in omega (arith, t, n, l)) in
    record {
      same = c.loop-i.invariant.same;
      given = given_none c.args.tables.now c.args.attrs.now.rows c.args.numbers.now c.requires.rising c.loop-i.i c.loop-i-test.true c.args.rows.now.items c.loop-i.rows.items
          (spread_runners c.args.tables.now c.args.numbers.now c.args.runners.now.items) (spread_runners c.args.tables.now c.args.numbers.now c.loop-i.runners.items) c.loop-i.invariant.given past;
    }

pub give_traced-requires-clause-can : goal.give_traced-requires-clause-can
give_traced-requires-clause-can c =
    let places : PlacesOf = record { numbers = c.args.numbers.now; count = length c.args.tables.now.actors } in
    let apart = rising_apart (length c.args.tables.now.actors) c.args.numbers.now c.requires.within c.requires.rising in
    let long : length c.loop-i.runners.items ≡ length c.args.numbers.now = c.loop-i.invariant.same ∙ c.requires.long in
    let inside : slice_index c.args.numbers.now c.loop-i.i < length c.loop-i.rows.items = (let t = c.if-m-len.false in let n = c.len.ensures in omega (arith, t, n)) in
    let row_at : slice_get c.loop-i.rows.items (slice_index c.args.numbers.now c.loop-i.i) ≡ Some c.index_mut-row.result.now =
    get_read c.loop-i.rows.items (slice_index c.args.numbers.now c.loop-i.i) c.index_mut-row.result.now inside c.index_mut-row.ensures.value in
    let number_at : slice_get c.args.numbers.now c.loop-i.i ≡ Some (slice_index c.args.numbers.now c.loop-i.i) = slice_get-get_or c.args.numbers.now c.loop-i.i 0 c.loop-i-test.true in
    let at : slice_get (spread_runners c.args.tables.now c.args.numbers.now c.loop-i.runners.items) (slice_index c.args.numbers.now c.loop-i.i) ≡ Some c.index_mut-runner.result.now =
    value_there runner.Outside places apart c.loop-i.runners.items long c.loop-i.i (slice_index c.args.numbers.now c.loop-i.i) c.index_mut-runner.result.now number_at c.index_mut-runner.ensures.value in
    let fresh : (j : ℕ) → j < c.loop-i.i → slice_index c.args.numbers.now j ≢ slice_index c.args.numbers.now c.loop-i.i =
    (λ j before same. (let r = c.requires.rising j c.loop-i.i before c.loop-i-test.true in omega (arith, r, same))) in
    c.requires.can (slice_index c.args.numbers.now c.loop-i.i) c.index_mut-row.result.now c.index_mut-runner.result.now
    (sym (c.loop-i.invariant.given.left (slice_index c.args.numbers.now c.loop-i.i) fresh) ∙ row_at) (sym (c.loop-i.invariant.given.waiting (slice_index c.args.numbers.now c.loop-i.i) fresh) ∙ at)

pub loop-i-preserved : goal.loop-i-preserved
loop-i-preserved c =
    let places : PlacesOf = record { numbers = c.args.numbers.now; count = length c.args.tables.now.actors } in
    let apart = rising_apart (length c.args.tables.now.actors) c.args.numbers.now c.requires.within c.requires.rising in
    let long : length c.loop-i.runners.items ≡ length c.args.numbers.now = c.loop-i.invariant.same ∙ c.requires.long in
    let inside : slice_index c.args.numbers.now c.loop-i.i < length c.loop-i.rows.items = (let t = c.if-m-len.false in let n = c.len.ensures in omega (arith, t, n)) in
    let row_at : slice_get c.loop-i.rows.items (slice_index c.args.numbers.now c.loop-i.i) ≡ Some c.index_mut-row.result.now =
    get_read c.loop-i.rows.items (slice_index c.args.numbers.now c.loop-i.i) c.index_mut-row.result.now inside c.index_mut-row.ensures.value in
    let number_at : slice_get c.args.numbers.now c.loop-i.i ≡ Some (slice_index c.args.numbers.now c.loop-i.i) = slice_get-get_or c.args.numbers.now c.loop-i.i 0 c.loop-i-test.true in
    let at : slice_get (spread_runners c.args.tables.now c.args.numbers.now c.loop-i.runners.items) (slice_index c.args.numbers.now c.loop-i.i) ≡ Some c.index_mut-runner.result.now =
    value_there runner.Outside places apart c.loop-i.runners.items long c.loop-i.i (slice_index c.args.numbers.now c.loop-i.i) c.index_mut-runner.result.now number_at c.index_mut-runner.ensures.value in
    record {
      same = length-set c.loop-i.runners.items c.loop-i.i c.give_traced.new.runner ∙ c.loop-i.invariant.same;
      given = subst (AreGivenTraced c.args.tables.now c.args.attrs.now.rows c.args.numbers.now (c.loop-i.i + 1) c.args.rows.now.items
          (slice_set c.loop-i.rows.items (slice_index c.args.numbers.now c.loop-i.i) c.give_traced.new.row) (spread_runners c.args.tables.now c.args.numbers.now c.args.runners.now.items))
          (sym (spread_put runner.Outside places apart c.loop-i.runners.items long c.loop-i.i (slice_index c.args.numbers.now c.loop-i.i) number_at c.give_traced.new.runner))
          (given_more c.args.tables.now c.args.attrs.now.rows c.args.numbers.now c.requires.rising c.loop-i.i c.loop-i-test.true c.args.rows.now.items c.loop-i.rows.items
          (spread_runners c.args.tables.now c.args.numbers.now c.args.runners.now.items) (spread_runners c.args.tables.now c.args.numbers.now c.loop-i.runners.items)
          c.loop-i.invariant.given c.index_mut-row.result.now c.index_mut-runner.result.now row_at at c.give_traced.new.row c.give_traced.new.runner c.give_traced.ensures);
    }
