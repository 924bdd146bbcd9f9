use Rattle.std.proofs.Common.{rules, ◌≡◌, ◌∙◌, ◌<◌, ◌+◌, ◌++◌, ◌∷◌, ℕ, List, [], ap, arith, length, replicate, subst, sym, take, Some}
use Rattle.std.proofs.lemmas.List.{length-append, take_all}
use Rattle.std.specs.Prelude.{slice_get, slice_index, slice_index_or, slice_set}
use Rattle.std.specs.Vec.{vec_len}
use Rattle.tdf_exec.proofs.InTurn.{none_taken, now_long, taken_more, taken_whole}
use Rattle.tdf_exec.proofs.Nexts.{get_read}
use Rattle.tdf_exec.proofs.Numbered.{actors_here, in_actors, number_below, own_distinct, own_row}
use Rattle.tdf_exec.specs.declared.runners.Runner.{Runner}
use Rattle.tdf_exec.specs.declared.runners.Runner.TheVariants as runner
use Rattle.tdf_exec.specs.machine.Starting.{AreTakenBy, AreTakenUpTo, HoldsText}
use Rattle.tdf_exec.specs.views.Actors.{spread_runners}
use Rattle.tdf_places.proofs.Api.{front_more, front_none}
use Rattle.tdf_exec.proofs.beginning.first_runners.Goals as goal

pub actors-numbers-requires : goal.actors-numbers-requires
actors-numbers-requires c = in_actors c.args.flat.now.tables c.args.groups.now c.args.cluster c.requires.has c.requires.groups

pub loop-i-init : goal.loop-i-init
loop-i-init c =
    let outside : Runner = runner.Outside in
    let none : c.in_ok-runners.runners.items ≡ [] = search rules in
    let whole : spread_runners c.args.flat.now.tables (take 0 c.actors-numbers.result.now) c.in_ok-runners.runners.items ≡ replicate (length c.args.wires.now.items) outside =
    front_none (length c.args.flat.now.tables.actors) outside c.actors-numbers.result.now c.in_ok-runners.runners.items none ∙ ap (λ n. replicate n outside) (sym c.requires.long) in
    record {
      long = ap length none;
      taken = none_taken c.args.flat.now (HoldsText c.args.flat.now c.args.begins) c.args.cluster c.actors-numbers.result.now c.args.wires.now.items
          (spread_runners c.args.flat.now.tables (take 0 c.actors-numbers.result.now) c.in_ok-runners.runners.items) whole;
    }

pub index_mut-requires : goal.index_mut-requires
index_mut-requires c =
    let flat = c.args.flat.now in
    let numbers = actors_here flat.tables c.args.groups.now c.args.cluster c.requires.has c.requires.groups c.actors-numbers.result.now c.actors-numbers.ensures in
    let below = number_below flat.tables c.args.cluster c.actors-numbers.result.now numbers c.loop-i.i c.loop-i-test.true in
    let long = now_long flat (HoldsText flat c.args.begins) c.args.cluster c.actors-numbers.result.now numbers c.loop-i.i c.args.wires.now.items c.loop-i.wires.items c.loop-i.samplers (spread_runners c.args.flat.now.tables (take c.loop-i.i c.actors-numbers.result.now) c.loop-i.runners.items)
    c.requires.long c.loop-i.invariant.taken in
    let count : vec_len c.loop-i.wires ≡ length c.loop-i.wires.items = search rules in
    omega (arith, below, long, count)

pub first_runner-requires-clause-module : goal.first_runner-requires-clause-module
first_runner-requires-clause-module c =
    let flat = c.args.flat.now in
    let numbers = actors_here flat.tables c.args.groups.now c.args.cluster c.requires.has c.requires.groups c.actors-numbers.result.now c.actors-numbers.ensures in
    let below = number_below flat.tables c.args.cluster c.actors-numbers.result.now numbers c.loop-i.i c.loop-i-test.true in
    let long = now_long flat (HoldsText flat c.args.begins) c.args.cluster c.actors-numbers.result.now numbers c.loop-i.i c.args.wires.now.items c.loop-i.wires.items c.loop-i.samplers (spread_runners c.args.flat.now.tables (take c.loop-i.i c.actors-numbers.result.now) c.loop-i.runners.items)
    c.requires.long c.loop-i.invariant.taken in
    let row = own_row flat.tables c.args.cluster c.actors-numbers.result.now numbers c.loop-i.i c.loop-i-test.true in
    let inside : slice_index c.actors-numbers.result.now c.loop-i.i < length c.loop-i.wires.items = omega (arith, below, long) in
    let there : slice_get c.loop-i.wires.items (slice_index c.actors-numbers.result.now c.loop-i.i) ≡ Some c.replace-row.result =
    get_read c.loop-i.wires.items (slice_index c.actors-numbers.result.now c.loop-i.i) c.index_mut.result.now inside c.index_mut.ensures.value ∙ ap Some (sym c.replace-row.ensures.value) in
    c.requires.modules (slice_index c.actors-numbers.result.now c.loop-i.i) row.0 c.replace-row.result row.1
    (sym (c.loop-i.invariant.taken.taken.left (slice_index c.actors-numbers.result.now c.loop-i.i) (c.loop-i.invariant.taken.high c.loop-i.i (omega arith) c.loop-i-test.true)) ∙ there) row.2

pub loop-i-preserved : goal.loop-i-preserved
loop-i-preserved c =
    let flat = c.args.flat.now in
    let numbers = actors_here flat.tables c.args.groups.now c.args.cluster c.requires.has c.requires.groups c.actors-numbers.result.now c.actors-numbers.ensures in
    let below = number_below flat.tables c.args.cluster c.actors-numbers.result.now numbers c.loop-i.i c.loop-i-test.true in
    let long = now_long flat (HoldsText flat c.args.begins) c.args.cluster c.actors-numbers.result.now numbers c.loop-i.i c.args.wires.now.items c.loop-i.wires.items c.loop-i.samplers (spread_runners c.args.flat.now.tables (take c.loop-i.i c.actors-numbers.result.now) c.loop-i.runners.items)
    c.requires.long c.loop-i.invariant.taken in
    let row = own_row flat.tables c.args.cluster c.actors-numbers.result.now numbers c.loop-i.i c.loop-i-test.true in
    let inside : slice_index c.actors-numbers.result.now c.loop-i.i < length c.loop-i.wires.items = omega (arith, below, long) in
    let there : slice_get c.loop-i.wires.items (slice_index c.actors-numbers.result.now c.loop-i.i) ≡ Some c.replace-row.result =
    get_read c.loop-i.wires.items (slice_index c.actors-numbers.result.now c.loop-i.i) c.index_mut.result.now inside c.index_mut.ensures.value ∙ ap Some (sym c.replace-row.ensures.value) in
    let outside : Runner = runner.Outside in
    let whole = spread_runners flat.tables (take c.loop-i.i c.actors-numbers.result.now) c.loop-i.runners.items in
    let pushed : c.push.new.self.items ≡ c.loop-i.runners.items ++ c.in_ok-runner.runner ∷ [] = search rules in
    let more = front_more (length flat.tables.actors) outside c.actors-numbers.result.now (own_distinct flat.tables c.args.cluster c.actors-numbers.result.now numbers) c.loop-i.runners.items c.loop-i.i
    c.in_ok-runner.runner c.loop-i.invariant.long c.loop-i-test.true in
    record {
      long = ap length pushed ∙ length-append c.loop-i.runners.items (c.in_ok-runner.runner ∷ []) ∙ ap (λ n. n + 1) c.loop-i.invariant.long;
      taken = subst (AreTakenBy flat (HoldsText flat c.args.begins) c.args.cluster c.actors-numbers.result.now (c.loop-i.i + 1) c.args.wires.now.items
          (slice_set c.loop-i.wires.items (slice_index c.actors-numbers.result.now c.loop-i.i) c.replace-row.new.dest) c.in_ok-samplers.samplers)
          (sym (ap (spread_runners flat.tables (take (c.loop-i.i + 1) c.actors-numbers.result.now)) pushed ∙ more))
          (taken_more flat (HoldsText flat c.args.begins) c.args.cluster c.actors-numbers.result.now numbers c.loop-i.i c.args.wires.now.items c.loop-i.wires.items c.loop-i.samplers whole
          c.requires.long c.loop-i.invariant.taken c.loop-i-test.true row.0 row.1 row.2 c.replace-row.result there
          c.in_ok-samplers.samplers c.in_ok-runner.runner c.replace-row.new.dest c.in_ok-runner.ensures c.in_ok-samplers.ensures);
    }

pub returns-clause-long : goal.returns-clause-long
returns-clause-long c =
    let past = c.loop-i-test.false in let most = c.loop-i.auto.i-end in let long = c.loop-i.invariant.long in
    let same : length c.loop-i.runners.items ≡ length c.actors-numbers.result.now = omega (arith, past, most, long) in
    same ∙ ap length c.actors-numbers.ensures

pub returns-clause-taken : goal.returns-clause-taken
returns-clause-taken c =
    let flat = c.args.flat.now in
    let numbers = actors_here flat.tables c.args.groups.now c.args.cluster c.requires.has c.requires.groups c.actors-numbers.result.now c.actors-numbers.ensures in
    let past = c.loop-i-test.false in
    let all : take c.loop-i.i c.actors-numbers.result.now ≡ slice_index_or c.args.groups.now.actors c.args.cluster [] = take_all c.loop-i.i c.actors-numbers.result.now (omega (arith, past)) ∙ c.actors-numbers.ensures in (
      c.loop-i.samplers,
      subst (λ (l : List ℕ). AreTakenUpTo flat (HoldsText flat c.args.begins) c.args.cluster (length c.args.wires.now.items) c.args.wires.now.items c.loop-i.wires.items c.loop-i.samplers
          (spread_runners flat.tables l c.loop-i.runners.items)) all
          (taken_whole flat (HoldsText flat c.args.begins) c.args.cluster c.actors-numbers.result.now numbers c.loop-i.i c.args.wires.now.items c.loop-i.wires.items c.loop-i.samplers
          (spread_runners flat.tables (take c.loop-i.i c.actors-numbers.result.now) c.loop-i.runners.items) c.requires.long c.loop-i.invariant.taken (omega (arith, past))),
    )
