use Rattle.std.proofs.Common.{ℕ, Vec, Global, map, length, ◌<◌, ◌≤◌, refl, rules, SFits}
use Rattle.std.proofs.lemmas.Int.{to_z-of_z}
use Rattle.std.proofs.lemmas.List.{length-map}
use Rattle.std.specs.Int.{w128}
use Rattle.tdf_save.proofs.Api.{at_map}
use Rattle.tdf_save.specs.Text.{saved_value}
use Rattle.tdf_save.specs.machine.Pieces.{Any}
use Rattle.tdf_save_reading.proofs.ReadSteps.{each_none_read, each_piece, each_read, each_stuck}
use Rattle.tdf_save_reading.proofs.ValueSteps.{ValueFits, no_piece_at, piece_at, values_each}
use Rattle.tdf_save_reading.proofs.values.read_values.Goals as goal

pub loop-k-init : goal.loop-k-init
loop-k-init c = rw c.new-list.ensures.items (each_none_read saved_value ValueFits Any (map (λ (z : Vec ℕ Global). z.items) c.args.paths.now) c.args.text.now)

pub loop-k-preserved : goal.loop-k-preserved
loop-k-preserved c =
    let less : c.loop-k.k < length (map (λ (z : Vec ℕ Global). z.items) c.args.paths.now) = rw (length-map c.args.paths.now (λ (z : Vec ℕ Global). z.items)) c.loop-k-test.true in
    let f : SFits w128 c.in-Some.num = search rules in
    rw (c.in_ok-put-in-Some.ensures.put, to_z-of_z w128 c.in-Some.num f)
    (each_read saved_value ValueFits Any values_each (map (λ (z : Vec ℕ Global). z.items) c.args.paths.now) c.args.text.now c.loop-k.k c.index-paths-k.result.items c.loop-k.list.items c.in-Some.num c.loop-k.rest.now c.in-Some.left.now
    less (at_map (λ (z : Vec ℕ Global). z.items) c.args.paths.now c.loop-k.k c.index-paths-k.result c.index-paths-k.is) c.loop-k.invariant
    (piece_at saved_value ValueFits Any c.deref.result.now c.index-paths-k.result.items c.loop-k.rest.now c.in-Some.num c.in-Some.left.now c.deref.ensures.value c.in-Some.ensures.is))

pub returns-in-None-clause-refused : goal.returns-in-None-clause-refused
returns-in-None-clause-refused c =
    let less : c.loop-k.k < length (map (λ (z : Vec ℕ Global). z.items) c.args.paths.now) = rw (length-map c.args.paths.now (λ (z : Vec ℕ Global). z.items)) c.loop-k-test.true in
    each_stuck saved_value ValueFits Any values_each (map (λ (z : Vec ℕ Global). z.items) c.args.paths.now) c.args.text.now c.loop-k.k c.index-paths-k.result.items c.loop-k.list.items c.loop-k.rest.now
    less (at_map (λ (z : Vec ℕ Global). z.items) c.args.paths.now c.loop-k.k c.index-paths-k.result c.index-paths-k.is) c.loop-k.invariant
    (no_piece_at saved_value ValueFits Any c.deref.result.now c.index-paths-k.result.items c.loop-k.rest.now c.deref.ensures.value (c.in-None.ensures.none refl))

pub returns-clause-is : goal.returns-clause-is
returns-clause-is c =
    let all : length (map (λ (z : Vec ℕ Global). z.items) c.args.paths.now) ≤ c.loop-k.k = rw (length-map c.args.paths.now (λ (z : Vec ℕ Global). z.items)) c.loop-k-test.false in
    each_piece saved_value ValueFits Any (map (λ (z : Vec ℕ Global). z.items) c.args.paths.now) c.args.text.now c.loop-k.k c.loop-k.list.items c.loop-k.rest.now all tt c.loop-k.invariant
