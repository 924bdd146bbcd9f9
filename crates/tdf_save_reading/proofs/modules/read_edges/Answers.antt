use Rattle.std.proofs.Common.{ℕ, ℤ, Vec, Global, map, ◌≡◌, ◌∷◌, ◌++◌, [], ◌∙◌, ap, length, ◌<◌, ◌≤◌}
use Rattle.std.proofs.lemmas.List.{length-map, map-append}
use Rattle.std.specs.List.{AllByRecursion}
use Rattle.tdf_save.proofs.Api.{at_map}
use Rattle.tdf_save_reading.proofs.ModuleReads.{why_weaker}
use Rattle.tdf_save_reading.proofs.ModuleSteps.{edges_each, edge_piece_at, no_edge_at}
use Rattle.tdf_save_reading.proofs.ReadSteps.{each_none_read, each_piece, each_read, each_stuck}
use Rattle.tdf_save.specs.Members.{IsNum}
use Rattle.tdf_save.specs.Text.{saved_edge}
use Rattle.tdf_save.specs.machine.Pieces.{Any}
use Rattle.tdf_save_reading.proofs.modules.read_edges.Goals as goal

pub loop-k-init : goal.loop-k-init
loop-k-init c = rw c.new-list.ensures.items (each_none_read saved_edge (λ path nums. AllByRecursion IsNum nums) Any (map (λ (z : Vec ℕ Global). z.items) c.args.paths.now) c.args.text.now)

pub loop-k-preserved : goal.loop-k-preserved
loop-k-preserved c =
    let less : c.loop-k.k < length (map (λ (z : Vec ℕ Global). z.items) c.args.paths.now) = rw (length-map c.args.paths.now (λ (z : Vec ℕ Global). z.items)) c.loop-k-test.true in
    let more : map (λ (z : Vec ℤ Global). z.items) c.put.new.list.items ≡ map (λ (z : Vec ℤ Global). z.items) c.loop-k.list.items ++ (c.in-Ok.nums.items ∷ []) =
    ap (map (λ (z : Vec ℤ Global). z.items)) c.in_ok-put-in-Ok.ensures.put ∙ map-append (λ (z : Vec ℤ Global). z.items) c.loop-k.list.items (c.in-Ok.nums ∷ []) in
    rw more
    (each_read saved_edge (λ path nums. AllByRecursion IsNum nums) Any edges_each (map (λ (z : Vec ℕ Global). z.items) c.args.paths.now) c.args.text.now c.loop-k.k c.index-paths-k.result.items (map (λ (z : Vec ℤ Global). z.items) c.loop-k.list.items) c.in-Ok.nums.items c.loop-k.rest.now c.in-Ok.left.now
    less (at_map (λ (z : Vec ℕ Global). z.items) c.args.paths.now c.loop-k.k c.index-paths-k.result c.index-paths-k.is) c.loop-k.invariant
    (edge_piece_at c.deref.result.now c.index-paths-k.result.items c.loop-k.rest.now c.in-Ok.nums.items c.in-Ok.left.now c.deref.ensures.value c.in-Ok.ensures.is))

pub returns-in-Err-clause-refused : goal.returns-in-Err-clause-refused
returns-in-Err-clause-refused c =
    let less : c.loop-k.k < length (map (λ (z : Vec ℕ Global). z.items) c.args.paths.now) = rw (length-map c.args.paths.now (λ (z : Vec ℕ Global). z.items)) c.loop-k-test.true in
    why_weaker c.in-Err.why
    (λ none. each_stuck saved_edge (λ path nums. AllByRecursion IsNum nums) Any edges_each (map (λ (z : Vec ℕ Global). z.items) c.args.paths.now) c.args.text.now c.loop-k.k c.index-paths-k.result.items (map (λ (z : Vec ℤ Global). z.items) c.loop-k.list.items) c.loop-k.rest.now
    less (at_map (λ (z : Vec ℕ Global). z.items) c.args.paths.now c.loop-k.k c.index-paths-k.result c.index-paths-k.is) c.loop-k.invariant
    (no_edge_at c.deref.result.now c.index-paths-k.result.items c.loop-k.rest.now c.deref.ensures.value none)) c.in-Err.ensures.refused

pub returns-clause-is : goal.returns-clause-is
returns-clause-is c =
    let all : length (map (λ (z : Vec ℕ Global). z.items) c.args.paths.now) ≤ c.loop-k.k = rw (length-map c.args.paths.now (λ (z : Vec ℕ Global). z.items)) c.loop-k-test.false in
    each_piece saved_edge (λ path nums. AllByRecursion IsNum nums) Any (map (λ (z : Vec ℕ Global). z.items) c.args.paths.now) c.args.text.now c.loop-k.k (map (λ (z : Vec ℤ Global). z.items) c.loop-k.list.items) c.loop-k.rest.now all tt c.loop-k.invariant
