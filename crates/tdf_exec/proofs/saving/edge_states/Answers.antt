use Rattle.std.proofs.Common.{rules, ◌≡◌, ◌∙◌, ◌∷◌, ◌<◌, [], ℕ, ℤ, Vec, Global, List, ap, arith, length, map, sym, take}
use Rattle.std.proofs.Math.Seq.{take-length}
use Rattle.std.proofs.lemmas.List.{get_or_default, map-append}
use Rattle.std.specs.Prelude.{slice_index}
use Rattle.tdf_exec.proofs.Held.{state_next}
use Rattle.tdf_exec.specs.Saved.{edge_states, edges_with_room}
use Rattle.tdf_exec_firing.specs.Edges.{EdgesOf}
use Rattle.tdf_places.proofs.Api.{spread_long}
use Rattle.tdf_places.specs.Sparse.{set_below}
use Rattle.tdf_rings.specs.Rings.{RingOf, ring_of}
use Rattle.tdf_exec.proofs.saving.edge_states.Goals as goal

pub loop-i-preserved : goal.loop-i-preserved
loop-i-preserved c =
    let numbers = c.in_ok-numbers.numbers.items in
    let many : c.len-i-end.result ≡ length numbers = search rules in
    let less : c.loop-i.i < length numbers = (let t = c.loop-i-test.true in omega (arith, t, many)) in
    state_next c.args.own.now.rings numbers c.loop-i.i (map (λ (x : Vec ℤ Global). x.items) c.loop-i.edges.items) c.loop-i.invariant less
    c.index.result.now (c.index.ensures ∙ get_or_default numbers c.loop-i.i c.index.result.now 0 less) c.in_ok-nums_at.field-0.items c.in_ok-nums_at.ensures
    (map (λ (x : Vec ℤ Global). x.items) c.push.new.self.items)
    (ap (map (λ (x : Vec ℤ Global). x.items)) c.in_ok-push.ensures.items ∙ map-append (λ (x : Vec ℤ Global). x.items) c.loop-i.edges.items (c.in_ok-nums_at.field-0 ∷ []))

pub returns : goal.returns
returns c =
    let numbers = c.in_ok-numbers.numbers.items in
    let many : c.len-i-end.result ≡ length numbers = search rules in
    let last : c.loop-i.i ≡ length numbers = (let t = c.loop-i-test.false in let u = c.loop-i.auto.i-end in omega (arith, t, u, many)) in
    let long : length c.args.own.now.rings ≡ c.own.inside.places.count = ap (λ (e : EdgesOf). length e.rings) (sym c.own.view_is) ∙ spread_long (ring_of [] 0) c.own.inside.places c.own.inside.rings.items in
    let all : numbers ≡ edges_with_room c.args.bounds.now.items (length c.args.own.now.rings) =
    c.in_ok-numbers.ensures ∙ ap (λ n. set_below n c.args.bounds.now.items) (c.count.ensures ∙ sym long) in
    c.loop-i.invariant ∙ ap (edge_states (map (λ (r : RingOf). r.samples) c.args.own.now.rings)) (ap (λ n. take n numbers) last ∙ take-length numbers ∙ all)
