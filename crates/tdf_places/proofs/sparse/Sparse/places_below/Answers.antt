use Rattle.std.proofs.Common.{rules, ◌≡◌, ◌∙◌, ◌+◌, ◌++◌, ◌∷◌, ◌<◌, [], List, true, false, ap, arith, length, subst, sym, take, ltb}
use Rattle.std.proofs.Math.ListN.{get_or}
use Rattle.std.proofs.lemmas.List.{get_or-map, length-map, take_more}
use Rattle.std.proofs.lemmas.List.Sorted.{IsPartitionPoint-from_clause, IsPartitionedBy-ltb}
use Rattle.std.specs.List.Sorted.{IsNonDecreasingBy, IsPartitionPoint}
use Rattle.tdf_places.proofs.Lists.{goes_up, set_places}
use Rattle.tdf_places.specs.Sparse.{SparseOf, set_below}
use Rattle.tdf_places.specs.declared.sparse.Kept.{Kept}
use Rattle.tdf_places.specs.views.Kept.{places_of}
use Rattle.tdf_places.proofs.sparse.Sparse.places_below.Goals as goal

pub loop-i-preserved : goal.loop-i-preserved
loop-i-preserved c =
    let kept = c.self.inside.kept.items in
    let list : c.deref.result.now ≡ kept = search rules in
    let inside : c.loop-i.i < length kept = (let t = c.loop-i-test.true in let b = c.partition_point-below.ensures.bound in let n = ap (λ (l : List Kept). length l) list in omega (arith, t, b, n)) in
    let place : c.index.result.now.place ≡ get_or (places_of kept) c.loop-i.i 0 =
    ap (λ (k : Kept). k.place) (c.index.ensures)
    ∙ sym (get_or-map (λ (k : Kept). k.place) kept c.loop-i.i c.index.result.now 0 inside) in
    c.in_ok-push.ensures.items ∙ ap (λ l. l ++ c.index.result.now.place ∷ []) c.loop-i.invariant ∙ ap (λ n. take c.loop-i.i (places_of kept) ++ n ∷ []) place
    ∙ sym (take_more (places_of kept) c.loop-i.i 0 (let l = length-map kept (λ (k : Kept). k.place) in omega (arith, l, inside)))

pub returns : goal.returns
returns c =
    let kept = c.self.inside.kept.items in
    let list : c.deref.result.now ≡ kept = search rules in
    let point : IsPartitionPoint (λ (k : Kept). ltb k.place c.args.count ≡ true) (λ (k : Kept). ltb k.place c.args.count ≡ false) c.deref.result.now c.partition_point-below.result =
    IsPartitionPoint-from_clause (λ (k : Kept). ltb k.place c.args.count) _ _ c.partition_point-below.ensures.partitioned
    (IsPartitionedBy-ltb (λ (k : Kept). k.place) _ c.args.count
    (subst (λ (l : List Kept). IsNonDecreasingBy (λ (k : Kept). k.place) l) (sym list) (goes_up kept c.self.inside.length c.self.invariant.kept)))
    (λ a r q k. search rules) in
    let last : c.loop-i.i ≡ c.partition_point-below.result = (let t = c.loop-i-test.false in let u = c.loop-i.auto.i-end in omega (arith, t, u)) in
    c.loop-i.invariant ∙ ap (λ n. take n (places_of kept)) last
    ∙ set_places kept c.self.inside.length c.args.count c.partition_point-below.result c.self.invariant.kept
    (let b = c.partition_point-below.ensures.bound in let n = ap (λ (l : List Kept). length l) list in omega (arith, b, n))
    (subst (λ (l : List Kept). IsPartitionPoint (λ (k : Kept). ltb k.place c.args.count ≡ true) (λ (k : Kept). ltb k.place c.args.count ≡ false) l c.partition_point-below.result) list point)
    ∙ ap (λ (s : SparseOf). set_below c.args.count s.items) c.self.view_is
