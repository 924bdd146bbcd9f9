use Rattle.std.proofs.Common.{rules, ◌≡◌, ◌≢◌, ◌∙◌, ◌<◌, ℕ, List, true, false, length, sym, ap, subst, ltb}
use Rattle.std.proofs.lemmas.List.Sorted.{IsPartitionPoint-from_clause, IsPartitionedBy-ltb}
use Rattle.std.specs.List.Sorted.{IsNonDecreasingBy, IsPartitionPoint}
use Rattle.std.specs.Prelude.{slice_index}
use Rattle.tdf_places.proofs.Lists.{at_kept, goes_up, not_kept}
use Rattle.tdf_places.specs.Sparse.{SparseOf}
use Rattle.tdf_places.specs.declared.sparse.Kept.{Kept}
use Rattle.tdf_places.specs.views.Kept.{IsKeptAt, places_of}
use Rattle.tdf_places.proofs.sparse.Sparse.get.Goals as goal

pub returns-in-Some : goal.returns-in-Some
returns-in-Some c =
    let here : IsKeptAt c.self.inside.kept.items c.partition_point-near.result c.args.place c.in-Some.value = search rules in
    at_kept c.self.inside.kept.items c.self.inside.length c.self.invariant.kept c.partition_point-near.result c.args.place c.in-Some.value here
    ∙ ap (λ (list : SparseOf). slice_index list.items c.args.place) c.self.view_is

pub returns-in-None : goal.returns-in-None
returns-in-None c =
    let list : c.deref.result.now ≡ c.self.inside.kept.items = search rules in
    let point : IsPartitionPoint (λ (k : Kept). ltb k.place c.args.place ≡ true) (λ (k : Kept). ltb k.place c.args.place ≡ false) c.deref.result.now c.partition_point-near.result =
    IsPartitionPoint-from_clause (λ (k : Kept). ltb k.place c.args.place) _ _ c.partition_point-near.ensures.partitioned
    (IsPartitionedBy-ltb (λ (k : Kept). k.place) _ c.args.place
    (subst (λ (l : List Kept). IsNonDecreasingBy (λ (k : Kept). k.place) l) (sym list) (goes_up c.self.inside.kept.items c.self.inside.length c.self.invariant.kept)))
    (λ a r q k. search rules) in
    let other : c.partition_point-near.result < length c.self.inside.kept.items → slice_index (places_of c.self.inside.kept.items) c.partition_point-near.result ≢ c.args.place = search rules in
    sym (not_kept c.self.inside.kept.items c.self.inside.length c.args.place c.partition_point-near.result c.self.invariant.kept
    (subst (λ (l : List Kept). IsPartitionPoint (λ (k : Kept). ltb k.place c.args.place ≡ true) (λ (k : Kept). ltb k.place c.args.place ≡ false) l c.partition_point-near.result) list point) other)
    ∙ ap (λ (list : SparseOf). slice_index list.items c.args.place) c.self.view_is
