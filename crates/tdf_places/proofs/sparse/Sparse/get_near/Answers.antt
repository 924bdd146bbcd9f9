use Rattle.std.proofs.Common.{rules, ◌≡◌, ◌∙◌, ap}
use Rattle.std.specs.Prelude.{slice_index}
use Rattle.tdf_places.proofs.Lists.{at_kept}
use Rattle.tdf_places.specs.Sparse.{SparseOf}
use Rattle.tdf_places.specs.views.Kept.{IsKeptAt}
use Rattle.tdf_places.proofs.sparse.Sparse.get_near.Goals as goal

pub returns-in-Some : goal.returns-in-Some
returns-in-Some c =
    let here : IsKeptAt c.self.inside.kept.items c.args.near c.args.place c.in-Some.value = search rules in
    at_kept c.self.inside.kept.items c.self.inside.length c.self.invariant.kept c.args.near c.args.place c.in-Some.value here
    ∙ ap (λ (list : SparseOf). slice_index list.items c.args.place) c.self.view_is
