use Rattle.std.proofs.Common.{◌≡◌, ◌∙◌, [], List, refl, ap}
use Rattle.tdf_places.specs.Spread.{spread_by}
use Rattle.tdf_places.specs.declared.sparse.Kept.{Kept}
use Rattle.tdf_places.specs.views.Kept.{whole_list}
use Rattle.tdf_places.proofs.sparse.Sparse.with_capacity.Goals as goal

none_yet : whole_list 0 [] ≡ []
unfolding spread_by
none_yet = refl

pub returns : goal.returns
returns c = ap (λ (kept : List Kept). whole_list 0 kept) c.in_ok-with_capacity.ensures.items ∙ none_yet
