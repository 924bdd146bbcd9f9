use Rattle.std.proofs.Common.{◌∙◌, length, sym, ap}
use Rattle.tdf_places.proofs.Lists.{long_list}
use Rattle.tdf_places.specs.Sparse.{SparseOf}
use Rattle.tdf_places.proofs.sparse.Sparse.len.Goals as goal

pub returns : goal.returns
returns c = sym (long_list c.self.inside.kept.items c.self.inside.length c.self.invariant.kept) ∙ ap (λ (list : SparseOf). length list.items) c.self.view_is
