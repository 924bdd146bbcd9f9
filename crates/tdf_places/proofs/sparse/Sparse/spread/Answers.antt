use Rattle.std.proofs.Common.{rules, ◌≡◌, ◌∙◌, List, length, sym, ap, subst}
use Rattle.tdf_places.proofs.Lists.{kept_moved, list_moved, long_list}
use Rattle.tdf_places.specs.Sparse.{SparseOf}
use Rattle.tdf_places.specs.Spread.{spread_by}
use Rattle.tdf_places.specs.declared.sparse.Kept.{Kept}
use Rattle.tdf_places.specs.views.Kept.{AreKept, whole_list}
use Rattle.tdf_places.proofs.sparse.Sparse.spread.Goals as goal

pub invariant_of-result : goal.invariant_of-result
invariant_of-result c =
    let same : c.self.inside.length ≡ length c.args.places.now =
    sym (long_list c.self.inside.kept.items c.self.inside.length c.self.invariant.kept) ∙ ap (λ (list : SparseOf). length list.items) c.self.view_is ∙ c.requires.long in
    record {
      kept = subst (AreKept c.args.count) (sym c.move_all.ensures)
          (kept_moved c.self.inside.kept.items c.self.inside.length c.self.invariant.kept c.args.count c.args.places.now same c.requires.within c.requires.rising);
    }

pub returns : goal.returns
returns c =
    let same : c.self.inside.length ≡ length c.args.places.now =
    sym (long_list c.self.inside.kept.items c.self.inside.length c.self.invariant.kept) ∙ ap (λ (list : SparseOf). length list.items) c.self.view_is ∙ c.requires.long in
    ap (λ (kept : List Kept). whole_list c.args.count kept) c.move_all.ensures
    ∙ list_moved c.self.inside.kept.items c.self.inside.length c.self.invariant.kept c.args.count c.args.places.now same c.requires.within c.requires.rising
    ∙ ap (λ (list : SparseOf). spread_by c.args.count 0 c.args.places.now list.items) c.self.view_is
