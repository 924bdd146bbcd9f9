use Rattle.std.proofs.Common.{rules, ◌≡◌, ◌∙◌, ℕ, ◌+◌, ◌++◌, ◌∷◌, [], sym, ap}
use Rattle.tdf_places.proofs.Lists.{kept_more, value_more, zero_more}
use Rattle.tdf_places.specs.Sparse.{SparseOf}
use Rattle.tdf_places.specs.declared.sparse.Kept.{Kept}
use Rattle.tdf_places.specs.declared.sparse.Sparse.TheInside.{Inside}
use Rattle.tdf_places.specs.views.Kept.{whole_list}
use Rattle.tdf_places.proofs.sparse.Sparse.push.Goals as goal
use Rattle.tdf_places.proofs.sparse.Sparse.push.Goals.{then-value-ne0+in_ok-push, else-value-ne0}

pub returns-clause-ok : goal.returns-clause-ok
returns-clause-ok c =
    elim c.if-value-ne0.branch [
      | then-value-ne0+in_ok-push w ↦ ap (λ (x : Inside). whole_list (x.length + 1) x.kept.items) w.self-inside-is
          ∙ value_more c.self.inside.kept.items c.self.inside.length c.self.invariant.kept c.args.value w.push.new.self.items
          (w.in_ok-push.ensures.items ∙ ap (λ (p : ℕ). c.self.inside.kept.items ++ (record { place = p; value = c.args.value }) ∷ []) c.in_ok-place.ensures.number)
          ∙ ap (λ (list : SparseOf). list.items ++ c.args.value ∷ []) c.self.view_is
      | else-value-ne0 w ↦ ap (λ (x : Inside). whole_list (x.length + 1) x.kept.items) w.self-inside-is
          ∙ (zero_more c.self.inside.kept.items c.self.inside.length c.self.invariant.kept).1
          ∙ ap (λ (list : SparseOf). list.items ++ 0 ∷ []) c.self.view_is
          ∙ ap (λ (v : ℕ). c.args.self.now.items ++ v ∷ []) (sym w.if-value-ne0.false)
    ]
