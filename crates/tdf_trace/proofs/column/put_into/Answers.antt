use Rattle.std.proofs.Common.{rules, ◌≡◌, ◌∙◌, [], ◌∷◌, ◌++◌, ap, length, sym}
use Rattle.tdf_trace.proofs.Puts.{put_last}
use Rattle.tdf_trace.proofs.column.put_into.Goals as goal

pub returns-then-place-len-clause-ok : goal.returns-then-place-len-clause-ok
returns-then-place-len-clause-ok c =
    let end : c.place_of-place.result ≡ length c.args.held.now.items = search rules in
    c.push_back_reserved.ensures.items ∙ ap (λ items. items ++ c.args.item ∷ []) c.reserve.ensures.items ∙ sym (put_last c.args.item c.args.held.now.items c.place_of-place.result c.place_of-place.ensures end)
