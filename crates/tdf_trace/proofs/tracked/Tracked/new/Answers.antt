use Rattle.std.proofs.Common.{[], ◌∷◌, ◌++◌, ap, refl, ◌∙◌}
use Rattle.tdf_trace.proofs.Singles.{fresh_tracks}
use Rattle.tdf_trace.proofs.tracked.Tracked.new.Goals as goal

pub returns : goal.returns
returns c = record {
  signal_is = refl;
  columns = c.in_ok-push.ensures.items ∙ ap (λ xs. xs ++ c.args.column ∷ []) c.new-columns.ensures.items;
  tracks = fresh_tracks _ c.new.ensures.none c.new.ensures.left c.new-2.ensures.items;
}
