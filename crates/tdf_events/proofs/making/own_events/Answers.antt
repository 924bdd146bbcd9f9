use Rattle.std.proofs.Common.{rules, ◌≡◌, List, ℕ, Some, [], length, slice_get, refl, ap, ◌∙◌}
use Rattle.std.proofs.lemmas.List.{length-replicate}
use Rattle.std.proofs.lemmas.Option.{slice_get_read}
use Rattle.tdf_events.proofs.Tables.{owned_more, owned_none}
use Rattle.tdf_events.proofs.making.own_events.Goals as goal

pub loop-i-init : goal.loop-i-init
loop-i-init c = record {
  long = ap length c.in_ok-lists.ensures ∙ length-replicate {A = List ℕ} c.args.blocks [];
  lists = λ n less. owned_none n c.args.blocks c.in_ok-lists.lists c.in_ok-lists.ensures;
}

pub loop-i-preserved : goal.loop-i-preserved
loop-i-preserved c =
    let at : slice_get c.args.events.now c.loop-i.i ≡ Some c.index-events-i.result = slice_get_read c.args.events.now (length c.args.events.now) c.loop-i.i c.index-events-i.result refl (search rules) (search rules) in
    record {
      long = search rules;
      lists = λ n less. owned_more c.args.events.now c.loop-i.i n c.index-events-i.result c.loop-i.lists c.add.new.self at (search rules) (c.loop-i.invariant.lists n less) (search rules);
    }
