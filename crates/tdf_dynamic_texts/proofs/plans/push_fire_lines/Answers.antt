use Rattle.tdf_dynamic_texts.proofs.Texts.{kept_after}
use Rattle.tdf_dynamic_texts.proofs.plans.push_fire_lines.Goals as goal

pub returns-in_err-push_fire_line-clause-kept : goal.returns-in_err-push_fire_line-clause-kept
returns-in_err-push_fire_line-clause-kept c = kept_after c.args.out.now.items _ c.loop-place.out.items c.push_fire_line.new.out.items c.loop-place.invariant c.in_err-push_fire_line.ensures.kept
