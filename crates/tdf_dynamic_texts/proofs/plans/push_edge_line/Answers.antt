use Rattle.tdf_dynamic_texts.proofs.Texts.{kept_after}
use Rattle.tdf_dynamic_texts.proofs.plans.push_edge_line.Goals as goal

pub returns-clause-kept : goal.returns-clause-kept
returns-clause-kept c =
    kept_after c.args.out.now.items _ c.push_word.new.out.items c.push_word-4.new.out.items c.in_ok-push_word.ensures.ok (
    kept_after c.push_word.new.out.items _ c.push_text.new.out.items c.push_word-4.new.out.items c.in_ok-push_text.ensures.whole (
    kept_after c.push_text.new.out.items _ c.push_word-2.new.out.items c.push_word-4.new.out.items c.in_ok-push_word-2.ensures.ok (
    kept_after c.push_word-2.new.out.items _ c.push_number.new.out.items c.push_word-4.new.out.items c.in_ok-push_number.ensures.ok (
    kept_after c.push_number.new.out.items _ c.push_word-3.new.out.items c.push_word-4.new.out.items c.in_ok-push_word-3.ensures.ok (
    kept_after c.push_word-3.new.out.items _ c.push_number-2.new.out.items c.push_word-4.new.out.items c.in_ok-push_number-2.ensures.ok c.push_word-4.ensures.kept)))))
