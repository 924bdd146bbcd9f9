use Rattle.std.proofs.Common.{◌≡◌, ◌+◌, ◌∙◌, ◌++◌, append-nil, arith, ap, refl, sym}
use Rattle.tdf_cli_load.proofs.Steps.{kind_next, level_next, number_next}
use Rattle.tdf_cli_load.proofs.Texts.{texts_next}
use Rattle.tdf_cli_load.specs.Chain.{level_after, module_level, module_number, next}
use Rattle.tdf_cli_load.specs.Text.{module_at, module_text}
use Rattle.tdf_cli_load.proofs.text.push_modules.Goals as goal

pub loop-before-init : goal.loop-before-init
unfolding module_number module_level
loop-before-init c = record {
  below = omega arith;
  number = refl;
  level = refl;
  text = sym (append-nil c.args.out.now.items);
}

pub loop-before-preserved : goal.loop-before-preserved
loop-before-preserved c =
    let loop = c.loop-before in
    let number_is = c.next_number-number.ensures.value ∙ ap next loop.invariant.number ∙ sym (number_next c.args.seed loop.before) in
    let kind_is = c.at-kind.ensures ∙ kind_next c.args.seed loop.before c.next_number-number.result loop.level number_is loop.invariant.level in
    let at : 1 + loop.before ≡ loop.before + 1 = omega arith in
    record {
      below = c.next_number-number.ensures.below;
      number = number_is;
      level = c.after-level.ensures ∙ ap (λ before. level_after before c.at-kind.result) loop.invariant.level
          ∙ ap (level_after (module_level c.args.seed loop.before)) kind_is ∙ sym (level_next c.args.seed loop.before);
      text = texts_next (module_at c.args.seed) 1 loop.before (loop.before + 1) c.args.out.now.items loop.out.items c.push_module.new.out.items at loop.invariant.text
          (c.in_ok-push_module.ensures ∙ ap (λ kind. loop.out.items ++ module_text (loop.before + 1) kind) kind_is);
    }
