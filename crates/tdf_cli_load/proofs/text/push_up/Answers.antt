use Rattle.tdf_cli_load.proofs.Texts.{three_joined}
use Rattle.tdf_cli_load.specs.Text.{up_block}
use Rattle.tdf_cli_load.proofs.text.push_up.Goals as goal

pub returns : goal.returns
unfolding up_block
returns c = three_joined c.push_word-3.result c.args.out.now.items _ _ _ c.push_word.new.out.items c.push_word-2.new.out.items c.push_word-3.new.out.items
    c.in_ok-push_word.ensures.ok c.in_ok-push_word-2.ensures.ok c.push_word-3.ensures.ok
