use Rattle.std.proofs.Common.{◌≡◌, [], drop}
use Rattle.std.specs.Prelude.{map}
use Rattle.tdf_lang_lexer.specs.Token.{tok}
use Rattle.tdf_lang_exprs.specs.machine.Exprs.{run, Want}
use Rattle.tdf_lang_exprs.specs.views.Waiting.{waits, reading}
use Rattle.tdf_lang_exprs.proofs.expr.whole.Given as goal

abbrev pub invariant-loop-token : goal.invariant-loop-token
invariant-loop-token l = run l.version (reading (waits l.stack.items) (map tok l.inside.items) l.at) (map tok (drop l.token-index l.tokens)) ≡ run l.version (Want []) (map tok l.tokens)
