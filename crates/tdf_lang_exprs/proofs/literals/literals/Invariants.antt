use Rattle.std.proofs.Common.{◌≡◌, [], drop}
use Rattle.std.specs.Prelude.{map}
use Rattle.tdf_lang_lexer.specs.Token.{tok}
use Rattle.tdf_lang_exprs.specs.machine.Literals.{lits_run, Ready}
use Rattle.tdf_lang_exprs.specs.views.LitViews.{lits}
use Rattle.tdf_lang_exprs.proofs.literals.literals.Given as goal

abbrev pub invariant-loop-token : goal.invariant-loop-token
invariant-loop-token l = lits_run (lits l.at) (map tok (drop l.token-index l.tokens)) ≡ lits_run (Ready []) (map tok l.tokens)
