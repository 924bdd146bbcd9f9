use Rattle.std.proofs.Common.{◌≡◌, [], drop}
use Rattle.std.specs.Prelude.{map}
use Rattle.tdf_lang_lexer.specs.Token.{tok}
use Rattle.tdf_lang_exprs.specs.machine.Paths.{path_run, WantName}
use Rattle.tdf_lang_exprs.specs.views.LitViews.{walked}
use Rattle.tdf_lang_exprs.proofs.paths.names.Given as goal

abbrev pub invariant-loop-token : goal.invariant-loop-token
invariant-loop-token l = path_run (walked l.at) (map tok (drop l.token-index l.tokens)) ≡ path_run (WantName []) (map tok l.tokens)
