use Rattle.std.proofs.Common.{rules}
use Rattle.tdf_cli_words.proofs.Matching.{matched, refused, rows_are}
use Rattle.tdf_cli_words.proofs.command.matches.Goals as goal

-- src/command.rt:81:1
pub returns-in-Ok-clause-matched : goal.returns-in-Ok-clause-matched
returns-in-Ok-clause-matched c = matched _ _ c.in_ok-make_command.ensures c.in-Ok.ensures.kinds

-- src/command.rt:81:1
pub returns-in-Ok-clause-rows : goal.returns-in-Ok-clause-rows
returns-in-Ok-clause-rows c = rows_are _ _ _ c.in_ok-make_command.ensures c.in-Ok.ensures.matches

-- src/command.rt:81:1
pub returns-in-Err-clause-usage : goal.returns-in-Err-clause-usage
returns-in-Err-clause-usage c = λ e. refused _ _ _ c.in_ok-make_command.ensures c.in-Err.ensures.kinds (c.refusal-why.ensures.usage (search rules))
