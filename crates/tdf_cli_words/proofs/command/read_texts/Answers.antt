use Rattle.std.proofs.Common.{codes, ap, ◌∙◌}
use Rattle.clap.specs.Matches.{found_of}
use Rattle.clap.specs.Walk.{first_of}
use Rattle.clap.proofs.WalkLemmas.{first_value-rows}
use Rattle.tdf_cli_words.proofs.Matching.{given_all}
use Rattle.tdf_cli_words.proofs.command.read_texts.Goals as goal

-- src/command.rt:98:1
pub returns-clause-texts : goal.returns-clause-texts
returns-clause-texts c =
    let found = found_of c.in_ok-matches.matches in
    let rows = c.in_ok-matches.ensures.rows in
    given_all _ _ _ _ _ _ _ _ _ _
    (c.get_str.ensures ∙ first_value-rows found (codes "JOB") ∙ ap (first_of (codes "JOB")) rows)
    (c.get_str-2.ensures ∙ first_value-rows found (codes "stop") ∙ ap (first_of (codes "stop")) rows)
    (c.get_str-3.ensures ∙ first_value-rows found (codes "format") ∙ ap (first_of (codes "format")) rows)
    (c.get_str-4.ensures ∙ first_value-rows found (codes "turns") ∙ ap (first_of (codes "turns")) rows)
    (c.get_str-5.ensures ∙ first_value-rows found (codes "part") ∙ ap (first_of (codes "part")) rows)
    (c.get_str-6.ensures ∙ first_value-rows found (codes "seed") ∙ ap (first_of (codes "seed")) rows)
    (c.get_str-7.ensures ∙ first_value-rows found (codes "size") ∙ ap (first_of (codes "size")) rows)
    (c.get_str-8.ensures ∙ first_value-rows found (codes "every") ∙ ap (first_of (codes "every")) rows)
    (c.get_str-9.ensures ∙ first_value-rows found (codes "nth") ∙ ap (first_of (codes "nth")) rows)
