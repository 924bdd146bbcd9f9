use Rattle.std.proofs.Common.{◌≡◌, ◌∙◌, ℕ, ap, drop, length, map, min, sym}
use Rattle.tdf_lang_lines.proofs.CutLaws.{drop_least, length-tok}
use Rattle.tdf_lang_lines.proofs.cuts.cut_index.Goals as goal
use Rattle.tdf_lang_lines.specs.machine.Reads.{index_len}
use Rattle.tdf_lang_lexer.specs.Token.{tok}

pub returns-clause-rest : goal.returns-clause-rest
returns-clause-rest c =
    let count : c.min.result ≡ min (index_len (map tok c.args.tokens.now)) (length (map tok c.args.tokens.now))
    = c.min.ensures ∙ ap (λ (n : ℕ). min n (length c.args.tokens.now)) c.index_len-len.ensures
    ∙ ap (min (index_len (map tok c.args.tokens.now))) (sym (length-tok c.args.tokens.now)) in
    c.split.ensures.rest ∙ ap (λ (n : ℕ). drop n (map tok c.args.tokens.now)) count ∙ drop_least (index_len (map tok c.args.tokens.now)) (map tok c.args.tokens.now)
