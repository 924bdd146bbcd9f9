use Rattle.std.proofs.Common.{false, ◌≡◌, [], ap, sym, subst, ◌∙◌}
use Rattle.std.proofs.lemmas.List.{append-nil}
use Rattle.tdf_lang_exprs.specs.SpellsExpr.{SpellsExpr}
use Rattle.tdf_lang_printer.specs.Exprs.{expr_text}
use Rattle.tdf_lang.specs.Texts.{tokens_of}
use Rattle.tdf_lang.proofs.ExprLaws.{expr_ok, expr_again, expr_apart}
use Rattle.tdf_lang.proofs.ExprWords.{expr_words, expr_tokens, expr_written, expr_tokens_are}
use Rattle.tdf_lang.proofs.RowLaws.{words_tokens}
use Rattle.tdf_lang.proofs.TokenLines.{of_pieces}
use Rattle.tdf_lang.proofs.laws.law_exprs.Goals as goal

pub returns : goal.returns
returns c = λ lang pieces x d.
    let same : tokens_of lang (expr_text x) ≡ expr_tokens x =
    ap (tokens_of lang) (sym (expr_written lang x false ∙ append-nil (expr_text x)))
    ∙ words_tokens lang (expr_words x false) (expr_apart lang x (expr_ok lang d (of_pieces lang pieces)) false [] tt) ∙ expr_tokens_are x false in
    subst (λ u. SpellsExpr lang.version 0 u x) (sym same) (expr_again lang d)
