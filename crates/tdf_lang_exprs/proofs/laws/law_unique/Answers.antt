use Rattle.std.proofs.Common.{◌≡◌, List, Option, Some}
use Rattle.tdf_lang_lexer.specs.Token.{Tok}
use Rattle.tdf_lang_exprs.specs.Laws.{SpellsAtMostOne}
use Rattle.tdf_lang_exprs.proofs.Parts.{lit_reads, lits_of_reads, path_of_reads, shape_reads, format_reads}
use Rattle.tdf_lang_exprs.proofs.SpellsRuns.{index_reads, says_same}
use Rattle.tdf_lang_exprs.proofs.laws.law_unique.Goals as goal

one : {T : Type 0} (says : List Tok → T → Type 0) (of : List Tok → Option T) → ((ts : List Tok) (x : T) → says ts x → of ts ≡ Some x) → SpellsAtMostOne says
one says of read ts x y d e =
    let p : of ts ≡ Some x = read ts x d in
    let q : of ts ≡ Some y = read ts y e in
    cc

pub returns : goal.returns
returns c = record {
  lit = one _ _ (λ ts x d. lit_reads d);
  lits = one _ _ (λ ts x d. lits_of_reads d);
  index = λ v. one _ _ (λ ts x d. index_reads d);
  shape = one _ _ (λ ts x d. shape_reads d);
  format = one _ _ (λ ts x d. format_reads d);
  path = one _ _ (λ ts x d. path_of_reads d);
  expr = λ v ts x y d e. says_same d e;
}
