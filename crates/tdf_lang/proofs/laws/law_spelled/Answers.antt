use Rattle.tdf_lang_parser.proofs.Api.{never_both, one_line_at_fault, one_of_both, one_tree}
use Rattle.tdf_lang.proofs.AlikeLaws.{alike_text}
use Rattle.tdf_lang.proofs.CanonLaws.{comes_back, no_bytes, parses, text_alike}
use Rattle.tdf_lang.proofs.laws.law_spelled.Goals as goal

pub returns : goal.returns
returns c = record {
  one_tree = one_tree;
  no_fault = never_both;
  tree_or_fault = one_of_both;
  one_fault = one_line_at_fault;
  comes_back = λ t h. let r = comes_back t h in (r.tree, r.spells, r.alike);
  one_text = alike_text;
  exactly = λ s t h k. (alike_text s t, text_alike s t h k);
  no_bytes_at_fault = no_bytes;
  parses_again = parses;
}
