use Rattle.tdf_lang_exprs.proofs.Forms.{lit_fits, fits_lit, lits_fit, fits_lits, index_fits, fits_index, shape_fits, fits_the_shape, format_fits, fits_format, path_fits, fits_path, expr_fits, fits_expr}
use Rattle.tdf_lang_exprs.proofs.laws.law_forms.Goals as goal

pub returns : goal.returns
returns c = record {
  lit = λ ts. (λ d. lit_fits d.1, λ d. fits_lit d);
  lits = λ ts. (λ d. lits_fit d.1, λ d. fits_lits d);
  index = λ v ts. (λ d. index_fits d.1, λ d. fits_index d);
  shape = λ ts. (λ d. shape_fits d.1, λ d. fits_the_shape d);
  format = λ ts. (λ d. format_fits d.1, λ d. fits_format d);
  path = λ ts. (λ d. path_fits d.1, λ d. fits_path d);
  expr = λ v ts. (λ d. expr_fits d.1, λ d. fits_expr d);
}
