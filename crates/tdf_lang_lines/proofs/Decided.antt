-- What the reader of a line answers is what its tokens mean, in both directions.
use Rattle.std.proofs.Common.{◌≡◌, List, Option, Some, None, sym}
use Rattle.std.specs.Option.{option_map}
use Rattle.std.specs.Prelude.{MatchOption}
use Rattle.tdf_base.specs.declared.version.Version.{Version}
use Rattle.tdf_lang_lexer.specs.Token.{Tok}
use Rattle.tdf_lang_lines.specs.FormViews.{pure_form}
use Rattle.tdf_lang_lines.specs.Laws.{OneForm}
use Rattle.tdf_lang_lines.specs.SpellsLine.{SpellsLine, IsNoForm}
use Rattle.tdf_lang_lines.specs.machine.Reads.{form_of}
use Rattle.tdf_lang_lines.specs.declared.form.LineForm.{LineForm}
use Rattle.tdf_lang_lines.proofs.FormReads.{form_is}
use Rattle.tdf_lang_lines.proofs.ReadForms.{form_means}

pub form_decided : (v : Version) (ts : List Tok) (o : Option LineForm) → option_map pure_form o ≡ form_of v ts
    → MatchOption o (IsNoForm v ts) (λ f. SpellsLine v ts (pure_form f))
form_decided v ts None is = λ f d. let e : form_of v ts ≡ Some f = form_is d in absurd (cc)
form_decided v ts (Some f) is = form_means v ts (pure_form f) (sym is)

pub one_form : OneForm
one_form v ts f g d e =
    let p : form_of v ts ≡ Some f = form_is d in
    let q : form_of v ts ≡ Some g = form_is e in
    cc
