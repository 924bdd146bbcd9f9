use Rattle.std.proofs.Common.{◌≡◌, ◌∙◌, ◌+◌, ℕ, List, Some, None, ap, length, map, subst, sym}
use Rattle.tdf_lang_lexer.specs.Rows.{rows_of}
use Rattle.tdf_lang_lexer.specs.Text.{lines_of}
use Rattle.tdf_lang_parser.proofs.HeadLaws.{version_says}
use Rattle.tdf_lang_parser.proofs.WalkLaws.{no_first, no_version_first, none_left, read_first, row_told}
use Rattle.tdf_lang_parser.specs.Faults.{HasFault}
use Rattle.tdf_lang_parser.specs.views.RowViews.{rows_left}
use Rattle.tdf_lang_parser.specs.machine.Heads.{read_version}
use Rattle.tdf_lang_parser.proofs.parser.read_rows.Goals as goal

pub returns-in_default : goal.returns-in_default
returns-in_default c =
    let after = length (lines_of c.args.text.now) + 1 in
    subst (λ (n : ℕ). HasFault (rows_of c.args.text.now) after n) (sym c.line_after.ensures)
    (no_first (rows_of c.args.text.now) after (sym c.in_ok-rows.ensures ∙ none_left c.in_ok-rows.rows c.in_default.not-Some))

pub returns-in-Some-read_version : goal.returns-in-Some-read_version
returns-in-Some-read_version c =
    let rows = c.in_ok-rows.rows in
    let pieces = map (λ piece. piece.now) rows.pieces.items in
    let says : read_version pieces ≡ Some c.in-Some-read_version.version
    = ap (λ (ps : List _). read_version (map (λ p. p.now) ps)) (sym c.deref.ensures.value) ∙ sym c.read_version.ensures ∙ c.in-Some-read_version.is in
    read_first c.in-Some.number pieces rows.after (rows_left c.leave_first.new.rows) (rows_of c.args.text.now) c.after_version.result (length (lines_of c.args.text.now) + 1)
    (sym c.in_ok-rows.ensures ∙ row_told rows c.in-Some.number c.in-Some.is) c.in_ok-leave_first-in-Some-read_version.ensures
    (c.after_version.ensures (record { number = c.in-Some.number; pieces = pieces }) (version_says pieces c.in-Some-read_version.version says))

pub returns : goal.returns
returns c =
    let rows = c.in_ok-rows.rows in
    let pieces = map (λ piece. piece.now) rows.pieces.items in
    let says : read_version pieces ≡ None
    = ap (λ (ps : List _). read_version (map (λ p. p.now) ps)) (sym c.deref.ensures.value) ∙ sym c.read_version.ensures ∙ c.in-None.is in
    no_version_first c.in-Some.number pieces rows.after (rows_of c.args.text.now) (length (lines_of c.args.text.now) + 1)
    (sym c.in_ok-rows.ensures ∙ row_told rows c.in-Some.number c.in-Some.is) says
