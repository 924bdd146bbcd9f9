-- The token lines of a canonical text are its canonical tokens, line by line.
use Rattle.std.proofs.Common.{◌≡◌, ℕ, suc, ◌+◌, true, not, List, [], ◌∷◌, ◌++◌, Some, None, length, take, map, refl, sym, ap, subst, ◌∙◌, append_assoc, arith}
use Rattle.std.proofs.Math.Seq.{take-length}
use Rattle.std.proofs.lemmas.Bool.{and_parts}
use Rattle.std.proofs.lemmas.List.{append-nil}
use Rattle.std.specs.List.{list_all, prefix_len}
use Rattle.tdf_lang_tree.specs.Forms.{Form, FType, FTdf, FDe, FComposite, FTop, FEnd, FPort, FConst, FVar, FArray, FRateVar, FSetAttributes, FInitialize, FProcessing, FChangeAttributes, FReinitialize, FStep, FRate, FDelay, FDoes, FAccept, FReject, FInitial, FEvent, FProcess, FSensitive, FDontInitialize, FNotify, FSignal, FDeSignal, FInstance, FBind, FTrace, FAssign, FIf, FElse, FFor, FSetRate}
use Rattle.tdf_lang_lexer.specs.Pieces.{is_comment, without_comment, pieces_of}
use Rattle.tdf_lang_lexer.specs.Dialect.{token_of, token_lines}
use Rattle.tdf_lang_lexer.specs.Rows.{Row, row_unless_bare, rows_from}
use Rattle.tdf_lang_lexer.specs.declared.dialect.Dialect.{Dialect}
use Rattle.tdf_lang_lexer.specs.Text.{lines_from}
use Rattle.tdf_lang_lexer.specs.Token.{Tok, TokenLine}
use Rattle.tdf_lang_printer.specs.Lines.{line_text, lines_text}
use Rattle.tdf_lang.proofs.FormWords.{form_words, form_tokens, form_written, form_tokens_are, form_apart, FormOk}
use Rattle.tdf_lang.proofs.Gaps.{Word, written, tokens_in, ApartTo, words_read, words_plain}
use Rattle.tdf_lang.proofs.Tokens.{is_plain, plain_code, plain_line}
use Rattle.tdf_lang.specs.Texts.{tokens_of}

one_more : (n : ℕ) → 1 + n ≡ suc n
one_more n = omega arith

-- a line without `#` is its own code
comment_free : (line : List ℕ) → list_all is_plain line ≡ true → prefix_len (λ b. not (is_comment b)) line ≡ length line
comment_free [] h = refl
comment_free (c ∷ line) h =
    let e = and_parts (is_plain c) (list_all is_plain line) h in
    rw (plain_code c e.0) (ap (λ n. 1 + n) (comment_free line e.1) ∙ one_more (length line))

code_is : (line : List ℕ) → list_all is_plain line ≡ true → without_comment line ≡ line
code_is line h = ap (λ n. take n line) (comment_free line h) ∙ take-length line

pub words_tokens : (lang : Dialect) (ws : List Word) → ApartTo lang ws [] → tokens_of lang (written lang ws) ≡ tokens_in ws
words_tokens lang ws h = ap (λ u. map (token_of lang) (pieces_of u)) (code_is (written lang ws) (words_plain lang ws [] h)) ∙ words_read lang ws h

-- the tokens of a canonical line
pub line_tokens : (lang : Dialect) (f : Form) → FormOk lang f → tokens_of lang (line_text lang.resolution f) ≡ form_tokens f
line_tokens lang f h = ap (tokens_of lang) (sym (form_written lang f h)) ∙ words_tokens lang (form_words f) (form_apart lang f h) ∙ form_tokens_are f

pub line_plain : (lang : Dialect) (f : Form) → FormOk lang f → list_all is_plain (line_text lang.resolution f) ≡ true
line_plain lang f h = ap (list_all is_plain) (sym (form_written lang f h)) ∙ words_plain lang (form_words f) [] (form_apart lang f h)

-- a line without LF is one line
line_cut : (now line rest : List ℕ) → list_all is_plain line ≡ true → lines_from now (line ++ 10 ∷ rest) ≡ (now ++ line) ∷ lines_from [] rest
unfolding lines_from
line_cut now [] rest h = ap (λ u. u ∷ lines_from [] rest) (sym (append-nil now))
line_cut now (c ∷ line) rest h =
    let e = and_parts (is_plain c) (list_all is_plain line) h in
    rw (plain_line c e.0)
    (line_cut (now ++ c ∷ []) line rest e.1 ∙ ap (λ u. u ∷ lines_from [] rest) (append_assoc now (c ∷ []) line))

abbrev pub FormsOk : Dialect → List Form → Type 0
FormsOk lang [] = Unit {0}
FormsOk lang (f ∷ fs) = FormOk lang f × FormsOk lang fs

pub lines_cut : (lang : Dialect) (fs : List Form) → FormsOk lang fs → lines_from [] (lines_text lang.resolution fs) ≡ map (line_text lang.resolution) fs
unfolding lines_from
lines_cut lang [] h = refl
lines_cut lang (f ∷ fs) h =
    ap (lines_from []) (append_assoc (line_text lang.resolution f) (10 ∷ []) (lines_text lang.resolution fs))
    ∙ line_cut [] (line_text lang.resolution f) (lines_text lang.resolution fs) (line_plain lang f h.0)
    ∙ ap (λ u. line_text lang.resolution f ∷ u) (lines_cut lang fs h.1)

-- rows show forms where they have their canonical tokens
abbrev pub Shows : List TokenLine → List Form → Type 0
Shows [] [] = Unit {0}
Shows (r ∷ rs) (f ∷ fs) = (r.tokens ≡ form_tokens f) × Shows rs fs
Shows [] (f ∷ fs) = ⊥
Shows (r ∷ rs) [] = ⊥

-- a line has a token
abbrev Some_ : List Tok → Type 0
Some_ [] = ⊥
Some_ (t ∷ ts) = Unit {0}

row_shows : (lang : Dialect) (n : ℕ) (pieces : List (List ℕ)) (f : Form) (rest : List Row) (fs : List Form) → map (token_of lang) pieces ≡ form_tokens f
    → Some_ (form_tokens f) → Shows (token_lines lang rest) fs → Shows (token_lines lang (row_unless_bare n pieces ++ rest)) (f ∷ fs)
row_shows lang n [] f rest fs e h k = absurd (subst Some_ (sym e) h)
row_shows lang n (t ∷ ts) f rest fs e h k = (e, k)

form_some : (f : Form) → Some_ (form_tokens f)
form_some (FType name s) = tt
form_some (FTdf name) = tt
form_some (FDe name) = tt
form_some (FComposite name) = tt
form_some (FEvent name) = tt
form_some (FSensitive name) = tt
form_some FTop = tt
form_some FEnd = tt
form_some FSetAttributes = tt
form_some FInitialize = tt
form_some FProcessing = tt
form_some FChangeAttributes = tt
form_some FReinitialize = tt
form_some FDoes = tt
form_some FAccept = tt
form_some FReject = tt
form_some FProcess = tt
form_some FDontInitialize = tt
form_some FElse = tt
form_some (FPort kind name x) = tt
form_some (FConst name x v) = tt
form_some (FVar name x v) = tt
form_some (FDeSignal name x v) = tt
form_some (FArray name x size vs) = tt
form_some (FRateVar name least greatest start) = tt
form_some (FStep None count) = tt
form_some (FStep (Some port) count) = tt
form_some (FRate port l) = tt
form_some (FDelay port count) = tt
form_some (FInitial port place v) = tt
form_some (FNotify event after) = tt
form_some (FSignal name x) = tt
form_some (FInstance name block) = tt
form_some (FBind instance port target) = tt
form_some (FTrace path label) = tt
form_some (FAssign name None e) = tt
form_some (FAssign name (Some i) e) = tt
form_some (FIf e) = tt
form_some (FFor name from l) = tt
form_some (FSetRate name e) = tt

pub rows_show : (lang : Dialect) (n : ℕ) (fs : List Form) → FormsOk lang fs → Shows (token_lines lang (rows_from n (map (line_text lang.resolution) fs))) fs
unfolding rows_from
rows_show lang n [] h = tt
rows_show lang n (f ∷ fs) h =
    row_shows lang n (pieces_of (without_comment (line_text lang.resolution f))) f (rows_from (n + 1) (map (line_text lang.resolution) fs)) fs (line_tokens lang f h.0) (form_some f)
    (rows_show lang (n + 1) fs h.1)
