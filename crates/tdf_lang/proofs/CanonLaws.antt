-- The canonical text of a tree that some rows spell.
use Rattle.std.proofs.Common.{◌≡◌, ◌≢◌, ℕ, ◌+◌, Bool, true, false, nat_le, nat_lt, cond, List, [], ◌∷◌, ◌++◌, Option, Some, None, length, map, refl, sym, ap, subst, ◌∙◌, arith}
use Rattle.std.proofs.lemmas.Bool.{and_parts, and_from}
use Rattle.std.proofs.lemmas.Bool.Decides.{nat_tests}
use Rattle.std.proofs.lemmas.List.Folds.{list_all-append}
use Rattle.std.specs.List.{list_all}
use Rattle.tdf_lang_parser.proofs.Api.{one_tree}
use Rattle.tdf_lang_parser.specs.Refused.{SpellsText}
use Rattle.tdf_lang_parser.specs.SpellsTree.{SpellsTree, whole_text, SpellsModel, model}
use Rattle.tdf_lang_printer.specs.Canon.{canon, head_text, tree_lines}
use Rattle.tdf_lang_printer.specs.Lines.{line_text, lines_text}
use Rattle.tdf_lang_lexer.specs.Dialect.{token_lines}
use Rattle.tdf_lang_lexer.specs.Rows.{Row, rows_from, rows_of}
use Rattle.tdf_lang_lexer.specs.Text.{fault_of, first_fault, is_allowed_byte, line_fault_of, lines_of, first_found}
use Rattle.tdf_lang_lexer.specs.Token.{TokenLine}
use Rattle.tdf_lang_lexer.specs.declared.dialect.Dialect.{Dialect}
use Rattle.tdf_lang_lexer.specs.declared.text.TextFault.{TextFault}
use Rattle.tdf_lang_lexer.specs.declared.text.TextFault.TheVariants as fault
use Rattle.tdf_lang_tree.specs.Alike.{Alike, bare}
use Rattle.tdf_lang_tree.specs.Forms.{Form}
use Rattle.tdf_lang_tree.specs.Pure.{PureTree}
use Rattle.tdf_lang.specs.Laws.{IsSpelled, HasShortLines}
use Rattle.tdf_lang.proofs.BlockLaws.{model_again}
use Rattle.tdf_lang.proofs.HeadRows.{headed, text_lines, text_rows}
use Rattle.tdf_lang.proofs.RowLaws.{FormsOk, line_plain, rows_show}
use Rattle.tdf_lang.proofs.TokenLines.{of_rows}
use Rattle.tdf_lang.proofs.Tokens.{is_plain, plain_allowed}
use Rattle.tdf_lang.proofs.TreeForms.{model_ok}

-- the bytes of canonical lines
all_allowed : (line : List ℕ) → list_all is_plain line ≡ true → list_all is_allowed_byte line ≡ true
all_allowed [] h = refl
all_allowed (c ∷ line) h =
    let e = and_parts (is_plain c) (list_all is_plain line) h in
    and_from (is_allowed_byte c) (list_all is_allowed_byte line) (plain_allowed c e.0) (all_allowed line e.1)

line_allowed : (lang : Dialect) (f : Form) → FormsOk lang (f ∷ []) → list_all is_allowed_byte (line_text lang.resolution f) ≡ true
line_allowed lang f h = all_allowed (line_text lang.resolution f) (line_plain lang f h.0)

abbrev are_allowed : List (List ℕ) → Bool
are_allowed lines = list_all (λ line. list_all is_allowed_byte line) lines

lines_allowed : (lang : Dialect) (fs : List Form) → FormsOk lang fs → are_allowed (map (line_text lang.resolution) fs) ≡ true
lines_allowed lang [] h = refl
lines_allowed lang (f ∷ fs) h =
    and_from (list_all is_allowed_byte (line_text lang.resolution f)) (are_allowed (map (line_text lang.resolution) fs)) (line_allowed lang f (h.0, tt)) (lines_allowed lang fs h.1)

text_allowed : (lang : Dialect) (fs : List Form) → FormsOk lang fs → list_all is_allowed_byte (lines_text lang.resolution fs) ≡ true
text_allowed lang [] h = refl
text_allowed lang (f ∷ fs) h =
    let line = line_text lang.resolution f in
    list_all-append is_allowed_byte (line ++ 10 ∷ []) (lines_text lang.resolution fs)
    ∙ and_from (list_all is_allowed_byte (line ++ 10 ∷ [])) (list_all is_allowed_byte (lines_text lang.resolution fs))
    (list_all-append is_allowed_byte line (10 ∷ []) ∙ and_from (list_all is_allowed_byte line) true (line_allowed lang f (h.0, tt)) refl)
    (text_allowed lang fs h.1)

-- lines whose bytes are allowed have no fault of bytes, and short ones none
abbrev are_short : List (List ℕ) → Bool
are_short lines = list_all (λ line. nat_le (length line) 1024) lines

short_not_long : (n : ℕ) → nat_le n 1024 ≡ true → nat_lt 1024 n ≡ false
short_not_long n h = grind (arith, nat_tests)

line_clean : (n : ℕ) (line : List ℕ) → list_all is_allowed_byte line ≡ true → nat_le (length line) 1024 ≡ true → line_fault_of n line ≡ None
line_clean n line h k = rw (h, short_not_long (length line) k) refl

clean : (n : ℕ) (lines : List (List ℕ)) → are_allowed lines ≡ true → are_short lines ≡ true → first_fault n lines ≡ None
unfolding first_fault
clean n [] h k = refl
clean n (line ∷ rest) h k =
    let a = and_parts (list_all is_allowed_byte line) (are_allowed rest) h in
    let b = and_parts (nat_le (length line) 1024) (are_short rest) k in
    ap (λ u. first_found u (first_fault (n + 1) rest)) (line_clean n line a.0 b.0) ∙ clean (n + 1) rest a.1 b.1

long_no_byte : (n m : ℕ) (b : Bool) (rest : Option TextFault) → rest ≢ Some (fault.Byte m) → first_found (cond b (Some (fault.LongLine n)) None) rest ≢ Some (fault.Byte m)
long_no_byte n m true rest h e = absurd (cc)
long_no_byte n m false rest h e = h e

no_byte : (n m : ℕ) (lines : List (List ℕ)) → are_allowed lines ≡ true → first_fault n lines ≢ Some (fault.Byte m)
unfolding first_fault
no_byte n m [] h e = absurd (cc)
no_byte n m (line ∷ rest) h e =
    let a = and_parts (list_all is_allowed_byte line) (are_allowed rest) h in
    let same : line_fault_of n line ≡ cond (nat_lt 1024 (length line)) (Some (fault.LongLine n)) None = rw a.0 refl in
    long_no_byte n m (nat_lt 1024 (length line)) (first_fault (n + 1) rest) (no_byte (n + 1) m rest a.1)
    (sym (ap (λ u. first_found u (first_fault (n + 1) rest)) same) ∙ e)

-- the canonical text, read again
pub record CanonAgain (t : PureTree) : Type 0 where
  pub tree : PureTree
  pub spells : SpellsTree (rows_of (canon t)) tree
  pub alike : Alike tree t
  pub allowed : list_all is_allowed_byte (canon t) ≡ true
  pub lines : are_allowed (lines_of (canon t)) ≡ true

canon_is : (lang : Dialect) {r : List TokenLine} {t : PureTree} → SpellsModel lang r t
    → canon t ≡ head_text lang.version lang.resolution ++ lines_text lang.resolution (tree_lines t)
unfolding canon
canon_is lang (model q l gs mq ls me xs) = refl

again : {r : List Row} {t : PureTree} → SpellsTree r t → CanonAgain t
again (whole_text {lang = lang} {tree = tree} b d m) =
    let hd = headed d in
    let ok = model_ok lang hd.sound m (of_rows lang b) in
    let fs = tree_lines tree in
    let more = rows_from hd.next (map (line_text lang.resolution) fs) in
    let new = model_again lang m (token_lines lang more) (rows_show lang hd.next fs ok) in
    let text = canon_is lang m in
    let head = head_text lang.version lang.resolution in
    record {
      tree = new.tree;
      spells = subst (λ u. SpellsTree u new.tree) (sym (ap rows_of text ∙ text_rows lang hd fs ok)) (whole_text more hd.spells new.spells);
      alike = new.alike;
      allowed = ap (list_all is_allowed_byte) text ∙ list_all-append is_allowed_byte head (lines_text lang.resolution fs)
          ∙ and_from (list_all is_allowed_byte head) (list_all is_allowed_byte (lines_text lang.resolution fs)) hd.allowed (text_allowed lang fs ok);
      lines = ap are_allowed (ap lines_of text ∙ text_lines lang hd fs ok)
          ∙ list_all-append (λ line. list_all is_allowed_byte line) hd.lines (map (line_text lang.resolution) fs)
          ∙ and_from (are_allowed hd.lines) (are_allowed (map (line_text lang.resolution) fs)) hd.plain (lines_allowed lang fs ok);
    }

pub comes_back : (t : PureTree) → IsSpelled t → CanonAgain t
comes_back t h = again h.1

pub text_alike : (s t : PureTree) → IsSpelled s → IsSpelled t → canon s ≡ canon t → Alike s t
text_alike s t h k e =
    let a = comes_back s h in
    let b = comes_back t k in
    let same : a.tree ≡ b.tree =
    one_tree (rows_of (canon t)) a.tree b.tree (subst (λ u. SpellsTree (rows_of u) a.tree) e a.spells) b.spells in
    sym a.alike ∙ ap bare same ∙ b.alike

pub no_bytes : (t : PureTree) → IsSpelled t → (list_all is_allowed_byte (canon t) ≡ true) × ((line : ℕ) → fault_of (canon t) ≢ Some (fault.Byte line))
unfolding fault_of
no_bytes t h = let a = comes_back t h in (a.allowed, λ line. no_byte 1 line (lines_of (canon t)) a.lines)

pub parses : (t : PureTree) → IsSpelled t → HasShortLines (canon t) → (y : PureTree) × SpellsText (canon t) y × Alike y t
unfolding fault_of
parses t h k =
    let a = comes_back t h in
    (a.tree, record { clean = clean 1 (lines_of (canon t)) a.lines k; spelled = a.spells }, a.alike)
