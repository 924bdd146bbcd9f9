-- The numbered forms of a tree have all its numbers.
use Rattle.std.proofs.Common.{◌≡◌, ◌∙◌, ℕ, List, [], ◌∷◌, ◌++◌, map, refl, ap}
use Rattle.std.proofs.lemmas.List.{map-append}
use Rattle.std.specs.List.{flat_map}
use Rattle.tdf_lang_printer.specs.Canon.{tdf_line, attr_line, initial_line, de_line, sense_line, member_line, form_of_trace}
use Rattle.tdf_lang_tree.specs.Forms.{Form, FEnd}
use Rattle.tdf_lang_tree.specs.LinesIn.{lines_of_stmt, lines_of_stmts, lines_to_end, line_of_tdf_line, line_of_attr, line_of_initial, line_of_sense, line_of_de_line, line_of_member, line_of_trace, lines_of_tdf, lines_of_process, lines_of_de, lines_of_global, lines_in}
use Rattle.tdf_lang_tree.specs.Pure.{PureStmt, SAssign, SIf, SFor, SNotify, SSetRate, SSetStep, SAccept, SReject, PureStmts, Done, More, PureTdf, PureProcess, PureDe, PureGlobal, GShape, GTdf, GDe, GNet, PureTree}
use Rattle.tdf_stim_lines.specs.NumberedForms.{NumberedForm, numbered_form, forms_by, stmt_forms, stmts_forms, forms_to_end, tdf_forms, process_forms, de_forms, members_forms, global_forms, tree_forms}

abbrev numbers : List NumberedForm → List ℕ
numbers forms = map (λ (line : NumberedForm). line.number) forms

join : (a b : List NumberedForm) (m n : List ℕ) → numbers a ≡ m → numbers b ≡ n → numbers (a ++ b) ≡ m ++ n
join a b m n p q = map-append (λ (line : NumberedForm). line.number) a b ∙ ap (λ l. l ++ numbers b) p ∙ ap (λ l. m ++ l) q

by_line : {A : Type 0} (number : A → ℕ) (form : A → Form) (xs : List A) → numbers (forms_by number form xs) ≡ map number xs
by_line number form [] = refl
by_line number form (x ∷ xs) = ap (λ l. number x ∷ l) (by_line number form xs)

by_part : {A : Type 0} (forms : A → List NumberedForm) (lines : A → List ℕ) → ((x : A) → numbers (forms x) ≡ lines x) → (xs : List A) → numbers (flat_map forms xs) ≡ flat_map lines xs
by_part forms lines is [] = refl
by_part forms lines is (x ∷ xs) = join (forms x) (flat_map forms xs) (lines x) (flat_map lines xs) (is x) (by_part forms lines is xs)

mutual
  of_stmt : (s : PureStmt) → numbers (stmt_forms s) ≡ lines_of_stmt s
  of_stmt (SAssign line name i x) = refl
  of_stmt (SIf line x first second) =
      ap (λ l. line ∷ l) (join (stmts_forms first) (stmts_forms second) (lines_of_stmts first) (lines_of_stmts second) (of_stmts first) (of_stmts second))
  of_stmt (SFor line name from l body) = ap (λ l. line ∷ l) (of_stmts body)
  of_stmt (SNotify line event after) = refl
  of_stmt (SSetRate line name x) = refl
  of_stmt (SSetStep line port step) = refl
  of_stmt (SAccept line) = refl
  of_stmt (SReject line) = refl

  of_stmts : (ss : PureStmts) → numbers (stmts_forms ss) ≡ lines_of_stmts ss
  of_stmts Done = refl
  of_stmts (More s ss) = join (stmt_forms s) (stmts_forms ss) (lines_of_stmt s) (lines_of_stmts ss) (of_stmt s) (of_stmts ss)

of_body : (ss : PureStmts) (end : ℕ) → numbers (forms_to_end ss end) ≡ lines_to_end ss end
of_body Done end = refl
of_body (More s ss) end = join (stmts_forms (More s ss)) (numbered_form end FEnd ∷ []) (lines_of_stmts (More s ss)) (end ∷ []) (of_stmts (More s ss)) refl

of_tdf : (b : PureTdf) → numbers (tdf_forms b) ≡ lines_of_tdf b
of_tdf b =
    ap (λ l. b.line ∷ l) (join _ _ _ _ (by_line line_of_tdf_line tdf_line b.decls)
    (join _ _ _ _ (by_line line_of_attr attr_line b.attrs)
    (join _ _ _ _ (by_line line_of_initial initial_line b.initials)
    (join _ _ _ _ (of_body b.initialize.list b.initialize.end)
    (join _ _ _ _ (of_body b.processing.list b.processing.end)
    (join _ _ _ _ (of_body b.change.list b.change.end) (of_body b.reinitialize.list b.reinitialize.end)))))))

of_process : (p : PureProcess) → numbers (process_forms p) ≡ lines_of_process p
of_process p = ap (λ l. p.line ∷ l) (join _ _ _ _ (by_line line_of_sense sense_line p.sensitive) (of_body p.body.list p.body.end))

of_de : (b : PureDe) → numbers (de_forms b) ≡ lines_of_de b
of_de b = ap (λ l. b.line ∷ l) (join _ _ _ _ (by_line line_of_de_line de_line b.decls) (by_part process_forms lines_of_process of_process b.processes))

of_global : (g : PureGlobal) → numbers (global_forms g) ≡ lines_of_global g
of_global (GShape t) = refl
of_global (GTdf block) = of_tdf block
of_global (GDe block) = of_de block
of_global (GNet block) = ap (λ l. block.line ∷ l) (by_line line_of_member member_line block.members)

pub all_numbers : (tree : PureTree) → numbers (tree_forms tree) ≡ lines_in tree
all_numbers tree =
    join (flat_map global_forms tree.globals) _ (flat_map lines_of_global tree.globals) _ (by_part global_forms lines_of_global of_global tree.globals)
    (ap (λ l. tree.top.line ∷ l) (join (members_forms tree.top) _ (map line_of_member tree.top.members) _ (by_line line_of_member member_line tree.top.members) (by_line line_of_trace form_of_trace tree.traces)))
