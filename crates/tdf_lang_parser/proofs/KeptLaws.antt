-- What rows spell is kept by its tree, whose line numbers are those of rows in their order.
use Rattle.std.proofs.Common.{◌≡◌, ◌⊎◌, ℕ, ◌+◌, List, [], ◌∷◌, ◌++◌, map, Option, Some, refl, sym, ap, subst, ◌∙◌, append_assoc, inl, inr, Result, Ok, Err, IfOk}
use Rattle.std.proofs.lemmas.Grind.{flat_map-append}
use Rattle.std.proofs.lemmas.List.{append-nil, map-append}
use Rattle.std.specs.List.{flat_map}
use Rattle.tdf_base.specs.declared.version.Version.TheVariants.{V3}
use Rattle.tdf_base.specs.declared.resolution.Resolution.TheVariants.{Ps}
use Rattle.tdf_lang_parser.proofs.LineOrder.{Within, within_none, within_both, within_more, within_nothing, Rises, rises_within, rises_increase, numbers, within_rows, within_front, within_after, KeepRows, rows_split, rows_keep, row_numbers, numbers_of, rows_rise}
use Rattle.tdf_lang_parser.proofs.TableKeeps.{KeepsMade, tdf_line_keeps, attr_keeps, initial_keeps, de_line_keeps, sense_keeps, member_keeps, net_line_keeps, trace_keeps, stmt_keeps}
use Rattle.tdf_lang_parser.specs.Head.{SpellsHead, head_version, head_resolution}
use Rattle.tdf_lang_parser.specs.Items.{tdf_line_of, attr_of, initial_of, de_line_of, sense_of, member_of, net_line_of, trace_item, BodyKind}
use Rattle.tdf_lang_parser.specs.Refused.{SpellsText}
use Rattle.tdf_lang_parser.specs.declared.err.LangErr.{LangErr}
use Rattle.tdf_lang_parser.specs.machine.Walks.{IsRead}
use Rattle.tdf_lang_parser.specs.SpellsTree.{Lines, lines_none, lines_more, SpellsOne, simple, choice, both, turns, SpellsAll, stmts_none, stmts_more, deepest, body_with, SpellsPart, part_none, part_some, SpellsAttributes, attributes_none, attributes_some, SpellsInitialize, initialize_none, initialize_some, SpellsTdf, tdf, SpellsProcess, process, SpellsProcesses, processes_none, processes_more, SpellsGlobal, global_type, global_tdf, global_de, global_net, SpellsGlobals, globals_none, globals_more, SpellsModel, model, SpellsTree, whole_text}
use Rattle.tdf_lang_lines.proofs.Api.{KeepsForm, line_keeps}
use Rattle.tdf_lang_lexer.specs.Rows.{Row, rows_of}
use Rattle.tdf_lang_lexer.specs.Token.{TokenLine}
use Rattle.tdf_lang_lexer.specs.declared.dialect.Dialect.{Dialect}
use Rattle.tdf_lang_tree.specs.Forms.{Form}
use Rattle.tdf_lang_tree.specs.Kept.{Each, KeepsTdfLine, KeepsAttr, KeepsInitial, KeepsDeLine, KeepsSense, KeepsMember, KeepsTrace, KeepsStmt, KeepsStmts, KeepsBody, KeepsTdf, KeepsProcess, KeepsGlobal, IsKept}
use Rattle.tdf_lang_tree.specs.LinesIn.{line_of_tdf_line, line_of_attr, line_of_initial, line_of_de_line, line_of_sense, line_of_member, line_of_trace, lines_of_stmt, lines_of_stmts, lines_of_body, lines_of_tdf, lines_of_process, lines_of_global, lines_in, HasLinesInOrder}
use Rattle.tdf_lang_tree.specs.Pure.{PureStmt, PureBody, PureTdf, PureProcess, PureGlobal, PureTree}
use Rattle.tdf_lang_tree.specs.Views.{sts, pure_tree}
use Rattle.tdf_lang_tree.specs.declared.blocks.Attr.{Attr}
use Rattle.tdf_lang_tree.specs.declared.blocks.Initial.{Initial}
use Rattle.tdf_lang_tree.specs.declared.tree.Tree.{Tree}

-- both facts of a part
record Holds (kept : Type 0) (own rows : List ℕ) : Type 0 where
  keeps : kept
  order : Within own rows

each_more : {X : Type 0} (K : X → Type 0) (xs : List X) (x : X) → Each K xs → K x → Each K (xs ++ x ∷ [])
each_more K [] x h k = (k, tt)
each_more K (y ∷ ys) x h k = (h.0, each_more K ys x h.1 k)

-- the lines of one table
lines_hold : {X : Type 0} (lang : Dialect) (of : ℕ → Form → Option X) (K : X → Type 0) (at : X → ℕ)
    → ((line : ℕ) (f : Form) → KeepsForm f → KeepsMade K at line (of line f))
    → {rows : List TokenLine} {xs : List X} → Lines lang of rows xs → KeepRows rows → Holds (Each K xs) (map at xs) (numbers rows)
lines_hold lang of K at table lines_none k = record { keeps = tt; order = within_none }
lines_hold lang of K at table (lines_more {a = a} {xs = xs} {f = f} {x = x} d h m e) k =
    let s = rows_split a (h ∷ []) k in
    let before = lines_hold lang of K at table d s.0 in
    let made : KeepsMade K at h.number (Some x) = subst (KeepsMade K at h.number) e (table h.number f (line_keeps m s.1.0)) in
    let one : Within (map at (x ∷ [])) (numbers (h ∷ [])) = subst (λ n. Within (n ∷ []) (h.number ∷ [])) (sym made.1) (within_both h.number within_none) in record {
      keeps = each_more K xs x before.keeps made.0;
      order = subst (λ ns. Within ns (numbers (a ++ h ∷ []))) (sym (map-append at xs (x ∷ []))) (within_rows a (h ∷ []) before.order one);
    }

-- statements
stmts_keep : (d : ℕ) (ss : List PureStmt) → Each (KeepsStmt d) ss → KeepsStmts d (sts ss)
stmts_keep d [] h = tt
stmts_keep d (s ∷ ss) h = (h.0, stmts_keep d ss h.1)

stmts_lines : (ss : List PureStmt) → flat_map lines_of_stmt ss ≡ lines_of_stmts (sts ss)
stmts_lines [] = refl
stmts_lines (s ∷ ss) = ap (λ ns. lines_of_stmt s ++ ns) (stmts_lines ss)

abbrev HoldsAll : ℕ → List PureStmt → List TokenLine → Type 0
HoldsAll d ss rows = Holds (Each (KeepsStmt d) ss) (lines_of_stmts (sts ss)) (numbers rows)

more_lines : (ss : List PureStmt) (s : PureStmt) → lines_of_stmts (sts (ss ++ s ∷ [])) ≡ lines_of_stmts (sts ss) ++ lines_of_stmt s
more_lines [] s = append-nil (lines_of_stmt s)
more_lines (x ∷ ss) s = ap (λ ns. lines_of_stmt x ++ ns) (more_lines ss s) ∙ sym (append_assoc (lines_of_stmt x) (lines_of_stmts (sts ss)) (lines_of_stmt s))

mutual
  one_holds : {lang : Dialect} {k : BodyKind} {d : ℕ} {rows : List TokenLine} {s : PureStmt} → SpellsOne lang k d rows s → KeepRows rows
      → Holds (KeepsStmt d s) (lines_of_stmt s) (numbers rows)
  one_holds (simple {k = k} {d = d} {f = f} {s = s} h m e) kept =
      let made : KeepsMade (KeepsStmt d) lines_of_stmt (h.number ∷ []) (Some s) = subst (KeepsMade (KeepsStmt d) lines_of_stmt (h.number ∷ [])) e (stmt_keeps k d h.number f (line_keeps m kept.0)) in record {
        keeps = made.0;
        order = subst (λ ns. Within ns (h.number ∷ [])) (sym made.1) (within_both h.number within_none);
      }
  one_holds (choice {d = d} {a = a} {first = first} h l m all end) kept =
      let s = rows_split a (l ∷ []) kept.1 in
      let r = all_hold all s.0 in record {
        keeps = (line_keeps m kept.0, stmts_keep d first r.keeps, tt);
        order = within_both h.number (within_rows a (l ∷ []) r.order (within_nothing (numbers (l ∷ []))));
      }
  one_holds (both {d = d} {a = a} {b = b} {first = first} {second = second} h m l test all other rest end) kept =
      let s = rows_split a (m ∷ (b ++ l ∷ [])) kept.1 in
      let t = rows_split b (l ∷ []) s.1.1 in
      let r = all_hold all s.0 in
      let q = all_hold rest t.0 in record {
        keeps = (line_keeps test kept.0, stmts_keep d first r.keeps, stmts_keep d second q.keeps);
        order = within_both h.number (within_rows a (m ∷ (b ++ l ∷ [])) r.order (within_more m.number (within_front b (l ∷ []) q.order)));
      }
  one_holds (turns {d = d} {a = a} {body = body} h e m all end) kept =
      let s = rows_split a (e ∷ []) kept.1 in
      let r = all_hold all s.0 in
      let f = line_keeps m kept.0 in record {
        keeps = (f.0, f.1, f.2, stmts_keep d body r.keeps);
        order = within_both h.number (within_front a (e ∷ []) r.order);
      }

  all_hold : {lang : Dialect} {k : BodyKind} {d : ℕ} {rows : List TokenLine} {ss : List PureStmt} → SpellsAll lang k d rows ss → KeepRows rows → HoldsAll d ss rows
  all_hold stmts_none kept = record { keeps = tt; order = within_none }
  all_hold (stmts_more {d = d} {a = a} {b = b} {ss = ss} {s = s} all one) kept =
      let t = rows_split a b kept in
      let r = all_hold all t.0 in
      let q = one_holds one t.1 in record {
        keeps = each_more (KeepsStmt d) ss s r.keeps q.keeps;
        order = subst (λ ns. Within ns (numbers (a ++ b))) (sym (more_lines ss s)) (within_rows a b r.order q.order);
      }

-- a body and its `end`
body_holds : (ss : List PureStmt) (a : List TokenLine) (l : TokenLine) → HoldsAll deepest ss a
    → Holds (KeepsBody (body_with ss l.number)) (lines_of_body (body_with ss l.number)) (numbers (a ++ l ∷ []))
body_holds [] a l r = record { keeps = tt; order = within_nothing (numbers (a ++ l ∷ [])) }
body_holds (s ∷ ss) a l r = record {
  keeps = stmts_keep deepest (s ∷ ss) r.keeps;
  order = within_rows a (l ∷ []) r.order (within_both l.number within_none);
}

part_holds : {lang : Dialect} {head : Form} {k : BodyKind} {rows : List TokenLine} {body : PureBody} → SpellsPart lang head k rows body → KeepRows rows
    → Holds (KeepsBody body) (lines_of_body body) (numbers rows)
part_holds part_none kept = record { keeps = tt; order = within_none }
part_holds (part_some {a = a} {ss = ss} h l m all end) kept =
    let r = body_holds ss a l (all_hold all (rows_split a (l ∷ []) kept.1).0) in record { keeps = r.keeps; order = within_more h.number r.order }

attributes_hold : {lang : Dialect} {rows : List TokenLine} {xs : List Attr} → SpellsAttributes lang rows xs → KeepRows rows
    → Holds (Each KeepsAttr xs) (map line_of_attr xs) (numbers rows)
attributes_hold attributes_none kept = record { keeps = tt; order = within_none }
attributes_hold {lang = lang} (attributes_some {a = a} h l m lines end) kept =
    let r = lines_hold lang attr_of KeepsAttr line_of_attr attr_keeps lines (rows_split a (l ∷ []) kept.1).0 in
    record { keeps = r.keeps; order = within_more h.number (within_front a (l ∷ []) r.order) }

initialize_holds : {lang : Dialect} {rows : List TokenLine} {xs : List Initial} {body : PureBody} → SpellsInitialize lang rows xs body → KeepRows rows
    → Holds (Each KeepsInitial xs × KeepsBody body) (map line_of_initial xs ++ lines_of_body body) (numbers rows)
initialize_holds initialize_none kept = record { keeps = (tt, tt); order = within_none }
initialize_holds {lang = lang} (initialize_some {a = a} {b = b} {xs = xs} {ss = ss} h l m lines all end) kept =
    let s = rows_split a (b ++ l ∷ []) kept.1 in
    let r = lines_hold lang initial_of KeepsInitial line_of_initial initial_keeps lines s.0 in
    let q = body_holds ss b l (all_hold all (rows_split b (l ∷ []) s.1).0) in
    record { keeps = (r.keeps, q.keeps); order = within_more h.number (within_rows a (b ++ l ∷ []) r.order q.order) }

tdf_holds : {lang : Dialect} {rows : List TokenLine} {t : PureTdf} → SpellsTdf lang rows t → KeepRows rows → Holds (KeepsTdf t) (lines_of_tdf t) (numbers rows)
tdf_holds {lang = lang} (tdf {a = a} {b = b} {c = c} {d = d} {e = e} {f = f} {decls = decls} {attrs = attrs} {initials = initials} {initialize = initialize} {processing = processing} {change = change} {reinitialize = reinitialize} h m lines ds is ps cs rs) kept =
    let s1 = rows_split a (b ++ (c ++ (d ++ (e ++ f)))) kept.1 in
    let s2 = rows_split b (c ++ (d ++ (e ++ f))) s1.1 in
    let s3 = rows_split c (d ++ (e ++ f)) s2.1 in
    let s4 = rows_split d (e ++ f) s3.1 in
    let s5 = rows_split e f s4.1 in
    let r1 = lines_hold lang tdf_line_of KeepsTdfLine line_of_tdf_line tdf_line_keeps lines s1.0 in
    let r2 = attributes_hold ds s2.0 in
    let r3 = initialize_holds is s3.0 in
    let r4 = part_holds ps s4.0 in
    let r5 = part_holds cs s5.0 in
    let r6 = part_holds rs s5.1 in
    let after = lines_of_body processing ++ (lines_of_body change ++ lines_of_body reinitialize) in
    let last : Within after (numbers (d ++ (e ++ f))) = within_rows d (e ++ f) r4.order (within_rows e f r5.order r6.order) in
    let first : Within (map line_of_initial initials ++ (lines_of_body initialize ++ after)) (numbers (c ++ (d ++ (e ++ f)))) =
    subst (λ ns. Within ns (numbers (c ++ (d ++ (e ++ f))))) (append_assoc (map line_of_initial initials) (lines_of_body initialize) after) (within_rows c (d ++ (e ++ f)) r3.order last) in record {
      keeps = record {
        name = line_keeps m kept.0;
        decls = r1.keeps;
        attrs = r2.keeps;
        initials = r3.keeps.0;
        initialize = r3.keeps.1;
        processing = r4.keeps;
        change = r5.keeps;
        reinitialize = r6.keeps;
      };
      order = within_both h.number (within_rows a (b ++ (c ++ (d ++ (e ++ f)))) r1.order (within_rows b (c ++ (d ++ (e ++ f))) r2.order first));
    }

process_holds : {lang : Dialect} {rows : List TokenLine} {p : PureProcess} → SpellsProcess lang rows p → KeepRows rows → Holds (KeepsProcess p) (lines_of_process p) (numbers rows)
process_holds {lang = lang} (process {a = a} {b = b} {c = c} {ss = ss} h l m lines dont all end) kept =
    let s1 = rows_split a (b ++ (c ++ l ∷ [])) kept.1 in
    let s2 = rows_split b (c ++ l ∷ []) s1.1 in
    let r = lines_hold lang sense_of KeepsSense line_of_sense sense_keeps lines s1.0 in
    let q = body_holds ss c l (all_hold all (rows_split c (l ∷ []) s2.1).0) in record {
      keeps = (r.keeps, q.keeps);
      order = within_both h.number (within_rows a (b ++ (c ++ l ∷ [])) r.order (within_after b (c ++ l ∷ []) q.order));
    }

flat_more : {X : Type 0} (f : X → List ℕ) (xs : List X) (x : X) → flat_map f (xs ++ x ∷ []) ≡ flat_map f xs ++ f x
flat_more f xs x = flat_map-append f xs (x ∷ []) ∙ ap (λ ns. flat_map f xs ++ ns) (append-nil (f x))

processes_hold : {lang : Dialect} {rows : List TokenLine} {ps : List PureProcess} → SpellsProcesses lang rows ps → KeepRows rows
    → Holds (Each KeepsProcess ps) (flat_map lines_of_process ps) (numbers rows)
processes_hold processes_none kept = record { keeps = tt; order = within_none }
processes_hold (processes_more {a = a} {b = b} {ps = ps} {p = p} all one) kept =
    let s = rows_split a b kept in
    let r = processes_hold all s.0 in
    let q = process_holds one s.1 in record {
      keeps = each_more KeepsProcess ps p r.keeps q.keeps;
      order = subst (λ ns. Within ns (numbers (a ++ b))) (sym (flat_more lines_of_process ps p)) (within_rows a b r.order q.order);
    }

global_holds : {lang : Dialect} {rows : List TokenLine} {g : PureGlobal} → SpellsGlobal lang rows g → KeepRows rows → Holds (KeepsGlobal g) (lines_of_global g) (numbers rows)
global_holds (global_type h m) kept = record { keeps = line_keeps m kept.0; order = within_both h.number within_none }
global_holds (global_tdf {a = a} l block end) kept =
    let r = tdf_holds block (rows_split a (l ∷ []) kept).0 in record { keeps = r.keeps; order = within_front a (l ∷ []) r.order }
global_holds {lang = lang} (global_de {a = a} {b = b} h l m lines all end) kept =
    let s = rows_split a (b ++ l ∷ []) kept.1 in
    let r = lines_hold lang de_line_of KeepsDeLine line_of_de_line de_line_keeps lines s.0 in
    let q = processes_hold all (rows_split b (l ∷ []) s.1).0 in record {
      keeps = record { name = line_keeps m kept.0; decls = r.keeps; processes = q.keeps };
      order = within_both h.number (within_rows a (b ++ l ∷ []) r.order (within_front b (l ∷ []) q.order));
    }
global_holds {lang = lang} (global_net {a = a} h l m lines end) kept =
    let r = lines_hold lang net_line_of KeepsMember line_of_member net_line_keeps lines (rows_split a (l ∷ []) kept.1).0 in record {
      keeps = (line_keeps m kept.0, r.keeps);
      order = within_both h.number (within_front a (l ∷ []) r.order);
    }

globals_hold : {lang : Dialect} {rows : List TokenLine} {gs : List PureGlobal} → SpellsGlobals lang rows gs → KeepRows rows
    → Holds (Each KeepsGlobal gs) (flat_map lines_of_global gs) (numbers rows)
globals_hold globals_none kept = record { keeps = tt; order = within_none }
globals_hold (globals_more {a = a} {b = b} {gs = gs} {g = g} all one) kept =
    let s = rows_split a b kept in
    let r = globals_hold all s.0 in
    let q = global_holds one s.1 in record {
      keeps = each_more KeepsGlobal gs g r.keeps q.keeps;
      order = subst (λ ns. Within ns (numbers (a ++ b))) (sym (flat_more lines_of_global gs g)) (within_rows a b r.order q.order);
    }

-- the dialects that a text may have
abbrev IsDialect : Dialect → Type 0
IsDialect lang = (lang.version ≡ V3) ⊎ (lang.resolution ≡ Ps)

model_holds : {lang : Dialect} {rows : List TokenLine} {t : PureTree} → IsDialect lang → SpellsModel lang rows t → KeepRows rows → Holds (IsKept t) (lines_in t) (numbers rows)
model_holds {lang = lang} is (model {a = a} {b = b} {c = c} t l globals top members end traces) kept =
    let s1 = rows_split a (t ∷ (b ++ l ∷ c)) kept in
    let s2 = rows_split b (l ∷ c) s1.1.1 in
    let r1 = globals_hold globals s1.0 in
    let r2 = lines_hold lang member_of KeepsMember line_of_member member_keeps members s2.0 in
    let r3 = lines_hold lang trace_item KeepsTrace line_of_trace trace_keeps traces s2.1.1 in record {
      keeps = record {
        resolution = is;
        globals = r1.keeps;
        top = (refl, r2.keeps);
        traces = r3.keeps;
      };
      order = within_rows a (t ∷ (b ++ l ∷ c)) r1.order (within_both t.number (within_rows b (l ∷ c) r2.order (within_more l.number r3.order)));
    }

head_is : {rows : List Row} {lang : Dialect} → SpellsHead rows lang → IsDialect lang
head_is (head_version h d) = inr refl
head_is (head_resolution h r d e) = inl refl

-- the rows after those that open a text
rest_rise : {a : List Row} {lang : Dialect} (m : ℕ) (b : List Row) → SpellsHead a lang → Rises m (row_numbers (a ++ b)) → (n : ℕ) × Rises n (row_numbers b)
rest_rise m b (head_version h d) r = (h.number + 1, r.1)
rest_rise m b (head_resolution h s d e) r = (s.number + 1, r.1.1)

tree_keeps : {rows : List Row} {t : PureTree} → SpellsTree rows t → IsKept t
tree_keeps (whole_text {lang = lang} b head spelled) = (model_holds (head_is head) spelled (rows_keep lang b)).keeps

tree_order : {rows : List Row} {t : PureTree} → SpellsTree rows t → (m : ℕ) → Rises m (row_numbers rows) → HasLinesInOrder t
tree_order (whole_text {lang = lang} {tree = tree} b head spelled) m r =
    let rest = rest_rise m b head r in
    let order : Within (lines_in tree) (row_numbers b) = subst (λ ns. Within (lines_in tree) ns) (numbers_of lang b) (model_holds (head_is head) spelled (rows_keep lang b)).order in
    rises_increase rest.0 (lines_in tree) (rises_within rest.0 order rest.1)

pub text_keeps : {text : List ℕ} {t : PureTree} → SpellsText text t → IsKept t
text_keeps s = tree_keeps s.spelled

pub text_order : {text : List ℕ} {t : PureTree} → SpellsText text t → HasLinesInOrder t
text_order {text = text} s = tree_order s.spelled 1 (rows_rise text)

-- of what was read
pub read_keeps : (result : Result Tree LangErr) (rows : List Row) (after : ℕ) → IsRead result rows after → IfOk result (λ t. IsKept (pure_tree t))
read_keeps (Ok t) rows after read = tree_keeps read
read_keeps (Err e) rows after read = tt

pub read_order : (result : Result Tree LangErr) (text : List ℕ) (rows : List Row) (after : ℕ) → rows ≡ rows_of text → IsRead result rows after
    → IfOk result (λ t. HasLinesInOrder (pure_tree t))
read_order (Ok t) text rows after is read = tree_order read 1 (subst (λ rs. Rises 1 (row_numbers rs)) (sym is) (rows_rise text))
read_order (Err e) text rows after is read = tt
