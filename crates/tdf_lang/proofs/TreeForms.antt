-- Each line of a tree that token lines spell can be written.
use Rattle.std.proofs.Common.{◌≡◌, ℕ, Bool, List, [], ◌∷◌, ◌++◌, Option, Some, map, sym, subst}
use Rattle.std.specs.List.{flat_map}
use Rattle.tdf_lang_tree.specs.Forms.{Form, FEnd, FProcessing, FChangeAttributes, FReinitialize}
use Rattle.tdf_lang_parser.specs.Items.{tdf_line_of, attr_of, initial_of, de_line_of, sense_of, member_of, net_line_of, trace_item, BodyKind}
use Rattle.tdf_lang_lexer.specs.Token.{TokenLine}
use Rattle.tdf_lang_tree.specs.Alike.{bare_tdf_line, bare_attr, bare_initial, bare_de_line, bare_sense, bare_member, bare_trace}
use Rattle.tdf_lang_tree.specs.Pure.{PureStmt, PureStmts, Done, More, PureBody, PureTdf, PureProcess, PureGlobal, PureTree}
use Rattle.tdf_lang_tree.specs.Views.{sts}
use Rattle.tdf_lang_tree.specs.declared.blocks.Attr.{Attr}
use Rattle.tdf_lang_tree.specs.declared.blocks.Initial.{Initial}
use Rattle.tdf_lang_parser.specs.SpellsTree.{Lines, lines_none, lines_more, SpellsOne, simple, choice, both, turns, SpellsAll, stmts_none, stmts_more, body_with, SpellsPart, part_none, part_some, SpellsAttributes, attributes_none, attributes_some, SpellsInitialize, initialize_none, initialize_some, SpellsTdf, tdf, SpellsDont, dont_none, dont_some, SpellsProcess, process, SpellsProcesses, processes_none, processes_more, SpellsGlobal, global_type, global_tdf, global_de, global_net, SpellsGlobals, globals_none, globals_more, SpellsModel, model}
use Rattle.tdf_lang_printer.specs.Canon.{tdf_line, attr_line, initial_line, de_line, sense_line, member_line, form_of_trace, stmt_lines, stmts_lines, else_lines, part_lines, attributes_lines, initialize_lines, tdf_lines, dont_lines, process_lines, global_lines, tree_lines}
use Rattle.tdf_lang.proofs.TokenLines.{AreTokenLines}
use Rattle.tdf_lang.proofs.BlockLaws.{body_list, flat_push}
use Rattle.tdf_lang.proofs.FormLaws.{form_ok}
use Rattle.tdf_lang.proofs.FormWords.{FormOk}
use Rattle.tdf_lang.proofs.RowLaws.{FormsOk}
use Rattle.tdf_lang.proofs.StmtLaws.{map_push, sts_push}
use Rattle.tdf_lang.proofs.Tables.{Moved, stmt_table, tdf_table, attr_table, initial_table, de_table, sense_table, member_table, net_table, trace_table}
use Rattle.tdf_lang.proofs.Tokens.{Sound}
use Rattle.tdf_lang_lexer.specs.declared.dialect.Dialect.{Dialect}

rows_left : (lang : Dialect) (a b : List TokenLine) → AreTokenLines lang (a ++ b) → AreTokenLines lang a
rows_left lang [] b h = tt
rows_left lang (r ∷ a) b h = (h.0, rows_left lang a b h.1)

rows_right : (lang : Dialect) (a b : List TokenLine) → AreTokenLines lang (a ++ b) → AreTokenLines lang b
rows_right lang [] b h = h
rows_right lang (r ∷ a) b h = rows_right lang a b h.1

forms_append : (lang : Dialect) (a b : List Form) → FormsOk lang a → FormsOk lang b → FormsOk lang (a ++ b)
forms_append lang [] b h k = k
forms_append lang (f ∷ a) b h k = (h.0, forms_append lang a b h.1 k)

lines_ok : (lang : Dialect) → Sound lang → {X : Type 0} (of : ℕ → Form → Option X) (line : X → Form) (bare_of : X → X)
    → ((n m : ℕ) (f : Form) (x : X) → of n f ≡ Some x → Moved of line bare_of m f f x)
    → {a : List TokenLine} {xs : List X} → Lines lang of a xs → AreTokenLines lang a → FormsOk lang (map line xs)
lines_ok lang sound of line bare_of table lines_none h = tt
lines_ok lang sound of line bare_of table (lines_more {a = a} {xs = xs} {f = f} {x = x} d r m e) h =
    subst (FormsOk lang) (sym (map_push line xs x))
    (forms_append lang (map line xs) (line x ∷ []) (lines_ok lang sound of line bare_of table d (rows_left lang a (r ∷ []) h))
    (subst (FormOk lang) (sym (table r.number 0 f x e).form) (form_ok lang sound m (rows_right lang a (r ∷ []) h).0), tt))

end_ok : (lang : Dialect) → FormOk lang FEnd
end_ok lang = tt

else_ok : (lang : Dialect) (ss : List PureStmt) → FormsOk lang (stmts_lines (sts ss)) → FormsOk lang (else_lines (sts ss))
else_ok lang [] h = tt
else_ok lang (s ∷ ss) h = (tt, h)

mutual
  one_ok : (lang : Dialect) → Sound lang → {k : BodyKind} {d : ℕ} {a : List TokenLine} {s : PureStmt} → SpellsOne lang k d a s → AreTokenLines lang a → FormsOk lang (stmt_lines s)
  one_ok lang sound (simple {k = k} {f = f} {s = s} r m e) h = subst (FormsOk lang) (sym (stmt_table k r.number 0 f s e).form) (form_ok lang sound m h.0, tt)
  one_ok lang sound (choice {a = a} {first = first} r l m ds me) h =
      (form_ok lang sound m h.0, forms_append lang (stmts_lines (sts first)) (FEnd ∷ []) (all_ok lang sound ds (rows_left lang a _ h.1)) (tt, tt))
  one_ok lang sound (both {a = a} {b = b} {first = first} {second = second} r q l m ds mq es me) h = (
    form_ok lang sound m h.0,
    forms_append lang (stmts_lines (sts first)) (else_lines (sts second) ++ FEnd ∷ []) (all_ok lang sound ds (rows_left lang a _ h.1))
        (forms_append lang (else_lines (sts second)) (FEnd ∷ []) (else_ok lang second (all_ok lang sound es (rows_left lang b _ (rows_right lang a _ h.1).1))) (tt, tt)),
  )
  one_ok lang sound (turns {a = a} {body = body} r l m ds me) h =
      (form_ok lang sound m h.0, forms_append lang (stmts_lines (sts body)) (FEnd ∷ []) (all_ok lang sound ds (rows_left lang a _ h.1)) (tt, tt))

  all_ok : (lang : Dialect) → Sound lang → {k : BodyKind} {d : ℕ} {a : List TokenLine} {ss : List PureStmt} → SpellsAll lang k d a ss → AreTokenLines lang a → FormsOk lang (stmts_lines (sts ss))
  all_ok lang sound stmts_none h = tt
  all_ok lang sound (stmts_more {a = a} {b = b} {ss = ss} {s = s} ds e) h =
      subst (FormsOk lang) (sym (sts_push ss s)) (forms_append lang (stmts_lines (sts ss)) (stmt_lines s) (all_ok lang sound ds (rows_left lang a b h)) (one_ok lang sound e (rows_right lang a b h)))

body_ok : (lang : Dialect) (ss : List PureStmt) (n : ℕ) → FormsOk lang (stmts_lines (sts ss)) → FormsOk lang (stmts_lines (body_with ss n).list)
body_ok lang ss n h = subst (λ u. FormsOk lang (stmts_lines u)) (sym (body_list ss n)) h

part_at : (lang : Dialect) (head : Form) → FormOk lang head → (ss : PureStmts) → FormsOk lang (stmts_lines ss) → FormsOk lang (part_lines head ss)
part_at lang head h Done k = tt
part_at lang head h (More s ss) k = (h, forms_append lang (stmts_lines (More s ss)) (FEnd ∷ []) k (tt, tt))

part_ok : (lang : Dialect) → Sound lang → {head : Form} {k : BodyKind} {a : List TokenLine} {b : PureBody} → SpellsPart lang head k a b → AreTokenLines lang a → FormsOk lang (part_lines head b.list)
part_ok lang sound part_none h = tt
part_ok lang sound {head} (part_some {a = a} {ss = ss} r l m d me) h =
    part_at lang head (form_ok lang sound m h.0) (body_with ss l.number).list (body_ok lang ss l.number (all_ok lang sound d (rows_left lang a _ h.1)))

attributes_at : (lang : Dialect) (xs : List Attr) → FormsOk lang (map attr_line xs) → FormsOk lang (attributes_lines xs)
attributes_at lang [] h = tt
attributes_at lang (x ∷ xs) h = (tt, forms_append lang (map attr_line (x ∷ xs)) (FEnd ∷ []) h (tt, tt))

attributes_ok : (lang : Dialect) → Sound lang → {a : List TokenLine} {xs : List Attr} → SpellsAttributes lang a xs → AreTokenLines lang a → FormsOk lang (attributes_lines xs)
attributes_ok lang sound attributes_none h = tt
attributes_ok lang sound (attributes_some {a = a} {xs = xs} r l m d me) h = attributes_at lang xs (lines_ok lang sound attr_of attr_line bare_attr attr_table d (rows_left lang a _ h.1))

initialize_at : (lang : Dialect) (xs : List Initial) (ss : PureStmts) → FormsOk lang (map initial_line xs) → FormsOk lang (stmts_lines ss) → FormsOk lang (initialize_lines xs ss)
initialize_at lang [] Done h k = tt
initialize_at lang [] (More s ss) h k = (tt, forms_append lang (stmts_lines (More s ss)) (FEnd ∷ []) k (tt, tt))
initialize_at lang (x ∷ xs) ss h k =
    (tt, forms_append lang (map initial_line (x ∷ xs) ++ stmts_lines ss) (FEnd ∷ []) (forms_append lang (map initial_line (x ∷ xs)) (stmts_lines ss) h k) (tt, tt))

initialize_ok : (lang : Dialect) → Sound lang → {a : List TokenLine} {xs : List Initial} {b : PureBody} → SpellsInitialize lang a xs b → AreTokenLines lang a → FormsOk lang (initialize_lines xs b.list)
initialize_ok lang sound initialize_none h = tt
initialize_ok lang sound (initialize_some {a = a} {b = b} {xs = xs} {ss = ss} r l m d e me) h =
    initialize_at lang xs (body_with ss l.number).list (lines_ok lang sound initial_of initial_line bare_initial initial_table d (rows_left lang a _ h.1))
    (body_ok lang ss l.number (all_ok lang sound e (rows_left lang b _ (rows_right lang a _ h.1))))

tdf_ok : (lang : Dialect) → Sound lang → {r : List TokenLine} {t : PureTdf} → SpellsTdf lang r t → AreTokenLines lang r → FormsOk lang (tdf_lines t)
tdf_ok lang sound (tdf {a = a} {b = b} {c = c} {d = d} {e = e} {f = f} {decls = decls} {attrs = attrs} {initials = initials} {initialize = ib} {processing = pb} {change = cb} {reinitialize = rb} r m ls as_ is_ ps cs rs) h =
    let h2 = rows_right lang a _ h.1 in
    let h3 = rows_right lang b _ h2 in
    let h4 = rows_right lang c _ h3 in
    let h5 = rows_right lang d _ h4 in
    let h6 = rows_right lang e _ h5 in (
      form_ok lang sound m h.0,
      forms_append lang (map tdf_line decls) _ (lines_ok lang sound tdf_line_of tdf_line bare_tdf_line tdf_table ls (rows_left lang a _ h.1))
          (forms_append lang (attributes_lines attrs) _ (attributes_ok lang sound as_ (rows_left lang b _ h2))
          (forms_append lang (initialize_lines initials ib.list) _ (initialize_ok lang sound is_ (rows_left lang c _ h3))
          (forms_append lang (part_lines FProcessing pb.list) _ (part_ok lang sound ps (rows_left lang d _ h4))
          (forms_append lang (part_lines FChangeAttributes cb.list) _ (part_ok lang sound cs (rows_left lang e _ h5))
          (forms_append lang (part_lines FReinitialize rb.list) (FEnd ∷ []) (part_ok lang sound rs h6) (tt, tt)))))),
    )

dont_ok : (lang : Dialect) {a : List TokenLine} {starts : Bool} → SpellsDont lang a starts → FormsOk lang (dont_lines starts)
dont_ok lang dont_none = tt
dont_ok lang (dont_some r m) = (tt, tt)

process_ok : (lang : Dialect) → Sound lang → {r : List TokenLine} {p : PureProcess} → SpellsProcess lang r p → AreTokenLines lang r → FormsOk lang (process_lines p)
process_ok lang sound (process {a = a} {b = b} {c = c} {senses = senses} {starts = starts} {ss = ss} r l m ls ds bs me) h =
    let h2 = rows_right lang a _ h.1 in
    let h3 = rows_right lang b _ h2 in (
      tt,
      forms_append lang (map sense_line senses) _ (lines_ok lang sound sense_of sense_line bare_sense sense_table ls (rows_left lang a _ h.1))
          (forms_append lang (dont_lines starts) _ (dont_ok lang ds)
          (forms_append lang (stmts_lines (body_with ss l.number).list) (FEnd ∷ []) (body_ok lang ss l.number (all_ok lang sound bs (rows_left lang c _ h3))) (tt, tt))),
    )

processes_ok : (lang : Dialect) → Sound lang → {r : List TokenLine} {ps : List PureProcess} → SpellsProcesses lang r ps → AreTokenLines lang r → FormsOk lang (flat_map process_lines ps)
processes_ok lang sound processes_none h = tt
processes_ok lang sound (processes_more {a = a} {b = b} {ps = ps} {p = p} ds d) h =
    subst (FormsOk lang) (sym (flat_push process_lines ps p))
    (forms_append lang (flat_map process_lines ps) (process_lines p) (processes_ok lang sound ds (rows_left lang a b h)) (process_ok lang sound d (rows_right lang a b h)))

global_ok : (lang : Dialect) → Sound lang → {r : List TokenLine} {g : PureGlobal} → SpellsGlobal lang r g → AreTokenLines lang r → FormsOk lang (global_lines g)
global_ok lang sound (global_type r m) h = (form_ok lang sound m h.0, tt)
global_ok lang sound (global_tdf {a = a} l d me) h = tdf_ok lang sound d (rows_left lang a (l ∷ []) h)
global_ok lang sound (global_de {a = a} {b = b} {decls = decls} {processes = processes} r l m ls ps me) h = (
  form_ok lang sound m h.0,
  forms_append lang (map de_line decls) _ (lines_ok lang sound de_line_of de_line bare_de_line de_table ls (rows_left lang a _ h.1))
      (forms_append lang (flat_map process_lines processes) (FEnd ∷ []) (processes_ok lang sound ps (rows_left lang b _ (rows_right lang a _ h.1))) (tt, tt)),
)
global_ok lang sound (global_net {a = a} {members = members} r l m ls me) h = (
  form_ok lang sound m h.0,
  forms_append lang (map member_line members) (FEnd ∷ []) (lines_ok lang sound net_line_of member_line bare_member net_table ls (rows_left lang a _ h.1)) (tt, tt),
)

globals_ok : (lang : Dialect) → Sound lang → {r : List TokenLine} {gs : List PureGlobal} → SpellsGlobals lang r gs → AreTokenLines lang r → FormsOk lang (flat_map global_lines gs)
globals_ok lang sound globals_none h = tt
globals_ok lang sound (globals_more {a = a} {b = b} {gs = gs} {g = g} ds d) h =
    subst (FormsOk lang) (sym (flat_push global_lines gs g))
    (forms_append lang (flat_map global_lines gs) (global_lines g) (globals_ok lang sound ds (rows_left lang a b h)) (global_ok lang sound d (rows_right lang a b h)))

pub model_ok : (lang : Dialect) → Sound lang → {r : List TokenLine} {t : PureTree} → SpellsModel lang r t → AreTokenLines lang r → FormsOk lang (tree_lines t)
model_ok lang sound (model {a = a} {b = b} {c = c} {globals = globals} {members = members} {traces = traces} q l gs mq ls me xs) h =
    let h2 = rows_right lang a _ h in
    let h3 = rows_right lang b _ h2.1 in
    forms_append lang (flat_map global_lines globals) _ (globals_ok lang sound gs (rows_left lang a _ h)) (
      tt,
      forms_append lang (map member_line members) _ (lines_ok lang sound member_of member_line bare_member member_table ls (rows_left lang b _ h2.1))
          (tt, lines_ok lang sound trace_item form_of_trace bare_trace trace_table xs h3.1),
    )
