-- Token lines that have the canonical tokens of blocks and of a tree spell blocks and a tree alike these.
use Rattle.std.proofs.Common.{◌≡◌, ℕ, Bool, true, false, List, [], ◌∷◌, ◌++◌, map, refl, sym, ap, subst, ◌∙◌, append_assoc}
use Rattle.std.proofs.lemmas.List.{append-nil}
use Rattle.std.specs.Prelude.{codes}
use Rattle.std.specs.List.{flat_map}
use Rattle.tdf_base.specs.declared.version.Version.{Version}
use Rattle.tdf_lang_tree.specs.Forms.{Form, FType, FTdf, FDe, FComposite, FTop, FEnd, FSetAttributes, FInitialize, FProcessing, FChangeAttributes, FReinitialize, FProcess, FDontInitialize}
use Rattle.tdf_lang_parser.specs.Items.{tdf_line_of, attr_of, initial_of, de_line_of, sense_of, member_of, net_line_of, trace_item, BodyKind, Plain}
use Rattle.tdf_lang_lines.specs.SpellsLine.{SpellsLine}
use Rattle.tdf_base.specs.declared.resolution.Resolution.{Resolution}
use Rattle.tdf_lang_lexer.specs.Token.{TokenLine}
use Rattle.tdf_lang_tree.specs.Alike.{bare_stmt, bare_stmts, bare_body, bare_tdf_line, bare_attr, bare_initial, bare_tdf, bare_de_line, bare_sense, bare_process, bare_member, bare_global, bare_trace, Alike}
use Rattle.tdf_lang_tree.specs.Pure.{PureStmt, PureStmts, PureBody, PureTdfLine, PureTdf, PureDeLine, PureProcess, PureGlobal, GShape, GTdf, GDe, GNet, PureTrace, PureTree}
use Rattle.tdf_lang_tree.specs.Views.{sts}
use Rattle.tdf_lang_tree.specs.declared.blocks.Attr.{Attr}
use Rattle.tdf_lang_tree.specs.declared.blocks.Initial.{Initial}
use Rattle.tdf_lang_tree.specs.declared.blocks.Member.{Member}
use Rattle.tdf_lang_tree.specs.declared.blocks.Sense.{Sense}
use Rattle.tdf_lang_parser.specs.SpellsTree.{Lines, SpellsAll, deepest, body_with, no_body, SpellsPart, part_none, part_some, SpellsAttributes, attributes_none, attributes_some, SpellsInitialize, initialize_none, initialize_some, SpellsTdf, tdf, SpellsDont, dont_none, dont_some, SpellsProcess, process, SpellsProcesses, processes_none, processes_more, SpellsGlobal, global_type, global_tdf, global_de, global_net, SpellsGlobals, globals_none, globals_more, SpellsModel, model}
use Rattle.tdf_lang_printer.specs.Canon.{tdf_line, attr_line, initial_line, de_line, sense_line, member_line, form_of_trace, stmts_lines, block_lines, part_lines, attributes_lines, initialize_lines, tdf_lines, dont_lines, process_lines, global_lines, tree_lines}
use Rattle.tdf_lang.proofs.FormWords.{form_tokens}
use Rattle.tdf_lang.proofs.RowLaws.{Shows}
use Rattle.tdf_lang.proofs.StmtLaws.{cut_rows, one_row, head_row, no_rows, means_at, more_same, lines_again, same_sts, all_again}
use Rattle.tdf_lang.proofs.Tables.{tdf_table, attr_table, initial_table, de_table, sense_table, member_table, net_table, trace_table}
use Rattle.tdf_lang_lexer.specs.declared.dialect.Dialect.{Dialect}

-- a body without its line number
bare_body_of : (ss : List PureStmt) (n : ℕ) → bare_body (body_with ss n) ≡ record { list = bare_stmts (sts ss); end = 0 }
bare_body_of [] n = refl
bare_body_of (s ∷ ss) n = refl

pub body_list : (ss : List PureStmt) (n : ℕ) → (body_with ss n).list ≡ sts ss
body_list [] n = refl
body_list (s ∷ ss) n = refl

same_body : (ts ss : List PureStmt) (m n : ℕ) → map bare_stmt ts ≡ map bare_stmt ss → bare_body (body_with ts m) ≡ bare_body (body_with ss n)
same_body ts ss m n e =
    bare_body_of ts m ∙ ap (λ (u : PureStmts). record { list = u; end = 0 }) (same_sts ts ss e) ∙ sym (bare_body_of ss n)

pub record PartAgain (lang : Dialect) (head : Form) (k : BodyKind) (rows : List TokenLine) (b : PureBody) : Type 0 where
  pub body : PureBody
  pub spells : SpellsPart lang head k rows body
  pub same : bare_body body ≡ bare_body b

absent_part : (lang : Dialect) (head : Form) (k : BodyKind) (rows : List TokenLine) → Shows rows [] → PartAgain lang head k rows no_body
absent_part lang head k rows i = record { body = no_body; spells = subst (λ u. SpellsPart lang head k u no_body) (no_rows rows i) part_none; same = refl }

present_part : (lang : Dialect) (head : Form) (k : BodyKind) (ss : List PureStmt) (n : ℕ) {a : List TokenLine} (h l : TokenLine) → SpellsLine lang.version h.tokens head → SpellsAll lang k deepest a ss → SpellsLine lang.version l.tokens FEnd
    → (rows : List TokenLine) → Shows rows (part_lines head (sts ss)) → PartAgain lang head k rows (body_with ss n)
present_part lang head k [] n h l m d me rows i = absent_part lang head k rows i
present_part lang head k (s ∷ ss) n h l m d me rows i =
    let hd = head_row head (stmts_lines (sts (s ∷ ss)) ++ FEnd ∷ []) rows i in
    let c = cut_rows (stmts_lines (sts (s ∷ ss))) (FEnd ∷ []) hd.rest hd.shows in
    let b = all_again lang d c.first c.shows_first in
    let o = one_row FEnd c.second c.shows_second in
    record {
      body = body_with b.list o.row.number;
      spells = subst (λ u. SpellsPart lang head k u (body_with b.list o.row.number)) (sym (hd.is ∙ ap (λ u. hd.row ∷ u) (c.is ∙ ap (λ u. c.first ++ u) o.is)))
          (part_some hd.row o.row (means_at lang m hd.row hd.tokens) b.spells (means_at lang me o.row o.tokens));
      same = same_body b.list (s ∷ ss) o.row.number n b.same;
    }

part_again : (lang : Dialect) {head : Form} {k : BodyKind} {a : List TokenLine} {b : PureBody} → SpellsPart lang head k a b → (rows : List TokenLine) → Shows rows (part_lines head b.list) → PartAgain lang head k rows b
part_again lang {head} {k} part_none rows i = absent_part lang head k rows i
part_again lang {head} {k} (part_some {ss = ss} h l m d me) rows i =
    present_part lang head k ss l.number h l m d me rows (subst (λ u. Shows rows (part_lines head u)) (body_list ss l.number) i)

pub record AttributesAgain (lang : Dialect) (rows : List TokenLine) (xs : List Attr) : Type 0 where
  pub items : List Attr
  pub spells : SpellsAttributes lang rows items
  pub same : map bare_attr items ≡ map bare_attr xs

absent_attributes : (lang : Dialect) (rows : List TokenLine) → Shows rows [] → AttributesAgain lang rows []
absent_attributes lang rows i = record { items = []; spells = subst (λ u. SpellsAttributes lang u []) (no_rows rows i) attributes_none; same = refl }

present_attributes : (lang : Dialect) (xs : List Attr) {a : List TokenLine} (h l : TokenLine) → SpellsLine lang.version h.tokens FSetAttributes → Lines lang attr_of a xs → SpellsLine lang.version l.tokens FEnd
    → (rows : List TokenLine) → Shows rows (attributes_lines xs) → AttributesAgain lang rows xs
present_attributes lang [] h l m d me rows i = absent_attributes lang rows i
present_attributes lang (x ∷ xs) h l m d me rows i =
    let hd = head_row FSetAttributes (map attr_line (x ∷ xs) ++ FEnd ∷ []) rows i in
    let c = cut_rows (map attr_line (x ∷ xs)) (FEnd ∷ []) hd.rest hd.shows in
    let b = lines_again lang attr_of attr_line bare_attr attr_table d c.first c.shows_first in
    let o = one_row FEnd c.second c.shows_second in
    record {
      items = b.items;
      spells = subst (λ u. SpellsAttributes lang u b.items) (sym (hd.is ∙ ap (λ u. hd.row ∷ u) (c.is ∙ ap (λ u. c.first ++ u) o.is)))
          (attributes_some hd.row o.row (means_at lang m hd.row hd.tokens) b.lines (means_at lang me o.row o.tokens));
      same = b.same;
    }

attributes_again : (lang : Dialect) {a : List TokenLine} {xs : List Attr} → SpellsAttributes lang a xs → (rows : List TokenLine) → Shows rows (attributes_lines xs) → AttributesAgain lang rows xs
attributes_again lang attributes_none rows i = absent_attributes lang rows i
attributes_again lang (attributes_some {xs = xs} h l m d me) rows i = present_attributes lang xs h l m d me rows i

pub record InitializeAgain (lang : Dialect) (rows : List TokenLine) (xs : List Initial) (b : PureBody) : Type 0 where
  pub items : List Initial
  pub body : PureBody
  pub spells : SpellsInitialize lang rows items body
  pub same_items : map bare_initial items ≡ map bare_initial xs
  pub same_body_ : bare_body body ≡ bare_body b

absent_initialize : (lang : Dialect) (rows : List TokenLine) → Shows rows [] → InitializeAgain lang rows [] no_body
absent_initialize lang rows i =
    record { items = []; body = no_body; spells = subst (λ u. SpellsInitialize lang u [] no_body) (no_rows rows i) initialize_none; same_items = refl; same_body_ = refl }

whole_initialize : (lang : Dialect) (xs : List Initial) (ss : List PureStmt) (n : ℕ) {a b : List TokenLine} (h l : TokenLine) → SpellsLine lang.version h.tokens FInitialize → Lines lang initial_of a xs
    → SpellsAll lang Plain deepest b ss → SpellsLine lang.version l.tokens FEnd → (rows : List TokenLine) → Shows rows (block_lines FInitialize (map initial_line xs ++ stmts_lines (sts ss)))
    → InitializeAgain lang rows xs (body_with ss n)
whole_initialize lang xs ss n h l m d e me rows i =
    let hd = head_row FInitialize ((map initial_line xs ++ stmts_lines (sts ss)) ++ FEnd ∷ []) rows i in
    let c = cut_rows (map initial_line xs ++ stmts_lines (sts ss)) (FEnd ∷ []) hd.rest hd.shows in
    let g = cut_rows (map initial_line xs) (stmts_lines (sts ss)) c.first c.shows_first in
    let x = lines_again lang initial_of initial_line bare_initial initial_table d g.first g.shows_first in
    let b = all_again lang e g.second g.shows_second in
    let o = one_row FEnd c.second c.shows_second in
    record {
      items = x.items;
      body = body_with b.list o.row.number;
      spells = subst (λ u. SpellsInitialize lang u x.items (body_with b.list o.row.number))
          (sym (hd.is ∙ ap (λ u. hd.row ∷ u) (c.is ∙ ap (λ u. c.first ++ u) o.is ∙ ap (λ u. u ++ o.row ∷ []) g.is ∙ append_assoc g.first g.second (o.row ∷ []))))
          (initialize_some hd.row o.row (means_at lang m hd.row hd.tokens) x.lines b.spells (means_at lang me o.row o.tokens));
      same_items = x.same;
      same_body_ = same_body b.list ss o.row.number n b.same;
    }

present_initialize : (lang : Dialect) (xs : List Initial) (ss : List PureStmt) (n : ℕ) {a b : List TokenLine} (h l : TokenLine) → SpellsLine lang.version h.tokens FInitialize → Lines lang initial_of a xs
    → SpellsAll lang Plain deepest b ss → SpellsLine lang.version l.tokens FEnd → (rows : List TokenLine) → Shows rows (initialize_lines xs (sts ss)) → InitializeAgain lang rows xs (body_with ss n)
present_initialize lang [] [] n h l m d e me rows i = absent_initialize lang rows i
present_initialize lang [] (s ∷ ss) n h l m d e me rows i = whole_initialize lang [] (s ∷ ss) n h l m d e me rows i
present_initialize lang (x ∷ xs) ss n h l m d e me rows i = whole_initialize lang (x ∷ xs) ss n h l m d e me rows i

initialize_again : (lang : Dialect) {a : List TokenLine} {xs : List Initial} {b : PureBody} → SpellsInitialize lang a xs b → (rows : List TokenLine) → Shows rows (initialize_lines xs b.list) → InitializeAgain lang rows xs b
initialize_again lang initialize_none rows i = absent_initialize lang rows i
initialize_again lang (initialize_some {xs = xs} {ss = ss} h l m d e me) rows i =
    present_initialize lang xs ss l.number h l m d e me rows (subst (λ u. Shows rows (initialize_lines xs u)) (body_list ss l.number) i)

-- a `tdf` block up to its end, and the row of that end
pub record TdfAgain (lang : Dialect) (rows : List TokenLine) (t : PureTdf) : Type 0 where
  pub block : PureTdf
  pub inner : List TokenLine
  pub last : TokenLine
  pub is : rows ≡ inner ++ last ∷ []
  pub tokens : last.tokens ≡ form_tokens FEnd
  pub spells : SpellsTdf lang inner block
  pub same : bare_tdf block ≡ bare_tdf t

tdf_is : (h last : TokenLine) (rows r1 r2 r3 r4 r5 r6 r7 a b c d e f : List TokenLine) → rows ≡ h ∷ r1 → r1 ≡ a ++ r2 → r2 ≡ b ++ r3 → r3 ≡ c ++ r4 → r4 ≡ d ++ r5 → r5 ≡ e ++ r6 → r6 ≡ f ++ r7
    → r7 ≡ last ∷ [] → rows ≡ (h ∷ (a ++ (b ++ (c ++ (d ++ (e ++ f)))))) ++ last ∷ []
tdf_is h last rows r1 r2 r3 r4 r5 r6 r7 a b c d e f i1 i2 i3 i4 i5 i6 i7 i8 = rw (i1, i2, i3, i4, i5, i6, i7, i8) (sym (simp append_assoc))

tdf_same : (name : List ℕ) (d1 d2 : List PureTdfLine) (a1 a2 : List Attr) (i1 i2 : List Initial) (b1 b2 p1 p2 c1 c2 r1 r2 : PureBody)
    → d1 ≡ d2 → a1 ≡ a2 → i1 ≡ i2 → b1 ≡ b2 → p1 ≡ p2 → c1 ≡ c2 → r1 ≡ r2
    → (record { line = 0; name = name; decls = d1; attrs = a1; initials = i1; initialize = b1; processing = p1; change = c1; reinitialize = r1 })
    ≡ (let y : PureTdf = record { line = 0; name = name; decls = d2; attrs = a2; initials = i2; initialize = b2; processing = p2; change = c2; reinitialize = r2 } in y)
tdf_same name d1 d2 a1 a2 i1 i2 b1 b2 p1 p2 c1 c2 r1 r2 e1 e2 e3 e4 e5 e6 e7 = cc

tdf_again : (lang : Dialect) {a : List TokenLine} {t : PureTdf} → SpellsTdf lang a t → (rows : List TokenLine) → Shows rows (tdf_lines t) → TdfAgain lang rows t
tdf_again lang (tdf {name = name} {decls = decls} {attrs = attrs} {initials = initials} {initialize = ib} {processing = pb} {change = cb} {reinitialize = rb} h m ls as_ is_ ps cs rs) rows i =
    let f6 = part_lines FReinitialize rb.list in
    let t6 = f6 ++ FEnd ∷ [] in
    let t5 = part_lines FChangeAttributes cb.list ++ t6 in
    let t4 = part_lines FProcessing pb.list ++ t5 in
    let t3 = initialize_lines initials ib.list ++ t4 in
    let t2 = attributes_lines attrs ++ t3 in
    let hd = head_row (FTdf name) (map tdf_line decls ++ t2) rows i in
    let c1 = cut_rows (map tdf_line decls) t2 hd.rest hd.shows in
    let c2 = cut_rows (attributes_lines attrs) t3 c1.second c1.shows_second in
    let c3 = cut_rows (initialize_lines initials ib.list) t4 c2.second c2.shows_second in
    let c4 = cut_rows (part_lines FProcessing pb.list) t5 c3.second c3.shows_second in
    let c5 = cut_rows (part_lines FChangeAttributes cb.list) t6 c4.second c4.shows_second in
    let c6 = cut_rows f6 (FEnd ∷ []) c5.second c5.shows_second in
    let o = one_row FEnd c6.second c6.shows_second in
    let x1 = lines_again lang tdf_line_of tdf_line bare_tdf_line tdf_table ls c1.first c1.shows_first in
    let x2 = attributes_again lang as_ c2.first c2.shows_first in
    let x3 = initialize_again lang is_ c3.first c3.shows_first in
    let x4 = part_again lang ps c4.first c4.shows_first in
    let x5 = part_again lang cs c5.first c5.shows_first in
    let x6 = part_again lang rs c6.first c6.shows_first in
    record {
      block = record { line = hd.row.number; name = name; decls = x1.items; attrs = x2.items; initials = x3.items; initialize = x3.body; processing = x4.body; change = x5.body; reinitialize = x6.body };
      inner = hd.row ∷ (c1.first ++ (c2.first ++ (c3.first ++ (c4.first ++ (c5.first ++ c6.first)))));
      last = o.row;
      is = tdf_is hd.row o.row rows hd.rest c1.second c2.second c3.second c4.second c5.second c6.second c1.first c2.first c3.first c4.first c5.first c6.first hd.is c1.is c2.is c3.is c4.is c5.is c6.is o.is;
      tokens = o.tokens;
      spells = tdf hd.row (means_at lang m hd.row hd.tokens) x1.lines x2.spells x3.spells x4.spells x5.spells x6.spells;
      same = tdf_same name _ _ _ _ _ _ _ _ _ _ _ _ _ _ x1.same x2.same x3.same_items x3.same_body_ x4.same x5.same x6.same;
    }

-- processes
pub record DontAgain (lang : Dialect) (rows : List TokenLine) (starts : Bool) : Type 0 where
  pub spells : SpellsDont lang rows starts

dont_again : (lang : Dialect) {a : List TokenLine} {starts : Bool} → SpellsDont lang a starts → (rows : List TokenLine) → Shows rows (dont_lines starts) → DontAgain lang rows starts
dont_again lang dont_none rows i = record { spells = subst (λ u. SpellsDont lang u true) (no_rows rows i) dont_none }
dont_again lang (dont_some h m) rows i =
    let o = one_row FDontInitialize rows i in
    record { spells = subst (λ u. SpellsDont lang u false) (sym o.is) (dont_some o.row (means_at lang m o.row o.tokens)) }

pub record ProcessAgain (lang : Dialect) (rows : List TokenLine) (p : PureProcess) : Type 0 where
  pub new : PureProcess
  pub spells : SpellsProcess lang rows new
  pub same : bare_process new ≡ bare_process p

process_same : (s1 s2 : List Sense) (starts : Bool) (b1 b2 : PureBody) → s1 ≡ s2 → b1 ≡ b2
    → (record { line = 0; sensitive = s1; starts = starts; body = b1 }) ≡ (let y : PureProcess = record { line = 0; sensitive = s2; starts = starts; body = b2 } in y)
process_same s1 s2 starts b1 b2 e f = cc

process_again : (lang : Dialect) {a : List TokenLine} {p : PureProcess} → SpellsProcess lang a p → (rows : List TokenLine) → Shows rows (process_lines p) → ProcessAgain lang rows p
process_again lang (process {senses = senses} {starts = starts} {ss = ss} h l m ls ds bs me) rows i =
    let t3 = stmts_lines (sts ss) ++ FEnd ∷ [] in
    let t2 = dont_lines starts ++ t3 in
    let hd = head_row FProcess (map sense_line senses ++ t2) rows (subst (λ u. Shows rows (FProcess ∷ (map sense_line senses ++ (dont_lines starts ++ (stmts_lines u ++ FEnd ∷ []))))) (body_list ss l.number) i) in
    let c1 = cut_rows (map sense_line senses) t2 hd.rest hd.shows in
    let c2 = cut_rows (dont_lines starts) t3 c1.second c1.shows_second in
    let c3 = cut_rows (stmts_lines (sts ss)) (FEnd ∷ []) c2.second c2.shows_second in
    let o = one_row FEnd c3.second c3.shows_second in
    let x1 = lines_again lang sense_of sense_line bare_sense sense_table ls c1.first c1.shows_first in
    let x2 = dont_again lang ds c2.first c2.shows_first in
    let x3 = all_again lang bs c3.first c3.shows_first in
    record {
      new = record { line = hd.row.number; sensitive = x1.items; starts = starts; body = body_with x3.list o.row.number };
      spells = subst (λ u. SpellsProcess lang u (record { line = hd.row.number; sensitive = x1.items; starts = starts; body = body_with x3.list o.row.number }))
          (sym (hd.is ∙ ap (λ u. hd.row ∷ u) (c1.is ∙ ap (λ u. c1.first ++ u) (c2.is ∙ ap (λ u. c2.first ++ u) (c3.is ∙ ap (λ u. c3.first ++ u) o.is)))))
          (process hd.row o.row (means_at lang m hd.row hd.tokens) x1.lines x2.spells x3.spells (means_at lang me o.row o.tokens));
      same = process_same _ _ starts _ _ x1.same (same_body x3.list ss o.row.number l.number x3.same);
    }

pub record ProcessesAgain (lang : Dialect) (rows : List TokenLine) (ps : List PureProcess) : Type 0 where
  pub list : List PureProcess
  pub spells : SpellsProcesses lang rows list
  pub same : map bare_process list ≡ map bare_process ps

pub flat_push : {A B : Type 0} (g : A → List B) (xs : List A) (x : A) → flat_map g (xs ++ x ∷ []) ≡ flat_map g xs ++ g x
flat_push g [] x = append-nil (g x)
flat_push g (y ∷ xs) x = ap (λ u. g y ++ u) (flat_push g xs x) ∙ sym (append_assoc (g y) (flat_map g xs) (g x))

processes_again : (lang : Dialect) {a : List TokenLine} {ps : List PureProcess} → SpellsProcesses lang a ps → (rows : List TokenLine) → Shows rows (flat_map process_lines ps) → ProcessesAgain lang rows ps
processes_again lang processes_none rows i = record { list = []; spells = subst (λ u. SpellsProcesses lang u []) (no_rows rows i) processes_none; same = refl }
processes_again lang (processes_more {ps = ps} {p = p} ds d) rows i =
    let c = cut_rows (flat_map process_lines ps) (process_lines p) rows (subst (Shows rows) (flat_push process_lines ps p) i) in
    let b = processes_again lang ds c.first c.shows_first in
    let o = process_again lang d c.second c.shows_second in
    record {
      list = b.list ++ o.new ∷ [];
      spells = subst (λ u. SpellsProcesses lang u (b.list ++ o.new ∷ [])) (sym c.is) (processes_more b.spells o.spells);
      same = more_same bare_process b.list ps o.new p b.same o.same;
    }

-- what comes before `top`
pub record GlobalAgain (lang : Dialect) (rows : List TokenLine) (g : PureGlobal) : Type 0 where
  pub new : PureGlobal
  pub spells : SpellsGlobal lang rows new
  pub same : bare_global new ≡ bare_global g

global_again : (lang : Dialect) {a : List TokenLine} {g : PureGlobal} → SpellsGlobal lang a g → (rows : List TokenLine) → Shows rows (global_lines g) → GlobalAgain lang rows g
global_again lang (global_type {name = name} {s = s} h m) rows i =
    let o = one_row (FType name s) rows i in
    record {
      new = GShape (record { line = o.row.number; name = name; shape = s });
      spells = subst (λ u. SpellsGlobal lang u (GShape (record { line = o.row.number; name = name; shape = s }))) (sym o.is) (global_type o.row (means_at lang m o.row o.tokens));
      same = refl;
    }
global_again lang (global_tdf l d me) rows i =
    let t = tdf_again lang d rows i in
    record {
      new = GTdf t.block;
      spells = subst (λ u. SpellsGlobal lang u (GTdf t.block)) (sym t.is) (global_tdf t.last t.spells (means_at lang me t.last t.tokens));
      same = ap GTdf t.same;
    }
global_again lang (global_de {name = name} {decls = decls} {processes = processes} h l m ls ps me) rows i =
    let t2 = flat_map process_lines processes ++ FEnd ∷ [] in
    let hd = head_row (FDe name) (map de_line decls ++ t2) rows i in
    let c1 = cut_rows (map de_line decls) t2 hd.rest hd.shows in
    let c2 = cut_rows (flat_map process_lines processes) (FEnd ∷ []) c1.second c1.shows_second in
    let o = one_row FEnd c2.second c2.shows_second in
    let x1 = lines_again lang de_line_of de_line bare_de_line de_table ls c1.first c1.shows_first in
    let x2 = processes_again lang ps c2.first c2.shows_first in
    record {
      new = GDe (record { line = hd.row.number; name = name; decls = x1.items; processes = x2.list });
      spells = subst (λ u. SpellsGlobal lang u (GDe (record { line = hd.row.number; name = name; decls = x1.items; processes = x2.list })))
          (sym (hd.is ∙ ap (λ u. hd.row ∷ u) (c1.is ∙ ap (λ u. c1.first ++ u) (c2.is ∙ ap (λ u. c2.first ++ u) o.is))))
          (global_de hd.row o.row (means_at lang m hd.row hd.tokens) x1.lines x2.spells (means_at lang me o.row o.tokens));
      same = ap (λ (u : List PureDeLine). GDe (record { line = 0; name = name; decls = u; processes = map bare_process x2.list })) x1.same
          ∙ ap (λ (u : List PureProcess). GDe (record { line = 0; name = name; decls = map bare_de_line decls; processes = u })) x2.same;
    }
global_again lang (global_net {name = name} {members = members} h l m ls me) rows i =
    let hd = head_row (FComposite name) (map member_line members ++ FEnd ∷ []) rows i in
    let c1 = cut_rows (map member_line members) (FEnd ∷ []) hd.rest hd.shows in
    let o = one_row FEnd c1.second c1.shows_second in
    let x1 = lines_again lang net_line_of member_line bare_member net_table ls c1.first c1.shows_first in
    record {
      new = GNet (record { line = hd.row.number; name = name; members = x1.items });
      spells = subst (λ u. SpellsGlobal lang u (GNet (record { line = hd.row.number; name = name; members = x1.items })))
          (sym (hd.is ∙ ap (λ u. hd.row ∷ u) (c1.is ∙ ap (λ u. c1.first ++ u) o.is)))
          (global_net hd.row o.row (means_at lang m hd.row hd.tokens) x1.lines (means_at lang me o.row o.tokens));
      same = ap (λ (u : List Member). GNet (record { line = 0; name = name; members = u })) x1.same;
    }

pub record GlobalsAgain (lang : Dialect) (rows : List TokenLine) (gs : List PureGlobal) : Type 0 where
  pub list : List PureGlobal
  pub spells : SpellsGlobals lang rows list
  pub same : map bare_global list ≡ map bare_global gs

globals_again : (lang : Dialect) {a : List TokenLine} {gs : List PureGlobal} → SpellsGlobals lang a gs → (rows : List TokenLine) → Shows rows (flat_map global_lines gs) → GlobalsAgain lang rows gs
globals_again lang globals_none rows i = record { list = []; spells = subst (λ u. SpellsGlobals lang u []) (no_rows rows i) globals_none; same = refl }
globals_again lang (globals_more {gs = gs} {g = g} ds d) rows i =
    let c = cut_rows (flat_map global_lines gs) (global_lines g) rows (subst (Shows rows) (flat_push global_lines gs g) i) in
    let b = globals_again lang ds c.first c.shows_first in
    let o = global_again lang d c.second c.shows_second in
    record {
      list = b.list ++ o.new ∷ [];
      spells = subst (λ u. SpellsGlobals lang u (b.list ++ o.new ∷ [])) (sym c.is) (globals_more b.spells o.spells);
      same = more_same bare_global b.list gs o.new g b.same o.same;
    }

-- the lines after those that open the text
pub record ModelAgain (lang : Dialect) (rows : List TokenLine) (t : PureTree) : Type 0 where
  pub tree : PureTree
  pub spells : SpellsModel lang rows tree
  pub alike : Alike tree t

tree_same : (version : Version) (resolution : Resolution) (g1 g2 : List PureGlobal) (m1 m2 : List Member) (t1 t2 : List PureTrace) → g1 ≡ g2 → m1 ≡ m2 → t1 ≡ t2
    → (record { version = version; resolution = resolution; globals = g1; top = record { line = 0; name = codes "top"; members = m1 }; traces = t1 })
    ≡ (let y : PureTree = record { version = version; resolution = resolution; globals = g2; top = record { line = 0; name = codes "top"; members = m2 }; traces = t2 } in y)
tree_same version resolution g1 g2 m1 m2 t1 t2 e f g = cc

pub model_again : (lang : Dialect) {a : List TokenLine} {t : PureTree} → SpellsModel lang a t → (rows : List TokenLine) → Shows rows (tree_lines t) → ModelAgain lang rows t
model_again lang (model {globals = globals} {members = members} {traces = traces} q l gs mq ls me xs) rows i =
    let t3 = FEnd ∷ map form_of_trace traces in
    let t2 = FTop ∷ (map member_line members ++ t3) in
    let c1 = cut_rows (flat_map global_lines globals) t2 rows i in
    let top = head_row FTop (map member_line members ++ t3) c1.second c1.shows_second in
    let c2 = cut_rows (map member_line members) t3 top.rest top.shows in
    let o = head_row FEnd (map form_of_trace traces) c2.second c2.shows_second in
    let x1 = globals_again lang gs c1.first c1.shows_first in
    let x2 = lines_again lang member_of member_line bare_member member_table ls c2.first c2.shows_first in
    let x3 = lines_again lang trace_item form_of_trace bare_trace trace_table xs o.rest o.shows in
    record {
      tree = record { version = lang.version; resolution = lang.resolution; globals = x1.list; top = record { line = top.row.number; name = codes "top"; members = x2.items }; traces = x3.items };
      spells = subst (λ u. SpellsModel lang u (record { version = lang.version; resolution = lang.resolution; globals = x1.list; top = record { line = top.row.number; name = codes "top"; members = x2.items }; traces = x3.items }))
          (sym (c1.is ∙ ap (λ u. c1.first ++ u) (top.is ∙ ap (λ u. top.row ∷ u) (c2.is ∙ ap (λ u. c2.first ++ u) o.is))))
          (model top.row o.row x1.spells (means_at lang mq top.row top.tokens) x2.lines (means_at lang me o.row o.tokens) x3.lines);
      alike = tree_same lang.version lang.resolution _ _ _ _ _ _ x1.same x2.same x3.same;
    }
