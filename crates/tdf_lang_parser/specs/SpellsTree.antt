-- Which rows of a text spell which tree (own): the grammar of a model text above its lines, one case a form. `lang` is the dialect of
-- the text, in which its rows are read.
use Rattle.std.specs.Prelude.{◌≡◌, ℕ, suc, Bool, true, false, List, [], ◌∷◌, ◌++◌, Option, Some, codes}
use Rattle.tdf_lang_lexer.specs.Token.{TokenLine}
use Rattle.tdf_lang_lexer.specs.Dialect.{token_lines}
use Rattle.tdf_lang_lexer.specs.Rows.{Row}
use Rattle.tdf_lang_lexer.specs.declared.dialect.Dialect.{Dialect}
use Rattle.tdf_lang_parser.specs.Head.{SpellsHead}
use Rattle.tdf_base.specs.Limits.{deepest_nesting}
use Rattle.tdf_lang_tree.specs.Pure.{PureExpr, PureStmt, SIf, SFor, Done, PureBody, PureTdfLine, PureTdf, PureDeLine, PureProcess, PureGlobal, GShape, GTdf, GDe, GNet, PureTrace, PureTree}
use Rattle.tdf_lang_tree.specs.Views.{sts}
use Rattle.tdf_lang_tree.specs.declared.blocks.Attr.{Attr}
use Rattle.tdf_lang_tree.specs.declared.blocks.Initial.{Initial}
use Rattle.tdf_lang_tree.specs.declared.blocks.Member.{Member}
use Rattle.tdf_lang_tree.specs.declared.blocks.Sense.{Sense}
use Rattle.tdf_lang_tree.specs.declared.shapes.Shape.{Shape}
use Rattle.tdf_lang_tree.specs.declared.stmt.Limit.{Limit}
use Rattle.tdf_lang_tree.specs.Forms.{Form, FType, FTdf, FDe, FComposite, FTop, FEnd, FSetAttributes, FInitialize, FProcessing, FChangeAttributes, FReinitialize, FProcess, FDontInitialize, FIf, FElse, FFor}
use Rattle.tdf_lang_parser.specs.Items.{tdf_line_of, attr_of, initial_of, de_line_of, sense_of, member_of, net_line_of, trace_item, BodyKind, Plain, OfChange, OfProcess, stmt_of}
use Rattle.tdf_lang_lines.specs.SpellsLine.{SpellsLine}

-- any number of lines of one table
pub data Lines (lang : Dialect) {X : Type 0} (of : ℕ → Form → Option X) : List TokenLine → List X → Type 0 where
  lines_none : Lines lang of [] []
  lines_more : {a : List TokenLine} {xs : List X} {f : Form} {x : X} → Lines lang of a xs → (h : TokenLine) → SpellsLine lang.version h.tokens f → of h.number f ≡ Some x
      → Lines lang of (a ++ h ∷ []) (xs ++ x ∷ [])

-- `SpellsAll lang k d rows ss`: the rows are the statements ss of a body of kind k, in which `if` and `for` may nest d deep
mutual
  pub data SpellsOne (lang : Dialect) : BodyKind → ℕ → List TokenLine → PureStmt → Type 0 where
    simple : {k : BodyKind} {d : ℕ} {f : Form} {s : PureStmt} (h : TokenLine) → SpellsLine lang.version h.tokens f → stmt_of k h.number f ≡ Some s → SpellsOne lang k d (h ∷ []) s
    choice : {k : BodyKind} {d : ℕ} {e : PureExpr} {a : List TokenLine} {first : List PureStmt} (h l : TokenLine) → SpellsLine lang.version h.tokens (FIf e) → SpellsAll lang k d a first
        → SpellsLine lang.version l.tokens FEnd → SpellsOne lang k (suc d) (h ∷ (a ++ l ∷ [])) (SIf h.number e (sts first) Done)
    both : {k : BodyKind} {d : ℕ} {e : PureExpr} {a b : List TokenLine} {first second : List PureStmt} (h m l : TokenLine) → SpellsLine lang.version h.tokens (FIf e) → SpellsAll lang k d a first
        → SpellsLine lang.version m.tokens FElse → SpellsAll lang k d b second → SpellsLine lang.version l.tokens FEnd
        → SpellsOne lang k (suc d) (h ∷ (a ++ m ∷ (b ++ l ∷ []))) (SIf h.number e (sts first) (sts second))
    turns : {k : BodyKind} {d : ℕ} {name : List ℕ} {from : ℕ} {l : Limit} {a : List TokenLine} {body : List PureStmt} (h e : TokenLine) → SpellsLine lang.version h.tokens (FFor name from l)
        → SpellsAll lang k d a body → SpellsLine lang.version e.tokens FEnd → SpellsOne lang k (suc d) (h ∷ (a ++ e ∷ [])) (SFor h.number name from l (sts body))

  pub data SpellsAll (lang : Dialect) : BodyKind → ℕ → List TokenLine → List PureStmt → Type 0 where
    stmts_none : {k : BodyKind} {d : ℕ} → SpellsAll lang k d [] []
    stmts_more : {k : BodyKind} {d : ℕ} {a b : List TokenLine} {ss : List PureStmt} {s : PureStmt} → SpellsAll lang k d a ss → SpellsOne lang k d b s
        → SpellsAll lang k d (a ++ b) (ss ++ s ∷ [])

-- how deep `if` and `for` may nest
abbrev pub deepest : ℕ
deepest = deepest_nesting

-- a body, and the line of its `end`, which is 0 where it has no statement
abbrev pub body_with : List PureStmt → ℕ → PureBody
body_with [] line = record { list = Done; end = 0 }
body_with (s ∷ ss) line = record { list = sts (s ∷ ss); end = line }

abbrev pub no_body : PureBody
no_body = record { list = Done; end = 0 }

-- a part of a `tdf` block that holds statements alone; where it is absent, it equals an empty one
pub data SpellsPart (lang : Dialect) (head : Form) (k : BodyKind) : List TokenLine → PureBody → Type 0 where
  part_none : SpellsPart lang head k [] no_body
  part_some : {a : List TokenLine} {ss : List PureStmt} (h l : TokenLine) → SpellsLine lang.version h.tokens head → SpellsAll lang k deepest a ss → SpellsLine lang.version l.tokens FEnd
      → SpellsPart lang head k (h ∷ (a ++ l ∷ [])) (body_with ss l.number)

pub data SpellsAttributes (lang : Dialect) : List TokenLine → List Attr → Type 0 where
  attributes_none : SpellsAttributes lang [] []
  attributes_some : {a : List TokenLine} {xs : List Attr} (h l : TokenLine) → SpellsLine lang.version h.tokens FSetAttributes → Lines lang attr_of a xs → SpellsLine lang.version l.tokens FEnd
      → SpellsAttributes lang (h ∷ (a ++ l ∷ [])) xs

pub data SpellsInitialize (lang : Dialect) : List TokenLine → List Initial → PureBody → Type 0 where
  initialize_none : SpellsInitialize lang [] [] no_body
  initialize_some : {a b : List TokenLine} {xs : List Initial} {ss : List PureStmt} (h l : TokenLine) → SpellsLine lang.version h.tokens FInitialize → Lines lang initial_of a xs
      → SpellsAll lang Plain deepest b ss → SpellsLine lang.version l.tokens FEnd → SpellsInitialize lang (h ∷ (a ++ (b ++ l ∷ []))) xs (body_with ss l.number)

-- the rows of a `tdf` block from its head on, without its `end`: its lines, then its parts in order
pub data SpellsTdf (lang : Dialect) : List TokenLine → PureTdf → Type 0 where
  tdf : {a b c d e f : List TokenLine} {name : List ℕ} {decls : List PureTdfLine} {attrs : List Attr} {initials : List Initial} {initialize processing change reinitialize : PureBody}
      (h : TokenLine) → SpellsLine lang.version h.tokens (FTdf name) → Lines lang tdf_line_of a decls → SpellsAttributes lang b attrs → SpellsInitialize lang c initials initialize
      → SpellsPart lang FProcessing Plain d processing → SpellsPart lang FChangeAttributes OfChange e change → SpellsPart lang FReinitialize Plain f reinitialize
      → SpellsTdf lang (h ∷ (a ++ (b ++ (c ++ (d ++ (e ++ f)))))) (record {
        line = h.number;
        name = name;
        decls = decls;
        attrs = attrs;
        initials = initials;
        initialize = initialize;
        processing = processing;
        change = change;
        reinitialize = reinitialize;
      })

-- whether a process runs at the start
pub data SpellsDont (lang : Dialect) : List TokenLine → Bool → Type 0 where
  dont_none : SpellsDont lang [] true
  dont_some : (h : TokenLine) → SpellsLine lang.version h.tokens FDontInitialize → SpellsDont lang (h ∷ []) false

pub data SpellsProcess (lang : Dialect) : List TokenLine → PureProcess → Type 0 where
  process : {a b c : List TokenLine} {senses : List Sense} {starts : Bool} {ss : List PureStmt} (h l : TokenLine) → SpellsLine lang.version h.tokens FProcess → Lines lang sense_of a senses → SpellsDont lang b starts
      → SpellsAll lang OfProcess deepest c ss → SpellsLine lang.version l.tokens FEnd
      → SpellsProcess lang (h ∷ (a ++ (b ++ (c ++ l ∷ [])))) (record { line = h.number; sensitive = senses; starts = starts; body = body_with ss l.number })

pub data SpellsProcesses (lang : Dialect) : List TokenLine → List PureProcess → Type 0 where
  processes_none : SpellsProcesses lang [] []
  processes_more : {a b : List TokenLine} {ps : List PureProcess} {p : PureProcess} → SpellsProcesses lang a ps → SpellsProcess lang b p → SpellsProcesses lang (a ++ b) (ps ++ p ∷ [])

-- a line or a block before `top`
pub data SpellsGlobal (lang : Dialect) : List TokenLine → PureGlobal → Type 0 where
  global_type : {name : List ℕ} {s : Shape} (h : TokenLine) → SpellsLine lang.version h.tokens (FType name s) → SpellsGlobal lang (h ∷ []) (GShape (record { line = h.number; name = name; shape = s }))
  global_tdf : {a : List TokenLine} {t : PureTdf} (l : TokenLine) → SpellsTdf lang a t → SpellsLine lang.version l.tokens FEnd → SpellsGlobal lang (a ++ l ∷ []) (GTdf t)
  global_de : {a b : List TokenLine} {name : List ℕ} {decls : List PureDeLine} {processes : List PureProcess} (h l : TokenLine) → SpellsLine lang.version h.tokens (FDe name) → Lines lang de_line_of a decls
      → SpellsProcesses lang b processes → SpellsLine lang.version l.tokens FEnd
      → SpellsGlobal lang (h ∷ (a ++ (b ++ l ∷ []))) (GDe (record { line = h.number; name = name; decls = decls; processes = processes }))
  global_net : {a : List TokenLine} {name : List ℕ} {members : List Member} (h l : TokenLine) → SpellsLine lang.version h.tokens (FComposite name) → Lines lang net_line_of a members → SpellsLine lang.version l.tokens FEnd
      → SpellsGlobal lang (h ∷ (a ++ l ∷ [])) (GNet (record { line = h.number; name = name; members = members }))

pub data SpellsGlobals (lang : Dialect) : List TokenLine → List PureGlobal → Type 0 where
  globals_none : SpellsGlobals lang [] []
  globals_more : {a b : List TokenLine} {gs : List PureGlobal} {g : PureGlobal} → SpellsGlobals lang a gs → SpellsGlobal lang b g → SpellsGlobals lang (a ++ b) (gs ++ g ∷ [])

-- the lines after those that open the text
pub data SpellsModel (lang : Dialect) : List TokenLine → PureTree → Type 0 where
  model : {a b c : List TokenLine} {globals : List PureGlobal} {members : List Member} {traces : List PureTrace} (t l : TokenLine)
      → SpellsGlobals lang a globals → SpellsLine lang.version t.tokens FTop → Lines lang member_of b members
      → SpellsLine lang.version l.tokens FEnd → Lines lang trace_item c traces
      → SpellsModel lang (a ++ t ∷ (b ++ l ∷ c)) (record {
        version = lang.version;
        resolution = lang.resolution;
        globals = globals;
        top = record { line = t.number; name = codes "top"; members = members };
        traces = traces;
      })

-- the whole text: the rows that open it say how the others are read
pub data SpellsTree : List Row → PureTree → Type 0 where
  whole_text : {a : List Row} {lang : Dialect} {tree : PureTree} (b : List Row) → SpellsHead a lang → SpellsModel lang (token_lines lang b) tree
      → SpellsTree (a ++ b) tree
