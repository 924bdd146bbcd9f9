-- What rows spell is read: from a derivation to the machine of places.
use Rattle.std.proofs.Common.{◌≡◌, ℕ, ◌+◌, ◌<◌, ◌≤◌, Bool, true, false, cond, List, [], ◌∷◌, ◌++◌, length, Option, Some, None, refl, sym, ap, subst, ◌∙◌, append_assoc, arith, nat_lt, nat_le, ◌≢◌, length-append}
use Rattle.std.proofs.lemmas.List.{append-nil}
use Rattle.std.specs.Prelude.{codes}
use Rattle.tdf_lang_lexer.specs.Token.{TokenLine}
use Rattle.tdf_lang_lexer.specs.declared.dialect.Dialect.{Dialect}
use Rattle.tdf_lang_tree.specs.Pure.{PureExpr, PureStmt, PureBody, PureTdfLine, PureTdf, PureDeLine, PureProcess, PureDe, PureComposite, PureGlobal, GTdf, GDe, PureTrace, PureTree}
use Rattle.tdf_lang_tree.specs.declared.blocks.Attr.{Attr}
use Rattle.tdf_lang_tree.specs.declared.blocks.Initial.{Initial}
use Rattle.tdf_lang_tree.specs.declared.blocks.Member.{Member}
use Rattle.tdf_lang_tree.specs.declared.blocks.Sense.{Sense}
use Rattle.tdf_lang_tree.specs.declared.stmt.Limit.{Limit}
use Rattle.tdf_lang_exprs.proofs.Api.{leb_true, ltb_true}
use Rattle.tdf_lang_parser.specs.Faults.{kind_of_body}
use Rattle.tdf_lang_tree.specs.Forms.{Form, FEnd, FSetAttributes, FInitialize, FProcessing, FChangeAttributes, FReinitialize, FInitial, FProcess, FSensitive, FDontInitialize, FIf, FElse, FFor}
use Rattle.tdf_lang_parser.specs.Items.{tdf_line_of, attr_of, initial_of, de_line_of, sense_of, member_of, net_line_of, trace_item, BodyKind, Plain, OfChange, OfProcess, stmt_of}
use Rattle.tdf_lang_lines.specs.SpellsLine.{SpellsLine}
use Rattle.tdf_lang_parser.specs.machine.Places.{Outer, Frame, FrIf, FrElse, FrFor, Owner, OwnInitialize, OwnProcessing, OwnChange, OwnReinitialize, OwnProcess, part_of, Place, outset, PGlobals, PTdf, PAttributes, PInitialize, PBody, PDe, PProcess, PNet, PTop, PTraces, PLost, with_global, with_decl, with_attr, with_initial, with_de_line, with_sense, with_member, with_trace, more_tdf, more_attributes, more_de, more_net, more_top, more_traces, more_body, new_net, new_de, new_process, goes, reads_row, reads_rows, read_form, finished}
use Rattle.tdf_lang_parser.specs.SpellsTree.{Lines, lines_none, lines_more, SpellsOne, simple, choice, both, turns, SpellsAll, stmts_none, stmts_more, deepest, body_with, no_body, SpellsPart, part_none, part_some, SpellsAttributes, attributes_none, attributes_some, SpellsInitialize, initialize_none, initialize_some, SpellsTdf, tdf, SpellsDont, dont_none, dont_some, SpellsProcess, process, SpellsProcesses, processes_none, processes_more, SpellsGlobal, global_type, global_tdf, global_de, global_net, SpellsGlobals, globals_none, globals_more, SpellsModel, model}
use Rattle.tdf_lang_lines.proofs.Api.{form_is}

pub reads_append : (lang : Dialect) (xs ys : List TokenLine) (p : Place) → reads_rows lang p (xs ++ ys) ≡ reads_rows lang (reads_rows lang p xs) ys
unfolding reads_rows
reads_append lang [] ys p = refl
reads_append lang (x ∷ xs) ys p = reads_append lang xs ys (reads_row lang p x)

-- one part after another
then_reads : (lang : Dialect) (p q r : Place) (a b : List TokenLine) → reads_rows lang p a ≡ q → reads_rows lang q b ≡ r → reads_rows lang p (a ++ b) ≡ r
then_reads lang p q r a b e f = reads_append lang a b p ∙ ap (λ (x : Place). reads_rows lang x b) e ∙ f

row_goes : (lang : Dialect) (p : Place) (h : TokenLine) {f : Form} → SpellsLine lang.version h.tokens f → reads_row lang p h ≡ goes p h.number f
unfolding reads_row
row_goes lang p h m = ap (read_form p h.number) (form_is m)

-- a line and what stands after it
line_reads : (lang : Dialect) (p q r : Place) (h : TokenLine) (b : List TokenLine) {f : Form} → SpellsLine lang.version h.tokens f → goes p h.number f ≡ q → reads_rows lang q b ≡ r → reads_rows lang p (h ∷ b) ≡ r
unfolding reads_rows
line_reads lang p q r h b m e g = ap (λ (x : Place). reads_rows lang x b) (row_goes lang p h m ∙ e) ∙ g

one_line : (lang : Dialect) (p q : Place) (h : TokenLine) {f : Form} → SpellsLine lang.version h.tokens f → goes p h.number f ≡ q → reads_rows lang p (h ∷ []) ≡ q
unfolding reads_rows
one_line lang p q h m e = row_goes lang p h m ∙ e

-- the lines of one table, where each leads from the items so far to one more
lines_read : (lang : Dialect) {X : Type 0} (of : ℕ → Form → Option X) (at : List X → Place)
    → ((xs : List X) (n : ℕ) (f : Form) (x : X) → of n f ≡ Some x → goes (at xs) n f ≡ at (xs ++ x ∷ []))
    → {rows : List TokenLine} {xs : List X} → Lines lang of rows xs → reads_rows lang (at []) rows ≡ at xs
unfolding reads_rows
lines_read lang of at step lines_none = refl
lines_read lang of at step (lines_more {a = a} {xs = xs} {f = f} {x = x} d h m e) =
    then_reads lang (at []) (at xs) (at (xs ++ x ∷ [])) a (h ∷ []) (lines_read lang of at step d) (one_line lang (at xs) (at (xs ++ x ∷ [])) h m (step xs h.number f x e))

-- a `tdf` block by its fields
abbrev pub tdf_with : ℕ → List ℕ → List PureTdfLine → List Attr → List Initial → PureBody → PureBody → PureBody → PureBody → PureTdf
tdf_with line name decls attrs initials initialize processing change reinitialize = record {
  line = line;
  name = name;
  decls = decls;
  attrs = attrs;
  initials = initials;
  initialize = initialize;
  processing = processing;
  change = change;
  reinitialize = reinitialize;
}

pub tdf_step : (o : Outer) (t : PureTdf) (n : ℕ) (f : Form) (x : PureTdfLine) → tdf_line_of n f ≡ Some x → goes (PTdf o 0 t) n f ≡ PTdf o 0 (with_decl t x)
tdf_step o t n FSetAttributes x e = absurd cc
tdf_step o t n FInitialize x e = absurd cc
tdf_step o t n FProcessing x e = absurd cc
tdf_step o t n FChangeAttributes x e = absurd cc
tdf_step o t n FReinitialize x e = absurd cc
tdf_step o t n FEnd x e = absurd cc
tdf_step o t n _ x e = ap (more_tdf o t) e

pub attr_step : (o : Outer) (t : PureTdf) (n : ℕ) (f : Form) (x : Attr) → attr_of n f ≡ Some x → goes (PAttributes o t) n f ≡ PAttributes o (with_attr t x)
attr_step o t n FEnd x e = absurd cc
attr_step o t n _ x e = ap (more_attributes o t) e

pub initial_step : (o : Outer) (t : PureTdf) (n : ℕ) (f : Form) (x : Initial) → initial_of n f ≡ Some x → goes (PInitialize o t) n f ≡ PInitialize o (with_initial t x)
initial_step o t n (FInitial port place v) x e =
    let q : record { line = n; port = port; place = place; value = v } ≡ x = cc in ap (λ (y : Initial). PInitialize o (with_initial t y)) q
initial_step o t n _ x e = absurd cc

pub de_step : (o : Outer) (d : PureDe) (n : ℕ) (f : Form) (x : PureDeLine) → de_line_of n f ≡ Some x → goes (PDe o true d) n f ≡ PDe o true (with_de_line d x)
de_step o d n FProcess x e = absurd cc
de_step o d n FEnd x e = absurd cc
de_step o d n _ x e = ap (more_de o d) e

pub sense_step : (o : Outer) (d : PureDe) (p : PureProcess) (n : ℕ) (f : Form) (x : Sense) → sense_of n f ≡ Some x → goes (PProcess o d p) n f ≡ PProcess o d (with_sense p x)
sense_step o d p n (FSensitive name) x e = let q : record { line = n; name = name } ≡ x = cc in ap (λ (y : Sense). PProcess o d (with_sense p y)) q
sense_step o d p n _ x e = absurd cc

pub net_step : (o : Outer) (c : PureComposite) (n : ℕ) (f : Form) (x : Member) → net_line_of n f ≡ Some x → goes (PNet o c) n f ≡ PNet o (with_member c x)
net_step o c n FEnd x e = absurd cc
net_step o c n _ x e = ap (more_net o c) e

pub top_step : (o : Outer) (c : PureComposite) (n : ℕ) (f : Form) (x : Member) → member_of n f ≡ Some x → goes (PTop o c) n f ≡ PTop o (with_member c x)
top_step o c n FEnd x e = absurd cc
top_step o c n _ x e = ap (more_top o c) e

pub trace_step : (t : PureTree) (n : ℕ) (f : Form) (x : PureTrace) → trace_item n f ≡ Some x → goes (PTraces t) n f ≡ PTraces (with_trace t x)
trace_step t n f x e = ap (more_traces t) e

-- heads and ends are no statements by themselves
pub if_is_none : (k : BodyKind) (n : ℕ) (e : PureExpr) → stmt_of k n (FIf e) ≡ None
if_is_none Plain n e = refl
if_is_none OfChange n e = refl
if_is_none OfProcess n e = refl

pub for_is_none : (k : BodyKind) (n : ℕ) (name : List ℕ) (from : ℕ) (l : Limit) → stmt_of k n (FFor name from l) ≡ None
for_is_none Plain n name from l = refl
for_is_none OfChange n name from l = refl
for_is_none OfProcess n name from l = refl

pub else_is_none : (k : BodyKind) (n : ℕ) → stmt_of k n FElse ≡ None
else_is_none Plain n = refl
else_is_none OfChange n = refl
else_is_none OfProcess n = refl

pub end_is_none : (k : BodyKind) (n : ℕ) → stmt_of k n FEnd ≡ None
end_is_none Plain n = refl
end_is_none OfChange n = refl
end_is_none OfProcess n = refl

pub stmt_step : (owner : Owner) (fs : List Frame) (acc : List PureStmt) (n : ℕ) (f : Form) (s : PureStmt) → stmt_of (kind_of_body (part_of owner)) n f ≡ Some s
    → goes (PBody owner fs acc) n f ≡ PBody owner fs (acc ++ s ∷ [])
stmt_step owner fs acc n (FIf e) s h = absurd (let q : None ≡ Some s = sym (if_is_none (kind_of_body (part_of owner)) n e) ∙ h in cc)
stmt_step owner fs acc n (FFor name from l) s h = absurd (let q : None ≡ Some s = sym (for_is_none (kind_of_body (part_of owner)) n name from l) ∙ h in cc)
stmt_step owner fs acc n FElse s h = absurd (let q : None ≡ Some s = sym (else_is_none (kind_of_body (part_of owner)) n) ∙ h in cc)
stmt_step owner fs acc n FEnd s h = absurd (let q : None ≡ Some s = sym (end_is_none (kind_of_body (part_of owner)) n) ∙ h in cc)
stmt_step owner fs acc n _ s h = ap (more_body owner fs acc) h

-- a head that may stand there
opens : (owner : Owner) (fr : Frame) (fs : List Frame) → length fs < 8 → cond (nat_lt (length fs) deepest) (PBody owner (fr ∷ fs) []) PLost ≡ PBody owner (fr ∷ fs) []
opens owner fr fs h = ap (λ (b : Bool). cond b (PBody owner (fr ∷ fs) []) PLost) (ltb_true (length fs) 8 h)

none_read : (lang : Dialect) (owner : Owner) (fs : List Frame) (acc : List PureStmt) → reads_rows lang (PBody owner fs acc) [] ≡ PBody owner fs (acc ++ [])
unfolding reads_rows
none_read lang owner fs acc = ap (PBody owner fs) (sym (append-nil acc))

mutual
  pub reads_one : (lang : Dialect) {k : BodyKind} {d : ℕ} {a : List TokenLine} {s : PureStmt} → SpellsOne lang k d a s → (owner : Owner) (fs : List Frame) (acc : List PureStmt)
      → kind_of_body (part_of owner) ≡ k → d + length fs ≡ 8 → reads_rows lang (PBody owner fs acc) a ≡ PBody owner fs (acc ++ s ∷ [])
  reads_one lang (simple {k = k} {f = f} {s = s} h m e) owner fs acc q r =
      one_line lang (PBody owner fs acc) (PBody owner fs (acc ++ s ∷ [])) h m
      (stmt_step owner fs acc h.number f s (subst (λ (j : BodyKind). stmt_of j h.number f ≡ Some s) (sym q) e))
  reads_one lang (choice {d = d} {e = e} {a = a} {first = first} h l m c n) owner fs acc q r =
      let fr : Frame = FrIf h.number e acc in
      let deep : d + length (fr ∷ fs) ≡ 8 = omega (arith, r) in
      let few : length fs < 8 = omega (arith, r) in
      line_reads lang (PBody owner fs acc) (PBody owner (fr ∷ fs) []) _ h (a ++ l ∷ []) m (opens owner fr fs few)
      (then_reads lang (PBody owner (fr ∷ fs) []) (PBody owner (fr ∷ fs) first) _ a (l ∷ []) (reads_all lang c owner (fr ∷ fs) [] q deep)
      (one_line lang (PBody owner (fr ∷ fs) first) _ l n refl))
  reads_one lang (both {d = d} {e = e} {a = a} {b = b} {first = first} {second = second} h m l i c j c' n) owner fs acc q r =
      let fr : Frame = FrIf h.number e acc in
      let gr : Frame = FrElse h.number e first acc in
      let deep : d + length (fr ∷ fs) ≡ 8 = omega (arith, r) in
      let deep' : d + length (gr ∷ fs) ≡ 8 = omega (arith, r) in
      let few : length fs < 8 = omega (arith, r) in
      line_reads lang (PBody owner fs acc) (PBody owner (fr ∷ fs) []) _ h (a ++ m ∷ (b ++ l ∷ [])) i (opens owner fr fs few)
      (then_reads lang (PBody owner (fr ∷ fs) []) (PBody owner (fr ∷ fs) first) _ a (m ∷ (b ++ l ∷ [])) (reads_all lang c owner (fr ∷ fs) [] q deep)
      (line_reads lang (PBody owner (fr ∷ fs) first) (PBody owner (gr ∷ fs) []) _ m (b ++ l ∷ []) j refl
      (then_reads lang (PBody owner (gr ∷ fs) []) (PBody owner (gr ∷ fs) second) _ b (l ∷ []) (reads_all lang c' owner (gr ∷ fs) [] q deep')
      (one_line lang (PBody owner (gr ∷ fs) second) _ l n refl))))
  reads_one lang (turns {d = d} {name = name} {from = from} {l = l} {a = a} {body = body} h e m c n) owner fs acc q r =
      let fr : Frame = FrFor h.number name from l acc in
      let deep : d + length (fr ∷ fs) ≡ 8 = omega (arith, r) in
      let few : length fs < 8 = omega (arith, r) in
      line_reads lang (PBody owner fs acc) (PBody owner (fr ∷ fs) []) _ h (a ++ e ∷ []) m (opens owner fr fs few)
      (then_reads lang (PBody owner (fr ∷ fs) []) (PBody owner (fr ∷ fs) body) _ a (e ∷ []) (reads_all lang c owner (fr ∷ fs) [] q deep)
      (one_line lang (PBody owner (fr ∷ fs) body) _ e n refl))

  pub reads_all : (lang : Dialect) {k : BodyKind} {d : ℕ} {a : List TokenLine} {ss : List PureStmt} → SpellsAll lang k d a ss → (owner : Owner) (fs : List Frame) (acc : List PureStmt)
      → kind_of_body (part_of owner) ≡ k → d + length fs ≡ 8 → reads_rows lang (PBody owner fs acc) a ≡ PBody owner fs (acc ++ ss)
  reads_all lang stmts_none owner fs acc q r = none_read lang owner fs acc
  reads_all lang (stmts_more {a = a} {b = b} {ss = ss} {s = s} c d) owner fs acc q r =
      then_reads lang (PBody owner fs acc) (PBody owner fs (acc ++ ss)) (PBody owner fs (acc ++ (ss ++ s ∷ []))) a b (reads_all lang c owner fs acc q r)
      (reads_one lang d owner fs (acc ++ ss) q r ∙ ap (PBody owner fs) (append_assoc acc ss (s ∷ [])))

-- a body and its `end`
body_reads : (lang : Dialect) {k : BodyKind} {a : List TokenLine} {ss : List PureStmt} → SpellsAll lang k deepest a ss → (owner : Owner) → kind_of_body (part_of owner) ≡ k → (l : TokenLine) → SpellsLine lang.version l.tokens FEnd
    → reads_rows lang (PBody owner [] []) (a ++ l ∷ []) ≡ finished owner (body_with ss l.number)
body_reads lang {a = a} {ss = ss} c owner q l m =
    then_reads lang (PBody owner [] []) (PBody owner [] ss) (finished owner (body_with ss l.number)) a (l ∷ []) (reads_all lang c owner [] [] q refl)
    (one_line lang (PBody owner [] ss) (finished owner (body_with ss l.number)) l m refl)

-- where the rows of a part lead: the block with that part, before a part that stands after it
pub record LeadsTo (lang : Dialect) (p : Place) (rows : List TokenLine) (o : Outer) (most : ℕ) (t : PureTdf) : Type 0 where
  pub parts : ℕ
  pub few : parts ≤ most
  pub is : reads_rows lang p rows ≡ PTdf o parts t

stays_there : (lang : Dialect) (o : Outer) (parts most : ℕ) (t : PureTdf) → parts ≤ most → LeadsTo lang (PTdf o parts t) [] o most t
unfolding reads_rows
stays_there lang o parts most t h = record { parts = parts; few = h; is = refl }

may : (m n : ℕ) (p : Place) → m ≤ n → cond (nat_le m n) p PLost ≡ p
may m n p h = ap (λ (b : Bool). cond b p PLost) (leb_true m n h)

attributes_read : (lang : Dialect) {b : List TokenLine} {xs : List Attr} → SpellsAttributes lang b xs → (o : Outer) (line : ℕ) (name : List ℕ) (decls : List PureTdfLine)
    → LeadsTo lang (PTdf o 0 (tdf_with line name decls [] [] no_body no_body no_body no_body)) b o 1 (tdf_with line name decls xs [] no_body no_body no_body no_body)
attributes_read lang attributes_none o line name decls = stays_there lang o 0 1 (tdf_with line name decls [] [] no_body no_body no_body no_body) (omega arith)
attributes_read lang (attributes_some {a = a} {xs = xs} h l m d n) o line name decls =
    let t : PureTdf = tdf_with line name decls [] [] no_body no_body no_body no_body in
    let u : PureTdf = tdf_with line name decls xs [] no_body no_body no_body no_body in
    record {
      parts = 1;
      few = omega arith;
      is =
          line_reads lang (PTdf o 0 t) (PAttributes o t) (PTdf o 1 u) h (a ++ l ∷ []) m refl
          (then_reads lang (PAttributes o t) (PAttributes o u) (PTdf o 1 u) a (l ∷ [])
          (lines_read lang attr_of (λ ys. PAttributes o (tdf_with line name decls ys [] no_body no_body no_body no_body))
          (λ ys i f x e. attr_step o (tdf_with line name decls ys [] no_body no_body no_body no_body) i f x e) d)
          (one_line lang (PAttributes o u) (PTdf o 1 u) l n refl));
    }

-- the first row of statements is neither an `initial` line nor a `sensitive` or `dont_initialize` line
pub record IsBegun (lang : Dialect) (r : TokenLine) : Type 0 where
  pub form : Form
  pub means : SpellsLine lang.version r.tokens form
  pub no_initial : (n : ℕ) → initial_of n form ≡ None
  pub no_sense : (n : ℕ) → sense_of n form ≡ None
  pub no_dont : form ≢ FDontInitialize

abbrev pub Begins : Dialect → List TokenLine → Type 0
Begins lang [] = Unit {0}
Begins lang (r ∷ rs) = IsBegun lang r

begins_append : (lang : Dialect) (a b : List TokenLine) → Begins lang a → Begins lang b → Begins lang (a ++ b)
begins_append lang [] b g h = h
begins_append lang (r ∷ rs) b g h = g

stmt_no_initial : (k : BodyKind) (n : ℕ) (f : Form) (s : PureStmt) → stmt_of k n f ≡ Some s → (m : ℕ) → initial_of m f ≡ None
stmt_no_initial Plain n (FInitial port place v) s h m = absurd cc
stmt_no_initial OfChange n (FInitial port place v) s h m = absurd cc
stmt_no_initial OfProcess n (FInitial port place v) s h m = absurd cc
stmt_no_initial k n _ s h m = refl

stmt_no_sense : (k : BodyKind) (n : ℕ) (f : Form) (s : PureStmt) → stmt_of k n f ≡ Some s → (m : ℕ) → sense_of m f ≡ None
stmt_no_sense Plain n (FSensitive name) s h m = absurd cc
stmt_no_sense OfChange n (FSensitive name) s h m = absurd cc
stmt_no_sense OfProcess n (FSensitive name) s h m = absurd cc
stmt_no_sense k n _ s h m = refl

dont_is_none : (k : BodyKind) (n : ℕ) → stmt_of k n FDontInitialize ≡ None
dont_is_none Plain n = refl
dont_is_none OfChange n = refl
dont_is_none OfProcess n = refl

stmt_no_dont : (k : BodyKind) (n : ℕ) (f : Form) (s : PureStmt) → stmt_of k n f ≡ Some s → f ≢ FDontInitialize
stmt_no_dont k n f s h e = absurd (let q : None ≡ Some s = sym (dont_is_none k n) ∙ subst (λ (g : Form). stmt_of k n g ≡ Some s) e h in cc)

begins_one : (lang : Dialect) {k : BodyKind} {d : ℕ} {a : List TokenLine} {s : PureStmt} → SpellsOne lang k d a s → Begins lang a
begins_one lang (simple {k = k} {f = f} {s = s} h m e) = record { form = f; means = m; no_initial = stmt_no_initial k h.number f s e; no_sense = stmt_no_sense k h.number f s e; no_dont = stmt_no_dont k h.number f s e }
begins_one lang (choice {e = e} h l m c n) = record { form = FIf e; means = m; no_initial = λ i. refl; no_sense = λ i. refl; no_dont = λ q. cc }
begins_one lang (both {e = e} h m l i c j c' n) = record { form = FIf e; means = i; no_initial = λ x. refl; no_sense = λ x. refl; no_dont = λ q. cc }
begins_one lang (turns {name = name} {from = from} {l = l} h e m c n) = record { form = FFor name from l; means = m; no_initial = λ i. refl; no_sense = λ i. refl; no_dont = λ q. cc }

begins_all : (lang : Dialect) {k : BodyKind} {d : ℕ} {a : List TokenLine} {ss : List PureStmt} → SpellsAll lang k d a ss → Begins lang a
begins_all lang stmts_none = tt
begins_all lang (stmts_more {a = a} {b = b} c d) = begins_append lang a b (begins_all lang c) (begins_one lang d)

begins_end : (lang : Dialect) {k : BodyKind} {d : ℕ} {a : List TokenLine} {ss : List PureStmt} → SpellsAll lang k d a ss → (l : TokenLine) → SpellsLine lang.version l.tokens FEnd → Begins lang (a ++ l ∷ [])
begins_end lang {a = a} c l m = begins_append lang a (l ∷ []) (begins_all lang c) (record { form = FEnd; means = m; no_initial = λ i. refl; no_sense = λ i. refl; no_dont = λ q. cc })

-- the statements of `initialize` after its `initial` lines
first_stmt : (o : Outer) (t : PureTdf) (n : ℕ) (f : Form) → initial_of n f ≡ None → goes (PInitialize o t) n f ≡ goes (PBody (OwnInitialize o t) [] []) n f
first_stmt o t n (FInitial port place v) e = absurd cc
first_stmt o t n _ e = refl

skip_initial : (lang : Dialect) (o : Outer) (t : PureTdf) (rows : List TokenLine) → Begins lang rows → 0 < length rows → reads_rows lang (PInitialize o t) rows ≡ reads_rows lang (PBody (OwnInitialize o t) [] []) rows
unfolding reads_rows
skip_initial lang o t [] b h = absurd (omega (arith, h))
skip_initial lang o t (r ∷ rs) b h =
    ap (λ (p : Place). reads_rows lang p rs) (row_goes lang (PInitialize o t) r b.means ∙ first_stmt o t r.number b.form (b.no_initial r.number)
    ∙ sym (row_goes lang (PBody (OwnInitialize o t) [] []) r b.means))

first_turn : (o : Outer) (d : PureDe) (p : PureProcess) (n : ℕ) (f : Form) → sense_of n f ≡ None → f ≢ FDontInitialize
    → goes (PProcess o d p) n f ≡ goes (PBody (OwnProcess o d p) [] []) n f
first_turn o d p n (FSensitive name) e g = absurd cc
first_turn o d p n FDontInitialize e g = absurd (g refl)
first_turn o d p n _ e g = refl

skip_sense : (lang : Dialect) (o : Outer) (d : PureDe) (p : PureProcess) (rows : List TokenLine) → Begins lang rows → 0 < length rows
    → reads_rows lang (PProcess o d p) rows ≡ reads_rows lang (PBody (OwnProcess o d p) [] []) rows
unfolding reads_rows
skip_sense lang o d p [] b h = absurd (omega (arith, h))
skip_sense lang o d p (r ∷ rs) b h =
    ap (λ (q : Place). reads_rows lang q rs) (row_goes lang (PProcess o d p) r b.means ∙ first_turn o d p r.number b.form (b.no_sense r.number) b.no_dont
    ∙ sym (row_goes lang (PBody (OwnProcess o d p) [] []) r b.means))

some_rows : (a : List TokenLine) (l : TokenLine) → 0 < length (a ++ l ∷ [])
some_rows a l = omega (arith, length-append a (l ∷ []))

initialize_end : (lang : Dialect) {b : List TokenLine} {ss : List PureStmt} → SpellsAll lang Plain deepest b ss → (o : Outer) (t : PureTdf) (l : TokenLine) → SpellsLine lang.version l.tokens FEnd
    → reads_rows lang (PInitialize o t) (b ++ l ∷ []) ≡ PTdf o 2 (record t { initialize = body_with ss l.number })
initialize_end lang {b = b} c o t l m = skip_initial lang o t (b ++ l ∷ []) (begins_end lang c l m) (some_rows b l) ∙ body_reads lang c (OwnInitialize o t) refl l m

initialize_read : (lang : Dialect) {c : List TokenLine} {xs : List Initial} {body : PureBody} → SpellsInitialize lang c xs body → (o : Outer) (parts : ℕ) → parts ≤ 1 → (line : ℕ) (name : List ℕ)
    (decls : List PureTdfLine) (attrs : List Attr)
    → LeadsTo lang (PTdf o parts (tdf_with line name decls attrs [] no_body no_body no_body no_body)) c o 2 (tdf_with line name decls attrs xs body no_body no_body no_body)
initialize_read lang initialize_none o parts h line name decls attrs =
    stays_there lang o parts 2 (tdf_with line name decls attrs [] no_body no_body no_body no_body) (omega (arith, h))
initialize_read lang (initialize_some {a = a} {b = b} {xs = xs} {ss = ss} h l m d c n) o parts k line name decls attrs =
    let t : PureTdf = tdf_with line name decls attrs [] no_body no_body no_body no_body in
    let u : PureTdf = tdf_with line name decls attrs xs no_body no_body no_body no_body in
    let v : PureTdf = tdf_with line name decls attrs xs (body_with ss l.number) no_body no_body no_body in
    record {
      parts = 2;
      few = omega arith;
      is =
          line_reads lang (PTdf o parts t) (PInitialize o t) (PTdf o 2 v) h (a ++ (b ++ l ∷ [])) m (may parts 1 (PInitialize o t) k)
          (then_reads lang (PInitialize o t) (PInitialize o u) (PTdf o 2 v) a (b ++ l ∷ [])
          (lines_read lang initial_of (λ ys. PInitialize o (tdf_with line name decls attrs ys no_body no_body no_body no_body))
          (λ ys i f x e. initial_step o (tdf_with line name decls attrs ys no_body no_body no_body no_body) i f x e) d)
          (initialize_end lang c o u l n));
    }

processing_read : (lang : Dialect) {d : List TokenLine} {body : PureBody} → SpellsPart lang FProcessing Plain d body → (o : Outer) (parts : ℕ) → parts ≤ 2 → (line : ℕ) (name : List ℕ)
    (decls : List PureTdfLine) (attrs : List Attr) (initials : List Initial) (initialize : PureBody)
    → LeadsTo lang (PTdf o parts (tdf_with line name decls attrs initials initialize no_body no_body no_body)) d o 3 (tdf_with line name decls attrs initials initialize body no_body no_body)
processing_read lang part_none o parts h line name decls attrs initials initialize =
    stays_there lang o parts 3 (tdf_with line name decls attrs initials initialize no_body no_body no_body) (omega (arith, h))
processing_read lang (part_some {a = a} {ss = ss} h l m c n) o parts k line name decls attrs initials initialize =
    let t : PureTdf = tdf_with line name decls attrs initials initialize no_body no_body no_body in
    record {
      parts = 3;
      few = omega arith;
      is =
          line_reads lang (PTdf o parts t) (PBody (OwnProcessing o t) [] []) _ h (a ++ l ∷ []) m (may parts 2 (PBody (OwnProcessing o t) [] []) k) (body_reads lang c (OwnProcessing o t) refl l n);
    }

change_read : (lang : Dialect) {d : List TokenLine} {body : PureBody} → SpellsPart lang FChangeAttributes OfChange d body → (o : Outer) (parts : ℕ) → parts ≤ 3 → (line : ℕ) (name : List ℕ)
    (decls : List PureTdfLine) (attrs : List Attr) (initials : List Initial) (initialize processing : PureBody)
    → LeadsTo lang (PTdf o parts (tdf_with line name decls attrs initials initialize processing no_body no_body)) d o 4 (tdf_with line name decls attrs initials initialize processing body no_body)
change_read lang part_none o parts h line name decls attrs initials initialize processing =
    stays_there lang o parts 4 (tdf_with line name decls attrs initials initialize processing no_body no_body) (omega (arith, h))
change_read lang (part_some {a = a} {ss = ss} h l m c n) o parts k line name decls attrs initials initialize processing =
    let t : PureTdf = tdf_with line name decls attrs initials initialize processing no_body no_body in
    record {
      parts = 4;
      few = omega arith;
      is =
          line_reads lang (PTdf o parts t) (PBody (OwnChange o t) [] []) _ h (a ++ l ∷ []) m (may parts 3 (PBody (OwnChange o t) [] []) k) (body_reads lang c (OwnChange o t) refl l n);
    }

reinitialize_read : (lang : Dialect) {d : List TokenLine} {body : PureBody} → SpellsPart lang FReinitialize Plain d body → (o : Outer) (parts : ℕ) → parts ≤ 4 → (line : ℕ) (name : List ℕ)
    (decls : List PureTdfLine) (attrs : List Attr) (initials : List Initial) (initialize processing change : PureBody)
    → LeadsTo lang (PTdf o parts (tdf_with line name decls attrs initials initialize processing change no_body)) d o 5 (tdf_with line name decls attrs initials initialize processing change body)
reinitialize_read lang part_none o parts h line name decls attrs initials initialize processing change =
    stays_there lang o parts 5 (tdf_with line name decls attrs initials initialize processing change no_body) (omega (arith, h))
reinitialize_read lang (part_some {a = a} {ss = ss} h l m c n) o parts k line name decls attrs initials initialize processing change =
    let t : PureTdf = tdf_with line name decls attrs initials initialize processing change no_body in
    record {
      parts = 5;
      few = omega arith;
      is =
          line_reads lang (PTdf o parts t) (PBody (OwnReinitialize o t) [] []) _ h (a ++ l ∷ []) m (may parts 4 (PBody (OwnReinitialize o t) [] []) k) (body_reads lang c (OwnReinitialize o t) refl l n);
    }

-- one part after another
leads_on : (lang : Dialect) (p : Place) (a b : List TokenLine) (o : Outer) (m n : ℕ) (t u : PureTdf) (r : LeadsTo lang p a o m t) → LeadsTo lang (PTdf o r.parts t) b o n u → LeadsTo lang p (a ++ b) o n u
leads_on lang p a b o m n t u r s = record { parts = s.parts; few = s.few; is = then_reads lang p (PTdf o r.parts t) (PTdf o s.parts u) a b r.is s.is }

tdf_reads : (lang : Dialect) {a : List TokenLine} {t : PureTdf} → SpellsTdf lang a t → (o : Outer) → LeadsTo lang (PGlobals o) a o 5 t
tdf_reads lang (tdf {a = a} {b = b} {c = c} {d = d} {e = e} {f = f} {name = name} {decls = decls} {attrs = attrs} {initials = initials} {initialize = initialize}
    {processing = processing} {change = change} {reinitialize = reinitialize} h m lines w x y z q) o =
    let line : ℕ = h.number in
    let t0 : PureTdf = tdf_with line name [] [] [] no_body no_body no_body no_body in
    let t1 : PureTdf = tdf_with line name decls [] [] no_body no_body no_body no_body in
    let r1 = attributes_read lang w o line name decls in
    let r2 = initialize_read lang x o r1.parts r1.few line name decls attrs in
    let r3 = processing_read lang y o r2.parts r2.few line name decls attrs initials initialize in
    let r4 = change_read lang z o r3.parts r3.few line name decls attrs initials initialize processing in
    let r5 = reinitialize_read lang q o r4.parts r4.few line name decls attrs initials initialize processing change in
    record {
      parts = r5.parts;
      few = r5.few;
      is =
          line_reads lang (PGlobals o) (PTdf o 0 t0) _ h (a ++ (b ++ (c ++ (d ++ (e ++ f))))) m refl
          (then_reads lang (PTdf o 0 t0) (PTdf o 0 t1) _ a (b ++ (c ++ (d ++ (e ++ f))))
          (lines_read lang tdf_line_of (λ ys. PTdf o 0 (tdf_with line name ys [] [] no_body no_body no_body no_body))
          (λ ys i g k j. tdf_step o (tdf_with line name ys [] [] no_body no_body no_body no_body) i g k j) lines)
          (then_reads lang (PTdf o 0 t1) _ _ b (c ++ (d ++ (e ++ f))) r1.is (then_reads lang _ _ _ c (d ++ (e ++ f)) r2.is (then_reads lang _ _ _ d (e ++ f) r3.is
          (then_reads lang _ _ _ e f r4.is r5.is)))));
    }

-- processes
dont_reads : (lang : Dialect) {b : List TokenLine} {starts : Bool} → SpellsDont lang b starts → (o : Outer) (d : PureDe) (n : ℕ) (senses : List Sense) {c : List TokenLine} {ss : List PureStmt} → SpellsAll lang OfProcess deepest c ss
    → (l : TokenLine) → SpellsLine lang.version l.tokens FEnd
    → reads_rows lang (PProcess o d (record { line = n; sensitive = senses; starts = true; body = no_body })) (b ++ (c ++ l ∷ []))
    ≡ PDe o false (record d { processes = d.processes ++ (record { line = n; sensitive = senses; starts = starts; body = body_with ss l.number }) ∷ [] })
dont_reads lang dont_none o d n senses {c = c} e l m =
    let p : PureProcess = record { line = n; sensitive = senses; starts = true; body = no_body } in
    skip_sense lang o d p (c ++ l ∷ []) (begins_end lang e l m) (some_rows c l) ∙ body_reads lang e (OwnProcess o d p) refl l m
dont_reads lang (dont_some h k) o d n senses {c = c} e l m =
    let p : PureProcess = record { line = n; sensitive = senses; starts = true; body = no_body } in
    let q : PureProcess = record { line = n; sensitive = senses; starts = false; body = no_body } in
    line_reads lang (PProcess o d p) (PBody (OwnProcess o d q) [] []) _ h (c ++ l ∷ []) k refl (body_reads lang e (OwnProcess o d q) refl l m)

process_reads : (lang : Dialect) {a : List TokenLine} {p : PureProcess} → SpellsProcess lang a p → (o : Outer) (declares : Bool) (d : PureDe)
    → reads_rows lang (PDe o declares d) a ≡ PDe o false (record d { processes = d.processes ++ p ∷ [] })
process_reads lang (process {a = a} {b = b} {c = c} {senses = senses} {starts = starts} {ss = ss} h l m lines x e n) o declares d =
    let p : PureProcess = record { line = h.number; sensitive = senses; starts = true; body = no_body } in
    line_reads lang (PDe o declares d) (PProcess o d (new_process h.number)) _ h (a ++ (b ++ (c ++ l ∷ []))) m refl
    (then_reads lang (PProcess o d (new_process h.number)) (PProcess o d p) _ a (b ++ (c ++ l ∷ []))
    (lines_read lang sense_of (λ ys. PProcess o d (record { line = h.number; sensitive = ys; starts = true; body = no_body }))
    (λ ys i f y q. sense_step o d (record { line = h.number; sensitive = ys; starts = true; body = no_body }) i f y q) lines)
    (dont_reads lang x o d h.number senses e l n))

record DeLeads (lang : Dialect) (p : Place) (rows : List TokenLine) (o : Outer) (d : PureDe) : Type 0 where
  declares : Bool
  is : reads_rows lang p rows ≡ PDe o declares d

processes_read : (lang : Dialect) {a : List TokenLine} {ps : List PureProcess} → SpellsProcesses lang a ps → (o : Outer) (line : ℕ) (name : List ℕ) (decls : List PureDeLine)
    → DeLeads lang (PDe o true (record { line = line; name = name; decls = decls; processes = [] })) a o (record { line = line; name = name; decls = decls; processes = ps })
unfolding reads_rows
processes_read lang processes_none o line name decls = record { declares = true; is = refl }
processes_read lang (processes_more {a = a} {b = b} {ps = ps} {p = p} c e) o line name decls =
    let r = processes_read lang c o line name decls in
    let d : PureDe = record { line = line; name = name; decls = decls; processes = ps } in
    record { declares = false; is = then_reads lang _ (PDe o r.declares d) _ a b r.is (process_reads lang e o r.declares d) }

de_ends : (o : Outer) (declares : Bool) (d : PureDe) (n : ℕ) → goes (PDe o declares d) n FEnd ≡ PGlobals (with_global o (GDe d))
de_ends o true d n = refl
de_ends o false d n = refl

tdf_ends : (o : Outer) (parts : ℕ) (t : PureTdf) (n : ℕ) → goes (PTdf o parts t) n FEnd ≡ PGlobals (with_global o (GTdf t))
tdf_ends o parts t n = refl

global_reads : (lang : Dialect) {a : List TokenLine} {g : PureGlobal} → SpellsGlobal lang a g → (o : Outer) → reads_rows lang (PGlobals o) a ≡ PGlobals (with_global o g)
global_reads lang (global_type h m) o = one_line lang (PGlobals o) _ h m refl
global_reads lang (global_tdf {a = a} {t = t} l c m) o =
    let r = tdf_reads lang c o in
    then_reads lang (PGlobals o) (PTdf o r.parts t) _ a (l ∷ []) r.is (one_line lang (PTdf o r.parts t) _ l m (tdf_ends o r.parts t l.number))
global_reads lang (global_de {a = a} {b = b} {name = name} {decls = decls} {processes = processes} h l m lines c n) o =
    let r = processes_read lang c o h.number name decls in
    let d : PureDe = record { line = h.number; name = name; decls = decls; processes = [] } in
    let e : PureDe = record { line = h.number; name = name; decls = decls; processes = processes } in
    line_reads lang (PGlobals o) (PDe o true (new_de h.number name)) _ h (a ++ (b ++ l ∷ [])) m refl
    (then_reads lang (PDe o true (new_de h.number name)) (PDe o true d) _ a (b ++ l ∷ [])
    (lines_read lang de_line_of (λ ys. PDe o true (record { line = h.number; name = name; decls = ys; processes = [] }))
    (λ ys i f y q. de_step o (record { line = h.number; name = name; decls = ys; processes = [] }) i f y q) lines)
    (then_reads lang (PDe o true d) (PDe o r.declares e) _ b (l ∷ []) r.is (one_line lang (PDe o r.declares e) _ l n (de_ends o r.declares e l.number))))
global_reads lang (global_net {a = a} {name = name} {members = members} h l m lines n) o =
    let c : PureComposite = record { line = h.number; name = name; members = members } in
    line_reads lang (PGlobals o) (PNet o (new_net h.number name)) _ h (a ++ l ∷ []) m refl
    (then_reads lang (PNet o (new_net h.number name)) (PNet o c) _ a (l ∷ [])
    (lines_read lang net_line_of (λ ys. PNet o (record { line = h.number; name = name; members = ys }))
    (λ ys i f y q. net_step o (record { line = h.number; name = name; members = ys }) i f y q) lines)
    (one_line lang (PNet o c) _ l n refl))

globals_read : (lang : Dialect) {a : List TokenLine} {gs : List PureGlobal} → SpellsGlobals lang a gs
    → reads_rows lang (PGlobals (outset lang)) a ≡ PGlobals (record { dialect = lang; globals = gs })
unfolding reads_rows
globals_read lang globals_none = refl
globals_read lang (globals_more {a = a} {b = b} {gs = gs} c d) =
    then_reads lang _ (PGlobals (record { dialect = lang; globals = gs })) _ a b (globals_read lang c) (global_reads lang d (record { dialect = lang; globals = gs }))

-- what lines spell is read from them
pub model_reads : (lang : Dialect) {rows : List TokenLine} {t : PureTree} → SpellsModel lang rows t → reads_rows lang (PGlobals (outset lang)) rows ≡ PTraces t
model_reads lang (model {a = a} {b = b} {c = c} {globals = globals} {members = members} {traces = traces} t l gs n ms k ts) =
    let o : Outer = record { dialect = lang; globals = globals } in
    let top : PureComposite = record { line = t.number; name = codes "top"; members = members } in
    then_reads lang (PGlobals (outset lang)) (PGlobals o) _ a (t ∷ (b ++ l ∷ c)) (globals_read lang gs)
    (line_reads lang (PGlobals o) (PTop o (new_net t.number (codes "top"))) _ t (b ++ l ∷ c) n refl
    (then_reads lang (PTop o (new_net t.number (codes "top"))) (PTop o top) _ b (l ∷ c)
    (lines_read lang member_of (λ ys. PTop o (record { line = t.number; name = codes "top"; members = ys }))
    (λ ys i f y q. top_step o (record { line = t.number; name = codes "top"; members = ys }) i f y q) ms)
    (line_reads lang (PTop o top) (PTraces (record { version = lang.version; resolution = lang.resolution; globals = globals; top = top; traces = [] })) _ l c k refl
    (lines_read lang trace_item (λ ys. PTraces (record { version = lang.version; resolution = lang.resolution; globals = globals; top = top; traces = ys }))
    (λ ys i f y q. trace_step (record { version = lang.version; resolution = lang.resolution; globals = globals; top = top; traces = ys }) i f y q) ts))))
