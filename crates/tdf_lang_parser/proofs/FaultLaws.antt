-- The machine of places with its trees forgotten is the table, and so the table's fault is the machine's.
use Rattle.std.proofs.Common.{◌≡◌, ◌≢◌, ℕ, zero, suc, Bool, true, false, cond, List, [], ◌∷◌, length, Option, Some, None, refl, sym, ap, subst, ◌∙◌, ◌⊎◌, inl, inr, nat_lt, nat_le}
use Rattle.std.specs.Prelude.{is_some}
use Rattle.tdf_lang_lexer.specs.Token.{Tok, TokenLine}
use Rattle.tdf_lang_lexer.specs.declared.dialect.Dialect.{Dialect}
use Rattle.tdf_lang_tree.specs.Pure.{PureStmt, PureTdf, PureDe, PureBody, PureTree}
use Rattle.tdf_lang_tree.specs.declared.blocks.PortKind.{PortKind}
use Rattle.tdf_lang_tree.specs.declared.blocks.PortKind.TheVariants as port_kind
use Rattle.tdf_lang_parser.specs.Faults.{kind_of_body, is_statement, is_de_line, if_so, after_end, after_else, after_head, where_after_body, in_body, in_tdf, in_de, where_next, Where, AtGlobals, InAttributes, InInitialize, InBody, InTdf, InDe, InProcess, InComposite, InTop, AtTraces, Allows, Faults}
use Rattle.tdf_lang_tree.specs.Forms.{Form, FTop, FEnd, FPort, FSetAttributes, FInitialize, FProcessing, FChangeAttributes, FReinitialize, FInitial, FProcess, FSensitive, FDontInitialize, FIf, FElse, FFor, FTrace, FAssign}
use Rattle.tdf_lang_parser.specs.Items.{BodyKind, Plain, OfChange, OfProcess, stmt_of, de_port_of}
use Rattle.tdf_lang_parser.specs.machine.Places.{Outer, Frame, FrIf, FrElse, FrFor, Owner, OwnInitialize, OwnProcessing, OwnChange, OwnReinitialize, OwnProcess, part_of, Place, is_lost, is_traces, fault_from, outset, PGlobals, PTdf, PAttributes, PInitialize, PBody, PDe, PProcess, PNet, PTop, PTraces, PLost, where_of, nest_of, nests_of, goes, goes_globals, goes_tdf, goes_attributes, goes_initialize, goes_body, goes_de, goes_process, goes_net, goes_top, more_de, more_body, reads_row, reads_rows, read_form, finished, end_body, else_body, head_body}
use Rattle.tdf_lang_lines.specs.machine.Reads.{form_of}
use Rattle.tdf_lang_parser.specs.SpellsTree.{deepest, SpellsModel}
use Rattle.tdf_lang_lines.proofs.Api.{form_is, form_means, line_fits, line_of_kind}
use Rattle.tdf_lang_tree.specs.Kinds.{KPort, kind_of_form}
use Rattle.tdf_lang_parser.proofs.SpellReads.{model_reads}
use Rattle.tdf_lang_parser.proofs.ReadSpells.{reads_spell}

where_cond : (b : Bool) (p : Place) → where_of (cond b p PLost) ≡ cond b (where_of p) None
where_cond true p = refl
where_cond false p = refl

nests_length : (fs : List Frame) → length (nests_of fs) ≡ length fs
nests_length [] = refl
nests_length (fr ∷ fs) = ap suc (nests_length fs)

plain_test : (n : ℕ) (f : Form) → is_some (stmt_of Plain n f) ≡ is_statement Plain (kind_of_form f)
plain_test n (FAssign name i e) = refl
plain_test n _ = refl

change_test : (n : ℕ) (f : Form) → is_some (stmt_of OfChange n f) ≡ is_statement OfChange (kind_of_form f)
change_test n (FAssign name i e) = refl
change_test n _ = refl

process_test : (n : ℕ) (f : Form) → is_some (stmt_of OfProcess n f) ≡ is_statement OfProcess (kind_of_form f)
process_test n (FAssign name i e) = refl
process_test n _ = refl

stmt_test : (k : BodyKind) (n : ℕ) (f : Form) → is_some (stmt_of k n f) ≡ is_statement k (kind_of_form f)
stmt_test Plain n f = plain_test n f
stmt_test OfChange n f = change_test n f
stmt_test OfProcess n f = process_test n f

more_where : (owner : Owner) (fs : List Frame) (acc : List PureStmt) (s : Option PureStmt) → where_of (more_body owner fs acc s) ≡ if_so (is_some s) (InBody (part_of owner) (nests_of fs))
more_where owner fs acc None = refl
more_where owner fs acc (Some s) = refl

stmt_moves : (owner : Owner) (fs : List Frame) (acc : List PureStmt) (n : ℕ) (f : Form)
    → where_of (more_body owner fs acc (stmt_of (kind_of_body (part_of owner)) n f)) ≡ if_so (is_statement (kind_of_body (part_of owner)) (kind_of_form f)) (InBody (part_of owner) (nests_of fs))
stmt_moves owner fs acc n f =
    more_where owner fs acc (stmt_of (kind_of_body (part_of owner)) n f) ∙ ap (λ (b : Bool). if_so b (InBody (part_of owner) (nests_of fs))) (stmt_test (kind_of_body (part_of owner)) n f)

head_moves : (owner : Owner) (fr : Frame) (fs : List Frame) → where_of (head_body owner fr fs) ≡ after_head (part_of owner) (nest_of fr) (nests_of fs)
head_moves owner fr fs =
    where_cond (nat_lt (length fs) deepest) (PBody owner (fr ∷ fs) [])
    ∙ ap (λ (n : ℕ). cond (nat_lt n 8) (Some (InBody (part_of owner) (nest_of fr ∷ nests_of fs))) None) (sym (nests_length fs))

else_moves : (owner : Owner) (fs : List Frame) (acc : List PureStmt) → where_of (else_body owner fs acc) ≡ after_else (part_of owner) (nests_of fs)
else_moves owner [] acc = refl
else_moves owner (FrIf l e outer ∷ fs) acc = refl
else_moves owner (FrElse l e first outer ∷ fs) acc = refl
else_moves owner (FrFor l name from limit outer ∷ fs) acc = refl

finished_moves : (owner : Owner) (b : PureBody) → where_of (finished owner b) ≡ Some (where_after_body (part_of owner))
finished_moves (OwnInitialize o t) b = refl
finished_moves (OwnProcessing o t) b = refl
finished_moves (OwnChange o t) b = refl
finished_moves (OwnReinitialize o t) b = refl
finished_moves (OwnProcess o d p) b = refl

end_moves : (owner : Owner) (n : ℕ) (fs : List Frame) (acc : List PureStmt) → where_of (end_body owner n fs acc) ≡ Some (after_end (part_of owner) (nests_of fs))
end_moves owner n [] acc = finished_moves owner _
end_moves owner n (FrIf l e outer ∷ fs) acc = refl
end_moves owner n (FrElse l e first outer ∷ fs) acc = refl
end_moves owner n (FrFor l name from limit outer ∷ fs) acc = refl

body_moves : (owner : Owner) (fs : List Frame) (acc : List PureStmt) (n : ℕ) (f : Form) → where_of (goes_body owner fs acc n f) ≡ in_body (part_of owner) (nests_of fs) (kind_of_form f)
body_moves owner fs acc n (FIf e) = head_moves owner (FrIf n e acc) fs
body_moves owner fs acc n (FFor name from l) = head_moves owner (FrFor n name from l acc) fs
body_moves owner fs acc n FElse = else_moves owner fs acc
body_moves owner fs acc n FEnd = end_moves owner n fs acc
body_moves owner fs acc n f = stmt_moves owner fs acc n f

tdf_moves : (o : Outer) (parts : ℕ) (t : PureTdf) (n : ℕ) (f : Form) → where_of (goes_tdf o parts t n f) ≡ in_tdf parts (kind_of_form f)
tdf_moves o parts t n FSetAttributes = where_cond (nat_le parts 0) (PAttributes o t)
tdf_moves o parts t n FInitialize = where_cond (nat_le parts 1) (PInitialize o t)
tdf_moves o parts t n FProcessing = where_cond (nat_le parts 2) (PBody (OwnProcessing o t) [] [])
tdf_moves o parts t n FChangeAttributes = where_cond (nat_le parts 3) (PBody (OwnChange o t) [] [])
tdf_moves o parts t n FReinitialize = where_cond (nat_le parts 4) (PBody (OwnReinitialize o t) [] [])
tdf_moves o parts t n FEnd = refl
tdf_moves o zero t n f = refl
tdf_moves o (suc parts) t n f = refl

port_moves : (o : Outer) (d : PureDe) (n : ℕ) (kind : PortKind) (name : List ℕ) (x : _) → where_of (more_de o d (de_port_of n kind name x)) ≡ if_so (is_de_line (KPort kind)) (InDe true)
port_moves o d n port_kind.In name x = refl
port_moves o d n port_kind.Out name x = refl
port_moves o d n port_kind.DeIn name x = refl
port_moves o d n port_kind.DeOut name x = refl

de_moves : (o : Outer) (declares : Bool) (d : PureDe) (n : ℕ) (f : Form) → where_of (goes_de o declares d n f) ≡ in_de declares (kind_of_form f)
de_moves o declares d n FProcess = refl
de_moves o declares d n FEnd = refl
de_moves o true d n (FPort kind name x) = port_moves o d n kind name x
de_moves o true d n f = refl
de_moves o false d n f = refl

initialize_moves : (o : Outer) (t : PureTdf) (n : ℕ) (f : Form) → where_of (goes_initialize o t n f) ≡ where_next InInitialize (kind_of_form f)
initialize_moves o t n (FInitial port place v) = refl
initialize_moves o t n f = body_moves (OwnInitialize o t) [] [] n f

process_moves : (o : Outer) (d : PureDe) (p : _) (n : ℕ) (f : Form) → where_of (goes_process o d p n f) ≡ where_next InProcess (kind_of_form f)
process_moves o d p n (FSensitive name) = refl
process_moves o d p n FDontInitialize = refl
process_moves o d p n f = body_moves (OwnProcess o d p) [] [] n f

globals_move : (o : Outer) (n : ℕ) (f : Form) → where_of (goes_globals o n f) ≡ where_next AtGlobals (kind_of_form f)
globals_move o n FTop = refl
globals_move o n _ = refl

attributes_move : (o : Outer) (t : PureTdf) (n : ℕ) (f : Form) → where_of (goes_attributes o t n f) ≡ where_next InAttributes (kind_of_form f)
attributes_move o t n FEnd = refl
attributes_move o t n _ = refl

net_moves : (o : Outer) (c : _) (n : ℕ) (f : Form) → where_of (goes_net o c n f) ≡ where_next InComposite (kind_of_form f)
net_moves o c n FEnd = refl
net_moves o c n _ = refl

top_moves : (o : Outer) (c : _) (n : ℕ) (f : Form) → where_of (goes_top o c n f) ≡ where_next InTop (kind_of_form f)
top_moves o c n FEnd = refl
top_moves o c n _ = refl

traces_move : (t : PureTree) (n : ℕ) (f : Form) → where_of (goes (PTraces t) n f) ≡ where_next AtTraces (kind_of_form f)
traces_move t n (FTrace path label) = refl
traces_move t n _ = refl

abbrev next_of : Option Where → Form → Option Where
next_of None f = None
next_of (Some w) f = where_next w (kind_of_form f)

moves : (p : Place) (n : ℕ) (f : Form) → where_of (goes p n f) ≡ next_of (where_of p) f
moves (PGlobals o) n f = globals_move o n f
moves (PTdf o parts t) n f = tdf_moves o parts t n f
moves (PAttributes o t) n f = attributes_move o t n f
moves (PInitialize o t) n f = initialize_moves o t n f
moves (PBody owner fs acc) n f = body_moves owner fs acc n f
moves (PDe o declares d) n f = de_moves o declares d n f
moves (PProcess o d p) n f = process_moves o d p n f
moves (PNet o c) n f = net_moves o c n f
moves (PTop o c) n f = top_moves o c n f
moves (PTraces t) n f = traces_move t n f
moves PLost n f = refl

moves_at : (p : Place) (w : Where) (n : ℕ) (f : Form) → where_of p ≡ Some w → where_of (goes p n f) ≡ where_next w (kind_of_form f)
moves_at p w n f e = moves p n f ∙ ap (λ (o : Option Where). next_of o f) e

-- a line that leads on is allowed lang, and one that is allowed lang leads on
allowed_by : (lang : Dialect) (p : Place) (w v : Where) (r : TokenLine) → where_of p ≡ Some w → (o : Option Form) → form_of lang.version r.tokens ≡ o → where_of (read_form p r.number o) ≡ Some v → Allows lang w r.tokens v
allowed_by lang p w v r e None f h = absurd cc
allowed_by lang p w v r e (Some g) f h = record { kind = kind_of_form g; line = line_fits (form_means lang.version r.tokens g f); leads = sym (moves_at p w r.number g e) ∙ h }

allowed : (lang : Dialect) (p : Place) (w v : Where) (r : TokenLine) → where_of p ≡ Some w → where_of (reads_row lang p r) ≡ Some v → Allows lang w r.tokens v
unfolding reads_row
allowed lang p w v r e h = allowed_by lang p w v r e (form_of lang.version r.tokens) refl h

allows : (lang : Dialect) (p : Place) (w v : Where) (r : TokenLine) → where_of p ≡ Some w → Allows lang w r.tokens v → where_of (reads_row lang p r) ≡ Some v
unfolding reads_row
allows lang p w v r e a =
    let x = line_of_kind a.line in
    ap (λ (o : Option Form). where_of (read_form p r.number o)) (form_is x.1) ∙ moves_at p w r.number x.0 e ∙ ap (where_next w) x.2 ∙ a.leads

-- what is lost lang stays lost lang
lost_form : (p : Place) (n : ℕ) (o : Option Form) → where_of p ≡ None → where_of (read_form p n o) ≡ None
lost_form p n None e = refl
lost_form p n (Some f) e = moves p n f ∙ ap (λ (o : Option Where). next_of o f) e

pub lost : (lang : Dialect) (rows : List TokenLine) (p : Place) → where_of p ≡ None → where_of (reads_rows lang p rows) ≡ None
unfolding reads_rows reads_row
lost lang [] p e = e
lost lang (r ∷ rs) p e = lost lang rs (reads_row lang p r) (lost_form p r.number (form_of lang.version r.tokens) e)

-- the fault of rows that are read to the end
no_fault_by : (lang : Dialect) (p : Place) (w : Where) (r : TokenLine) (rs : List TokenLine) (b n : ℕ) → where_of p ≡ Some w
    → ((v : Where) → where_of (reads_row lang p r) ≡ Some v → Faults lang v rs b n → ⊥) → Faults lang w (r ∷ rs) b n → where_of (reads_rows lang (reads_row lang p r) rs) ≡ Some AtTraces
    → (o : Option Where) → where_of (reads_row lang p r) ≡ o → ⊥
no_fault_by lang p w r rs b n e ih (inl f) h None g = absurd (let q : None ≡ Some AtTraces = sym (lost lang rs (reads_row lang p r) g) ∙ h in cc)
no_fault_by lang p w r rs b n e ih (inl f) h (Some v) g = f.0 v (allowed lang p w v r e g)
no_fault_by lang p w r rs b n e ih (inr f) h o g = ih f.0 (allows lang p w f.0 r e f.1) f.2

no_fault_from : (lang : Dialect) (rows : List TokenLine) (p : Place) (w : Where) (b n : ℕ) → where_of p ≡ Some w → Faults lang w rows b n → where_of (reads_rows lang p rows) ≡ Some AtTraces → ⊥
unfolding reads_rows
no_fault_from lang [] p w b n e f h = f.0 (let q : Some w ≡ Some AtTraces = sym e ∙ h in cc)
no_fault_from lang (r ∷ rs) p w b n e f h =
    no_fault_by lang p w r rs b n e (λ v g k. no_fault_from lang rs (reads_row lang p r) v b n g k h) f h (where_of (reads_row lang p r)) refl

pub no_fault : (lang : Dialect) (rows : List TokenLine) (t : PureTree) (b n : ℕ) → SpellsModel lang rows t → Faults lang AtGlobals rows b n → ⊥
no_fault lang rows t b n d f = no_fault_from lang rows (PGlobals (outset lang)) AtGlobals b n refl f (ap where_of (model_reads lang d))

-- rows are read to the end, or have a fault
last_place : (lang : Dialect) (p : Place) (w : Where) (b : ℕ) → where_of p ≡ Some w → (where_of p ≡ Some AtTraces) ⊎ ((n : ℕ) × Faults lang w [] b n)
last_place lang p AtTraces b e = inl e
last_place lang p w b e = inr (b, ((λ q. cc), refl))

fault_by : (lang : Dialect) (p : Place) (w : Where) (r : TokenLine) (rs : List TokenLine) (b : ℕ) → where_of p ≡ Some w
    → ((v : Where) → where_of (reads_row lang p r) ≡ Some v → (where_of (reads_rows lang (reads_row lang p r) rs) ≡ Some AtTraces) ⊎ ((n : ℕ) × Faults lang v rs b n))
    → (o : Option Where) → where_of (reads_row lang p r) ≡ o → (where_of (reads_rows lang (reads_row lang p r) rs) ≡ Some AtTraces) ⊎ ((n : ℕ) × Faults lang w (r ∷ rs) b n)
fault_by lang p w r rs b e ih None g = inr (r.number, inl ((λ v a. let q : None ≡ Some v = sym g ∙ allows lang p w v r e a in cc), refl))
fault_by lang p w r rs b e ih (Some v) g = elim (ih v g) [ inl h ↦ inl h | inr f ↦ inr (f.0, inr (v, allowed lang p w v r e g, f.1)) ]

pub end_or_fault : (lang : Dialect) (rows : List TokenLine) (p : Place) (w : Where) (b : ℕ) → where_of p ≡ Some w → (where_of (reads_rows lang p rows) ≡ Some AtTraces) ⊎ ((n : ℕ) × Faults lang w rows b n)
unfolding reads_rows
end_or_fault lang [] p w b e = last_place lang p w b e
end_or_fault lang (r ∷ rs) p w b e = fault_by lang p w r rs b e (λ v g. end_or_fault lang rs (reads_row lang p r) v b g) (where_of (reads_row lang p r)) refl

at_traces : (p : Place) → where_of p ≡ Some AtTraces → (t : PureTree) × (p ≡ PTraces t)
at_traces (PTraces t) e = (t, refl)
at_traces _ e = absurd cc

pub tree_or_fault : (lang : Dialect) (rows : List TokenLine) (b : ℕ) → ((t : PureTree) × SpellsModel lang rows t) ⊎ ((n : ℕ) × Faults lang AtGlobals rows b n)
tree_or_fault lang rows b = elim (end_or_fault lang rows (PGlobals (outset lang)) AtGlobals b refl) [
  | inl h ↦ let t = at_traces (reads_rows lang (PGlobals (outset lang)) rows) h in inl (t.0, reads_spell lang rows t.0 t.1)
  | inr f ↦ inr f
]

-- one fault at most
one_place : (lang : Dialect) (w u v : Where) (ts : List Tok) → Allows lang w ts u → Allows lang w ts v → u ≡ v
one_place lang w u v ts a b =
    let x = line_of_kind a.line in
    let y = line_of_kind b.line in
    let q : Some x.0 ≡ Some y.0 = sym (form_is x.1) ∙ form_is y.1 in
    let e : x.0 ≡ y.0 = cc in
    let k : a.kind ≡ b.kind = sym x.2 ∙ ap kind_of_form e ∙ y.2 in
    let s : Some u ≡ Some v = sym a.leads ∙ ap (where_next w) k ∙ b.leads in
    cc

pub one_fault : (lang : Dialect) (rows : List TokenLine) (w : Where) (b m n : ℕ) → Faults lang w rows b m → Faults lang w rows b n → m ≡ n
one_fault lang [] w b m n f g = f.1 ∙ sym g.1
one_fault lang (r ∷ rs) w b m n (inl f) (inl g) = f.1 ∙ sym g.1
one_fault lang (r ∷ rs) w b m n (inl f) (inr g) = absurd (f.0 g.0 g.1)
one_fault lang (r ∷ rs) w b m n (inr f) (inl g) = absurd (g.0 f.0 f.1)
one_fault lang (r ∷ rs) w b m n (inr f) (inr g) =
    let e : g.0 ≡ f.0 = one_place lang w g.0 f.0 r.tokens g.1 f.1 in
    one_fault lang rs f.0 b m n f.2 (subst (λ (v : Where). Faults lang v rs b n) e g.2)

-- the fault that the machine finds
where_lost : (p : Place) → is_lost p ≡ true → where_of p ≡ None
where_lost PLost e = refl
where_lost _ e = absurd cc

where_found : (p : Place) → is_lost p ≡ false → (w : Where) × (where_of p ≡ Some w)
where_found PLost e = absurd cc
where_found (PGlobals o) e = (AtGlobals, refl)
where_found (PTdf o parts t) e = (InTdf parts, refl)
where_found (PAttributes o t) e = (InAttributes, refl)
where_found (PInitialize o t) e = (InInitialize, refl)
where_found (PBody owner fs acc) e = (InBody (part_of owner) (nests_of fs), refl)
where_found (PDe o declares d) e = (InDe declares, refl)
where_found (PProcess o d p) e = (InProcess, refl)
where_found (PNet o c) e = (InComposite, refl)
where_found (PTop o c) e = (InTop, refl)
where_found (PTraces t) e = (AtTraces, refl)

not_traces : (p : Place) (w : Where) → where_of p ≡ Some w → is_traces p ≡ false → w ≢ AtTraces
not_traces p w e h g = let t = at_traces p (e ∙ ap Some g) in absurd (let q : true ≡ false = sym (ap is_traces t.1) ∙ h in cc)

end_fault_by : (lang : Dialect) (p : Place) (w : Where) (after n : ℕ) → where_of p ≡ Some w → (b : Bool) → is_traces p ≡ b → cond b None (Some after) ≡ Some n → Faults lang w [] after n
end_fault_by lang p w after n e true g h = absurd cc
end_fault_by lang p w after n e false g h = (not_traces p w e g, let q : after ≡ n = cc in sym q)

found_by : (lang : Dialect) (p : Place) (w : Where) (r : TokenLine) (rs : List TokenLine) (after n : ℕ) → where_of p ≡ Some w
    → ((v : Where) → where_of (reads_row lang p r) ≡ Some v → fault_from lang (reads_row lang p r) rs after ≡ Some n → Faults lang v rs after n)
    → (b : Bool) → is_lost (reads_row lang p r) ≡ b → cond b (Some r.number) (fault_from lang (reads_row lang p r) rs after) ≡ Some n → Faults lang w (r ∷ rs) after n
found_by lang p w r rs after n e ih true g h =
    inl ((λ v a. let q : None ≡ Some v = sym (where_lost (reads_row lang p r) g) ∙ allows lang p w v r e a in cc), (let q : r.number ≡ n = cc in sym q))
found_by lang p w r rs after n e ih false g h = let v = where_found (reads_row lang p r) g in inr (v.0, allowed lang p w v.0 r e v.1, ih v.0 v.1 h)

pub found_fault : (lang : Dialect) (rows : List TokenLine) (p : Place) (w : Where) (after n : ℕ) → where_of p ≡ Some w → fault_from lang p rows after ≡ Some n → Faults lang w rows after n
unfolding fault_from
found_fault lang [] p w after n e h = end_fault_by lang p w after n e (is_traces p) refl h
found_fault lang (r ∷ rs) p w after n e h =
    found_by lang p w r rs after n e (λ v g k. found_fault lang rs (reads_row lang p r) v after n g k) (is_lost (reads_row lang p r)) refl h
