-- What is read is spelled: from the machine of places to a derivation, by what each place keeps of the rows before it.
use Rattle.std.proofs.Common.{◌≡◌, ℕ, zero, suc, ◌+◌, ◌-◌, ◌<◌, ◌≤◌, Bool, true, false, List, [], ◌∷◌, ◌++◌, length, Option, Some, None, refl, sym, ap, subst, ◌∙◌, append_assoc, arith, nat_lt, nat_le}
use Rattle.std.proofs.lemmas.List.{append-nil}
use Rattle.std.specs.Prelude.{codes}
use Rattle.tdf_base.specs.declared.version.Version.{Version}
use Rattle.tdf_base.specs.declared.resolution.Resolution.{Resolution}
use Rattle.tdf_lang_lexer.specs.Token.{TokenLine}
use Rattle.tdf_lang_lexer.specs.declared.dialect.Dialect.{Dialect}
use Rattle.tdf_lang_tree.specs.Pure.{PureExpr, PureStmt, SIf, SFor, Done, PureTdfLine, PureTdf, PureDeLine, PureProcess, PureDe, PureComposite, GTdf, GDe, GNet, PureTrace, PureTree}
use Rattle.tdf_lang_tree.specs.Views.{sts}
use Rattle.tdf_lang_tree.specs.declared.blocks.Attr.{Attr}
use Rattle.tdf_lang_tree.specs.declared.blocks.Initial.{Initial}
use Rattle.tdf_lang_tree.specs.declared.blocks.Member.{Member}
use Rattle.tdf_lang_tree.specs.declared.stmt.Limit.{Limit}
use Rattle.tdf_lang_exprs.proofs.Api.{pick_bool, leb_le, ltb_lt}
use Rattle.tdf_lang_parser.specs.Faults.{kind_of_body}
use Rattle.tdf_lang_tree.specs.Forms.{Form, FType, FTdf, FDe, FComposite, FTop, FEnd, FSetAttributes, FInitialize, FProcessing, FChangeAttributes, FReinitialize, FInitial, FProcess, FSensitive, FDontInitialize, FIf, FElse, FFor}
use Rattle.tdf_lang_parser.specs.Items.{tdf_line_of, attr_of, initial_of, de_line_of, member_of, net_line_of, trace_item, BodyKind, Plain, OfProcess, stmt_of}
use Rattle.tdf_lang_lines.specs.SpellsLine.{SpellsLine}
use Rattle.tdf_lang_parser.specs.machine.Places.{Outer, Frame, FrIf, FrElse, FrFor, Owner, OwnInitialize, OwnProcessing, OwnChange, OwnReinitialize, OwnProcess, part_of, Place, outset, PGlobals, PTdf, PAttributes, PInitialize, PBody, PDe, PProcess, PNet, PTop, PTraces, PLost, with_global, more_tdf, more_attributes, more_de, more_net, more_top, more_traces, more_body, new_process, goes, goes_globals, goes_tdf, goes_attributes, goes_initialize, goes_body, goes_de, goes_process, goes_net, goes_top, reads_row, reads_rows, read_form, finished, end_body, else_body}
use Rattle.tdf_lang_lines.specs.machine.Reads.{form_of}
use Rattle.tdf_lang_parser.specs.SpellsTree.{Lines, lines_none, lines_more, SpellsOne, simple, choice, both, turns, SpellsAll, stmts_none, deepest, body_with, part_some, attributes_some, initialize_some, SpellsDont, dont_none, dont_some, SpellsProcess, process, processes_none, processes_more, SpellsGlobal, global_type, global_tdf, global_de, global_net, globals_none, SpellsModel, model}
use Rattle.tdf_lang_lines.proofs.Api.{form_means}
use Rattle.tdf_lang_parser.proofs.SoFar.{KeptOuter, outer_more, TdfSoFar, tdf_whole, after5, append_none, tdf_new, tdf_more, add_attributes, add_initialize, add_processing, add_change, add_reinitialize, DeSoFar, NetSoFar, Owns, grows, depth, HeadOf, InitializeOf, ProcessOf, Front, InBlock, AttributesOf, TracesOf, BodyOf, TopOf, Kept}

three_assoc : (a b : List TokenLine) (h : TokenLine) (c d : List TokenLine) → (a ++ (b ++ h ∷ c)) ++ d ≡ a ++ (b ++ h ∷ (c ++ d))
three_assoc a b h c d = simp append_assoc

globals_keep : (lang : Dialect) (o : Outer) (f : Form) (pre : List TokenLine) (r : TokenLine) → KeptOuter lang o pre → SpellsLine lang.version r.tokens f → Kept lang (goes_globals o r.number f) (pre ++ r ∷ [])
globals_keep lang o (FType name s) pre r k m = outer_more lang o pre (r ∷ []) _ k (global_type r m)
globals_keep lang o (FTdf name) pre r k m = record { out = pre; own = r ∷ []; outer = k; block = tdf_new lang r name m; is = refl }
globals_keep lang o (FDe name) pre r k m = record {
  out = pre;
  own = r ∷ [];
  outer = k;
  is = refl;
  block = record {
    h = r;
    a = [];
    b = [];
    head = m;
    line = refl;
    lines = lines_none;
    processes = processes_none;
    rows = refl;
    none = λ q. refl;
  };
}
globals_keep lang o (FComposite name) pre r k m = record { out = pre; own = r ∷ []; outer = k; is = refl; block = record { h = r; a = []; starts = m; line = refl; lines = lines_none; rows = refl } }
globals_keep lang o FTop pre r k m = record {
  out = pre;
  own = r ∷ [];
  outer = k;
  is = refl;
  block = record {
    net = record { h = r; a = []; starts = m; line = refl; lines = lines_none; rows = refl };
    name = refl;
  };
}
globals_keep lang o _ pre r k m = tt

-- a head of a part: the rows up to it
to_head : (lang : Dialect) (o : Outer) (parts most : ℕ) (t : PureTdf) (f : Form) (pre : List TokenLine) (r : TokenLine) → InBlock lang o (λ own. TdfSoFar lang parts own t) pre → SpellsLine lang.version r.tokens f → parts ≤ most
    → HeadOf lang o parts most t f (pre ++ r ∷ [])
to_head lang o parts most t f pre r k m q = record {
  out = k.out;
  own = k.own;
  h = r;
  few = q;
  outer = k.outer;
  block = k.block;
  head = m;
  is = ap (λ (l : List TokenLine). l ++ r ∷ []) k.is ∙ append_assoc k.out k.own (r ∷ []);
}

to_attributes : (lang : Dialect) (o : Outer) (parts : ℕ) (t : PureTdf) (pre : List TokenLine) (r : TokenLine) → InBlock lang o (λ own. TdfSoFar lang parts own t) pre → SpellsLine lang.version r.tokens FSetAttributes → parts ≤ 0
    → AttributesOf lang o t (pre ++ r ∷ [])
to_attributes lang o parts t pre r k m q =
    let e : t.attrs ≡ [] = (k.block.no1 q).1 in
    record {
      parts = parts;
      few = q;
      out = k.out;
      own = k.own;
      a = [];
      h = r;
      outer = k.outer;
      block = subst (λ (xs : List Attr). TdfSoFar lang parts k.own (record t { attrs = xs })) e k.block;
      head = m;
      lines = subst (Lines lang attr_of []) (sym e) lines_none;
      is = ap (λ (l : List TokenLine). l ++ r ∷ []) k.is ∙ append_assoc k.out k.own (r ∷ []);
    }

to_initialize : (lang : Dialect) (o : Outer) (parts : ℕ) (t : PureTdf) (pre : List TokenLine) (r : TokenLine) → InBlock lang o (λ own. TdfSoFar lang parts own t) pre → SpellsLine lang.version r.tokens FInitialize → parts ≤ 1
    → InitializeOf lang o t (pre ++ r ∷ [])
to_initialize lang o parts t pre r k m q =
    let e : t.initials ≡ [] = (k.block.no2 q).1 in
    record {
      parts = parts;
      few = q;
      out = k.out;
      own = k.own;
      a = [];
      h = r;
      outer = k.outer;
      block = subst (λ (xs : List Initial). TdfSoFar lang parts k.own (record t { initials = xs })) e k.block;
      head = m;
      lines = subst (Lines lang initial_of []) (sym e) lines_none;
      is = ap (λ (l : List TokenLine). l ++ r ∷ []) k.is ∙ append_assoc k.out k.own (r ∷ []);
    }

-- the body of a part begins
to_body : (lang : Dialect) (owner : Owner) (pre : List TokenLine) → Front lang owner pre → Kept lang (PBody owner [] []) pre
to_body lang owner pre k = record { front = pre; body = []; d = 8; before = k; owns = (refl, stmts_none); is = sym (append-nil pre) }

more_tdf_keeps : (lang : Dialect) (o : Outer) (t : PureTdf) (pre : List TokenLine) (r : TokenLine) (f : Form) → InBlock lang o (λ own. TdfSoFar lang 0 own t) pre → SpellsLine lang.version r.tokens f → (x : Option PureTdfLine) → tdf_line_of r.number f ≡ x
    → Kept lang (more_tdf o t x) (pre ++ r ∷ [])
more_tdf_keeps lang o t pre r f k m None e = tt
more_tdf_keeps lang o t pre r f k m (Some x) e = record {
  out = k.out;
  own = k.own ++ r ∷ [];
  outer = k.outer;
  block = tdf_more lang k.own t r f x k.block m e;
  is = ap (λ (l : List TokenLine). l ++ r ∷ []) k.is ∙ append_assoc k.out k.own (r ∷ []);
}

tdf_keeps : (lang : Dialect) (o : Outer) (parts : ℕ) (t : PureTdf) (f : Form) (pre : List TokenLine) (r : TokenLine) → InBlock lang o (λ own. TdfSoFar lang parts own t) pre → SpellsLine lang.version r.tokens f
    → Kept lang (goes_tdf o parts t r.number f) (pre ++ r ∷ [])
tdf_keeps lang o parts t FSetAttributes pre r k m =
    pick_bool (λ (p : Place). Kept lang p (pre ++ r ∷ [])) (nat_le parts 0) (PAttributes o t) PLost (λ e. to_attributes lang o parts t pre r k m (leb_le parts 0 e)) (λ e. tt)
tdf_keeps lang o parts t FInitialize pre r k m =
    pick_bool (λ (p : Place). Kept lang p (pre ++ r ∷ [])) (nat_le parts 1) (PInitialize o t) PLost (λ e. to_initialize lang o parts t pre r k m (leb_le parts 1 e)) (λ e. tt)
tdf_keeps lang o parts t FProcessing pre r k m =
    pick_bool (λ (p : Place). Kept lang p (pre ++ r ∷ [])) (nat_le parts 2) (PBody (OwnProcessing o t) [] []) PLost
    (λ e. to_body lang (OwnProcessing o t) (pre ++ r ∷ []) (parts, to_head lang o parts 2 t FProcessing pre r k m (leb_le parts 2 e))) (λ e. tt)
tdf_keeps lang o parts t FChangeAttributes pre r k m =
    pick_bool (λ (p : Place). Kept lang p (pre ++ r ∷ [])) (nat_le parts 3) (PBody (OwnChange o t) [] []) PLost
    (λ e. to_body lang (OwnChange o t) (pre ++ r ∷ []) (parts, to_head lang o parts 3 t FChangeAttributes pre r k m (leb_le parts 3 e))) (λ e. tt)
tdf_keeps lang o parts t FReinitialize pre r k m =
    pick_bool (λ (p : Place). Kept lang p (pre ++ r ∷ [])) (nat_le parts 4) (PBody (OwnReinitialize o t) [] []) PLost
    (λ e. to_body lang (OwnReinitialize o t) (pre ++ r ∷ []) (parts, to_head lang o parts 4 t FReinitialize pre r k m (leb_le parts 4 e))) (λ e. tt)
tdf_keeps lang o parts t FEnd pre r k m =
    subst (KeptOuter lang (with_global o (GTdf t))) (sym (ap (λ (l : List TokenLine). l ++ r ∷ []) k.is ∙ append_assoc k.out k.own (r ∷ [])))
    (outer_more lang o k.out (k.own ++ r ∷ []) (GTdf t) k.outer (global_tdf r (tdf_whole lang parts k.own t k.block) m))
tdf_keeps lang o zero t f pre r k m = more_tdf_keeps lang o t pre r f k m (tdf_line_of r.number f) refl
tdf_keeps lang o (suc parts) t f pre r k m = tt

more_attributes_keeps : (lang : Dialect) (o : Outer) (t : PureTdf) (pre : List TokenLine) (r : TokenLine) (f : Form) → AttributesOf lang o t pre → SpellsLine lang.version r.tokens f → (x : Option Attr) → attr_of r.number f ≡ x
    → Kept lang (more_attributes o t x) (pre ++ r ∷ [])
more_attributes_keeps lang o t pre r f k m None e = tt
more_attributes_keeps lang o t pre r f k m (Some x) e = record {
  parts = k.parts;
  few = k.few;
  out = k.out;
  own = k.own;
  a = k.a ++ r ∷ [];
  h = k.h;
  outer = k.outer;
  block = k.block;
  head = k.head;
  lines = lines_more k.lines r m e;
  is = ap (λ (l : List TokenLine). l ++ r ∷ []) k.is ∙ three_assoc k.out k.own k.h k.a (r ∷ []);
}

attributes_keep : (lang : Dialect) (o : Outer) (t : PureTdf) (f : Form) (pre : List TokenLine) (r : TokenLine) → AttributesOf lang o t pre → SpellsLine lang.version r.tokens f → Kept lang (goes_attributes o t r.number f) (pre ++ r ∷ [])
attributes_keep lang o t FEnd pre r k m = record {
  out = k.out;
  own = k.own ++ (k.h ∷ (k.a ++ r ∷ []));
  outer = k.outer;
  block = add_attributes lang k.own (k.h ∷ (k.a ++ r ∷ [])) (record t { attrs = [] }) k.parts t.attrs k.few k.block (attributes_some k.h r k.head k.lines m);
  is = ap (λ (l : List TokenLine). l ++ r ∷ []) k.is ∙ three_assoc k.out k.own k.h k.a (r ∷ []);
}
attributes_keep lang o t f pre r k m = more_attributes_keeps lang o t pre r f k m (attr_of r.number f) refl

-- after the rows before a body
front_assoc : (x y z : List TokenLine) → (x ++ y) ++ z ≡ x ++ (y ++ z)
front_assoc x y z = append_assoc x y z

-- a body that is whole, in its block
end_initialize : (lang : Dialect) (o : Outer) (t : PureTdf) (acc : List PureStmt) (front body : List TokenLine) (r : TokenLine) → InitializeOf lang o t front → SpellsAll lang Plain deepest body acc → SpellsLine lang.version r.tokens FEnd
    → InBlock lang o (λ own. TdfSoFar lang 2 own (record t { initialize = body_with acc r.number })) (front ++ (body ++ r ∷ []))
end_initialize lang o t acc front body r k c m = record {
  out = k.out;
  own = k.own ++ (k.h ∷ (k.a ++ (body ++ r ∷ [])));
  outer = k.outer;
  block = add_initialize lang k.own (k.h ∷ (k.a ++ (body ++ r ∷ []))) (record t { initials = [] }) k.parts t.initials (body_with acc r.number) k.few k.block (initialize_some k.h r k.head k.lines c m);
  is = ap (λ (l : List TokenLine). l ++ (body ++ r ∷ [])) k.is ∙ three_assoc k.out k.own k.h k.a (body ++ r ∷ []);
}

head_rows : (lang : Dialect) (o : Outer) (parts most : ℕ) (t : PureTdf) (f : Form) (front body : List TokenLine) (r : TokenLine) (k : HeadOf lang o parts most t f front)
    → front ++ (body ++ r ∷ []) ≡ k.out ++ (k.own ++ (k.h ∷ (body ++ r ∷ [])))
head_rows lang o parts most t f front body r k = ap (λ (l : List TokenLine). l ++ (body ++ r ∷ [])) k.is ∙ three_assoc k.out k.own k.h [] (body ++ r ∷ [])

end_process : (lang : Dialect) (o : Outer) (d : PureDe) (p : PureProcess) (acc : List PureStmt) (front body : List TokenLine) (r : TokenLine) → ProcessOf lang o d p p.starts front → SpellsAll lang OfProcess deepest body acc
    → SpellsLine lang.version r.tokens FEnd
    → InBlock lang o (λ own. DeSoFar lang false own (record d { processes = d.processes ++ (record p { body = body_with acc r.number }) ∷ [] })) (front ++ (body ++ r ∷ []))
end_process lang o d p acc front body r k c m =
    let s : SpellsProcess lang (k.h ∷ (k.a ++ (k.b ++ (body ++ r ∷ [])))) (record { line = k.h.number; sensitive = p.sensitive; starts = p.starts; body = body_with acc r.number })
    = process k.h r k.head k.lines k.dont c m in
    let s' : SpellsProcess lang (k.h ∷ (k.a ++ (k.b ++ (body ++ r ∷ [])))) (record p { body = body_with acc r.number })
    = subst (λ (n : ℕ). SpellsProcess lang (k.h ∷ (k.a ++ (k.b ++ (body ++ r ∷ [])))) (record { line = n; sensitive = p.sensitive; starts = p.starts; body = body_with acc r.number })) k.line s in
    record {
      out = k.out;
      own = k.own ++ (k.h ∷ (k.a ++ (k.b ++ (body ++ r ∷ []))));
      outer = k.outer;
      block = record {
        h = k.block.h;
        a = k.block.a;
        b = k.block.b ++ (k.h ∷ (k.a ++ (k.b ++ (body ++ r ∷ []))));
        head = k.block.head;
        line = k.block.line;
        lines = k.block.lines;
        processes = processes_more k.block.processes s';
        rows = ap (λ (l : List TokenLine). l ++ (k.h ∷ (k.a ++ (k.b ++ (body ++ r ∷ []))))) k.block.rows ∙ append_assoc (k.block.h ∷ k.block.a) k.block.b (k.h ∷ (k.a ++ (k.b ++ (body ++ r ∷ []))));
        none = λ q. absurd cc;
      };
      is = ap (λ (l : List TokenLine). l ++ (body ++ r ∷ [])) k.is ∙ three_assoc k.out k.own k.h (k.a ++ k.b) (body ++ r ∷ [])
          ∙ ap (λ (l : List TokenLine). k.out ++ (k.own ++ k.h ∷ l)) (append_assoc k.a k.b (body ++ r ∷ []));
    }

eight : (lang : Dialect) (k : BodyKind) (d : ℕ) (a : List TokenLine) (ss : List PureStmt) → d ≡ 8 → SpellsAll lang k d a ss → SpellsAll lang k deepest a ss
eight lang k d a ss e s = subst (λ (n : ℕ). SpellsAll lang k n a ss) e s

finished_keeps : (lang : Dialect) (owner : Owner) (acc : List PureStmt) (front body : List TokenLine) (r : TokenLine) → Front lang owner front → SpellsAll lang (kind_of_body (part_of owner)) deepest body acc → SpellsLine lang.version r.tokens FEnd
    → Kept lang (finished owner (body_with acc r.number)) (front ++ (body ++ r ∷ []))
finished_keeps lang (OwnInitialize o t) acc front body r k c m = end_initialize lang o t acc front body r k c m
finished_keeps lang (OwnProcessing o t) acc front body r k c m = record {
  out = k.1.out;
  own = k.1.own ++ (k.1.h ∷ (body ++ r ∷ []));
  outer = k.1.outer;
  block = add_processing lang k.1.own (k.1.h ∷ (body ++ r ∷ [])) t k.0 (body_with acc r.number) k.1.few k.1.block (part_some k.1.h r k.1.head c m);
  is = head_rows lang o k.0 2 t FProcessing front body r k.1;
}
finished_keeps lang (OwnChange o t) acc front body r k c m = record {
  out = k.1.out;
  own = k.1.own ++ (k.1.h ∷ (body ++ r ∷ []));
  outer = k.1.outer;
  block = add_change lang k.1.own (k.1.h ∷ (body ++ r ∷ [])) t k.0 (body_with acc r.number) k.1.few k.1.block (part_some k.1.h r k.1.head c m);
  is = head_rows lang o k.0 3 t FChangeAttributes front body r k.1;
}
finished_keeps lang (OwnReinitialize o t) acc front body r k c m = record {
  out = k.1.out;
  own = k.1.own ++ (k.1.h ∷ (body ++ r ∷ []));
  outer = k.1.outer;
  block = add_reinitialize lang k.1.own (k.1.h ∷ (body ++ r ∷ [])) t k.0 (body_with acc r.number) k.1.few k.1.block (part_some k.1.h r k.1.head c m);
  is = head_rows lang o k.0 4 t FReinitialize front body r k.1;
}
finished_keeps lang (OwnProcess o d p) acc front body r k c m = end_process lang o d p acc front body r k c m

-- the rows after one more
body_rows : (front body pre : List TokenLine) (r : TokenLine) → pre ≡ front ++ body → pre ++ r ∷ [] ≡ front ++ (body ++ r ∷ [])
body_rows front body pre r e = ap (λ (l : List TokenLine). l ++ r ∷ []) e ∙ append_assoc front body (r ∷ [])

one_inside : (d n : ℕ) → d + n ≡ 8 → n < 8 → d ≡ suc (d - 1)
one_inside d n e h = omega (arith, e, h)

if_opens : (lang : Dialect) (owner : Owner) (fs : List Frame) (acc : List PureStmt) (pre : List TokenLine) (r : TokenLine) (e : PureExpr) → BodyOf lang owner fs acc pre → SpellsLine lang.version r.tokens (FIf e) → length fs < 8
    → BodyOf lang owner (FrIf r.number e acc ∷ fs) [] (pre ++ r ∷ [])
if_opens lang owner fs acc pre r e k m h =
    let q : k.d ≡ suc (k.d - 1) = one_inside k.d (length fs) (depth lang (kind_of_body (part_of owner)) k.d fs acc k.body k.owns) h in
    record {
      front = k.front;
      body = k.body ++ r ∷ [];
      d = k.d - 1;
      before = k.before;
      owns = (k.body, [], r, subst (λ (n : ℕ). Owns lang (kind_of_body (part_of owner)) n fs acc k.body) q k.owns, stmts_none, m, refl, refl);
      is = body_rows k.front k.body pre r k.is;
    }

for_opens : (lang : Dialect) (owner : Owner) (fs : List Frame) (acc : List PureStmt) (pre : List TokenLine) (r : TokenLine) (name : List ℕ) (from : ℕ) (l : Limit) → BodyOf lang owner fs acc pre
    → SpellsLine lang.version r.tokens (FFor name from l) → length fs < 8 → BodyOf lang owner (FrFor r.number name from l acc ∷ fs) [] (pre ++ r ∷ [])
for_opens lang owner fs acc pre r name from l k m h =
    let q : k.d ≡ suc (k.d - 1) = one_inside k.d (length fs) (depth lang (kind_of_body (part_of owner)) k.d fs acc k.body k.owns) h in
    record {
      front = k.front;
      body = k.body ++ r ∷ [];
      d = k.d - 1;
      before = k.before;
      owns = (k.body, [], r, subst (λ (n : ℕ). Owns lang (kind_of_body (part_of owner)) n fs acc k.body) q k.owns, stmts_none, m, refl, refl);
      is = body_rows k.front k.body pre r k.is;
    }

else_keeps : (lang : Dialect) (owner : Owner) (fs : List Frame) (acc : List PureStmt) (pre : List TokenLine) (r : TokenLine) → BodyOf lang owner fs acc pre → SpellsLine lang.version r.tokens FElse → Kept lang (else_body owner fs acc) (pre ++ r ∷ [])
else_keeps lang owner [] acc pre r k m = tt
else_keeps lang owner (FrIf l e outer ∷ fs) acc pre r k m =
    let o = k.owns in
    record {
      front = k.front;
      body = k.body ++ r ∷ [];
      d = k.d;
      before = k.before;
      owns = (o.0, o.1, [], o.2, r, o.3, o.4, stmts_none, o.5, m, o.6, ap (λ (u : List TokenLine). u ++ r ∷ []) o.7 ∙ append_assoc o.0 (o.2 ∷ o.1) (r ∷ []));
      is = body_rows k.front k.body pre r k.is;
    }
else_keeps lang owner (FrElse l e first outer ∷ fs) acc pre r k m = tt
else_keeps lang owner (FrFor l name from limit outer ∷ fs) acc pre r k m = tt

end_keeps : (lang : Dialect) (owner : Owner) (fs : List Frame) (acc : List PureStmt) (pre : List TokenLine) (r : TokenLine) → BodyOf lang owner fs acc pre → SpellsLine lang.version r.tokens FEnd → Kept lang (end_body owner r.number fs acc) (pre ++ r ∷ [])
end_keeps lang owner [] acc pre r k m =
    subst (Kept lang (finished owner (body_with acc r.number))) (sym (body_rows k.front k.body pre r k.is))
    (finished_keeps lang owner acc k.front k.body r k.before (eight lang (kind_of_body (part_of owner)) k.d k.body acc k.owns.0 k.owns.1) m)
end_keeps lang owner (FrIf l e outer ∷ fs) acc pre r k m =
    let o = k.owns in
    let x : SpellsOne lang (kind_of_body (part_of owner)) (suc k.d) (o.2 ∷ (o.1 ++ r ∷ [])) (SIf l e (sts acc) Done)
    = subst (λ (n : ℕ). SpellsOne lang (kind_of_body (part_of owner)) (suc k.d) (o.2 ∷ (o.1 ++ r ∷ [])) (SIf n e (sts acc) Done)) o.6 (choice o.2 r o.5 o.4 m) in
    record {
      front = k.front;
      body = o.0 ++ (o.2 ∷ (o.1 ++ r ∷ []));
      d = suc k.d;
      before = k.before;
      owns = grows lang (kind_of_body (part_of owner)) (suc k.d) fs outer o.0 (o.2 ∷ (o.1 ++ r ∷ [])) (SIf l e (sts acc) Done) o.3 x;
      is = body_rows k.front k.body pre r k.is ∙ ap (λ (u : List TokenLine). k.front ++ u) (ap (λ (u : List TokenLine). u ++ r ∷ []) o.7 ∙ append_assoc o.0 (o.2 ∷ o.1) (r ∷ []));
    }
end_keeps lang owner (FrElse l e first outer ∷ fs) acc pre r k m =
    let o = k.owns in
    let rows : List TokenLine = o.3 ∷ (o.1 ++ o.4 ∷ (o.2 ++ r ∷ [])) in
    let x : SpellsOne lang (kind_of_body (part_of owner)) (suc k.d) rows (SIf l e (sts first) (sts acc))
    = subst (λ (n : ℕ). SpellsOne lang (kind_of_body (part_of owner)) (suc k.d) rows (SIf n e (sts first) (sts acc))) o.10 (both o.3 o.4 r o.8 o.6 o.9 o.7 m) in
    record {
      front = k.front;
      body = o.0 ++ rows;
      d = suc k.d;
      before = k.before;
      owns = grows lang (kind_of_body (part_of owner)) (suc k.d) fs outer o.0 rows (SIf l e (sts first) (sts acc)) o.5 x;
      is = body_rows k.front k.body pre r k.is ∙ ap (λ (u : List TokenLine). k.front ++ u) (ap (λ (u : List TokenLine). u ++ r ∷ []) o.11 ∙ append_assoc o.0 (o.3 ∷ (o.1 ++ o.4 ∷ o.2)) (r ∷ [])
          ∙ ap (λ (u : List TokenLine). o.0 ++ o.3 ∷ u) (append_assoc o.1 (o.4 ∷ o.2) (r ∷ [])));
    }
end_keeps lang owner (FrFor l name from limit outer ∷ fs) acc pre r k m =
    let o = k.owns in
    let x : SpellsOne lang (kind_of_body (part_of owner)) (suc k.d) (o.2 ∷ (o.1 ++ r ∷ [])) (SFor l name from limit (sts acc))
    = subst (λ (n : ℕ). SpellsOne lang (kind_of_body (part_of owner)) (suc k.d) (o.2 ∷ (o.1 ++ r ∷ [])) (SFor n name from limit (sts acc))) o.6 (turns o.2 r o.5 o.4 m) in
    record {
      front = k.front;
      body = o.0 ++ (o.2 ∷ (o.1 ++ r ∷ []));
      d = suc k.d;
      before = k.before;
      owns = grows lang (kind_of_body (part_of owner)) (suc k.d) fs outer o.0 (o.2 ∷ (o.1 ++ r ∷ [])) (SFor l name from limit (sts acc)) o.3 x;
      is = body_rows k.front k.body pre r k.is ∙ ap (λ (u : List TokenLine). k.front ++ u) (ap (λ (u : List TokenLine). u ++ r ∷ []) o.7 ∙ append_assoc o.0 (o.2 ∷ o.1) (r ∷ []));
    }

more_body_keeps : (lang : Dialect) (owner : Owner) (fs : List Frame) (acc : List PureStmt) (pre : List TokenLine) (r : TokenLine) (f : Form) → BodyOf lang owner fs acc pre → SpellsLine lang.version r.tokens f → (s : Option PureStmt)
    → stmt_of (kind_of_body (part_of owner)) r.number f ≡ s → Kept lang (more_body owner fs acc s) (pre ++ r ∷ [])
more_body_keeps lang owner fs acc pre r f k m None e = tt
more_body_keeps lang owner fs acc pre r f k m (Some s) e = record {
  front = k.front;
  body = k.body ++ r ∷ [];
  d = k.d;
  before = k.before;
  owns = grows lang (kind_of_body (part_of owner)) k.d fs acc k.body (r ∷ []) s k.owns (simple r m e);
  is = body_rows k.front k.body pre r k.is;
}

body_keeps : (lang : Dialect) (owner : Owner) (fs : List Frame) (acc : List PureStmt) (f : Form) (pre : List TokenLine) (r : TokenLine) → BodyOf lang owner fs acc pre → SpellsLine lang.version r.tokens f
    → Kept lang (goes_body owner fs acc r.number f) (pre ++ r ∷ [])
body_keeps lang owner fs acc (FIf e) pre r k m =
    pick_bool (λ (p : Place). Kept lang p (pre ++ r ∷ [])) (nat_lt (length fs) deepest) (PBody owner (FrIf r.number e acc ∷ fs) []) PLost
    (λ q. if_opens lang owner fs acc pre r e k m (ltb_lt (length fs) 8 q)) (λ q. tt)
body_keeps lang owner fs acc (FFor name from l) pre r k m =
    pick_bool (λ (p : Place). Kept lang p (pre ++ r ∷ [])) (nat_lt (length fs) deepest) (PBody owner (FrFor r.number name from l acc ∷ fs) []) PLost
    (λ q. for_opens lang owner fs acc pre r name from l k m (ltb_lt (length fs) 8 q)) (λ q. tt)
body_keeps lang owner fs acc FElse pre r k m = else_keeps lang owner fs acc pre r k m
body_keeps lang owner fs acc FEnd pre r k m = end_keeps lang owner fs acc pre r k m
body_keeps lang owner fs acc f pre r k m = more_body_keeps lang owner fs acc pre r f k m (stmt_of (kind_of_body (part_of owner)) r.number f) refl

initialize_keeps : (lang : Dialect) (o : Outer) (t : PureTdf) (f : Form) (pre : List TokenLine) (r : TokenLine) → InitializeOf lang o t pre → SpellsLine lang.version r.tokens f → Kept lang (goes_initialize o t r.number f) (pre ++ r ∷ [])
initialize_keeps lang o t (FInitial port place v) pre r k m = record {
  parts = k.parts;
  few = k.few;
  out = k.out;
  own = k.own;
  a = k.a ++ r ∷ [];
  h = k.h;
  outer = k.outer;
  block = k.block;
  head = k.head;
  lines = lines_more k.lines r m refl;
  is = ap (λ (l : List TokenLine). l ++ r ∷ []) k.is ∙ three_assoc k.out k.own k.h k.a (r ∷ []);
}
initialize_keeps lang o t f pre r k m = body_keeps lang (OwnInitialize o t) [] [] f pre r (to_body lang (OwnInitialize o t) pre k) m

more_de_keeps : (lang : Dialect) (o : Outer) (d : PureDe) (pre : List TokenLine) (r : TokenLine) (f : Form) → InBlock lang o (λ own. DeSoFar lang true own d) pre → SpellsLine lang.version r.tokens f → (x : Option PureDeLine) → de_line_of r.number f ≡ x
    → Kept lang (more_de o d x) (pre ++ r ∷ [])
more_de_keeps lang o d pre r f k m None e = tt
more_de_keeps lang o d pre r f k m (Some x) e =
    let b0 : k.block.b ≡ [] = k.block.none refl in
    record {
      out = k.out;
      own = k.own ++ r ∷ [];
      outer = k.outer;
      block = record {
        h = k.block.h;
        a = k.block.a ++ r ∷ [];
        b = k.block.b;
        head = k.block.head;
        line = k.block.line;
        lines = lines_more k.block.lines r m e;
        processes = k.block.processes;
        rows = ap (λ (l : List TokenLine). l ++ r ∷ []) k.block.rows ∙ after5 (k.block.h ∷ k.block.a) k.block.b (r ∷ []) b0 ∙ append_none (k.block.h ∷ (k.block.a ++ r ∷ [])) k.block.b b0;
        none = k.block.none;
      };
      is = ap (λ (l : List TokenLine). l ++ r ∷ []) k.is ∙ append_assoc k.out k.own (r ∷ []);
    }

-- a process begins
to_process : (lang : Dialect) (o : Outer) (declares : Bool) (d : PureDe) (pre : List TokenLine) (r : TokenLine) → InBlock lang o (λ own. DeSoFar lang declares own d) pre → SpellsLine lang.version r.tokens FProcess
    → Kept lang (PProcess o d (new_process r.number)) (pre ++ r ∷ [])
to_process lang o declares d pre r k m = (
  refl,
  record {
    declares = declares;
    out = k.out;
    own = k.own;
    a = [];
    b = [];
    h = r;
    outer = k.outer;
    block = k.block;
    head = m;
    line = refl;
    lines = lines_none;
    dont = dont_none;
    is = ap (λ (l : List TokenLine). l ++ r ∷ []) k.is ∙ append_assoc k.out k.own (r ∷ []);
  },
)

de_closes : (lang : Dialect) (o : Outer) (declares : Bool) (d : PureDe) (pre : List TokenLine) (r : TokenLine) → InBlock lang o (λ own. DeSoFar lang declares own d) pre → SpellsLine lang.version r.tokens FEnd
    → KeptOuter lang (with_global o (GDe d)) (pre ++ r ∷ [])
de_closes lang o declares d pre r k m =
    let b = k.block in
    let s : SpellsGlobal lang (b.h ∷ (b.a ++ (b.b ++ r ∷ []))) (GDe d)
    = subst (λ (n : ℕ). SpellsGlobal lang (b.h ∷ (b.a ++ (b.b ++ r ∷ []))) (GDe (record d { line = n }))) b.line (global_de b.h r b.head b.lines b.processes m) in
    let e : pre ++ r ∷ [] ≡ k.out ++ (b.h ∷ (b.a ++ (b.b ++ r ∷ [])))
    = ap (λ (l : List TokenLine). l ++ r ∷ []) k.is ∙ append_assoc k.out k.own (r ∷ []) ∙ ap (λ (l : List TokenLine). k.out ++ (l ++ r ∷ [])) b.rows
    ∙ ap (λ (l : List TokenLine). k.out ++ (b.h ∷ l)) (append_assoc b.a b.b (r ∷ [])) in
    subst (KeptOuter lang (with_global o (GDe d))) (sym e) (outer_more lang o k.out (b.h ∷ (b.a ++ (b.b ++ r ∷ []))) (GDe d) k.outer s)

de_keeps : (lang : Dialect) (o : Outer) (declares : Bool) (d : PureDe) (f : Form) (pre : List TokenLine) (r : TokenLine) → InBlock lang o (λ own. DeSoFar lang declares own d) pre → SpellsLine lang.version r.tokens f
    → Kept lang (goes_de o declares d r.number f) (pre ++ r ∷ [])
de_keeps lang o declares d FProcess pre r k m = to_process lang o declares d pre r k m
de_keeps lang o declares d FEnd pre r k m = de_closes lang o declares d pre r k m
de_keeps lang o true d f pre r k m = more_de_keeps lang o d pre r f k m (de_line_of r.number f) refl
de_keeps lang o false d f pre r k m = tt

no_dont : (lang : Dialect) {b : List TokenLine} {s : Bool} → SpellsDont lang b s → s ≡ true → b ≡ []
no_dont lang dont_none e = refl
no_dont lang (dont_some h m) e = absurd cc

process_rows : (out own : List TokenLine) (h : TokenLine) (a b c pre : List TokenLine) → b ≡ [] → pre ≡ out ++ (own ++ h ∷ (a ++ b)) → pre ++ c ≡ out ++ (own ++ h ∷ (a ++ c))
process_rows out own h a b c pre e f =
    ap (λ (l : List TokenLine). l ++ c) f ∙ three_assoc out own h (a ++ b) c ∙ ap (λ (l : List TokenLine). out ++ (own ++ h ∷ l)) (after5 a b c e)

process_keeps : (lang : Dialect) (o : Outer) (d : PureDe) (p : PureProcess) (f : Form) (pre : List TokenLine) (r : TokenLine) → (p.starts ≡ true) × ProcessOf lang o d p true pre → SpellsLine lang.version r.tokens f
    → Kept lang (goes_process o d p r.number f) (pre ++ r ∷ [])
process_keeps lang o d p (FSensitive name) pre r (s, k) m =
    let b0 : k.b ≡ [] = no_dont lang k.dont refl in (
      s,
      record {
        declares = k.declares;
        out = k.out;
        own = k.own;
        a = k.a ++ r ∷ [];
        b = k.b;
        h = k.h;
        outer = k.outer;
        block = k.block;
        head = k.head;
        line = k.line;
        lines = lines_more k.lines r m refl;
        dont = k.dont;
        is = process_rows k.out k.own k.h k.a k.b (r ∷ []) pre b0 k.is ∙ ap (λ (l : List TokenLine). k.out ++ (k.own ++ k.h ∷ l)) (append_none (k.a ++ r ∷ []) k.b b0);
      },
    )
process_keeps lang o d p FDontInitialize pre r (s, k) m =
    let b0 : k.b ≡ [] = no_dont lang k.dont refl in
    to_body lang (OwnProcess o d (record p { starts = false })) (pre ++ r ∷ []) (record {
      declares = k.declares;
      out = k.out;
      own = k.own;
      a = k.a;
      b = r ∷ [];
      h = k.h;
      outer = k.outer;
      block = k.block;
      head = k.head;
      line = k.line;
      lines = k.lines;
      dont = dont_some r m;
      is = process_rows k.out k.own k.h k.a k.b (r ∷ []) pre b0 k.is;
    })
process_keeps lang o d p f pre r (s, k) m =
    body_keeps lang (OwnProcess o d p) [] [] f pre r (to_body lang (OwnProcess o d p) pre (subst (λ (b : Bool). ProcessOf lang o d p b pre) (sym s) k)) m

more_net_keeps : (lang : Dialect) (o : Outer) (c : PureComposite) (pre : List TokenLine) (r : TokenLine) (f : Form) → InBlock lang o (λ own. NetSoFar lang (FComposite c.name) net_line_of own c) pre → SpellsLine lang.version r.tokens f
    → (x : Option Member) → net_line_of r.number f ≡ x → Kept lang (more_net o c x) (pre ++ r ∷ [])
more_net_keeps lang o c pre r f k m None e = tt
more_net_keeps lang o c pre r f k m (Some x) e =
    let b = k.block in
    record {
      out = k.out;
      own = k.own ++ r ∷ [];
      outer = k.outer;
      block = record { h = b.h; a = b.a ++ r ∷ []; starts = b.starts; line = b.line; lines = lines_more b.lines r m e; rows = ap (λ (l : List TokenLine). l ++ r ∷ []) b.rows };
      is = ap (λ (l : List TokenLine). l ++ r ∷ []) k.is ∙ append_assoc k.out k.own (r ∷ []);
    }

net_keeps : (lang : Dialect) (o : Outer) (c : PureComposite) (f : Form) (pre : List TokenLine) (r : TokenLine) → InBlock lang o (λ own. NetSoFar lang (FComposite c.name) net_line_of own c) pre → SpellsLine lang.version r.tokens f
    → Kept lang (goes_net o c r.number f) (pre ++ r ∷ [])
net_keeps lang o c FEnd pre r k m =
    let b = k.block in
    let s : SpellsGlobal lang (b.h ∷ (b.a ++ r ∷ [])) (GNet c) = subst (λ (n : ℕ). SpellsGlobal lang (b.h ∷ (b.a ++ r ∷ [])) (GNet (record c { line = n }))) b.line (global_net b.h r b.starts b.lines m) in
    let e : pre ++ r ∷ [] ≡ k.out ++ (b.h ∷ (b.a ++ r ∷ []))
    = ap (λ (l : List TokenLine). l ++ r ∷ []) k.is ∙ append_assoc k.out k.own (r ∷ []) ∙ ap (λ (l : List TokenLine). k.out ++ (l ++ r ∷ [])) b.rows in
    subst (KeptOuter lang (with_global o (GNet c))) (sym e) (outer_more lang o k.out (b.h ∷ (b.a ++ r ∷ [])) (GNet c) k.outer s)
net_keeps lang o c f pre r k m = more_net_keeps lang o c pre r f k m (net_line_of r.number f) refl

more_top_keeps : (lang : Dialect) (o : Outer) (c : PureComposite) (pre : List TokenLine) (r : TokenLine) (f : Form) → InBlock lang o (TopOf lang c) pre → SpellsLine lang.version r.tokens f
    → (x : Option Member) → member_of r.number f ≡ x → Kept lang (more_top o c x) (pre ++ r ∷ [])
more_top_keeps lang o c pre r f k m None e = tt
more_top_keeps lang o c pre r f k m (Some x) e =
    let b = k.block.net in
    record {
      out = k.out;
      own = k.own ++ r ∷ [];
      outer = k.outer;
      block = record {
        net = record { h = b.h; a = b.a ++ r ∷ []; starts = b.starts; line = b.line; lines = lines_more b.lines r m e; rows = ap (λ (l : List TokenLine). l ++ r ∷ []) b.rows };
        name = k.block.name;
      };
      is = ap (λ (l : List TokenLine). l ++ r ∷ []) k.is ∙ append_assoc k.out k.own (r ∷ []);
    }

top_keeps : (lang : Dialect) (o : Outer) (c : PureComposite) (f : Form) (pre : List TokenLine) (r : TokenLine) → InBlock lang o (TopOf lang c) pre → SpellsLine lang.version r.tokens f → Kept lang (goes_top o c r.number f) (pre ++ r ∷ [])
top_keeps lang o c FEnd pre r k m =
    let b = k.block.net in
    record {
      out = k.out;
      a = b.a;
      b = [];
      h = b.h;
      l = r;
      outer = k.outer;
      head = b.starts;
      line = b.line;
      name = k.block.name;
      members = b.lines;
      end = m;
      traces = lines_none;
      is = ap (λ (l : List TokenLine). l ++ r ∷ []) k.is ∙ append_assoc k.out k.own (r ∷ []) ∙ ap (λ (l : List TokenLine). k.out ++ (l ++ r ∷ [])) b.rows;
    }
top_keeps lang o c f pre r k m = more_top_keeps lang o c pre r f k m (member_of r.number f) refl

traces_keep : (lang : Dialect) (t : PureTree) (f : Form) (pre : List TokenLine) (r : TokenLine) → TracesOf lang t pre → SpellsLine lang.version r.tokens f → (x : Option PureTrace) → trace_item r.number f ≡ x → Kept lang (more_traces t x) (pre ++ r ∷ [])
traces_keep lang t f pre r k m None e = tt
traces_keep lang t f pre r k m (Some x) e = record {
  out = k.out;
  a = k.a;
  b = k.b ++ r ∷ [];
  h = k.h;
  l = k.l;
  outer = k.outer;
  head = k.head;
  line = k.line;
  name = k.name;
  members = k.members;
  end = k.end;
  traces = lines_more k.traces r m e;
  is = ap (λ (u : List TokenLine). u ++ r ∷ []) k.is ∙ append_assoc k.out (k.h ∷ (k.a ++ k.l ∷ k.b)) (r ∷ []) ∙ ap (λ (u : List TokenLine). k.out ++ (k.h ∷ u)) (append_assoc k.a (k.l ∷ k.b) (r ∷ []));
}

goes_keeps : (lang : Dialect) (p : Place) (f : Form) (pre : List TokenLine) (r : TokenLine) → Kept lang p pre → SpellsLine lang.version r.tokens f → Kept lang (goes p r.number f) (pre ++ r ∷ [])
goes_keeps lang (PGlobals o) f pre r k m = globals_keep lang o f pre r k m
goes_keeps lang (PTdf o parts t) f pre r k m = tdf_keeps lang o parts t f pre r k m
goes_keeps lang (PAttributes o t) f pre r k m = attributes_keep lang o t f pre r k m
goes_keeps lang (PInitialize o t) f pre r k m = initialize_keeps lang o t f pre r k m
goes_keeps lang (PBody owner fs acc) f pre r k m = body_keeps lang owner fs acc f pre r k m
goes_keeps lang (PDe o declares d) f pre r k m = de_keeps lang o declares d f pre r k m
goes_keeps lang (PProcess o d p) f pre r k m = process_keeps lang o d p f pre r k m
goes_keeps lang (PNet o c) f pre r k m = net_keeps lang o c f pre r k m
goes_keeps lang (PTop o c) f pre r k m = top_keeps lang o c f pre r k m
goes_keeps lang (PTraces t) f pre r k m = traces_keep lang t f pre r k m (trace_item r.number f) refl
goes_keeps lang PLost f pre r k m = tt

form_keeps : (lang : Dialect) (p : Place) (pre : List TokenLine) (r : TokenLine) → Kept lang p pre → (o : Option Form) → form_of lang.version r.tokens ≡ o → Kept lang (read_form p r.number o) (pre ++ r ∷ [])
form_keeps lang p pre r k None e = tt
form_keeps lang p pre r k (Some f) e = goes_keeps lang p f pre r k (form_means lang.version r.tokens f e)

row_keeps : (lang : Dialect) (p : Place) (pre : List TokenLine) (r : TokenLine) → Kept lang p pre → Kept lang (reads_row lang p r) (pre ++ r ∷ [])
unfolding reads_row
row_keeps lang p pre r k = form_keeps lang p pre r k (form_of lang.version r.tokens) refl

rows_keep : (lang : Dialect) (rows : List TokenLine) (p : Place) (pre : List TokenLine) → Kept lang p pre → Kept lang (reads_rows lang p rows) (pre ++ rows)
unfolding reads_rows
rows_keep lang [] p pre k = subst (Kept lang p) (sym (append-nil pre)) k
rows_keep lang (r ∷ rs) p pre k = subst (Kept lang (reads_rows lang (reads_row lang p r) rs)) (append_assoc pre (r ∷ []) rs) (rows_keep lang rs (reads_row lang p r) (pre ++ r ∷ []) (row_keeps lang p pre r k))

traces_spell : (lang : Dialect) (rows : List TokenLine) (t : PureTree) → TracesOf lang t rows → SpellsModel lang rows t
traces_spell lang rows t k =
    let v : lang.version ≡ t.version = sym (ap (λ (d : Dialect). d.version) k.outer.dialect) in
    let w : lang.resolution ≡ t.resolution = sym (ap (λ (d : Dialect). d.resolution) k.outer.dialect) in
    let all : List TokenLine = k.out ++ k.h ∷ (k.a ++ k.l ∷ k.b) in
    let s1 : SpellsModel lang all (record t { version = lang.version; resolution = lang.resolution; top = record { line = k.h.number; name = codes "top"; members = t.top.members } })
    = model k.h k.l k.outer.globals k.head k.members k.end k.traces in
    let s2 : SpellsModel lang all (record t { resolution = lang.resolution; top = record { line = k.h.number; name = codes "top"; members = t.top.members } })
    = subst (λ (n : Version). SpellsModel lang all (record t { version = n; resolution = lang.resolution; top = record { line = k.h.number; name = codes "top"; members = t.top.members } })) v s1 in
    let s3 : SpellsModel lang all (record t { top = record { line = k.h.number; name = codes "top"; members = t.top.members } })
    = subst (λ (u : Resolution). SpellsModel lang all (record t { resolution = u; top = record { line = k.h.number; name = codes "top"; members = t.top.members } })) w s2 in
    let s4 : SpellsModel lang all (record t { top = record { line = t.top.line; name = codes "top"; members = t.top.members } })
    = subst (λ (n : ℕ). SpellsModel lang all (record t { top = record { line = n; name = codes "top"; members = t.top.members } })) k.line s3 in
    let s5 : SpellsModel lang all t
    = subst (λ (name : List ℕ). SpellsModel lang all (record t { top = record { line = t.top.line; name = name; members = t.top.members } })) (sym k.name) s4 in
    subst (λ (l : List TokenLine). SpellsModel lang l t) (sym k.is) s5

-- what is read from lines is spelled by them
pub reads_spell : (lang : Dialect) (rows : List TokenLine) (t : PureTree) → reads_rows lang (PGlobals (outset lang)) rows ≡ PTraces t → SpellsModel lang rows t
reads_spell lang rows t e =
    traces_spell lang rows t (subst (λ (p : Place). Kept lang p rows) e (rows_keep lang rows (PGlobals (outset lang)) [] (record { dialect = refl; globals = globals_none })))
