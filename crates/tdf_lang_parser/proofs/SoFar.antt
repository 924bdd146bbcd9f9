-- What each place keeps of the rows before it: the blocks that are open, by the rows that spell what they hold so far.
use Rattle.std.proofs.Common.{◌≡◌, ℕ, suc, ◌+◌, ◌<◌, ◌≤◌, Bool, true, List, [], ◌∷◌, ◌++◌, length, Option, Some, refl, sym, ap, subst, ◌∙◌, append_assoc, arith}
use Rattle.std.proofs.lemmas.List.{append-nil}
use Rattle.std.specs.Prelude.{codes}
use Rattle.tdf_lang_lexer.specs.Token.{TokenLine}
use Rattle.tdf_lang_lexer.specs.declared.dialect.Dialect.{Dialect}
use Rattle.tdf_lang_tree.specs.Pure.{PureStmt, PureBody, PureTdfLine, PureTdf, PureProcess, PureDe, PureComposite, PureGlobal, PureTree}
use Rattle.tdf_lang_tree.specs.declared.blocks.Attr.{Attr}
use Rattle.tdf_lang_tree.specs.declared.blocks.Initial.{Initial}
use Rattle.tdf_lang_tree.specs.declared.blocks.Member.{Member}
use Rattle.tdf_lang_parser.specs.Faults.{kind_of_body}
use Rattle.tdf_lang_tree.specs.Forms.{Form, FTdf, FDe, FComposite, FTop, FEnd, FSetAttributes, FInitialize, FProcessing, FChangeAttributes, FReinitialize, FProcess, FIf, FElse, FFor}
use Rattle.tdf_lang_parser.specs.Items.{tdf_line_of, attr_of, initial_of, de_line_of, sense_of, member_of, net_line_of, trace_item, BodyKind, Plain, OfChange}
use Rattle.tdf_lang_lines.specs.SpellsLine.{SpellsLine}
use Rattle.tdf_lang_parser.specs.machine.Places.{Outer, Frame, FrIf, FrElse, FrFor, Owner, OwnInitialize, OwnProcessing, OwnChange, OwnReinitialize, OwnProcess, part_of, Place, PGlobals, PTdf, PAttributes, PInitialize, PBody, PDe, PProcess, PNet, PTop, PTraces, PLost, with_global, with_decl, new_tdf}
use Rattle.tdf_lang_parser.specs.SpellsTree.{Lines, lines_none, lines_more, SpellsOne, SpellsAll, stmts_more, no_body, SpellsPart, part_none, SpellsAttributes, attributes_none, SpellsInitialize, initialize_none, SpellsTdf, tdf, SpellsDont, SpellsProcesses, SpellsGlobal, SpellsGlobals, globals_more}

-- the lines and blocks before a block
pub record KeptOuter (lang : Dialect) (o : Outer) (pre : List TokenLine) : Type 0 where
  pub dialect : o.dialect ≡ lang
  pub globals : SpellsGlobals lang pre o.globals

pub outer_more : (lang : Dialect) (o : Outer) (pre own : List TokenLine) (g : PureGlobal) → KeptOuter lang o pre → SpellsGlobal lang own g → KeptOuter lang (with_global o g) (pre ++ own)
outer_more lang o pre own g k d = record { dialect = k.dialect; globals = globals_more k.globals d }

-- a `tdf` block so far: no part stands in it from `parts` on
pub record TdfSoFar (lang : Dialect) (parts : ℕ) (own : List TokenLine) (t : PureTdf) : Type 0 where
  pub h : TokenLine
  pub a : List TokenLine
  pub b : List TokenLine
  pub c : List TokenLine
  pub d : List TokenLine
  pub e : List TokenLine
  pub f : List TokenLine
  pub head : SpellsLine lang.version h.tokens (FTdf t.name)
  pub line : h.number ≡ t.line
  pub lines : Lines lang tdf_line_of a t.decls
  pub part1 : SpellsAttributes lang b t.attrs
  pub part2 : SpellsInitialize lang c t.initials t.initialize
  pub part3 : SpellsPart lang FProcessing Plain d t.processing
  pub part4 : SpellsPart lang FChangeAttributes OfChange e t.change
  pub part5 : SpellsPart lang FReinitialize Plain f t.reinitialize
  pub rows : own ≡ ((((((h ∷ a) ++ b) ++ c) ++ d) ++ e) ++ f)
  pub no1 : parts ≤ 0 → (b ≡ []) × (t.attrs ≡ [])
  pub no2 : parts ≤ 1 → (c ≡ []) × (t.initials ≡ []) × (t.initialize ≡ no_body)
  pub no3 : parts ≤ 2 → (d ≡ []) × (t.processing ≡ no_body)
  pub no4 : parts ≤ 3 → (e ≡ []) × (t.change ≡ no_body)
  pub no5 : parts ≤ 4 → (f ≡ []) × (t.reinitialize ≡ no_body)

five : (h : TokenLine) (a b c d e f : List TokenLine) → ((((((h ∷ a) ++ b) ++ c) ++ d) ++ e) ++ f) ≡ h ∷ (a ++ (b ++ (c ++ (d ++ (e ++ f)))))
five h a b c d e f = simp append_assoc

pub tdf_whole : (lang : Dialect) (parts : ℕ) (own : List TokenLine) (t : PureTdf) → TdfSoFar lang parts own t → SpellsTdf lang own t
tdf_whole lang parts own t k =
    let s : SpellsTdf lang (k.h ∷ (k.a ++ (k.b ++ (k.c ++ (k.d ++ (k.e ++ k.f)))))) (record t { line = k.h.number }) = tdf k.h k.head k.lines k.part1 k.part2 k.part3 k.part4 k.part5 in
    let s' : SpellsTdf lang (k.h ∷ (k.a ++ (k.b ++ (k.c ++ (k.d ++ (k.e ++ k.f)))))) t = subst (λ (n : ℕ). SpellsTdf lang (k.h ∷ (k.a ++ (k.b ++ (k.c ++ (k.d ++ (k.e ++ k.f)))))) (record t { line = n })) k.line s in
    subst (λ (l : List TokenLine). SpellsTdf lang l t) (sym (k.rows ∙ five k.h k.a k.b k.c k.d k.e k.f)) s'

-- what is put after a list that ends in empty ones
pub after5 : (x y z : List TokenLine) → y ≡ [] → (x ++ y) ++ z ≡ x ++ z
after5 x y z h = ap (λ (l : List TokenLine). (x ++ l) ++ z) h ∙ ap (λ (l : List TokenLine). l ++ z) (append-nil x)

pub append_none : (x y : List TokenLine) → y ≡ [] → x ≡ x ++ y
append_none x y h = sym (ap (λ (l : List TokenLine). x ++ l) h ∙ append-nil x)

pub tdf_new : (lang : Dialect) (r : TokenLine) (name : List ℕ) → SpellsLine lang.version r.tokens (FTdf name) → TdfSoFar lang 0 (r ∷ []) (new_tdf r.number name)
tdf_new lang r name m = record {
  h = r;
  a = [];
  b = [];
  c = [];
  d = [];
  e = [];
  f = [];
  head = m;
  line = refl;
  lines = lines_none;
  part1 = attributes_none;
  part2 = initialize_none;
  part3 = part_none;
  part4 = part_none;
  part5 = part_none;
  rows = refl;
  no1 = λ q. (refl, refl);
  no2 = λ q. (refl, refl, refl);
  no3 = λ q. (refl, refl);
  no4 = λ q. (refl, refl);
  no5 = λ q. (refl, refl);
}

-- the rows of a block without parts from 1, 2, .. on
base1 : (lang : Dialect) (own : List TokenLine) (t : PureTdf) (n : ℕ) (k : TdfSoFar lang n own t) → n ≤ 0 → own ≡ (k.h ∷ k.a)
base1 lang own t n k q =
    k.rows ∙ sym (append_none (((((k.h ∷ k.a) ++ k.b) ++ k.c) ++ k.d) ++ k.e) k.f (k.no5 (omega (arith, q))).0) ∙ sym (append_none ((((k.h ∷ k.a) ++ k.b) ++ k.c) ++ k.d) k.e (k.no4 (omega (arith, q))).0)
    ∙ sym (append_none (((k.h ∷ k.a) ++ k.b) ++ k.c) k.d (k.no3 (omega (arith, q))).0) ∙ sym (append_none ((k.h ∷ k.a) ++ k.b) k.c (k.no2 (omega (arith, q))).0) ∙ sym (append_none (k.h ∷ k.a) k.b (k.no1 q).0)

base2 : (lang : Dialect) (own : List TokenLine) (t : PureTdf) (n : ℕ) (k : TdfSoFar lang n own t) → n ≤ 1 → own ≡ ((k.h ∷ k.a) ++ k.b)
base2 lang own t n k q =
    k.rows ∙ sym (append_none (((((k.h ∷ k.a) ++ k.b) ++ k.c) ++ k.d) ++ k.e) k.f (k.no5 (omega (arith, q))).0) ∙ sym (append_none ((((k.h ∷ k.a) ++ k.b) ++ k.c) ++ k.d) k.e (k.no4 (omega (arith, q))).0)
    ∙ sym (append_none (((k.h ∷ k.a) ++ k.b) ++ k.c) k.d (k.no3 (omega (arith, q))).0) ∙ sym (append_none ((k.h ∷ k.a) ++ k.b) k.c (k.no2 q).0)

base3 : (lang : Dialect) (own : List TokenLine) (t : PureTdf) (n : ℕ) (k : TdfSoFar lang n own t) → n ≤ 2 → own ≡ (((k.h ∷ k.a) ++ k.b) ++ k.c)
base3 lang own t n k q =
    k.rows ∙ sym (append_none (((((k.h ∷ k.a) ++ k.b) ++ k.c) ++ k.d) ++ k.e) k.f (k.no5 (omega (arith, q))).0) ∙ sym (append_none ((((k.h ∷ k.a) ++ k.b) ++ k.c) ++ k.d) k.e (k.no4 (omega (arith, q))).0)
    ∙ sym (append_none (((k.h ∷ k.a) ++ k.b) ++ k.c) k.d (k.no3 q).0)

base4 : (lang : Dialect) (own : List TokenLine) (t : PureTdf) (n : ℕ) (k : TdfSoFar lang n own t) → n ≤ 3 → own ≡ ((((k.h ∷ k.a) ++ k.b) ++ k.c) ++ k.d)
base4 lang own t n k q =
    k.rows ∙ sym (append_none (((((k.h ∷ k.a) ++ k.b) ++ k.c) ++ k.d) ++ k.e) k.f (k.no5 (omega (arith, q))).0) ∙ sym (append_none ((((k.h ∷ k.a) ++ k.b) ++ k.c) ++ k.d) k.e (k.no4 q).0)

base5 : (lang : Dialect) (own : List TokenLine) (t : PureTdf) (n : ℕ) (k : TdfSoFar lang n own t) → n ≤ 4 → own ≡ (((((k.h ∷ k.a) ++ k.b) ++ k.c) ++ k.d) ++ k.e)
base5 lang own t n k q = k.rows ∙ sym (append_none (((((k.h ∷ k.a) ++ k.b) ++ k.c) ++ k.d) ++ k.e) k.f (k.no5 q).0)

-- the parts that are still to come stay absent
no_more : (m n : ℕ) {P : Type 0} → m < n → n ≤ m → P
no_more m n h k = absurd (omega (arith, h, k))

pub tdf_more : (lang : Dialect) (own : List TokenLine) (t : PureTdf) (r : TokenLine) (f : Form) (x : PureTdfLine) → TdfSoFar lang 0 own t → SpellsLine lang.version r.tokens f → tdf_line_of r.number f ≡ Some x
    → TdfSoFar lang 0 (own ++ r ∷ []) (with_decl t x)
tdf_more lang own t r f x k m q =
    let z : 0 ≤ 0 = omega arith in
    let b0 : k.b ≡ [] = (k.no1 z).0 in
    let c0 : k.c ≡ [] = (k.no2 (omega arith)).0 in
    let d0 : k.d ≡ [] = (k.no3 (omega arith)).0 in
    let e0 : k.e ≡ [] = (k.no4 (omega arith)).0 in
    let f0 : k.f ≡ [] = (k.no5 (omega arith)).0 in
    let l : List TokenLine = k.h ∷ (k.a ++ r ∷ []) in
    record {
      h = k.h;
      a = k.a ++ r ∷ [];
      b = k.b;
      c = k.c;
      d = k.d;
      e = k.e;
      f = k.f;
      head = k.head;
      line = k.line;
      lines = lines_more k.lines r m q;
      part1 = k.part1;
      part2 = k.part2;
      part3 = k.part3;
      part4 = k.part4;
      part5 = k.part5;
      rows = ap (λ (u : List TokenLine). u ++ r ∷ []) (base1 lang own t 0 k z) ∙ append_none l k.b b0 ∙ append_none (l ++ k.b) k.c c0 ∙ append_none ((l ++ k.b) ++ k.c) k.d d0
          ∙ append_none (((l ++ k.b) ++ k.c) ++ k.d) k.e e0 ∙ append_none ((((l ++ k.b) ++ k.c) ++ k.d) ++ k.e) k.f f0;
      no1 = k.no1;
      no2 = k.no2;
      no3 = k.no3;
      no4 = k.no4;
      no5 = k.no5;
    }

pub add_attributes : (lang : Dialect) (own b : List TokenLine) (t : PureTdf) (n : ℕ) (xs : List Attr) → n ≤ 0 → TdfSoFar lang n own t → SpellsAttributes lang b xs → TdfSoFar lang 1 (own ++ b) (record t { attrs = xs })
add_attributes lang own b t n xs q k s =
    let l : List TokenLine = (k.h ∷ k.a) ++ b in
    record {
      h = k.h;
      a = k.a;
      b = b;
      c = k.c;
      d = k.d;
      e = k.e;
      f = k.f;
      head = k.head;
      line = k.line;
      lines = k.lines;
      part1 = s;
      part2 = k.part2;
      part3 = k.part3;
      part4 = k.part4;
      part5 = k.part5;
      rows = ap (λ (u : List TokenLine). u ++ b) (base1 lang own t n k q) ∙ append_none l k.c (k.no2 (omega (arith, q))).0 ∙ append_none (l ++ k.c) k.d (k.no3 (omega (arith, q))).0
          ∙ append_none ((l ++ k.c) ++ k.d) k.e (k.no4 (omega (arith, q))).0 ∙ append_none (((l ++ k.c) ++ k.d) ++ k.e) k.f (k.no5 (omega (arith, q))).0;
      no1 = no_more 0 1 (omega arith);
      no2 = λ j. k.no2 (omega (arith, q));
      no3 = λ j. k.no3 (omega (arith, q));
      no4 = λ j. k.no4 (omega (arith, q));
      no5 = λ j. k.no5 (omega (arith, q));
    }

pub add_initialize : (lang : Dialect) (own c : List TokenLine) (t : PureTdf) (n : ℕ) (xs : List Initial) (body : PureBody) → n ≤ 1 → TdfSoFar lang n own t → SpellsInitialize lang c xs body
    → TdfSoFar lang 2 (own ++ c) (record t { initials = xs; initialize = body })
add_initialize lang own c t n xs body q k s =
    let l : List TokenLine = ((k.h ∷ k.a) ++ k.b) ++ c in
    record {
      h = k.h;
      a = k.a;
      b = k.b;
      c = c;
      d = k.d;
      e = k.e;
      f = k.f;
      head = k.head;
      line = k.line;
      lines = k.lines;
      part1 = k.part1;
      part2 = s;
      part3 = k.part3;
      part4 = k.part4;
      part5 = k.part5;
      rows = ap (λ (u : List TokenLine). u ++ c) (base2 lang own t n k q) ∙ append_none l k.d (k.no3 (omega (arith, q))).0
          ∙ append_none (l ++ k.d) k.e (k.no4 (omega (arith, q))).0 ∙ append_none ((l ++ k.d) ++ k.e) k.f (k.no5 (omega (arith, q))).0;
      no1 = no_more 0 2 (omega arith);
      no2 = no_more 1 2 (omega arith);
      no3 = λ j. k.no3 (omega (arith, q));
      no4 = λ j. k.no4 (omega (arith, q));
      no5 = λ j. k.no5 (omega (arith, q));
    }

pub add_processing : (lang : Dialect) (own d : List TokenLine) (t : PureTdf) (n : ℕ) (body : PureBody) → n ≤ 2 → TdfSoFar lang n own t → SpellsPart lang FProcessing Plain d body
    → TdfSoFar lang 3 (own ++ d) (record t { processing = body })
add_processing lang own d t n body q k s =
    let l : List TokenLine = (((k.h ∷ k.a) ++ k.b) ++ k.c) ++ d in
    record {
      h = k.h;
      a = k.a;
      b = k.b;
      c = k.c;
      d = d;
      e = k.e;
      f = k.f;
      head = k.head;
      line = k.line;
      lines = k.lines;
      part1 = k.part1;
      part2 = k.part2;
      part3 = s;
      part4 = k.part4;
      part5 = k.part5;
      rows = ap (λ (u : List TokenLine). u ++ d) (base3 lang own t n k q) ∙ append_none l k.e (k.no4 (omega (arith, q))).0 ∙ append_none (l ++ k.e) k.f (k.no5 (omega (arith, q))).0;
      no1 = no_more 0 3 (omega arith);
      no2 = no_more 1 3 (omega arith);
      no3 = no_more 2 3 (omega arith);
      no4 = λ j. k.no4 (omega (arith, q));
      no5 = λ j. k.no5 (omega (arith, q));
    }

pub add_change : (lang : Dialect) (own e : List TokenLine) (t : PureTdf) (n : ℕ) (body : PureBody) → n ≤ 3 → TdfSoFar lang n own t → SpellsPart lang FChangeAttributes OfChange e body
    → TdfSoFar lang 4 (own ++ e) (record t { change = body })
add_change lang own e t n body q k s =
    let l : List TokenLine = ((((k.h ∷ k.a) ++ k.b) ++ k.c) ++ k.d) ++ e in
    record {
      h = k.h;
      a = k.a;
      b = k.b;
      c = k.c;
      d = k.d;
      e = e;
      f = k.f;
      head = k.head;
      line = k.line;
      lines = k.lines;
      part1 = k.part1;
      part2 = k.part2;
      part3 = k.part3;
      part4 = s;
      part5 = k.part5;
      rows = ap (λ (u : List TokenLine). u ++ e) (base4 lang own t n k q) ∙ append_none l k.f (k.no5 (omega (arith, q))).0;
      no1 = no_more 0 4 (omega arith);
      no2 = no_more 1 4 (omega arith);
      no3 = no_more 2 4 (omega arith);
      no4 = no_more 3 4 (omega arith);
      no5 = λ j. k.no5 (omega (arith, q));
    }

pub add_reinitialize : (lang : Dialect) (own f : List TokenLine) (t : PureTdf) (n : ℕ) (body : PureBody) → n ≤ 4 → TdfSoFar lang n own t → SpellsPart lang FReinitialize Plain f body
    → TdfSoFar lang 5 (own ++ f) (record t { reinitialize = body })
add_reinitialize lang own f t n body q k s = record {
  h = k.h;
  a = k.a;
  b = k.b;
  c = k.c;
  d = k.d;
  e = k.e;
  f = f;
  head = k.head;
  line = k.line;
  lines = k.lines;
  part1 = k.part1;
  part2 = k.part2;
  part3 = k.part3;
  part4 = k.part4;
  part5 = s;
  rows = ap (λ (u : List TokenLine). u ++ f) (base5 lang own t n k q);
  no1 = no_more 0 5 (omega arith);
  no2 = no_more 1 5 (omega arith);
  no3 = no_more 2 5 (omega arith);
  no4 = no_more 3 5 (omega arith);
  no5 = no_more 4 5 (omega arith);
}

-- a `de` block so far
pub record DeSoFar (lang : Dialect) (declares : Bool) (own : List TokenLine) (d : PureDe) : Type 0 where
  pub h : TokenLine
  pub a : List TokenLine
  pub b : List TokenLine
  pub head : SpellsLine lang.version h.tokens (FDe d.name)
  pub line : h.number ≡ d.line
  pub lines : Lines lang de_line_of a d.decls
  pub processes : SpellsProcesses lang b d.processes
  pub rows : own ≡ h ∷ (a ++ b)
  pub none : declares ≡ true → b ≡ []

-- a `composite` block or `top` so far
pub record NetSoFar (lang : Dialect) (head : Form) (of : ℕ → Form → Option Member) (own : List TokenLine) (c : PureComposite) : Type 0 where
  pub h : TokenLine
  pub a : List TokenLine
  pub starts : SpellsLine lang.version h.tokens head
  pub line : h.number ≡ c.line
  pub lines : Lines lang of a c.members
  pub rows : own ≡ h ∷ a

-- the open `if` and `for` of a body: `d` more may nest
abbrev pub Owns : Dialect → BodyKind → ℕ → List Frame → List PureStmt → List TokenLine → Type 0
Owns lang k d [] acc pre = (d ≡ 8) × SpellsAll lang k d pre acc
Owns lang k d (FrIf l e outer ∷ fs) acc pre =
    (p b : List TokenLine) × (h : TokenLine) × Owns lang k (suc d) fs outer p × SpellsAll lang k d b acc × SpellsLine lang.version h.tokens (FIf e) × (h.number ≡ l) × (pre ≡ p ++ h ∷ b)
Owns lang k d (FrElse l e first outer ∷ fs) acc pre =
    (p a b : List TokenLine) × (h m : TokenLine) × Owns lang k (suc d) fs outer p × SpellsAll lang k d a first × SpellsAll lang k d b acc × SpellsLine lang.version h.tokens (FIf e) × SpellsLine lang.version m.tokens FElse × (h.number ≡ l)
    × (pre ≡ p ++ h ∷ (a ++ m ∷ b))
Owns lang k d (FrFor l name from limit outer ∷ fs) acc pre =
    (p b : List TokenLine) × (h : TokenLine) × Owns lang k (suc d) fs outer p × SpellsAll lang k d b acc × SpellsLine lang.version h.tokens (FFor name from limit) × (h.number ≡ l) × (pre ≡ p ++ h ∷ b)

-- one statement more in the innermost block
pub grows : (lang : Dialect) (k : BodyKind) (d : ℕ) (fs : List Frame) (acc : List PureStmt) (pre b : List TokenLine) (s : PureStmt) → Owns lang k d fs acc pre → SpellsOne lang k d b s → Owns lang k d fs (acc ++ s ∷ []) (pre ++ b)
grows lang k d [] acc pre b s o x = (o.0, stmts_more o.1 x)
grows lang k d (FrIf l e outer ∷ fs) acc pre b s o x =
    (o.0, o.1 ++ b, o.2, o.3, stmts_more o.4 x, o.5, o.6, ap (λ (u : List TokenLine). u ++ b) o.7 ∙ append_assoc o.0 (o.2 ∷ o.1) b)
grows lang k d (FrElse l e first outer ∷ fs) acc pre b s o x = (
  o.0,
  o.1,
  o.2 ++ b,
  o.3,
  o.4,
  o.5,
  o.6,
  stmts_more o.7 x,
  o.8,
  o.9,
  o.10,
  ap (λ (u : List TokenLine). u ++ b) o.11 ∙ append_assoc o.0 (o.3 ∷ (o.1 ++ o.4 ∷ o.2)) b ∙ ap (λ (u : List TokenLine). o.0 ++ o.3 ∷ u) (append_assoc o.1 (o.4 ∷ o.2) b),
)
grows lang k d (FrFor l name from limit outer ∷ fs) acc pre b s o x =
    (o.0, o.1 ++ b, o.2, o.3, stmts_more o.4 x, o.5, o.6, ap (λ (u : List TokenLine). u ++ b) o.7 ∙ append_assoc o.0 (o.2 ∷ o.1) b)

pub depth : (lang : Dialect) (k : BodyKind) (d : ℕ) (fs : List Frame) (acc : List PureStmt) (pre : List TokenLine) → Owns lang k d fs acc pre → d + length fs ≡ 8
depth lang k d [] acc pre o = omega (arith, o.0)
depth lang k d (FrIf l e outer ∷ fs) acc pre o = omega (arith, depth lang k (suc d) fs outer o.0 o.3)
depth lang k d (FrElse l e first outer ∷ fs) acc pre o = omega (arith, depth lang k (suc d) fs outer o.0 o.5)
depth lang k d (FrFor l name from limit outer ∷ fs) acc pre o = omega (arith, depth lang k (suc d) fs outer o.0 o.3)

-- the rows before the statements of a body
pub record HeadOf (lang : Dialect) (o : Outer) (parts most : ℕ) (t : PureTdf) (form : Form) (front : List TokenLine) : Type 0 where
  pub out : List TokenLine
  pub own : List TokenLine
  pub h : TokenLine
  pub few : parts ≤ most
  pub outer : KeptOuter lang o out
  pub block : TdfSoFar lang parts own t
  pub head : SpellsLine lang.version h.tokens form
  pub is : front ≡ out ++ (own ++ h ∷ [])

pub record InitializeOf (lang : Dialect) (o : Outer) (t : PureTdf) (front : List TokenLine) : Type 0 where
  pub parts : ℕ
  pub few : parts ≤ 1
  pub out : List TokenLine
  pub own : List TokenLine
  pub a : List TokenLine
  pub h : TokenLine
  pub outer : KeptOuter lang o out
  pub block : TdfSoFar lang parts own (record t { initials = [] })
  pub head : SpellsLine lang.version h.tokens FInitialize
  pub lines : Lines lang initial_of a t.initials
  pub is : front ≡ out ++ (own ++ h ∷ a)

pub record ProcessOf (lang : Dialect) (o : Outer) (d : PureDe) (p : PureProcess) (starts : Bool) (front : List TokenLine) : Type 0 where
  pub declares : Bool
  pub out : List TokenLine
  pub own : List TokenLine
  pub a : List TokenLine
  pub b : List TokenLine
  pub h : TokenLine
  pub outer : KeptOuter lang o out
  pub block : DeSoFar lang declares own d
  pub head : SpellsLine lang.version h.tokens FProcess
  pub line : h.number ≡ p.line
  pub lines : Lines lang sense_of a p.sensitive
  pub dont : SpellsDont lang b starts
  pub is : front ≡ out ++ (own ++ h ∷ (a ++ b))

abbrev pub Front : Dialect → Owner → List TokenLine → Type 0
Front lang (OwnInitialize o t) front = InitializeOf lang o t front
Front lang (OwnProcessing o t) front = (n : ℕ) × HeadOf lang o n 2 t FProcessing front
Front lang (OwnChange o t) front = (n : ℕ) × HeadOf lang o n 3 t FChangeAttributes front
Front lang (OwnReinitialize o t) front = (n : ℕ) × HeadOf lang o n 4 t FReinitialize front
Front lang (OwnProcess o d p) front = ProcessOf lang o d p p.starts front

pub record InBlock (lang : Dialect) (o : Outer) (Block : List TokenLine → Type 0) (pre : List TokenLine) : Type 0 where
  pub out : List TokenLine
  pub own : List TokenLine
  pub outer : KeptOuter lang o out
  pub block : Block own
  pub is : pre ≡ out ++ own

pub record AttributesOf (lang : Dialect) (o : Outer) (t : PureTdf) (pre : List TokenLine) : Type 0 where
  pub parts : ℕ
  pub few : parts ≤ 0
  pub out : List TokenLine
  pub own : List TokenLine
  pub a : List TokenLine
  pub h : TokenLine
  pub outer : KeptOuter lang o out
  pub block : TdfSoFar lang parts own (record t { attrs = [] })
  pub head : SpellsLine lang.version h.tokens FSetAttributes
  pub lines : Lines lang attr_of a t.attrs
  pub is : pre ≡ out ++ (own ++ h ∷ a)

pub record TracesOf (lang : Dialect) (t : PureTree) (pre : List TokenLine) : Type 0 where
  pub out : List TokenLine
  pub a : List TokenLine
  pub b : List TokenLine
  pub h : TokenLine
  pub l : TokenLine
  pub outer : KeptOuter lang (record { dialect = record { version = t.version; resolution = t.resolution }; globals = t.globals }) out
  pub head : SpellsLine lang.version h.tokens FTop
  pub line : h.number ≡ t.top.line
  pub name : t.top.name ≡ codes "top"
  pub members : Lines lang member_of a t.top.members
  pub end : SpellsLine lang.version l.tokens FEnd
  pub traces : Lines lang trace_item b t.traces
  pub is : pre ≡ out ++ h ∷ (a ++ l ∷ b)

pub record BodyOf (lang : Dialect) (owner : Owner) (fs : List Frame) (acc : List PureStmt) (pre : List TokenLine) : Type 0 where
  pub front : List TokenLine
  pub body : List TokenLine
  pub d : ℕ
  pub before : Front lang owner front
  pub owns : Owns lang (kind_of_body (part_of owner)) d fs acc body
  pub is : pre ≡ front ++ body

pub record TopOf (lang : Dialect) (c : PureComposite) (own : List TokenLine) : Type 0 where
  pub net : NetSoFar lang FTop member_of own c
  pub name : c.name ≡ codes "top"

-- what each place keeps of the rows before it
abbrev pub Kept : Dialect → Place → List TokenLine → Type 0
Kept lang (PGlobals o) pre = KeptOuter lang o pre
Kept lang (PTdf o parts t) pre = InBlock lang o (λ own. TdfSoFar lang parts own t) pre
Kept lang (PAttributes o t) pre = AttributesOf lang o t pre
Kept lang (PInitialize o t) pre = InitializeOf lang o t pre
Kept lang (PBody owner fs acc) pre = BodyOf lang owner fs acc pre
Kept lang (PDe o declares d) pre = InBlock lang o (λ own. DeSoFar lang declares own d) pre
Kept lang (PProcess o d p) pre = (p.starts ≡ true) × ProcessOf lang o d p true pre
Kept lang (PNet o c) pre = InBlock lang o (λ own. NetSoFar lang (FComposite c.name) net_line_of own c) pre
Kept lang (PTop o c) pre = InBlock lang o (TopOf lang c) pre
Kept lang (PTraces t) pre = TracesOf lang t pre
Kept lang PLost pre = Unit {0}
