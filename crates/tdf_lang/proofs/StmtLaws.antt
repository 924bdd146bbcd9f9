-- Token lines that have the canonical tokens of lines and statements spell lines and statements alike these.
use Rattle.std.proofs.Common.{◌≡◌, ℕ, suc, List, [], ◌∷◌, ◌++◌, Option, Some, map, refl, sym, ap, subst, ◌∙◌, append_assoc}
use Rattle.std.proofs.lemmas.List.{append-nil}
use Rattle.tdf_lang_tree.specs.Forms.{Form, FEnd, FIf, FElse, FFor}
use Rattle.tdf_lang_parser.specs.Items.{BodyKind, stmt_of}
use Rattle.tdf_lang_lines.specs.SpellsLine.{SpellsLine}
use Rattle.tdf_lang_lexer.specs.Token.{Tok, TokenLine}
use Rattle.tdf_lang_tree.specs.Alike.{bare_stmt, bare_stmts}
use Rattle.tdf_lang_tree.specs.Pure.{PureStmt, SIf, SFor, Done, More, PureExpr}
use Rattle.tdf_lang_tree.specs.Views.{sts}
use Rattle.tdf_lang_parser.specs.SpellsTree.{Lines, lines_none, lines_more, SpellsOne, simple, choice, both, turns, SpellsAll, stmts_none, stmts_more}
use Rattle.tdf_lang_tree.specs.declared.stmt.Limit.{Limit}
use Rattle.tdf_lang_printer.specs.Canon.{stmt_lines, stmts_lines}
use Rattle.tdf_lang.proofs.FormLaws.{form_again}
use Rattle.tdf_lang.proofs.FormWords.{form_tokens}
use Rattle.tdf_lang.proofs.RowLaws.{Shows}
use Rattle.tdf_lang.proofs.Tables.{Moved, stmt_table}
use Rattle.tdf_lang_lexer.specs.declared.dialect.Dialect.{Dialect}

-- rows that show one list of forms after another
pub record Cut (a b : List Form) (rows : List TokenLine) : Type 0 where
  pub first : List TokenLine
  pub second : List TokenLine
  pub is : rows ≡ first ++ second
  pub shows_first : Shows first a
  pub shows_second : Shows second b

pub cut_rows : (a b : List Form) (rows : List TokenLine) → Shows rows (a ++ b) → Cut a b rows
cut_rows [] b rows h = record { first = []; second = rows; is = refl; shows_first = tt; shows_second = h }
cut_rows (f ∷ a) b [] h = absurd h
cut_rows (f ∷ a) b (r ∷ rows) h =
    let c = cut_rows a b rows h.1 in
    record { first = r ∷ c.first; second = c.second; is = ap (λ u. r ∷ u) c.is; shows_first = (h.0, c.shows_first); shows_second = c.shows_second }

pub record One (f : Form) (rows : List TokenLine) : Type 0 where
  pub row : TokenLine
  pub is : rows ≡ row ∷ []
  pub tokens : row.tokens ≡ form_tokens f

pub one_row : (f : Form) (rows : List TokenLine) → Shows rows (f ∷ []) → One f rows
one_row f [] h = absurd h
one_row f (r ∷ []) h = record { row = r; is = refl; tokens = h.0 }
one_row f (r ∷ (q ∷ rows)) h = absurd h.1

pub record Head (f : Form) (fs : List Form) (rows : List TokenLine) : Type 0 where
  pub row : TokenLine
  pub rest : List TokenLine
  pub is : rows ≡ row ∷ rest
  pub tokens : row.tokens ≡ form_tokens f
  pub shows : Shows rest fs

pub head_row : (f : Form) (fs : List Form) (rows : List TokenLine) → Shows rows (f ∷ fs) → Head f fs rows
head_row f fs [] h = absurd h
head_row f fs (r ∷ rows) h = record { row = r; rest = rows; is = refl; tokens = h.0; shows = h.1 }

pub no_rows : (rows : List TokenLine) → Shows rows [] → [] ≡ rows
no_rows [] h = refl
no_rows (r ∷ rows) h = absurd h

pub means_at : (lang : Dialect) {ts : List Tok} {f : Form} → SpellsLine lang.version ts f → (r : TokenLine) → r.tokens ≡ form_tokens f → SpellsLine lang.version r.tokens f
means_at lang {f = f} d r e = subst (λ u. SpellsLine lang.version u f) (sym e) (form_again lang d)

pub map_push : {A B : Type 0} (g : A → B) (xs : List A) (x : A) → map g (xs ++ x ∷ []) ≡ map g xs ++ g x ∷ []
map_push g [] x = refl
map_push g (y ∷ xs) x = ap (λ u. g y ∷ u) (map_push g xs x)

-- two lists that are alike, with one more item each
pub more_same : {A B : Type 0} (g : A → B) (xs ys : List A) (x y : A) → map g xs ≡ map g ys → g x ≡ g y → map g (xs ++ x ∷ []) ≡ map g (ys ++ y ∷ [])
more_same g xs ys x y e h = map_push g xs x ∙ ap (λ u. u ++ g x ∷ []) e ∙ ap (λ u. map g ys ++ u ∷ []) h ∙ sym (map_push g ys y)

pub record LinesAgain (lang : Dialect) {X : Type 0} (of : ℕ → Form → Option X) (bare_of : X → X) (rows : List TokenLine) (xs : List X) : Type 0 where
  pub items : List X
  pub lines : Lines lang of rows items
  pub same : map bare_of items ≡ map bare_of xs

pub lines_again : (lang : Dialect) {X : Type 0} (of : ℕ → Form → Option X) (line : X → Form) (bare_of : X → X)
    → ((n m : ℕ) (f : Form) (x : X) → of n f ≡ Some x → Moved of line bare_of m f f x)
    → {a : List TokenLine} {xs : List X} → Lines lang of a xs → (rows : List TokenLine) → Shows rows (map line xs) → LinesAgain lang of bare_of rows xs
lines_again lang of line bare_of table lines_none [] k = record { items = []; lines = lines_none; same = refl }
lines_again lang of line bare_of table lines_none (r ∷ rows) k = absurd k
lines_again lang of line bare_of table (lines_more {xs = xs} {f = f} {x = x} d h m e) rows k =
    let c = cut_rows (map line xs) (line x ∷ []) rows (subst (Shows rows) (map_push line xs x) k) in
    let i = lines_again lang of line bare_of table d c.first c.shows_first in
    let o = one_row (line x) c.second c.shows_second in
    let t = table h.number o.row.number f x e in
    record {
      items = i.items ++ t.new ∷ [];
      lines = subst (λ u. Lines lang of u (i.items ++ t.new ∷ [])) (sym (c.is ∙ ap (λ u. c.first ++ u) o.is))
          (lines_more i.lines o.row (means_at lang m o.row (o.tokens ∙ ap form_tokens t.form)) t.reads);
      same = more_same bare_of i.items xs t.new x i.same t.same;
    }

-- statements
pub record OneAgain (lang : Dialect) (k : BodyKind) (d : ℕ) (rows : List TokenLine) (s : PureStmt) : Type 0 where
  pub new : PureStmt
  pub spells : SpellsOne lang k d rows new
  pub same : bare_stmt new ≡ bare_stmt s

pub record AllAgain (lang : Dialect) (k : BodyKind) (d : ℕ) (rows : List TokenLine) (ss : List PureStmt) : Type 0 where
  pub list : List PureStmt
  pub spells : SpellsAll lang k d rows list
  pub same : map bare_stmt list ≡ map bare_stmt ss

bare_sts : (ss : List PureStmt) → bare_stmts (sts ss) ≡ sts (map bare_stmt ss)
bare_sts [] = refl
bare_sts (s ∷ ss) = ap (λ u. More (bare_stmt s) u) (bare_sts ss)

pub same_sts : (ts ss : List PureStmt) → map bare_stmt ts ≡ map bare_stmt ss → bare_stmts (sts ts) ≡ bare_stmts (sts ss)
same_sts ts ss e = bare_sts ts ∙ ap sts e ∙ sym (bare_sts ss)

pub sts_push : (ss : List PureStmt) (s : PureStmt) → stmts_lines (sts (ss ++ s ∷ [])) ≡ stmts_lines (sts ss) ++ stmt_lines s
sts_push [] s = append-nil (stmt_lines s)
sts_push (x ∷ ss) s = ap (λ u. stmt_lines x ++ u) (sts_push ss s) ∙ sym (append_assoc (stmt_lines x) (stmts_lines (sts ss)) (stmt_lines s))

abbrev All_ : Dialect → BodyKind → ℕ → List PureStmt → Type 0
All_ lang k d ss = (rows : List TokenLine) → Shows rows (stmts_lines (sts ss)) → AllAgain lang k d rows ss

simple_again : (lang : Dialect) (k : BodyKind) (d : ℕ) (f : Form) (s : PureStmt) (h : TokenLine) → SpellsLine lang.version h.tokens f → stmt_of k h.number f ≡ Some s
    → (rows : List TokenLine) → Shows rows (stmt_lines s) → OneAgain lang k d rows s
simple_again lang k d f s h m e rows i =
    let o = one_row f rows (subst (Shows rows) (stmt_table k h.number 0 f s e).form i) in
    let t = stmt_table k h.number o.row.number f s e in
    record { new = t.new; spells = subst (λ u. SpellsOne lang k d u t.new) (sym o.is) (simple o.row (means_at lang m o.row o.tokens) t.reads); same = t.same }

choice_again : (lang : Dialect) (k : BodyKind) (d n : ℕ) (e : PureExpr) (first : List PureStmt) (h l : TokenLine) → SpellsLine lang.version h.tokens (FIf e) → SpellsLine lang.version l.tokens FEnd → All_ lang k d first
    → (rows : List TokenLine) → Shows rows (stmt_lines (SIf n e (sts first) Done)) → OneAgain lang k (suc d) rows (SIf n e (sts first) Done)
choice_again lang k d n e first h l m me ih rows i =
    let hd = head_row (FIf e) (stmts_lines (sts first) ++ FEnd ∷ []) rows i in
    let c = cut_rows (stmts_lines (sts first)) (FEnd ∷ []) hd.rest hd.shows in
    let b = ih c.first c.shows_first in
    let o = one_row FEnd c.second c.shows_second in
    record {
      new = SIf hd.row.number e (sts b.list) Done;
      spells = subst (λ u. SpellsOne lang k (suc d) u (SIf hd.row.number e (sts b.list) Done)) (sym (hd.is ∙ ap (λ u. hd.row ∷ u) (c.is ∙ ap (λ u. c.first ++ u) o.is)))
          (choice hd.row o.row (means_at lang m hd.row hd.tokens) b.spells (means_at lang me o.row o.tokens));
      same = ap (λ u. SIf 0 e u Done) (same_sts b.list first b.same);
    }

both_again : (lang : Dialect) (k : BodyKind) (d n : ℕ) (e : PureExpr) (first second : List PureStmt) (h q l : TokenLine) → SpellsLine lang.version h.tokens (FIf e) → SpellsLine lang.version q.tokens FElse → SpellsLine lang.version l.tokens FEnd
    → All_ lang k d first → All_ lang k d second → (rows : List TokenLine) → Shows rows (stmt_lines (SIf n e (sts first) (sts second))) → OneAgain lang k (suc d) rows (SIf n e (sts first) (sts second))
both_again lang k d n e first [] h q l m mq me ih jh rows i = choice_again lang k d n e first h l m me ih rows i
both_again lang k d n e first (s ∷ ss) h q l m mq me ih jh rows i =
    let hd = head_row (FIf e) (stmts_lines (sts first) ++ (FElse ∷ (stmts_lines (sts (s ∷ ss)) ++ FEnd ∷ []))) rows i in
    let c = cut_rows (stmts_lines (sts first)) (FElse ∷ (stmts_lines (sts (s ∷ ss)) ++ FEnd ∷ [])) hd.rest hd.shows in
    let b = ih c.first c.shows_first in
    let x = head_row FElse (stmts_lines (sts (s ∷ ss)) ++ FEnd ∷ []) c.second c.shows_second in
    let g = cut_rows (stmts_lines (sts (s ∷ ss))) (FEnd ∷ []) x.rest x.shows in
    let j = jh g.first g.shows_first in
    let o = one_row FEnd g.second g.shows_second in
    record {
      new = SIf hd.row.number e (sts b.list) (sts j.list);
      spells = subst (λ u. SpellsOne lang k (suc d) u (SIf hd.row.number e (sts b.list) (sts j.list)))
          (sym (hd.is ∙ ap (λ u. hd.row ∷ u) (c.is ∙ ap (λ u. c.first ++ u) (x.is ∙ ap (λ u. x.row ∷ u) (g.is ∙ ap (λ u. g.first ++ u) o.is)))))
          (both hd.row x.row o.row (means_at lang m hd.row hd.tokens) b.spells (means_at lang mq x.row x.tokens) j.spells (means_at lang me o.row o.tokens));
      same = ap (λ u. SIf 0 e u (bare_stmts (sts j.list))) (same_sts b.list first b.same) ∙ ap (λ u. SIf 0 e (bare_stmts (sts first)) u) (same_sts j.list (s ∷ ss) j.same);
    }

turns_again : (lang : Dialect) (k : BodyKind) (d n : ℕ) (name : List ℕ) (from : ℕ) (t : Limit) (body : List PureStmt) (h l : TokenLine) → SpellsLine lang.version h.tokens (FFor name from t) → SpellsLine lang.version l.tokens FEnd
    → All_ lang k d body → (rows : List TokenLine) → Shows rows (stmt_lines (SFor n name from t (sts body))) → OneAgain lang k (suc d) rows (SFor n name from t (sts body))
turns_again lang k d n name from t body h l m me ih rows i =
    let hd = head_row (FFor name from t) (stmts_lines (sts body) ++ FEnd ∷ []) rows i in
    let c = cut_rows (stmts_lines (sts body)) (FEnd ∷ []) hd.rest hd.shows in
    let b = ih c.first c.shows_first in
    let o = one_row FEnd c.second c.shows_second in
    record {
      new = SFor hd.row.number name from t (sts b.list);
      spells = subst (λ u. SpellsOne lang k (suc d) u (SFor hd.row.number name from t (sts b.list))) (sym (hd.is ∙ ap (λ u. hd.row ∷ u) (c.is ∙ ap (λ u. c.first ++ u) o.is)))
          (turns hd.row o.row (means_at lang m hd.row hd.tokens) b.spells (means_at lang me o.row o.tokens));
      same = ap (λ u. SFor 0 name from t u) (same_sts b.list body b.same);
    }

mutual
  pub one_again : (lang : Dialect) {k : BodyKind} {d : ℕ} {a : List TokenLine} {s : PureStmt} → SpellsOne lang k d a s → (rows : List TokenLine) → Shows rows (stmt_lines s) → OneAgain lang k d rows s
  one_again lang (simple {k = k} {d = d} {f = f} {s = s} h m e) rows i = simple_again lang k d f s h m e rows i
  one_again lang (choice {k = k} {d = d} {e = e} {first = first} h l m ds me) rows i = choice_again lang k d h.number e first h l m me (λ r j. all_again lang ds r j) rows i
  one_again lang (both {k = k} {d = d} {e = e} {first = first} {second = second} h q l m ds mq es me) rows i =
      both_again lang k d h.number e first second h q l m mq me (λ r j. all_again lang ds r j) (λ r j. all_again lang es r j) rows i
  one_again lang (turns {k = k} {d = d} {name = name} {from = from} {l = t} {body = body} h l m ds me) rows i =
      turns_again lang k d h.number name from t body h l m me (λ r j. all_again lang ds r j) rows i

  pub all_again : (lang : Dialect) {k : BodyKind} {d : ℕ} {a : List TokenLine} {ss : List PureStmt} → SpellsAll lang k d a ss → (rows : List TokenLine) → Shows rows (stmts_lines (sts ss)) → AllAgain lang k d rows ss
  all_again lang stmts_none [] i = record { list = []; spells = stmts_none; same = refl }
  all_again lang stmts_none (r ∷ rows) i = absurd i
  all_again lang (stmts_more {k = k} {d = d} {ss = ss} {s = s} ds e) rows i =
      let c = cut_rows (stmts_lines (sts ss)) (stmt_lines s) rows (subst (Shows rows) (sts_push ss s) i) in
      let b = all_again lang ds c.first c.shows_first in
      let o = one_again lang e c.second c.shows_second in
      record {
        list = b.list ++ o.new ∷ [];
        spells = subst (λ u. SpellsAll lang k d u (b.list ++ o.new ∷ [])) (sym c.is) (stmts_more b.spells o.spells);
        same = more_same bare_stmt b.list ss o.new s b.same o.same;
      }
