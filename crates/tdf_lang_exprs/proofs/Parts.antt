-- Literals, formats and paths: what is said is read, and what is read is said.
use Rattle.std.proofs.Common.{◌≡◌, ℕ, suc, arith, ◌+◌, Bool, List, [], ◌∷◌, ◌++◌, length, Option, Some, None, refl, sym, ap, subst, ◌∙◌, append_assoc}
use Rattle.std.proofs.lemmas.List.{append-nil}
use Rattle.tdf_fixed.specs.declared.over.Over.{Over}
use Rattle.tdf_fixed.specs.declared.over.Over.TheVariants.{Wrap}
use Rattle.tdf_fixed.specs.declared.quant.Quant.{Quant}
use Rattle.tdf_fixed.specs.declared.quant.Quant.TheVariants.{Trn}
use Rattle.tdf_lang_lexer.specs.Token.{Tok, TName, TKey, TNumber, TTime, TSymbol, TWrong}
use Rattle.tdf_lang_lexer.specs.declared.key.Symbol.{Symbol}
use Rattle.tdf_lang_lexer.specs.declared.key.Symbol.TheVariants as symbol
use Rattle.tdf_lang_tree.specs.declared.names.Lit.{Lit}
use Rattle.tdf_lang_tree.specs.declared.shapes.FormatRef.{FormatRef}
use Rattle.tdf_lang_tree.specs.declared.shapes.FormatRef.TheVariants.{Own, Named}
use Rattle.tdf_lang_tree.specs.declared.shapes.Shape.{Shape}
use Rattle.tdf_base.specs.Digits.{int_of}
use Rattle.tdf_lang_exprs.specs.Formats.{sign_of, quant_of, over_of, SpellsModes, modes_none, modes_quant, modes_both, SpellsShape, shape, SpellsFormat, format_own, format_named, BeginsWithNoKey}
use Rattle.tdf_lang_exprs.specs.machine.Formats.{moded, modes_of, sized, shape_of, own_format, format_of, keys_first, format_len}
use Rattle.tdf_lang_exprs.specs.Literals.{plain_lit, minus_lit, SpellsLit, lit_plain, lit_minus, SpellsLits, lits_none, lits_more}
use Rattle.tdf_lang_exprs.specs.machine.Literals.{minus_of, lit_of, LitsReading, Ready, Signed, NoLits, ready, signed, lits_step, lits_end, lits_run, lits_of}
use Rattle.tdf_lang_exprs.specs.Paths.{SpellsPath, path_one, path_more}
use Rattle.tdf_lang_exprs.specs.machine.Paths.{PathReading, WantName, HaveName, NoPath, want_name, have_name, path_step, path_end, path_run, path_of}

-- literals
pub lit_reads : {ts : List Tok} {x : Lit} → SpellsLit ts x → lit_of ts ≡ Some x
lit_reads (lit_plain text) = refl
lit_reads (lit_minus text) = refl

minus_says : (c : Symbol) (text : List ℕ) (x : Lit) → minus_of c text ≡ Some x → SpellsLit (TSymbol c ∷ TNumber text ∷ []) x
minus_says symbol.Minus text x h = let e : minus_lit text ≡ x = cc in subst (SpellsLit _) e (lit_minus text)
minus_says _ text x h = absurd (cc)

pub lit_says : (ts : List Tok) (x : Lit) → lit_of ts ≡ Some x → SpellsLit ts x
lit_says (TNumber text ∷ []) x h = let e : plain_lit text ≡ x = cc in subst (SpellsLit _) e (lit_plain text)
lit_says (TSymbol c ∷ (TNumber text ∷ [])) x h = minus_says c text x h
lit_says _ x h = absurd (cc)

lits_reads : {ts : List Tok} {xs : List Lit} → SpellsLits ts xs → (before : List Lit) → lits_run (Ready before) ts ≡ Some (before ++ xs)
lits_reads lits_none before = ap Some (sym (append-nil before))
lits_reads (lits_more {ts = ts} {xs = xs} (lit_plain text) d) before =
    lits_reads d (before ++ plain_lit text ∷ []) ∙ ap Some (append_assoc before (plain_lit text ∷ []) xs)
lits_reads (lits_more {ts = ts} {xs = xs} (lit_minus text) d) before =
    lits_reads d (before ++ minus_lit text ∷ []) ∙ ap Some (append_assoc before (minus_lit text ∷ []) xs)

pub lits_of_reads : {ts : List Tok} {xs : List Lit} → SpellsLits ts xs → lits_of ts ≡ Some xs
unfolding lits_of
lits_of_reads d = lits_reads d []

-- one literal more at the end
lits_snoc : {ts a : List Tok} {xs : List Lit} {x : Lit} → SpellsLits ts xs → SpellsLit a x → SpellsLits (ts ++ a) (xs ++ x ∷ [])
lits_snoc {a = a} {x = y} lits_none e =
    let d : SpellsLits (a ++ []) (y ∷ []) = lits_more e lits_none in subst (λ u. SpellsLits u (y ∷ [])) (append-nil a) d
lits_snoc {a = a} {x = y} (lits_more {a = b} {ts = us} {x = x} {xs = xs} f d) e =
    subst (λ u. SpellsLits u (x ∷ (xs ++ y ∷ []))) (sym (append_assoc b us a)) (lits_more f (lits_snoc d e))

abbrev LitsKept : LitsReading → List Tok → Type 0
LitsKept (Ready xs) pre = SpellsLits pre xs
LitsKept (Signed xs) pre = (p : List Tok) × SpellsLits p xs × (pre ≡ p ++ TSymbol symbol.Minus ∷ [])
LitsKept NoLits pre = Unit {0}

ready_keeps : (t : Tok) (xs : List Lit) (pre : List Tok) → SpellsLits pre xs → LitsKept (ready t xs) (pre ++ t ∷ [])
ready_keeps (TNumber text) xs pre h = lits_snoc h (lit_plain text)
ready_keeps (TSymbol symbol.Minus) xs pre h = (pre, h, refl)
ready_keeps _ xs pre h = tt

signed_keeps : (t : Tok) (xs : List Lit) (pre : List Tok) → LitsKept (Signed xs) pre → LitsKept (signed t xs) (pre ++ t ∷ [])
signed_keeps (TNumber text) xs pre h =
    subst (λ u. SpellsLits u (xs ++ minus_lit text ∷ []))
    (sym (ap (λ u. u ++ TNumber text ∷ []) h.2 ∙ append_assoc h.0 (TSymbol symbol.Minus ∷ []) (TNumber text ∷ [])))
    (lits_snoc h.1 (lit_minus text))
signed_keeps _ xs pre h = tt

lits_keeps : (r : LitsReading) (t : Tok) (pre : List Tok) → LitsKept r pre → LitsKept (lits_step r t) (pre ++ t ∷ [])
lits_keeps (Ready xs) t pre h = ready_keeps t xs pre h
lits_keeps (Signed xs) t pre h = signed_keeps t xs pre h
lits_keeps NoLits t pre h = tt

lits_end_says : (r : LitsReading) (xs : List Lit) (pre : List Tok) → LitsKept r pre → lits_end r ≡ Some xs → SpellsLits pre xs
lits_end_says (Ready ys) xs pre h is = let e : ys ≡ xs = cc in subst (SpellsLits pre) e h
lits_end_says _ xs pre h is = absurd (cc)

lits_run_says : (ts : List Tok) (r : LitsReading) (xs : List Lit) (pre : List Tok) → LitsKept r pre → lits_run r ts ≡ Some xs → SpellsLits (pre ++ ts) xs
lits_run_says [] r xs pre h is = subst (λ u. SpellsLits u xs) (sym (append-nil pre)) (lits_end_says r xs pre h is)
lits_run_says (t ∷ ts) r xs pre h is =
    subst (λ u. SpellsLits u xs) (append_assoc pre (t ∷ []) ts) (lits_run_says ts (lits_step r t) xs (pre ++ t ∷ []) (lits_keeps r t pre h) is)

pub lits_says : (ts : List Tok) (xs : List Lit) → lits_of ts ≡ Some xs → SpellsLits ts xs
unfolding lits_of
lits_says ts xs is = lits_run_says ts (Ready []) xs [] lits_none is

-- paths
path_reads : {ts : List Tok} {names : List (List ℕ)} → SpellsPath ts names → (before : List (List ℕ)) → path_run (WantName before) ts ≡ Some (before ++ names)
path_reads (path_one name) before = refl
path_reads (path_more name {names = names} d) before = path_reads d (before ++ name ∷ []) ∙ ap Some (append_assoc before (name ∷ []) names)

pub path_of_reads : {ts : List Tok} {names : List (List ℕ)} → SpellsPath ts names → path_of ts ≡ Some names
unfolding path_of
path_of_reads d = path_reads d []

-- a path, and one after which a point stands
path_snoc : {ts : List Tok} {names : List (List ℕ)} (name : List ℕ) → SpellsPath ts names
    → SpellsPath (ts ++ TSymbol symbol.Point ∷ TName name ∷ []) (names ++ name ∷ [])
path_snoc name (path_one first) = path_more first (path_one name)
path_snoc name (path_more first d) = path_more first (path_snoc name d)

abbrev PathKept : PathReading → List Tok → Type 0
PathKept (WantName []) pre = pre ≡ []
PathKept (WantName (n ∷ names)) pre = (p : List Tok) × SpellsPath p (n ∷ names) × (pre ≡ p ++ TSymbol symbol.Point ∷ [])
PathKept (HaveName names) pre = SpellsPath pre names
PathKept NoPath pre = Unit {0}

want_keeps : (t : Tok) (names : List (List ℕ)) (pre : List Tok) → PathKept (WantName names) pre → PathKept (want_name t names) (pre ++ t ∷ [])
want_keeps (TName name) [] pre h = subst (λ u. SpellsPath (u ++ TName name ∷ []) (name ∷ [])) (sym h) (path_one name)
want_keeps (TName name) (n ∷ names) pre h =
    subst (λ u. SpellsPath u (n ∷ (names ++ name ∷ [])))
    (sym (ap (λ u. u ++ TName name ∷ []) h.2 ∙ append_assoc h.0 (TSymbol symbol.Point ∷ []) (TName name ∷ [])))
    (path_snoc name h.1)
want_keeps _ names pre h = tt

never_empty : {ts : List Tok} {names : List (List ℕ)} → SpellsPath ts names → names ≡ [] → ⊥
never_empty (path_one name) h = absurd (cc)
never_empty (path_more name d) h = absurd (cc)

point_keeps : (names : List (List ℕ)) (pre : List Tok) → SpellsPath pre names → PathKept (WantName names) (pre ++ TSymbol symbol.Point ∷ [])
point_keeps [] pre h = absurd (never_empty h refl)
point_keeps (n ∷ names) pre h = (pre, h, refl)

have_keeps : (t : Tok) (names : List (List ℕ)) (pre : List Tok) → SpellsPath pre names → PathKept (have_name t names) (pre ++ t ∷ [])
have_keeps (TSymbol symbol.Point) names pre h = point_keeps names pre h
have_keeps _ names pre h = tt

path_keeps : (r : PathReading) (t : Tok) (pre : List Tok) → PathKept r pre → PathKept (path_step r t) (pre ++ t ∷ [])
path_keeps (WantName names) t pre h = want_keeps t names pre h
path_keeps (HaveName names) t pre h = have_keeps t names pre h
path_keeps NoPath t pre h = tt

path_end_says : (r : PathReading) (names : List (List ℕ)) (pre : List Tok) → PathKept r pre → path_end r ≡ Some names → SpellsPath pre names
path_end_says (HaveName ys) names pre h is = let e : ys ≡ names = cc in subst (SpellsPath pre) e h
path_end_says _ names pre h is = absurd (cc)

path_run_says : (ts : List Tok) (r : PathReading) (names : List (List ℕ)) (pre : List Tok) → PathKept r pre → path_run r ts ≡ Some names → SpellsPath (pre ++ ts) names
path_run_says [] r names pre h is = subst (λ u. SpellsPath u names) (sym (append-nil pre)) (path_end_says r names pre h is)
path_run_says (t ∷ ts) r names pre h is =
    subst (λ u. SpellsPath u names) (append_assoc pre (t ∷ []) ts) (path_run_says ts (path_step r t) names (pre ++ t ∷ []) (path_keeps r t pre h) is)

pub path_says : (ts : List Tok) (names : List (List ℕ)) → path_of ts ≡ Some names → SpellsPath ts names
unfolding path_of
path_says ts names is = path_run_says ts (WantName []) names [] refl is

-- formats
moded_reads : (signed : Bool) (wl iwl : ℕ) (ts : List Tok) (quant : Quant) (over : Over) → SpellsModes ts quant over
    → modes_of signed wl iwl ts ≡ Some (record { signed = signed; wl = wl; iwl = iwl; quant = quant; over = over })
moded_reads signed wl iwl ts quant over d = go signed wl iwl d
  where
    go : (signed : Bool) (wl iwl : ℕ) {ts : List Tok} {quant : Quant} {over : Over} → SpellsModes ts quant over
        → modes_of signed wl iwl ts ≡ Some (record { signed = signed; wl = wl; iwl = iwl; quant = quant; over = over })
    go signed wl iwl modes_none = refl
    go signed wl iwl (modes_quant word q) = ap (λ o. moded signed wl iwl o (Some Wrap)) q
    go signed wl iwl (modes_both word last {quant = quant} q o) =
        ap (λ p. moded signed wl iwl p (over_of last)) q ∙ ap (λ p. moded signed wl iwl (Some quant) p) o

pub shape_reads : {ts : List Tok} {s : Shape} → SpellsShape ts s → shape_of ts ≡ Some s
shape_reads (shape word first second {signed = signed} {wl = wl} {iwl = iwl} {ts = ts} {quant = quant} {over = over} a b c d) =
    ap (λ o. sized o (int_of first) (int_of second) ts) a ∙ ap (λ o. sized (Some signed) o (int_of second) ts) b
    ∙ ap (λ o. sized (Some signed) (Some wl) o ts) c ∙ moded_reads signed wl iwl ts quant over d

pub format_reads : {ts : List Tok} {f : FormatRef} → SpellsFormat ts f → format_of ts ≡ Some f
format_reads (format_own (shape word first second a b c d)) = ap own_format (shape_reads (shape word first second a b c d))
format_reads (format_named name) = refl

moded_says : (signed : Bool) (wl iwl : ℕ) (quant : Option Quant) (over : Option Over) (s : Shape) → moded signed wl iwl quant over ≡ Some s
    → (q : Quant) × (o : Over) × (quant ≡ Some q) × (over ≡ Some o) × (s ≡ record { signed = signed; wl = wl; iwl = iwl; quant = q; over = o })
moded_says signed wl iwl (Some q) (Some o) s h =
    let e : record { signed = signed; wl = wl; iwl = iwl; quant = q; over = o } ≡ s = cc in (q, o, refl, refl, sym e)
moded_says signed wl iwl None over s h = absurd (cc)
moded_says signed wl iwl (Some q) None s h = absurd (cc)

modes_says : (signed : Bool) (wl iwl : ℕ) (ts : List Tok) (s : Shape) → modes_of signed wl iwl ts ≡ Some s
    → (q : Quant) × (o : Over) × SpellsModes ts q o × (s ≡ record { signed = signed; wl = wl; iwl = iwl; quant = q; over = o })
modes_says signed wl iwl [] s h =
    let e : record { signed = signed; wl = wl; iwl = iwl; quant = Trn; over = Wrap } ≡ s = cc in (Trn, Wrap, modes_none, sym e)
modes_says signed wl iwl (TKey word ∷ []) s h =
    let r = moded_says signed wl iwl (quant_of word) (Some Wrap) s h in
    let same : Wrap ≡ r.1 = let both : Some Wrap ≡ Some r.1 = r.3 in cc in
    (r.0, Wrap, modes_quant word r.2, r.4 ∙ ap (λ (o : Over). record { signed = signed; wl = wl; iwl = iwl; quant = r.0; over = o }) (sym same))
modes_says signed wl iwl (TKey word ∷ (TKey last ∷ [])) s h =
    let r = moded_says signed wl iwl (quant_of word) (over_of last) s h in
    (r.0, r.1, modes_both word last r.2 r.3, r.4)
modes_says signed wl iwl _ s h = absurd (cc)

sized_says : (signed : Option Bool) (wl iwl : Option ℕ) (ts : List Tok) (s : Shape) → sized signed wl iwl ts ≡ Some s
    → (g : Bool) × (m n : ℕ) × (q : Quant) × (o : Over) × (signed ≡ Some g) × (wl ≡ Some m) × (iwl ≡ Some n) × SpellsModes ts q o
    × (s ≡ record { signed = g; wl = m; iwl = n; quant = q; over = o })
sized_says (Some g) (Some m) (Some n) ts s h = let r = modes_says g m n ts s h in (g, m, n, r.0, r.1, refl, refl, refl, r.2, r.3)
sized_says None wl iwl ts s h = absurd (cc)
sized_says (Some g) None iwl ts s h = absurd (cc)
sized_says (Some g) (Some m) None ts s h = absurd (cc)

pub shape_says : (ts : List Tok) (s : Shape) → shape_of ts ≡ Some s → SpellsShape ts s
shape_says (TKey word ∷ (TNumber first ∷ (TNumber second ∷ ts))) s h =
    let r = sized_says (sign_of word) (int_of first) (int_of second) ts s h in
    subst (SpellsShape (TKey word ∷ TNumber first ∷ TNumber second ∷ ts)) (sym r.9) (shape word first second r.5 r.6 r.7 r.8)
shape_says _ s h = absurd (cc)

own_says : (ts : List Tok) (o : Option Shape) (f : FormatRef) → shape_of ts ≡ o → own_format o ≡ Some f → SpellsFormat ts f
own_says ts (Some s) f is h = let e : Own s ≡ f = cc in subst (SpellsFormat ts) e (format_own (shape_says ts s is))
own_says ts None f is h = absurd (cc)

pub format_says : (ts : List Tok) (f : FormatRef) → format_of ts ≡ Some f → SpellsFormat ts f
format_says (TName name ∷ []) f h = let e : Named name ≡ f = cc in subst (SpellsFormat _) e (format_named name)
format_says ts f h = own_says ts (shape_of ts) f refl h

-- a format that stands before what begins with no reserved word ends where `format_len` says
keys_end : {ts : List Tok} {q : Quant} {o : Over} → SpellsModes ts q o → (rest : List Tok) → BeginsWithNoKey rest → keys_first (ts ++ rest) ≡ length ts
keys_end modes_none [] h = refl
keys_end modes_none (TName n ∷ rest) h = refl
keys_end modes_none (TKey n ∷ rest) h = absurd h
keys_end modes_none (TNumber n ∷ rest) h = refl
keys_end modes_none (TTime n ∷ rest) h = refl
keys_end modes_none (TSymbol n ∷ rest) h = refl
keys_end modes_none (TWrong ∷ rest) h = refl
keys_end (modes_quant word d) [] h = refl
keys_end (modes_quant word d) (TName n ∷ rest) h = refl
keys_end (modes_quant word d) (TKey n ∷ rest) h = absurd h
keys_end (modes_quant word d) (TNumber n ∷ rest) h = refl
keys_end (modes_quant word d) (TTime n ∷ rest) h = refl
keys_end (modes_quant word d) (TSymbol n ∷ rest) h = refl
keys_end (modes_quant word d) (TWrong ∷ rest) h = refl
keys_end (modes_both word last d e) rest h = refl

pub format_ends : {ts : List Tok} {f : FormatRef} → SpellsFormat ts f → (rest : List Tok) → BeginsWithNoKey rest → format_len (ts ++ rest) ≡ length ts
format_ends (format_named name) rest h = refl
format_ends (format_own (shape word first second {ts = ts} a b c d)) rest h =
    let three : 3 + length ts ≡ suc (suc (suc (length ts))) = omega arith in ap (λ n. 3 + n) (keys_end d rest h) ∙ three
