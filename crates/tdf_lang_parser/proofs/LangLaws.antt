-- The laws of the language: of the rows that open a text and those after them.
use Rattle.std.proofs.Common.{◌≡◌, ℕ, List, [], ◌∷◌, map, Option, Some, None, refl, sym, ap, subst, ◌∙◌, ◌⊎◌, inl, inr}
use Rattle.tdf_base.specs.declared.version.Version.{Version}
use Rattle.tdf_base.specs.declared.version.Version.TheVariants.{V3}
use Rattle.tdf_base.specs.declared.resolution.Resolution.{Resolution}
use Rattle.tdf_base.specs.declared.resolution.Resolution.TheVariants.{Ps}
use Rattle.tdf_lang_parser.proofs.FaultLaws.{lost, no_fault, one_fault, tree_or_fault}
use Rattle.tdf_lang_parser.proofs.HeadLaws.{no_resolution_says, no_version_says, one_resolution, one_version, resolution_read, version_says}
use Rattle.tdf_lang_parser.proofs.SpellReads.{model_reads}
use Rattle.tdf_lang_parser.specs.Faults.{AtGlobals, AtTraces, Faults, HasFault, HasNoResolution, HasNoVersion, no_row, no_version, after_version, after_resolution}
use Rattle.tdf_lang_parser.specs.Head.{SpellsVersion, SpellsResolution, resolution_ps, resolution_fs, head_version, head_resolution}
use Rattle.tdf_lang_parser.specs.Laws.{OneTree, NoFault, TreeOrFault, OneFault}
use Rattle.tdf_lang_parser.specs.SpellsTree.{SpellsModel, SpellsTree, whole_text}
use Rattle.tdf_lang_parser.specs.machine.Heads.{read_version, resolution_line}
use Rattle.tdf_lang_parser.specs.machine.Places.{Place, PGlobals, PLost, PTraces, outset, reads_row, reads_rows, where_of}
use Rattle.tdf_lang_lexer.specs.Dialect.{token_of, token_line, token_lines}
use Rattle.tdf_lang_lexer.specs.Rows.{Row}
use Rattle.tdf_lang_lexer.specs.Token.{Tok, TWrong, TokenLine}
use Rattle.tdf_lang_lexer.specs.declared.dialect.Dialect.{Dialect}
use Rattle.tdf_lang_lines.specs.machine.Reads.{form_of}
use Rattle.tdf_lang_tree.specs.Pure.{PureTree}

-- version 3 at a resolution, and a version at 1 ps
abbrev third : Resolution → Dialect
third s = record { version = V3; resolution = s }

abbrev plain_dialect : Version → Dialect
plain_dialect v = record { version = v; resolution = Ps }

-- rows that spell a tree, by those that open them
record Plain (rows : List Row) (t : PureTree) : Type 0 where
  h : Row
  rest : List Row
  v : Version
  is : rows ≡ h ∷ rest
  version : SpellsVersion h.pieces v
  model : SpellsModel (plain_dialect v) (token_lines (plain_dialect v) rest) t

record Resolved (rows : List Row) (t : PureTree) : Type 0 where
  h : Row
  r : Row
  rest : List Row
  s : Resolution
  is : rows ≡ h ∷ r ∷ rest
  version : SpellsVersion h.pieces V3
  resolution : SpellsResolution r.pieces s
  model : SpellsModel (third s) (token_lines (third s) rest) t

opened : {rows : List Row} {t : PureTree} → SpellsTree rows t → Plain rows t ⊎ Resolved rows t
opened (whole_text b (head_version h {version = v} d) e) = inl (record { h = h; rest = b; v = v; is = refl; version = d; model = e })
opened (whole_text b (head_resolution h r {resolution = s} d f) e) = inr (record { h = h; r = r; rest = b; s = s; is = refl; version = d; resolution = f; model = e })

-- rows with a fault, by those that open them
data Faulted (rows : List Row) (after n : ℕ) : Type 0 where
  at_nothing : rows ≡ [] → n ≡ after → Faulted rows after n
  at_start : (h : Row) (rest : List Row) → rows ≡ h ∷ rest → HasNoVersion h → n ≡ h.number → Faulted rows after n
  in_plain : (h : Row) (rest : List Row) (v : Version) → rows ≡ h ∷ rest → SpellsVersion h.pieces v → HasNoResolution v rest
      → Faults (plain_dialect v) AtGlobals (token_lines (plain_dialect v) rest) after n → Faulted rows after n
  in_third : (h r : Row) (rest : List Row) (s : Resolution) → rows ≡ h ∷ r ∷ rest → SpellsVersion h.pieces V3 → SpellsResolution r.pieces s
      → Faults (third s) AtGlobals (token_lines (third s) rest) after n → Faulted rows after n

faulted : {rows : List Row} {after n : ℕ} → HasFault rows after n → Faulted rows after n
faulted no_row = at_nothing refl refl
faulted (no_version h {rs = rs} d) = at_start h rs refl d refl
faulted (after_version h {rs = rs} {version = v} d f e) = in_plain h rs v refl d f e
faulted (after_resolution h r {rs = rs} {resolution = s} d f e) = in_third h r rs s refl d f e

-- in version 3 a resolution line elsewhere than after the first row is lost
wrong_first : {pieces : List (List ℕ)} {s : Resolution} → SpellsResolution pieces s → (q : Resolution)
    → (rest : List Tok) × (map (token_of (third q)) pieces ≡ TWrong ∷ rest)
unfolding token_of
wrong_first resolution_ps q = (_, refl)
wrong_first resolution_fs q = (_, refl)

lost_row : (r : Row) (s q : Resolution) (p : Place) → SpellsResolution r.pieces s → reads_row (third q) p (token_line (third q) r) ≡ PLost
unfolding reads_row form_of
lost_row r s q p d = let w = wrong_first d q in rw w.1 refl

lost_rows : (r : Row) (rest : List Row) (s q : Resolution) (t : PureTree) → SpellsResolution r.pieces s
    → SpellsModel (third q) (token_lines (third q) (r ∷ rest)) t → ⊥
unfolding reads_rows
lost_rows r rest s q t d m =
    let none : where_of (reads_row (third q) (PGlobals (outset (third q))) (token_line (third q) r)) ≡ None = ap where_of (lost_row r s q (PGlobals (outset (third q))) d) in
    let gone : where_of (reads_rows (third q) (reads_row (third q) (PGlobals (outset (third q))) (token_line (third q) r)) (token_lines (third q) rest)) ≡ None
    = lost (third q) (token_lines (third q) rest) (reads_row (third q) (PGlobals (outset (third q))) (token_line (third q) r)) none in
    let read : where_of (reads_rows (third q) (reads_row (third q) (PGlobals (outset (third q))) (token_line (third q) r)) (token_lines (third q) rest)) ≡ Some AtTraces
    = ap where_of (model_reads (third q) m) in
    let clash : Some AtTraces ≡ None = sym read ∙ gone in
    absurd cc

plain_at : (rows : List Row) (t : PureTree) (k : Plain rows t) (h : Row) (rest : List Row) (v : Version) → rows ≡ h ∷ rest → SpellsVersion h.pieces v
    → SpellsModel (plain_dialect v) (token_lines (plain_dialect v) rest) t
plain_at rows t k h rest v is d =
    let e : k.h ≡ h = cc in
    let f : k.rest ≡ rest = cc in
    let g : k.v ≡ v = one_version (subst (λ (x : Row). SpellsVersion x.pieces k.v) e k.version) d in
    subst (λ (w : Version). SpellsModel (plain_dialect w) (token_lines (plain_dialect w) rest) t) g
    (subst (λ (rs : List Row). SpellsModel (plain_dialect k.v) (token_lines (plain_dialect k.v) rs) t) f k.model)

third_at : (rows : List Row) (t : PureTree) (k : Resolved rows t) (h r : Row) (rest : List Row) (s : Resolution) → rows ≡ h ∷ r ∷ rest → SpellsResolution r.pieces s
    → SpellsModel (third s) (token_lines (third s) rest) t
third_at rows t k h r rest s is d =
    let e : k.r ≡ r = cc in
    let f : k.rest ≡ rest = cc in
    let g : k.s ≡ s = one_resolution (subst (λ (x : Row). SpellsResolution x.pieces k.s) e k.resolution) d in
    subst (λ (w : Resolution). SpellsModel (third w) (token_lines (third w) rest) t) g
    (subst (λ (rs : List Row). SpellsModel (third k.s) (token_lines (third k.s) rs) t) f k.model)

-- a resolution line that version 3 has is not read as a line of the model
not_plain : (rows : List Row) (t : PureTree) → Plain rows t → (h r : Row) (rest : List Row) (s : Resolution) → rows ≡ h ∷ r ∷ rest → SpellsVersion h.pieces V3 → SpellsResolution r.pieces s → ⊥
not_plain rows t k h r rest s is d e = lost_rows r rest s Ps t e (plain_at rows t k h (r ∷ rest) V3 is d)

one_model : (lang : Dialect) (lines : List TokenLine) (x y : PureTree) → SpellsModel lang lines x → SpellsModel lang lines y → x ≡ y
one_model lang lines x y d e = let q : PTraces x ≡ PTraces y = sym (model_reads lang d) ∙ model_reads lang e in cc

one_by : (rows : List Row) (x y : PureTree) → Plain rows x ⊎ Resolved rows x → Plain rows y ⊎ Resolved rows y → x ≡ y
one_by rows x y (inl a) (inl b) = one_model (plain_dialect a.v) (token_lines (plain_dialect a.v) a.rest) x y a.model (plain_at rows y b a.h a.rest a.v a.is a.version)
one_by rows x y (inl a) (inr b) = absurd (not_plain rows x a b.h b.r b.rest b.s b.is b.version b.resolution)
one_by rows x y (inr a) (inl b) = absurd (not_plain rows y b a.h a.r a.rest a.s a.is a.version a.resolution)
one_by rows x y (inr a) (inr b) = one_model (third a.s) (token_lines (third a.s) a.rest) x y a.model (third_at rows y b a.h a.r a.rest a.s a.is a.resolution)

pub one_tree : OneTree
one_tree rows x y d e = one_by rows x y (opened d) (opened e)

-- rows with no resolution line where one is
no_resolution : (v : Version) (rest others : List Row) (r : Row) (s : Resolution) → HasNoResolution v rest → rest ≡ r ∷ others → v ≡ V3 → SpellsResolution r.pieces s → ⊥
no_resolution v rest others r s none is e d = (subst (HasNoResolution v) is none) s e d

fault_clash : (rows : List Row) (t : PureTree) (after n : ℕ) → Plain rows t ⊎ Resolved rows t → Faulted rows after n → ⊥
fault_clash rows t after n (inl a) (at_nothing e f) = let q : [] ≡ a.h ∷ a.rest = sym e ∙ a.is in absurd cc
fault_clash rows t after n (inr a) (at_nothing e f) = let q : [] ≡ a.h ∷ a.r ∷ a.rest = sym e ∙ a.is in absurd cc
fault_clash rows t after n (inl a) (at_start h rest e none f) = let q : a.h ≡ h = cc in none a.v (subst (λ (x : Row). SpellsVersion x.pieces a.v) q a.version)
fault_clash rows t after n (inr a) (at_start h rest e none f) = let q : a.h ≡ h = cc in none V3 (subst (λ (x : Row). SpellsVersion x.pieces V3) q a.version)
fault_clash rows t after n (inl a) (in_plain h rest v e d none f) = no_fault (plain_dialect v) (token_lines (plain_dialect v) rest) t after n (plain_at rows t a h rest v e d) f
fault_clash rows t after n (inl a) (in_third h r rest s e d g f) = not_plain rows t a h r rest s e d g
fault_clash rows t after n (inr a) (in_plain h rest v e d none f) =
    let q : a.h ≡ h = cc in
    let p : rest ≡ a.r ∷ a.rest = cc in
    let w : v ≡ V3 = one_version d (subst (λ (x : Row). SpellsVersion x.pieces V3) q a.version) in
    no_resolution v rest a.rest a.r a.s none p w a.resolution
fault_clash rows t after n (inr a) (in_third h r rest s e d g f) = no_fault (third s) (token_lines (third s) rest) t after n (third_at rows t a h r rest s e g) f

pub never_both : NoFault
never_both rows x after n d f = fault_clash rows x after n (opened d) (faulted f)

-- a tree or a fault
of_plain : (h : Row) (rest : List Row) (v : Version) (after : ℕ) → SpellsVersion h.pieces v → HasNoResolution v rest → ((x : PureTree) × SpellsTree (h ∷ rest) x) ⊎ ((n : ℕ) × HasFault (h ∷ rest) after n)
of_plain h rest v after d none = elim (tree_or_fault (plain_dialect v) (token_lines (plain_dialect v) rest) after) [
  | inl m ↦ inl (m.0, whole_text _ (head_version h d) m.1)
  | inr f ↦ inr (f.0, after_version h d none f.1)
]

of_third : (h r : Row) (rest : List Row) (s : Resolution) (after : ℕ) → SpellsVersion h.pieces V3 → SpellsResolution r.pieces s
    → ((x : PureTree) × SpellsTree (h ∷ r ∷ rest) x) ⊎ ((n : ℕ) × HasFault (h ∷ r ∷ rest) after n)
of_third h r rest s after d e = elim (tree_or_fault (third s) (token_lines (third s) rest) after) [
  | inl m ↦ inl (m.0, whole_text _ (head_resolution h r d e) m.1)
  | inr f ↦ inr (f.0, after_resolution h r d e f.1)
]

of_version : (h : Row) (rest : List Row) (v : Version) (after : ℕ) → SpellsVersion h.pieces v → (o : Option Resolution) → resolution_line v rest ≡ o
    → ((x : PureTree) × SpellsTree (h ∷ rest) x) ⊎ ((n : ℕ) × HasFault (h ∷ rest) after n)
of_version h rest v after d None e = of_plain h rest v after d (no_resolution_says v rest e)
of_version h rest v after d (Some s) e =
    let k = resolution_read v rest s e in
    subst (λ (rs : List Row). ((x : PureTree) × SpellsTree (h ∷ rs) x) ⊎ ((n : ℕ) × HasFault (h ∷ rs) after n)) (sym k.is)
    (of_third h k.h k.rest s after (subst (SpellsVersion h.pieces) k.version d) k.spelled)

of_first : (h : Row) (rest : List Row) (after : ℕ) → (o : Option Version) → read_version h.pieces ≡ o → ((x : PureTree) × SpellsTree (h ∷ rest) x) ⊎ ((n : ℕ) × HasFault (h ∷ rest) after n)
of_first h rest after None e = inr (h.number, no_version h (no_version_says h e))
of_first h rest after (Some v) e = of_version h rest v after (version_says h.pieces v e) (resolution_line v rest) refl

pub one_of_both : TreeOrFault
one_of_both [] after = inr (after, no_row)
one_of_both (h ∷ rest) after = of_first h rest after (read_version h.pieces) refl

-- one fault at most
faults_agree : (rows : List Row) (after m n : ℕ) → Faulted rows after m → Faulted rows after n → m ≡ n
faults_agree rows after m n (at_nothing e f) (at_nothing g k) = f ∙ sym k
faults_agree rows after m n (at_nothing e f) (at_start h rest g none k) = let q : [] ≡ h ∷ rest = sym e ∙ g in absurd cc
faults_agree rows after m n (at_nothing e f) (in_plain h rest v g d none k) = let q : [] ≡ h ∷ rest = sym e ∙ g in absurd cc
faults_agree rows after m n (at_nothing e f) (in_third h r rest s g d i k) = let q : [] ≡ h ∷ r ∷ rest = sym e ∙ g in absurd cc
faults_agree rows after m n (at_start h rest e none f) (at_nothing g k) = let q : [] ≡ h ∷ rest = sym g ∙ e in absurd cc
faults_agree rows after m n (at_start h rest e none f) (at_start i others g nov k) = let q : h ≡ i = cc in f ∙ ap (λ (x : Row). x.number) q ∙ sym k
faults_agree rows after m n (at_start h rest e none f) (in_plain i others v g d nov k) = let q : i ≡ h = cc in absurd (none v (subst (λ (x : Row). SpellsVersion x.pieces v) q d))
faults_agree rows after m n (at_start h rest e none f) (in_third i r others s g d j k) = let q : i ≡ h = cc in absurd (none V3 (subst (λ (x : Row). SpellsVersion x.pieces V3) q d))
faults_agree rows after m n (in_plain h rest v e d none f) (at_nothing g k) = let q : [] ≡ h ∷ rest = sym g ∙ e in absurd cc
faults_agree rows after m n (in_plain h rest v e d none f) (at_start i others g nov k) = let q : h ≡ i = cc in absurd (nov v (subst (λ (x : Row). SpellsVersion x.pieces v) q d))
faults_agree rows after m n (in_plain h rest v e d none f) (in_plain i others w g c nov k) =
    let q : i ≡ h = cc in
    let p : others ≡ rest = cc in
    let u : w ≡ v = one_version (subst (λ (x : Row). SpellsVersion x.pieces w) q c) d in
    let k1 : Faults (plain_dialect w) AtGlobals (token_lines (plain_dialect w) rest) after n = subst (λ (rs : List Row). Faults (plain_dialect w) AtGlobals (token_lines (plain_dialect w) rs) after n) p k in
    let k2 : Faults (plain_dialect v) AtGlobals (token_lines (plain_dialect v) rest) after n = subst (λ (x : Version). Faults (plain_dialect x) AtGlobals (token_lines (plain_dialect x) rest) after n) u k1 in
    one_fault (plain_dialect v) (token_lines (plain_dialect v) rest) AtGlobals after m n f k2
faults_agree rows after m n (in_plain h rest v e d none f) (in_third i r others s g c j k) =
    let q : i ≡ h = cc in
    let p : rest ≡ r ∷ others = cc in
    let w : v ≡ V3 = one_version d (subst (λ (x : Row). SpellsVersion x.pieces V3) q c) in
    absurd (no_resolution v rest others r s none p w j)
faults_agree rows after m n (in_third h r rest s e d j f) (at_nothing g k) = let q : [] ≡ h ∷ r ∷ rest = sym g ∙ e in absurd cc
faults_agree rows after m n (in_third h r rest s e d j f) (at_start i others g nov k) = let q : h ≡ i = cc in absurd (nov V3 (subst (λ (x : Row). SpellsVersion x.pieces V3) q d))
faults_agree rows after m n (in_third h r rest s e d j f) (in_plain i others v g c nov k) =
    let q : h ≡ i = cc in
    let p : others ≡ r ∷ rest = cc in
    let w : v ≡ V3 = one_version c (subst (λ (x : Row). SpellsVersion x.pieces V3) q d) in
    absurd (no_resolution v others rest r s nov p w j)
faults_agree rows after m n (in_third h r rest s e d j f) (in_third i l others u g c b k) =
    let q : l ≡ r = cc in
    let p : others ≡ rest = cc in
    let z : u ≡ s = one_resolution (subst (λ (x : Row). SpellsResolution x.pieces u) q b) j in
    let k1 : Faults (third u) AtGlobals (token_lines (third u) rest) after n = subst (λ (rs : List Row). Faults (third u) AtGlobals (token_lines (third u) rs) after n) p k in
    let k2 : Faults (third s) AtGlobals (token_lines (third s) rest) after n = subst (λ (x : Resolution). Faults (third x) AtGlobals (token_lines (third x) rest) after n) z k1 in
    one_fault (third s) (token_lines (third s) rest) AtGlobals after m n f k2

pub one_line_at_fault : OneFault
one_line_at_fault rows after m n f g = faults_agree rows after m n (faulted f) (faulted g)
