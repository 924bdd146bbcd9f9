-- The rows that open a text are read exactly where they are spelled so, and what is read of the rows after them is read of the whole text.
use Rattle.std.proofs.Common.{◌≡◌, ℕ, Bool, true, false, nat_eq, List, [], ◌∷◌, Some, None, Result, Ok, Err, if◌then◌else◌, refl, sym, ap, subst, ◌∙◌, codes}
use Rattle.std.specs.Cmp.Lexicographic.{pointwise}
use Rattle.tdf_base.specs.Version.{has_resolution}
use Rattle.tdf_base.specs.declared.resolution.Resolution.{Resolution}
use Rattle.tdf_base.specs.declared.resolution.Resolution.TheVariants.{Ps, Fs}
use Rattle.tdf_base.specs.declared.version.Version.{Version}
use Rattle.tdf_base.specs.declared.version.Version.TheVariants.{V1, V2, V3}
use Rattle.tdf_lang_parser.specs.Faults.{HasNoResolution, HasNoVersion, after_version, after_resolution}
use Rattle.tdf_lang_parser.specs.Head.{SpellsVersion, language_1, language_2, language_3, SpellsResolution, resolution_ps, resolution_fs, head_version, head_resolution}
use Rattle.tdf_lang_parser.specs.SpellsTree.{whole_text}
use Rattle.tdf_lang_parser.specs.declared.err.LangErr.{LangErr}
use Rattle.tdf_lang_parser.specs.declared.err.LangErr.TheVariants as why
use Rattle.tdf_lang_parser.specs.machine.Heads.{read_version, read_resolution, first_resolution, resolution_line}
use Rattle.tdf_lang_parser.specs.machine.Walks.{IsRead, IsModelRead}
use Rattle.tdf_lang_lexer.proofs.Api.{same_text}
use Rattle.tdf_lang_lexer.specs.Dialect.{token_lines}
use Rattle.tdf_lang_lexer.specs.Rows.{Row}
use Rattle.tdf_lang_tree.specs.declared.tree.Tree.{Tree}

-- what is spelled is read
version_is : {pieces : List (List ℕ)} {v : Version} → SpellsVersion pieces v → read_version pieces ≡ Some v
version_is language_1 = refl
version_is language_2 = refl
version_is language_3 = refl

resolution_is : {pieces : List (List ℕ)} {r : Resolution} → SpellsResolution pieces r → read_resolution pieces ≡ Some r
resolution_is resolution_ps = refl
resolution_is resolution_fs = refl

-- what is read is spelled
version_by : (word piece : List ℕ) (v : Version) (a b c d : Bool) → pointwise nat_eq word (codes "language") ≡ a → pointwise nat_eq piece (codes "1") ≡ b → pointwise nat_eq piece (codes "2") ≡ c
    → pointwise nat_eq piece (codes "3") ≡ d → (if a then (if b then Some V1 else if c then Some V2 else if d then Some V3 else None) else None) ≡ Some v → SpellsVersion (word ∷ piece ∷ []) v
version_by word piece v false b c d e f g h k = absurd cc
version_by word piece v true true c d e f g h k =
    let q : V1 ≡ v = cc in
    subst (λ (n : Version). SpellsVersion (word ∷ piece ∷ []) n) q (subst (λ (t : List ℕ). SpellsVersion (t ∷ piece ∷ []) V1) (sym (same_text word (codes "language") e))
    (subst (λ (t : List ℕ). SpellsVersion (codes "language" ∷ t ∷ []) V1) (sym (same_text piece (codes "1") f)) language_1))
version_by word piece v true false true d e f g h k =
    let q : V2 ≡ v = cc in
    subst (λ (n : Version). SpellsVersion (word ∷ piece ∷ []) n) q (subst (λ (t : List ℕ). SpellsVersion (t ∷ piece ∷ []) V2) (sym (same_text word (codes "language") e))
    (subst (λ (t : List ℕ). SpellsVersion (codes "language" ∷ t ∷ []) V2) (sym (same_text piece (codes "2") g)) language_2))
version_by word piece v true false false true e f g h k =
    let q : V3 ≡ v = cc in
    subst (λ (n : Version). SpellsVersion (word ∷ piece ∷ []) n) q (subst (λ (t : List ℕ). SpellsVersion (t ∷ piece ∷ []) V3) (sym (same_text word (codes "language") e))
    (subst (λ (t : List ℕ). SpellsVersion (codes "language" ∷ t ∷ []) V3) (sym (same_text piece (codes "3") h)) language_3))
version_by word piece v true false false false e f g h k = absurd cc

pub version_says : (pieces : List (List ℕ)) (v : Version) → read_version pieces ≡ Some v → SpellsVersion pieces v
version_says (word ∷ (piece ∷ [])) v h = version_by word piece v _ _ _ _ refl refl refl refl h
version_says _ v h = absurd cc

resolution_by : (word piece : List ℕ) (r : Resolution) (a b c : Bool) → pointwise nat_eq word (codes "resolution") ≡ a → pointwise nat_eq piece (codes "1ps") ≡ b → pointwise nat_eq piece (codes "1fs") ≡ c
    → (if a then (if b then Some Ps else if c then Some Fs else None) else None) ≡ Some r → SpellsResolution (word ∷ piece ∷ []) r
resolution_by word piece r false b c e f g k = absurd cc
resolution_by word piece r true true c e f g k =
    let q : Ps ≡ r = cc in
    subst (λ (n : Resolution). SpellsResolution (word ∷ piece ∷ []) n) q (subst (λ (t : List ℕ). SpellsResolution (t ∷ piece ∷ []) Ps) (sym (same_text word (codes "resolution") e))
    (subst (λ (t : List ℕ). SpellsResolution (codes "resolution" ∷ t ∷ []) Ps) (sym (same_text piece (codes "1ps") f)) resolution_ps))
resolution_by word piece r true false true e f g k =
    let q : Fs ≡ r = cc in
    subst (λ (n : Resolution). SpellsResolution (word ∷ piece ∷ []) n) q (subst (λ (t : List ℕ). SpellsResolution (t ∷ piece ∷ []) Fs) (sym (same_text word (codes "resolution") e))
    (subst (λ (t : List ℕ). SpellsResolution (codes "resolution" ∷ t ∷ []) Fs) (sym (same_text piece (codes "1fs") g)) resolution_fs))
resolution_by word piece r true false false e f g k = absurd cc

pub resolution_says : (pieces : List (List ℕ)) (r : Resolution) → read_resolution pieces ≡ Some r → SpellsResolution pieces r
resolution_says (word ∷ (piece ∷ [])) r h = resolution_by word piece r _ _ _ refl refl refl h
resolution_says _ r h = absurd cc

-- no version is read exactly where none is spelled
pub no_version_says : (h : Row) → read_version h.pieces ≡ None → HasNoVersion h
no_version_says h e = λ v d. let q : Some v ≡ None = sym (version_is d) ∙ e in absurd cc

-- one version
pub one_version : {pieces : List (List ℕ)} {v w : Version} → SpellsVersion pieces v → SpellsVersion pieces w → v ≡ w
one_version {v = v} {w = w} d e = let q : Some v ≡ Some w = sym (version_is d) ∙ version_is e in cc

pub one_resolution : {pieces : List (List ℕ)} {r s : Resolution} → SpellsResolution pieces r → SpellsResolution pieces s → r ≡ s
one_resolution {r = r} {s = s} d e = let q : Some r ≡ Some s = sym (resolution_is d) ∙ resolution_is e in cc

-- version 3 alone has a resolution
only_third : (v : Version) → has_resolution v ≡ true → v ≡ V3
only_third V1 h = absurd cc
only_third V2 h = absurd cc
only_third V3 h = refl

-- the second row
resolution_line_by : (v : Version) (rows : List Row) (b : Bool) → has_resolution v ≡ b → (if b then first_resolution rows else None) ≡ None → HasNoResolution v rows
resolution_line_by v [] b e h = tt
resolution_line_by v (r ∷ rs) true e h = λ s q d. let k : Some s ≡ None = sym (resolution_is d) ∙ h in absurd cc
resolution_line_by v (r ∷ rs) false e h = λ s q d. let k : true ≡ false = sym (ap has_resolution q) ∙ e in absurd cc

pub no_resolution_says : (v : Version) (rows : List Row) → resolution_line v rows ≡ None → HasNoResolution v rows
no_resolution_says v rows h = resolution_line_by v rows (has_resolution v) refl h

pub record HasResolution (v : Version) (rows : List Row) (resolution : Resolution) : Type 0 where
  pub h : Row
  pub rest : List Row
  pub is : rows ≡ h ∷ rest
  pub version : v ≡ V3
  pub spelled : SpellsResolution h.pieces resolution

resolution_read_by : (v : Version) (rows : List Row) (s : Resolution) (b : Bool) → has_resolution v ≡ b → (if b then first_resolution rows else None) ≡ Some s → HasResolution v rows s
resolution_read_by v [] s true e h = absurd cc
resolution_read_by v [] s false e h = absurd cc
resolution_read_by v (r ∷ rs) s true e h = record { h = r; rest = rs; is = refl; version = only_third v e; spelled = resolution_says r.pieces s h }
resolution_read_by v (r ∷ rs) s false e h = absurd cc

pub resolution_read : (v : Version) (rows : List Row) (s : Resolution) → resolution_line v rows ≡ Some s → HasResolution v rows s
resolution_read v rows s h = resolution_read_by v rows s (has_resolution v) refl h

-- what is read of the rows after those that open the text
pub read_after_version : (h : Row) (rows : List Row) (v : Version) (r : Result Tree LangErr) (after : ℕ) → SpellsVersion h.pieces v → HasNoResolution v rows
    → IsModelRead r (record { version = v; resolution = Ps }) (token_lines (record { version = v; resolution = Ps }) rows) after → IsRead r (h ∷ rows) after
read_after_version h rows v (Ok t) after d n e = whole_text _ (head_version h d) e
read_after_version h rows v (Err (why.Syntax line)) after d n e = after_version h d n e
read_after_version h rows v (Err why.Memory) after d n e = tt
read_after_version h rows v (Err (why.Byte line)) after d n e = absurd e
read_after_version h rows v (Err (why.LongLine line)) after d n e = absurd e

read_by_resolution : (h r : Row) (rows : List Row) (s : Resolution) (a : Result Tree LangErr) (after : ℕ) → SpellsVersion h.pieces V3 → SpellsResolution r.pieces s
    → IsModelRead a (record { version = V3; resolution = s }) (token_lines (record { version = V3; resolution = s }) rows) after → IsRead a (h ∷ r ∷ rows) after
read_by_resolution h r rows s (Ok t) after d n e = whole_text _ (head_resolution h r d n) e
read_by_resolution h r rows s (Err (why.Syntax line)) after d n e = after_resolution h r d n e
read_by_resolution h r rows s (Err why.Memory) after d n e = tt
read_by_resolution h r rows s (Err (why.Byte line)) after d n e = absurd e
read_by_resolution h r rows s (Err (why.LongLine line)) after d n e = absurd e

pub read_after_resolution : (h r : Row) (rows : List Row) (v : Version) (s : Resolution) (a : Result Tree LangErr) (after : ℕ) → SpellsVersion h.pieces v → resolution_line v (r ∷ rows) ≡ Some s
    → IsModelRead a (record { version = v; resolution = s }) (token_lines (record { version = v; resolution = s }) rows) after → IsRead a (h ∷ r ∷ rows) after
read_after_resolution h r rows v s a after d n e =
    let k = resolution_read v (r ∷ rows) s n in
    let same : r ≡ k.h = cc in
    let e3 : IsModelRead a (record { version = V3; resolution = s }) (token_lines (record { version = V3; resolution = s }) rows) after
    = subst (λ (w : Version). IsModelRead a (record { version = w; resolution = s }) (token_lines (record { version = w; resolution = s }) rows) after) k.version e in
    read_by_resolution h r rows s a after (subst (SpellsVersion h.pieces) k.version d) (subst (λ (x : Row). SpellsResolution x.pieces s) (sym same) k.spelled) e3
