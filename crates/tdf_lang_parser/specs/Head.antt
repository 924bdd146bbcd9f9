-- The rows that open a text (own): they are read by their pieces, and say in which dialect the others are read.
use Rattle.std.specs.Prelude.{ℕ, List, [], ◌∷◌, codes}
use Rattle.tdf_base.specs.declared.resolution.Resolution.{Resolution}
use Rattle.tdf_base.specs.declared.resolution.Resolution.TheVariants.{Ps, Fs}
use Rattle.tdf_base.specs.declared.version.Version.{Version}
use Rattle.tdf_base.specs.declared.version.Version.TheVariants.{V1, V2, V3}
use Rattle.tdf_lang_lexer.specs.Rows.{Row}
use Rattle.tdf_lang_lexer.specs.declared.dialect.Dialect.{Dialect}

-- `language 1`, `language 2` or `language 3`, spelled just so
pub data SpellsVersion : List (List ℕ) → Version → Type 0 where
  language_1 : SpellsVersion (codes "language" ∷ codes "1" ∷ []) V1
  language_2 : SpellsVersion (codes "language" ∷ codes "2" ∷ []) V2
  language_3 : SpellsVersion (codes "language" ∷ codes "3" ∷ []) V3

-- `resolution 1ps` or `resolution 1fs`, spelled just so
pub data SpellsResolution : List (List ℕ) → Resolution → Type 0 where
  resolution_ps : SpellsResolution (codes "resolution" ∷ codes "1ps" ∷ []) Ps
  resolution_fs : SpellsResolution (codes "resolution" ∷ codes "1fs" ∷ []) Fs

-- the first row is the version; in version 3 a second may be the resolution, which is 1 ps without it
pub data SpellsHead : List Row → Dialect → Type 0 where
  head_version : (h : Row) {version : Version} → SpellsVersion h.pieces version → SpellsHead (h ∷ []) (record { version = version; resolution = Ps })
  head_resolution : (h r : Row) {resolution : Resolution} → SpellsVersion h.pieces V3 → SpellsResolution r.pieces resolution
      → SpellsHead (h ∷ r ∷ []) (record { version = V3; resolution = resolution })
