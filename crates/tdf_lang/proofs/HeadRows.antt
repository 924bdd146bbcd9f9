-- The rows of a canonical text: those that open it, and one row a line after them.
use Rattle.std.proofs.Common.{◌≡◌, ℕ, true, List, [], ◌∷◌, ◌++◌, map, refl, ap, ◌∙◌, arith}
use Rattle.std.proofs.lemmas.Fmt.{decimal_digit}
use Rattle.std.specs.Prelude.{codes}
use Rattle.std.specs.List.{list_all}
use Rattle.tdf_base.specs.declared.version.Version.{Version}
use Rattle.tdf_base.specs.declared.version.Version.TheVariants.{V1, V2, V3}
use Rattle.tdf_base.specs.declared.resolution.Resolution.{Resolution}
use Rattle.tdf_base.specs.declared.resolution.Resolution.TheVariants.{Ps, Fs}
use Rattle.tdf_lang_parser.specs.Head.{SpellsVersion, language_1, language_2, language_3, SpellsResolution, resolution_ps, resolution_fs, SpellsHead, head_version, head_resolution}
use Rattle.tdf_lang_lexer.specs.Pieces.{pieces_of, pieces_from}
use Rattle.tdf_lang_lexer.specs.Rows.{Row, rows_from, rows_of}
use Rattle.tdf_lang_lexer.specs.Text.{is_allowed_byte, lines_from, lines_of}
use Rattle.tdf_lang_lexer.specs.declared.dialect.Dialect.{Dialect}
use Rattle.tdf_lang_printer.specs.Canon.{head_text, language_text, resolution_text, unit_line}
use Rattle.tdf_lang_printer.specs.Lines.{line_text, lines_text}
use Rattle.tdf_lang_tree.specs.Forms.{Form}
use Rattle.tdf_lang.proofs.RowLaws.{FormsOk, lines_cut}
use Rattle.tdf_lang.proofs.Tokens.{Sound, sound_old, sound_new}

-- what opens the canonical texts of a dialect: its lines and its rows
pub record Headed (lang : Dialect) : Type 0 where
  pub sound : Sound lang
  pub lines : List (List ℕ)
  pub rows : List Row
  pub next : ℕ
  pub cut : (rest : List ℕ) → lines_from [] (head_text lang.version lang.resolution ++ rest) ≡ lines ++ lines_from [] rest
  pub read : (more : List (List ℕ)) → rows_from 1 (lines ++ more) ≡ rows ++ rows_from next more
  pub spells : SpellsHead rows lang
  pub allowed : list_all is_allowed_byte (head_text lang.version lang.resolution) ≡ true
  pub plain : list_all (λ line. list_all is_allowed_byte line) lines ≡ true

-- a row that opens a text
abbrev pub version_row : List ℕ → Row
version_row version = record { number = 1; pieces = codes "language" ∷ version ∷ [] }

abbrev pub unit_row : List ℕ → Row
unit_row unit = record { number = 2; pieces = codes "resolution" ∷ unit ∷ [] }

text_1 : head_text V1 Ps ≡ codes "language 1" ++ 10 ∷ []
unfolding head_text language_text resolution_text
text_1 = rw (decimal_digit 1 (omega arith)) refl

text_2 : head_text V2 Ps ≡ codes "language 2" ++ 10 ∷ []
unfolding head_text language_text resolution_text
text_2 = rw (decimal_digit 2 (omega arith)) refl

text_ps : head_text V3 Ps ≡ codes "language 3" ++ 10 ∷ (codes "resolution 1ps" ++ 10 ∷ [])
unfolding head_text language_text resolution_text unit_line
text_ps = rw (decimal_digit 3 (omega arith)) refl

text_fs : head_text V3 Fs ≡ codes "language 3" ++ 10 ∷ (codes "resolution 1fs" ++ 10 ∷ [])
unfolding head_text language_text resolution_text unit_line
text_fs = rw (decimal_digit 3 (omega arith)) refl

cut_1 : (rest : List ℕ) → lines_from [] ((codes "language 1" ++ 10 ∷ []) ++ rest) ≡ codes "language 1" ∷ lines_from [] rest
unfolding lines_from
cut_1 rest = refl

cut_2 : (rest : List ℕ) → lines_from [] ((codes "language 2" ++ 10 ∷ []) ++ rest) ≡ codes "language 2" ∷ lines_from [] rest
unfolding lines_from
cut_2 rest = refl

cut_ps : (rest : List ℕ) → lines_from [] ((codes "language 3" ++ 10 ∷ (codes "resolution 1ps" ++ 10 ∷ [])) ++ rest) ≡ codes "language 3" ∷ (codes "resolution 1ps" ∷ lines_from [] rest)
unfolding lines_from
cut_ps rest = refl

cut_fs : (rest : List ℕ) → lines_from [] ((codes "language 3" ++ 10 ∷ (codes "resolution 1fs" ++ 10 ∷ [])) ++ rest) ≡ codes "language 3" ∷ (codes "resolution 1fs" ∷ lines_from [] rest)
unfolding lines_from
cut_fs rest = refl

read_1 : (more : List (List ℕ)) → rows_from 1 (codes "language 1" ∷ more) ≡ version_row (codes "1") ∷ rows_from 2 more
unfolding rows_from pieces_of pieces_from
read_1 more = refl

read_2 : (more : List (List ℕ)) → rows_from 1 (codes "language 2" ∷ more) ≡ version_row (codes "2") ∷ rows_from 2 more
unfolding rows_from pieces_of pieces_from
read_2 more = refl

read_ps : (more : List (List ℕ)) → rows_from 1 (codes "language 3" ∷ (codes "resolution 1ps" ∷ more)) ≡ version_row (codes "3") ∷ (unit_row (codes "1ps") ∷ rows_from 3 more)
unfolding rows_from pieces_of pieces_from
read_ps more = refl

read_fs : (more : List (List ℕ)) → rows_from 1 (codes "language 3" ∷ (codes "resolution 1fs" ∷ more)) ≡ version_row (codes "3") ∷ (unit_row (codes "1fs") ∷ rows_from 3 more)
unfolding rows_from pieces_of pieces_from
read_fs more = refl

headed_1 : Headed (record { version = V1; resolution = Ps })
headed_1 = record {
  sound = sound_old V1 refl;
  lines = codes "language 1" ∷ [];
  rows = version_row (codes "1") ∷ [];
  next = 2;
  cut = λ rest. ap (λ u. lines_from [] (u ++ rest)) text_1 ∙ cut_1 rest;
  read = read_1;
  spells = head_version (version_row (codes "1")) language_1;
  allowed = ap (list_all is_allowed_byte) text_1;
  plain = refl;
}

headed_2 : Headed (record { version = V2; resolution = Ps })
headed_2 = record {
  sound = sound_old V2 refl;
  lines = codes "language 2" ∷ [];
  rows = version_row (codes "2") ∷ [];
  next = 2;
  cut = λ rest. ap (λ u. lines_from [] (u ++ rest)) text_2 ∙ cut_2 rest;
  read = read_2;
  spells = head_version (version_row (codes "2")) language_2;
  allowed = ap (list_all is_allowed_byte) text_2;
  plain = refl;
}

headed_ps : Headed (record { version = V3; resolution = Ps })
headed_ps = record {
  sound = sound_new Ps;
  lines = codes "language 3" ∷ (codes "resolution 1ps" ∷ []);
  rows = version_row (codes "3") ∷ (unit_row (codes "1ps") ∷ []);
  next = 3;
  cut = λ rest. ap (λ u. lines_from [] (u ++ rest)) text_ps ∙ cut_ps rest;
  read = read_ps;
  spells = head_resolution (version_row (codes "3")) (unit_row (codes "1ps")) language_3 resolution_ps;
  allowed = ap (list_all is_allowed_byte) text_ps;
  plain = refl;
}

headed_fs : Headed (record { version = V3; resolution = Fs })
headed_fs = record {
  sound = sound_new Fs;
  lines = codes "language 3" ∷ (codes "resolution 1fs" ∷ []);
  rows = version_row (codes "3") ∷ (unit_row (codes "1fs") ∷ []);
  next = 3;
  cut = λ rest. ap (λ u. lines_from [] (u ++ rest)) text_fs ∙ cut_fs rest;
  read = read_fs;
  spells = head_resolution (version_row (codes "3")) (unit_row (codes "1fs")) language_3 resolution_fs;
  allowed = ap (list_all is_allowed_byte) text_fs;
  plain = refl;
}

-- version 1 and 2 have no resolution but 1 ps, and version 3 writes its own
by_version : {pieces : List (List ℕ)} {version : Version} → SpellsVersion pieces version → Headed (record { version = version; resolution = Ps })
by_version language_1 = headed_1
by_version language_2 = headed_2
by_version language_3 = headed_ps

by_unit : {pieces : List (List ℕ)} {unit : Resolution} → SpellsResolution pieces unit → Headed (record { version = V3; resolution = unit })
by_unit resolution_ps = headed_ps
by_unit resolution_fs = headed_fs

pub headed : {rows : List Row} {lang : Dialect} → SpellsHead rows lang → Headed lang
headed (head_version h d) = by_version d
headed (head_resolution h r d e) = by_unit e

-- the lines and the rows of a text that is opened so
pub text_lines : (lang : Dialect) → (hd : Headed lang) → (fs : List Form) → FormsOk lang fs
    → lines_of (head_text lang.version lang.resolution ++ lines_text lang.resolution fs) ≡ hd.lines ++ map (line_text lang.resolution) fs
unfolding lines_of
text_lines lang hd fs h = hd.cut (lines_text lang.resolution fs) ∙ ap (λ u. hd.lines ++ u) (lines_cut lang fs h)

pub text_rows : (lang : Dialect) → (hd : Headed lang) → (fs : List Form) → FormsOk lang fs
    → rows_of (head_text lang.version lang.resolution ++ lines_text lang.resolution fs) ≡ hd.rows ++ rows_from hd.next (map (line_text lang.resolution) fs)
unfolding rows_of
text_rows lang hd fs h = ap (rows_from 1) (text_lines lang hd fs h) ∙ hd.read (map (line_text lang.resolution) fs)
