-- How formats are read (own). Private functions mirror it; `proofs/` show that it reads exactly what the relations say.
use Rattle.std.specs.Prelude.{ℕ, ◌+◌, Bool, List, [], ◌∷◌, Option, Some, None}
use Rattle.tdf_base.specs.Digits.{int_of}
use Rattle.tdf_fixed.specs.declared.over.Over.{Over}
use Rattle.tdf_fixed.specs.declared.over.Over.TheVariants.{Wrap}
use Rattle.tdf_fixed.specs.declared.quant.Quant.{Quant}
use Rattle.tdf_fixed.specs.declared.quant.Quant.TheVariants.{Trn}
use Rattle.tdf_lang_lexer.specs.Token.{Tok, TName, TKey, TNumber}
use Rattle.tdf_lang_tree.specs.declared.shapes.FormatRef.{FormatRef}
use Rattle.tdf_lang_tree.specs.declared.shapes.FormatRef.TheVariants.{Own, Named}
use Rattle.tdf_lang_tree.specs.declared.shapes.Shape.{Shape}
use Rattle.tdf_lang_exprs.specs.Formats.{sign_of, quant_of, over_of}

abbrev pub moded : Bool → ℕ → ℕ → Option Quant → Option Over → Option Shape
moded signed wl iwl (Some quant) (Some over) = Some (record { signed = signed; wl = wl; iwl = iwl; quant = quant; over = over })
moded signed wl iwl None over = None
moded signed wl iwl (Some quant) None = None

abbrev pub modes_of : Bool → ℕ → ℕ → List Tok → Option Shape
modes_of signed wl iwl [] = moded signed wl iwl (Some Trn) (Some Wrap)
modes_of signed wl iwl (TKey word ∷ []) = moded signed wl iwl (quant_of word) (Some Wrap)
modes_of signed wl iwl (TKey word ∷ (TKey last ∷ [])) = moded signed wl iwl (quant_of word) (over_of last)
modes_of signed wl iwl _ = None

abbrev pub sized : Option Bool → Option ℕ → Option ℕ → List Tok → Option Shape
sized (Some signed) (Some wl) (Some iwl) ts = modes_of signed wl iwl ts
sized None first second ts = None
sized (Some signed) None second ts = None
sized (Some signed) (Some wl) None ts = None

abbrev pub shape_of : List Tok → Option Shape
shape_of (TKey word ∷ (TNumber first ∷ (TNumber second ∷ ts))) = sized (sign_of word) (int_of first) (int_of second) ts
shape_of _ = None

abbrev pub own_format : Option Shape → Option FormatRef
own_format (Some s) = Some (Own s)
own_format None = None

abbrev pub format_of : List Tok → Option FormatRef
format_of (TName name ∷ []) = Some (Named name)
format_of ts = own_format (shape_of ts)

-- how many reserved words come first, up to two
abbrev pub keys_first : List Tok → ℕ
keys_first (TKey word ∷ (TKey last ∷ ts)) = 2
keys_first (TKey word ∷ ts) = 1
keys_first _ = 0

-- how many tokens a format that comes first has
abbrev pub format_len : List Tok → ℕ
format_len (TName name ∷ ts) = 1
format_len (TKey word ∷ (TNumber first ∷ (TNumber second ∷ ts))) = 3 + keys_first ts
format_len _ = 0
