-- How an index is read in a version of the language (own). Private functions mirror it; `proofs/` show that it reads
-- exactly what `SpellsIndex` says.
use Rattle.std.specs.Prelude.{ℕ, Bool, true, false, ◌&&◌, List, [], ◌∷◌, Option, Some, None}
use Rattle.tdf_base.specs.Version.{has_multiples}
use Rattle.tdf_base.specs.declared.version.Version.{Version}
use Rattle.tdf_base.specs.Digits.{int_of}
use Rattle.tdf_lang_lexer.specs.Token.{Tok, TName, TNumber, TSymbol}
use Rattle.tdf_lang_lexer.specs.declared.key.Symbol.{Symbol}
use Rattle.tdf_lang_lexer.specs.declared.key.Symbol.TheVariants as symbol
use Rattle.tdf_lang_tree.specs.declared.expr.Index.{Index}
use Rattle.tdf_lang_tree.specs.declared.expr.Index.TheVariants as index

abbrev pub int_index : Option ℕ → Option Index
int_index (Some n) = Some (index.Int n)
int_index None = None

abbrev pub plus_index : List ℕ → Option ℕ → Option Index
plus_index name (Some n) = Some (index.Plus name n)
plus_index name None = None

abbrev pub minus_index : List ℕ → Option ℕ → Option Index
minus_index name (Some n) = Some (index.Minus name n)
minus_index name None = None

abbrev pub from_index : List ℕ → Option ℕ → Option Index
from_index name (Some n) = Some (index.From n name)
from_index name None = None

abbrev pub times_index : Bool → List ℕ → Option ℕ → Option Index
times_index true name (Some n) = Some (index.Times n name)
times_index true name None = None
times_index false name text = None

abbrev pub times_plus_index : Bool → List ℕ → Option ℕ → Option ℕ → Option Index
times_plus_index true name (Some n) (Some m) = Some (index.TimesPlus n name m)
times_plus_index true name (Some n) None = None
times_plus_index true name None last = None
times_plus_index false name text last = None

abbrev pub named_index : Symbol → List ℕ → List ℕ → Option Index
named_index symbol.Plus name text = plus_index name (int_of text)
named_index symbol.Minus name text = minus_index name (int_of text)
named_index _ name text = None

abbrev pub number_index : Version → Symbol → List ℕ → List ℕ → Option Index
number_index v symbol.Minus text name = from_index name (int_of text)
number_index v symbol.Times text name = times_index (has_multiples v) name (int_of text)
number_index v _ text name = None

-- `*`, and then `+`
abbrev pub is_sum : Symbol → Symbol → Bool
is_sum symbol.Times symbol.Plus = true
is_sum _ _ = false

-- what follows a number and a symbol
abbrev pub counted_index : Version → List ℕ → Symbol → List Tok → Option Index
counted_index v text c (TName name ∷ []) = number_index v c text name
counted_index v text c (TName name ∷ (TSymbol d ∷ (TNumber last ∷ []))) =
    times_plus_index (has_multiples v && is_sum c d) name (int_of text) (int_of last)
counted_index v text c _ = None

abbrev pub index_of : Version → List Tok → Option Index
index_of v (TNumber text ∷ []) = int_index (int_of text)
index_of v (TName name ∷ []) = Some (index.Var name)
index_of v (TName name ∷ (TSymbol c ∷ (TNumber text ∷ []))) = named_index c name text
index_of v (TNumber text ∷ (TSymbol c ∷ ts)) = counted_index v text c ts
index_of v _ = None
