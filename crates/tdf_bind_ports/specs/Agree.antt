-- When a port and what it is bound to agree: the formats are equal in all five parts, both are of
-- samples or both of events, and a port is bound to a port of its own word alone.
-- Source: own.
use Rattle.std.specs.Prelude.{ℕ, Bool, true, false, not, ◌&&◌, nat_eq, Option, Some, None}
use Rattle.tdf_fixed.specs.declared.over.Over.{Over}
use Rattle.tdf_fixed.specs.declared.over.Over.TheVariants as over
use Rattle.tdf_fixed.specs.declared.quant.Quant.{Quant}
use Rattle.tdf_fixed.specs.declared.quant.Quant.TheVariants as quant
use Rattle.tdf_expr_symbols.specs.Names.{Names, Thing, format_of, kind_of, shape_of}
use Rattle.tdf_expr_symbols.specs.declared.kinds.Kind.{Kind}
use Rattle.tdf_expr_symbols.specs.declared.kinds.Kind.TheVariants as kind
use Rattle.tdf_lang_tree.specs.declared.blocks.PortKind.{PortKind}
use Rattle.tdf_lang_tree.specs.declared.blocks.PortKind.TheVariants.{In, Out, DeIn, DeOut}
use Rattle.tdf_lang_tree.specs.declared.blocks.PortLine.{PortLine}
use Rattle.tdf_lang_tree.specs.declared.shapes.Shape.{Shape}

-- a port of samples; else it is one of events
abbrev pub is_samples : PortKind → Bool
is_samples In = true
is_samples Out = true
is_samples DeIn = false
is_samples DeOut = false

abbrev pub number_of_word : PortKind → ℕ
number_of_word In = 0
number_of_word Out = 1
number_of_word DeIn = 2
number_of_word DeOut = 3

abbrev pub is_same_word : PortKind → PortKind → Bool
is_same_word a b = nat_eq (number_of_word a) (number_of_word b)

abbrev pub number_of_quant : Quant → ℕ
number_of_quant quant.Trn = 0
number_of_quant quant.TrnZero = 1
number_of_quant quant.Rnd = 2
number_of_quant quant.RndZero = 3
number_of_quant quant.RndMinInf = 4
number_of_quant quant.RndInf = 5
number_of_quant quant.RndConv = 6

abbrev pub is_same_quant : Quant → Quant → Bool
is_same_quant a b = nat_eq (number_of_quant a) (number_of_quant b)

abbrev pub number_of_over : Over → ℕ
number_of_over over.Wrap = 0
number_of_over over.Sat = 1
number_of_over over.SatZero = 2
number_of_over over.SatSym = 3

abbrev pub is_same_over : Over → Over → Bool
is_same_over a b = nat_eq (number_of_over a) (number_of_over b)

abbrev pub is_same_sign : Bool → Bool → Bool
is_same_sign true b = b
is_same_sign false b = not b

-- equal in all five parts
abbrev pub is_same_shape : Shape → Shape → Bool
is_same_shape a b =
    is_same_sign a.signed b.signed && nat_eq a.wl b.wl && nat_eq a.iwl b.iwl
    && is_same_quant a.quant b.quant && is_same_over a.over b.over

abbrev pub has_same_format : Option Shape → Option Shape → Bool
has_same_format (Some a) (Some b) = is_same_shape a b
has_same_format _ _ = false

-- whether a port of this word may be bound to a name of this kind
abbrev pub fits : PortKind → Kind → Bool
fits word kind.Signal = is_samples word
fits word kind.DeSignal = not (is_samples word)
fits word (kind.Port other) = is_same_word word other
fits word _ = false

abbrev pub agrees : Names → PortLine → Option Thing → Bool
agrees globals port None = false
agrees globals port (Some thing) =
    fits port.kind (kind_of thing)
    && has_same_format (format_of globals port.format) (shape_of thing)
