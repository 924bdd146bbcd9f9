-- What the values of a block look like (own): the formats of its cells, the state that it starts
-- from, its rate variables and its ports, each in order of declaration.
use Rattle.std.specs.List.{flat_map}
use Rattle.std.specs.Prelude.{ℕ, ◌+◌, ◌-◌, List, [], ◌∷◌, ◌++◌, map, length, replicate, Option, Some, ℤ, pos}
use Rattle.tdf_expr.specs.declared.spans.PortSpan.{PortSpan}
use Rattle.tdf_expr.specs.declared.spans.RateSpan.{RateSpan}
use Rattle.tdf_fixed.specs.declared.format.Format.{Format}
use Rattle.tdf_expr_semantics.specs.Value.{literal_in}
use Rattle.tdf_expr_symbols.specs.Names.{Names, Thing, Var, Array, Port, RateVar}
use Rattle.tdf_expr_symbols.specs.Scope.{greatest_of}
use Rattle.tdf_lang_tree.specs.declared.blocks.PortKind.{PortKind}
use Rattle.tdf_lang_tree.specs.declared.names.Lit.{Lit}
use Rattle.tdf_lang_tree.specs.declared.shapes.Shape.{Shape}

-- a format as a line writes it
abbrev pub shape_of_format : Format → Shape
shape_of_format f = record {
  signed = f.signed;
  wl = f.wl;
  iwl = f.iwl;
  quant = f.quant;
  over = f.over;
}

abbrev pub shape_written : Format → Option Shape
shape_written f = Some (shape_of_format f)

abbrev pub start_number : Option Shape → Lit → ℤ
start_number shape v = (literal_in shape v).num

-- the starting values of a name's cells; missing values of an array are 0
abbrev pub starts_of : Thing → List ℤ
starts_of (Var shape start) = start_number shape start ∷ []
starts_of (Array shape size starts) =
    map (start_number shape) starts ++ replicate (size - length starts) (pos 0)
starts_of _ = []

abbrev pub cell_starts : Names → List ℤ
cell_starts own = flat_map starts_of own.things

abbrev pub rate_span : Thing → List RateSpan
rate_span (RateVar least greatest start) =
    record { least = least; greatest = greatest; start = start } ∷ []
rate_span _ = []

abbrev pub rate_spans : Names → List RateSpan
rate_spans own = flat_map rate_span own.things

-- a port: its word, its format, and the places of its samples, as many as its greatest rate
pub record PortPlace : Type 0 where
  pub word : PortKind
  pub shape : Option Shape
  pub first : ℕ
  pub count : ℕ

abbrev pub place_of_span : PortSpan → PortPlace
place_of_span p = record {
  word = p.word;
  shape = shape_written p.format;
  first = p.first;
  count = p.count;
}

-- the ports of things, where the samples of those before them fill the places below `first`
unfoldable pub places_from : Names → ℕ → List Thing → List PortPlace
places_from own first [] = []
places_from own first (Port word shape rate delay ∷ things) =
    record { word = word; shape = shape; first = first; count = greatest_of own rate }
    ∷ places_from own (first + greatest_of own rate) things
places_from own first (_ ∷ things) = places_from own first things

abbrev pub port_places : Names → List PortPlace
port_places own = places_from own 0 own.things
