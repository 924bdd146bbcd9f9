-- The names of a model and of its blocks, with what each stands for (own).
use Rattle.std.specs.Prelude.{ℕ, List, [], ◌∷◌, ◌++◌, Option, Some, None, nat_eq, position, slice_get, slice_set, if◌then◌else◌}
use Rattle.std.specs.Cmp.Lexicographic.{pointwise}
use Rattle.std.specs.List.{list_any}
use Rattle.tdf_expr_symbols.specs.declared.kinds.Kind.{Kind}
use Rattle.tdf_expr_symbols.specs.declared.kinds.Kind.TheVariants as kind
use Rattle.tdf_lang_tree.specs.Pure.{PureStore, SConst, SVar, SArray, PureTdfLine, TPort, TStore, TRate, PureTdf, PureDeLine, DPort, DStore, DEvent, PureDe, PureComposite, PureGlobal, GShape, GTdf, GDe, GNet}
use Rattle.tdf_lang_tree.specs.declared.blocks.Attr.{Attr}
use Rattle.tdf_lang_tree.specs.declared.blocks.Attr.TheVariants as attr
use Rattle.tdf_lang_tree.specs.declared.blocks.Member.{Member}
use Rattle.tdf_lang_tree.specs.declared.blocks.Member.TheVariants as member
use Rattle.tdf_lang_tree.specs.declared.blocks.PortKind.{PortKind}
use Rattle.tdf_lang_tree.specs.declared.blocks.PortLine.{PortLine}
use Rattle.tdf_lang_tree.specs.declared.names.Lit.{Lit}
use Rattle.tdf_lang_tree.specs.declared.shapes.FormatRef.{FormatRef}
use Rattle.tdf_lang_tree.specs.declared.shapes.FormatRef.TheVariants.{Own, Named}
use Rattle.tdf_lang_tree.specs.declared.shapes.Shape.{Shape}
use Rattle.tdf_lang_tree.specs.declared.stmt.Limit.{Limit}
use Rattle.tdf_lang_tree.specs.declared.stmt.Limit.TheVariants as limit

-- What a name stands for. A format is there where its name is that of a type.
pub data Thing : Type 0 where
  Const : Option Shape → (value : Lit) → Thing
  Var : Option Shape → (start : Lit) → Thing
  Array : Option Shape → (size : ℕ) → (starts : List Lit) → Thing
  Port : PortKind → Option Shape → (rate : Limit) → (delay : ℕ) → Thing
  RateVar : (least greatest start : ℕ) → Thing
  Event : Thing
  Signal : Option Shape → Thing
  DeSignal : Option Shape → (start : Lit) → Thing
  Instance : Thing
  Loop : (from : ℕ) → (end : Limit) → Thing
  TypeName : Shape → Thing
  Tdf : Thing
  De : Thing
  Composite : Thing

abbrev pub kind_of : Thing → Kind
kind_of (Const shape value) = kind.Const
kind_of (Var shape start) = kind.Var
kind_of (Array shape size starts) = kind.Array
kind_of (Port word shape rate delay) = kind.Port word
kind_of (RateVar least greatest start) = kind.RateVar
kind_of Event = kind.Event
kind_of (Signal shape) = kind.Signal
kind_of (DeSignal shape start) = kind.DeSignal
kind_of Instance = kind.Instance
kind_of (Loop from end) = kind.Loop
kind_of (TypeName shape) = kind.Type
kind_of Tdf = kind.Tdf
kind_of De = kind.De
kind_of Composite = kind.Composite

-- the format of what a name stands for
abbrev pub shape_of : Thing → Option Shape
shape_of (Const shape value) = shape
shape_of (Var shape start) = shape
shape_of (Array shape size starts) = shape
shape_of (Port word shape rate delay) = shape
shape_of (Signal shape) = shape
shape_of (DeSignal shape start) = shape
shape_of (TypeName shape) = Some shape
shape_of _ = None

-- a name space: names in the order of their declarations, with what each stands for
pub record Names : Type 0 where
  pub names : List (List ℕ)
  pub things : List Thing

abbrev pub no_names : Names
no_names = record { names = []; things = [] }

abbrev pub found_at : {A : Type 0} → List A → Option ℕ → Option A
found_at xs None = None
found_at xs (Some n) = slice_get xs n

abbrev pub place_in : List (List ℕ) → List ℕ → Option ℕ
place_in names name = position (pointwise nat_eq name) names

abbrev pub place_of : Names → List ℕ → Option ℕ
place_of s name = place_in s.names name

abbrev pub thing_of : Names → List ℕ → Option Thing
thing_of s name = found_at s.things (place_of s name)

-- one declaration more; of two declarations of one name the first stands
unfoldable pub with_name : List ℕ → Thing → Names → Names
with_name name thing s =
    if list_any (pointwise nat_eq name) s.names then s
    else record { names = s.names ++ name ∷ []; things = s.things ++ thing ∷ [] }

abbrev pub type_shape : Option Thing → Option Shape
type_shape (Some (TypeName shape)) = Some shape
type_shape _ = None

-- the format that a line names or writes out
abbrev pub format_of : Names → FormatRef → Option Shape
format_of globals (Own shape) = Some shape
format_of globals (Named name) = type_shape (thing_of globals name)

-- the global names: types and blocks
abbrev pub with_global : PureGlobal → Names → Names
with_global (GShape t) s = with_name t.name (TypeName t.shape) s
with_global (GTdf block) s = with_name block.name Tdf s
with_global (GDe block) s = with_name block.name De s
with_global (GNet block) s = with_name block.name Composite s

unfoldable pub with_globals : List PureGlobal → Names → Names
with_globals [] s = s
with_globals (g ∷ gs) s = with_globals gs (with_global g s)

abbrev pub globals_of : List PureGlobal → Names
globals_of list = with_globals list no_names

-- the names of a block; the rate and the delay of a port are those that its last line says
abbrev pub with_port : Names → PortLine → Names → Names
with_port globals port s =
    with_name port.name (Port port.kind (format_of globals port.format) (limit.Int 1) 0) s

abbrev pub with_store : Names → PureStore → Names → Names
with_store globals (SConst line name x v) s = with_name name (Const (format_of globals x) v) s
with_store globals (SVar line name x v) s = with_name name (Var (format_of globals x) v) s
with_store globals (SArray line name x n vs) s = with_name name (Array (format_of globals x) n vs) s

abbrev pub with_tdf_line : Names → PureTdfLine → Names → Names
with_tdf_line globals (TPort port) s = with_port globals port s
with_tdf_line globals (TStore store) s = with_store globals store s
with_tdf_line globals (TRate line name least greatest start) s =
    with_name name (RateVar least greatest start) s

unfoldable pub with_tdf_lines : Names → List PureTdfLine → Names → Names
with_tdf_lines globals [] s = s
with_tdf_lines globals (d ∷ ds) s = with_tdf_lines globals ds (with_tdf_line globals d s)

abbrev pub at_rate : Limit → Thing → Thing
at_rate rate (Port word shape old delay) = Port word shape rate delay
at_rate rate other = other

abbrev pub at_delay : ℕ → Thing → Thing
at_delay delay (Port word shape rate old) = Port word shape rate delay
at_delay delay other = other

-- what stands at a place, changed
abbrev pub changed_at : (Thing → Thing) → List Thing → Option ℕ → Option Thing → List Thing
changed_at f things (Some n) (Some thing) = slice_set things n (f thing)
changed_at f things n thing = things

unfoldable pub names_changed : (Thing → Thing) → List ℕ → Names → Names
names_changed f name s = record {
  names = s.names;
  things = changed_at f s.things (place_of s name) (thing_of s name);
}

abbrev pub with_attr : Attr → Names → Names
with_attr (attr.Rate line port rate) s = names_changed (at_rate rate) port s
with_attr (attr.Delay line port count) s = names_changed (at_delay count) port s
with_attr _ s = s

unfoldable pub with_attrs : List Attr → Names → Names
with_attrs [] s = s
with_attrs (a ∷ as') s = with_attrs as' (with_attr a s)

abbrev pub tdf_names : Names → PureTdf → Names
tdf_names globals block = with_attrs block.attrs (with_tdf_lines globals block.decls no_names)

abbrev pub with_de_line : Names → PureDeLine → Names → Names
with_de_line globals (DPort port) s = with_port globals port s
with_de_line globals (DStore store) s = with_store globals store s
with_de_line globals (DEvent line name) s = with_name name Event s

unfoldable pub with_de_lines : Names → List PureDeLine → Names → Names
with_de_lines globals [] s = s
with_de_lines globals (d ∷ ds) s = with_de_lines globals ds (with_de_line globals d s)

abbrev pub de_names : Names → PureDe → Names
de_names globals block = with_de_lines globals block.decls no_names

abbrev pub with_member : Names → Member → Names → Names
with_member globals (member.Port port) s = with_port globals port s
with_member globals (member.Signal line name x) s = with_name name (Signal (format_of globals x)) s
with_member globals (member.DeSignal line name x start) s =
    with_name name (DeSignal (format_of globals x) start) s
with_member globals (member.Instance line name block) s = with_name name Instance s
with_member globals (member.Bind line instance port target) s = s

unfoldable pub with_members : Names → List Member → Names → Names
with_members globals [] s = s
with_members globals (m ∷ ms) s = with_members globals ms (with_member globals m s)

abbrev pub composite_names : Names → PureComposite → Names
composite_names globals block = with_members globals block.members no_names
