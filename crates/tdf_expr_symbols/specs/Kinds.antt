-- Which kinds of names each place of a text allows (own): one table.
use Rattle.std.specs.Prelude.{ℕ, Bool, false, nat_eq, List, [], ◌∷◌, ◌++◌, Option, Some, None}
use Rattle.std.specs.List.{list_any}
use Rattle.tdf_expr_symbols.specs.declared.kinds.Kind.{Kind}
use Rattle.tdf_expr_symbols.specs.declared.kinds.Kind.TheVariants as kind
use Rattle.tdf_expr_symbols.specs.declared.kinds.Part.{Part}
use Rattle.tdf_expr_symbols.specs.declared.kinds.Part.TheVariants as part
use Rattle.tdf_expr_symbols.specs.declared.kinds.Place.{Place}
use Rattle.tdf_expr_symbols.specs.declared.kinds.Place.TheVariants as place
use Rattle.tdf_lang_tree.specs.declared.blocks.PortKind.TheVariants.{In, Out, DeIn, DeOut}

-- the ports that a body reads, and those that it writes
abbrev pub read_ports : Part → List Kind
read_ports part.Processing = kind.Port In ∷ (kind.Port DeIn ∷ [])
read_ports _ = []

abbrev pub written_ports : Part → List Kind
written_ports part.Processing = kind.Port Out ∷ (kind.Port DeOut ∷ [])
written_ports _ = []

-- the event ports that a process reads and writes, without an index
abbrev pub read_signals : Part → List Kind
read_signals part.Process = kind.Port DeIn ∷ []
read_signals _ = []

abbrev pub written_signals : Part → List Kind
written_signals part.Process = kind.Port DeOut ∷ []
written_signals _ = []

abbrev pub all_ports : List Kind
all_ports = kind.Port In ∷ (kind.Port Out ∷ (kind.Port DeIn ∷ (kind.Port DeOut ∷ [])))

abbrev pub numbers : List Kind
numbers = kind.Const ∷ (kind.Var ∷ (kind.RateVar ∷ (kind.Loop ∷ [])))

abbrev pub allowed : Place → List Kind
allowed place.Format = kind.Type ∷ []
allowed place.Block = kind.Tdf ∷ (kind.De ∷ (kind.Composite ∷ []))
allowed (place.Value body) = numbers ++ (read_ports body ++ read_signals body)
allowed (place.Element body) = kind.Array ∷ read_ports body
allowed (place.Target body) = kind.Var ∷ (written_ports body ++ written_signals body)
allowed (place.TargetElement body) = kind.Array ∷ written_ports body
allowed place.Index = kind.Loop ∷ []
allowed place.Limit = kind.RateVar ∷ []
allowed place.Port = all_ports
allowed place.Rate = kind.RateVar ∷ []
allowed place.Notified = kind.Event ∷ []
allowed place.Sensed = kind.Event ∷ (kind.Port DeIn ∷ [])
allowed place.Instance = kind.Instance ∷ []
allowed place.Bound = kind.Signal ∷ (kind.DeSignal ∷ all_ports)

abbrev pub number_of : Kind → ℕ
number_of kind.Const = 0
number_of kind.Var = 1
number_of kind.Array = 2
number_of (kind.Port In) = 3
number_of (kind.Port Out) = 4
number_of (kind.Port DeIn) = 5
number_of (kind.Port DeOut) = 6
number_of kind.RateVar = 7
number_of kind.Event = 8
number_of kind.Signal = 9
number_of kind.DeSignal = 10
number_of kind.Instance = 11
number_of kind.Loop = 12
number_of kind.Type = 13
number_of kind.Tdf = 14
number_of kind.De = 15
number_of kind.Composite = 16

-- whether a place allows a name of this kind; a name that stands for nothing is allowed nowhere
unfoldable pub is_allowed : Place → Option Kind → Bool
is_allowed place None = false
is_allowed place (Some kind) = list_any (λ k. nat_eq (number_of kind) (number_of k)) (allowed place)
