-- The faults of lines that stand outside of bodies (own): formats, declarations, attributes,
-- initial samples and members.
use Rattle.std.specs.Prelude.{ℕ, ◌-◌, Bool, not, ◌&&◌, ◌||◌, nat_lt, nat_le, List, [], ◌++◌, length, Option, Some}
use Rattle.tdf_base.specs.Limits.{greatest_delay, greatest_rate}
use Rattle.tdf_base.specs.declared.codes.Code.TheVariants as code
use Rattle.tdf_base.specs.First.{fault_if}
use Rattle.tdf_base.specs.declared.first.LineFault.{LineFault}
use Rattle.tdf_expr_symbols.specs.Faults.{multiple_faults, step_faults}
use Rattle.tdf_expr_symbols.specs.Index.{kind_faults}
use Rattle.tdf_expr_symbols.specs.Names.{Names, Thing, Port, thing_of}
use Rattle.tdf_expr_symbols.specs.Scope.{Scope}
use Rattle.tdf_expr_symbols.specs.declared.kinds.Place.TheVariants as place
use Rattle.tdf_lang_tree.specs.Pure.{PureStore, SConst, SVar, SArray, PureTdfLine, TPort, TStore, TRate, PureDeLine, DPort, DStore, DEvent}
use Rattle.tdf_lang_tree.specs.declared.blocks.Attr.{Attr}
use Rattle.tdf_lang_tree.specs.declared.blocks.Attr.TheVariants as attr
use Rattle.tdf_lang_tree.specs.declared.blocks.Initial.{Initial}
use Rattle.tdf_lang_tree.specs.declared.blocks.Member.{Member}
use Rattle.tdf_lang_tree.specs.declared.blocks.Member.TheVariants as member
use Rattle.tdf_lang_tree.specs.declared.blocks.Sense.{Sense}
use Rattle.tdf_lang_tree.specs.declared.shapes.FormatRef.{FormatRef}
use Rattle.tdf_lang_tree.specs.declared.shapes.FormatRef.TheVariants as format
use Rattle.tdf_lang_tree.specs.declared.shapes.Shape.{Shape}
use Rattle.tdf_lang_tree.specs.declared.stmt.Limit.{Limit}
use Rattle.tdf_lang_tree.specs.declared.stmt.Limit.TheVariants as limit

-- the formats that there are: 1 to 64 bits, of which none stands far from the point
abbrev pub is_format : Shape → Bool
is_format s = nat_le 1 s.wl && nat_le s.wl 64 && nat_le s.iwl s.wl && nat_le (s.wl - s.iwl) 63

abbrev pub shape_faults : ℕ → Shape → List LineFault
shape_faults line s = fault_if (not (is_format s)) code.Format line

-- a format that is written out, or the name of a type
abbrev pub format_faults : Names → ℕ → FormatRef → List LineFault
format_faults globals line (format.Own s) = shape_faults line s
format_faults globals line (format.Named name) =
    kind_faults place.Format (thing_of globals name) line

-- no rate, and no length of an array
abbrev pub is_no_rate : ℕ → Bool
is_no_rate n = nat_lt n 1 || nat_lt greatest_rate n

-- an array has at most its length of values
abbrev pub array_faults : ℕ → (size given : ℕ) → List LineFault
array_faults line size given =
    fault_if (is_no_rate size) code.Limit line ++ fault_if (nat_lt size given) code.Index line

abbrev pub store_faults : Names → PureStore → List LineFault
store_faults globals (SConst line name x value) = format_faults globals line x
store_faults globals (SVar line name x start) = format_faults globals line x
store_faults globals (SArray line name x size starts) =
    format_faults globals line x ++ array_faults line size (length starts)

-- the numbers of a rate variable
abbrev pub is_range : (least greatest start : ℕ) → Bool
is_range least greatest start =
    nat_le 1 least && nat_le least start && nat_le start greatest && nat_le greatest greatest_rate

unfoldable pub tdf_line_faults : Names → PureTdfLine → List LineFault
tdf_line_faults globals (TPort port) = format_faults globals port.line port.format
tdf_line_faults globals (TStore store) = store_faults globals store
tdf_line_faults globals (TRate line name least greatest start) =
    fault_if (not (is_range least greatest start)) code.Limit line

unfoldable pub de_line_faults : Names → PureDeLine → List LineFault
de_line_faults globals (DPort port) = format_faults globals port.line port.format
de_line_faults globals (DStore store) = store_faults globals store
de_line_faults globals (DEvent line name) = []

-- the rate that an attribute line gives a port
abbrev pub rate_faults : Scope → ℕ → Limit → List LineFault
rate_faults scope line (limit.Int n) = fault_if (is_no_rate n) code.Limit line
rate_faults scope line (limit.Var r) = kind_faults place.Rate (thing_of scope.own r) line
rate_faults scope line (limit.Times c r) =
    kind_faults place.Rate (thing_of scope.own r) line
    ++ multiple_faults scope line c (limit.Times c r)

-- each line of `set_attributes` is looked at, also where a later one stands in its place
unfoldable pub attr_faults : Scope → Attr → List LineFault
attr_faults scope (attr.Step line port step) = step_faults scope [] line port step
attr_faults scope (attr.Rate line port rate) =
    kind_faults place.Port (thing_of scope.own port) line ++ rate_faults scope line rate
attr_faults scope (attr.Delay line port count) =
    kind_faults place.Port (thing_of scope.own port) line
    ++ fault_if (nat_lt greatest_delay count) code.Limit line
attr_faults scope (attr.Does line) = []
attr_faults scope (attr.Accept line) = []
attr_faults scope (attr.Reject line) = []

-- how many initial samples a port has: its delay
abbrev pub delay_of : Option Thing → ℕ
delay_of (Some (Port word shape rate delay)) = delay
delay_of _ = 0

unfoldable pub initial_faults : Scope → Initial → List LineFault
initial_faults scope i =
    kind_faults place.Port (thing_of scope.own i.port) i.line
    ++ fault_if (not (nat_lt i.place (delay_of (thing_of scope.own i.port)))) code.Index i.line

unfoldable pub sense_faults : Scope → Sense → List LineFault
sense_faults scope sense = kind_faults place.Sensed (thing_of scope.own sense.name) sense.line

unfoldable pub member_faults : Scope → Member → List LineFault
member_faults scope (member.Port port) = format_faults scope.globals port.line port.format
member_faults scope (member.Signal line name x) = format_faults scope.globals line x
member_faults scope (member.DeSignal line name x start) = format_faults scope.globals line x
member_faults scope (member.Instance line name block) =
    kind_faults place.Block (thing_of scope.globals block) line
member_faults scope (member.Bind line instance port target) =
    kind_faults place.Instance (thing_of scope.own instance) line
    ++ kind_faults place.Bound (thing_of scope.own target) line
