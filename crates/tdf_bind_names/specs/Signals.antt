-- The signals that a composite declares, with their formats and their first values.
-- Source: own.
use Rattle.std.specs.Prelude.{◌≡◌, ℕ, Bool, true, false, if◌then◌else◌, pos, List, [], ◌∷◌, Option, Some, None, Result, Ok, Err}
use Rattle.tdf_fixed.specs.Cast.{IsLegal, fraction_of}
use Rattle.tdf_fixed.specs.Literal.{decimal_of}
use Rattle.tdf_fixed.specs.declared.format.Format.{Format}
use Rattle.tdf_fixed.specs.declared.literals.DecimalErr.{DecimalErr}
use Rattle.tdf_fixed.specs.declared.raw.Raw.{Raw}
use Rattle.tdf_expr_symbols.specs.Names.{Names, format_of}
use Rattle.tdf_lang_tree.specs.declared.blocks.Member.{Member}
use Rattle.tdf_lang_tree.specs.declared.blocks.Member.TheVariants as member
use Rattle.tdf_lang_tree.specs.declared.names.Lit.{Lit}
use Rattle.tdf_lang_tree.specs.declared.shapes.FormatRef.{FormatRef}
use Rattle.tdf_lang_tree.specs.declared.shapes.Shape.{Shape}
use Rattle.tdf_bind_hierarchy.specs.declared.blocks.SignalLine.{SignalLine}

-- a line that declares a signal: of samples, or of events with the literal of its first value
pub record Declared : Type 0 where
  pub name : List ℕ
  pub format : FormatRef
  pub start : Option Lit

abbrev pub declared_by : Member → List Declared
declared_by (member.Signal line name x) =
    record { name = name; format = x; start = None } ∷ []
declared_by (member.DeSignal line name x start) =
    record { name = name; format = x; start = Some start } ∷ []
declared_by _ = []

-- the format that a line writes
pub record IsFormatOf (shape : Shape) (f : Format) : Type 0 where
  pub signed : f.signed ≡ shape.signed
  pub wl : f.wl ≡ shape.wl
  pub iwl : f.iwl ≡ shape.iwl
  pub quant : f.quant ≡ shape.quant
  pub over : f.over ≡ shape.over

abbrev pub zero_of : Format → Raw
zero_of f = record { num = pos 0; frac = fraction_of f }

abbrev pub literal_text : Lit → List ℕ
literal_text v = if v.minus then 45 ∷ v.digits else v.digits

abbrev pub or_zero : Format → Result Raw DecimalErr → Raw
or_zero f (Ok raw) = raw
or_zero f (Err fault) = zero_of f

-- the first value of a signal: its literal, cast to its format
abbrev pub start_sample : Format → Option Lit → Raw
start_sample f None = zero_of f
start_sample f (Some v) = or_zero f (decimal_of f (literal_text v))

abbrev pub is_event : Option Lit → Bool
is_event None = false
is_event (Some v) = true

-- a signal is that of its line; the format is that of the line where it is one
pub record IsSignal (globals : Names) (d : Declared) (s : SignalLine) : Type 0 where
  pub event : s.event ≡ is_event d.start
  pub name : s.name ≡ d.name
  pub format : (shape : Shape) → format_of globals d.format ≡ Some shape
      → IsLegal shape.wl shape.iwl → IsFormatOf shape s.format
  pub start : s.start ≡ start_sample s.format d.start
