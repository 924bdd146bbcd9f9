-- The ports of the modules of a flat model, with the formats of the signals that they reach.
-- Source: own.
use Rattle.std.specs.Prelude.{◌≡◌, ◌≤◌, ℕ, List, [], Option, Some, None, All, filter, length, nat_eq, option_map, slice_get, take}
use Rattle.tdf_bind_tables.specs.FlatTables.{FlatTablesOf}
use Rattle.tdf_expr_blocks.specs.Types.{type_faults}
use Rattle.tdf_expr.specs.Frames.{IsOfFormat}
use Rattle.tdf_expr.specs.Made.{port_spans_of}
use Rattle.tdf_expr.specs.declared.spans.PortSpan.{PortSpan}
use Rattle.tdf_fixed.specs.declared.format.Format.{Format}
use Rattle.tdf_fixed.specs.declared.raw.Raw.{Raw}
use Rattle.tdf_bind.specs.Flat.{IsFlatOf}
use Rattle.tdf_bind.specs.declared.model.Flat.{Flat}
use Rattle.tdf_bind_invariants.specs.Limits.{limits_in, times_value}
use Rattle.tdf_bind_ports.specs.Ports.{ports_of_composite}
use Rattle.tdf_expr_semantics.specs.Fits.{RatesFit}
use Rattle.tdf_expr_names.specs.Names.{name_faults}
use Rattle.tdf_lang_tree.specs.Kept.{IsKept}
use Rattle.tdf_lang_tree.specs.Pure.{PureTree}
use Rattle.tdf_lang_tree.specs.declared.blocks.PortKind.{PortKind}
use Rattle.tdf_lang_tree.specs.declared.blocks.PortKind.TheVariants.{In, Out, DeIn, DeOut}
use Rattle.tdf_bind_connections.specs.declared.drivers.SignalRow.{SignalRow}
use Rattle.tdf_bind_connections.specs.declared.modules.ModuleRow.{ModuleRow}
use Rattle.tdf_bind_connections.specs.declared.modules.PortRow.{PortRow}

-- the format of the signal of a number: of samples, or an event signal
abbrev pub format_of_row : Option SignalRow → Option Format
format_of_row row = option_map (λ (s : SignalRow). s.format) row

abbrev pub signal_format : FlatTablesOf → PortKind → ℕ → Option Format
signal_format tables In number = format_of_row (slice_get tables.signals number)
signal_format tables Out number = format_of_row (slice_get tables.signals number)
signal_format tables DeIn number = format_of_row (slice_get tables.de_signals number)
signal_format tables DeOut number = format_of_row (slice_get tables.de_signals number)

-- the place of a port in its block: how many ports of its module come before it
abbrev pub module_of_row : Option PortRow → ℕ
module_of_row None = 0
module_of_row (Some port) = port.«module»

abbrev pub module_of_port : List PortRow → ℕ → ℕ
module_of_port ports number = module_of_row (slice_get ports number)

abbrev pub place_of_port : List PortRow → ℕ → ℕ
place_of_port ports number = length (filter
    (λ (port : PortRow). nat_eq port.«module» (module_of_port ports number)) (take number ports))

-- a port of a module is the one at its place in the module's block: with its word, with the format
-- of the signal that it reaches, with as many samples as its rate may be at most, and with initial
-- samples of this format
pub record IsOwnPort (flat : Flat) (number : ℕ) (port : PortRow) : Type 0 where
  pub row : ModuleRow
  pub module_is : slice_get flat.tables.modules port.«module» ≡ Some row
  pub span : PortSpan
  pub at : slice_get (port_spans_of flat.checked row.block)
      (place_of_port flat.tables.ports number) ≡ Some span
  pub word : span.word ≡ port.kind
  pub format : signal_format flat.tables port.kind port.signal ≡ Some span.format
  pub wide : (values : List ℕ) → RatesFit (limits_in flat.checked (Some row)) values
      → times_value port.rate.times values port.rate.var ≤ span.count
  pub initials : All (λ (given : ℕ × Raw). IsOfFormat span.format given.1) port.initials

-- a model that passes its checks, and whose `top` has no ports
pub record IsSoundModel (model : PureTree) : Type 0 where
  pub kept : IsKept model
  pub names : name_faults model ≡ []
  pub types : type_faults model ≡ []
  pub closed : ports_of_composite model.top ≡ []

-- so are all ports of the flat model of a sound model
abbrev pub PortsHaveFormats : Type 0
PortsHaveFormats = (model : PureTree) (flat : Flat) → IsSoundModel model → IsFlatOf model flat
    → (number : ℕ) (port : PortRow) → slice_get flat.tables.ports number ≡ Some port
    → IsOwnPort flat number port
