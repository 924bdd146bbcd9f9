-- What is kept of the block of a number (own), and what is made for that block.
use Rattle.std.specs.Prelude.{◌≡◌, ℕ, ◌<◌, List, [], length, map, Option, Some, None, ℤ, slice_get}
use Rattle.tdf_expr.specs.Checked.{IsChecked}
use Rattle.tdf_expr.specs.Frames.{FrameSeen, PortsSeen}
use Rattle.tdf_expr.specs.Plans.{shape_written}
use Rattle.tdf_expr.specs.declared.blocks.Block.{Block}
use Rattle.tdf_expr.specs.declared.checked.Checked.{Checked}
use Rattle.tdf_expr.specs.declared.spans.PortSpan.{PortSpan}
use Rattle.tdf_expr.specs.declared.spans.RateSpan.{RateSpan}
use Rattle.tdf_fixed.specs.declared.format.Format.{Format}
use Rattle.tdf_expr_semantics.specs.Fits.{NumbersFit}

abbrev pub block_count : Checked → ℕ
block_count checked = length checked.blocks.items

abbrev pub formats_in : Option Block → List Format
formats_in None = []
formats_in (Some b) = b.cells.formats.items

abbrev pub starts_in : Option Block → List ℤ
starts_in None = []
starts_in (Some b) = b.cells.starts.items

abbrev pub block_rates : Option Block → List RateSpan
block_rates None = []
block_rates (Some b) = b.rates.items

abbrev pub spans_in : Option Block → List PortSpan
spans_in None = []
spans_in (Some b) = b.ports.spans.items

abbrev pub block_samples : Option Block → ℕ
block_samples None = 0
block_samples (Some b) = b.ports.samples

abbrev pub events_in : Option Block → ℕ
events_in None = 0
events_in (Some b) = b.events

-- the format of each variable and element, in order of declaration, and the value it starts with
abbrev pub cell_formats : Checked → ℕ → List Format
cell_formats checked number = formats_in (slice_get checked.blocks.items number)

-- as many numbers as it has variables and elements, each in the range of its format
abbrev pub CellsFit : Checked → (number : ℕ) → List ℤ → Type 0
CellsFit checked number nums = NumbersFit (map shape_written (cell_formats checked number)) nums

abbrev pub start_cells : Checked → ℕ → List ℤ
start_cells checked number = starts_in (slice_get checked.blocks.items number)

-- each rate variable, in order of declaration
abbrev pub rate_spans_of : Checked → ℕ → List RateSpan
rate_spans_of checked number = block_rates (slice_get checked.blocks.items number)

abbrev pub start_rates : Checked → ℕ → List ℕ
start_rates checked number = map (λ r. r.start) (rate_spans_of checked number)

-- each port, in order of declaration
abbrev pub port_spans_of : Checked → ℕ → List PortSpan
port_spans_of checked number = spans_in (slice_get checked.blocks.items number)

-- how many samples its ports have in all, and how many events it has
abbrev pub sample_count : Checked → ℕ → ℕ
sample_count checked number = block_samples (slice_get checked.blocks.items number)

abbrev pub event_count : Checked → ℕ → ℕ
event_count checked number = events_in (slice_get checked.blocks.items number)

-- the values and the ports are those of an instance of the block of this number
pub record AreMadeFor (checked : Checked) (number : ℕ) (frame : FrameSeen) (ports : PortsSeen)
    : Type 0 where
  pub made : IsChecked checked
  pub block : number < block_count checked
  pub formats : frame.formats ≡ cell_formats checked number
  pub rates : frame.rates ≡ rate_spans_of checked number
  pub ports_are : ports.spans ≡ port_spans_of checked number
  pub events : length ports.state.notified ≡ event_count checked number
