-- How the numbers of a block's names are counted.
use Rattle.std.specs.Prelude.{◌≡◌, ◌+◌}
use Rattle.tdf_expr_compiler.specs.Layouts.{ArePlaces}
use Rattle.tdf_expr_compiler.specs.declared.layouts.Tally.{Tally}
use Rattle.tdf_expr_compiler.specs.declared.numbers.Numbers.{Numbers}
use Rattle.tdf_expr_semantics.specs.Places.{cells_of, samples_of, ports_of, rates_of, events_of}
use Rattle.tdf_expr_symbols.specs.Names.{Names, Thing}

-- what one name has
abbrev pub counts_of : Names → Thing → Tally
counts_of own t = record {
  cells = cells_of t;
  samples = samples_of own t;
  ports = ports_of t;
  rates = rates_of t;
  events = events_of t;
}

-- the numbers of the next name
pub record IsNext (p : Numbers) (counts : Tally) (q : Numbers) : Type 0 where
  pub cell : q.cell ≡ p.cell + counts.cells
  pub sample : q.sample ≡ p.sample + counts.samples
  pub port : q.port ≡ p.port + counts.ports
  pub rate : q.rate ≡ p.rate + counts.rates
  pub event : q.event ≡ p.event + counts.events
  pub few : ArePlaces q
