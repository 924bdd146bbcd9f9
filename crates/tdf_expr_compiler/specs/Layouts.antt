-- Where the values of each name of a block are kept (own).
use Rattle.std.specs.Prelude.{◌≡◌, ◌≤◌, ◌^◌, ℕ, length, Some, slice_get}
use Rattle.tdf_expr_compiler.specs.declared.layouts.Layout.{Layout}
use Rattle.tdf_expr_compiler.specs.declared.numbers.Numbers.{Numbers}
use Rattle.tdf_expr_semantics.specs.Places.{first_cell, first_sample, port_number, rate_number, event_number}
use Rattle.tdf_expr_symbols.specs.Names.{Names}

-- places within a number of 32 bits, with room above
pub record ArePlaces (p : Numbers) : Type 0 where
  pub cells : p.cell ≤ 2 ^ 31
  pub samples : p.sample ≤ 2 ^ 31
  pub ports : p.port ≤ 2 ^ 31

-- the numbers of the n-th name: how many of each kind come before it
pub record IsNumbered (own : Names) (n : ℕ) (p : Numbers) : Type 0 where
  pub cell : p.cell ≡ first_cell own n
  pub sample : p.sample ≡ first_sample own n
  pub port : p.port ≡ port_number own n
  pub rate : p.rate ≡ rate_number own n
  pub event : p.event ≡ event_number own n
  pub few : ArePlaces p

-- a layout has the numbers of each name of a block
pub record IsLayout (own : Names) (layout : Layout) : Type 0 where
  pub long : length layout.names.items ≡ length own.things
  pub each : (n : ℕ) (p : Numbers) → slice_get layout.names.items n ≡ Some p → IsNumbered own n p
