-- Where the values of a block's names are kept (own): variables and array elements, rate variables,
-- and the samples of ports, each in order of declaration.
use Rattle.std.specs.Prelude.{ℕ, zero, suc, ◌+◌, ◌<◌, List, [], ◌∷◌, Option, replicate}
use Rattle.std.specs.List.{flat_map}
use Rattle.tdf_expr_symbols.specs.Names.{Names, Thing, Var, Array, Port, RateVar, Event, shape_of}
use Rattle.tdf_expr_symbols.specs.Scope.{greatest_of}
use Rattle.tdf_lang_tree.specs.declared.shapes.Shape.{Shape}

-- how many cells a name has: one for a variable, one for each element of an array
abbrev pub cells_of : Thing → ℕ
cells_of (Var shape start) = 1
cells_of (Array shape size starts) = size
cells_of _ = 0

-- how many samples a name has: a port's greatest rate
abbrev pub samples_of : Names → Thing → ℕ
samples_of own (Port word shape rate delay) = greatest_of own rate
samples_of own _ = 0

abbrev pub ports_of : Thing → ℕ
ports_of (Port word shape rate delay) = 1
ports_of _ = 0

abbrev pub rates_of : Thing → ℕ
rates_of (RateVar least greatest start) = 1
rates_of _ = 0

abbrev pub events_of : Thing → ℕ
events_of Event = 1
events_of _ = 0

-- element k of a name is there; a bare name is its element 0
abbrev pub HasElement : Names → Thing → ℕ → Type 0
HasElement own (Var shape start) k = k < 1
HasElement own (Array shape size starts) k = k < size
HasElement own (Port word shape rate delay) k = k < greatest_of own rate
HasElement own t k = Unit {0}

-- a count, summed over the first n things
unfoldable pub before : (Thing → ℕ) → List Thing → ℕ → ℕ
before count [] n = 0
before count (x ∷ xs) zero = 0
before count (x ∷ xs) (suc n) = count x + before count xs n

-- a count, summed over all things
unfoldable pub total : (Thing → ℕ) → List Thing → ℕ
total count [] = 0
total count (x ∷ xs) = count x + total count xs

-- the number of the n-th name among those of its kind, and the place of its first cell or sample
abbrev pub first_cell : Names → ℕ → ℕ
first_cell own n = before cells_of own.things n

abbrev pub first_sample : Names → ℕ → ℕ
first_sample own n = before (samples_of own) own.things n

abbrev pub port_number : Names → ℕ → ℕ
port_number own n = before ports_of own.things n

abbrev pub rate_number : Names → ℕ → ℕ
rate_number own n = before rates_of own.things n

abbrev pub event_number : Names → ℕ → ℕ
event_number own n = before events_of own.things n

-- the format of each cell, and of each sample
abbrev pub cell_shapes : Names → List (Option Shape)
cell_shapes own = flat_map (λ t. replicate (cells_of t) (shape_of t)) own.things

abbrev pub sample_shapes : Names → List (Option Shape)
sample_shapes own = flat_map (λ t. replicate (samples_of own t) (shape_of t)) own.things

-- the limits of each rate variable
pub record RateLimits : Type 0 where
  pub least : ℕ
  pub greatest : ℕ

abbrev pub limits_of : Thing → List RateLimits
limits_of (RateVar least greatest start) = record { least = least; greatest = greatest } ∷ []
limits_of _ = []

abbrev pub rate_limits : Names → List RateLimits
rate_limits own = flat_map limits_of own.things
