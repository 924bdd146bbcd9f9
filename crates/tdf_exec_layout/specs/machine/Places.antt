-- How the places of ports are counted.
-- Source: own.
use Rattle.std.specs.Prelude.{◌≡◌, ◌<◌, ℕ, List, filter, length, nat_eq, slice_index, take}
use Rattle.tdf_streams.specs.Places.{place_of_port}
use Rattle.tdf_bind_connections.specs.declared.modules.PortRow.{PortRow}

-- how many of some ports are those of a module
abbrev pub count_of : List PortRow → ℕ → ℕ
count_of ports m = length (filter (λ (port : PortRow). nat_eq port.«module» m) ports)

-- the first n ports have their places, those of each module are counted, and each port has room
pub record PlacesUpTo (modules : ℕ) (ports : List PortRow) (n : ℕ) (counts places : List ℕ)
    : Type 0 where
  pub many : length counts ≡ modules
  pub counted : (m : ℕ) → m < modules → slice_index counts m ≡ count_of (take n ports) m
  pub long : length places ≡ length ports
  pub each : (j : ℕ) → j < n → slice_index places j ≡ place_of_port ports j
