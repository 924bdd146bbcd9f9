-- The places of ports in their blocks, as a table.
-- Source: own.
use Rattle.std.specs.Prelude.{◌≡◌, ◌<◌, ℕ, List, length, slice_index}
use Rattle.tdf_streams.specs.Places.{place_of_port}
use Rattle.tdf_bind_connections.specs.declared.modules.PortRow.{PortRow}

-- one for each port
pub record ArePortPlaces (ports : List PortRow) (places : List ℕ) : Type 0 where
  pub long : length places ≡ length ports
  pub each : (n : ℕ) → n < length ports → slice_index places n ≡ place_of_port ports n
