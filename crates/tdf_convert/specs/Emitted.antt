-- What sinks took becomes values for their signals (own).
use Rattle.std.specs.Prelude.{ℕ, List, Option, Some, None}
use Rattle.tdf_convert.specs.Links.{link_of}
use Rattle.tdf_convert.specs.declared.links.Link.{Link}
use Rattle.tdf_convert.specs.declared.outputs.Sent.{Sent}
use Rattle.tdf_convert.specs.declared.writes.SignalWrite.{SignalWrite}

abbrev pub signal_in : Option Link → ℕ
signal_in None = 0
signal_in (Some l) = l.signal

-- the value of a sink, under the number of its signal
abbrev pub write_of_sent : List Link → Sent → SignalWrite
write_of_sent links s = record { signal = signal_in (link_of links s.actor); value = s.value }
