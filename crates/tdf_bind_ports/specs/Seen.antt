-- What a fault of the code stands for (own).
use Rattle.tdf_bind_ports.specs.Faults.{Wrong, UnknownPort, TwiceBound, Mismatch, Unbound, LinkFault}
use Rattle.tdf_bind_ports.specs.declared.first.LinkFault.{LinkFault as HeldFault}
use Rattle.tdf_bind_ports.specs.declared.first.Wrong.{Wrong as Held}
use Rattle.tdf_bind_ports.specs.declared.first.Wrong.TheVariants as held

abbrev pub seen_wrong : Held → Wrong
seen_wrong held.UnknownPort = UnknownPort
seen_wrong held.TwiceBound = TwiceBound
seen_wrong held.Mismatch = Mismatch
seen_wrong (held.Unbound port) = Unbound port.now

abbrev pub seen_fault : HeldFault → LinkFault
seen_fault f = record { line = f.line; wrong = seen_wrong f.wrong }
