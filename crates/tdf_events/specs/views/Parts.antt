-- What the parts of a kernel stand for.
-- Source: own.
use Rattle.std.specs.Prelude.{false}
use Rattle.tdf_events.specs.Kernel.{KernelOf}
use Rattle.tdf_events.specs.declared.parts.Parts.{Parts}

abbrev pub kernel_of : Parts → KernelOf
kernel_of parts = record {
  values = parts.values.items;
  frames = parts.frames.items;
  ports = parts.ports.items;
  notices = parts.notices;
  triggered = parts.triggered;
  waiting = parts.waiting;
  by_signal = parts.by_signal;
  by_event = parts.by_event;
  own_events = parts.own_events;
  spent = false;
}
