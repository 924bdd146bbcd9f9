-- What the bodies of one block read and change (own): its variables, its rates, the samples of its
-- ports, and what its statements asked for.
use Rattle.std.specs.Prelude.{ℕ, Bool, true, List, Option, Some, None, ℤ, pos, min, slice_get, slice_set, slice_index_or}

-- what stays from one activation to the next
pub record FrameState : Type 0 where
  -- the values of the variables and of the elements of the arrays, in order of declaration,
  -- each in units of the last place of its format
  pub cells : List ℤ
  -- the values of the rate variables, in order of declaration
  pub rates : List ℕ

-- what one activation takes from outside and asks for
pub record PortsState : Type 0 where
  -- the samples of the ports, port after port, each with as many as its greatest rate,
  -- in units of the last place of the port's format
  pub samples : List ℤ
  -- port by port: whether a body assigned one of its samples
  pub assigned : List Bool
  -- event by event: the least time of its notifications
  pub notified : List (Option ℕ)
  -- the module, then port by port: the timestep that was given last
  pub steps : List (Option ℕ)
  -- the last accept (true) or reject (false)
  pub accepts : Option Bool
  -- whether a rate statement gave a value that isn't allowed
  pub out_of_range : Bool

pub record State : Type 0 where
  pub frame : FrameState
  pub ports : PortsState

-- both together
abbrev pub state_of : FrameState → PortsState → State
state_of frame ports = record { frame = frame; ports = ports }

-- the number at a place, 0 where there is none
abbrev pub cell_at : List ℤ → ℕ → ℤ
cell_at cells place = slice_index_or cells place (pos 0)

-- the earlier of a time and one from before
abbrev pub least_time : Option ℕ → ℕ → ℕ
least_time None after = after
least_time (Some before) after = min before after

-- what stands at a place, none where there is no such place
abbrev pub standing : Option (Option ℕ) → Option ℕ
standing None = None
standing (Some found) = found

-- one more notification of an event: the least time stays
abbrev pub noticed : List (Option ℕ) → ℕ → ℕ → List (Option ℕ)
noticed notified event after =
    slice_set notified event (Some (least_time (standing (slice_get notified event)) after))

-- a variable or an element has another value
abbrev pub with_cell : ℕ → ℤ → State → State
with_cell place num s = record {
  frame = record s.frame { cells = slice_set s.frame.cells place num };
  ports = s.ports;
}

-- a rate variable has another value
abbrev pub with_rate : (number value : ℕ) → State → State
with_rate number value s = record {
  frame = record s.frame { rates = slice_set s.frame.rates number value };
  ports = s.ports;
}

-- a port has another sample, by an assignment
abbrev pub with_sample : (port place : ℕ) → ℤ → State → State
with_sample port place num s = record {
  frame = s.frame;
  ports = record s.ports {
    samples = slice_set s.ports.samples place num;
    assigned = slice_set s.ports.assigned port true;
  };
}

-- a rate statement gave a value that isn't allowed
abbrev pub with_range_fault : State → State
with_range_fault s = record { frame = s.frame; ports = record s.ports { out_of_range = true } }

-- the module (place 0) or a port (place 1 + its number) was given a timestep
abbrev pub with_step : (place step : ℕ) → State → State
with_step place step s = record {
  frame = s.frame;
  ports = record s.ports { steps = slice_set s.ports.steps place (Some step) };
}

-- the rates were accepted or rejected
abbrev pub with_answer : Bool → State → State
with_answer accepted s = record {
  frame = s.frame;
  ports = record s.ports { accepts = Some accepted };
}

-- an event was notified, to come after a time
abbrev pub with_notice : (event after : ℕ) → State → State
with_notice event after s = record {
  frame = s.frame;
  ports = record s.ports { notified = noticed s.ports.notified event after };
}
