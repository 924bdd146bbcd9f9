-- The numbers of the answers (own).
use Rattle.std.specs.Prelude.{ℕ}
use Rattle.tdf_cli.specs.declared.status.Status.{Status}
use Rattle.tdf_cli.specs.declared.status.Status.TheVariants.{Done, Refused, Usage, ReadFault, Stopped, Spent, TooLong, StopTooLong, StateTooLong, BadState, StopTooEarly}

-- words that are not accepted
abbrev pub usage : ℕ
usage = 2

abbrev pub status_number : Status → ℕ
status_number Done = 0
status_number Refused = 1
status_number Usage = usage
status_number ReadFault = 3
status_number Stopped = 5
status_number Spent = 6
status_number TooLong = 8
status_number StopTooLong = 9
status_number StateTooLong = 10
status_number BadState = 11
status_number StopTooEarly = 12

-- a write failed
abbrev pub write_fault : ℕ
write_fault = 4

-- out of memory
abbrev pub no_memory : ℕ
no_memory = 7
