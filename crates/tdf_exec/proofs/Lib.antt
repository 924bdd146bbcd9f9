mod Acting
pub mod Api
mod Asks
mod Begins
mod Boundaries
mod Changing
mod Continued
mod Counting
mod Counts
mod Crosses
mod Elsewhere
mod Empty
mod EndPorts
mod Ends
pub mod Entries
mod Few
mod Fires
mod Flags
mod Formed
mod Gains
mod Giving
pub mod Greatest
mod Held
mod InTurn
mod Installing
mod Keeping
mod Kept
mod Marks
mod Moved
mod Moves
mod Nexts
mod Numbered
mod Others
mod Own
pub mod Owned
mod Planned
pub mod Playing
mod Rates
mod Restarts
mod Restoring
mod Resumed
mod Rooms
mod Rows
mod Runs
mod Safe
mod Stepping
mod Sums
mod Taking
pub mod Totals
mod Traffic
