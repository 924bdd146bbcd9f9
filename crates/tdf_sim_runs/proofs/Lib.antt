mod Clock
mod GoingOn
mod Judged
mod OfRun
mod Parting
mod Refused
mod ReopenedTelling
mod Reopening
mod Snapshot
mod Telling
pub mod Advancing
pub mod Answering
pub mod Api
pub mod AtStop
pub mod Beginning
pub mod Below
pub mod Counting
pub mod Dues
pub mod Ended
pub mod Finishing
pub mod Handed
pub mod Handing
pub mod Keeping
pub mod Known
pub mod Leading
pub mod Marking
pub mod Noting
pub mod Onward
pub mod Opening
pub mod Plans
pub mod Reaching
pub mod Resting
pub mod RunStands
pub mod Staying
pub mod Stepping
pub mod Told
pub mod Waited
pub mod Waiting
pub mod WholeRun
pub mod Written
