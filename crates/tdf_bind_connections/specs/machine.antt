-- How the code of this crate works.
pub mod BlockSteps
pub mod DriverSteps
pub mod EdgeSteps
pub mod ModuleSteps
pub mod TraceSteps
pub mod WriterSteps
