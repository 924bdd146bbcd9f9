pub mod Results
pub mod Scaled
pub mod Solution
