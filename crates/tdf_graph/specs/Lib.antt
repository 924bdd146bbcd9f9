pub mod Clusters
pub mod Counts
pub mod Laws
pub mod Parts
pub mod Ranges
pub mod views
