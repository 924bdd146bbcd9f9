pub mod Laws
pub mod Members
pub mod Text
pub mod Start
pub mod machine
