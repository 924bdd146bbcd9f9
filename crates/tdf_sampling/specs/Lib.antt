pub mod Order
pub mod Choice
pub mod Statistics
pub mod Laws
pub mod machine
