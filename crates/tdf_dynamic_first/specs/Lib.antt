pub mod First
pub mod Laws
pub mod Text
pub mod machine
