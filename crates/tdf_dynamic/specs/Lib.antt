pub mod Asked
pub mod Below
pub mod Change
pub mod Given
pub mod Laws
pub mod Next
pub mod Ports
pub mod machine
