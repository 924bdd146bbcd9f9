pub mod Laws
pub mod Numbered
pub mod NumberedForms
pub mod machine
