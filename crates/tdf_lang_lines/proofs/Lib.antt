pub mod Api
pub mod CutLaws
pub mod Decided
pub mod FormReads
pub mod KeepLaws
pub mod KindLaws
pub mod ReadForms
