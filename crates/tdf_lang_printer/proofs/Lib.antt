pub mod Api
mod Texts
mod StmtTexts
mod BlockTexts
