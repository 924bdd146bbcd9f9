mod Blanks
mod Standing
