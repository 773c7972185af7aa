-- The cases of format and of carry out.
mod Formatting
mod Carrying
