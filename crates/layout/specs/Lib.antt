-- Kind has the type words of a file and of a folder, Options what a search of the code answered.
pub mod Kind
pub mod Options
