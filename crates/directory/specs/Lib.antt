-- Fields are names in a log, Places names in a table, Standing what an index tells of a log's names, Folds what reading them answers.
pub mod Fields
pub mod Places
pub mod Standing
pub mod Folds
