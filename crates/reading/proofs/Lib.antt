-- Answers has the cases of the calls that read a file, Folders those of the calls that read a folder.
mod Answers
mod Folders
