-- Noted and Settled are about the table of the tree, Folders and Facts about the functions' cases.
mod Noted
mod Settled
mod Folders
mod Facts
