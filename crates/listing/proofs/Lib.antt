-- Decimals: numbers as text. Putting and Lines: bytes, numbers and lines put into the text. Files: the names of inode 0, and where they
-- lead. Names: the loop over the names. Fits: every listing has room. Text: what a volume's listing is.
mod Decimals
mod Putting
mod Lines
mod Files
mod Names
mod Fits
mod Text
