-- For crates above: Fields has the law that a name field is its name and zeros, Places that a place of a table is one that
-- `lay_name` takes. Bytes and Dots serve this crate alone.
mod Bytes
mod Dots
pub mod Fields
pub mod Places
