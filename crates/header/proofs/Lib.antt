-- Cases has the cases of this crate's functions.
mod Cases
