-- The root of the crate's laws.
pub mod Packed
