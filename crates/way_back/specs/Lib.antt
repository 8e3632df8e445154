-- The root of the crate's definitions.
pub mod Ways
