-- The root of the crate's definitions.
pub mod Answer
pub mod Trails
