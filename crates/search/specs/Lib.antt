-- The root of the crate's definitions.
pub mod Places
pub mod Search
