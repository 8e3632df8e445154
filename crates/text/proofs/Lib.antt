-- The laws of texts in a buffer, which the crates above cite too.
pub mod Chain
pub mod Lines
pub mod Spelt
