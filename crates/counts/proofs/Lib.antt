-- `Blocking`: what the counts say of the definitions.
pub mod Blocking
