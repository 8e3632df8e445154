-- The laws that the functions' proofs cite.
pub mod Centers
pub mod Neighbours
pub mod Corners
pub mod Codes
pub mod Frontier
pub mod Noted
pub mod Entering
pub mod Moves
pub mod Stepping
pub mod Trying
