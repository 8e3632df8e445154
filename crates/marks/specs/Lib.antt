-- `Marks`: what a mark says, and what marking a window promises. `Passes`: what its loops promise one another.
pub mod Marks
pub mod Passes
