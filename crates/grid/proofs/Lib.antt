-- `Boxes`: a rectangle's indicator and its stamp. `Passes`: the running sums. `Uses`: what a caller starts and ends with.
pub mod Boxes
pub mod Passes
pub mod Uses
