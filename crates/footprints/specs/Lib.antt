-- What the contracts say of the cells under a building, over the definitions of `model`.
pub mod Cells
