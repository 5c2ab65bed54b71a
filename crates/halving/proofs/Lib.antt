-- The laws of halving that the crates above cite.
pub mod Laws
pub mod Loop
pub mod Alike
pub mod Among
pub mod Foretold
pub mod Cells
pub mod Only
