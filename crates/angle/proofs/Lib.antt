-- What the crates above `angle` may cite of its proofs.
pub mod Laws
pub mod Only
