-- The definitions that the contracts of `geometry` cite.
pub mod Prepared
pub mod Sound
pub mod Placed
pub mod Hidden
pub mod Visible
pub mod Sight
pub mod Elsewhere
