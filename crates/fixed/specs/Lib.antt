-- The definitions that the contracts of `fixed` cite.
pub mod Floor
pub mod Scaled
pub mod Within
pub mod Root
