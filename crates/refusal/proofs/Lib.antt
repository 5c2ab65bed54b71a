-- The laws that the crates above cite.
pub mod Order
pub mod Only
