-- The laws of the interval record.
pub mod Laws
pub mod Only
