-- The definitions of the interval record.
pub mod Record
