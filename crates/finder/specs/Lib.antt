-- The definitions of the list, over any yes/no answer and whatever tells why.
pub mod Samples
pub mod Spans
pub mod Asked
pub mod Flags
pub mod Records
pub mod Fits
pub mod State
pub mod Asking
