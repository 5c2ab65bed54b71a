-- The laws of the list, over any yes/no answer and whatever tells why.
pub mod Samples
pub mod OneStep
pub mod Edged
pub mod Flags
pub mod Records
pub mod Counts
pub mod Fits
pub mod Advanced
pub mod Going
pub mod Listed
pub mod Only
pub mod Asked
pub mod Neighbours
pub mod Reasons
