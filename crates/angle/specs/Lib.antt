-- The definitions that the contracts of `angle` cite.
pub mod Turn
