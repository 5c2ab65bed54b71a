-- That the marked cases hold.
pub mod Hold
