-- That the contracts of `door_c` leave one answer.
pub mod Only
