pub mod Cause
pub mod Memory
pub mod Std
pub mod Taken
pub mod Whole
