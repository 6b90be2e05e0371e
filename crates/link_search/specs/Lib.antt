pub mod Bits
pub mod Met
pub mod Linked
pub mod Ties
pub mod Walks
pub mod Finds
pub mod Nearest
pub mod Adds
