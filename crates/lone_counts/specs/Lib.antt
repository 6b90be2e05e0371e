pub mod Maps
pub mod Lacks
pub mod LoneTable
pub mod Exactly
pub mod Counted
pub mod Entries
pub mod Premises
