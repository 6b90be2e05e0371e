pub mod Arena
pub mod HeldBlocks
pub mod Place
pub mod Blocks
pub mod ArenaStep
pub mod Words
