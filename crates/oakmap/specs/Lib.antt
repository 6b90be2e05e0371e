pub mod Commands
pub mod Messages
pub mod RunOf
pub mod Ends
pub mod InputLength
pub mod LentRun
