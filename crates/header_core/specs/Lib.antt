pub mod Headers
pub mod HeaderHolds
pub mod HeaderRule
pub mod HeaderStep
