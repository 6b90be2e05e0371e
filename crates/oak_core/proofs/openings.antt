-- The rule at the start, and what stands from there until the first removal.
pub mod OpeningRooms
pub mod OpeningKeys
pub mod Reached
pub mod Opening
pub mod OpeningWords
pub mod OpeningBlocks
pub mod GenerationsStay
pub mod SinceOpening
pub mod ReopenedRoom
pub mod ReopenedSteps
pub mod ReopenedPass
