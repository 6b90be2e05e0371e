-- The words of the table and its memory: where each part lies, and which words a step names.
pub mod Words
pub mod WordNumbers
pub mod HomeWords
pub mod MetLists
pub mod ArenaNames
pub mod ArenaPlaces
pub mod HeaderNames
pub mod RoomNames
pub mod RebalanceNames
pub mod RoomPlaces
pub mod FieldNames
pub mod LockNames
pub mod HeaderPlaces
pub mod OffsetPlaces
pub mod UsedWords
pub mod Frames
pub mod Refills
