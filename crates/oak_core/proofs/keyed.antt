-- The points on keys, behind each kind of step.
pub mod Levels
pub mod KeyFrames
pub mod KeyLoads
pub mod KeyPlaces
pub mod KeysCounted
pub mod KeysUnnamed
pub mod KeysStored
pub mod UnchangedLocks
pub mod SeatsAgree
pub mod GainedKeys
pub mod KeysAfter
pub mod SeatBundles
pub mod DroppedKeys
pub mod KeyBundles
pub mod UnnamedBundles
pub mod StoredFields
pub mod GapKeys
