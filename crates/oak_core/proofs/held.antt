-- The headers that passes hold: their records, keys and names.
pub mod UnnamedHeaders
pub mod NamedLives
pub mod LockKeys
pub mod LocksEnded
pub mod UnlinkedHolds
pub mod HeldTruths
pub mod LocksHeader
pub mod RelabelledHeaders
pub mod KeyedHolds
pub mod FewPins
pub mod HeaderStanding
pub mod RewordedKeys
pub mod HeldInside
pub mod HeldFields
pub mod HeldRowLaws
