mod Sums
mod NumberSums
mod SetBits
mod ByClass
mod KeyLaw
mod RisingPairs
mod MapSums
mod Used
mod Exact
mod Gathered
mod LoneSums
mod LoneBlocks
pub mod LoneHeaders
mod LoneTables
pub mod ValuedRooms
pub mod TableCounts
pub mod MapChanges
pub mod LoneMaps
pub mod RoomCounts
pub mod KeyBlocks
