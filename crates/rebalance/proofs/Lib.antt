pub mod AwayFromPins
pub mod LoadedBounds
pub mod RangeKeys
pub mod LeastKey
pub mod HeldMemory
pub mod HeldParts
pub mod StoredMemory
pub mod SameWords
mod LoneStores
pub mod RoomWorks
pub mod RoomStores
pub mod CarriedEntries
pub mod KeysDropped
pub mod AppendLaws
pub mod BoundLaws
pub mod DropLaws
pub mod StoredWords
pub mod ClearLaws
pub mod FillLaws
pub mod LinkedCopies
pub mod PassedOnes
pub mod ReadLaws
pub mod SortLaws
pub mod WalkLaws
pub mod AlongLaws
pub mod ReadSorted
pub mod CompactedMirrors
pub mod DroppedRange
pub mod FilledCopies
pub mod FilledChains
pub mod HeldRoomFacts
pub mod JoinedRanges
pub mod MergedMirrors
pub mod MiddleBounds
pub mod MirroredEntries
pub mod NeverRuns
mod RoomExchanges
mod RangesStand
mod MirroredRooms
mod FrozenRooms
mod HeldAlone
mod ClaimedRooms
pub mod OtherClaims
mod TakenRooms
mod OpenedRooms
mod OpensWhole
mod HeldBeside
pub mod HeldRows
pub mod HeldSlots
pub mod Sorting
pub mod MomentRanges
pub mod RebalancedRooms
pub mod RoomsBeside
pub mod SlotKeys
pub mod SplitOpens
pub mod SweptKeys
mod TakenChunks
mod NeighbourChunks
mod MergedChunks
mod JoinedRooms
mod SettledKeys
mod SettledWords
mod TwoHeldRooms
pub mod LoneChunks
mod LonePins
mod LoneTakes
mod SettledCalls
mod CountedChunks
pub mod SweptRooms
pub mod FrontRooms
pub mod FrontCompacts
pub mod KeysCleared
pub mod TakenRanges
pub mod FrontRewrites
pub mod ListedRows
pub mod BusyParts
pub mod Repeated
pub mod ChunkLaws
pub mod FrontLaws
pub mod CompactCalls
pub mod FrontReads
pub mod ReopenedChunks
pub mod WholeRooms
pub mod LoneSteps
pub mod HeldPairs
pub mod ValuedRanges
pub mod ChainedFronts
mod LoneHalves
pub mod HalvedRooms
mod LoneSplits
pub mod SplitCalls
mod CopyBases
mod GivenUp
