mod AddedKeys
mod FoundEntries
mod StillPinned
