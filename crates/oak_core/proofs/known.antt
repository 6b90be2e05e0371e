-- What a pass knows of headers, lives, places and keys, and remembers.
pub mod KnownLaws
pub mod PinsKnown
pub mod KnownKeys
pub mod LoadedIn
pub mod RemovedReads
pub mod RemovalsKnown
pub mod KnownHeaders
pub mod KnowledgeAfter
pub mod SeenMore
pub mod KnownTaught
pub mod KnownPlaces
pub mod Remembering
pub mod KnownReads
pub mod KnownHere
pub mod KnownInTwo
pub mod LoadedLives
pub mod KnownLives
