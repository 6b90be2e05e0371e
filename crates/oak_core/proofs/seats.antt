-- Passes: how they are numbered, split and joined, and when one is alone.
pub mod GivenNumbers
pub mod JoinedNumbers
pub mod Allowed
pub mod Splits
pub mod LoneSplits
pub mod Owing
pub mod Alone
pub mod SamePass
pub mod AloneLast
pub mod AloneRuns
