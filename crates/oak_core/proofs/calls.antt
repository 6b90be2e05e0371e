-- What a call met, lacked and made, over its steps.
pub mod ClosedReads
pub mod Found
pub mod Growing
pub mod MetMore
pub mod FoundThere
pub mod Lacked
pub mod QuietCalls
pub mod ClosedFulls
pub mod CallSteps
