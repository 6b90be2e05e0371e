mod LendingTests
mod TestLaws
