-- In how many of the states in which a pass may hold a header it is, and in how many with a block.
use Rattle.std.proofs.Common.{◌≡◌, ℕ, ◌+◌, ◌<◌, ◌≤◌, arith}
use Rattle.oak_model.specs.Counts.{one_at}
use Rattle.oak_model.proofs.Counting.{one_at-same, one_at-other, one_at-cases, one_at-le}
use Rattle.header_core.specs.declared.states.TheConstants.{OWNED, LIVE, LOCKED, DEAD, RETIRED}
use Rattle.header_core.specs.HeaderRule.{stocked}
use Rattle.header_core.proofs.HeaderLaws.{unstocked}

-- a header is in one state at most

pub stocked_le : (s : ℕ) → stocked s ≤ 1
stocked_le s = one_at-cases s LIVE (λ k. k + one_at s LOCKED + one_at s DEAD ≤ 1)
    (λ e. let a = one_at-other s LOCKED (λ q. omega arith) in let b = one_at-other s DEAD (λ q. omega arith) in omega arith)
    (λ n. one_at-cases s LOCKED (λ k. 0 + k + one_at s DEAD ≤ 1) (λ e. let b = one_at-other s DEAD (λ q. omega arith) in omega arith) (λ _. let b = one_at-le s DEAD in omega arith))

pub held_le : (s : ℕ) → one_at s OWNED + stocked s ≤ 1
held_le s = one_at-cases s OWNED (λ k. k + stocked s ≤ 1) (λ e. let u = unstocked s (omega arith) in omega arith) (λ _. let l = stocked_le s in omega arith)

-- a live, a locked and a dead one has a block
pub stocked_high : (s : ℕ) → LIVE ≤ s → s < RETIRED → stocked s ≡ 1
stocked_high s above low = one_at-cases s LIVE (λ k. k + one_at s LOCKED + one_at s DEAD ≡ 1)
    (λ e. let a = one_at-other s LOCKED (λ q. omega arith) in let b = one_at-other s DEAD (λ q. omega arith) in omega arith)
    (λ n. one_at-cases s LOCKED (λ k. 0 + k + one_at s DEAD ≡ 1) (λ e. let b = one_at-other s DEAD (λ q. omega arith) in omega arith) (λ ne. let b = one_at-same s DEAD (omega arith) in omega arith))
