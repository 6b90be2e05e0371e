-- Calls that give up, since another pass has the room that they would hold alone.
use Rattle.std.specs.Prelude.{◌≡◌, ℕ, ◌+◌, ◌≤◌, ◌⊎◌, List, length, Some}
use Rattle.oak_model.specs.Key.{IsKey}
use Rattle.oak_model.specs.KeyNumber.{key_number}
use Rattle.oak_model.specs.Limits.{Sizes}
use Rattle.chunk_core.specs.declared.holds.RoomCopy.{RoomCopy}
use Rattle.chunk_core.specs.KeyWords.{high_bytes}
use Rattle.chunk_core.specs.Spans.{within}
use Rattle.oak_core.specs.declared.states.PassState.{PassState}
use Rattle.oak_core.specs.AloneWords.{Runs}
use Rattle.oak_core.specs.PassState.{HoldsNothing}
use Rattle.chunk_ops.specs.AskedRanges.{CoversKey}
use Rattle.chunk_ops.specs.AddsAlone.{Never}
use Rattle.chunk_ops.specs.RoomPins.{FoundMoved}
use Rattle.rebalance.specs.Calls.{ComesToHold, Leaves, Rewrites}
use Rattle.rebalance.specs.Copies.{copy_span}
use Rattle.rebalance.specs.Holding.{IsBusy}
use Rattle.rebalance.specs.Merging.{SweepsBelow}

-- the pass came to hold the room in the call, with a range without the key
pub record HoldsOff (z : Sizes) (call : ℕ) (key : List ℕ) (r : ℕ) (v w : PassState) : Type 0 where
  pub copy : RoomCopy
  pub came : ComesToHold z call r copy v w
  pub off : within (copy_span copy) (key_number key) ≡ 1 → ⊥

-- The chunk of the key was not to be had: each room was found not open or without the key, or one was frozen by another pass, or pinned at each of so many looks, or held without the key.
abbrev pub IsBusyFor : Sizes → ℕ → ℕ → List ℕ → PassState → PassState → Type 0
IsBusyFor z call looks key v w = FoundMoved z call (CoversKey key) v w ⊎ ((r : ℕ) × (IsBusy z call looks r v w ⊎ HoldsOff z call key r v w))

-- the call swept no range, but it may have done so where it came to hold a room without the key
abbrev pub SweepsOff : Sizes → ℕ → List ℕ → PassState → PassState → Type 0
SweepsOff z call key v w = (w.findings.swept ≡ v.findings.swept) ⊎ ((r : ℕ) × HoldsOff z call key r v w)

-- The call gave up. The pass only met more, all of it in the call: it wrote and learned nothing, holds what it held, which is nothing, and claimed no room, nor tried to.
pub record GivesUpRewriting (z : Sizes) (call looks : ℕ) (key : List ℕ) (v w : PassState) : Type 0 where
  pub busy : IsBusyFor z call looks key v w
  -- no range was swept, but of a room that it held without the key
  pub swept : SweepsOff z call key v w
  pub leaves : Leaves call v w
  pub unclaimed : w.findings.rebalances.claims ≡ v.findings.rebalances.claims
  -- it wrote nothing, and its pass holds nothing
  pub unwritten : w.knowledge.mine ≡ v.knowledge.mine
  pub idle : HoldsNothing w
  -- to a pass that is alone
  pub alone : Runs Never v w

-- ---- where two chunks are wanted, or each

-- the call rewrote the chunk of the key, and the one above it was not to be had
pub record IsBusyAbove (z : Sizes) (call looks : ℕ) (key : List ℕ) (v w : PassState) : Type 0 where
  pub room : ℕ
  pub held : RoomCopy
  pub opened : RoomCopy
  pub rewrites : Rewrites z call key room held opened v w
  pub above : List ℕ
  pub begins : high_bytes held.high ≡ Some above
  pub busy : IsBusyFor z call looks above v w

-- one of the two was not
abbrev pub IsBusyAt : Sizes → ℕ → ℕ → List ℕ → PassState → PassState → Type 0
IsBusyAt z call looks key v w = IsBusyFor z call looks key v w ⊎ IsBusyAbove z call looks key v w

-- merge gave up, and left what a call leaves that gave up
pub record GivesUpMerging (z : Sizes) (call looks : ℕ) (key : List ℕ) (v w : PassState) : Type 0 where
  pub busy : IsBusyAt z call looks key v w
  pub leaves : Leaves call v w
  pub unclaimed : w.findings.rebalances.claims ≡ v.findings.rebalances.claims
  -- it wrote nothing, and its pass holds nothing
  pub unwritten : w.knowledge.mine ≡ v.knowledge.mine
  pub idle : HoldsNothing w
  -- to a pass that is alone
  pub alone : Runs Never v w

-- the call swept as many ranges as the table has rooms
abbrev pub SweepsAsMany : Sizes → PassState → PassState → Type 0
SweepsAsMany z v w = length v.findings.swept + z.chunks ≤ length w.findings.swept

-- So did settle. Each key below this one is in a range that was swept in the call, and there a chunk was not to be had, or the call had swept as many ranges as the table has rooms.
pub record GivesUpSettling (z : Sizes) (call looks : ℕ) (v w : PassState) : Type 0 where
  pub from : List ℕ
  pub is_key : IsKey from
  pub below : SweepsBelow from v w
  pub busy : IsBusyAt z call looks from v w ⊎ SweepsAsMany z v w
  pub leaves : Leaves call v w
  pub unclaimed : w.findings.rebalances.claims ≡ v.findings.rebalances.claims
  -- it wrote nothing, and its pass holds nothing
  pub unwritten : w.knowledge.mine ≡ v.knowledge.mine
  pub idle : HoldsNothing w
  -- to a pass that is alone
  pub alone : Runs Never v w
