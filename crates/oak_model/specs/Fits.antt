-- When a reply fits a key's history at a place.
use Rattle.std.specs.Prelude.{◌≡◌, ℕ, ◌-◌, ◌<◌, ◌≤◌, List, length, Some, MatchBool, IsSomeAnd}
use Rattle.std.specs.List.{slice_get}
use Rattle.oak_model.specs.declared.writes.Write.{Write}
use Rattle.oak_model.specs.declared.cells.CellCall.{CellCall}
use Rattle.oak_model.specs.declared.cells.CellReply.{CellReply}
use Rattle.oak_model.specs.Cell.{reply_of, state_after, is_write, kind_of}
use Rattle.oak_model.specs.History.{History, state_at}

-- the r-th write is this caller's call, and the reply and the state behind it are the cell's
pub record WriteFits (h : History) (caller call : ℕ) (ask : CellCall) (reply : CellReply) (r : ℕ) : Type 0 where
  pub first : 0 < r
  pub last : r ≤ length h
  pub write : IsSomeAnd (slice_get h (r - 1)) (λ (w : Write). (w.caller ≡ caller) × (w.call ≡ call) × (kind_of ask ≡ Some w.kind))
  pub answer : reply_of (state_at h (r - 1)) ask ≡ reply
  pub after : state_after (state_at h (r - 1)) ask ≡ state_at h r

-- the reply is the cell's on the state at r
pub record ReadFits (h : History) (ask : CellCall) (reply : CellReply) (r : ℕ) : Type 0 where
  pub last : r ≤ length h
  pub answer : reply_of (state_at h r) ask ≡ reply

-- the reply of a caller's call fits at the place r
abbrev pub ReplyFits : History → ℕ → ℕ → CellCall → CellReply → ℕ → Type 0
ReplyFits h caller call ask reply r = MatchBool (is_write reply) (WriteFits h caller call ask reply r) (ReadFits h ask reply r)
