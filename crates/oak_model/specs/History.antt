-- A key's history: its writes in the order in which they took effect.
use Rattle.std.specs.Prelude.{◌≡◌, ℕ, ◌<◌, suc, nat_le, true, if◌then◌else◌, List, [], ◌∷◌, take, fold, Some, None, ⊤}
use Rattle.std.specs.List.{slice_get}
use Rattle.oak_model.specs.declared.writes.Write.{Write}
use Rattle.oak_model.specs.declared.cells.CellCall.{CellCall}
use Rattle.oak_model.specs.State.{State}
use Rattle.oak_model.specs.Cell.{reply_of, state_after, is_write, kind_of}

abbrev pub History : Type 0
History = List Write

-- for each key its history
abbrev pub Histories : Type 0
Histories = List ℕ → History

-- the state behind the last write
abbrev pub last_state : History → State
last_state h = fold (λ (s : State) (w : Write). w.after) None h

-- the state behind the first r writes
abbrev pub state_at : History → ℕ → State
state_at h r = last_state (take r h)

-- the place of a number: how many writes have a stamp of at most it
abbrev pub place_of : History → ℕ → ℕ
place_of [] at = 0
place_of (w ∷ ws) at = if nat_le w.stamp at then suc (place_of ws at) else place_of ws at

-- the stamps strictly rise from above n
abbrev pub StampsRise : ℕ → History → Type 0
StampsRise n [] = ⊤
StampsRise n (w ∷ ws) = (n < w.stamp) × StampsRise w.stamp ws

-- on this state some call of the write's kind writes, and leaves the write's state
pub record IsWriteOn (s : State) (w : Write) : Type 0 where
  pub ask : CellCall
  pub kind : kind_of ask ≡ Some w.kind
  pub writes : is_write (reply_of s ask) ≡ true
  pub after : state_after s ask ≡ w.after

-- each write is one on the state behind the write before it, the first on this state
abbrev pub FollowsCell : State → History → Type 0
FollowsCell s [] = ⊤
FollowsCell s (w ∷ ws) = IsWriteOn s w × FollowsCell w.after ws

pub record IsLegal (h : History) : Type 0 where
  pub stamps : StampsRise 0 h
  pub cell : FollowsCell None h

-- no caller and call twice, over all keys
abbrev pub AreDistinctCalls : Histories → Type 0
AreDistinctCalls h =
    (k l : List ℕ) (i j : ℕ) (v w : Write) → slice_get (h k) i ≡ Some v → slice_get (h l) j ≡ Some w
    → v.caller ≡ w.caller → v.call ≡ w.call → (k ≡ l) × (i ≡ j)
