-- A call of the one thread of a run that puts is `Full` exactly by what its map lacked.
use Rattle.std.specs.Prelude.{◌≡◌, ℕ, suc, ◌<◌, true, List, [], ◌∷◌, ◌++◌, filter, leb, ⊤}
use Rattle.oak_model.specs.declared.cells.CellCall.TheVariants as asks
use Rattle.oak_model.specs.declared.replies.Pair.{Pair}
use Rattle.oak_model.specs.declared.replies.Reply.{Reply}
use Rattle.oak_model.specs.declared.replies.Reply.TheVariants as replies
use Rattle.oak_model.specs.declared.replies.Wrote.{Wrote}
use Rattle.oak_model.specs.declared.replies.Wrote.TheVariants.{New, Over, Kept, Done, Removed, Absent, Full}
use Rattle.oak_model.specs.declared.writes.Write.{Write}
use Rattle.oak_model.specs.Cell.{state_after}
use Rattle.oak_model.specs.History.{History, last_state}
use Rattle.oak_model.specs.Counts.{Each}
use Rattle.oak_model.specs.State.{State}
use Rattle.oak_core.specs.declared.closing.Closed.{Closed}
use Rattle.oak_core.specs.declared.states.Finding.{Finding}
use Rattle.oak_core.specs.Closing.{closed_history, closed_key, closed_state}
use Rattle.lone_counts.specs.LoneTable.{retired_in}
use Rattle.lone_counts.specs.Maps.{IsMapOf}
use Rattle.oak_map.specs.LonePuts.{FullAsLacks, HasNoRoomFor, IsReply}
use Rattle.rebalance.specs.LoneCalls.{IsSettled}
use Rattle.oak_script.specs.declared.scripts.Call.{Call}
use Rattle.oak_script.specs.declared.scripts.Call.TheVariants.{Put, Get, PutNew, Compute, Upsert, Remove, Hold, Look, Scan, Back}
use Rattle.oak_run.specs.Told.{Ask}

-- what a key holds behind the writes of the calls before the n-th
abbrev pub writes_before : ℕ → History → History
writes_before n h = filter (λ (w : Write). leb (suc w.call) n) h

abbrev pub map_before : Closed → ℕ → List ℕ → State
map_before c n q = last_state (writes_before n (closed_history c q))

-- the pass was alone at a step, which left these words
pub record LeftWords (c : Closed) (words : List ℕ) : Type 0 where
  pub before : List Finding
  pub last : Finding
  pub later : List Finding
  pub there : (closed_state c).findings.met ≡ before ++ last ∷ later
  pub alone : last.alone ≡ true
  pub are : last.words ≡ words

-- a call that did more than read: it wrote, or was `Full`
abbrev pub DidMore : Wrote → Type 0
DidMore (New at) = ⊤
DidMore (Over at) = ⊤
DidMore (Kept at) = ⊥
DidMore (Done at) = ⊤
DidMore (Removed at) = ⊤
DidMore (Absent at) = ⊥
DidMore (Full lack) = ⊤

-- For each map of what the keys held before the call it is `Full` as that map lacks, and else by the room that the call left. A step of the call itself left these words, where it did more than read; of one that kept what it found they say nothing. It is the last step of the call: all that the pass met later is of later calls. Where it is `Full` they are settled.
pub record FullExactly (c : Closed) (n : ℕ) (a : Ask) (y : Wrote) : Type 0 where
  pub words : List ℕ
  pub left : LeftWords c words
  pub of_call : DidMore y → left.last.call ≡ n
  pub behind : Each (λ (f : Finding). n < f.call) left.later
  pub full : (m : List Pair) → IsMapOf (map_before c n) m → FullAsLacks (closed_key c) m (retired_in (closed_key c) words) a.key (HasNoRoomFor (closed_key c) a.key words) (map_before c n a.key) (state_after (map_before c n a.key) a.cell) y
  pub settled : (IsReply y → ⊥) → IsSettled (closed_key c) words

abbrev pub PutExactly : Closed → ℕ → Ask → Reply → Type 0
PutExactly c n a y = (x : Wrote) × (y ≡ replies.Wrote x) × FullExactly c n a x

-- of the calls that put
abbrev pub CallExactly : Closed → ℕ → Call → Reply → Type 0
CallExactly c n (Put k x) y = PutExactly c n (record { key = k; cell = asks.Put x }) y
CallExactly c n (PutNew k x) y = PutExactly c n (record { key = k; cell = asks.PutNew x }) y
CallExactly c n (Upsert k x r m) y = PutExactly c n (record { key = k; cell = asks.Upsert x r m }) y
CallExactly c n (Get k) y = ⊤
CallExactly c n (Compute k r m) y = ⊤
CallExactly c n (Remove k) y = ⊤
CallExactly c n (Hold a k) y = ⊤
CallExactly c n (Look a) y = ⊤
CallExactly c n (Scan low high) y = ⊤
CallExactly c n (Back low high) y = ⊤

-- from the n-th call on
abbrev pub FullsExactly : Closed → ℕ → List Call → List Reply → Type 0
FullsExactly c n [] [] = ⊤
FullsExactly c n [] (y ∷ ys) = ⊥
FullsExactly c n (call ∷ calls) [] = ⊥
FullsExactly c n (call ∷ calls) (y ∷ ys) = CallExactly c n call y × FullsExactly c (suc n) calls ys
