-- What a call promises that removes a range of keys, which it does by many calls.
use Rattle.std.specs.Prelude.{◌≡◌, ℕ, ◌+◌, ◌-◌, ◌^◌, ◌<◌, ◌≤◌, Bool, true, false, List, [], ◌∷◌, ◌++◌, MatchBool, MatchOption, Option, Some, None, length, min, take}
use Rattle.std.specs.List.{FoldsTo}
use Rattle.oak_model.specs.declared.cells.CellCall.TheVariants.{Remove}
use Rattle.oak_model.specs.declared.replies.Wrote.{Wrote}
use Rattle.oak_model.specs.declared.replies.Wrote.TheVariants.{Removed}
use Rattle.oak_core.specs.Passes.{Stays}
use Rattle.oak_core.specs.Scratch.{StaysButSlots}
use Rattle.oak_caller.specs.declared.clearing.NotCleared.{NotCleared}
use Rattle.oak_caller.specs.declared.clearing.NotCleared.TheVariants as faults
use Rattle.oak_caller.specs.Callers.{Called, CallsNext, CallsOn, KeepsViews, last_of, sizes_of, state_of}
use Rattle.oak_caller.specs.Keys.{AddsAll, AddsBefore, AddsTo}
use Rattle.oak_caller.specs.Puts.{Changes}
use Rattle.oak_caller.specs.Scans.{view_of}

-- so many keys were removed, and the caller is this one
pub record Counted : Type 0 where
  pub count : ℕ
  pub caller : Called

abbrev pub at_count : ℕ → Called → Counted
at_count n c = record { count = n; caller = c }

-- it made calls on the same table, by numbers that rise
pub record CallsMany (c d : Called) : Type 0 where
  pub table : d.table ≡ c.table
  pub call : last_of c ≤ last_of d

-- ---- keys

-- how many keys a removal took out
abbrev pub removals : Wrote → ℕ
removals (Removed at) = 1
removals _ = 0

-- the key was removed by a call of its own, and counted where it was present
pub record RemovesKey (a : Counted) (key : List ℕ) (b : Counted) : Type 0 where
  pub said : Wrote
  pub next : CallsNext Stays a.caller b.caller
  pub views : KeepsViews a.caller b.caller
  pub changes : Changes said (sizes_of a.caller) (last_of a.caller + 1) key Remove (state_of a.caller) (state_of b.caller)
  pub count : b.count ≡ min (a.count + removals said) (2 ^ 64 - 1)

-- each of the keys, in their order
abbrev pub RemovesAll : Counted → List (List ℕ) → Counted → Type 0
RemovesAll a keys b = FoldsTo RemovesKey a keys b

-- so many of them, and not all, as the caller had no number left
pub record WearsOut (a : Counted) (keys : List (List ℕ)) (b : Counted) : Type 0 where
  pub many : ℕ
  pub few : many < length keys
  pub removes : RemovesAll a (take many keys) b
  pub worn : last_of b.caller ≡ 2 ^ 32 - 1

-- the last of the keys, or none where these were all
abbrev pub LastIf : Bool → List (List ℕ) → Option (List ℕ) → Type 0
LastIf true keys o = o ≡ None
LastIf false keys o = MatchOption o (keys ≡ []) (λ k. (front : List (List ℕ)) × (keys ≡ front ++ k ∷ []))

-- ---- pieces of a range

-- the caller read keys, without a number
pub record ReadsOnly (c d : Called) : Type 0 where
  pub on : CallsOn StaysButSlots c d
  pub views : KeepsViews c d

-- all keys of the range that were read present were removed
pub record ClearsRest (low high : Option (List ℕ)) (a b : Counted) : Type 0 where
  pub keys : List (List ℕ)
  pub listed : Called
  pub reads : ReadsOnly a.caller listed
  pub lists : AddsAll low high (view_of a.caller) (view_of listed) [] keys
  pub removes : RemovesAll (at_count a.count listed) keys b

-- those of the range up to this one, which was one of them
pub record ClearsTo (key : List ℕ) (low high : Option (List ℕ)) (a b : Counted) : Type 0 where
  pub keys : List (List ℕ)
  pub listed : Called
  pub reads : ReadsOnly a.caller listed
  pub lists : AddsTo low high (view_of a.caller) (view_of listed) [] keys
  pub last : lists.pair.key ≡ key
  pub removes : RemovesAll (at_count a.count listed) keys b

abbrev pub ClearsPiece : Option (List ℕ) → (low high : Option (List ℕ)) → Counted → Counted → Type 0
ClearsPiece None low high a b = ClearsRest low high a b
ClearsPiece (Some key) low high a b = ClearsTo key low high a b

-- no memory was found for a key, and none was removed
pub record ListsSome (n : ℕ) (low high : Option (List ℕ)) (a : Counted) (d : Called) : Type 0 where
  pub keys : List (List ℕ)
  pub reads : ReadsOnly a.caller d
  pub lists : AddsBefore low high (view_of a.caller) (view_of d) [] keys
  pub count : n ≡ a.count

-- keys were read present, and of them so many were removed, and not all, as the caller had no number left
pub record RemovesSome (n : ℕ) (low high : Option (List ℕ)) (a : Counted) (d : Called) : Type 0 where
  pub keys : List (List ℕ)
  pub listed : Called
  pub reads : ReadsOnly a.caller listed
  pub all : Bool
  pub lists : MatchBool all (AddsAll low high (view_of a.caller) (view_of listed) [] keys) (AddsTo low high (view_of a.caller) (view_of listed) [] keys)
  pub wears : WearsOut (at_count a.count listed) keys (at_count n d)

abbrev pub FailsPiece : NotCleared → (low high : Option (List ℕ)) → Counted → Called → Type 0
FailsPiece (faults.OutOfMemory n) low high a d = ListsSome n low high a d
FailsPiece (faults.WornOut n) low high a d = RemovesSome n low high a d

-- ---- a range

-- what is still to be cleared begins here, and this was done
pub record Place : Type 0 where
  pub low : Option (List ℕ)
  pub done : Counted

-- what is to be cleared was cleared up to the key, at which the next piece begins
pub record GoesTo (high : Option (List ℕ)) (p : Place) (key : List ℕ) (q : Place) : Type 0 where
  pub clears : ClearsTo key p.low high p.done q.done
  pub next : q.low ≡ Some key

-- it was cleared up to one of the keys behind the other
abbrev pub GoesOver : Option (List ℕ) → Place → List (List ℕ) → Place → Type 0
GoesOver high p ends q = FoldsTo (λ x key y. GoesTo high x key y) p ends q

-- so much was cleared: the last piece up to the key, or to the end of the range
pub record ClearsSoFar (o : Option (List ℕ)) (low high : Option (List ℕ)) (a b : Counted) : Type 0 where
  pub ends : List (List ℕ)
  pub place : Place
  pub goes : GoesOver high (record { low = low; done = a }) ends place
  pub piece : ClearsPiece o place.low high place.done b

-- The range was cleared piece by piece, and behind the last of these keys all of it.
abbrev pub ClearsAll : (low high : Option (List ℕ)) → Counted → Counted → Type 0
ClearsAll low high a b = ClearsSoFar None low high a b

-- It was cleared up to the last of these keys, and in the piece behind that the call failed.
pub record FailsIn (e : NotCleared) (low high : Option (List ℕ)) (a : Counted) (d : Called) : Type 0 where
  pub ends : List (List ℕ)
  pub place : Place
  pub goes : GoesOver high (record { low = low; done = a }) ends place
  pub fails : FailsPiece e place.low high place.done d
