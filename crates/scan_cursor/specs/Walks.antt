-- A scan that loads the entries of each room once.
use Rattle.std.specs.Prelude.{◌≡◌, ℕ, ◌<◌, ◌≤◌, true, false, List, [], ◌∷◌, ◌++◌, Option, Some, None}
use Rattle.oak_model.specs.declared.limits.TheConstants.{GREATEST_ENTRIES}
use Rattle.oak_model.specs.declared.replies.Pair.{Pair}
use Rattle.oak_model.specs.Key.{is_key}
use Rattle.oak_model.specs.KeyNumber.{key_number}
use Rattle.oak_model.specs.Limits.{Sizes}
use Rattle.oak_core.specs.declared.sorting.SortSlot.{SortSlot}
use Rattle.oak_core.specs.declared.states.PassState.{PassState}
use Rattle.oak_core.specs.declared.table.OakTable.{OakTable}
use Rattle.oak_core.specs.declared.table.Pass.{Pass}
use Rattle.oak_core.specs.PassState.{HoldsNothing}
use Rattle.oak_core.specs.Passes.{IsPassOf, call_of, key as sizes, slots_of, state}
use Rattle.value_ops.specs.declared.pinned_value.PinnedValue.{PinnedValue}
use Rattle.value_ops.specs.PinnedValues.{stamp_under, value_under}
use Rattle.scan_cursor.specs.declared.walking.Stepped.{Stepped}
use Rattle.scan_cursor.specs.declared.walking.Stepped.TheVariants.{Given, Ended, Passed, Again}
use Rattle.scan_cursor.specs.declared.walking.Walk.{Walk}
use Rattle.scan_cursor.specs.declared.ways.Way.{Way}
use Rattle.scan_cursor.specs.declared.ways.Way.TheVariants.{Up, Down}
use Rattle.scan_cursor.specs.Gathered.{IsGathered, Loaded, slots_ahead}
use Rattle.scan_cursor.specs.Holding.{HasValue, IsBound, ahead_from, ahead_past, high_end, low_end}
use Rattle.scan_cursor.specs.Marks.{HasCome, InBounds, IsWithin}
use Rattle.scan_cursor.specs.Views.{Later, View, view_of}

-- a pass in its present call
abbrev pub view_at : Sizes → Pass → View
view_at z p = view_of z (call_of p) (state p)

-- a walk with what its pass has: the entries of the room that are left, in the order of the scan, and its state in the call
pub record Course : Type 0 where
  pub walk : Walk
  pub left : List Loaded
  pub view : View

abbrev pub course_of : Way → Sizes → Walk → Pass → Course
course_of way z w p = record { walk = w; left = slots_ahead way w.from w.to (slots_of p); view = view_at z p }

-- the key is not behind the bound
abbrev pub IsBefore : Way → List ℕ → Option (List ℕ) → Type 0
IsBefore Up k bound = key_number k < high_end bound
IsBefore Down k bound = low_end bound ≤ key_number k

-- of the keys that lie between the key and the room's bound each is one of those left, or was read absent
abbrev pub Gathers : Way → View → View → List ℕ → Option (List ℕ) → List Loaded → Type 0
Gathers way before now k bound left = IsGathered way before now (ahead_from way k bound) (ahead_past way k bound) left

-- so it is since some earlier moment of the call
pub record AreAhead (way : Way) (now : View) (k : List ℕ) (bound : Option (List ℕ)) (left : List Loaded) : Type 0 where
  pub reach : IsBefore way k bound
  pub moment : View
  pub since : Later moment now
  pub gathers : Gathers way moment now k bound left

-- the scan is at a key between its bounds, unless it has ended, and the entries that are left are those ahead of it in the room
pub record IsWalk (way : Way) (low high : ℕ) (c : Course) : Type 0 where
  pub bounds : c.walk.mark.ended ≡ false → InBounds low high c.walk.mark.key
  pub bound : IsBound c.walk.bound
  pub few : c.walk.to ≤ GREATEST_ENTRIES
  pub within : c.walk.gathered ≡ true → c.walk.within ≡ true → IsWithin way low high c.walk.bound
  pub ahead : c.walk.gathered ≡ true → AreAhead way c.view c.walk.mark.key c.walk.bound c.left

-- The pass is one of the table and holds nothing, and its scan between the two keys has not ended.
pub record MayGoOn (way : Way) (from to : List ℕ) (t : OakTable) (w : Walk) (p : Pass) : Type 0 where
  pub own : IsPassOf t p
  pub idle : HoldsNothing (state p)
  pub low : is_key from ≡ true
  pub high : is_key to ≡ true
  pub walk : IsWalk way (key_number from) (key_number to) (course_of way (sizes t) w p)
  pub going : w.mark.ended ≡ false

-- the pairs so far are those of the keys that are read, and of the keys ahead in the room each is one of those left, or was read absent
pub record HasWalked (way : Way) (low high : ℕ) (c : Course) (before : View) (pairs : List Pair) : Type 0 where
  pub come : HasCome way low high c.walk.mark before c.view pairs
  pub ahead : c.walk.gathered ≡ true → Gathers way before c.view c.walk.mark.key c.walk.bound c.left

-- what was told of the scan up to the first holds up to the second
abbrev pub WalksOn : Way → ℕ → ℕ → Course → Course → Type 0
WalksOn way low high c d = (before : View) (pairs : List Pair) → HasWalked way low high c before pairs → HasWalked way low high d before pairs

-- the pair of the key whose value is pinned
abbrev pub pair_of : List ℕ → PassState → Pair
pair_of k v = record { key = k; value = value_under v; at = stamp_under v }

-- and with the pair of the key at the mark behind those before
abbrev pub WalksTo : Way → ℕ → ℕ → Course → Course → Type 0
WalksTo way low high c d = (before : View) (pairs : List Pair) → HasWalked way low high c before pairs → HasWalked way low high d before (pairs ++ pair_of d.walk.mark.key d.view.state ∷ [])

-- no pair was given
pub record WalkPasses (way : Way) (low high : ℕ) (c d : Course) : Type 0 where
  pub walk : IsWalk way low high d
  pub later : Later c.view d.view
  pub goes : WalksOn way low high c d

-- the key at the mark was read present, and its value is pinned
pub record WalkGives (way : Way) (low high : ℕ) (c d : Course) : Type 0 where
  pub walk : IsWalk way low high d
  pub going : d.walk.mark.ended ≡ false
  pub later : Later c.view d.view
  pub goes : WalksTo way low high c d

-- the first of the entries that are left was taken
abbrev pub IsTaken : Way → Walk → Walk → List SortSlot → Loaded → Type 0
IsTaken way w x slots e = slots_ahead way w.from w.to slots ≡ e ∷ slots_ahead way x.from x.to slots

-- what a step of the scan did
abbrev pub WalkSteps : Stepped → Way → ℕ → ℕ → Course → Course → Type 0
WalkSteps (Given x) way low high c d = HasValue d.view.sizes x d.view.state × WalkGives way low high c d
WalkSteps Ended way low high c d = HoldsNothing d.view.state × WalkPasses way low high c d × (d.walk.mark.ended ≡ true)
WalkSteps Passed way low high c d = HoldsNothing d.view.state × WalkPasses way low high c d × (d.walk.mark.ended ≡ false)
WalkSteps Again way low high c d = HoldsNothing d.view.state × WalkPasses way low high c d × (d.walk.mark.ended ≡ false)

-- whether a pair was given, or the scan has ended
abbrev pub WalksOrEnds : Option PinnedValue → Way → ℕ → ℕ → Course → Course → Type 0
WalksOrEnds (Some x) way low high c d = HasValue d.view.sizes x d.view.state × WalkGives way low high c d
WalksOrEnds None way low high c d = HoldsNothing d.view.state × WalkPasses way low high c d × (d.walk.mark.ended ≡ true)
