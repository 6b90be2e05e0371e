-- The writes of a run as the printer keeps them: sorted, and numbered key by key.
use Rattle.std.specs.Prelude.{◌≡◌, ℕ, ◌+◌, ◌≤◌, ◌&&◌, nat_le, Bool, true, false, if◌then◌else◌, List, [], ◌∷◌, ◌++◌, length, count_by, Option, Some, None, option_to_list}
use Rattle.std.specs.List.Sorted.{IsSorted, IsPartitionPoint}
use Rattle.std.specs.Ordering.{nat_cmp, ordering_then, is_le}
use Rattle.std.specs.declared.cmp.Ordering.{Ordering}
use Rattle.oak_model.specs.declared.replies.Reply.{Reply}
use Rattle.oak_model.specs.Key.{key_cmp, same_key}
use Rattle.oak_script.specs.declared.places.Stamped.{Stamped}
use Rattle.oak_script.specs.declared.scripts.Call.{Call}
use Rattle.oak_script.specs.Places.{Places, key_of, stamp_of}

-- a write is told where there are a key and a stamp
abbrev pub write_of : Option (List ℕ) → Option ℕ → Option (List ℕ × ℕ)
write_of None s = None
write_of (Some k) None = None
write_of (Some k) (Some s) = Some (k, s)

-- the write that a reply tells, with its key
abbrev pub write_in : Call → Reply → Option (List ℕ × ℕ)
write_in call y = write_of (key_of call) (stamp_of y)

-- all writes, in the order of the replies
abbrev pub writes_along : List Call → List Reply → List (List ℕ × ℕ)
writes_along [] ys = []
writes_along (c ∷ cs) [] = []
writes_along (c ∷ cs) (y ∷ ys) = option_to_list (write_in c y) ++ writes_along cs ys

abbrev pub writes_of : List (List Call) → List (List Reply) → List (List ℕ × ℕ)
writes_of [] rs = []
writes_of (t ∷ ts) [] = []
writes_of (t ∷ ts) (r ∷ rs) = writes_along t r ++ writes_of ts rs

-- whether a write is one of the key, with a stamp of at most the number
abbrev pub is_upto : List ℕ → ℕ → List ℕ × ℕ → Bool
is_upto k at w = same_key k w.0 && nat_le w.1 at

abbrev pub as_pair : Stamped → List ℕ × ℕ
as_pair w = (w.key.now, w.stamp)

-- the places by a list of writes
abbrev pub place_among : List Stamped → Places
place_among ws k at = count_by (λ w. is_upto k at (as_pair w)) ws

-- writes rise by their keys, and those of one key by their stamps
abbrev pub stamped_cmp : Stamped → Stamped → Ordering
stamped_cmp v w = ordering_then (key_cmp v.key.now w.key.now) (nat_cmp v.stamp w.stamp)

abbrev pub AreInOrder : List Stamped → Type 0
AreInOrder ws = IsSorted stamped_cmp ws

-- writes of lower keys, and those of the key with a stamp of at most the number
abbrev pub is_not_behind : List ℕ → ℕ → Stamped → Bool
is_not_behind k at w = is_le (ordering_then (key_cmp w.key.now k) (nat_cmp w.stamp at))

-- these are the first n of the writes
pub record IsEndOf (k : List ℕ) (at : ℕ) (ws : List Stamped) (n : ℕ) : Type 0 where
  pub within : n ≤ length ws
  pub point : IsPartitionPoint (λ w. is_not_behind k at w ≡ true) (λ w. is_not_behind k at w ≡ false) ws n

-- the place of a write of the key, behind one with a key and a place
abbrev pub next_place : List ℕ → ℕ → List ℕ → ℕ
next_place last place k = if same_key k last then place + 1 else 1

abbrev pub places_along : List ℕ → ℕ → List Stamped → List ℕ
places_along last place [] = []
places_along last place (w ∷ ws) = next_place last place w.key.now ∷ places_along w.key.now (next_place last place w.key.now) ws
