-- The places of replies: for a key and a number, how many writes of the key have a stamp of at most the number.
use Rattle.std.specs.Prelude.{ℕ, nat_le, Bool, false, if◌then◌else◌, List, [], ◌∷◌, ◌++◌, count_by, Option, Some, None, option_to_list}
use Rattle.std.specs.Option.{option_map_or}
use Rattle.oak_model.specs.declared.replies.Wrote.{Wrote}
use Rattle.oak_model.specs.declared.replies.Wrote.TheVariants.{New, Over, Kept, Done, Removed, Absent, Full}
use Rattle.oak_model.specs.declared.replies.Reply.{Reply}
use Rattle.oak_model.specs.declared.replies.Reply.TheVariants as replies
use Rattle.oak_model.specs.Key.{same_key}
use Rattle.oak_script.specs.declared.scripts.Call.{Call}
use Rattle.oak_script.specs.declared.scripts.Call.TheVariants.{Put, Get, PutNew, Compute, Upsert, Remove, Hold, Look, Scan, Back}

-- for a key and a number the place
abbrev pub Places : Type 0
Places = List ℕ → ℕ → ℕ

-- the key that a call names
abbrev pub key_of : Call → Option (List ℕ)
key_of (Put k v) = Some k
key_of (Get k) = Some k
key_of (PutNew k v) = Some k
key_of (Compute k r n) = Some k
key_of (Upsert k v r n) = Some k
key_of (Remove k) = Some k
key_of (Hold a k) = Some k
key_of (Look a) = None
key_of (Scan low high) = None
key_of (Back low high) = None

-- the stamp of the write that an answer tells
abbrev pub stamp_of_wrote : Wrote → Option ℕ
stamp_of_wrote (New at) = Some at
stamp_of_wrote (Over at) = Some at
stamp_of_wrote (Kept at) = None
stamp_of_wrote (Done at) = Some at
stamp_of_wrote (Removed at) = Some at
stamp_of_wrote (Absent at) = None
stamp_of_wrote (Full lack) = None

-- the stamp of the write that a reply tells
abbrev pub stamp_of : Reply → Option ℕ
stamp_of (replies.Wrote w) = stamp_of_wrote w
stamp_of (replies.Value k v at) = None
stamp_of (replies.Held at) = None
stamp_of replies.Gone = None
stamp_of replies.Unheld = None
stamp_of (replies.Pairs ps) = None

abbrev pub is_call_on : List ℕ → Call → Bool
is_call_on k call = option_map_or (same_key k) (key_of call) false

-- the stamp of a key's write that one reply tells, or none
abbrev pub stamps_in : Call → Reply → List ℕ → List ℕ
stamps_in call y k = if is_call_on k call then option_to_list (stamp_of y) else []

-- the stamps of a key's writes that the replies to a thread's calls tell
abbrev pub stamps_along : List Call → List Reply → List ℕ → List ℕ
stamps_along [] ys k = []
stamps_along (c ∷ cs) [] k = []
stamps_along (c ∷ cs) (y ∷ ys) k = stamps_in c y k ++ stamps_along cs ys k

-- and over all threads
abbrev pub stamps_of : List (List Call) → List (List Reply) → List ℕ → List ℕ
stamps_of [] rs k = []
stamps_of (t ∷ ts) [] k = []
stamps_of (t ∷ ts) (r ∷ rs) k = stamps_along t r k ++ stamps_of ts rs k

-- how many writes of the key, over all threads, have a stamp of at most the number
abbrev pub written_upto : List (List Call) → List (List Reply) → Places
written_upto threads replies k at = count_by (λ s. nat_le s at) (stamps_of threads replies k)
