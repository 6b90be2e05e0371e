-- What a step teaches its pass of the histories, and the lesson that it keeps.
use Rattle.std.specs.Prelude.{ℕ, suc, ◌*◌, nat_lt, cond, Bool, List, [], ◌∷◌, ◌++◌, map, Option, Some, None}
use Rattle.oak_model.specs.Counts.{one_if, one_at, longest}
use Rattle.oak_model.specs.KeyNumber.{key_number}
use Rattle.chunk_core.specs.declared.holds.FoundEntry.{FoundEntry}
use Rattle.chunk_core.specs.Spans.{within}
use Rattle.chunk_core.specs.PinnedRooms.{span_of, found_key}
use Rattle.oak_core.specs.declared.states.KeyedWrite.{KeyedWrite}
use Rattle.oak_core.specs.declared.states.Knowledge.{Knowledge}
use Rattle.oak_core.specs.declared.states.Lesson.{Lesson}
use Rattle.oak_core.specs.declared.states.Taught.{Taught}
use Rattle.oak_core.specs.declared.states.Taught.TheVariants.{OfKey, OfGap}
use Rattle.oak_core.specs.PassState.{history, of_key}

-- 1 where the number is above the key of an entry, or there is none
abbrev pub above_found : Option FoundEntry → ℕ → ℕ
above_found None k = 1
above_found (Some e) k = one_if (nat_lt (found_key e) k)

-- 1 where it is below
abbrev pub below_found : Option FoundEntry → ℕ → ℕ
below_found None k = 1
below_found (Some e) k = one_if (nat_lt k (found_key e))

-- How far a lesson goes for a key: the number up to which it has all writes, plus one, or 0 where it says nothing of the key. All else about lessons is said by this alone.
abbrev pub reach_of : Taught → ℕ → ℕ
reach_of (OfKey n) k = one_at k (key_number n.key) * suc n.upto
reach_of (OfGap g) k = within (span_of g.room) k * above_found g.from k * below_found g.to k * suc g.room.base

-- the writes of the key that it has
abbrev pub heard_of : ℕ → Lesson → List KeyedWrite
heard_of k l = longest (map (of_key k) l.logs)

-- of each key k the writes in a log with a stamp below T k
unfoldable pub lesson : (ℕ → ℕ) → List KeyedWrite → List KeyedWrite
lesson T [] = []
lesson T (w ∷ ws) = cond (nat_lt w.write.stamp (T (key_number w.key))) (w ∷ lesson T ws) (lesson T ws)

-- all logs of all passes
unfoldable pub all_logs : List Knowledge → List (List KeyedWrite)
all_logs [] = []
all_logs (q ∷ qs) = q.seen ++ all_logs qs

-- what they have below T
abbrev pub lessons : (ℕ → ℕ) → List Knowledge → List (List KeyedWrite)
lessons T qs = map (lesson T) (all_logs qs)

-- the pass learns all of it, and keeps lessons
abbrev pub taught : (ℕ → ℕ) → List Lesson → List Knowledge → Knowledge → Knowledge
taught T ls qs q = record q { seen = q.seen ++ lessons T qs; heard = q.heard ++ ls }

-- the lesson of a step that teaches x
abbrev pub lesson_by : Taught → List Knowledge → Lesson
lesson_by x qs = record { taught = x; logs = lessons (reach_of x) qs }

-- a step teaches its pass what all logs have below its reach
abbrev pub taught_by : Taught → List Knowledge → Knowledge → Knowledge
taught_by x qs q = taught (reach_of x) (lesson_by x qs ∷ []) qs q

-- only where there is something to learn it from
abbrev pub taught_where : Bool → Taught → List Knowledge → Knowledge → Knowledge
taught_where known x qs q = record q { seen = cond known (q.seen ++ lessons (reach_of x) qs) q.seen; heard = cond known (q.heard ++ lesson_by x qs ∷ []) q.heard }

-- of one key, up to a number
abbrev pub of_key_to : List ℕ → ℕ → Taught
of_key_to key n = OfKey (record { key = key; upto = n })

-- a write teaches its pass the history that it ends, up to its own stamp
abbrev pub write_lesson : KeyedWrite → List KeyedWrite → Lesson
write_lesson w h = record { taught = of_key_to w.key w.write.stamp; logs = (h ++ w ∷ []) ∷ [] }

-- the pass makes a write of the key k
abbrev pub wrote : ℕ → KeyedWrite → List Knowledge → Knowledge → Knowledge
wrote k w qs q = record q { seen = q.seen ++ (history k qs ++ w ∷ []) ∷ []; heard = q.heard ++ write_lesson w (history k qs) ∷ []; mine = q.mine ++ w ∷ [] }
