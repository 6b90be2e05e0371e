-- The five words that are put where a room gets an entry: what they leave, and what they say.
use Rattle.std.proofs.Common.{◌≡◌, ℕ, ◌+◌, ◌<◌, false, List, length, set, length-set, refl, ◌∙◌, arith, Option, Some, None}
use Rattle.oak_model.specs.declared.classes.Class.{Class}
use Rattle.oak_model.specs.Class.{class_number}
use Rattle.oak_model.specs.Limits.{Sizes}
use Rattle.arena_core.specs.Place.{place_word}
use Rattle.chunk_core.specs.LinkWords.{link_spot, link_word}
use Rattle.chunk_core.specs.Rooms.{at_count, at_key, at_next, at_value}
use Rattle.oak_core.specs.Memory.{Spot, IsInside, in_rooms, index, memory, same_spot, word_count}
use Rattle.chunk_ops.specs.AddsAlone.{IsLinkOf, put_entry}
use Rattle.chunk_ops.proofs.KeptKeys.{number_other}
use Rattle.point_ops.specs.LoneInserts.{KeepsBut}
use Rattle.point_ops.proofs.LoneWords.{but_both, but_set, read_stored}

-- a link of a room's is one of its words
pub link_inside : (z : Sizes) (r : ℕ) → r < z.chunks → (from : Option ℕ) (words : List ℕ) → IsLinkOf z r from words → IsInside z (in_rooms (link_spot r from))
link_inside z r inside None words link = (inside, omega arith)
link_inside z r inside (Some q) words link = (inside, link.0)

-- and neither its count nor a value word
count_apart : (r : ℕ) (from : Option ℕ) → same_spot (in_rooms (at_count r)) (in_rooms (link_spot r from)) ≡ false
count_apart r None = refl
count_apart r (Some q) = refl

value_apart : (r i : ℕ) (from : Option ℕ) → same_spot (in_rooms (at_value r i)) (in_rooms (link_spot r from)) ≡ false
value_apart r i None = refl
value_apart r i (Some q) = refl

module _ (z : Sizes) (r : ℕ) (inside : r < z.chunks) (from : Option ℕ) (i : ℕ) (room : i < z.entries) (c : Class) (b len : ℕ) (m : List ℕ) (link : IsLinkOf z r from m) where
  abbrev count_at : Spot
  count_at = in_rooms (at_count r)

  abbrev value_at : Spot
  value_at = in_rooms (at_value r i)

  abbrev next_at : Spot
  next_at = in_rooms (at_next r i)

  abbrev key_at : Spot
  key_at = in_rooms (at_key r i)

  abbrev link_at : Spot
  link_at = in_rooms (link_spot r from)

  abbrev base : ℕ
  base = (memory z m).rooms.base r

  abbrev more : ℕ
  more = (memory z m).rooms.count r + 1

  abbrev old : ℕ
  old = link_word (memory z m).rooms r from

  abbrev place : ℕ
  place = place_word (class_number c) b len

  -- the words, one more put in each
  abbrev counted : List ℕ
  counted = set m (index z count_at) more

  abbrev valued : List ℕ
  valued = set counted (index z value_at) base

  abbrev pointed : List ℕ
  pointed = set valued (index z next_at) old

  abbrev keyed : List ℕ
  keyed = set pointed (index z key_at) place

  count_there : IsInside z (in_rooms (at_count r))
  count_there = (inside, omega arith)

  link_there : IsInside z (in_rooms (link_spot r from))
  link_there = link_inside z r inside from m link

  pub put_but : (P : Spot → Type 0) → P (in_rooms (at_count r)) → P (in_rooms (at_value r i)) → P (in_rooms (at_next r i)) → P (in_rooms (at_key r i)) → P (in_rooms (link_spot r from)) → KeepsBut z P m (put_entry z r from i c b len m)
  put_but P count value next key named = but_both z P m keyed (set keyed (index z link_at) (i + 1))
      (but_both z P m pointed keyed (but_both z P m valued pointed (but_both z P m counted valued (but_set z P m count_at more count_there count) (but_set z P counted value_at base (inside, room) value))
      (but_set z P valued next_at old (inside, room) next)) (but_set z P pointed key_at place (inside, room) key))
      (but_set z P keyed link_at (i + 1) link_there named)

  module _ (wide : length m ≡ word_count z) where
    pub put_count : (memory z (put_entry z r from i c b len m)).rooms.count r ≡ (memory z m).rooms.count r + 1
    put_count = number_other z keyed link_at (i + 1) link_there count_at (count_apart r from) ∙ (number_other z pointed key_at place (inside, room) count_at refl
        ∙ (number_other z valued next_at old (inside, room) count_at refl ∙ (number_other z counted value_at base (inside, room) count_at refl ∙ read_stored z m count_at more wide count_there)))

    pub put_value : (memory z (put_entry z r from i c b len m)).rooms.value r i ≡ (memory z m).rooms.base r
    put_value = number_other z keyed link_at (i + 1) link_there value_at (value_apart r i from) ∙ (number_other z pointed key_at place (inside, room) value_at refl
        ∙ (number_other z valued next_at old (inside, room) value_at refl ∙ read_stored z counted value_at base (length-set m (index z count_at) more ∙ wide) (inside, room)))
