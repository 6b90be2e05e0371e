-- The key word of a linked entry of a room that is a cover: it names a block of the table, which is a key's.
use Rattle.std.proofs.Common.{◌≡◌, ℕ, ◌-◌, ◌*◌, ◌<◌, ◌≤◌, ◌&&◌, nat_lt, nat_le, true, false, Bool, List, map, refl, arith, Option, Some, None, leb-true, ltb-true, eqb-true}
use Rattle.std.proofs.lemmas.Bool.{lt-ltb}
use mathlib.Core.Logic.{dite}
use native.Mathlib.Decide.{dec_lt}
use Rattle.oak_model.specs.declared.classes.Class.{Class}
use Rattle.oak_model.specs.declared.limits.TheConstants.{GREATEST_KEY}
use Rattle.oak_model.specs.Class.{class_number, class_of}
use Rattle.oak_model.specs.Counts.{one_at, one_if, total}
use Rattle.oak_model.specs.Limits.{Sizes}
use Rattle.oak_model.proofs.Counting.{test-cases, both_true, total_map}
use Rattle.oak_model.proofs.SumLaws.{total_in}
use Rattle.arena_core.specs.Arena.{blocks}
use Rattle.arena_core.specs.Place.{IsPlace, class_in, block_in, length_in, names_block, content}
use Rattle.chunk_core.specs.declared.holds.RoomHolds.{RoomHolds}
use Rattle.chunk_core.specs.Covers.{span_in, entry_at, used_at, moving_of}
use Rattle.chunk_core.specs.CoverSums.{weight, each, owning}
use Rattle.chunk_core.specs.LinkedEntries.{entries_in, in_use, linked}
use Rattle.chunk_core.proofs.CoverFacts.{entry_adds}
use Rattle.chunk_core.proofs.CoverLaws.{room_le}
use Rattle.chunk_core.proofs.EntryNumbers.{numbers_once}
use Rattle.chunk_core.proofs.RoomLinks.{linked_below}
use Rattle.oak_core.specs.EntryOwners.{is_class, is_key_word, entry_owners}
use Rattle.oak_core.specs.Memory.{Memory, memory}
use Rattle.oak_core.specs.PassState.{rooms_held}
use Rattle.oak_core.specs.Rule.{Rule}
use Rattle.oak_core.specs.TableState.{TableState}
use Rattle.oak_core.proofs.owners.HeadersInArena.{names_named}

-- a key word names a block of the class that its length has, which is a key's
pub record IsKeyPlace (word : ℕ) : Type 0 where
  pub some_byte : 0 < length_in word
  pub few : length_in word ≤ GREATEST_KEY
  pub place : IsPlace word

pub key_place : (word : ℕ) → is_key_word word ≡ 1 → IsKeyPlace word
key_place word e = let b = both_true (nat_lt 0 (length_in word)) (nat_le (length_in word) GREATEST_KEY && is_class (class_in word) (class_of (length_in word))) (tested _ e) in
    let d = both_true (nat_le (length_in word) GREATEST_KEY) (is_class (class_in word) (class_of (length_in word))) b.1 in record {
      some_byte = ltb-true 0 (length_in word) b.0;
      few = leb-true (length_in word) GREATEST_KEY d.0;
      place = by (class_of (length_in word)) refl d.1;
    }
  where
    tested : (t : Bool) → one_if t ≡ 1 → t ≡ true
    tested true h = refl
    tested false h = absurd (omega arith)

    by : (o : Option Class) → class_of (length_in word) ≡ o → is_class (class_in word) o ≡ true → IsPlace word
    by None f t = absurd cc
    by (Some d) f t = record { class = d; is_in = eqb-true (class_in word) (class_number d) t; fits = f }

pub key_word_few : (word : ℕ) → is_key_word word ≤ 1
key_word_few word = test-cases (nat_lt 0 (length_in word) && (nat_le (length_in word) GREATEST_KEY && is_class (class_in word) (class_of (length_in word)))) (λ t. one_if t ≤ 1) (λ _. omega arith) (λ _. omega arith)

-- no word is 0 that names a key's block
above_none : (word : ℕ) → 0 < length_in word → 0 < word
unfolding length_in
above_none word lt = omega arith

-- a linked entry of a room that is a cover
module _ (z : Sizes) (s : TableState) (rule : Rule z s) (r i : ℕ) (inside : r < z.chunks) (weighs : weight ((memory z s.words).rooms.pin r) ≡ 1) (once : total (λ j. one_at j i) (linked (memory z s.words).rooms r) ≡ 1) where
  abbrev m : Memory
  m = memory z s.words

  abbrev hs : List RoomHolds
  hs = map rooms_held s.states

  abbrev word : ℕ
  word = m.rooms.key r i

  -- it is in use
  pub linked_used : i < entries_in ((memory z s.words).rooms.count r)
  linked_used = linked_below z m.rooms (content m.arena.bytes) r (rule.rooms.ordered r weighs) i (omega arith)

  pub is_key_linked : is_key_word ((memory z s.words).rooms.key r i) ≡ 1
  is_key_linked = let a = entry_adds z m.rooms (content m.arena.bytes) hs (λ _ y. 1 - is_key_word y.word) r i inside weighs once in
      let none = rule.covers.placed in let few = key_word_few word in omega arith

  -- it owns the block that its key word names
  pub owner_linked : 1 ≤ entry_owners z m.rooms (content m.arena.bytes) hs (class_in word) (block_in word)
  owner_linked = let names : ℕ → ℕ = names_block (class_in word) (block_in word) in let ms = map moving_of hs in
      let a = room_le z.chunks m.rooms.pin (used_at m.rooms (content m.arena.bytes)) ms (each (owning names)) r inside weighs in
      let b = total_map (entry_at m.rooms (content m.arena.bytes) r) (owning names (span_in m.rooms r)) (in_use m.rooms r) in
      let c = total_in (λ j. owning names (span_in m.rooms r) (entry_at m.rooms (content m.arena.bytes) r j)) i (in_use m.rooms r) (let o = numbers_once (entries_in (m.rooms.count r)) i linked_used in omega arith) in
      let d : owning names (span_in m.rooms r) (entry_at m.rooms (content m.arena.bytes) r i) ≡ 1 = owning_one in omega arith
    where
      owning_one : one_if (nat_lt 0 word) * names_block (class_in word) (block_in word) word ≡ 1
      owning_one = λ j. one_if (lt-ltb 0 word (above_none word (key_place word is_key_linked).some_byte) j) * names_named (class_in word) (block_in word) word refl refl j

  pub block_linked : block_in ((memory z s.words).rooms.key r i) < blocks z (class_in ((memory z s.words).rooms.key r i))
  block_linked = dite (dec_lt (block_in word) (blocks z (class_in word))) (λ l. l) (λ g. let none = rule.blocks.inside (class_in word) (block_in word) (omega arith) in let o = owner_linked in absurd (omega arith))
