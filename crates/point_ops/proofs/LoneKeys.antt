-- What stands of a room's keys where they stay: which entries are linked, and which keys these have.
use Rattle.std.proofs.Common.{◌≡◌, ℕ, List, sym, ap, ◌∙◌}
use mathlib.Core.Path.{fun_ext}
use Rattle.oak_model.specs.Counts.{one_at, total}
use Rattle.oak_model.specs.Limits.{Sizes}
use Rattle.oak_model.proofs.RowLaws.{rows_same}
use Rattle.arena_core.specs.Arena.{at_bytes, block_words}
use Rattle.arena_core.specs.Place.{block_in, class_in, content}
use Rattle.chunk_core.specs.KeyWords.{key_bytes}
use Rattle.chunk_core.specs.LinkedEntries.{entries_in}
use Rattle.chunk_core.specs.Rooms.{at_count, at_first, at_key, at_next}
use Rattle.chunk_core.proofs.RoomLinks.{linked_same}
use Rattle.oak_core.specs.Memory.{Spot, in_arena, in_rooms, memory}
use Rattle.chunk_ops.specs.declared.entries.EntryNo.{EntryNo}
use Rattle.chunk_ops.specs.declared.entries.Found.TheVariants.{Entry}
use Rattle.chunk_ops.specs.FindsAlone.{HasKeyAt, IsLinked, LacksKeyAt}
use Rattle.point_ops.specs.LoneInserts.{KeepsBut, KeysStay}
use Rattle.point_ops.proofs.LoneWords.{but_same}

-- a change that leaves the count, the links and the key words of a room, and the blocks of its linked entries, leaves its keys
pub keys_stay : (z : Sizes) (r : ℕ) (P : Spot → Type 0) (a d : List ℕ) → KeepsBut z P a d → (P (in_rooms (at_count r)) → ⊥) → (P (in_rooms (at_first r)) → ⊥) → ((i : ℕ) → P (in_rooms (at_next r i)) → ⊥) → ((i : ℕ) → P (in_rooms (at_key r i)) → ⊥)
    → ((i : ℕ) → IsLinked (memory z a) r i → (k : ℕ) → P (in_arena (at_bytes (class_in ((memory z a).rooms.key r i)) (block_in ((memory z a).rooms.key r i)) k)) → ⊥) → KeysStay z r a d
keys_stay z r P a d k count first next key bytes = record {
  count = ap entries_in (but_same z P a d k (in_rooms (at_count r)) count);
  links = linked_same (memory z a).rooms (memory z d).rooms r (but_same z P a d k (in_rooms (at_first r)) first) (fun_ext (λ i. but_same z P a d k (in_rooms (at_next r i)) (next i)));
  keys = λ i once. let word : ℕ = (memory z a).rooms.key r i in let same : (memory z d).rooms.key r i ≡ word = but_same z P a d k (in_rooms (at_key r i)) (key i) in
      ap (λ (n : ℕ). key_bytes n (content (memory z d).arena.bytes n)) same
      ∙ ap (key_bytes word) (rows_same 0 (block_words (class_in word)) ((memory z d).arena.bytes (class_in word) (block_in word)) ((memory z a).arena.bytes (class_in word) (block_in word))
      (λ l _ _. but_same z P a d k (in_arena (at_bytes (class_in word) (block_in word) l)) (bytes i once l)));
}

module _ (z : Sizes) (r : ℕ) (a d : List ℕ) (k : KeysStay z r a d) where
  linked_still : (i : ℕ) → IsLinked (memory z a) r i → IsLinked (memory z d) r i
  linked_still i once = ap (total (λ j. one_at j i)) k.links ∙ once

  linked_before : (i : ℕ) → IsLinked (memory z d) r i → IsLinked (memory z a) r i
  linked_before i once = ap (total (λ j. one_at j i)) (sym k.links) ∙ once

  -- the entry of a key has it still, and had it before
  pub key_still : (i : EntryNo) (key : List ℕ) → HasKeyAt (memory z a) r key (Entry i) → HasKeyAt (memory z d) r key (Entry i)
  key_still i key h = (linked_still i.0 h.0, k.keys i.0 h.0 ∙ h.1)

  pub key_before : (i : EntryNo) (key : List ℕ) → HasKeyAt (memory z d) r key (Entry i) → HasKeyAt (memory z a) r key (Entry i)
  key_before i key h = let was = linked_before i.0 h.0 in (was, sym (k.keys i.0 was) ∙ h.1)

  -- and a key without one has none, and had none
  pub missing_still : (key : List ℕ) → LacksKeyAt (memory z a) r key → LacksKeyAt (memory z d) r key
  missing_still key none = λ i once same. let was = linked_before i once in none i was (sym (k.keys i was) ∙ same)

  pub missing_before : (key : List ℕ) → LacksKeyAt (memory z d) r key → LacksKeyAt (memory z a) r key
  missing_before key none = λ i once same. none i (linked_still i once) (k.keys i once ∙ same)

  -- so it is over two changes
  pub keys_both : (e : List ℕ) → KeysStay z r d e → KeysStay z r a e
  keys_both e l = record { count = l.count ∙ k.count; links = l.links ∙ k.links; keys = λ i once. l.keys i (linked_still i once) ∙ k.keys i once }
