-- What was found under a pin as searches see it: it is only added to, and the order of keys is that of their numbers.
use Rattle.std.proofs.Common.{◌≡◌, ℕ, ◌<◌, List, sym, ap, ◌∙◌, subst}
use Rattle.oak_model.specs.Counts.{Has}
use Rattle.oak_model.specs.Key.{IsKeyBefore}
use Rattle.oak_model.specs.Limits.{Sizes}
use Rattle.oak_model.proofs.NumberLaws.{key_before_is, key_number_rises}
use Rattle.chunk_core.specs.declared.holds.FoundEntry.{FoundEntry}
use Rattle.chunk_core.specs.declared.holds.PinnedRoom.{PinnedRoom}
use Rattle.chunk_core.specs.KeyWords.{key_bytes, key_in}
use Rattle.chunk_core.specs.PinnedRooms.{found_in, found_key}
use Rattle.link_search.specs.Linked.{Grown, IsFound, Later}
use Rattle.chunk_ops.specs.PinRecords.{IsFoundWell, PinStays}
use Rattle.chunk_ops.specs.RoomLoads.{counts_told, key_found, linked_in, prefix_told}
use Rattle.chunk_ops.specs.FoundNumbers.{entry_is, found_numbered, has_counted}

-- no two of those found have one number
abbrev pub AreAlike : PinnedRoom → Type 0
AreAlike p = (e f : FoundEntry) → Has e (found_in p) → Has f (found_in p) → e.number ≡ f.number → e ≡ f

-- the key of one
pub view_key : (p : PinnedRoom) → AreAlike p → (i : ℕ) (e : FoundEntry) → Has e (found_in p) → e.number ≡ i → (linked_in p).key i ≡ key_bytes e.word e.words
view_key p alike i e has is = ap key_found (entry_is i (found_in p) e alike has is)

-- what a later pin found besides leaves all that was found
module _ (p q : PinnedRoom) (s : PinStays p q) (alike : AreAlike q) where
  more_found : (i : ℕ) → IsFound (linked_in p) i → IsFound (linked_in q) i
  more_found i l = let n = found_numbered i (found_in p) l in has_counted i (found_in q) n.entry (s.entries n.entry n.has) n.number

  same_key : (i : ℕ) → IsFound (linked_in p) i → (linked_in q).key i ≡ (linked_in p).key i
  same_key i l = let n = found_numbered i (found_in p) l in ap key_found (entry_is i (found_in q) n.entry alike (s.entries n.entry n.has) n.number ∙ sym n.is)

  pub view_grown : Grown (linked_in p) (linked_in q)
  view_grown = record { found = more_found; key = same_key }

  -- where the count was not loaded again
  pub view_later : q.count ≡ p.count → Later (linked_in p) (linked_in q)
  view_later same = record { counted = ap counts_told same; prefix = ap prefix_told same; found = more_found; key = same_key }

-- keys that are the same are in the same order
pub keys_before : (a b c d : List ℕ) → a ≡ c → b ≡ d → IsKeyBefore a b → IsKeyBefore c d
keys_before a b c d e f l = subst (λ (k : List ℕ). IsKeyBefore k d) e (subst (IsKeyBefore a) f l)

-- the order of two keys that were found
module _ (z : Sizes) (e f : FoundEntry) (h : IsFoundWell z e) (g : IsFoundWell z f) where
  pub found_before : found_key e < found_key f → IsKeyBefore (key_bytes e.word e.words) (key_bytes f.word f.words)
  unfolding key_in
  found_before l = key_before_is (key_bytes e.word e.words) (key_bytes f.word f.words) h.bytes g.bytes h.key g.key l

  pub before_found : IsKeyBefore (key_bytes e.word e.words) (key_bytes f.word f.words) → found_key e < found_key f
  unfolding key_in
  before_found l = key_number_rises (key_bytes e.word e.words) (key_bytes f.word f.words) h.bytes g.bytes g.key l
