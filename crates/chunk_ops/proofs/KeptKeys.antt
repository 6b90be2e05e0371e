-- A store to a word that is neither a link of a room nor a word of a key leaves the room the linked entries and the keys that it has.
use Rattle.std.proofs.Common.{◌≡◌, ℕ, ◌<◌, false, List, set, sym, refl, ap, ◌∙◌, subst, arith, inl, get_or-set_other, true≢false}
use mathlib.Core.Path.{fun_ext}
use Rattle.oak_model.specs.declared.classes.Class.{Class}
use Rattle.oak_model.specs.Class.{class_number}
use Rattle.oak_model.specs.Counts.{one_at, total}
use Rattle.oak_model.specs.Limits.{Sizes}
use Rattle.oak_model.proofs.Counting.{test-cases}
use Rattle.arena_core.specs.Arena.{at_bytes, blocks}
use Rattle.arena_core.specs.Place.{content}
use Rattle.arena_core.proofs.PlaceLaws.{class_below}
use Rattle.arena_ops.specs.Looking.{bit_spot}
use Rattle.arena_ops.specs.Taking.{ClearsBit}
use Rattle.chunk_core.specs.KeyWords.{key_bytes}
use Rattle.chunk_core.specs.LinkedEntries.{reached}
use Rattle.chunk_core.specs.Rooms.{at_first, at_key, at_next}
use Rattle.oak_core.specs.Memory.{Spot, in_arena, in_rooms, same_spot, IsInside, is_inside, index, number_at, memory}
use Rattle.oak_core.proofs.memory.Words.{same_spot-self, inside_is, index_apart, number_at-in, number_at-out}
use Rattle.chunk_ops.specs.declared.entries.EntryNo.{EntryNo}
use Rattle.chunk_ops.specs.declared.entries.Found.TheVariants.{Entry}
use Rattle.chunk_ops.specs.AddsAlone.{AddsIn}
use Rattle.chunk_ops.specs.FindsAlone.{FindsIn, HasKeyAt}

-- what stands at the other words
pub number_other : (z : Sizes) (ws : List ℕ) (p : Spot) (x : ℕ) → IsInside z p → (q : Spot) → same_spot q p ≡ false → number_at z (set ws (index z p) x) q ≡ number_at z ws q
number_other z ws p x h q f = test-cases (is_inside z q) (λ b. is_inside z q ≡ b → number_at z (set ws (index z p) x) q ≡ number_at z ws q)
    (λ i _. number_at-in z (set ws (index z p) x) q i ∙ (get_or-set_other ws (index z p) (index z q) x 0 (λ e. true≢false (sym (ap (λ (r : Spot). same_spot r p) (index_apart z q p (inside_is z q i) h e) ∙ same_spot-self p) ∙ f)) ∙ sym (number_at-in z ws q i)))
    (λ o _. number_at-out z (set ws (index z p) x) q o ∙ sym (number_at-out z ws q o)) refl

-- the word is none of a link, nor of a key
record IsNoKey (z : Sizes) (r : ℕ) (p : Spot) : Type 0 where
  inside : IsInside z p
  first : same_spot (in_rooms (at_first r)) p ≡ false
  next : (i : ℕ) → same_spot (in_rooms (at_next r i)) p ≡ false
  key : (i : ℕ) → same_spot (in_rooms (at_key r i)) p ≡ false
  bytes : (c b k : ℕ) → same_spot (in_arena (at_bytes c b k)) p ≡ false

-- so an entry is linked still, and has its key
key_kept : (z : Sizes) (r : ℕ) (p : Spot) (x : ℕ) (ws : List ℕ) → IsNoKey z r p → (key : List ℕ) (i : EntryNo) → HasKeyAt (memory z ws) r key (Entry i) → HasKeyAt (memory z (set ws (index z p) x)) r key (Entry i)
key_kept z r p x ws h key i has = (subst (λ (l : List ℕ). total (λ j. one_at j i.0) l ≡ 1) (λ j. reached (sym next j) (sym first j)) has.0, (λ j. key_bytes (word j) (content (bytes j) (word j))) ∙ has.1)
  where
    first : (memory z (set ws (index z p) x)).rooms.first r ≡ (memory z ws).rooms.first r
    first = number_other z ws p x h.inside (in_rooms (at_first r)) h.first

    next : (memory z (set ws (index z p) x)).rooms.next r ≡ (memory z ws).rooms.next r
    next = fun_ext (λ j. number_other z ws p x h.inside (in_rooms (at_next r j)) (h.next j))

    word : (memory z (set ws (index z p) x)).rooms.key r i.0 ≡ (memory z ws).rooms.key r i.0
    word = number_other z ws p x h.inside (in_rooms (at_key r i.0)) (h.key i.0)

    bytes : (memory z (set ws (index z p) x)).arena.bytes ≡ (memory z ws).arena.bytes
    bytes = fun_ext (λ c. fun_ext (λ b. fun_ext (λ k. number_other z ws p x h.inside (in_arena (at_bytes c b k)) (h.bytes c b k))))

-- a block is given back where an entry of the key was found
pub given_in : (z : Sizes) (r : ℕ) (i : EntryNo) (key : List ℕ) (c : Class) (b len : ℕ) → b < blocks z (class_number c) → (before middle after : List ℕ) → FindsIn z r key (Entry i) before middle → ClearsBit z c b middle after → AddsIn z r i c b len key before after
given_in z r i key c b len lt before middle after f g = record {
  was = inl (f.1, subst (λ (ws : List ℕ). ClearsBit z c b ws after) f.0 g);
  now = subst (λ (ws : List ℕ). HasKeyAt (memory z ws) r key (Entry i)) (sym g.1)
      (key_kept z r (bit_spot c b) _ middle no_key key i (subst (λ (ws : List ℕ). HasKeyAt (memory z ws) r key (Entry i)) (sym f.0) f.1));
}
  where
    no_key : IsNoKey z r (bit_spot c b)
    no_key = record { inside = (class_below c, omega arith); first = refl; next = λ i. refl; key = λ i. refl; bytes = λ c b k. refl }
