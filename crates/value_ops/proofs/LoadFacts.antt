-- What is loaded under a good pin is what the pin recorded, and its place names a block of the table.
use Rattle.std.proofs.Common.{◌≡◌, ℕ, ◌+◌, ◌*◌, ◌<◌, List, length, get_or, sym, ap, ◌∙◌, subst, arith, Some}
use mathlib.Core.Logic.{dite}
use mathlib.Core.Option.{some}
use lib.ListN.{get_elem?}
use native.Mathlib.Decide.{dec_lt}
use Rattle.pin_word.specs.PinWord.{state_of}
use Rattle.oak_model.specs.Limits.{Sizes}
use Rattle.oak_model.proofs.Lists.{at_map, rows_length, rows_at}
use Rattle.arena_core.specs.Arena.{at_bytes, block_words, blocks}
use Rattle.arena_core.specs.Place.{IsPlace, class_in, block_in, names_block, content}
use Rattle.arena_core.proofs.PlaceLaws.{class_below}
use Rattle.header_core.specs.declared.holds.PinnedHeader.{PinnedHeader}
use Rattle.header_core.specs.Headers.{at_place, at_stamp}
use Rattle.header_core.specs.HeaderRule.{IsGood, PinHolds, GoodPinHolds}
use Rattle.oak_core.specs.declared.states.PassState.{PassState}
use Rattle.oak_core.specs.Memory.{Memory, Spot, in_arena, in_headers, index, IsInside, read, memory}
use Rattle.oak_core.specs.Owners.{has_block, other_owners}
use Rattle.oak_core.specs.PassState.{headers_held}
use Rattle.oak_core.specs.Rule.{Rule}
use Rattle.oak_core.specs.Splitting.{Loads}
use Rattle.oak_core.specs.TableState.{TableState}
use Rattle.oak_core.proofs.owners.HeadersInArena.{pin_fact, live_stocked}
use Rattle.oak_core.proofs.owners.OwnerLaws.{live_inside, owner_counts, names_itself}
use Rattle.oak_core.proofs.memory.Words.{index_apart, memory_read}
use Rattle.value_ops.specs.PinnedValues.{IsPlaced}
use Rattle.arena_core.proofs.ClassRooms.{place_room}

-- a good pin of a pass, at a moment at which the rule holds
module _ (z : Sizes) (s : TableState) (r : Rule z s) (seat : ℕ) (v : PassState) (here : get_elem? s.states seat ≡ some v) (p : PinnedHeader) (is : v.headers.pin ≡ Some p) (good : IsGood p) where
  abbrev m : Memory
  m = memory z s.words

  pub holds : PinHolds m.headers (content m.arena.bytes) p
  holds = pin_fact (GoodPinHolds m.headers (content m.arena.bytes)) v.headers.pin p is (r.headers.good seat v.headers (at_map headers_held s.states seat v here)) good

  pub live_block : has_block m.headers (class_in p.place) (block_in p.place) p.header ≡ 1
  live_block = let live = live_stocked (state_of (m.headers.pin p.header)) holds.live in (λ i. live i * names_block (class_in p.place) (block_in p.place) (holds.place i)) ∙ (λ i. 1 * names_itself p.place i)

  pub block_owned : 0 < other_owners z m.headers (class_in p.place) (block_in p.place)
  block_owned = let live = live_stocked (state_of (m.headers.pin p.header)) holds.live in let one = live_block in
      let counts = owner_counts z m.headers p.header (class_in p.place) (block_in p.place) (live_inside z s.words p.header (omega arith)) in omega arith

  place_is : IsPlace p.place
  place_is = let live = live_stocked (state_of (m.headers.pin p.header)) holds.live in subst IsPlace holds.place (r.headers.placed p.header (omega arith))

  pub placed : IsPlaced z p
  placed = record {
    class = let b = class_below place_is.class in let e = place_is.is_in in omega arith;
    block = dite (dec_lt (block_in p.place) (blocks z (class_in p.place))) (λ l. l) (λ n. let none = r.blocks.inside (class_in p.place) (block_in p.place) (omega arith) in let some_of = block_owned in absurd (omega arith));
    room = place_room p.place place_is;
  }

  pub words_long : length p.words ≡ block_words (class_in p.place)
  words_long = ap length (sym holds.words) ∙ rows_length 0 (block_words (class_in p.place)) (m.arena.bytes (class_in p.place) (block_in p.place))

  pub word_of : (i : ℕ) → i < block_words (class_in p.place) → m.arena.bytes (class_in p.place) (block_in p.place) i ≡ get_or p.words i 0
  word_of i lt = sym (ap (λ (ws : List ℕ). get_or ws i 0) (sym holds.words) ∙ (rows_at 0 (block_words (class_in p.place)) i (m.arena.bytes (class_in p.place) (block_in p.place)) 0 lt
      ∙ ap (m.arena.bytes (class_in p.place) (block_in p.place)) (let e : 0 + i ≡ i = omega arith in e)))

-- a load by a pass with a good pin
module _ (z : Sizes) (call word n : ℕ) (v w : PassState) (l : Loads z call word v n w) where
  pub found_is : (q : Spot) → IsInside z q → word ≡ index z q → n ≡ read (memory z l.told.table.words) q
  found_is q inside e = sym (memory_read z l.told.table.words q inside ∙ (ap (λ (x : Spot). get_or l.told.table.words (index z x) 0) (sym (index_apart z l.spot q l.inside inside (l.at ∙ e))) ∙ l.told.finds))

  module _ (p : PinnedHeader) (is : v.headers.pin ≡ Some p) (good : IsGood p) where
    pub loaded_placed : IsPlaced z p
    loaded_placed = placed z l.told.table l.told.rule l.told.seat v l.told.here p is good

    pub loaded_long : length p.words ≡ block_words (class_in p.place)
    loaded_long = words_long z l.told.table l.told.rule l.told.seat v l.told.here p is good

    pub place_loaded : (h : ℕ) → h < z.headers → p.header ≡ h → word ≡ index z (in_headers (at_place h)) → n ≡ p.place
    place_loaded h lt e at = found_is (in_headers (at_place h)) lt at ∙ (ap (memory z l.told.table.words).headers.place (sym e) ∙ (holds z l.told.table l.told.rule l.told.seat v l.told.here p is good).place)

    pub stamp_loaded : (h : ℕ) → h < z.headers → p.header ≡ h → word ≡ index z (in_headers (at_stamp h)) → n ≡ p.stamp
    stamp_loaded h lt e at = found_is (in_headers (at_stamp h)) lt at ∙ (ap (memory z l.told.table.words).headers.stamp (sym e) ∙ (holds z l.told.table l.told.rule l.told.seat v l.told.here p is good).stamp)

    pub word_loaded : (i : ℕ) → i < block_words (class_in p.place) → word ≡ index z (in_arena (at_bytes (class_in p.place) (block_in p.place) i)) → n ≡ get_or p.words i 0
    word_loaded i lt at = found_is (in_arena (at_bytes (class_in p.place) (block_in p.place) i)) (loaded_placed.class, loaded_placed.block, lt) at ∙ word_of z l.told.table l.told.rule l.told.seat v l.told.here p is good i lt
