-- What the rule says of each range that moves with a pass.
use Rattle.std.proofs.Common.{◌≡◌, ℕ, ◌-◌, ◌≤◌, ◌&&◌, nat_lt, nat_le, List, [], ◌∷◌, map, arith}
use mathlib.Core.Option.{some}
use lib.ListN.{get_elem?}
use Rattle.oak_model.specs.declared.limits.TheConstants.{GREATEST_KEY}
use Rattle.oak_model.specs.Class.{class_of}
use Rattle.oak_model.specs.Counts.{total, Each}
use Rattle.oak_model.specs.Limits.{Sizes}
use Rattle.oak_model.proofs.Counting.{one_if_le, total_map}
use Rattle.oak_model.proofs.Lists.{at_map}
use Rattle.arena_core.specs.Place.{class_in, length_in, content}
use Rattle.chunk_core.specs.declared.holds.Carried.{Carried}
use Rattle.chunk_core.specs.declared.holds.MovingRange.{MovingRange}
use Rattle.chunk_core.specs.declared.holds.RoomHolds.{RoomHolds}
use Rattle.chunk_core.specs.CoverRule.{CoversPartition}
use Rattle.chunk_core.specs.CoverSums.{all_of, each, has_key, stray}
use Rattle.chunk_core.specs.Covers.{Entry, Cover, cover_at, cover_from, entry_from}
use Rattle.chunk_core.specs.KeyWords.{low_number}
use Rattle.chunk_core.specs.Rooms.{RoomMemory}
use Rattle.chunk_core.specs.Spans.{Span, within}
use Rattle.chunk_core.specs.ValueWord.{names_header}
use Rattle.chunk_core.proofs.CoverLaws.{range_le}
use Rattle.chunk_core.proofs.SpanLaws.{within-le}
use Rattle.oak_core.specs.declared.states.PassState.{PassState}
use Rattle.oak_core.specs.EntryOwners.{is_class, is_key_word}
use Rattle.oak_core.specs.Memory.{memory}
use Rattle.oak_core.specs.PassState.{rooms_held}
use Rattle.chunk_ops.specs.RoomPins.{HadMoment}
use Rattle.rebalance.specs.Mirrors.{RangeStands, range_span, carried_key}

-- where a sum is 0, each part is
each_none : {A : Type 0} (f : A → ℕ) (P : A → Type 0) (xs : List A) → ((x : A) → f x ≡ 0 → P x) → total f xs ≡ 0 → Each P xs
unfolding total
each_none f P [] h e = tt
each_none f P (x ∷ xs) h e = (h x (omega arith), each_none f P xs h (omega arith))

is_key_word-le : (word : ℕ) → is_key_word word ≤ 1
is_key_word-le word = one_if_le (nat_lt 0 (length_in word) && (nat_le (length_in word) GREATEST_KEY && is_class (class_in word) (class_of (length_in word))))

-- over the covers of a memory of rooms
module _ (z : Sizes) (m : RoomMemory) (content : ℕ → List ℕ) (hs : List RoomHolds) (parts : CoversPartition z m content is_key_word hs) (seat : ℕ) (a : RoomHolds) (here : get_elem? hs seat ≡ some a) (i : ℕ) (g : MovingRange) (there : get_elem? a.moving i ≡ some g) where
  -- the range is a part of each sum
  part_of : (F : Cover → ℕ) → F (cover_from g) ≤ all_of z m content hs F
  part_of F = range_le z.chunks m.pin (cover_at m content) hs F seat a here i g there

  -- so are its entries
  entries_of : (f : Span → Entry → ℕ) → total (λ (c : Carried). f (range_span g) (entry_from c)) g.carried ≤ all_of z m content hs (each f)
  entries_of f = let e = total_map entry_from (f (range_span g)) g.carried in let l = part_of (each f) in omega arith

  pub stands_in_rule : RangeStands g
  stands_in_rule = record {
    inside = each_none (λ (c : Carried). stray (range_span g) (entry_from c)) (λ (c : Carried). within (range_span g) (carried_key c) ≡ 1) g.carried
        (λ c e. let l = within-le (range_span g) (carried_key c) in omega arith) (let l = entries_of stray in let n = parts.inside in omega arith);
    begun = let l = part_of (λ (c : Cover). 1 - within c.span c.span.low) in let n = parts.begun in let w = within-le (range_span g) (low_number g.low) in omega arith;
    once = λ k. let l = entries_of (has_key k) in let n = parts.once k in omega arith;
    placed = each_none (λ (c : Carried). 1 - is_key_word c.word) (λ (c : Carried). is_key_word c.word ≡ 1) g.carried
        (λ c e. let l = is_key_word-le c.word in omega arith) (let l = entries_of (λ s x. 1 - is_key_word x.word) in let n = parts.placed in omega arith);
    floor = let l = part_of (λ (c : Cover). names_header c.span.base) in let n = parts.bases in omega arith;
  }

-- At a moment of the rule each range that moves with the pass is in order.
pub range_stands : (z : Sizes) (v : PassState) → HadMoment z v → (i : ℕ) (g : MovingRange) → get_elem? v.rooms.moving i ≡ some g → RangeStands g
range_stands z v h i g there = stands_in_rule z (memory z h.0).rooms (content (memory z h.0).arena.bytes) (map rooms_held h.1.states) h.1.rule.covers h.1.seat v.rooms (at_map rooms_held h.1.states h.1.seat v h.1.here) i g there
