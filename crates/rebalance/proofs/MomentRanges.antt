-- What a moment of the rule says of the moving ranges of a pass: their words are those of the blocks, and no two have a key in common.
use Rattle.std.proofs.Common.{◌≡◌, ◌≢◌, ℕ, ◌+◌, ◌≤◌, map, arith}
use mathlib.Core.Option.{some}
use lib.ListN.{get_elem?}
use Rattle.oak_model.specs.Counts.{Each}
use Rattle.oak_model.specs.Limits.{Sizes}
use Rattle.oak_model.proofs.Counting.{total_two}
use Rattle.oak_model.proofs.Lists.{at_map}
use Rattle.oak_model.proofs.MemberLaws.{each_at}
use Rattle.arena_core.specs.Place.{content}
use Rattle.chunk_core.specs.declared.holds.Carried.{Carried}
use Rattle.chunk_core.specs.declared.holds.MovingRange.{MovingRange}
use Rattle.chunk_core.specs.CoverSums.{is_in}
use Rattle.chunk_core.specs.Covers.{cover_at, cover_from, moving_of}
use Rattle.chunk_core.specs.RoomRule.{AreTrueRanges}
use Rattle.chunk_core.specs.Spans.{within}
use Rattle.chunk_core.proofs.CoverLaws.{moves_le}
use Rattle.oak_core.specs.declared.states.PassState.{PassState}
use Rattle.oak_core.specs.Memory.{memory}
use Rattle.oak_core.specs.PassState.{rooms_held}
use Rattle.chunk_ops.specs.RoomPins.{HadMoment}
use Rattle.rebalance.specs.DroppedRange.{WordsDiffer}
use Rattle.rebalance.specs.Mirrors.{RangeStands, range_span}
use Rattle.rebalance.proofs.MirroredEntries.{words_differ}

module _ (z : Sizes) (v : PassState) (moment : HadMoment z v) where
  -- the words kept with its entries are those of blocks at the moment
  pub moment_true : AreTrueRanges (content (memory z moment.0).arena.bytes) v.rooms.moving
  moment_true = moment.1.rule.rooms.carried moment.1.seat v.rooms (at_map rooms_held moment.1.states moment.1.seat v moment.1.here)

  -- and of one of the ranges
  pub moment_words : (i : ℕ) (g : MovingRange) → get_elem? v.rooms.moving i ≡ some g → Each (λ (c : Carried). content (memory z moment.0).arena.bytes c.word ≡ c.words) g.carried
  moment_words i g there = each_at (λ (x : MovingRange). Each (λ (c : Carried). content (memory z moment.0).arena.bytes c.word ≡ c.words) x.carried) v.rooms.moving moment_true i g there

  -- two of its entries with one key word are one
  pub moment_differ : (i : ℕ) (g : MovingRange) → get_elem? v.rooms.moving i ≡ some g → RangeStands g → WordsDiffer g
  moment_differ i g there stands = words_differ g stands (content (memory z moment.0).arena.bytes) (moment_words i g there)

  -- and two ranges have no key in common
  pub moment_apart : (i j : ℕ) (g h : MovingRange) → i ≢ j → get_elem? v.rooms.moving i ≡ some g → get_elem? v.rooms.moving j ≡ some h → (k : ℕ) → within (range_span g) k + within (range_span h) k ≤ 1
  moment_apart i j g h ne at there k = let m = memory z moment.0 in let rule = moment.1.rule in
      let a = moves_le z.chunks m.rooms.pin (cover_at m.rooms (content m.arena.bytes)) (map rooms_held moment.1.states) (is_in k) moment.1.seat v.rooms (at_map rooms_held moment.1.states moment.1.seat v moment.1.here) in
      let t = total_two (is_in k) (moving_of v.rooms) i j (cover_from g) (cover_from h) ne (at_map cover_from v.rooms.moving i g at) (at_map cover_from v.rooms.moving j h there) in
      let c = rule.covers.covered k in omega arith
