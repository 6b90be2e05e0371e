-- The key word of an entry without a value is taken away, and the block of its key is given back.
use Rattle.std.proofs.Common.{◌≡◌, ℕ, ◌<◌, ◌&&◌, cond, true, Bool, List, [], ◌∷◌, map, sym, refl, ap, ◌∙◌, subst, arith, eq-eqb}
use Rattle.std.proofs.lemmas.Bool.{lt-ltb}
use mathlib.Core.Logic.{dite}
use native.Mathlib.Decide.{dec_lt}
use Rattle.oak_model.specs.declared.classes.Class.{Class}
use Rattle.oak_model.specs.Class.{class_number}
use Rattle.oak_model.specs.Counts.{one_if, total}
use Rattle.oak_model.specs.Limits.{Sizes}
use Rattle.oak_model.proofs.Counting.{total_at}
use Rattle.oak_model.proofs.Lists.{at_map, each_map}
use Rattle.oak_model.proofs.MemberLaws.{total_has}
use Rattle.arena_core.specs.declared.blocks.HeldBlock.{HeldBlock}
use Rattle.arena_core.specs.declared.blocks.HeldBlocks.{HeldBlocks}
use Rattle.arena_core.specs.Arena.{blocks}
use Rattle.arena_core.specs.Blocks.{HoldsBlock, block_from, holds, is_block, without}
use Rattle.arena_core.specs.Place.{block_in, class_from, class_in}
use Rattle.chunk_core.specs.declared.holds.Carried.{Carried}
use Rattle.chunk_core.specs.declared.holds.MovingRange.{MovingRange}
use Rattle.chunk_core.specs.declared.holds.RoomHolds.{RoomHolds}
use Rattle.chunk_core.specs.MovingRanges.{drops, is_dropped, ranges_with}
use Rattle.chunk_core.specs.Rooms.{at_key}
use Rattle.chunk_core.specs.ValueWord.{names_header}
use Rattle.oak_core.specs.declared.states.Finding.{Finding}
use Rattle.oak_core.specs.declared.states.PassState.{PassState}
use Rattle.oak_core.specs.Finding.{IsOf}
use Rattle.oak_core.specs.Memory.{Memory, memory}
use Rattle.oak_core.specs.PassState.{blocks_of}
use Rattle.oak_core.specs.RoomCalls.{StoresRoom}
use Rattle.oak_core.specs.Step.{block_back, blocks_dropped, on_arena}
use Rattle.arena_core.specs.ArenaStep.{clear_bit}
use Rattle.oak_core.proofs.seats.AloneRuns.{moment_after}
use Rattle.arena_ops.specs.Taking.{Gives}
use Rattle.chunk_ops.specs.RoomPins.{HadMoment}
use Rattle.rebalance.specs.declared.held_rooms.RoomWord.TheVariants.{Key}
use Rattle.rebalance.specs.HeldRooms.{IsLoose}
use Rattle.rebalance.specs.HeldTables.{AwayFromPins, HoldsAlone, WorksOnRooms}
use Rattle.rebalance.specs.LoneWords.{no_room}
use Rattle.rebalance.specs.Mirrors.{copy_or, held_memory}
use Rattle.rebalance.proofs.AwayFromPins.{away_front}
use Rattle.rebalance.proofs.HeldMemory.{word_read}
use Rattle.rebalance.proofs.LoneStores.{clear_runs}
use Rattle.rebalance.proofs.RoomStores.{stored_moment, stored_rooms, stored_works}
use Rattle.rebalance.proofs.RoomWorks.{copy_stands}
use Rattle.rebalance.specs.Resting.{Rests}

-- some entry is dropped with a loose key word
loose_drops : (word : ℕ) (gs : List MovingRange) → IsLoose word gs → 0 < drops word gs
loose_drops word gs l = let d : is_dropped word l.entry ≡ true = (λ i. eq-eqb l.entry.word word l.word_is i && eq-eqb (names_header l.entry.value) 0 l.bare i) in
    let a = total_has (λ (c : Carried). one_if (is_dropped word c)) l.carried.range.carried l.entry l.carried.has in let one : one_if (is_dropped word l.entry) ≡ 1 = ap one_if d in
    let b = total_at (λ (g : MovingRange). total (λ (c : Carried). one_if (is_dropped word c)) g.carried) gs l.carried.place l.carried.range l.carried.there in omega arith

-- a block that a pass holds at a moment is one of the table's
held_below : (z : Sizes) (v : PassState) → HadMoment z v → (c b : ℕ) → 0 < holds c b v.blocks → b < blocks z c
held_below z v moment c b some_held = let m = moment.1 in dite (dec_lt b (blocks z c)) (λ l. l) (λ g. let none = m.rule.blocks.inside c b (omega arith) in let t = total_at (holds c b) (map blocks_of m.states) m.seat v.blocks (at_map blocks_of m.states m.seat v m.here) in absurd (omega arith))

own_block : (bytes : ℕ → ℕ → ℕ → ℕ) (c : Class) (b : ℕ) → is_block (class_number c) b (block_from bytes c b) ≡ true
own_block bytes c b = λ i. eq-eqb (class_number c) (class_number c) refl i && eq-eqb b b refl i

pub given_rooms : (z : Sizes) (call : ℕ) (w : PassState) (c : Class) (b : ℕ) (u : PassState) → Gives z call c b w u → u.rooms ≡ w.rooms
given_rooms z call w c b u g = ap (λ (y : PassState). y.rooms) g.after

-- the store of 0 to the key word
module _ (z : Sizes) (call r e place : ℕ) (v w : PassState) (h : HoldsAlone z r v) (lt : e < z.entries) (is : place ≡ (held_memory v.rooms.held).key r e) (loose : IsLoose place v.rooms.moving) (t : StoresRoom z call (at_key r e) 0 v w) where
  abbrev m : Memory
  m = memory z t.1.table.words

  place_there : m.rooms.key r e ≡ place
  place_there = sym (is ∙ word_read z m.rooms r v.rooms.held (ap copy_or h.room.is ∙ sym (copy_stands z t.1.table t.1.rule t.1.seat v t.1.here r h.room.copy h.room.is)) (Key e) lt)

  pub drop_ranges : w.rooms.moving ≡ ranges_with place v.rooms.moving
  drop_ranges = ap (λ (a : RoomHolds). a.moving) (stored_rooms z call (at_key r e) 0 t.0 v w t.1) ∙ ap (λ (k : ℕ). ranges_with k v.rooms.moving) place_there

  abbrev block : HeldBlock
  block = block_from m.arena.bytes (class_from (class_in place)) (block_in place)

  drop_blocks : w.blocks ≡ record { held = block ∷ [] }
  drop_blocks = ap (λ (y : PassState). y.blocks) t.1.after
      ∙ (ap (λ (k : ℕ). blocks_dropped k m v.rooms v.blocks) place_there
      ∙ ((λ i. cond (lt-ltb 0 place loose.some_word i && lt-ltb 0 (drops place v.rooms.moving) (loose_drops place v.rooms.moving loose) i) (block_back m.arena.bytes place v.blocks) v.blocks)
      ∙ ap (block_back m.arena.bytes place) h.only.blocks))

  -- gives the block to the pass
  pub drop_holds : (c : Class) (b : ℕ) → c ≡ class_from (class_in place) → b ≡ block_in place → HoldsBlock z (class_number c) b w.blocks
  unfolding total
  drop_holds c b ce be = let d : Class = class_from (class_in place) in let n : ℕ = block_in place in
      let own : one_if (is_block (class_number d) n block) ≡ 1 = ap one_if (own_block m.arena.bytes d n) in let here : 0 < holds (class_number d) n (record { held = block ∷ [] }) = omega arith in
      let mine = subst (λ (a : HeldBlocks). 0 < holds (class_number d) n a) (sym drop_blocks) here in
      subst (λ (x : Class × ℕ). HoldsBlock z (class_number x.0) x.1 w.blocks) (λ i. (sym ce i, sym be i))
      (record { held = mine; inside = held_below z w (stored_moment z call (at_key r e) 0 t.0 v w t.1) (class_number d) n mine })

  -- which gives it back
  module _ (c : Class) (b : ℕ) (ce : c ≡ class_from (class_in place)) (be : b ≡ block_in place) (u : PassState) (g : Gives z call c b w u) where
    none_left : without (class_number c) b w.blocks.held ≡ []
    none_left = (λ i. without (class_number (ce i)) (be i) (drop_blocks i).held) ∙ ap (λ (t : Bool). cond t [] (block ∷ [])) (own_block m.arena.bytes (class_from (class_in place)) (block_in place))

    given_blocks : u.blocks ≡ v.blocks
    given_blocks = ap (λ (y : PassState). y.blocks) g.after ∙ (ap (λ (hs : List HeldBlock). record w.blocks { held = hs }) none_left ∙ sym h.only.blocks)

    given_stands : Rests call w u
    given_stands = subst (Rests call w) (sym g.after) (record { met = record { more = g.more; met = refl; calls = each_map (IsOf z call) (λ (f : Finding). f.call ≡ call) g.more (λ f o. o.0) g.calls }; numbers = refl; knowledge = refl; fulls = refl; swept = refl; sights = refl; gones = refl; claims = refl })

    given_away : AwayFromPins z w u
    given_away = away_front z call w u g.more (ap (λ (y : PassState). y.findings.met) g.after) g.calls

    pub drop_works : WorksOnRooms z call v u
    drop_works = stored_works z call (at_key r e) 0 t.0 v w t.1 u given_stands given_blocks (ap (λ (y : PassState). y.headers) g.after) (given_rooms z call w c b u g) given_away (_, moment_after z call (on_arena (clear_bit c b)) w g.number u g.told) (clear_runs z call c b g.number w u g.told no_room no_room)
