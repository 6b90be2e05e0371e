-- A store of 0 to a key word, where each entry that the ranges carry has a value: none is dropped by it.
use Rattle.std.proofs.Common.{◌≡◌, ℕ, ◌==◌, ◌&&◌, nat_lt, false, cond, List, [], ◌∷◌, map, refl, ap, ◌∙◌, arith}
use Rattle.oak_model.specs.Counts.{Each, one_if, total}
use Rattle.oak_model.specs.Limits.{Sizes}
use Rattle.oak_model.proofs.Counting.{test-cases}
use Rattle.chunk_core.specs.declared.holds.Carried.{Carried}
use Rattle.chunk_core.specs.declared.holds.MovingRange.{MovingRange}
use Rattle.chunk_core.specs.declared.holds.RoomHolds.{RoomHolds}
use Rattle.chunk_core.specs.MovingRanges.{drops, is_dropped, range_without, ranges_with}
use Rattle.chunk_core.specs.Rooms.{at_key}
use Rattle.chunk_core.specs.ValueWord.{names_header}
use Rattle.oak_core.specs.declared.states.PassState.{PassState}
use Rattle.oak_core.specs.Memory.{Memory, memory}
use Rattle.oak_core.specs.RoomCalls.{StoresRoom}
use Rattle.oak_core.specs.Step.{block_back}
use Rattle.rebalance.specs.HeldRooms.{AllValued}
use Rattle.rebalance.specs.HeldTables.{WorksOnRooms, away_none}
use Rattle.rebalance.specs.LoneWords.{no_room, runs_leave_none}
use Rattle.rebalance.specs.Resting.{rests_none}
use Rattle.rebalance.proofs.FrontCompacts.{none_dropped, valued_base, valued_kept}
use Rattle.rebalance.proofs.RoomStores.{stored_moment, stored_rooms, stored_works}

-- the ranges stay, whichever key word is taken away
pub ranges_stay : (word : ℕ) (gs : List MovingRange) → Each AllValued gs → ranges_with word gs ≡ gs
ranges_stay word gs all = test-cases (word == 0) (λ b. cond b gs (map (range_without word) gs) ≡ gs) (λ _. refl) (λ _. each gs all)
  where
    each : (gs : List MovingRange) → Each AllValued gs → map (range_without word) gs ≡ gs
    each [] all = refl
    each (g ∷ gs) all = let rest = each gs all.1 in let base = valued_base word g.base g.carried all.0 in let carried = valued_kept word g.carried all.0 in λ i. record g { base = base i; carried = carried i } ∷ rest i

-- and no entry goes
carried_stay : (word : ℕ) (cs : List Carried) → Each (λ (c : Carried). names_header c.value ≡ 1) cs → total (λ (c : Carried). one_if (is_dropped word c)) cs ≡ 0
unfolding total
carried_stay word [] all = refl
carried_stay word (c ∷ cs) all = let one : one_if (is_dropped word c) ≡ 0 = ap one_if (none_dropped word c all.0) in let rest = carried_stay word cs all.1 in omega arith

drops_none : (word : ℕ) (gs : List MovingRange) → Each AllValued gs → drops word gs ≡ 0
unfolding total
drops_none word [] all = refl
drops_none word (g ∷ gs) all = let one = carried_stay word g.carried all.0 in let rest = drops_none word gs all.1 in omega arith

module _ (z : Sizes) (call r e : ℕ) (v w : PassState) (valued : Each AllValued v.rooms.moving) (t : StoresRoom z call (at_key r e) 0 v w) where
  abbrev m : Memory
  m = memory z t.1.table.words

  pub cleared_ranges : w.rooms.moving ≡ v.rooms.moving
  cleared_ranges = ap (λ (a : RoomHolds). a.moving) (stored_rooms z call (at_key r e) 0 t.0 v w t.1) ∙ ranges_stay (m.rooms.key r e) v.rooms.moving valued

  cleared_blocks : w.blocks ≡ v.blocks
  cleared_blocks = let word : ℕ = m.rooms.key r e in ap (λ (y : PassState). y.blocks) t.1.after
      ∙ (ap (λ (k : ℕ). cond (nat_lt 0 word && nat_lt 0 k) (block_back m.arena.bytes word v.blocks) v.blocks) (drops_none word v.rooms.moving valued)
      ∙ test-cases (nat_lt 0 word) (λ b. cond (b && false) (block_back m.arena.bytes word v.blocks) v.blocks ≡ v.blocks) (λ _. refl) (λ _. refl))

  pub cleared_works : WorksOnRooms z call v w
  cleared_works = stored_works z call (at_key r e) 0 t.0 v w t.1 w (rests_none call w) cleared_blocks refl refl (away_none z w) (stored_moment z call (at_key r e) 0 t.0 v w t.1) (runs_leave_none z no_room no_room w)
