-- What a pass has of the room that it came to hold last: its words, its range, and the keys of its entries.
use Rattle.std.proofs.Common.{◌≡◌, ℕ, zero, ◌≤◌, List, [], ◌∷◌, refl, sym, ap, ◌∙◌, subst, arith, Some, cond, Bool, eq-eqb}
use mathlib.Core.Logic.{dite}
use mathlib.Core.Option.{some}
use native.Mathlib.Decide.{ℕ_discrete}
use lib.ListN.{get_elem?}
use Rattle.oak_model.specs.Counts.{one_at, total, Each, Has}
use Rattle.oak_model.specs.Limits.{Sizes}
use Rattle.oak_model.proofs.Counting.{one_at-le, one_at-other, one_at-same}
use Rattle.oak_model.proofs.Lists.{at_map}
use Rattle.oak_model.proofs.SumLaws.{times-none, times-one}
use Rattle.arena_core.specs.Place.{content}
use Rattle.chunk_core.specs.declared.holds.Carried.{Carried}
use Rattle.chunk_core.specs.declared.holds.HeldRoom.{HeldRoom}
use Rattle.chunk_core.specs.declared.holds.MovingRange.{MovingRange}
use Rattle.chunk_core.specs.declared.holds.RoomCopy.{RoomCopy}
use Rattle.chunk_core.specs.declared.states.TheConstants.{HELD}
use Rattle.chunk_core.specs.RoomCopies.{copy_of}
use Rattle.chunk_core.specs.RoomReads.{copy_at}
use Rattle.chunk_core.specs.RoomRule.{in_room_state, room_state}
use Rattle.chunk_core.specs.ValueWord.{names_header}
use Rattle.chunk_core.proofs.HeldRooms.{room_rows, row_here}
use Rattle.oak_core.specs.declared.states.PassState.{PassState}
use Rattle.oak_core.proofs.memory.MetLists.{each_at}
use Rattle.oak_core.specs.Memory.{memory}
use Rattle.oak_core.specs.PassState.{rooms_held}
use Rattle.rebalance.specs.CarriedKeys.{HaveKeys}
use Rattle.rebalance.specs.Chunks.{HoldsFront, held_row, keys_in}
use Rattle.rebalance.specs.DroppedRange.{WordsDiffer}
use Rattle.rebalance.specs.HeldRooms.{IsCarried, IsNamed}
use Rattle.rebalance.specs.HeldTables.{HoldsAlone, HoldsRoom, NamesValued, key_of_entry, valued}
use Rattle.rebalance.specs.Mirrors.{Mirrors, RangeStands, held_memory}
use Rattle.rebalance.proofs.CarriedEntries.{carried_names}
use Rattle.rebalance.proofs.HeldMemory.{held_copy}
use Rattle.rebalance.proofs.MirroredEntries.{words_differ}
use Rattle.rebalance.proofs.RangesStand.{range_stands}

-- a room that is not among the rows is in none of them
pub none_in : (r s : ℕ) (hs : List HeldRoom) → room_rows r s hs ≤ total (λ (h : HeldRoom). one_at h.room r) hs
unfolding total room_rows
none_in r s [] = omega arith
none_in r s (h ∷ hs) = let t = none_in r s hs in dite (ℕ_discrete h.room r)
    (λ e. let a = times-one (one_at h.room r) (one_at (room_state h.held_as) s) (one_at-same h.room r e) in let b = one_at-same h.room r e in let c = one_at-le (room_state h.held_as) s in omega arith)
    (λ n. let a = times-none (one_at h.room r) (one_at (room_state h.held_as) s) (one_at-other h.room r n) in omega arith)

module _ (z : Sizes) (r : ℕ) (w : RoomCopy) (g : MovingRange) (hs : List HeldRoom) (gs : List MovingRange) (v : PassState) (f : HoldsFront z r w g hs gs v) where
  pub front_copy : copy_of r v.rooms.held ≡ Some w
  unfolding copy_of
  front_copy = ap (copy_of r) f.held ∙ ap (λ (b : Bool). cond b (Some w) (copy_of r hs)) (eq-eqb r r refl)

  pub front_once : in_room_state r HELD v.rooms ≡ 1
  unfolding room_rows
  front_once = ap (λ (l : List HeldRoom). room_rows r HELD l) f.held ∙ (let a = row_here r r HELD (held_row r w) hs refl refl in let b = one_at-same HELD HELD refl in let c = none_in r HELD hs in let d = f.apart in omega arith)

  pub front_room : HoldsRoom z r v.rooms
  front_room = record { inside = f.inside; copy = w; is = front_copy; whole = f.whole; held = front_once }

  pub front_alone : HoldsAlone z r v
  front_alone = record { room = front_room; only = f.only; begun = f.moment }

  -- the words by the memory of all rooms that are held
  pub front_words : copy_at z (held_memory v.rooms.held) r ≡ w
  front_words = held_copy z r w v.rooms.held front_copy f.whole

  pub front_mirrors : Mirrors z (copy_at z (held_memory v.rooms.held) r) g
  front_mirrors = subst (λ (x : RoomCopy). Mirrors z x g) (sym front_words) f.mirrors

  pub front_there : get_elem? v.rooms.moving zero ≡ some g
  front_there = ap (λ (xs : List MovingRange). get_elem? xs zero) f.moving

  pub front_stands : RangeStands g
  front_stands = range_stands z v f.moment zero g front_there

  pub front_carried : (c : Carried) → Has c g.carried → IsCarried c v.rooms.moving
  front_carried c h = record { place = zero; range = g; there = front_there; has = h }

  pub front_differ : WordsDiffer g
  front_differ = let m = f.moment.1 in words_differ g front_stands (content (memory z f.moment.0).arena.bytes)
      (each_at (λ (x : MovingRange). Each (λ (c : Carried). content (memory z f.moment.0).arena.bytes c.word ≡ c.words) x.carried) v.rooms.moving (m.rule.rooms.carried m.seat v.rooms (at_map rooms_held m.states m.seat v m.here)) zero g front_there)

  -- an entry with a value is named by its key word, and has the key that is looked up
  pub front_names : (c : Carried) → Has c g.carried → names_header c.value ≡ 1 → NamesValued z c.word (valued v.rooms.moving)
  front_names c h b = (carried_names z v f.moment c (front_carried c h) b).names

  pub front_keys : HaveKeys (keys_in v.rooms.moving) g.carried
  front_keys c h b = let k = carried_names z v f.moment c (front_carried c h) b in record { is = k.key; named = subst (IsNamed c.word) (sym k.key) (let n = k.names.named in subst (IsNamed c.word) (sym (ap key_of_entry k.names.first) ∙ k.key) n) }
