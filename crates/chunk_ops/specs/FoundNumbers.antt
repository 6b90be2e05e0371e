-- The entries that a pin found, by their numbers.
use Rattle.std.proofs.Common.{◌≡◌, ℕ, ◌<◌, cond, Bool, true, List, [], ◌∷◌, length, sym, ap, ◌∙◌, subst, arith, Option, Some, eq-eqb, ne_eqb}
use Rattle.std.specs.Prelude.{is_some}
use mathlib.Core.Logic.{dite}
use native.Mathlib.Decide.{ℕ_discrete}
use Rattle.oak_model.specs.Counts.{one_at, total, Has}
use Rattle.oak_model.specs.Key.{IsKey, AreBytes}
use Rattle.oak_model.specs.Limits.{Sizes}
use Rattle.oak_model.proofs.Counting.{one_at-same, one_at-other}
use Rattle.oak_model.proofs.MemberLaws.{each_has, total_has}
use Rattle.arena_core.specs.Place.{length_in}
use Rattle.chunk_core.specs.declared.holds.FoundEntry.{FoundEntry}
use Rattle.chunk_core.specs.FoundLinks.{entry_numbered}
use Rattle.chunk_core.specs.PinnedRooms.{found_in}
use Rattle.chunk_core.proofs.LinkLoads.{numbered}
use Rattle.oak_core.specs.declared.states.PassState.{PassState}
use Rattle.oak_core.specs.Passes.{state, key as sizes}
use Rattle.chunk_ops.specs.declared.pinned_table.PinnedTable.{PinnedTable}
use Rattle.chunk_ops.specs.PinRecords.{HasEntry, HasRoomPin, IsFoundWell, room_pin}
use Rattle.chunk_ops.specs.Room.{IsRoom, HasFound, key_at}
use Rattle.chunk_ops.specs.RoomLoads.{IsPinnedTable, key_found, room_in, room_of, word_found}

-- one of them has the number
pub record FoundNumbered (i : ℕ) (es : List FoundEntry) : Type 0 where
  pub entry : FoundEntry
  pub is : entry_numbered i es ≡ Some entry
  pub has : Has entry es
  pub number : entry.number ≡ i

-- so it is where it counts
pub counted_some : (i : ℕ) (es : List FoundEntry) → 0 < total (λ (e : FoundEntry). one_at e.number i) es → is_some (entry_numbered i es) ≡ true
unfolding total entry_numbered
counted_some i [] h = absurd (omega arith)
counted_some i (x ∷ xs) h = dite (ℕ_discrete x.number i)
    (λ e. ap (λ (b : Bool). is_some (cond b (Some x) (entry_numbered i xs))) (eq-eqb x.number i e))
    (λ ne. ap (λ (b : Bool). is_some (cond b (Some x) (entry_numbered i xs))) (ne_eqb x.number i ne) ∙ counted_some i xs (let o = one_at-other x.number i ne in omega arith))

pub found_numbered : (i : ℕ) (es : List FoundEntry) → 0 < total (λ (e : FoundEntry). one_at e.number i) es → FoundNumbered i es
found_numbered i es h = let n = numbered i es (counted_some i es h) in record { entry = n.0; is = n.1; has = n.2; number = n.3 }

-- and one that was found counts
pub has_counted : (i : ℕ) (es : List FoundEntry) (e : FoundEntry) → Has e es → e.number ≡ i → 0 < total (λ (x : FoundEntry). one_at x.number i) es
has_counted i es e has is = let t = total_has (λ (x : FoundEntry). one_at x.number i) es e has in let o = one_at-same e.number i is in omega arith

-- where no two have one number, it is the one that has its number
pub entry_is : (i : ℕ) (es : List FoundEntry) (e : FoundEntry) → ((x y : FoundEntry) → Has x es → Has y es → x.number ≡ y.number → x ≡ y) → Has e es → e.number ≡ i → entry_numbered i es ≡ Some e
entry_is i es e alike has is = let n = found_numbered i es (has_counted i es e has is) in n.is ∙ ap (λ (x : FoundEntry). Some x) (alike n.entry e n.has has (n.number ∙ sym is))

-- what a pin found, as the room that is searched

module _ (z : Sizes) (r : ℕ) (v : PassState) (p : HasRoomPin z r v) (i : ℕ) (found : HasFound (room_in (room_pin v)) i) where
  abbrev pub there : FoundNumbered i (found_in (room_pin v))
  there = found_numbered i (found_in (room_pin v)) found

  pub well_there : IsFoundWell z there.entry
  well_there = each_has (IsFoundWell z) (found_in (room_pin v)) there.entry p.found there.has

  -- as the entry that its pass found
  abbrev pub entry_there : HasEntry r i (key_at (room_in (room_pin v)) i) v
  entry_there = record { entry = there.entry; finds = record { pin = p.pin; there = there.has; number = there.number }; key_is = ap key_found (sym there.is) }

  pub place_there : (room_in (room_pin v)).place i ≡ there.entry.word
  place_there = ap word_found there.is

pub pinned_room : (z : Sizes) (r : ℕ) (v : PassState) → HasRoomPin z r v → IsRoom (room_in (room_pin v))
pinned_room z r v p = record {
  few = λ i h. let t = there z r v p i h in let w = well_there z r v p i h in let a = w.number in let n = t.number in let f = p.few in omega arith;
  long = λ i h. ap length_in (place_there z r v p i h) ∙ ((well_there z r v p i h).long ∙ ap (λ (o : Option FoundEntry). length (key_found o)) (sym (there z r v p i h).is));
  key = λ i h. subst (λ (o : Option FoundEntry). IsKey (key_found o)) (sym (there z r v p i h).is) (well_there z r v p i h).key;
  bytes = λ i h. subst (λ (o : Option FoundEntry). AreBytes (key_found o)) (sym (there z r v p i h).is) (well_there z r v p i h).bytes;
}

pub table_room : (s : PinnedTable) → IsPinnedTable s → IsRoom (room_of s)
table_room s p = pinned_room (sizes s.table.now) s.room (state s.pass.now) p.pin
