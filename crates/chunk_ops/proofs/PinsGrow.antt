-- A pin that a load of the count, or of a link, gives more has found what it had.
use Rattle.std.proofs.Common.{◌≡◌, ℕ, ◌+◌, List, refl, ap, ◌∙◌, subst, inr, ⊎_elim, arith, Option, Some, None}
use mathlib.Core.Option.{some}
use Rattle.oak_model.specs.Counts.{rows, Has}
use Rattle.oak_model.specs.Limits.{Sizes}
use Rattle.chunk_core.specs.declared.holds.FoundEntry.{FoundEntry}
use Rattle.chunk_core.specs.declared.holds.PinnedRoom.{PinnedRoom}
use Rattle.chunk_core.specs.FoundLinks.{found_by}
use Rattle.chunk_core.specs.LinkedEntries.{prefix_in}
use Rattle.chunk_core.specs.PinnedRooms.{AreCounted, IsPrefixStill, RoomPinHolds}
use Rattle.chunk_core.specs.RoomReads.{found_at, found_below, found_more}
use Rattle.chunk_core.specs.Rooms.{RoomMemory}
use Rattle.chunk_core.specs.RoomsAfter.{pin_walked, pin_with}
use Rattle.chunk_core.proofs.CountLoads.{rows_has}
use Rattle.chunk_core.proofs.RoomLinks.{found_stands}
use Rattle.oak_core.proofs.known.PinsKnown.{has_first, has_later}
use Rattle.oak_core.proofs.memory.MetLists.{at_inside}
use Rattle.chunk_ops.specs.PinRecords.{PinStays}
use Rattle.chunk_ops.proofs.EntryKeys.{found_same}
use Rattle.chunk_ops.proofs.Members.{has_at, at_has, has_parts}

-- what was walked to is still found, with what a link names

walked_still : (o : Option FoundEntry) (es : List FoundEntry) (e : FoundEntry) → Has e es → Has e (found_more o es)
walked_still None es e has = has
walked_still (Some f) es e has = inr has

pub pin_walks : (m : RoomMemory) (bytes : ℕ → List ℕ) (link : ℕ) (p : PinnedRoom) → PinStays p (pin_walked m bytes link p)
pin_walks m bytes link p = let o = found_by m bytes p.room link in record {
  room = refl;
  found = refl;
  base = refl;
  low = refl;
  high = refl;
  entries = λ e has. ⊎_elim (λ (l : Has e p.entries). has_first p.entries (found_more o p.walked) e l) (λ (l : Has e p.walked). has_later p.entries (found_more o p.walked) e (walked_still o p.walked e l)) (has_parts p.entries p.walked e has);
}

-- the entries of the prefix, which is as long as it was found, are those that the count tells
module _ (z : Sizes) (m : RoomMemory) (bytes : ℕ → List ℕ) (p : PinnedRoom) (h : RoomPinHolds z m bytes p) where
  prefix_still : (e : FoundEntry) → Has e p.entries → (o : Option ℕ) → AreCounted o p.entries → IsPrefixStill (m.count p.room) o → Has e (found_below m bytes p.room (m.count p.room))
  prefix_still e has None c s = absurd (subst (Has e) c has)
  prefix_still e has (Some n) c s = let a = at_has p.entries e has in let lt = at_inside p.entries a.0 e a.1 in let long = c.0 in let t = found_stands z m bytes p h e (has_first p.entries p.walked e has) in
      has_at (rows 0 (prefix_in (m.count p.room)) (found_at m bytes p.room)) a.0 e (rows_has (found_at m bytes p.room) 0 (prefix_in (m.count p.room)) a.0 (omega arith)
      ∙ ap some (found_same bytes (m.key p.room) (0 + a.0) a.0 e (let q : 0 + a.0 ≡ a.0 = omega arith in q) (c.1 a.0 e a.1) t.word t.words))

  pub pin_grows : PinStays p (pin_with m bytes (m.count p.room) p)
  pin_grows = let es = found_below m bytes p.room (m.count p.room) in record {
    room = refl;
    found = refl;
    base = refl;
    low = refl;
    high = refl;
    entries = λ e has. ⊎_elim (λ (l : Has e p.entries). has_first es p.walked e (prefix_still e l p.count h.counted h.prefix)) (λ (l : Has e p.walked). has_later es p.walked e l) (has_parts p.entries p.walked e has);
  }
