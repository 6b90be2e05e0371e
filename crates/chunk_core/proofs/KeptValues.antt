-- The value word of a linked entry changes: no point on rooms speaks of it, no pass keeps it, and no block gets another owner.
use Rattle.std.proofs.Common.{◌≡◌, ℕ, ◌*◌, ◌<◌, ◌≤◌, ◌==◌, ◌&&◌, cond, Bool, false, List, map, ap, sym, ◌∙◌, arith, ne_eqb}
use mathlib.Core.Logic.{dite}
use mathlib.Core.Option.{some}
use native.Mathlib.Decide.{ℕ_discrete}
use lib.ListN.{get_elem?}
use Rattle.std.proofs.lemmas.Bool.{and_right}
use Rattle.oak_model.specs.Counts.{one_at, total}
use Rattle.oak_model.specs.Kept.{KeptNumbersStand}
use Rattle.oak_model.specs.Limits.{Sizes}
use Rattle.chunk_core.specs.declared.holds.RoomHolds.{RoomHolds}
use Rattle.chunk_core.specs.CoverSums.{each, owners_in_rooms, owning, weight}
use Rattle.chunk_core.specs.Covers.{entry_at, moving_of, span_in, used_at}
use Rattle.chunk_core.proofs.CoverLaws.{covers_same}
use Rattle.oak_model.proofs.Counting.{total_map}
use Rattle.chunk_core.specs.KeptRooms.{kept_of_rooms}
use Rattle.chunk_core.specs.LinkedEntries.{entries_in, in_use, linked}
use Rattle.chunk_core.specs.RoomRule.{RoomsStand}
use Rattle.chunk_core.specs.RoomStep.{put_room}
use Rattle.chunk_core.specs.Rooms.{RoomMemory, at_value, read_room, same_room_spot}
use Rattle.chunk_core.proofs.KeptClaims.{entry_put}
use Rattle.chunk_core.proofs.RoomFrames.{good_still, claim_still}

-- the points on rooms, whatever the entry in use
pub value_rooms : (z : Sizes) (m : RoomMemory) (content : ℕ → List ℕ) (hs : List RoomHolds) (r i x : ℕ) → i < entries_in (m.count r) → RoomsStand z m content hs → RoomsStand z (put_room m (at_value r i) x) content hs
value_rooms z m content hs r i x low rule = record {
  counted = rule.counted;
  held = rule.held;
  states = rule.states;
  generations = rule.generations;
  latches = rule.latches;
  ordered = λ j w. let o = rule.ordered j w in record { few = o.few; prefix = o.prefix; sorted = o.sorted; used = o.used; rises = o.rises; front = o.front; zeros = λ k l inside. let e = o.zeros k l inside in (e.0, ap (λ (t : Bool). cond t x (m.value j k)) (past j k l) ∙ e.1); bounds = o.bounds };
  either = rule.either;
  keyed = rule.keyed;
  claimed = λ j u at. claim_still m (put_room m (at_value r i) x) content content u.claim (λ c _ h. record { inside = h.inside; words = h.words }) (rule.claimed j u at);
  good = λ j u at. good_still z m (put_room m (at_value r i) x) content content u.pin
      (λ p _ h. record { inside = h.inside; cover = h.cover; base = h.base; low = h.low; high = h.high; counted = h.counted; prefix = h.prefix; entries = h.entries; walked = h.walked }) (rule.good j u at);
  carried = rule.carried;
  passes = rule.passes;
}
  where
    past : (j k : ℕ) → entries_in (m.count j) ≤ k → ((k == i) && (j == r)) ≡ false
    past j k l = dite (ℕ_discrete k i) (λ e. and_right (k == i) (j == r) (ne_eqb j r (λ s. let q = ap (λ (t : ℕ). entries_in (m.count t)) s in absurd (omega arith)))) (λ ne. ap (λ (t : Bool). t && (j == r)) (ne_eqb k i ne))

-- who owns a block, whatever the entry
pub value_owners : (z : Sizes) (m : RoomMemory) (content : ℕ → List ℕ) (hs : List RoomHolds) (names_it : ℕ → ℕ) (r i x : ℕ) → owners_in_rooms z (put_room m (at_value r i) x) content hs names_it ≡ owners_in_rooms z m content hs names_it
value_owners z m content hs names_it r i x = let m' : RoomMemory = put_room m (at_value r i) x in covers_same z.chunks m.pin m.pin (used_at m content) (used_at m' content) (map moving_of hs) (each (owning names_it)) (λ j _. ap (λ (t : ℕ). weight (m.pin j) * t)
    (total_map (entry_at m' content j) (owning names_it (span_in m j)) (in_use m j) ∙ sym (total_map (entry_at m content j) (owning names_it (span_in m j)) (in_use m j))))

-- so the numbers that passes keep of rooms stand, where the entry is linked
pub value_kept : (z : Sizes) (m : RoomMemory) (content : ℕ → List ℕ) (hs : List RoomHolds) (rule : RoomsStand z m content hs) (kept : KeptNumbersStand same_room_spot (read_room m) (map kept_of_rooms hs)) (seat : ℕ) (a : RoomHolds) (here : get_elem? hs seat ≡ some a)
    (r i : ℕ) → weight (m.pin r) ≡ 1 → total (λ j. one_at j i) (linked m r) ≡ 1 → (x : ℕ) → KeptNumbersStand same_room_spot (read_room (put_room m (at_value r i) x)) (map kept_of_rooms hs)
value_kept z m content hs rule kept seat a here r i cover there x = entry_put z m content hs rule kept seat a here (at_value r i) x cover (let e = rule.either r i cover in omega arith)
