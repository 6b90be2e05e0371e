-- The points on rooms together, and that they stay where a split or a join changes who has what of rooms.
use Rattle.std.proofs.Common.{◌≡◌, ℕ, List, map, refl, arith}
use Rattle.oak_model.specs.Counts.{total, Every, Each}
use Rattle.oak_model.specs.Kept.{keeps, AreTrueTo, KeptNumbersStand}
use Rattle.oak_model.specs.Limits.{Sizes}
use Rattle.oak_model.proofs.Changes.{Change, change_parts}
use Rattle.oak_model.proofs.Counting.{total_map}
use Rattle.oak_model.proofs.Lists.{at_map, each_map_list}
use Rattle.arena_core.specs.Place.{content}
use Rattle.chunk_core.specs.declared.holds.RoomHolds.{RoomHolds}
use Rattle.chunk_core.specs.CoverRule.{CoversPartition}
use Rattle.chunk_core.specs.CoverSums.{covers}
use Rattle.chunk_core.specs.Covers.{Cover, cover_at, moving_of}
use Rattle.chunk_core.specs.KeptRooms.{kept_of_rooms, kept_of_rooms_held}
use Rattle.chunk_core.specs.PinnedRooms.{OnRoomPin, IsGoodRoom, RoomPinHolds}
use Rattle.chunk_core.specs.RoomHolds.{claims_on, no_rooms}
use Rattle.chunk_core.specs.RoomRule.{ClaimStands, OnClaim, room_pins, in_room_state, AreTrueRanges, RoomHoldsStand, RoomsStand}
use Rattle.chunk_core.specs.Rooms.{RoomMemory, RoomSpot, read_room, same_room_spot}
use Rattle.chunk_core.proofs.CoverFrames.{partition_same}
use Rattle.chunk_core.proofs.CoverLaws.{moves, covers_still}
use Rattle.chunk_core.proofs.RoomFrames.{rooms_changed}
use Rattle.oak_core.specs.EntryOwners.{is_key_word}
use Rattle.oak_core.specs.Memory.{memory}
use Rattle.oak_core.specs.PassState.{rooms_held}
use Rattle.oak_core.specs.Rule.{Rule}
use Rattle.oak_core.specs.TableState.{TableState}

-- the points on rooms and on covers, and that the numbers kept of rooms are true
pub record RoomBundles (z : Sizes) (m : RoomMemory) (bytes : ℕ → ℕ → ℕ → ℕ) (hs : List RoomHolds) : Type 0 where
  pub rooms : RoomsStand z m (content bytes) hs
  pub covers : CoversPartition z m (content bytes) is_key_word hs
  pub kept : KeptNumbersStand same_room_spot (read_room m) (map kept_of_rooms hs)

pub rooms_now : (z : Sizes) (s : TableState) → Rule z s → RoomBundles z (memory z s.words).rooms (memory z s.words).arena.bytes (map rooms_held s.states)
rooms_now z s r = record { rooms = r.rooms; covers = r.covers; kept = r.kept_in_rooms }

-- who has nothing of rooms counts nowhere

no_moves : (F : Cover → ℕ) → moves F no_rooms ≡ 0
unfolding total
no_moves F = refl

no_state : (r s : ℕ) → in_room_state r s no_rooms ≡ 0
unfolding total
no_state r s = refl

pub keeps_none : (p : RoomSpot) → keeps same_room_spot p (kept_of_rooms no_rooms) ≡ 0
unfolding total kept_of_rooms_held
keeps_none p = refl

pub none_true : (read : RoomSpot → ℕ) → AreTrueTo read (kept_of_rooms no_rooms)
unfolding kept_of_rooms_held
none_true read = tt

-- what comes has what goes had, and nothing else
module _ (z : Sizes) (m : RoomMemory) (bytes : ℕ → ℕ → ℕ → ℕ) (hs hs' gone fresh : List RoomHolds) (c : Change hs hs' gone fresh) (level : (f : RoomHolds → ℕ) → f no_rooms ≡ 0 → total f fresh ≡ total f gone) (all : (P : RoomHolds → Type 0) → Every P hs → P no_rooms → Each P fresh) where
  -- nothing changes that is added up over rooms and moving ranges
  pub sums_moved : (cover : ℕ → Cover) (F : Cover → ℕ) → covers z.chunks m.pin cover (map moving_of hs') F ≡ covers z.chunks m.pin cover (map moving_of hs) F
  sums_moved cover F = let s = covers_still z.chunks m.pin cover hs hs' gone fresh c F in let l = level (moves F) (no_moves F) in omega arith

  pub bundles_moved : RoomBundles z m bytes hs → RoomBundles z m bytes hs'
  bundles_moved b = record {
    rooms = rooms_changed z m m (content bytes) hs hs' gone fresh c record {
      pins = λ j. let l = level (room_pins j) refl in omega arith;
      held = λ j s is. let l = level (in_room_state j s) (no_state j s) in omega arith;
      states = b.rooms.states;
      generations = λ j. refl;
      latches = b.rooms.latches;
      ordered = b.rooms.ordered;
      either = λ j i n w e. let l = level (claims_on j i) refl in let q = b.rooms.either j i w in omega arith;
      keyed = λ j i n w low e. let l = level (claims_on j i) refl in let q = b.rooms.keyed j i w low in omega arith;
      claims = λ j u c stays at is h. h;
      own_claims = all (λ (u : RoomHolds). OnClaim (ClaimStands m (content bytes)) u.claim) b.rooms.claimed tt;
      others = λ j u p stays at is h. h;
      own = all (λ (u : RoomHolds). OnRoomPin (λ p. IsGoodRoom p → RoomPinHolds z m (content bytes) p) u.pin) b.rooms.good tt;
      carried = all (λ (u : RoomHolds). AreTrueRanges (content bytes) u.moving) b.rooms.carried tt;
      stands = all (RoomHoldsStand z) b.rooms.passes record { claim = tt; whole = tt };
    } b.rooms;
    covers = partition_same z m m (content bytes) (content bytes) is_key_word hs hs' (sums_moved (cover_at m (content bytes))) b.covers;
    kept = record {
      true_to = (change_parts kept_of_rooms c).every (AreTrueTo (read_room m))
          (each_map_list kept_of_rooms (AreTrueTo (read_room m)) fresh (all (λ (u : RoomHolds). AreTrueTo (read_room m) (kept_of_rooms u)) (λ j u at. b.kept.true_to j (kept_of_rooms u) (at_map kept_of_rooms hs j u at)) (none_true (read_room m))))
          (λ j ws _ at. b.kept.true_to j ws at);
      once = λ p. let f = λ (u : RoomHolds). keeps same_room_spot p (kept_of_rooms u) in let l = level f (keeps_none p) in let s = c.sums f in
          let a = total_map kept_of_rooms (keeps same_room_spot p) hs' in let d = total_map kept_of_rooms (keeps same_room_spot p) hs in let o = b.kept.once p in omega arith;
    };
  }
