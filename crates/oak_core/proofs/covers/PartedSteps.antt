-- A pass gives up a room that it holds, and the ranges and entries are cut otherwise: what stands behind the step.
use Rattle.std.proofs.Common.{◌≡◌, ℕ, ◌+◌, ◌^◌, ◌<◌, List, map, set, sym, ap, ◌∙◌, subst, arith, false, Option}
use mathlib.Core.Option.{some}
use lib.ListN.{get_elem?}
use Rattle.oak_model.specs.Counts.{total}
use Rattle.oak_model.specs.Kept.{KeptNumbersStand}
use Rattle.oak_model.specs.Limits.{Sizes}
use Rattle.oak_model.proofs.KeptLaws.{kept_unkept}
use Rattle.oak_model.proofs.Lists.{at_map, map_set, map_set_same}
use Rattle.arena_core.specs.Blocks.{BlocksAreOwned}
use Rattle.arena_core.specs.Place.{content, names_block}
use Rattle.header_core.specs.declared.holds.HeaderHolds.{HeaderHolds}
use Rattle.chunk_core.specs.declared.holds.Claim.{Claim}
use Rattle.chunk_core.specs.declared.holds.MovingRange.{MovingRange}
use Rattle.chunk_core.specs.declared.holds.RoomHolds.{RoomHolds}
use Rattle.chunk_core.specs.CoverRule.{CoversPartition}
use Rattle.chunk_core.specs.Covers.{Cover}
use Rattle.chunk_core.specs.CoverSums.{all_of, owners_in_rooms}
use Rattle.chunk_core.specs.RoomCopies.{without_room}
use Rattle.chunk_core.specs.RoomRule.{RoomsStand}
use Rattle.chunk_core.specs.RoomStep.{put_room}
use Rattle.chunk_core.specs.Rooms.{at_room_pin}
use Rattle.chunk_core.proofs.FewerKeptRooms.{fewer_kept}
use Rattle.chunk_core.proofs.Ranges.{Parted}
use Rattle.oak_core.specs.declared.states.Knowledge.{Knowledge}
use Rattle.oak_core.specs.declared.states.PassState.{PassState}
use Rattle.oak_core.specs.Bounds.{base_over}
use Rattle.oak_core.specs.Callers.{made_by}
use Rattle.oak_core.specs.EntryOwners.{all_others, is_key_word}
use Rattle.oak_core.specs.Memory.{Memory, in_rooms, memory, read, same_spot, write}
use Rattle.oak_core.specs.PassState.{blocks_of, kept_of, knowledge_of, rooms_held}
use Rattle.oak_core.specs.Rule.{HistoriesStand, HoldsKnown, Rule}
use Rattle.oak_core.specs.TableState.{TableState}
use Rattle.oak_core.proofs.histories.CallersKept.{without_hand}
use Rattle.oak_core.proofs.kinds.Keeps.{headers_stay}
use Rattle.oak_core.proofs.owners.KeptWords.{kept_with, times_in_rooms, unkept_by_all}
use Rattle.oak_core.proofs.keyed.KeyBundles.{keys_now}
use Rattle.oak_core.proofs.covers.PartedKeys.{parted_bundles}
use Rattle.oak_core.proofs.covers.RoomBundles.{RoomBundles}
use Rattle.oak_core.proofs.kinds.ValueSteps.{Behind}
use Rattle.oak_core.proofs.memory.Words.{read-write}

module _ (z : Sizes) (s : TableState) (seat : ℕ) (v : PassState) (r : Rule z s) (here : get_elem? s.states seat ≡ some v) where
  abbrev m : Memory
  m = memory z s.words

  abbrev bytes : ℕ → List ℕ
  bytes = content m.arena.bytes

  abbrev hs : List RoomHolds
  hs = map rooms_held s.states

  -- the pass is w then: it has the room k no more, whose pin word is x, has other moving ranges, and all else that it had
  pub record GivesUp (k x : ℕ) (gs : List MovingRange) (w : PassState) : Type 0 where
    pub small : x < 2 ^ 64
    pub rooms : w.rooms ≡ record v.rooms { held = without_room k v.rooms.held; moving = gs }
    pub blocks : w.blocks ≡ v.blocks
    pub headers : w.headers ≡ v.headers
    pub knowledge : w.knowledge ≡ v.knowledge
    pub numbers : w.numbers ≡ v.numbers

  -- the parts of covers that go, and those that come, and what stands of rooms
  pub record Cuts (k x : ℕ) (gs : List MovingRange) : Type 0 where
    pub gone : List Cover
    pub come : List Cover
    pub parted : Parted gone come
    pub step : (F : Cover → ℕ) → all_of z (put_room m.rooms (at_room_pin k) x) bytes (set hs seat (record v.rooms { held = without_room k v.rooms.held; moving = gs })) F + total F gone ≡ all_of z m.rooms bytes hs F + total F come
    pub owners : (names_it : ℕ → ℕ) → owners_in_rooms z (put_room m.rooms (at_room_pin k) x) bytes (set hs seat (record v.rooms { held = without_room k v.rooms.held; moving = gs })) names_it ≡ owners_in_rooms z m.rooms bytes hs names_it
    pub low : total (base_over (total made_by s.states)) gone ≡ 0
    pub stand : RoomsStand z (put_room m.rooms (at_room_pin k) x) bytes (set hs seat (record v.rooms { held = without_room k v.rooms.held; moving = gs }))
    pub covers : CoversPartition z (put_room m.rooms (at_room_pin k) x) bytes is_key_word (set hs seat (record v.rooms { held = without_room k v.rooms.held; moving = gs }))

  module _ (call : ℕ) (going : v.numbers.spent ≡ false) (k x : ℕ) (gs : List MovingRange) (w : PassState) (u : GivesUp k x gs w) (c : Cuts k x gs) where
    abbrev m' : Memory
    m' = write m (in_rooms (at_room_pin k)) x

    -- what the passes have of rooms then
    abbrev hs' : List RoomHolds
    hs' = set hs seat (record v.rooms { held = without_room k v.rooms.held; moving = gs })

    all_rooms : map rooms_held (set s.states seat w) ≡ hs'
    all_rooms = map_set rooms_held s.states seat w ∙ ap (set hs seat) u.rooms

    -- each block has the owners that it had
    owners : (d b : ℕ) → all_others z m' hs' d b ≡ all_others z m hs d b
    owners d b = let e = c.owners (names_block d b) in omega arith

    blocks_then : BlocksAreOwned z m.arena.bits (all_others z m' hs') (map blocks_of s.states)
    blocks_then = record {
      owned = λ d b. let e = owners d b in let o = r.blocks.owned d b in omega arith;
      inside = λ d b le. let e = owners d b in let o = r.blocks.inside d b le in omega arith;
      whole = r.blocks.whole;
    }

    bundles : RoomBundles z m'.rooms m'.arena.bytes hs'
    bundles = record { rooms = c.stand; covers = c.covers; kept = fewer_kept m.rooms hs r.kept_in_rooms seat v.rooms (at_map rooms_held s.states seat v here) k gs k x }

    step_then : (F : Cover → ℕ) → all_of z m'.rooms bytes (map rooms_held (set s.states seat w)) F + total F c.gone ≡ all_of z m.rooms bytes hs F + total F c.come
    step_then F = let e = ap (λ (l : List RoomHolds). all_of z m'.rooms bytes l F) all_rooms in let t = c.step F in omega arith

    -- all that is owed for the rule stands behind the step
    pub cuts_behind : Behind z s seat v r here (at_room_pin k) x w
    cuts_behind = record {
      small = u.small;
      histories = subst HistoriesStand (sym (map_set_same knowledge_of s.states seat v w here u.knowledge)) r.histories;
      blocks = subst (λ (l : List RoomHolds). BlocksAreOwned z m.arena.bits (all_others z m' l) (map blocks_of (set s.states seat w))) (sym all_rooms)
          (subst (BlocksAreOwned z m.arena.bits (all_others z m' hs')) (sym (map_set_same blocks_of s.states seat v w here u.blocks)) blocks_then);
      headers = headers_stay z s call seat v r here going w u.knowledge u.headers;
      rooms = subst (RoomBundles z m'.rooms m'.arena.bytes) (sym all_rooms) bundles;
      keys = parted_bundles z m m'.rooms is_key_word s.states (keys_now z s r) seat v w here (ap (λ (a : RoomHolds). a.pin) u.rooms) u.headers u.knowledge (ap without_hand u.numbers) c.gone c.come c.parted step_then c.low;
      kept = subst (KeptNumbersStand same_spot (read m')) (sym (map_set_same kept_of s.states seat v w here (λ i. kept_with (u.blocks i) (u.headers i))))
          (kept_unkept same_spot (read m) (read m') (in_rooms (at_room_pin k)) x (λ q. read-write m (in_rooms (at_room_pin k)) q x) (map kept_of s.states) (unkept_by_all (in_rooms (at_room_pin k)) (times_in_rooms (at_room_pin k)) s.states) r.kept);
      pin = subst (λ (p : Knowledge × HeaderHolds × Option Claim). HoldsKnown p.0 p.1 p.2) (λ i. (sym u.knowledge i, sym u.headers i, sym (ap (λ (a : RoomHolds). a.claim) u.rooms) i)) (r.passes seat v here);
    }
