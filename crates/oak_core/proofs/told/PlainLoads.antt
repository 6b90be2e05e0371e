-- The load of a word other than a room's count, a link, an entry's value word or a header's stamp word teaches nothing.
use Rattle.std.proofs.Common.{◌≡◌, ℕ, ap, ◌++◌, ◌∷◌, [], List, map, sym, refl, subst, Some, Option, None, ◌<◌, ◌∙◌, Bool, true, false}
use Rattle.oak_model.specs.Counts.{Begins}
use Rattle.oak_model.specs.Limits.{Sizes}
use Rattle.oak_model.proofs.Lists.{begins_self}
use Rattle.arena_core.specs.Arena.{ArenaSpot, IsInArena}
use Rattle.arena_core.specs.Place.{content}
use Rattle.header_core.specs.Headers.{HeaderSpot, at_pin, at_place, at_stamp, IsInHeaders}
use Rattle.chunk_core.specs.declared.holds.PinnedRoom.{PinnedRoom}
use Rattle.chunk_core.specs.declared.holds.RoomHolds.{RoomHolds}
use Rattle.chunk_core.specs.LinkWords.{link_spot}
use Rattle.chunk_core.specs.RoomsAfter.{walked_pin}
use Rattle.chunk_core.specs.Rooms.{at_room_pin, at_base, at_count, at_latch, at_first, at_low, at_high, at_key, at_value, at_next}
use Rattle.oak_core.specs.declared.states.Findings.{Findings}
use Rattle.oak_core.specs.declared.states.Knowledge.{Knowledge}
use Rattle.oak_core.specs.declared.states.PassState.{PassState}
use Rattle.oak_core.specs.declared.states.Taught.{Taught}
use Rattle.oak_core.specs.declared.states.Taught.TheVariants.{OfGap}
use Rattle.oak_core.specs.Finding.{finding, grown}
use Rattle.oak_core.specs.Loading.{IsPlain, knows_by_load, sights_by_load, rooms_by_load}
use Rattle.oak_core.specs.LinkTeaching.{gap_at, knows_link, shows_link, sights_link}
use Rattle.oak_core.specs.Memory.{Memory, Spot, at_given, in_arena, in_headers, in_rooms, memory, rooms_at, index, IsInside}
use Rattle.oak_core.specs.PassState.{knowledge_of}
use Rattle.oak_core.specs.Step.{load, state_after, found}
use Rattle.oak_core.specs.TableState.{TableState}
use Rattle.oak_core.specs.Sights.{sights_with, gones_with}
use Rattle.oak_core.specs.Splitting.{Loads}
use Rattle.oak_core.specs.StampLoads.{counts_stamp, stamp_taught}
use Rattle.oak_core.specs.ValueLoads.{shows_floor, value_taught}
use Rattle.oak_core.proofs.memory.Words.{index_apart, given_before, arena_before, header_before}

-- a load is plain, or of the count of a room, a link, the value word of an entry or the stamp word of a header
pub plain_or_taught : (P : Spot → Type 0) → ((p : Spot) → IsPlain p → P p) → ((k : ℕ) → P (in_rooms (at_count k))) → ((k : ℕ) (from : Option ℕ) → P (in_rooms (link_spot k from))) → ((k i : ℕ) → P (in_rooms (at_value k i))) → ((h : ℕ) → P (in_headers (at_stamp h))) → (p : Spot) → P p
plain_or_taught P plain counts links values stamps at_given = plain at_given tt
plain_or_taught P plain counts links values stamps (in_arena q) = plain (in_arena q) tt
plain_or_taught P plain counts links values stamps (in_headers (at_pin h)) = plain (in_headers (at_pin h)) tt
plain_or_taught P plain counts links values stamps (in_headers (at_place h)) = plain (in_headers (at_place h)) tt
plain_or_taught P plain counts links values stamps (in_headers (at_stamp h)) = stamps h
plain_or_taught P plain counts links values stamps (in_rooms (at_room_pin k)) = plain (in_rooms (at_room_pin k)) tt
plain_or_taught P plain counts links values stamps (in_rooms (at_base k)) = plain (in_rooms (at_base k)) tt
plain_or_taught P plain counts links values stamps (in_rooms (at_count k)) = counts k
plain_or_taught P plain counts links values stamps (in_rooms (at_latch k)) = plain (in_rooms (at_latch k)) tt
plain_or_taught P plain counts links values stamps (in_rooms (at_first k)) = links k None
plain_or_taught P plain counts links values stamps (in_rooms (at_low k j)) = plain (in_rooms (at_low k j)) tt
plain_or_taught P plain counts links values stamps (in_rooms (at_high k j)) = plain (in_rooms (at_high k j)) tt
plain_or_taught P plain counts links values stamps (in_rooms (at_key k i)) = plain (in_rooms (at_key k i)) tt
plain_or_taught P plain counts links values stamps (in_rooms (at_value k i)) = values k i
plain_or_taught P plain counts links values stamps (in_rooms (at_next k i)) = links k (Some i)

-- behind a load the pass knows, and has of rooms, what it did
pub record LoadTeachesNothing (call : ℕ) (p : Spot) (m : Memory) (qs : List Knowledge) (v : PassState) : Type 0 where
  pub knowledge : knows_by_load call p m qs v ≡ v.knowledge
  pub sights : sights_by_load p call m v ≡ v.findings.sights
  pub rooms : rooms_by_load p m v ≡ v.rooms

pub plain_teaches : (call : ℕ) (m : Memory) (qs : List Knowledge) (v : PassState) (p : Spot) → IsPlain p → LoadTeachesNothing call p m qs v
plain_teaches call m qs v at_given is = record { knowledge = refl; sights = refl; rooms = refl }
plain_teaches call m qs v (in_arena q) is = record { knowledge = refl; sights = refl; rooms = refl }
plain_teaches call m qs v (in_headers (at_pin h)) is = record { knowledge = refl; sights = refl; rooms = refl }
plain_teaches call m qs v (in_headers (at_place h)) is = record { knowledge = refl; sights = refl; rooms = refl }
plain_teaches call m qs v (in_headers (at_stamp h)) is = absurd is
plain_teaches call m qs v (in_rooms (at_room_pin k)) is = record { knowledge = refl; sights = refl; rooms = refl }
plain_teaches call m qs v (in_rooms (at_base k)) is = record { knowledge = refl; sights = refl; rooms = refl }
plain_teaches call m qs v (in_rooms (at_count k)) is = absurd is
plain_teaches call m qs v (in_rooms (at_latch k)) is = record { knowledge = refl; sights = refl; rooms = refl }
plain_teaches call m qs v (in_rooms (at_first k)) is = absurd is
plain_teaches call m qs v (in_rooms (at_low k j)) is = record { knowledge = refl; sights = refl; rooms = refl }
plain_teaches call m qs v (in_rooms (at_high k j)) is = record { knowledge = refl; sights = refl; rooms = refl }
plain_teaches call m qs v (in_rooms (at_key k i)) is = record { knowledge = refl; sights = refl; rooms = refl }
plain_teaches call m qs v (in_rooms (at_value k i)) is = absurd is
plain_teaches call m qs v (in_rooms (at_next k i)) is = absurd is

-- behind the load of a link it knows, and has of rooms, what the link teaches

pub knows_linked : (call : ℕ) (m : Memory) (qs : List Knowledge) (v : PassState) (k : ℕ) (from : Option ℕ) → knows_by_load call (in_rooms (link_spot k from)) m qs v ≡ knows_link m.rooms (content m.arena.bytes) k from v.rooms.pin qs v.knowledge
knows_linked call m qs v k None = refl
knows_linked call m qs v k (Some i) = refl

pub sights_linked : (call : ℕ) (m : Memory) (v : PassState) (k : ℕ) (from : Option ℕ) → sights_by_load (in_rooms (link_spot k from)) call m v ≡ sights_link m.rooms (content m.arena.bytes) k from call v.rooms.pin v.findings
sights_linked call m v k None = refl
sights_linked call m v k (Some i) = refl

pub rooms_linked : (m : Memory) (v : PassState) (k : ℕ) (from : Option ℕ) → rooms_by_load (in_rooms (link_spot k from)) m v ≡ record v.rooms { pin = walked_pin m.rooms (content m.arena.bytes) k from v.rooms.pin }
rooms_linked m v k None = refl
rooms_linked m v k (Some i) = refl

-- a load leaves what is claimed
pub claim_by_load : (m : Memory) (v : PassState) (p : Spot) → (rooms_by_load p m v).claim ≡ v.rooms.claim
claim_by_load m v = plain_or_taught (λ p. (rooms_by_load p m v).claim ≡ v.rooms.claim) (λ p plain. ap (λ (a : RoomHolds). a.claim) (plain_teaches 0 m [] v p plain).rooms) (λ k. refl) (λ k from. ap (λ (a : RoomHolds). a.claim) (rooms_linked m v k from)) (λ k i. refl) (λ h. refl)

-- behind one that teaches nothing the pass only has its finding more
pub quiet_state : (z : Sizes) (call : ℕ) (s : TableState) (v : PassState) (p : Spot) → LoadTeachesNothing call p (memory z s.words) (map knowledge_of s.states) v → state_after z call (load p) s v ≡ grown (finding z call p (Some (found z (load p) s)) (found z (load p) s) s.words v ∷ []) v
quiet_state z call s v p t = λ i. record v {
  findings = record v.findings { met = v.findings.met ++ finding z call p (Some (found z (load p) s)) (found z (load p) s) s.words v ∷ []; sights = t.sights i };
  knowledge = t.knowledge i;
  rooms = t.rooms i;
}

-- so it is of each plain one
pub plain_state : (z : Sizes) (call : ℕ) (s : TableState) (v : PassState) (p : Spot) → IsPlain p → state_after z call (load p) s v ≡ grown (finding z call p (Some (found z (load p) s)) (found z (load p) s) s.words v ∷ []) v
plain_state z call s v p is = quiet_state z call s v p (plain_teaches call (memory z s.words) (map knowledge_of s.states) v p is)

-- what is found for keys, and what is found over, is only added to

pub sights_with_grow : (call : ℕ) (fs : Findings) (b : Bool) (x : Taught) → Begins fs.sights (sights_with b call x fs)
sights_with_grow call fs true x = (_, refl)
sights_with_grow call fs false x = begins_self fs.sights

pub gones_with_grow : (call : ℕ) (fs : Findings) (b : Bool) (key : List ℕ) (home : ℕ) → Begins fs.gones (gones_with b call key home fs)
gones_with_grow call fs true key home = (_, refl)
gones_with_grow call fs false key home = begins_self fs.gones

-- so it is by a load
pub sights_grow : (p : Spot) (call : ℕ) (m : Memory) (v : PassState) → Begins v.findings.sights (sights_by_load p call m v)
sights_grow p call m v = plain_or_taught (λ q. Begins v.findings.sights (sights_by_load q call m v)) (λ q is. subst (Begins v.findings.sights) (sym (still q is)) (begins_self v.findings.sights)) (λ k. begins_self v.findings.sights) (λ k from. subst (Begins v.findings.sights) (sym (sights_linked call m v k from)) (linked k from v.rooms.pin))
    (λ k i. sights_with_grow call v.findings (shows_floor k i (m.rooms.value k i) v.rooms.pin) (value_taught k i (m.rooms.value k i) v.rooms.pin)) (λ h. sights_with_grow call v.findings (counts_stamp call h v.headers.pin v.knowledge) (stamp_taught h (m.headers.stamp h) v.headers.pin v.knowledge)) p
  where
    still : (q : Spot) → IsPlain q → sights_by_load q call m v ≡ v.findings.sights
    still q is = (plain_teaches call m [] v q is).sights

    linked : (k : ℕ) (from : Option ℕ) (o : Option PinnedRoom) → Begins v.findings.sights (sights_link m.rooms (content m.arena.bytes) k from call o v.findings)
    linked k from None = begins_self v.findings.sights
    linked k from (Some o) = sights_with_grow call v.findings (shows_link k from o) (OfGap (gap_at m.rooms (content m.arena.bytes) from o))

-- what a load behind which the pass only met more is of

-- this word
pub met_at : (z : Sizes) (call word n : ℕ) (v w : PassState) (q : Spot) → IsInside z q → IsPlain q → word ≡ index z q → (l : Loads z call word v n w) → w ≡ grown (finding z call l.spot (Some n) n l.told.table.words v ∷ []) v
met_at z call word n v w q inside is e l = l.met (subst IsPlain (sym (index_apart z l.spot q l.inside inside (l.at ∙ e))) is)

-- a word in front of those of the rooms whose load teaches nothing
pub record IsPlainWord (z : Sizes) (word : ℕ) : Type 0 where
  pub front : word < rooms_at z
  pub spot : Spot
  pub inside : IsInside z spot
  pub plain : IsPlain spot
  pub at : word ≡ index z spot

pub met_in_front : (z : Sizes) (call word n : ℕ) (v w : PassState) → IsPlainWord z word → (l : Loads z call word v n w) → w ≡ grown (finding z call l.spot (Some n) n l.told.table.words v ∷ []) v
met_in_front z call word n v w p l = met_at z call word n v w p.spot p.inside p.plain p.at l

-- such are word 0, the words of the arena, and the pin and place words of headers

pub given_plain : (z : Sizes) → IsPlainWord z (index z at_given)
given_plain z = record { front = given_before z; spot = at_given; inside = tt; plain = tt; at = refl }

pub arena_plain : (z : Sizes) (p : ArenaSpot) → IsInArena z p → IsPlainWord z (index z (in_arena p))
arena_plain z p inside = record { front = arena_before z p inside; spot = in_arena p; inside = inside; plain = tt; at = refl }

pub header_plain : (z : Sizes) (p : HeaderSpot) → IsInHeaders z p → IsPlain (in_headers p) → IsPlainWord z (index z (in_headers p))
header_plain z p inside plain = record { front = header_before z p inside; spot = in_headers p; inside = inside; plain = plain; at = refl }
