-- What a pass that is alone has of room 0 of a new table, while it freezes it, holds it and opens it again.
use Rattle.std.proofs.Common.{◌≡◌, ℕ, ◌+◌, ◌<◌, ◌==◌, cond, Bool, List, [], ◌∷◌, ◌++◌, length, get_or, set, sym, refl, ap, ◌∙◌, subst, arith, eq-eqb, Some}
use prog.Atomic.{either}
use Rattle.pin_word.specs.PinWord.{STATE, packed}
use Rattle.oak_model.specs.Limits.{Sizes}
use Rattle.oak_model.specs.Counts.{one_at, total}
use Rattle.oak_model.proofs.Counting.{test-cases}
use Rattle.arena_core.specs.Place.{content}
use Rattle.chunk_core.specs.declared.states.TheConstants.{OPEN, FROZEN, HELD}
use Rattle.chunk_core.specs.declared.holds.MovingRange.{MovingRange}
use Rattle.chunk_core.specs.declared.holds.RoomHeldAs.TheVariants.{Frozen, Held}
use Rattle.chunk_core.specs.declared.holds.RoomHolds.{RoomHolds}
use Rattle.chunk_core.specs.MovingRanges.{left_of, word_dropped, ranges_with, ranges_left, ranges_opened}
use Rattle.chunk_core.specs.RoomCopies.{rooms_with, without_room, copy_of}
use Rattle.chunk_core.specs.RoomHolds.{no_rooms}
use Rattle.chunk_core.specs.RoomReads.{copy_at, moving_at}
use Rattle.chunk_core.specs.RoomRule.{in_room_state}
use Rattle.chunk_core.specs.RoomStep.{RoomStep, freeze_room, hold_room, store_room, open_room}
use Rattle.chunk_core.specs.Rooms.{RoomMemory, RoomSpot, at_room_pin, at_base, read_room}
use Rattle.oak_core.specs.declared.states.PassState.{PassState}
use Rattle.oak_core.specs.AloneWords.{LeavesWords}
use Rattle.oak_core.specs.Finding.{finding, grown}
use Rattle.oak_core.specs.Loading.{IsPlain}
use Rattle.oak_core.specs.Memory.{word_count, Spot, in_rooms, index, same_spot, read, memory}
use Rattle.oak_core.specs.Opening.{IsOpened}
use Rattle.oak_core.specs.PassState.{IsAlone}
use Rattle.oak_core.specs.RoomCalls.{NamesRoomPin}
use Rattle.oak_core.specs.Splitting.{Loads}
use Rattle.oak_core.specs.Step.{on_rooms, Told}
use Rattle.oak_core.proofs.seats.AloneRuns.{words_stand, step_starts}
use Rattle.oak_core.proofs.openings.ReopenedRoom.{IsBare, copy_with_base, holding, freezing, takes_whole, leaves_none}
use Rattle.oak_core.proofs.memory.Words.{index_apart, memory_read, memory_set, read-write, same_spot-is, same_spot-self}

-- Room 0 has this pin word, and its other words are 0.
pub record HasPin (z : Sizes) (n : ℕ) (words : List ℕ) : Type 0 where
  pub pin : (memory z words).rooms.pin 0 ≡ n
  pub bare : IsBare (memory z words).rooms

-- so it is at the start
pub opened_pin : (z : Sizes) (g : ℕ) (words : List ℕ) → IsOpened z g words → HasPin z (packed 0 OPEN 0) words
opened_pin z g words o = record { pin = o.room; bare = record { others = o.others } }

abbrev pin_spot : Spot
pin_spot = in_rooms (at_room_pin 0)

-- where its pin word alone is stored to
stored_pin : (z : Sizes) (words : List ℕ) (n x : ℕ) → 0 < z.chunks → length words ≡ word_count z → HasPin z n words → HasPin z x (set words (index z pin_spot) x)
stored_pin z words n x some_room wide h = let e = memory_set z words pin_spot x wide (some_room, omega arith) in record {
  pin = (λ i. (e i).rooms.pin 0) ∙ (read-write (memory z words) pin_spot pin_spot x ∙ ap (λ (b : Bool). cond b x (read (memory z words) pin_spot)) (same_spot-self pin_spot));
  bare = record {
    others = λ p ne. (λ i. read_room (e i).rooms p) ∙ (read-write (memory z words) pin_spot (in_rooms p) x ∙ test-cases (same_spot (in_rooms p) pin_spot) (λ b. cond b x (read_room (memory z words).rooms p) ≡ 0)
        (λ t. absurd (ne (room_of (same_spot-is (in_rooms p) pin_spot t))))
        (λ _. h.bare.others p ne));
  };
}
  where
    room_of : {p q : RoomSpot} → in_rooms p ≡ in_rooms q → p ≡ q
    room_of e = cc

module _ (z : Sizes) (call : ℕ) (v : PassState) (n : ℕ) (w : PassState) where
  -- at the step of a pass that is alone it stands so where the pass left it so
  pub pin_stands : (x : RoomStep) (words : List ℕ) (k : ℕ) → LeavesWords words v → HasPin z k words → (t : Told z call (on_rooms x) v n w) → HasPin z k t.table.words
  pin_stands x words k l h t = subst (HasPin z k) (sym (words_stand z call (on_rooms x) v n w words l t)) h

  -- behind its freezing
  pub frozen_pin : (old : ℕ) → IsAlone v → 0 < z.chunks → (t : Told z call (on_rooms (freeze_room 0 old)) v n w) → HasPin z old t.table.words → (words : List ℕ) × LeavesWords words w × HasPin z (old + STATE) words
  frozen_pin old alone some_room t h =
      let ws : List ℕ = t.table.words in let found : get_or ws (index z pin_spot) 0 ≡ old = sym (memory_read z ws pin_spot (some_room, omega arith)) ∙ h.pin in
      let became : either (get_or ws (index z pin_spot) 0 == old) (old + STATE) (get_or ws (index z pin_spot) 0) ≡ old + STATE = ap (λ (b : Bool). either b (old + STATE) (get_or ws (index z pin_spot) 0)) (eq-eqb (get_or ws (index z pin_spot) 0) old found) in
      (set ws (index z pin_spot) (old + STATE), subst (λ (x : ℕ). LeavesWords (set ws (index z pin_spot) x) w) became (step_starts z call (on_rooms (freeze_room 0 old)) v n w tt alone t), stored_pin z ws old (old + STATE) some_room t.rule.words.counted h)

  -- the pass has it frozen then, and nothing else of rooms
  pub frozen_rooms : (old : ℕ) → v.rooms ≡ no_rooms → (t : Told z call (on_rooms (freeze_room 0 old)) v n w) → HasPin z old t.table.words → w.rooms ≡ freezing
  frozen_rooms old e t h = (λ i. (t.after i).rooms)
      ∙ (ap (λ (b : Bool). record v.rooms { held = cond b (record { room = 0; held_as = Frozen } ∷ v.rooms.held) v.rooms.held }) (eq-eqb ((memory z t.table.words).rooms.pin 0) old h.pin)
      ∙ ap (λ (a : RoomHolds). record a { held = record { room = 0; held_as = Frozen } ∷ a.held }) e)

  -- and behind the next step it holds it alone
  pub held_rooms : (old : ℕ) → v.rooms ≡ freezing → (t : Told z call (on_rooms (hold_room 0 old)) v n w) → HasPin z old t.table.words
      → w.rooms ≡ holding z (memory z t.table.words).rooms (content (memory z t.table.words).arena.bytes) ((memory z t.table.words).rooms.base 0)
  unfolding without_room
  held_rooms old e t h = let m : RoomMemory = (memory z t.table.words).rooms in let g : MovingRange = moving_at m (content (memory z t.table.words).arena.bytes) 0 in (λ i. (t.after i).rooms)
      ∙ (ap (λ (b : Bool). record v.rooms { held = cond b (record { room = 0; held_as = Held (copy_at z m 0) } ∷ without_room 0 v.rooms.held) v.rooms.held; moving = cond b (g ∷ v.rooms.moving) v.rooms.moving }) (eq-eqb (m.pin 0) old h.pin)
      ∙ ap (λ (a : RoomHolds). record a { held = record { room = 0; held_as = Held (copy_at z m 0) } ∷ without_room 0 a.held; moving = g ∷ a.moving }) e)

  module _ (m : RoomMemory) (bytes : ℕ → List ℕ) where
    -- a store of the base changes the base of the copy alone
    pub stored_rooms : (b x : ℕ) → v.rooms ≡ holding z m bytes b → (t : Told z call (on_rooms (store_room (at_base 0) x)) v n w) → w.rooms ≡ holding z m bytes x
    stored_rooms b x e t = (λ i. (t.after i).rooms) ∙ ap (λ (a : RoomHolds). record a { held = rooms_with (at_base 0) x a.held; moving = ranges_with (word_dropped (memory z t.table.words).rooms (at_base 0) x) a.moving }) e

    -- behind the opening nothing is left
    pub reopened_rooms : v.rooms ≡ holding z m bytes 0 → (t : Told z call (on_rooms (open_room 0)) v n w) → w.rooms ≡ no_rooms
    unfolding without_room copy_of ranges_left
    reopened_rooms e t = let g : MovingRange = moving_at m bytes 0 in (λ i. (t.after i).rooms)
        ∙ (ap (λ (a : RoomHolds). record a { held = without_room 0 a.held; moving = ranges_opened (copy_of 0 a.held) a.moving }) e
        ∙ (ap (λ (b : Bool). record no_rooms { moving = cond b (left_of (copy_with_base z m 0) g ++ []) (g ∷ []) }) (takes_whole z m bytes 0)
        ∙ ap (λ (hs : List MovingRange). record no_rooms { moving = hs ++ [] }) (leaves_none z m bytes 0)))

-- the pass has the room once, in that state

pub frozen_once : in_room_state 0 FROZEN freezing ≡ 1
unfolding total one_at
frozen_once = refl

pub held_once : (z : Sizes) (m : RoomMemory) (bytes : ℕ → List ℕ) (b : ℕ) → in_room_state 0 HELD (holding z m bytes b) ≡ 1
unfolding total one_at
held_once z m bytes b = refl

-- a load of its pin word is only met
pub pin_loaded : (z : Sizes) (call word : ℕ) (v : PassState) (n : ℕ) (w : PassState) → NamesRoomPin z 0 word → (l : Loads z call word v n w) → w ≡ grown (finding z call l.spot (Some n) n l.told.table.words v ∷ []) v
pin_loaded z call word v n w names l = l.met (subst IsPlain (index_apart z pin_spot l.spot (names.inside, omega arith) l.inside (sym names.word_is ∙ sym l.at)) tt)
