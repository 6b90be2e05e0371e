-- What the load of the count of a pinned room tells its pass.
use Rattle.std.proofs.Common.{◌≡◌, ℕ, [], List, map, cond, Bool, true, false, refl, ap, ◌∙◌, Some, Option, eq-eqb, ◌&&◌}
use Rattle.pin_word.specs.PinWord.{state_of}
use Rattle.oak_model.specs.Limits.{Sizes}
use Rattle.arena_core.specs.Place.{content}
use Rattle.chunk_core.specs.declared.states.TheConstants.{OPEN}
use Rattle.chunk_core.specs.declared.holds.PinnedRoom.{PinnedRoom}
use Rattle.chunk_core.specs.PinnedRooms.{IsGoodRoom}
use Rattle.chunk_core.specs.Rooms.{at_count}
use Rattle.chunk_core.specs.RoomsAfter.{pin_with, counted_pin}
use Rattle.oak_core.specs.declared.states.Knowledge.{Knowledge}
use Rattle.oak_core.specs.declared.states.PassState.{PassState}
use Rattle.oak_core.specs.CallSteps.{Learns}
use Rattle.oak_core.specs.LinkTeaching.{is_pinned}
use Rattle.oak_core.specs.Learning.{of_key_to}
use Rattle.oak_core.specs.Memory.{Memory, in_rooms, memory}
use Rattle.oak_core.specs.PassState.{knowledge_of}
use Rattle.oak_core.specs.Step.{load, Told}
use Rattle.oak_core.proofs.lessons.TaughtSteps.{load_learns}
use Rattle.oak_core.proofs.memory.Words.{memory_read}

module _ (z : Sizes) (call : ℕ) (v : PassState) (n : ℕ) (w : PassState) (p : PinnedRoom) (is : v.rooms.pin ≡ Some p) (good : IsGoodRoom p) (t : Told z call (load (in_rooms (at_count p.room))) v n w) where
  abbrev m : Memory
  m = memory z t.table.words

  abbrev bytes : ℕ → List ℕ
  bytes = content m.arena.bytes

  abbrev qs : List Knowledge
  qs = map knowledge_of t.table.states

  pinned_there : is_pinned p.room p ≡ true
  pinned_there = (λ i. eq-eqb p.room p.room refl i && eq-eqb (state_of p.found) OPEN good i)

  -- the number found is the count
  pub count_found : (memory z t.table.words).rooms.count p.room ≡ n
  count_found = memory_read z t.table.words (in_rooms (at_count p.room)) t.may ∙ t.finds

  -- the pin as it stands behind the load
  abbrev p' : PinnedRoom
  p' = pin_with m.rooms (content m.arena.bytes) (m.rooms.count p.room) p

  rooms_are : w.rooms ≡ record v.rooms { pin = Some p' }
  rooms_are = ap (λ (y : PassState). y.rooms) t.after ∙ (ap (λ (o : Option PinnedRoom). record v.rooms { pin = counted_pin m.rooms bytes p.room o }) is ∙ ap (λ (b : Bool). record v.rooms { pin = Some (cond b p' p) }) pinned_there)

  pub pin_counted : w.rooms ≡ record v.rooms { pin = Some (pin_with (memory z t.table.words).rooms (content (memory z t.table.words).arena.bytes) n p) }
  pin_counted = rooms_are ∙ ap (λ (c : ℕ). record v.rooms { pin = Some (pin_with m.rooms bytes c p) }) count_found

  -- the load teaches nothing
  pub count_learns : Learns call v w
  count_learns = load_learns z call (in_rooms (at_count p.room)) v n w t false (of_key_to [] 0) (ap (λ (y : PassState). y.knowledge) t.after) false (ap (λ (y : PassState). y.findings.sights) t.after)
