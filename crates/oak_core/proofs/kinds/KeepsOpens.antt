-- A pass that opens a held room over a moving range, or its upper part, keeps the rule.
use Rattle.std.proofs.Common.{◌≡◌, ℕ, ◌+◌, ◌-◌, ◌*◌, ◌%◌, ◌^◌, List, [], ◌∷◌, map, false, inr, sym, refl, ap, ◌∙◌, subst, arith, Option, Some, None}
use mathlib.Core.Option.{some}
use lib.ListN.{get_elem?}
use Rattle.pin_word.specs.PinWord.{STATE, state_of}
use Rattle.pin_word.proofs.StepLaws.{state_back}
use Rattle.oak_model.specs.Counts.{total}
use Rattle.oak_model.specs.Kept.{AreTrueTo, KeptWord}
use Rattle.oak_model.specs.Limits.{Sizes}
use Rattle.oak_model.proofs.Lists.{at_map}
use Rattle.oak_model.proofs.RowLaws.{each_rest}
use Rattle.arena_core.specs.Place.{content}
use Rattle.chunk_core.specs.declared.holds.MovingRange.{MovingRange}
use Rattle.chunk_core.specs.declared.holds.RoomCopy.{RoomCopy}
use Rattle.chunk_core.specs.declared.holds.RoomHolds.{RoomHolds}
use Rattle.chunk_core.specs.declared.states.TheConstants.{HELD, OPEN}
use Rattle.chunk_core.specs.Covers.{cover_at, cover_from}
use Rattle.chunk_core.specs.KeptRooms.{kept_of_claim, kept_of_rooms, kept_of_rooms_held}
use Rattle.chunk_core.specs.MayOnRooms.{MayOpenCopy, MayOpenRoom}
use Rattle.chunk_core.specs.MovingRanges.{left_of, ranges_left, ranges_opened}
use Rattle.chunk_core.specs.RoomCopies.{copy_of, without_room}
use Rattle.chunk_core.specs.RoomReads.{copy_at}
use Rattle.chunk_core.specs.RoomStep.{open_room}
use Rattle.chunk_core.specs.Rooms.{RoomSpot, at_room_pin, read_room}
use Rattle.chunk_core.proofs.Copies.{held_true}
use Rattle.chunk_core.proofs.OpenRoom.{just_one, of_range, open_parted, open_partition, open_rooms, open_step, open_owners}
use Rattle.chunk_core.proofs.Weights.{is_so}
use Rattle.oak_core.specs.declared.states.PassState.{PassState}
use Rattle.oak_core.specs.Bounds.{base_over}
use Rattle.oak_core.specs.Callers.{made_by}
use Rattle.oak_core.specs.EntryOwners.{is_key_word}
use Rattle.oak_core.specs.Memory.{Memory, in_rooms, memory}
use Rattle.oak_core.specs.PassState.{rooms_held}
use Rattle.oak_core.specs.Rule.{Rule}
use Rattle.oak_core.specs.Step.{on_rooms, MayOnRoom, state_after, table_after}
use Rattle.oak_core.specs.TableState.{TableState}
use Rattle.oak_core.proofs.held.HeaderStanding.{number_small}
use Rattle.oak_core.proofs.covers.PartedSteps.{Cuts, GivesUp, cuts_behind}
use Rattle.oak_core.proofs.kinds.ValueSteps.{Behind, behind_rule}
use Rattle.oak_core.proofs.memory.Words.{memory_read}

module _ (z : Sizes) (s : TableState) (seat : ℕ) (v : PassState) (r : Rule z s) (here : get_elem? s.states seat ≡ some v) (call : ℕ) (going : v.numbers.spent ≡ false) where
  abbrev m : Memory
  m = memory z s.words

  abbrev hs : List RoomHolds
  hs = map rooms_held s.states

  own : get_elem? hs seat ≡ some v.rooms
  own = at_map rooms_held s.states seat v here

  -- the numbers that the pass keeps of the rooms that it holds are true
  held_words : AreTrueTo (read_room m.rooms) (kept_of_rooms_held v.rooms.held)
  held_words = let P : KeptWord RoomSpot → Type 0 = (λ (w : KeptWord RoomSpot). read_room m.rooms w.spot ≡ w.number) in let e = r.kept_in_rooms.true_to seat (kept_of_rooms v.rooms) (at_map kept_of_rooms hs seat v.rooms own) in
      each_rest P (kept_of_claim v.rooms.claim) (kept_of_rooms_held v.rooms.held) e

  -- so the copy that it opens the room by is that of the memory
  may_open : (k : ℕ) (o : Option RoomCopy) → copy_of k v.rooms.held ≡ o → MayOpenCopy z o v.rooms.moving → (copy_of k v.rooms.held ≡ Some (copy_at z m.rooms k)) × MayOpenRoom z (copy_at z m.rooms k) v.rooms.moving
  may_open k None is may = absurd may
  may_open k (Some w) is may = let t = held_true z m.rooms k w v.rooms.held (r.rooms.passes seat v.rooms own).whole held_words is in
      (is ∙ ap (λ (u : RoomCopy). Some u) (sym t), subst (λ (u : RoomCopy). MayOpenRoom z u v.rooms.moving) (sym t) may)

  module _ (k : ℕ) (may : MayOnRoom z (open_room k) v) where
    -- the pin word behind the step
    abbrev x : ℕ
    x = (m.rooms.pin k + (2 ^ 64 - (HELD - OPEN) * STATE)) % 2 ^ 64

    -- the ranges that are left
    abbrev gs : List MovingRange
    gs = ranges_left (copy_at z m.rooms k) v.rooms.moving

    copy_may : (copy_of k v.rooms.held ≡ Some (copy_at z m.rooms k)) × MayOpenRoom z (copy_at z m.rooms k) v.rooms.moving
    copy_may = may_open k (copy_of k v.rooms.held) refl may.rooms.1

    -- the covers that go and come by the step
    pub cuts : Cuts z s seat v r here k x gs
    cuts = let bytes : ℕ → List ℕ = content m.arena.bytes in let o = copy_may.1 in let n : ℕ = total made_by s.states in
        let was = is_so z m.rooms bytes hs r.rooms seat v.rooms own k HELD (inr refl) (let h = may.rooms.0 in omega arith) in
        let down = state_back (m.rooms.pin k) (HELD - OPEN) (omega arith) (number_small z s.words r.words.small (in_rooms (at_room_pin k))) in let mine = may.rooms.0 in let opened : state_of x ≡ OPEN = omega arith in record {
          gone = cover_from o.range ∷ [];
          come = cover_at m.rooms bytes k ∷ map cover_from (left_of (copy_at z m.rooms k) o.range);
          parted = open_parted z m.rooms bytes is_key_word hs r.rooms r.covers seat v.rooms own k x may.inside.0 (omega arith) o opened down.0 down.2;
          step = open_step z m.rooms bytes is_key_word hs r.rooms r.covers seat v.rooms own k x may.inside.0 (omega arith) o opened down.0 down.2;
          owners = open_owners z m.rooms bytes is_key_word hs r.rooms r.covers seat v.rooms own k x may.inside.0 (omega arith) o opened down.0 down.2;
          low = just_one (base_over n) (cover_from o.range) (of_range z m.rooms bytes is_key_word hs r.rooms r.covers seat v.rooms own k x may.inside.0 (omega arith) o opened down.0 down.2 (base_over n) r.bounds.bases);
          stand = open_rooms z m.rooms bytes is_key_word hs r.rooms r.covers seat v.rooms own k x may.inside.0 (omega arith) o opened down.0 down.2;
          covers = open_partition z m.rooms bytes is_key_word hs r.rooms r.covers seat v.rooms own k x may.inside.0 (omega arith) o opened down.0 down.2;
        }

    -- and what the pass has behind it
    pub gives_up : GivesUp z s seat v r here k x gs (state_after z call (on_rooms (open_room k)) s v)
    gives_up = record {
      small = omega arith;
      rooms = ap (λ (o : Option RoomCopy). record v.rooms { held = without_room k v.rooms.held; moving = ranges_opened o v.rooms.moving }) copy_may.0;
      blocks = refl;
      headers = refl;
      knowledge = refl;
      numbers = refl;
    }

  -- the rule stands after a held room was opened
  pub open_keeps : (k : ℕ) → MayOnRoom z (open_room k) v → Rule z (table_after z call (on_rooms (open_room k)) seat v s)
  open_keeps k may = let w : PassState = state_after z call (on_rooms (open_room k)) s v in
      behind_rule z s seat v r here call going (open_room k) may.inside
      (subst (λ (n : ℕ). Behind z s seat v r here (at_room_pin k) ((n + (2 ^ 64 - (HELD - OPEN) * STATE)) % 2 ^ 64) w) (memory_read z s.words (in_rooms (at_room_pin k)) may.inside)
      (cuts_behind z s seat v r here call going k (x k may) (gs k may) w (gives_up k may) (cuts k may)))
