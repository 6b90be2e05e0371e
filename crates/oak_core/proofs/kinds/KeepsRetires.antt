-- A pass that retires a held room keeps the rule: its range joins the one just below.
use Rattle.std.proofs.Common.{◌≡◌, ℕ, ◌+◌, ◌-◌, ◌*◌, ◌%◌, ◌^◌, List, map, false, inr, refl, subst, arith}
use mathlib.Core.Option.{some}
use lib.ListN.{get_elem?}
use Rattle.pin_word.specs.PinWord.{STATE, state_of}
use Rattle.pin_word.proofs.StepLaws.{state_back}
use Rattle.oak_model.specs.Counts.{total}
use Rattle.oak_model.specs.Limits.{Sizes}
use Rattle.oak_model.proofs.Lists.{at_map}
use Rattle.arena_core.specs.Place.{content}
use Rattle.chunk_core.specs.declared.holds.MovingRange.{MovingRange}
use Rattle.chunk_core.specs.declared.holds.RoomHolds.{RoomHolds}
use Rattle.chunk_core.specs.declared.states.TheConstants.{FREE, HELD}
use Rattle.chunk_core.specs.MovingRanges.{ranges_joined}
use Rattle.chunk_core.specs.RoomStep.{retire_room}
use Rattle.chunk_core.specs.Rooms.{at_room_pin}
use Rattle.chunk_core.proofs.RetireRoom.{Retires, gone_none, left, retire_partition, retire_rooms, retire_step, retire_owners}
use Rattle.chunk_core.proofs.Weights.{is_so}
use Rattle.oak_core.specs.declared.states.PassState.{PassState}
use Rattle.oak_core.specs.Bounds.{base_over}
use Rattle.oak_core.specs.Callers.{made_by}
use Rattle.oak_core.specs.EntryOwners.{is_key_word}
use Rattle.oak_core.specs.Memory.{Memory, in_rooms, memory}
use Rattle.oak_core.specs.PassState.{rooms_held}
use Rattle.oak_core.specs.Rule.{Rule}
use Rattle.oak_core.specs.Step.{on_rooms, MayOnRoom, state_after, table_after}
use Rattle.oak_core.specs.TableState.{TableState}
use Rattle.oak_core.proofs.held.HeaderStanding.{number_small}
use Rattle.oak_core.proofs.covers.PartedSteps.{Cuts, GivesUp, cuts_behind}
use Rattle.oak_core.proofs.kinds.ValueSteps.{Behind, behind_rule}
use Rattle.oak_core.proofs.memory.Words.{memory_read}

module _ (z : Sizes) (s : TableState) (seat : ℕ) (v : PassState) (r : Rule z s) (here : get_elem? s.states seat ≡ some v) (call : ℕ) (going : v.numbers.spent ≡ false) where
  abbrev m : Memory
  m = memory z s.words

  abbrev hs : List RoomHolds
  hs = map rooms_held s.states

  own : get_elem? hs seat ≡ some v.rooms
  own = at_map rooms_held s.states seat v here

  module _ (k : ℕ) (may : MayOnRoom z (retire_room k) v) where
    -- the pin word behind the step
    abbrev x : ℕ
    x = (m.rooms.pin k + (2 ^ 64 - HELD * STATE)) % 2 ^ 64

    -- the ranges then
    abbrev gs : List MovingRange
    gs = ranges_joined k v.rooms.moving

    -- the covers that go and come by the step
    pub cuts : Cuts z s seat v r here k x gs
    cuts = let bytes : ℕ → List ℕ = content m.arena.bytes in let n : ℕ = total made_by s.states in let mine = may.rooms.0 in
        let was = is_so z m.rooms bytes hs r.rooms seat v.rooms own k HELD (inr refl) (omega arith) in
        let down = state_back (m.rooms.pin k) HELD (omega arith) (number_small z s.words r.words.small (in_rooms (at_room_pin k))) in let free : state_of x ≡ FREE = omega arith in
        let parts : Retires v.rooms.moving k = left z m.rooms bytes is_key_word hs r.rooms r.covers seat v.rooms own k x may.inside.0 (omega arith) may.rooms.1 free down.0 down.2 in record {
          gone = parts.gone;
          come = parts.come;
          parted = parts.parted;
          step = retire_step z m.rooms bytes is_key_word hs r.rooms r.covers seat v.rooms own k x may.inside.0 (omega arith) may.rooms.1 free down.0 down.2;
          owners = retire_owners z m.rooms bytes is_key_word hs r.rooms r.covers seat v.rooms own k x may.inside.0 (omega arith) may.rooms.1 free down.0 down.2;
          low = gone_none z m.rooms bytes is_key_word hs r.rooms r.covers seat v.rooms own k x may.inside.0 (omega arith) may.rooms.1 free down.0 down.2 (base_over n) r.bounds.bases;
          stand = retire_rooms z m.rooms bytes is_key_word hs r.rooms r.covers seat v.rooms own k x may.inside.0 (omega arith) may.rooms.1 free down.0 down.2;
          covers = retire_partition z m.rooms bytes is_key_word hs r.rooms r.covers seat v.rooms own k x may.inside.0 (omega arith) may.rooms.1 free down.0 down.2;
        }

    -- and what the pass has behind it
    pub gives_up : GivesUp z s seat v r here k x gs (state_after z call (on_rooms (retire_room k)) s v)
    gives_up = record { small = omega arith; rooms = refl; blocks = refl; headers = refl; knowledge = refl; numbers = refl }

  -- the rule stands after a held room was retired
  pub retire_keeps : (k : ℕ) → MayOnRoom z (retire_room k) v → Rule z (table_after z call (on_rooms (retire_room k)) seat v s)
  retire_keeps k may = let w : PassState = state_after z call (on_rooms (retire_room k)) s v in
      behind_rule z s seat v r here call going (retire_room k) may.inside
      (subst (λ (n : ℕ). Behind z s seat v r here (at_room_pin k) ((n + (2 ^ 64 - HELD * STATE)) % 2 ^ 64) w) (memory_read z s.words (in_rooms (at_room_pin k)) may.inside)
      (cuts_behind z s seat v r here call going k (x k may) (gs k may) w (gives_up k may) (cuts k may)))
