-- What the steps that exchange the pin word of a room leave: one that finds another word than it looks for only meets it.
use Rattle.std.proofs.Common.{◌≡◌, ◌≢◌, ℕ, ◌+◌, ◌*◌, ◌<◌, ◌==◌, cond, Bool, [], ◌∷◌, set, sym, refl, ap, ◌∙◌, subst, eq-eqb, ne_eqb, arith}
use prog.Atomic.{either}
use lib.Seq.{set-get_or}
use Rattle.pin_word.specs.PinWord.{STATE, packed, state_of}
use Rattle.oak_model.specs.Limits.{Sizes}
use Rattle.arena_core.specs.Place.{content}
use Rattle.chunk_core.specs.declared.holds.RoomHeldAs.TheVariants.{Frozen, Held}
use Rattle.chunk_core.specs.declared.states.TheConstants.{HELD}
use Rattle.chunk_core.specs.RoomCopies.{without_room}
use Rattle.chunk_core.specs.RoomReads.{copy_at, moving_at}
use Rattle.chunk_core.specs.RoomStep.{RoomStep, freeze_room, hold_room, claim_room, room_effect, room_spot}
use Rattle.oak_core.specs.declared.states.PassState.{PassState}
use Rattle.oak_core.specs.AloneWords.{Runs}
use Rattle.oak_core.specs.Memory.{Memory, in_rooms, index, memory}
use Rattle.oak_core.specs.RoomCalls.{FreezesRoom, HoldsRoomWord, ClaimsRoom}
use Rattle.oak_core.specs.Step.{on_rooms, Told}
use Rattle.oak_core.proofs.seats.AloneRuns.{DoesStep, runs_as, step_runs}
use Rattle.chunk_ops.specs.PinRecords.{WordsStay}
use Rattle.chunk_ops.proofs.PinSteps.{pin_found}
use Rattle.rebalance.specs.Holding.{StandsBeside, TriesBeside, with_frozen, with_moving, with_claimed}
use Rattle.rebalance.specs.Resting.{OnlyRests, OnlyTries, rests_both, tries_both}

-- behind loads the pass stands as behind the step alone
pub beside_since : (call : ℕ) (u v w : PassState) → OnlyRests call u v → StandsBeside call v w → StandsBeside call u w
beside_since call u v w o b = record { stands = rests_both call u v w o.stands b.stands; blocks = b.blocks ∙ o.blocks; headers = b.headers ∙ o.headers }

-- so it does behind rooms that it tried to claim
pub trying_since : (call : ℕ) (u v w : PassState) → OnlyTries call u v → TriesBeside call v w → TriesBeside call u w
trying_since call u v w o b = record { stands = tries_both call u v w o.stands b.stands; blocks = b.blocks ∙ o.blocks; headers = b.headers ∙ o.headers }

-- a step that leaves the word as it found it leaves them all
words_stay : (z : Sizes) (call : ℕ) (x : RoomStep) (v : PassState) (n : ℕ) (w : PassState) → Told z call (on_rooms x) v n w → room_effect x n ≡ n → Runs WordsStay v w
words_stay z call x v n w t e = runs_as (DoesStep z (on_rooms x) n) WordsStay v w
    (λ a b d. let i : ℕ = index z (in_rooms (room_spot x)) in d.1 ∙ (ap (set a i) (ap (room_effect x) (sym d.0) ∙ (e ∙ d.0)) ∙ set-get_or a i 0)) (step_runs z call (on_rooms x) v n w tt t)

-- an exchange that finds another number
not_exchanged : (n old new : ℕ) → n ≢ old → either (n == old) new n ≡ n
not_exchanged n old new ne = ap (λ (b : Bool). either b new n) (ne_eqb n old ne)

states_more : (w k : ℕ) → state_of w + k < 16 → state_of (w + k * STATE) ≡ state_of w + k
unfolding state_of
states_more w k fits = omega arith

-- one that finds it goes so many states further
pub exchanged_state : (n old k : ℕ) → n ≡ old → state_of old + k < 16 → state_of (either (n == old) (old + k * STATE) n) ≡ state_of old + k
exchanged_state n old k e fits = ap (λ (b : Bool). state_of (either b (old + k * STATE) n)) (eq-eqb n old e) ∙ states_more old k fits

-- a step that froze the room, or found another word
module _ (z : Sizes) (call r old n : ℕ) (v w : PassState) (t : FreezesRoom z call r old v n w) where
  abbrev freeze_memory : Memory
  freeze_memory = memory z t.table.words

  freeze_was : freeze_memory.rooms.pin r ≡ n
  freeze_was = pin_found z call r (freeze_room r old) refl v n w t t.may.inside.0

  freeze_after : (b : Bool) → (freeze_memory.rooms.pin r == old) ≡ b → w.rooms ≡ record v.rooms { held = cond b (record { room = r; held_as = Frozen } ∷ v.rooms.held) v.rooms.held }
  freeze_after b e = ap (λ (y : PassState). y.rooms) t.after ∙ ap (λ (c : Bool). record v.rooms { held = cond c (record { room = r; held_as = Frozen } ∷ v.rooms.held) v.rooms.held }) e

  pub freeze_beside : StandsBeside call v w
  freeze_beside = subst (StandsBeside call v) (sym t.after) (record {
    stands = record { met = record { more = _ ∷ []; met = refl; calls = (refl, tt) }; numbers = refl; knowledge = refl; fulls = refl; swept = refl; sights = refl; gones = refl; claims = refl };
    blocks = refl;
    headers = refl;
  })

  pub freeze_takes : n ≡ old → w.rooms ≡ with_frozen r v.rooms
  freeze_takes e = freeze_after _ (eq-eqb (freeze_memory.rooms.pin r) old (freeze_was ∙ e))

  pub freeze_misses : n ≢ old → OnlyRests call v w
  freeze_misses ne = record {
    stands = freeze_beside.stands;
    blocks = freeze_beside.blocks;
    headers = freeze_beside.headers;
    rooms = freeze_after _ (ne_eqb (freeze_memory.rooms.pin r) old (λ e. ne (sym freeze_was ∙ e)));
    still = words_stay z call (freeze_room r old) v n w t (not_exchanged n old (old + STATE) ne);
  }

-- one that came to hold the frozen room, or found another word
module _ (z : Sizes) (call r old n : ℕ) (v w : PassState) (t : HoldsRoomWord z call r old v n w) where
  abbrev hold_memory : Memory
  hold_memory = memory z t.table.words

  hold_was : hold_memory.rooms.pin r ≡ n
  hold_was = pin_found z call r (hold_room r old) refl v n w t t.may.inside.0

  hold_after : (b : Bool) → (hold_memory.rooms.pin r == old) ≡ b
      → w.rooms ≡ record v.rooms { held = cond b (record { room = r; held_as = Held (copy_at z hold_memory.rooms r) } ∷ without_room r v.rooms.held) v.rooms.held; moving = cond b (moving_at hold_memory.rooms (content hold_memory.arena.bytes) r ∷ v.rooms.moving) v.rooms.moving }
  hold_after b e = ap (λ (y : PassState). y.rooms) t.after
      ∙ ap (λ (c : Bool). record v.rooms { held = cond c (record { room = r; held_as = Held (copy_at z hold_memory.rooms r) } ∷ without_room r v.rooms.held) v.rooms.held; moving = cond c (moving_at hold_memory.rooms (content hold_memory.arena.bytes) r ∷ v.rooms.moving) v.rooms.moving }) e

  pub hold_beside : StandsBeside call v w
  hold_beside = subst (StandsBeside call v) (sym t.after) (record {
    stands = record { met = record { more = _ ∷ []; met = refl; calls = (refl, tt) }; numbers = refl; knowledge = refl; fulls = refl; swept = refl; sights = refl; gones = refl; claims = refl };
    blocks = refl;
    headers = refl;
  })

  pub hold_takes : n ≡ old → w.rooms ≡ with_moving r (copy_at z (memory z t.table.words).rooms r) (moving_at (memory z t.table.words).rooms (content (memory z t.table.words).arena.bytes) r) v.rooms
  hold_takes e = hold_after _ (eq-eqb (hold_memory.rooms.pin r) old (hold_was ∙ e))

  pub hold_misses : n ≢ old → OnlyRests call v w
  hold_misses ne = record {
    stands = hold_beside.stands;
    blocks = hold_beside.blocks;
    headers = hold_beside.headers;
    rooms = hold_after _ (ne_eqb (hold_memory.rooms.pin r) old (λ e. ne (sym hold_was ∙ e)));
    still = words_stay z call (hold_room r old) v n w t (not_exchanged n old (old + STATE) ne);
  }

-- one that claimed the free room, or found another word
module _ (z : Sizes) (call r old n : ℕ) (v w : PassState) (t : ClaimsRoom z call r old v n w) where
  abbrev claim_memory : Memory
  claim_memory = memory z t.table.words

  claim_was : claim_memory.rooms.pin r ≡ n
  claim_was = pin_found z call r (claim_room r old) refl v n w t t.may.inside.0

  claim_after : (b : Bool) → (claim_memory.rooms.pin r == old) ≡ b → w.rooms ≡ record v.rooms { held = cond b (record { room = r; held_as = Held (copy_at z claim_memory.rooms r) } ∷ v.rooms.held) v.rooms.held }
  claim_after b e = ap (λ (y : PassState). y.rooms) t.after ∙ ap (λ (c : Bool). record v.rooms { held = cond c (record { room = r; held_as = Held (copy_at z claim_memory.rooms r) } ∷ v.rooms.held) v.rooms.held }) e

  pub claim_beside : TriesBeside call v w
  claim_beside = subst (TriesBeside call v) (sym t.after) (record {
    stands = record { met = record { more = _ ∷ []; met = refl; calls = (refl, tt) }; numbers = refl; knowledge = refl; fulls = refl; swept = refl; sights = refl; gones = refl };
    blocks = refl;
    headers = refl;
  })

  pub claim_takes : n ≡ old → w.rooms ≡ with_claimed r (copy_at z (memory z t.table.words).rooms r) v.rooms
  claim_takes e = claim_after _ (eq-eqb (claim_memory.rooms.pin r) old (claim_was ∙ e))

  pub claim_misses : n ≢ old → OnlyTries call v w
  claim_misses ne = record {
    stands = claim_beside.stands;
    blocks = claim_beside.blocks;
    headers = claim_beside.headers;
    rooms = claim_after _ (ne_eqb (claim_memory.rooms.pin r) old (λ e. ne (sym claim_was ∙ e)));
    still = words_stay z call (claim_room r old) v n w t (not_exchanged n old (old + HELD * STATE) ne);
  }

-- so many states, as one number
pub packed_states : (s : ℕ) → packed 0 s 0 ≡ s * STATE
unfolding packed
packed_states s = omega arith

-- the word of the next state
pub next_state : (s n m : ℕ) → n ≡ packed 0 s 0 → m ≡ packed 0 (s + 1) 0 → m ≡ n + STATE
next_state s n m e f = let a = packed_states s in let b = packed_states (s + 1) in omega arith
