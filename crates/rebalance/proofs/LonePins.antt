-- What a store to the pin word of a room leaves of the table's words: the headers, the other words of the rooms, and the states of the other rooms.
use Rattle.std.proofs.Common.{◌≡◌, ℕ, ◌+◌, ◌-◌, ◌<◌, cond, List, length, set, sym, refl, ap, ◌∙◌, subst, arith, get_or-set_other, get_or-set_same, true≢false}
use Rattle.std.proofs.lemmas.List.{set_past}
use mathlib.Core.Logic.{dite}
use mathlib.Core.Path.{fun_ext}
use native.Mathlib.Decide.{ℕ_discrete, dec_lt}
use Rattle.pin_word.specs.PinWord.{state_of, count_of}
use Rattle.oak_model.specs.Limits.{Sizes}
use Rattle.oak_model.proofs.Counting.{test-cases}
use Rattle.oak_model.proofs.PutLaws.{put-here, put-else}
use Rattle.chunk_core.specs.declared.states.TheConstants.{OPEN}
use Rattle.chunk_core.specs.RoomReads.{copy_at}
use Rattle.chunk_core.specs.Rooms.{at_room_pin}
use Rattle.oak_core.specs.Memory.{Memory, Spot, in_rooms, same_spot, memory_of, write, IsInside, is_inside, index, number_at, memory}
use Rattle.oak_core.proofs.memory.Words.{index_apart, inside_is, is_inside-true, number_at-in, number_at-out, read-of, same_spot-is, same_spot-self}
use Rattle.chunk_ops.specs.RoomPins.{AddsRoomPin, DropsRoomPin}
use Rattle.rebalance.specs.LoneWords.{LeavesBut, MovesRoom, leaves_same, no_room, this_room, state_in}

-- ---- a store to a word that the list has, however long the list is

number_set : (z : Sizes) (ws : List ℕ) (p : Spot) (x : ℕ) → index z p < length ws → IsInside z p → (q : Spot) → number_at z (set ws (index z p) x) q ≡ cond (same_spot q p) x (number_at z ws q)
number_set z ws p x there h q = test-cases (same_spot q p) (λ b. same_spot q p ≡ b → number_at z (set ws (index z p) x) q ≡ cond b x (number_at z ws q))
    (λ t _. subst (λ (r : Spot). number_at z (set ws (index z p) x) r ≡ x) (sym (same_spot-is q p t)) (number_at-in z (set ws (index z p) x) p (is_inside-true z p h) ∙ get_or-set_same ws (index z p) x 0 there))
    (λ f _. test-cases (is_inside z q) (λ b. is_inside z q ≡ b → number_at z (set ws (index z p) x) q ≡ number_at z ws q)
    (λ i _. number_at-in z (set ws (index z p) x) q i ∙ (get_or-set_other ws (index z p) (index z q) x 0 (λ e. true≢false (sym (ap (λ (r : Spot). same_spot r p) (index_apart z q p (inside_is z q i) h e) ∙ same_spot-self p) ∙ f)) ∙ sym (number_at-in z ws q i)))
    (λ o _. number_at-out z (set ws (index z p) x) q o ∙ sym (number_at-out z ws q o)) refl) refl

memory_stored : (z : Sizes) (ws : List ℕ) (p : Spot) (x : ℕ) → index z p < length ws → IsInside z p → memory z (set ws (index z p) x) ≡ write (memory z ws) p x
memory_stored z ws p x there h = ap memory_of (fun_ext (λ q. number_set z ws p x there h q ∙ ap (λ (n : ℕ). cond (same_spot q p) x n) (sym (read-of (number_at z ws) q))))

-- ---- the pin word of a room

module _ (z : Sizes) (r : ℕ) (inside : r < z.chunks) (a b : List ℕ) (x : ℕ) (there : index z (in_rooms (at_room_pin r)) < length a) (is : b ≡ set a (index z (in_rooms (at_room_pin r))) x) where
  behind : memory z b ≡ write (memory z a) (in_rooms (at_room_pin r)) x
  behind = ap (memory z) is ∙ memory_stored z a (in_rooms (at_room_pin r)) x there (inside, omega arith)

  state_is : state_in z b r ≡ state_of x
  state_is = ap (λ (m : Memory). state_of (m.rooms.pin r)) behind ∙ ap state_of (put-here (memory z a).rooms.pin r x r refl)

  leaves_others : LeavesBut z (this_room r) no_room a b
  leaves_others = record {
    headers = ap (λ (m : Memory). m.headers) behind;
    states = λ q ne. ap (λ (m : Memory). state_of (m.rooms.pin q)) behind ∙ ap state_of (put-else (memory z a).rooms.pin r x q ne);
    words = λ q _. ap (λ (m : Memory). copy_at z m.rooms q) behind;
  }

  -- the room comes from one state to another
  pub moves_stored : (from to : ℕ) → state_in z a r ≡ from → state_of x ≡ to → MovesRoom z r from to a b
  moves_stored from to was now = record { leaves = leaves_others; was = was; is = state_is ∙ now }

  -- or it stays in its state
  stays_stored : state_of x ≡ state_in z a r → LeavesBut z no_room no_room a b
  stays_stored same = record {
    headers = leaves_others.headers;
    states = λ q _. dite (ℕ_discrete q r) (λ e. subst (λ (j : ℕ). state_in z b j ≡ state_in z a j) (sym e) (state_is ∙ same)) (λ ne. leaves_others.states q ne);
    words = leaves_others.words;
  }

-- a store past the end of the words changes nothing
leaves_stored : (z : Sizes) (r : ℕ) → r < z.chunks → (a b : List ℕ) (x : ℕ) → b ≡ set a (index z (in_rooms (at_room_pin r))) x → (state_in z b r ≡ state_of x → state_of x ≡ state_in z a r) → LeavesBut z no_room no_room a b
leaves_stored z r inside a b x is same = let i : ℕ = index z (in_rooms (at_room_pin r)) in dite (dec_lt i (length a))
    (λ l. stays_stored z r inside a b x l is (same (state_is z r inside a b x l is)))
    (λ no. leaves_same z no_room no_room a b (is ∙ set_past a i x (omega arith)))

-- ---- pins

less_stays : (n : ℕ) → 0 < count_of n → state_of (n - 1) ≡ state_of n
unfolding count_of state_of
less_stays n some_of = omega arith

-- A pin changes no state where the room is open behind it, as it is where the next step finds it so.
pub pin_leaves : (z : Sizes) (r : ℕ) (a b : List ℕ) → r < z.chunks → state_in z b r ≡ OPEN → AddsRoomPin z r a b → LeavesBut z no_room no_room a b
pin_leaves z r a b inside opened adds = leaves_stored z r inside a b ((memory z a).rooms.pin r + 1) adds.1 (λ e. sym e ∙ (opened ∙ sym adds.0))

-- nor does the end of one
pub unpin_leaves : (z : Sizes) (r : ℕ) (a b : List ℕ) → r < z.chunks → DropsRoomPin z r a b → LeavesBut z no_room no_room a b
unpin_leaves z r a b inside drops = leaves_stored z r inside a b ((memory z a).rooms.pin r - 1) drops.1 (λ _. less_stays ((memory z a).rooms.pin r) drops.0)
