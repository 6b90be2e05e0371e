-- What a pass that is alone does to the words of the table, where it claims the entry past the count, stores its three words, and links it at once.
use Rattle.std.proofs.Common.{◌≡◌, ◌≢◌, ℕ, ◌+◌, ◌==◌, Bool, List, [], ◌∷◌, get_or, set, sym, refl, ap, ◌∙◌, subst, eq-eqb, get_or-set_other, inr, Option, Some, None}
use prog.Atomic.{either}
use Rattle.oak_model.specs.declared.classes.Class.{Class}
use Rattle.oak_model.specs.Class.{class_number}
use Rattle.oak_model.specs.Counts.{Has}
use Rattle.oak_model.specs.Limits.{Sizes}
use Rattle.arena_core.specs.Place.{content, place_word}
use Rattle.chunk_core.specs.declared.holds.PinnedRoom.{PinnedRoom}
use Rattle.chunk_core.specs.KeyWords.{key_in}
use Rattle.chunk_core.specs.LinkWords.{link_spot, link_word}
use Rattle.chunk_core.specs.MayOnRooms.{ComesFrom, HasClaim}
use Rattle.chunk_core.specs.PinnedRooms.{RoomPinHolds, found_in}
use Rattle.chunk_core.specs.RoomStep.{EntryField, claim_entry, entry_spot, link_entry, of_key, of_next, of_value, own_entry}
use Rattle.chunk_core.specs.Rooms.{IsInRooms, at_count, at_key, at_next, at_value}
use Rattle.link_search.specs.Met.{stored_key, stored_link, stored_value, tried_count, tried_link}
use Rattle.oak_core.specs.declared.states.PassState.{PassState}
use Rattle.oak_core.specs.AloneWords.{Moment, Runs}
use Rattle.oak_core.specs.Memory.{in_rooms, index, memory}
use Rattle.oak_core.specs.RoomCalls.{LinksEntry}
use Rattle.oak_core.specs.Step.{Step, on_rooms, Told}
use Rattle.oak_core.proofs.memory.Words.{memory_read}
use Rattle.oak_core.proofs.seats.AloneRuns.{DoesStep, Keeps, Then, runs_as, runs_then, step_runs, step_starts, words_stand}
use Rattle.chunk_ops.specs.AddsAlone.{claim_words, put_entry}
use Rattle.chunk_ops.specs.ClaimLaws.{apart_now}
use Rattle.chunk_ops.specs.FoundNumbers.{has_counted}
use Rattle.chunk_ops.specs.LinkedTable.{DoesEach}
use Rattle.chunk_ops.specs.OwnLinks.{count_apart, key_apart, next_same, other, value_apart}
use Rattle.chunk_ops.specs.PinRecords.{HasRoomPin, pin_or, room_pin}
use Rattle.chunk_ops.proofs.WordLoads.{pin_holds}

-- so it is, and the words before had the count and the link that it found, and what the pin says of the room
pub record PutsEntry (z : Sizes) (r : ℕ) (from : Option ℕ) (i : ℕ) (c : Class) (b len old l : ℕ) (p : PinnedRoom) (before after : List ℕ) : Type 0 where
  pub becomes : after ≡ put_entry z r from i c b len before
  pub count : (memory z before).rooms.count r ≡ old
  pub link : link_word (memory z before).rooms r from ≡ l
  pub holds : RoomPinHolds z (memory z before).rooms (content (memory z before).arena.bytes) p

-- a step at whose words Q holds
pub step_at : (z : Sizes) (call : ℕ) (x : Step) (v : PassState) (n : ℕ) (w : PassState) → Keeps x → (t : Told z call x v n w) → (Q : List ℕ → Type 0) → Q t.table.words → Runs (λ a b. Q a × DoesStep z x n a b) v w
step_at z call x v n w k t Q q = record {
  goes = λ before l. let r = (step_runs z call x v n w k t).goes before l in record { after = r.after; leaves = r.leaves; does = (subst Q (words_stand z call x v n w before l t) q, r.does) };
  starts = λ a. inr (t.table.words, record { after = _; leaves = step_starts z call x v n w k a t; does = (q, (sym t.finds, refl)) });
}

-- the link that is to name the claimed entry is not its own
pub from_apart : (z : Sizes) (call r : ℕ) (from : Option ℕ) (i old : ℕ) (v : PassState) (n : ℕ) (w : PassState) → LinksEntry z call r from i old v n w → from ≢ Some i
from_apart z call r from i old v n w t = go from t.may.rooms.behind
  where
    p : PinnedRoom
    p = t.may.rooms.pinned

    pin : room_pin v ≡ t.may.rooms.pinned
    pin = ap pin_or t.may.rooms.has.pin.is

    has : HasClaim r i v.rooms (room_pin v) t.may.rooms.claim
    has = subst (λ (q : PinnedRoom). HasClaim r i v.rooms q t.may.rooms.claim) (sym pin) t.may.rooms.has

    moment : Moment z t.table.words v
    moment = record { states = t.table.states; rule = t.rule; seat = t.seat; here = t.here }

    go : (f : Option ℕ) → ComesFrom f (key_in t.may.rooms.claim.entry.word t.may.rooms.claim.words) t.may.rooms.pinned → f ≢ Some i
    go None c e = cc
    go (Some q) c e = let same : q ≡ i = cc in
        apart_now z r i t.table.words v moment t.may.rooms.claim has (has_counted i (found_in (room_pin v)) c.0 (subst (λ (x : PinnedRoom). Has c.0 (found_in x)) (sym pin) c.1) (c.2 ∙ same))

-- a store to the claimed entry
stores : (z : Sizes) (call : ℕ) (f : EntryField) (r i x : ℕ) (v : PassState) (n : ℕ) (w : PassState) → Told z call (on_rooms (own_entry f r i x)) v n w → Runs (λ a b. b ≡ set a (index z (in_rooms (entry_spot f r i))) x) v w
stores z call f r i x v n w t = runs_as (DoesStep z (on_rooms (own_entry f r i x)) n) (λ a b. b ≡ set a (index z (in_rooms (entry_spot f r i))) x) v w (λ a b d. d.1) (step_runs z call (on_rooms (own_entry f r i x)) v n w tt t)

module _ (z : Sizes) (call r base place : ℕ) (c : Class) (b len old i l : ℕ) (from : Option ℕ) (v w : PassState) (p : HasRoomPin z r v) (floor : base ≡ (room_pin v).base) (named : place ≡ place_word (class_number c) b len)
    (d : DoesEach z call r base place (tried_count old old ∷ stored_value i ∷ stored_link i l ∷ stored_key i ∷ tried_link from i l l ∷ []) v w) where
  -- the states between
  abbrev s1 : PassState
  s1 = d.0

  abbrev s2 : PassState
  s2 = d.2.0

  abbrev s3 : PassState
  s3 = d.2.2.0

  abbrev s4 : PassState
  s4 = d.2.2.2.0

  abbrev s5 : PassState
  s5 = d.2.2.2.2.0

  abbrev tried : LinksEntry z call r from i l s4 l s5
  tried = d.2.2.2.2.1

  in_link : IsInRooms z (link_spot r from)
  in_link = tried.may.inside

  abbrev ic : ℕ
  ic = index z (in_rooms (at_count r))

  abbrev iv : ℕ
  iv = index z (in_rooms (at_value r i))

  abbrev inx : ℕ
  inx = index z (in_rooms (at_next r i))

  abbrev ik : ℕ
  ik = index z (in_rooms (at_key r i))

  abbrev il : ℕ
  il = index z (in_rooms (link_spot r from))

  -- the claim and the three stores
  abbrev stored : List ℕ → List ℕ
  stored a = set (set (set (set a ic (old + 1)) iv base) inx l) ik place

  link_kept : (a : List ℕ) → get_or (stored a) il 0 ≡ get_or a il 0
  link_kept a = get_or-set_other (set (set (set a ic (old + 1)) iv base) inx l) ik il place 0 (other z r from in_link (at_key r i) d.2.2.2.1.1.may.inside (key_apart r i from))
      ∙ (get_or-set_other (set (set a ic (old + 1)) iv base) inx il l 0 (other z r from in_link (at_next r i) d.2.2.1.1.may.inside (λ e. from_apart z call r from i l s4 l s5 tried (next_same r i from e)))
      ∙ (get_or-set_other (set a ic (old + 1)) iv il base 0 (other z r from in_link (at_value r i) d.2.1.1.may.inside (value_apart r i from))
      ∙ get_or-set_other a ic il (old + 1) 0 (other z r from in_link (at_count r) d.1.may.inside (count_apart r from))))

  abbrev Holds : List ℕ → Type 0
  Holds a = RoomPinHolds z (memory z a).rooms (content (memory z a).arena.bytes) (room_pin v)

  -- one step behind another

  abbrev Claims : List ℕ → List ℕ → Type 0
  Claims x y = Holds x × DoesStep z (on_rooms (claim_entry r old)) old x y

  abbrev Links : List ℕ → List ℕ → Type 0
  Links = DoesStep z (on_rooms (link_entry r from i l)) l

  abbrev Sets : ℕ → ℕ → List ℕ → List ℕ → Type 0
  Sets at n x y = y ≡ set x at n

  steps : Runs (Then Claims (Then (Sets iv base) (Then (Sets inx l) (Then (Sets ik place) Links)))) v s5
  steps = runs_then Claims (Then (Sets iv base) (Then (Sets inx l) (Then (Sets ik place) Links))) v s1 s5
      (step_at z call (on_rooms (claim_entry r old)) v old s1 tt d.1 Holds (pin_holds z call r (on_rooms (claim_entry r old)) v old s1 p d.1))
      (runs_then (Sets iv base) (Then (Sets inx l) (Then (Sets ik place) Links)) s1 s2 s5 (stores z call of_value r i base s1 d.2.1.0 s2 d.2.1.1)
      (runs_then (Sets inx l) (Then (Sets ik place) Links) s2 s3 s5 (stores z call of_next r i l s2 d.2.2.1.0 s3 d.2.2.1.1)
      (runs_then (Sets ik place) Links s3 s4 s5 (stores z call of_key r i place s3 d.2.2.2.1.0 s4 d.2.2.2.1.1) (step_runs z call (on_rooms (link_entry r from i l)) s4 l s5 tt tried))))

  module _ (x y : List ℕ) (s : Then Claims (Then (Sets iv base) (Then (Sets inx l) (Then (Sets ik place) Links))) x y) where
    count_is : (memory z x).rooms.count r ≡ old
    count_is = memory_read z x (in_rooms (at_count r)) d.1.may.inside ∙ sym s.1.1.0

    first : s.0 ≡ set x ic (old + 1)
    first = s.1.1.1 ∙ (ap (λ (k : ℕ). set x ic (either (k == old) (old + 1) k)) (sym s.1.1.0) ∙ ap (λ (t : Bool). set x ic (either t (old + 1) old)) (eq-eqb old old refl))

    between : s.2.2.2.0 ≡ stored x
    between = s.2.2.2.1 ∙ ap (λ (ws : List ℕ). set ws ik place) (s.2.2.1 ∙ ap (λ (ws : List ℕ). set ws inx l) (s.2.1 ∙ ap (λ (ws : List ℕ). set ws iv base) first))

    found : l ≡ get_or (stored x) il 0
    found = s.2.2.2.2.0 ∙ ap (λ (ws : List ℕ). get_or ws il 0) between

    last : y ≡ set (stored x) il (i + 1)
    last = s.2.2.2.2.1 ∙ (ap (λ (k : ℕ). set s.2.2.2.0 il (either (k == l) (i + 1) k)) (sym s.2.2.2.2.0) ∙ (ap (λ (t : Bool). set s.2.2.2.0 il (either t (i + 1) l)) (eq-eqb l l refl) ∙ ap (λ (ws : List ℕ). set ws il (i + 1)) between))

    link_is : link_word (memory z x).rooms r from ≡ l
    link_is = memory_read z x (in_rooms (link_spot r from)) in_link ∙ sym (found ∙ link_kept x)

    base_is : (memory z x).rooms.base r ≡ base
    base_is = ap (memory z x).rooms.base (sym p.pin.room) ∙ (s.1.0.base ∙ sym floor)

    are : stored x ≡ claim_words z r from i c b len x
    are = λ j. set (set (set (set x ic (sym count_is j + 1)) iv (sym base_is j)) inx (sym link_is j)) ik (named j)

    puts : PutsEntry z r from i c b len old l (room_pin v) x y
    puts = record { becomes = last ∙ ap (λ (ws : List ℕ). set ws il (i + 1)) are; count = count_is; link = link_is; holds = s.1.0 }

  pub traced_words : Runs (PutsEntry z r from i c b len old l (room_pin v)) v w
  traced_words = subst (Runs (PutsEntry z r from i c b len old l (room_pin v)) v) (sym d.2.2.2.2.2)
      (runs_as (Then Claims (Then (Sets iv base) (Then (Sets inx l) (Then (Sets ik place) Links)))) (PutsEntry z r from i c b len old l (room_pin v)) v s5 puts steps)
