-- Whole calls of a pass that is alone: a life that an entry names is never refused to it, nor is a room.
use Rattle.std.proofs.Common.{◌≡◌, ℕ, ◌<◌, true, false, true≢false, ⊎_elim, List, [], sym, ap, ◌∙◌, subst, Result, Ok, Err, IfErr}
use Rattle.pin_word.specs.PinWord.{count_of, state_of}
use Rattle.oak_model.specs.Limits.{Sizes}
use Rattle.header_core.specs.HeaderHolds.{no_headers}
use Rattle.chunk_core.specs.declared.holds.RoomHolds.{RoomHolds}
use Rattle.chunk_core.specs.declared.states.TheConstants.{OPEN}
use Rattle.oak_core.specs.declared.states.PassState.{PassState}
use Rattle.oak_core.specs.AloneWords.{Runs, RunsTo}
use Rattle.oak_core.specs.Memory.{memory}
use Rattle.oak_core.specs.PassState.{HoldsNothing}
use Rattle.oak_core.proofs.seats.AloneRuns.{Then, runs_as, runs_then}
use Rattle.chunk_ops.specs.declared.entries.Content.TheVariants.{Value}
use Rattle.chunk_ops.specs.declared.entries.EntryNo.{EntryNo}
use Rattle.chunk_ops.specs.Contents.{Says}
use Rattle.chunk_ops.specs.AddsAlone.{Never}
use Rattle.chunk_ops.specs.LoneRooms.{HasNoRoom, NeverAlone}
use Rattle.chunk_ops.specs.PinRecords.{HasEntry, WordsStay}
use Rattle.chunk_ops.specs.RoomPins.{AddsRoomPin, DropsRoomPin}
use Rattle.chunk_ops.proofs.MeetingCalls.{both_stay}
use Rattle.chunk_ops.proofs.PinSteps.{undone}
use Rattle.value_ops.specs.Locking.{may_lock}
use Rattle.value_ops.specs.Pinning.{IsLiveAt}
use Rattle.point_ops.specs.declared.halts.Halt.{Halt}
use Rattle.point_ops.specs.declared.spots.Spot.TheVariants.{Present}
use Rattle.point_ops.specs.LoneLives.{EntrySays, GetsIn, LooksAlone, RefusesLock, RefusesLook}
use Rattle.point_ops.specs.LoneReplies.{SameAlone}
use Rattle.point_ops.proofs.LoneChanges.{never_then, then_never}
use Rattle.point_ops.proofs.LoneNamed.{named_free, named_live}
use Rattle.point_ops.proofs.LoneSpots.{spot_stays}

-- The key's entry was found to name the header at the generation, and then the header was looked at, of which the word has P: it never has what neither a live one has, nor one that may be locked.
module _ (z : Sizes) (r h g : ℕ) (i : EntryNo) (key : List ℕ) (v u w : PassState) (named : Runs (EntrySays i (Value h g) z r key) v u) (has : HasEntry r i.0 key u) (none : u.headers ≡ no_headers) where
  pub never_named : (P : ℕ → Type 0) → ((n : ℕ) → IsLiveAt g n → may_lock n g ≡ true → P n → ⊥) → Runs (LooksAlone z h P u) u w → Runs Never v w
  never_named P f looks = runs_as (Then (EntrySays i (Value h g) z r key) (LooksAlone z h P u)) Never v w
      (λ a b d. let ws = d.0 in let l = d.2 in let says = subst (λ (q : List ℕ). Says (Value h g) ((memory z q).rooms.value r i.0)) (sym d.1.0.0) d.1.1 in
      f _ (named_live z ws u l.moment l.alone none r i.0 key has h g says) (named_free z ws u l.moment l.alone none r i.0 key has h g says) l.says)
      (runs_then (EntrySays i (Value h g) z r key) (LooksAlone z h P u) v u w named looks)

  pub lock_never : Runs (RefusesLock z h g u) u w → Runs Never v w
  lock_never = never_named (λ n. may_lock n g ≡ false) (λ n live free no. absurd (true≢false (sym free ∙ no)))

  pub look_never : Runs (RefusesLook z h g u) u w → Runs Never v w
  look_never = never_named (λ n. IsLiveAt g n → ⊥) (λ n live free no. no live)

-- so a look at the life is never refused
pub life_got : {A : Type 0} (z : Sizes) (r h g : ℕ) (i : EntryNo) (key : List ℕ) (v u w : PassState) → Runs (EntrySays i (Value h g) z r key) v u → HasEntry r i.0 key u → u.headers ≡ no_headers
    → Runs WordsStay u w → (x : Result A Halt) → IfErr x (λ _. Runs (RefusesLook z h g u) u w) → Runs (GetsIn x) v w
life_got z r h g i key v u w named has none stay (Ok y) e = both_stay v u w (spot_stays z r key (Present i record { header = h; generation = g }) v u named) stay
life_got z r h g i key v u w named has none stay (Err why) e = look_never z r h g i key v u w named has none e

-- what is known of each error is known of an error
pub of_each : {A B : Type 0} (P : Type 0) (x : Result A B) → P → IfErr x (λ _. P)
of_each P (Ok y) p = tt
of_each P (Err e) p = p

-- the pass had nothing, so that it found a room
pub room_found : (v w : PassState) (Q : List ℕ → List ℕ → Type 0) → HoldsNothing v → Runs (NeverAlone v) v w → Runs Q v w
room_found v w Q idle n = runs_as (NeverAlone v) Q v w (λ a b d. absurd (d record { held = ap (λ (a : RoomHolds). a.held) idle.rooms; moving = ap (λ (a : RoomHolds). a.moving) idle.rooms })) n

-- so it is never told that it found none
pub room_never : (z : Sizes) (v w : PassState) → HoldsNothing v → Runs (NeverAlone v) v w → SameAlone z v w
room_never z v w idle n alone = ⊎_elim (λ (s : (v ≡ w) × ((words : List ℕ) → NeverAlone v words words)). absurd (s.1 [] bare)) (λ (s : (before : List ℕ) × RunsTo (NeverAlone v) before w). absurd (s.1.does bare)) (n.starts alone)
  where
    bare : HasNoRoom v
    bare = record { held = ap (λ (a : RoomHolds). a.held) idle.rooms; moving = ap (λ (a : RoomHolds). a.moving) idle.rooms }

-- a room was pinned, a key looked at under the pin, and the room unpinned
pub pinned_got : {A : Type 0} (z : Sizes) (r : ℕ) (v u w x : PassState) → r < z.chunks → Runs (AddsRoomPin z r) v u → Runs (DropsRoomPin z r) w x → (y : Result A Halt) → Runs (GetsIn y) u w → Runs (GetsIn y) v x
pinned_got z r v u w x inside up down (Ok y) got = let Rest = Then WordsStay (DropsRoomPin z r) in runs_as (Then (AddsRoomPin z r) Rest) WordsStay v x
    (λ a d s. undone z r inside a s.0 d (λ n. state_of n ≡ OPEN) (λ n. 0 < count_of n) s.1 (subst (λ (ws : List ℕ). DropsRoomPin z r ws d) s.2.1 s.2.2))
    (runs_then (AddsRoomPin z r) Rest v u x up (runs_then WordsStay (DropsRoomPin z r) u w x got down))
pinned_got z r v u w x inside up down (Err why) got = then_never (AddsRoomPin z r) Never v u x up (never_then (DropsRoomPin z r) Never u w x got down)

-- or something else that is never refused was done
pub pinned_never : {A B : Type 0} (z : Sizes) (r : ℕ) (v u w x : PassState) → Runs (AddsRoomPin z r) v u → Runs (DropsRoomPin z r) w x → (y : Result A B) → IfErr y (λ _. Runs Never u w) → IfErr y (λ _. Runs Never v x)
pinned_never z r v u w x up down (Ok y) n = tt
pinned_never z r v u w x up down (Err e) n = then_never (AddsRoomPin z r) Never v u x up (never_then (DropsRoomPin z r) Never u w x n down)
