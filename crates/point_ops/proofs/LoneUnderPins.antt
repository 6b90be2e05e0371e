-- To a pass that is alone: a call that writes a value, under the pin of the room in which its key was found.
use Rattle.std.proofs.Common.{◌≡◌, ℕ, ◌∙◌, List, refl, sym, subst, inl, Option, Some, None, Result, Ok, Err, IfOk, IfErr, arith}
use Rattle.oak_model.specs.Limits.{Sizes}
use Rattle.chunk_core.specs.Rooms.{at_base, at_count, at_first, at_high, at_key, at_latch, at_low, at_next, at_room_pin, at_value}
use Rattle.header_core.specs.declared.states.TheConstants.{DEAD, LIVE}
use Rattle.header_core.specs.HeaderHolds.{no_headers}
use Rattle.header_core.specs.Headers.{at_pin}
use Rattle.oak_core.specs.declared.states.PassState.{PassState}
use Rattle.oak_core.specs.AloneWords.{Runs}
use Rattle.oak_core.specs.Memory.{Spot as WordSpot, at_given, in_arena, in_headers, in_rooms}
use Rattle.oak_core.proofs.seats.AloneRuns.{Then, runs_as, runs_then}
use Rattle.chunk_ops.specs.declared.entries.Content.TheVariants.{Value}
use Rattle.chunk_ops.specs.declared.entries.EntryNo.{EntryNo}
use Rattle.chunk_ops.specs.AddsAlone.{Never}
use Rattle.chunk_ops.specs.PinRecords.{HasEntry, WordsStay}
use Rattle.chunk_ops.proofs.MeetingCalls.{both_stay, stays_then}
use Rattle.value_ops.specs.Locking.{IsDeadAt}
use Rattle.point_ops.specs.LoneInserts.{InsertHaltsIn, InsertsIn, InsertedIn, IsInserted, IsSpare, SpareOnly}
use Rattle.point_ops.specs.LoneLives.{AwayIn, EntrySays, IsOfLife, KeepsButLife, LooksAlone, OverHaltsIn, RefusesLock, RefusesLook}
use Rattle.point_ops.specs.LonePuts.{InsertsFor, IsPut, KeepsRooms, PutsUnder}
use Rattle.point_ops.specs.declared.halts.Halt.{Halt}
use Rattle.point_ops.specs.declared.halts.Halt.TheVariants.{Busy, Moved, Crowded, NoBlock, NoHeader}
use Rattle.point_ops.specs.declared.spots.Spot.TheVariants.{Present}
use Rattle.point_ops.proofs.LoneCalls.{lock_never, look_never}
use Rattle.point_ops.proofs.LoneSpots.{spot_stays}
use Rattle.point_ops.proofs.LoneChanges.{then_never}
use Rattle.point_ops.proofs.LoneWords.{but_as, but_none, but_same}

-- ---- where the key was away

pub away_stays : (z : Sizes) (r : ℕ) (key : List ℕ) (entry : Option EntryNo) (floor : ℕ) (a m : List ℕ) → AwayIn entry floor z r key a m → (m ≡ a) × AwayIn entry floor z r key a a
away_stays z r key None floor a m w = (w.0, (refl, w.1))
away_stays z r key (Some i) floor a m w = (w.0.0, ((refl, w.0.1), w.1))

pub away_inserts : (z : Sizes) (r : ℕ) (key value : List ℕ) (entry : Option EntryNo) (floor : ℕ) (v u w : PassState) (result : Result ℕ Halt) → Runs (AwayIn entry floor z r key) v u → Runs (InsertsFor result z r entry floor key value) u w → Runs (InsertsIn result z r key value) v w
away_inserts z r key value entry floor v u w result found does = let A : List ℕ → List ℕ → Type 0 = AwayIn entry floor z r key in let B : List ℕ → List ℕ → Type 0 = InsertsFor result z r entry floor key value in
    runs_as (Then A B) (InsertsIn result z r key value) v w
    (λ a d s. let t = away_stays z r key entry floor a s.0 s.1 in subst (λ (m : List ℕ). InsertsIn result z r key value m d) t.0 (s.2 (subst (λ (m : List ℕ). AwayIn entry floor z r key m m) (sym t.0) t.1)))
    (runs_then A B v u w found does)

inserted_put : (z : Sizes) (r : ℕ) (a : List ℕ) (p : WordSpot) → IsInserted z r a p → IsPut p
inserted_put z r a (in_arena p) s = tt
inserted_put z r a (in_headers p) s = tt
inserted_put z r a at_given s = absurd s
inserted_put z r a (in_rooms (at_count j)) s = tt
inserted_put z r a (in_rooms (at_key j i)) s = tt
inserted_put z r a (in_rooms (at_value j i)) s = tt
inserted_put z r a (in_rooms (at_room_pin j)) s = absurd s
inserted_put z r a (in_rooms (at_base j)) s = absurd s
inserted_put z r a (in_rooms (at_latch j)) s = absurd s
inserted_put z r a (in_rooms (at_first j)) s = tt
inserted_put z r a (in_rooms (at_low j i)) s = absurd s
inserted_put z r a (in_rooms (at_high j i)) s = absurd s
inserted_put z r a (in_rooms (at_next j i)) s = tt

pub inserted_keeps : (z : Sizes) (r : ℕ) (v w : PassState) → Runs (InsertedIn z r) v w → Runs (KeepsRooms z) v w
inserted_keeps z r v w s = runs_as (InsertedIn z r) (KeepsRooms z) v w (λ a d i. record { but = but_as z (IsInserted z r a) IsPut a d (inserted_put z r a) i.but; pins = i.pins }) s

-- ---- where its entry named a life

life_put : (h : ℕ) (p : WordSpot) → IsOfLife h p → IsPut p
life_put h (in_arena p) s = tt
life_put h (in_headers p) s = tt
life_put h at_given s = absurd s
life_put h (in_rooms p) s = absurd s

life_rooms : (z : Sizes) (h : ℕ) (a d : List ℕ) → KeepsButLife z h a d → KeepsRooms z a d
life_rooms z h a d k = record { but = but_as z (IsOfLife h) IsPut a d (life_put h) k; pins = λ j. inl (but_same z (IsOfLife h) a d k (in_headers (at_pin j)) (λ e. e)) }

stay_rooms : (z : Sizes) (a d : List ℕ) → d ≡ a → KeepsRooms z a d
stay_rooms z a d e = subst (KeepsRooms z a) (sym e) (record { but = but_none z IsPut a; pins = λ h. inl refl })

pub stay_keeps : (z : Sizes) (v w : PassState) → Runs WordsStay v w → Runs (KeepsRooms z) v w
stay_keeps z v w s = runs_as WordsStay (KeepsRooms z) v w (stay_rooms z) s

module _ (z : Sizes) (r h g : ℕ) (i : EntryNo) (key : List ℕ) (v u w : PassState) (named : Runs (EntrySays i (Value h g) z r key) v u) where
  -- the value was changed
  pub life_keeps : Runs (KeepsButLife z h) u w → Runs (KeepsRooms z) v w
  life_keeps s = stays_then (KeepsRooms z) v u w (spot_stays z r key (Present i record { header = h; generation = g }) v u named) (runs_as (KeepsButLife z h) (KeepsRooms z) u w (life_rooms z h) s)

  -- or it was not
  pub over_refused : (value : List ℕ) → HasEntry r i.0 key u → u.headers ≡ no_headers → (why : Halt) → Runs (OverHaltsIn why z h g value u) u w → Runs (InsertHaltsIn why z r key value) v w
  over_refused value has none Busy s = runs_as Never (InsertHaltsIn Busy z r key value) v w (λ a d e. absurd e) (lock_never z r h g i key v u w named has none s)
  over_refused value has none Moved s = then_never (EntrySays i (Value h g) z r key) (InsertHaltsIn Moved z r key value) v u w named s
  over_refused value has none Crowded s = then_never (EntrySays i (Value h g) z r key) (InsertHaltsIn Crowded z r key value) v u w named s
  over_refused value has none NoHeader s = then_never (EntrySays i (Value h g) z r key) (InsertHaltsIn NoHeader z r key value) v u w named s
  over_refused value has none (NoBlock c) s = let O : List ℕ → List ℕ → Type 0 = OverHaltsIn (NoBlock c) z h g value u in let H : List ℕ → List ℕ → Type 0 = InsertHaltsIn (NoBlock c) z r key value in
      stays_then H v u w (spot_stays z r key (Present i record { header = h; generation = g }) v u named) (runs_as O H u w (λ a d t. (subst (SpareOnly z a) (sym t.0.0) (but_none z (IsSpare z a) a), inl (t.1, λ b lt. t.0.1 b lt tt))) s)

-- a dead header is not live
pub dead_refused : (z : Sizes) (h g : ℕ) (v w : PassState) → Runs (LooksAlone z h (IsDeadAt g) v) v w → Runs (RefusesLook z h g v) v w
dead_refused z h g v w s = runs_as (LooksAlone z h (IsDeadAt g) v) (RefusesLook z h g v) v w
    (λ a d l. record { stay = l.stay; alone = l.alone; moment = l.moment; says = λ live. let e : LIVE ≡ DEAD = sym live.1 ∙ l.says.1 in absurd (omega arith) }) s

-- the value was only looked at, which is never refused
pub look_keeps : {A : Type 0} (z : Sizes) (r h g : ℕ) (i : EntryNo) (key value : List ℕ) (v u w : PassState) → Runs (EntrySays i (Value h g) z r key) v u → HasEntry r i.0 key u → u.headers ≡ no_headers
    → (x : Result A Halt) → IfOk x (λ _. Runs WordsStay u w) → IfErr x (λ _. Runs (RefusesLook z h g u) u w) → Runs (PutsUnder x z r key value) v w
look_keeps z r h g i key value v u w named has none (Ok y) stay refused = stay_keeps z v w (both_stay v u w (spot_stays z r key (Present i record { header = h; generation = g }) v u named) stay)
look_keeps z r h g i key value v u w named has none (Err why) stay refused = runs_as Never (InsertHaltsIn why z r key value) v w (λ a d e. absurd e) (look_never z r h g i key v u w named has none refused)

-- a lock is never refused
pub lock_refused : (z : Sizes) (r h g : ℕ) (i : EntryNo) (key value : List ℕ) (why : Halt) (v u w : PassState) → Runs (EntrySays i (Value h g) z r key) v u → HasEntry r i.0 key u → u.headers ≡ no_headers → Runs (RefusesLock z h g u) u w → Runs (InsertHaltsIn why z r key value) v w
lock_refused z r h g i key value why v u w named has none refused = runs_as Never (InsertHaltsIn why z r key value) v w (λ a d e. absurd e) (lock_never z r h g i key v u w named has none refused)
