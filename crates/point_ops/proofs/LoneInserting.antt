-- An insertion by a pass that is alone, part by part.
use Rattle.std.proofs.Common.{◌≡◌, ℕ, List, length, sym, ap, ◌∙◌, subst, Option, Some, None, Result, Ok, Err, IfOk, IfErr}
use Rattle.oak_model.specs.declared.classes.Class.{Class}
use Rattle.oak_model.specs.Class.{class_of}
use Rattle.oak_model.specs.Limits.{Sizes}
use Rattle.arena_core.specs.Place.{class_in, block_in}
use Rattle.chunk_core.specs.declared.holds.RoomHolds.{RoomHolds}
use Rattle.chunk_core.specs.Spans.{Span}
use Rattle.chunk_core.specs.Rooms.{at_value}
use Rattle.header_core.specs.HeaderHolds.{place_held}
use Rattle.oak_core.specs.declared.states.PassState.{PassState}
use Rattle.oak_core.specs.AloneWords.{Runs}
use Rattle.oak_core.specs.Memory.{IsInside, in_rooms, memory}
use Rattle.oak_core.proofs.seats.AloneRuns.{Then, runs_then, runs_as}
use Rattle.chunk_ops.specs.declared.entries.EntryNo.{EntryNo}
use Rattle.chunk_ops.specs.AskedRanges.{CoversKey}
use Rattle.chunk_ops.specs.FindsAlone.{LacksKeyAt}
use Rattle.chunk_ops.specs.PinRecords.{HasEntry, HasRoomPin, pin_or}
use Rattle.chunk_ops.specs.Setting.{LeavesIn, SetsIn}
use Rattle.chunk_ops.proofs.WordLoads.{found_inside}
use Rattle.point_ops.specs.LoneInserts.{AddingHaltsIn, FindsOther, GivesBackIn, MakesFreshUnder, MakingHaltsIn, NamesBlock}
use Rattle.point_ops.specs.LoneLives.{AwayIn, FloorIsBase}
use Rattle.point_ops.specs.LonePuts.{EntersFor, InsertsFor}
use Rattle.point_ops.specs.declared.halts.Halt.{Halt}
use Rattle.point_ops.proofs.LoneInserted.{fresh_away, inserted}
use Rattle.point_ops.proofs.LoneRefused.{unadded_refused, unmade_refused}

-- ---- what the parts keep

-- the same header names the same block
pub names_kept : (h k : ℕ) (c : Class) (b : ℕ) (v u : PassState) → k ≡ h → u.headers ≡ v.headers → NamesBlock h c b v → NamesBlock k c b u
names_kept h k c b v u e same n = let place : place_held k u.headers.held ≡ place_held h v.headers.held = (λ i. place_held (e i) (same i).held) in (ap class_in place ∙ n.0, ap block_in place ∙ n.1)

pub base_kept : (entry : Option EntryNo) (floor : ℕ) (v u : PassState) → u.rooms ≡ v.rooms → FloorIsBase entry floor v → FloorIsBase entry floor u
base_kept None floor v u same is = is ∙ ap (λ (a : RoomHolds). (pin_or a.pin).base) (sym same)
base_kept (Some i) floor v u same is = tt

-- an entry that the pin found is one of the table's
pub entry_there : (z : Sizes) (r i : ℕ) (k : List ℕ) (v : PassState) → HasRoomPin z r v → HasEntry r i k v → IsInside z (in_rooms (at_value r i))
entry_there z r i k v pin h = (pin.inside, found_inside z r i k v pin h)

missing_of : (z : Sizes) (r floor : ℕ) (key a : List ℕ) (entry : Option EntryNo) → entry ≡ None → AwayIn entry floor z r key a a → LacksKeyAt (memory z a) r key
missing_of z r floor key a entry e away = let w : AwayIn None floor z r key a a = subst (λ (o : Option EntryNo). AwayIn o floor z r key a a) e away in w.1

-- the value word was another number, and the value is given back
pub other_alone : (z : Sizes) (r i floor h : ℕ) (c : Class) (b : ℕ) (v u x : PassState) → Runs (LeavesIn z r i floor) v u → Runs (GivesBackIn z h c b) u x → Runs (FindsOther z r i floor) v x
other_alone z r i floor h c b v u x s g = let L : List ℕ → List ℕ → Type 0 = LeavesIn z r i floor in runs_as (Then L (GivesBackIn z h c b)) (FindsOther z r i floor) v x (λ a d t. t.1.0) (runs_then L (GivesBackIn z h c b) v u x s g)

-- ---- the whole

module _ (z : Sizes) (r floor : ℕ) (key value : List ℕ) (entry : Option EntryNo) (c : Class) (fits : class_of (length value) ≡ Some c) where
  -- no value was made
  pub unmade_alone : (why : Halt) (v u : PassState) → Runs (MakingHaltsIn why z c) v u → Runs (InsertsFor (Err why) z r entry floor key value) v u
  unmade_alone why v u s = runs_as (MakingHaltsIn why z c) (InsertsFor (Err why) z r entry floor key value) v u (λ a d t away. unmade_refused z r c key value a d fits why t) s

  module _ (span : Span) (covers : CoversKey key span) (h b : ℕ) (v u w : PassState) (made : Runs (MakesFreshUnder z r span h c b) v u) where
    abbrev F : List ℕ → List ℕ → Type 0
    F = MakesFreshUnder z r span h c b

    -- the key got no entry
    pub unadded_alone : entry ≡ None → (why : Halt) (x : PassState) → Runs (AddingHaltsIn why z r key) u w → Runs (GivesBackIn z h c b) w x → Runs (InsertsFor (Err why) z r entry floor key value) v x
    unadded_alone e why x s g = let A : List ℕ → List ℕ → Type 0 = AddingHaltsIn why z r key in let G : List ℕ → List ℕ → Type 0 = GivesBackIn z h c b in
        runs_as (Then F (Then A G)) (InsertsFor (Err why) z r entry floor key value) v x
        (λ a d t away. unadded_refused z r h c b key value a t.0 fits t.1.0 (subst (CoversKey key) (sym t.1.1) covers) (missing_of z r floor key a entry e away) why t.2.0 d t.2.1 t.2.2)
        (runs_then F (Then A G) v u x made (runs_then A G u w x s g))

    -- it got one, or had one, which had the floor; so it comes to have the value
    pub set_alone : (i : EntryNo) (home : ℕ) → IsInside z (in_rooms (at_value r i.0)) → Runs (EntersFor z r entry floor key i) u w → (x : PassState) (result : Result ℕ Halt)
        → IfOk result (λ _. Runs (SetsIn z r i.0 floor home) w x) → IfErr result (λ _. Runs (FindsOther z r i.0 floor) w x) → Runs (InsertsFor result z r entry floor key value) v x
    set_alone i home there s x (Ok at) set other = let E : List ℕ → List ℕ → Type 0 = EntersFor z r entry floor key i in let S : List ℕ → List ℕ → Type 0 = SetsIn z r i.0 floor home in
        runs_as (Then F (Then E S)) (InsertsFor (Ok at) z r entry floor key value) v x
        (λ a d t away. inserted z r h c b a t.0 t.1.0 i.0 floor home t.2.0 d there (t.2.1 (fresh_away z r h c b a t.0 t.1.0 entry floor key away)) t.2.2)
        (runs_then F (Then E S) v u x made (runs_then E S u w x s set))
    set_alone i home there s x (Err why) set other = let E : List ℕ → List ℕ → Type 0 = EntersFor z r entry floor key i in let S : List ℕ → List ℕ → Type 0 = FindsOther z r i.0 floor in
        runs_as (Then F (Then E S)) (InsertsFor (Err why) z r entry floor key value) v x
        (λ a d t away. absurd (t.2.2 (t.2.1 (fresh_away z r h c b a t.0 t.1.0 entry floor key away)).value))
        (runs_then F (Then E S) v u x made (runs_then E S u w x s other))
