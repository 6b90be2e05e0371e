-- How a call that puts gives up, where its pass is alone.
use Rattle.std.proofs.Common.{◌≡◌, ◌≢◌, ℕ, Bool, List, Option, Some, None, inl, inr, sym, refl, ap, ◌∙◌, subst}
use Rattle.oak_model.specs.declared.cells.CellCall.{CellCall}
use Rattle.oak_model.specs.declared.classes.Class.{Class}
use Rattle.oak_model.specs.declared.replies.Lack.{Lack}
use Rattle.oak_model.specs.declared.replies.Lack.TheVariants.{Block, Header, Room}
use Rattle.oak_model.specs.declared.replies.Wrote.TheVariants.{Full}
use Rattle.oak_model.specs.Cell.{state_after}
use Rattle.oak_model.specs.KeyNumber.{key_number}
use Rattle.oak_model.specs.Limits.{Sizes}
use Rattle.chunk_core.specs.LinkedEntries.{entries_in}
use Rattle.chunk_core.specs.Spans.{within}
use Rattle.oak_core.specs.declared.states.PassState.{PassState}
use Rattle.oak_core.specs.AloneWords.{LeavesWords, Runs, RunsTo}
use Rattle.oak_core.specs.Memory.{memory}
use Rattle.oak_core.specs.Noting.{Notes}
use Rattle.oak_core.specs.PassState.{HoldsNothing, IsAlone, seen_of}
use Rattle.oak_core.specs.Step.{note_full}
use Rattle.oak_core.proofs.seats.AloneRuns.{moment_after}
use Rattle.chunk_ops.specs.FindsAlone.{IsLinked, linked_key}
use Rattle.lone_counts.specs.LoneTable.{LoneTable}
use Rattle.lone_counts.specs.Maps.{last_states}
use Rattle.point_ops.specs.declared.halts.Halt.{Halt}
use Rattle.point_ops.specs.declared.halts.Halt.TheVariants.{Busy, Moved, Crowded, NoBlock, NoHeader}
use Rattle.point_ops.specs.LonePuts.{LoneHalts}
use Rattle.point_ops.specs.LoneReplies.{SameAlone, SeesTheSame, SeesWhole}
use Rattle.point_ops.proofs.LoneHistories.{alone_later, sees_whole}
use Rattle.rebalance.specs.Calls.{FindsNoRoom}
use Rattle.rebalance.specs.Copies.{copy_span}
use Rattle.rebalance.specs.LoneCalls.{IsSettled}
use Rattle.rebalance.specs.LoneWords.{IsOpen, room_in}
use Rattle.oak_map.specs.LonePuts.{PutsAlone}
use Rattle.oak_map.specs.LoneRetrying.{LoneGoing, Retries}
use Rattle.oak_map.specs.MakingRoom.{IsRefused, MakesWay}
use Rattle.oak_map.proofs.LoneFull.{FullAt, LoneEnd, full_of, full_of_rooms, lone_end, many_there, noted_alone, noted_moment, noted_words, refused_noted, was_alone}
use Rattle.oak_map.proofs.LoneWays.{NothingLacks, crowded_room, halts_stay, retries_still}
use Rattle.oak_map.proofs.SettledStays.{RoomsStay}
use Rattle.oak_map.proofs.Trying.{idle_on, tries_leaves}
use Rattle.oak_map.proofs.WordsThrough.{halts_somewhere, runs_through}

-- no linked entry has the key, in a full room of those as settling leaves them, where the key was absent at the call
abbrev pub MissesKey : Sizes → List ℕ → PassState → Type 0
MissesKey z key u = (d : List ℕ) (t : PassState) → LoneTable z d t → ((q : ℕ) → seen_of q t.knowledge ≡ seen_of q u.knowledge) → last_states u key ≡ None → IsSettled z d
    → (q : ℕ) → IsOpen z d q → entries_in (room_in z d q).count ≡ z.entries → within (copy_span (room_in z d q)) (key_number key) ≡ 1 → (i : ℕ) → IsLinked (memory z d) q i → key_number (linked_key (memory z d) q i) ≢ key_number key

-- the call began at u, its last try, from v to w, was refused, and it gave up until x
module _ (z : Sizes) (call : ℕ) (key value : List ℕ) (ask : CellCall) (settled then : Bool) (result : Option Lack) (lack : Lack) (u v w x : PassState) (makes : state_after None ask ≡ Some value)
    (numbers : v.numbers ≡ u.numbers) (later : w.numbers ≡ v.numbers) (idle : HoldsNothing w) (going : LoneGoing z key ask settled u v) (same : SameAlone z v w) (is : result ≡ Some lack) where
  -- it noted that, and left the words
  noted_on : (own : Lack) (a c : List ℕ) (t : PassState) → LeavesWords c t → own ≡ lack → Notes z call own t x → PutsAlone z key ask u (Full own) a c → RunsTo (λ _ d. PutsAlone z key ask u (Full lack) a d) c x
  noted_on own a c t l e n p = let r = noted_words z call own t x n c l in record {
    after = r.after;
    leaves = r.leaves;
    does = subst (λ (k : Lack). PutsAlone z key ask u (Full k) a r.after) e (subst (λ (d : List ℕ). PutsAlone z key ask u (Full own) a d) (sym r.does) p);
  }

  module _ (a b c : List ℕ) (l : LeavesWords c w) (p : Retries z key ask settled u a b) where
    abbrev GivesUpTo : Type 0
    GivesUpTo = RunsTo (λ _ d. PutsAlone z key ask u (Full lack) a d) c x

    -- it lacks a block or a header
    lacking_on : (own : Lack) → RoomsStay z b c → IsRefused z call settled then own result w x → (LoneEnd z key ask u c w → FullAt z key ask u own c) → GivesUpTo
    lacking_on own i g f = let n = refused_noted z call settled then own lack result w x g is in let r = retries_still z key ask settled u a b c i p in let s = r.settled_stays n.had in
        let alone = was_alone z key ask settled u v w numbers later idle going same (noted_alone z call own w x n.notes c l) in
        noted_on own a c w l n.is n.notes (full_of z key ask u own a c r.retired s (f (lone_end z key ask settled u v w numbers later idle going same alone c l s)))

    -- or a room
    roomless_on : LoneHalts Crowded z key value b c → (LoneEnd z key ask u c w → NothingLacks z key value u c) → MissesKey z key u → (t : PassState) → FindsNoRoom z call key w t → IsRefused z call settled then Room result t x → GivesUpTo
    roomless_on q lacks missing t f g = let n = refused_noted z call settled then Room lack result t x g is in let h = f.compacts in let d = h.alone.goes c l in
        let r = retries_still z key ask settled u a b c (halts_stay Crowded z key value b c q) p in let s = r.settled_stays n.had in
        let there = noted_alone z call Room t x n.notes d.after d.leaves in let alone = was_alone z key ask settled u v w numbers later idle going same (alone_later t w (sym h.leaves.numbers) there) in
        let ends = lone_end z key ask settled u v w numbers later idle going same alone c l s in let none = lacks ends in
        let table : LoneTable z d.after t = record { moment = noted_moment z call Room t x n.notes d.after d.leaves; alone = there; idle = idle_on w t (tries_leaves z call w t h.leaves h.claims).holds idle } in
        let e = noted_on Room a d.after t d.leaves n.is n.notes (full_of_rooms z key ask u value makes call w t f a c d.after r.retired d.does (f.all_open.goes c l).does s (many_there z key ask u c alone s (crowded_room z key value b c q)) (crowded_room z key value b c q) none
        (missing d.after t table (λ k. ap (seen_of k) h.leaves.knowledge ∙ ends.same k) none.absent)) in
        record { after = e.after; leaves = e.leaves; does = e.does }

    gives_up_on : (halt : Halt) → ((k : Class) → halt ≡ NoBlock k → LoneEnd z key ask u c w → LoneHalts (NoBlock k) z key value b c → FullAt z key ask u (Block k) c) → (halt ≡ NoHeader → LoneEnd z key ask u c w → LoneHalts NoHeader z key value b c → FullAt z key ask u Header c)
        → (halt ≡ Crowded → LoneEnd z key ask u c w → LoneHalts Crowded z key value b c → NothingLacks z key value u c) → MissesKey z key u → MakesWay halt z call key settled then result w x → LoneHalts halt z key value b c → GivesUpTo
    gives_up_on Busy blocks header lacks missing m q = absurd q.2
    gives_up_on Moved blocks header lacks missing m q = absurd q.2
    gives_up_on (NoBlock k) blocks header lacks missing m q = lacking_on (Block k) (halts_stay (NoBlock k) z key value b c q) m (λ ends. blocks k refl ends q)
    gives_up_on NoHeader blocks header lacks missing m q = lacking_on Header (halts_stay NoHeader z key value b c q) m (λ ends. header refl ends q)
    gives_up_on Crowded blocks header lacks missing (inl m) q = let e : None ≡ Some lack = sym m.0.none ∙ is in absurd cc
    gives_up_on Crowded blocks header lacks missing (inr (t, f, g)) q = roomless_on q (λ ends. lacks refl ends q) missing t f g

  pub lone_gives_up : (halt : Halt) → Runs (LoneHalts halt z key value) v w → MakesWay halt z call key settled then result w x
      → ((k : Class) → halt ≡ NoBlock k → (b c : List ℕ) → LoneEnd z key ask u c w → LoneHalts (NoBlock k) z key value b c → FullAt z key ask u (Block k) c) → (halt ≡ NoHeader → (b c : List ℕ) → LoneEnd z key ask u c w → LoneHalts NoHeader z key value b c → FullAt z key ask u Header c)
      → (halt ≡ Crowded → (b c : List ℕ) → LoneEnd z key ask u c w → LoneHalts Crowded z key value b c → NothingLacks z key value u c) → MissesKey z key u → Runs (PutsAlone z key ask u (Full lack)) u x
  lone_gives_up halt halts way blocks header lacks missing = runs_through (Retries z key ask settled u) (LoneHalts halt z key value) (PutsAlone z key ask u (Full lack)) u v w x (halts_somewhere halt z key value)
      (λ a b c l p q. gives_up_on a b c l p halt (λ k e. blocks k e b c) (λ e. header e b c) (λ e. lacks e b c) missing way q) going.runs halts

-- ---- no history changed

-- noting a call changes no history, and behind it there was a moment of the rule
noted_same : (z : Sizes) (call : ℕ) (lack : Lack) (v w : PassState) → Notes z call lack v w → (w.numbers ≡ v.numbers) × ((q : ℕ) → seen_of q w.knowledge ≡ seen_of q v.knowledge) × (IsAlone w → SeesWhole z w)
noted_same z call lack v w n = (ap (λ (y : PassState). y.numbers) n.after, (λ q. ap (λ (y : PassState). seen_of q y.knowledge) n.after), (λ alone. sees_whole z w alone (_, moment_after z call (note_full lack n.began) v n.number w n.told)))

-- The pass saw the same from u on to v, which it noted a lack behind, until w.
pub noted_sees : (z : Sizes) (call : ℕ) (lack : Lack) (u v w : PassState) → v.numbers ≡ u.numbers → ((q : ℕ) → seen_of q v.knowledge ≡ seen_of q u.knowledge) → IsAlone u → SeesWhole z u → Notes z call lack v w → SeesTheSame z u w
noted_sees z call lack u v w e f alone begun n = let s = noted_same z call lack v w n in record { begun = begun; ended = s.2 (alone_later u w (s.0 ∙ e) alone); same = λ q. s.1 q ∙ f q }

-- behind a try that was refused the call made way, and noted a lack: it learned nothing in between
pub record HasNoted (z : Sizes) (call : ℕ) (v w : PassState) : Type 0 where
  pub lack : Lack
  pub last : PassState
  pub notes : Notes z call lack last w
  pub numbers : last.numbers ≡ v.numbers
  pub knowledge : last.knowledge ≡ v.knowledge

has_noted : (z : Sizes) (call : ℕ) (settled then : Bool) (own lack : Lack) (result : Option Lack) (v w x : PassState) → w.numbers ≡ v.numbers → w.knowledge ≡ v.knowledge → IsRefused z call settled then own result w x → result ≡ Some lack → HasNoted z call v x
has_noted z call settled then own lack result v w x e f r is = record { lack = own; last = w; notes = (refused_noted z call settled then own lack result w x r is).notes; numbers = e; knowledge = f }

pub way_noted : (halt : Halt) (z : Sizes) (call : ℕ) (key : List ℕ) (settled then : Bool) (lack : Lack) (w x : PassState) → MakesWay halt z call key settled then (Some lack) w x → HasNoted z call w x
way_noted Busy z call key settled then lack w x m = let e : Some lack ≡ None = m.0.none in absurd cc
way_noted Moved z call key settled then lack w x m = let e : Some lack ≡ None = m.0.none in absurd cc
way_noted (NoBlock k) z call key settled then lack w x m = has_noted z call settled then (Block k) lack (Some lack) w w x refl refl m refl
way_noted NoHeader z call key settled then lack w x m = has_noted z call settled then Header lack (Some lack) w w x refl refl m refl
way_noted Crowded z call key settled then lack w x (inl m) = let e : Some lack ≡ None = m.0.none in absurd cc
way_noted Crowded z call key settled then lack w x (inr (t, f, g)) = has_noted z call settled then Room lack (Some lack) w t x f.compacts.leaves.numbers f.compacts.leaves.knowledge g refl
