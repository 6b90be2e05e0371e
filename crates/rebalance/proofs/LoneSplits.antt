-- What a split does to the words of the table where its pass is alone.
use Rattle.std.proofs.Common.{◌≡◌, ◌≢◌, ℕ, ◌<◌, inl, inr, ⊎_elim, List, sym, ◌∙◌, subst}
use mathlib.Core.Logic.{dite}
use native.Mathlib.Decide.{ℕ_discrete}
use Rattle.oak_model.specs.Limits.{Sizes}
use Rattle.chunk_core.specs.declared.holds.RoomCopy.{RoomCopy}
use Rattle.chunk_core.specs.declared.states.TheConstants.{FREE, HELD, OPEN}
use Rattle.oak_core.specs.declared.states.PassState.{PassState}
use Rattle.oak_core.specs.AloneWords.{Runs}
use Rattle.oak_core.specs.CallSteps.{StepOfCall}
use Rattle.oak_core.specs.Step.{Step}
use Rattle.oak_core.proofs.seats.AloneRuns.{Then, runs_as, runs_then}
use Rattle.chunk_ops.specs.LoneRooms.{HasNoRoom}
use Rattle.chunk_ops.specs.RoomPins.{HadMoment}
use Rattle.rebalance.specs.LoneCalls.{AllOpen, Divided, HalvesRoom}
use Rattle.rebalance.specs.LoneWords.{Divides, LeavesBut, MovesWith, NoneFree, OpensBoth, TakesRoom, held_by, leaves_both, leaves_more, no_room, or_held, state_in, these_two, this_room}
use Rattle.rebalance.proofs.LoneChunks.{divided_runs, step_apart}
use Rattle.rebalance.proofs.LoneTakes.{none_by}

-- A pass that had no room took the room r, and may have worked on it.
module _ (z : Sizes) (v0 : PassState) (r : ℕ) (w : RoomCopy) (inside : r < z.chunks) (bare : HasNoRoom v0) where
  abbrev Takes : List ℕ → List ℕ → Type 0
  Takes = TakesRoom z v0 r w

  -- no other room changed
  taken_only : (a b : List ℕ) → TakesRoom z v0 r w a b → LeavesBut z (this_room r) (this_room r) a b
  taken_only a b t = leaves_more z (this_room r) (or_held r v0) (this_room r) (this_room r) a b (λ k m. m) (λ k. ⊎_elim (λ (e : k ≡ r). e) (λ (h : held_by v0 k). absurd (none_by v0 bare k h))) t.leaves

  -- Then it claimed the free room q, and stored the halves and opened both.
  module _ (q : ℕ) (other : q ≢ r) (free low high : RoomCopy) where
    abbrev T : ℕ → Type 0
    T = these_two r q

    was_halved : (a b c d : List ℕ) → TakesRoom z v0 r w a b → MovesWith z q FREE HELD free b c → OpensBoth z r q low high c d → HalvesRoom z r q w low high a d
    was_halved a b c d t claim o = let first = taken_only a b t in
        let two = leaves_both z T T a b d (leaves_more z (this_room r) (this_room r) T T a b (λ k i. inl i) (λ k i. inl i) first)
        (leaves_both z T T b c d (leaves_more z (this_room q) no_room T T b c (λ k i. inr i) (λ k n. absurd n) claim.moves.leaves) o.leaves) in record {
          leaves = record {
            headers = two.headers;
            states = λ k n. dite (ℕ_discrete k r) (λ i. subst (λ (j : ℕ). state_in z d j ≡ state_in z a j) (sym i) (o.lower_open ∙ sym t.was)) (λ nr. two.states k (⊎_elim nr n));
            words = two.words;
          };
          is_open = record { inside = inside; state = t.was };
          free = sym (first.states q other) ∙ claim.moves.was;
          opened = o.upper_open;
          was = t.words;
          is = o.lower_is;
          is_upper = o.upper_is;
        }

    -- so did its call
    pub halved_runs : (u t e : PassState) (call : ℕ) (x : Step) → StepOfCall z call x v0 e → HasNoRoom e → HadMoment z e → Runs (TakesRoom z v0 r w) v0 u → Runs (MovesWith z q FREE HELD free) u t → Runs (OpensBoth z r q low high) t e → Runs (Divided z (HalvesRoom z r q w low high)) v0 e
    halved_runs u t e call x step none had takes claim opens = let C = MovesWith z q FREE HELD free in let O = OpensBoth z r q low high in
        divided_runs z (HalvesRoom z r q w low high) v0 e (step_apart z call x v0 e step) none had
        (runs_as (Then Takes (Then C O)) (λ a b. Divides z a × HalvesRoom z r q w low high a b) v0 e (λ a b s. (s.1.divided bare, was_halved a s.0 s.2.0 b s.1 s.2.1 s.2.2))
        (runs_then Takes (Then C O) v0 u e takes (runs_then C O u t e claim opens)))

  -- Or it found no other room free: each was open.
  were_open : (a b c d : List ℕ) → TakesRoom z v0 r w a b → NoneFree z r b c → AllOpen z a d
  were_open a b c d t none k lt = dite (ℕ_discrete k r) (λ i. subst (λ (j : ℕ). state_in z a j ≡ OPEN) (sym i) t.was)
      (λ ne. ⊎_elim (λ (f : state_in z a k ≡ FREE). absurd (none.used k lt ne ((taken_only a b t).states k ne ∙ f))) (λ (o : state_in z a k ≡ OPEN). o) ((t.divided bare).states k lt))

  pub open_runs : (u t e : PassState) (P : List ℕ → List ℕ → Type 0) → Runs (TakesRoom z v0 r w) v0 u → Runs (NoneFree z r) u t → Runs P t e → Runs (AllOpen z) v0 e
  open_runs u t e P takes none rest = let N = NoneFree z r in
      runs_as (Then Takes (Then N P)) (AllOpen z) v0 e (λ a b s. were_open a s.0 s.2.0 b s.1 s.2.1) (runs_then Takes (Then N P) v0 u e takes (runs_then N P u t e none rest))
