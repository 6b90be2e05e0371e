-- What a step on the pin word of a room does, where its pass is alone.
use Rattle.std.proofs.Common.{◌≡◌, ℕ, ◌<◌, List, length, set, get_or, sym, refl, ap, ◌∙◌, subst, arith, inr}
use Rattle.pin_word.specs.PinWord.{state_of}
use Rattle.oak_model.specs.Limits.{Sizes}
use Rattle.chunk_core.specs.declared.holds.RoomCopy.{RoomCopy}
use Rattle.chunk_core.specs.RoomStep.{RoomStep, room_spot, room_effect}
use Rattle.chunk_core.specs.Rooms.{at_room_pin}
use Rattle.oak_core.specs.declared.states.PassState.{PassState}
use Rattle.oak_core.specs.AloneWords.{Moment, Runs}
use Rattle.oak_core.specs.Memory.{in_rooms, index, memory}
use Rattle.oak_core.specs.PassState.{IsAlone}
use Rattle.oak_core.specs.Step.{on_rooms, spot, effect, Step, Told}
use Rattle.oak_core.proofs.seats.AloneRuns.{Keeps, runs_as, step_runs, step_starts, words_stand}
use Rattle.oak_core.proofs.memory.Words.{index_below}
use Rattle.chunk_ops.proofs.PinSteps.{pin_found}
use Rattle.rebalance.specs.LoneWords.{MovesRoom, MovesWith, room_in}
use Rattle.rebalance.proofs.LonePins.{moves_stored}

-- the words before and behind are those of the step, whose pass was alone
pub record StepAt (z : Sizes) (call : ℕ) (x : Step) (v : PassState) (n : ℕ) (w : PassState) (t : Told z call x v n w) (a b : List ℕ) : Type 0 where
  pub was : a ≡ t.table.words
  pub is : b ≡ set a (index z (spot x)) (effect x n)
  pub alone : IsAlone v

-- the rule held at the words before it
pub moment_at : (z : Sizes) (call : ℕ) (x : Step) (v : PassState) (n : ℕ) (w : PassState) (t : Told z call x v n w) (a b : List ℕ) → StepAt z call x v n w t a b → Moment z a v
moment_at z call x v n w t a b s = subst (λ (ws : List ℕ). Moment z ws v) (sym s.was) (record { states = t.table.states; rule = t.rule; seat = t.seat; here = t.here })

pub step_at : (z : Sizes) (call : ℕ) (x : Step) (v : PassState) (n : ℕ) (w : PassState) → Keeps x → (t : Told z call x v n w) → Runs (StepAt z call x v n w t) v w
step_at z call x v n w k t = record {
  goes = λ before l. let r = (step_runs z call x v n w k t).goes before l in record {
    after = r.after;
    leaves = r.leaves;
    does = record {
      was = sym (words_stand z call x v n w before l t);
      is = r.does.1 ∙ ap (λ (m : ℕ). set before (index z (spot x)) (effect x m)) (sym r.does.0);
      alone = (t.rule.alone t.seat v t.here l.met l.finding l.last l.alone).1;
    };
  };
  starts = λ alone. inr (
    t.table.words,
    record {
      after = set t.table.words (index z (spot x)) (effect x (get_or t.table.words (index z (spot x)) 0));
      leaves = step_starts z call x v n w k alone t;
      does = record { was = refl; is = ap (λ (m : ℕ). set t.table.words (index z (spot x)) (effect x m)) t.finds; alone = alone };
    },
  );
}

-- a step on the pin word of a room
module _ (z : Sizes) (call r : ℕ) (x : RoomStep) (is : room_spot x ≡ at_room_pin r) (v : PassState) (n : ℕ) (w : PassState) (t : Told z call (on_rooms x) v n w) (inside : r < z.chunks) where
  -- the state before the step is that of the number found, and the one behind it that of its effect
  pub moves_at : (from to : ℕ) → state_of n ≡ from → state_of (room_effect x n) ≡ to → (a b : List ℕ) → StepAt z call (on_rooms x) v n w t a b → MovesRoom z r from to a b
  moves_at from to was now a b s = moves_stored z r inside a b (room_effect x n) wide (s.is ∙ ap (λ q. set a (index z (in_rooms q)) (room_effect x n)) is) from to
      (ap (λ (ws : List ℕ). state_of ((memory z ws).rooms.pin r)) s.was ∙ (ap state_of (pin_found z call r x is v n w t inside) ∙ was)) now
    where
      wide : index z (in_rooms (at_room_pin r)) < length a
      wide = let l = index_below z (in_rooms (at_room_pin r)) (inside, omega arith) in let c = ap length s.was ∙ t.rule.words.counted in omega arith

  -- and the words of the room are those of the step's table
  pub moves_with : (from to : ℕ) (copy : RoomCopy) → state_of n ≡ from → state_of (room_effect x n) ≡ to → room_in z t.table.words r ≡ copy → (a b : List ℕ) → StepAt z call (on_rooms x) v n w t a b → MovesWith z r from to copy a b
  moves_with from to copy was now words a b s = record { moves = moves_at from to was now a b s; words = ap (λ (ws : List ℕ). room_in z ws r) s.was ∙ words }

  pub room_moves : (from to : ℕ) → state_of n ≡ from → state_of (room_effect x n) ≡ to → Runs (MovesRoom z r from to) v w
  room_moves from to was now = runs_as (StepAt z call (on_rooms x) v n w t) (MovesRoom z r from to) v w (moves_at from to was now) (step_at z call (on_rooms x) v n w tt t)

  pub room_moves_with : (from to : ℕ) (copy : RoomCopy) → state_of n ≡ from → state_of (room_effect x n) ≡ to → room_in z t.table.words r ≡ copy → Runs (MovesWith z r from to copy) v w
  room_moves_with from to copy was now words = runs_as (StepAt z call (on_rooms x) v n w t) (MovesWith z r from to copy) v w (moves_with from to copy was now words) (step_at z call (on_rooms x) v n w tt t)
