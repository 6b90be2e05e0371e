-- What a pass that is alone does to the words of the table where it stores the halves of a full room into two and opens both.
use Rattle.std.proofs.Common.{◌≡◌, ◌≢◌, ℕ, inl, inr, List, [], ◌∷◌, refl, sym, ap, ◌∙◌, arith}
use mathlib.Core.Logic.{dite}
use native.Mathlib.Decide.{ℕ_discrete}
use Rattle.oak_model.specs.Counts.{total}
use Rattle.oak_model.specs.Limits.{Sizes}
use Rattle.chunk_core.specs.declared.holds.MovingRange.{MovingRange}
use Rattle.chunk_core.specs.declared.holds.RoomCopy.{RoomCopy}
use Rattle.chunk_core.specs.declared.states.TheConstants.{HELD, OPEN}
use Rattle.chunk_core.proofs.HeldRooms.{room_rows, row_else}
use Rattle.oak_core.specs.declared.states.PassState.{PassState}
use Rattle.oak_core.specs.AloneWords.{Runs}
use Rattle.oak_core.proofs.seats.AloneRuns.{Then, runs_as, runs_then}
use Rattle.rebalance.specs.Chunks.{held_row}
use Rattle.rebalance.specs.Halving.{HoldsPair}
use Rattle.rebalance.specs.LoneWords.{LeavesBut, MovesWith, OpensBoth, held_by, leaves_both, leaves_more, no_room, these_two, this_room}

-- the pass holds no room but the two
pub pair_only : (z : Sizes) (r q : ℕ) (w c : RoomCopy) (g : MovingRange) (v : PassState) → HoldsPair z r q w c g v → (k : ℕ) → held_by v k → these_two r q k
unfolding room_rows total
pair_only z r q w c g v h k l = dite (ℕ_discrete k r) (λ e. inl e) (λ nr. dite (ℕ_discrete k q) (λ e. inr e)
    (λ nq. let e : room_rows k HELD v.rooms.held ≡ room_rows k HELD (held_row q c ∷ held_row r w ∷ []) = ap (room_rows k HELD) h.held in
    let a = row_else q k HELD (held_row q c) (held_row r w ∷ []) refl nq in let b = row_else r k HELD (held_row r w) [] refl nr in absurd (omega arith)))

module _ (z : Sizes) (r q : ℕ) (apart : r ≢ q) (low_copy high_copy : RoomCopy) (S : ℕ → Type 0) (two : (k : ℕ) → S k → these_two r q k) where
  abbrev T : ℕ → Type 0
  T = these_two r q

  -- words of the two change, the upper one is opened and then the lower one
  both_open : (a b d e : List ℕ) → LeavesBut z no_room S a b → MovesWith z q HELD OPEN high_copy b d → MovesWith z r HELD OPEN low_copy d e → OpensBoth z r q low_copy high_copy a e
  both_open a b d e stored one other = record {
    leaves = leaves_both z T T a b e (leaves_more z no_room S T T a b (λ k n. absurd n) two stored)
        (leaves_both z T T b d e (leaves_more z (this_room q) no_room T T b d (λ k i. inr i) (λ k n. absurd n) one.moves.leaves) (leaves_more z (this_room r) no_room T T d e (λ k i. inl i) (λ k n. absurd n) other.moves.leaves));
    lower_open = other.moves.is;
    upper_open = other.moves.leaves.states q (λ i. apart (sym i)) ∙ one.moves.is;
    lower_is = other.moves.leaves.words r (λ n. n) ∙ other.words;
    upper_is = other.moves.leaves.words q (λ n. n) ∙ (one.moves.leaves.words q (λ n. n) ∙ one.words);
  }

  pub halves_run : (v s a u : PassState) → Runs (LeavesBut z no_room S) v s → Runs (MovesWith z q HELD OPEN high_copy) s a → Runs (MovesWith z r HELD OPEN low_copy) a u → Runs (OpensBoth z r q low_copy high_copy) v u
  halves_run v s a u stored one other = let P = LeavesBut z no_room S in let Q = MovesWith z q HELD OPEN high_copy in let R = MovesWith z r HELD OPEN low_copy in
      runs_as (Then P (Then Q R)) (OpensBoth z r q low_copy high_copy) v u (λ x y d. both_open x d.0 d.2.0 y d.1 d.2.1 d.2.2) (runs_then P (Then Q R) v s u stored (runs_then Q R s a u one other))
