-- What a pass that is alone does to the words of two rooms that it takes, and opens again or joins.
use Rattle.std.proofs.Common.{◌≡◌, ◌≢◌, ℕ, ◌<◌, inl, inr, ⊎_elim, List, [], ◌∷◌, sym, refl, ap, ◌∙◌, subst, arith}
use mathlib.Core.Logic.{dite}
use native.Mathlib.Decide.{ℕ_discrete}
use Rattle.oak_model.specs.Counts.{total}
use Rattle.oak_model.specs.Limits.{Sizes}
use Rattle.chunk_core.specs.declared.holds.HeldRoom.{HeldRoom}
use Rattle.chunk_core.specs.declared.holds.RoomCopy.{RoomCopy}
use Rattle.chunk_core.specs.declared.states.TheConstants.{FREE, OPEN, HELD}
use Rattle.chunk_core.proofs.HeldRooms.{room_rows, row_else}
use Rattle.oak_core.specs.declared.states.PassState.{PassState}
use Rattle.oak_core.specs.AloneWords.{Runs}
use Rattle.oak_core.proofs.seats.AloneRuns.{Then, runs_as, runs_then}
use Rattle.chunk_ops.specs.LoneRooms.{HasNoRoom}
use Rattle.rebalance.specs.Chunks.{held_row}
use Rattle.rebalance.specs.LoneCalls.{JoinsRooms, RewritesBoth}
use Rattle.rebalance.specs.LoneWords.{Divides, FreesUpper, IsOpen, LeavesBut, MovesRoom, MovesWith, TakesRoom, held_by, leaves_both, leaves_more, no_room, or_held, room_in, state_in, these_two, this_room}
use Rattle.rebalance.proofs.LoneTakes.{none_by}

-- ---- the rooms that a pass holds

rows_none : (q : ℕ) → room_rows q HELD [] ≡ 0
unfolding room_rows total
rows_none q = refl

holds_so : (q : ℕ) (v : PassState) (hs : List HeldRoom) → v.rooms.held ≡ hs → held_by v q → 0 < room_rows q HELD hs
unfolding room_rows
holds_so q v hs e h = subst (λ (l : List HeldRoom). 0 < room_rows q HELD l) e h

-- it holds this one alone
holds_one : (r : ℕ) (w : RoomCopy) (q : ℕ) (v : PassState) → v.rooms.held ≡ held_row r w ∷ [] → held_by v q → q ≡ r
holds_one r w q v e h = dite (ℕ_discrete q r) (λ same. same)
    (λ ne. let l = holds_so q v (held_row r w ∷ []) e h in let a = row_else r q HELD (held_row r w) [] refl ne in let n = rows_none q in absurd (omega arith))

-- these two
holds_two : (r s : ℕ) (w x : RoomCopy) (q : ℕ) (v : PassState) → v.rooms.held ≡ held_row s x ∷ held_row r w ∷ [] → held_by v q → these_two r s q
holds_two r s w x q v e h = dite (ℕ_discrete q s) (λ same. inr same)
    (λ no. dite (ℕ_discrete q r) (λ same. inl same)
    (λ ne. let l = holds_so q v (held_row s x ∷ held_row r w ∷ []) e h in let a = row_else s q HELD (held_row s x) (held_row r w ∷ []) refl no in let b = row_else r q HELD (held_row r w) [] refl ne in let n = rows_none q in absurd (omega arith)))

-- works on two held rooms, of which the upper one is retired
pub frees_upper : (z : Sizes) (r s : ℕ) (w x : RoomCopy) (v n u : PassState) → v.rooms.held ≡ held_row s x ∷ held_row r w ∷ [] → Runs (LeavesBut z no_room (held_by v)) v n → Runs (MovesRoom z s HELD FREE) n u → Runs (FreesUpper z r s) v u
frees_upper z r s w x v n u held works moves = runs_as (Then (LeavesBut z no_room (held_by v)) (MovesRoom z s HELD FREE)) (FreesUpper z r s) v u
    (λ a c t. record {
      leaves = leaves_both z (this_room s) (these_two r s) a t.0 c
          (leaves_more z no_room (held_by v) (this_room s) (these_two r s) a t.0 (λ q n. absurd n) (λ q h. holds_two r s w x q v held h) t.1)
          (leaves_more z (this_room s) no_room (this_room s) (these_two r s) t.0 c (λ q m. m) (λ q n. absurd n) t.2.leaves);
      freed = t.2.is;
    })
    (runs_then (LeavesBut z no_room (held_by v)) (MovesRoom z s HELD FREE) v n u works moves)

-- ---- two rooms that were taken by a pass that had none

module _ (z : Sizes) (r s : ℕ) (inside : r < z.chunks) (inside_upper : s < z.chunks) (apart : s ≢ r) (held next w : RoomCopy) (v q b : PassState) (bare : HasNoRoom v) (takes : Runs (TakesRoom z v r held) v q) (still : q.rooms.held ≡ held_row r w ∷ []) (takes_upper : Runs (TakesRoom z q s next) q b) where
  -- the rooms divided the keys, the two were open with these words, and only theirs change
  record TookBoth (before after : List ℕ) : Type 0 where
    leaves : LeavesBut z (these_two r s) (these_two r s) before after
    is_open : IsOpen z before r
    upper_is_open : IsOpen z before s
    was : room_in z before r ≡ held
    was_upper : room_in z before s ≡ next
    divided : Divides z before

  took_both : Runs TookBoth v b
  took_both = runs_as (Then (TakesRoom z v r held) (TakesRoom z q s next)) TookBoth v b
      (λ d c t. let f = t.1 in let g = t.2 in let low = leaves_more z (this_room r) (or_held r v) (this_room r) (this_room r) d t.0 (λ p m. m) (λ p. ⊎_elim (λ e. e) (λ h. absurd (none_by v bare p h))) f.leaves in record {
        leaves = leaves_both z (these_two r s) (these_two r s) d t.0 c
            (leaves_more z (this_room r) (this_room r) (these_two r s) (these_two r s) d t.0 (λ p e. inl e) (λ p e. inl e) low)
            (leaves_more z (this_room s) (or_held s q) (these_two r s) (these_two r s) t.0 c (λ p e. inr e) (λ p. ⊎_elim (λ e. inr e) (λ h. inl (holds_one r w p q still h))) g.leaves);
        is_open = record { inside = inside; state = f.was };
        upper_is_open = record { inside = inside_upper; state = sym (low.states s apart) ∙ g.was };
        was = f.words;
        was_upper = sym (low.words s apart) ∙ g.words;
        divided = f.divided bare;
      })
      (runs_then (TakesRoom z v r held) (TakesRoom z q s next) v q b takes takes_upper)

  -- both were opened again
  pub rewrites_both : (reopened opened : RoomCopy) (d u : PassState) → Runs (MovesWith z s HELD OPEN reopened) b d → Runs (MovesWith z r HELD OPEN opened) d u → Runs (λ b c. Divides z b × RewritesBoth z r s held opened next reopened b c) v u
  rewrites_both reopened opened d u first last = let Opens = Then (MovesWith z s HELD OPEN reopened) (MovesWith z r HELD OPEN opened) in runs_as (Then TookBoth Opens) (λ b c. Divides z b × RewritesBoth z r s held opened next reopened b c) v u
      (λ e c t. let f = t.1 in let g = t.2.1 in let h = t.2.2 in (
        f.divided,
        record {
          leaves = record {
            headers = h.moves.leaves.headers ∙ (g.moves.leaves.headers ∙ f.leaves.headers);
            states = λ p _. dite (ℕ_discrete p r) (λ same. ap (state_in z c) same ∙ (h.moves.is ∙ (sym f.is_open.state ∙ ap (state_in z e) (sym same))))
                (λ ne. h.moves.leaves.states p ne ∙ dite (ℕ_discrete p s) (λ same. ap (state_in z t.2.0) same ∙ (g.moves.is ∙ (sym f.upper_is_open.state ∙ ap (state_in z e) (sym same)))) (λ no. g.moves.leaves.states p no ∙ f.leaves.states p (⊎_elim ne no)));
            words = λ p ne. h.moves.leaves.words p (λ n. n) ∙ (g.moves.leaves.words p (λ n. n) ∙ f.leaves.words p ne);
          };
          is_open = f.is_open;
          upper_is_open = f.upper_is_open;
          was = f.was;
          is = h.moves.leaves.words r (λ n. n) ∙ h.words;
          was_upper = f.was_upper;
          is_upper = h.moves.leaves.words s (λ n. n) ∙ (g.moves.leaves.words s (λ n. n) ∙ g.words);
        },
      ))
      (runs_then TookBoth Opens v b u took_both (runs_then (MovesWith z s HELD OPEN reopened) (MovesWith z r HELD OPEN opened) b d u first last))

  -- or the upper one was retired, and the lower one opened
  pub joins_rooms : (opened : RoomCopy) (d u : PassState) → Runs (FreesUpper z r s) b d → Runs (MovesWith z r HELD OPEN opened) d u → Runs (λ b c. Divides z b × JoinsRooms z r s held next opened b c) v u
  joins_rooms opened d u first last = let Ends = Then (FreesUpper z r s) (MovesWith z r HELD OPEN opened) in runs_as (Then TookBoth Ends) (λ b c. Divides z b × JoinsRooms z r s held next opened b c) v u
      (λ e c t. let f = t.1 in let g = t.2.1 in let h = t.2.2 in (
        f.divided,
        record {
          leaves = record {
            headers = h.moves.leaves.headers ∙ (g.leaves.headers ∙ f.leaves.headers);
            states = λ p no. dite (ℕ_discrete p r) (λ same. ap (state_in z c) same ∙ (h.moves.is ∙ (sym f.is_open.state ∙ ap (state_in z e) (sym same)))) (λ ne. h.moves.leaves.states p ne ∙ (g.leaves.states p no ∙ f.leaves.states p (⊎_elim ne no)));
            words = λ p ne. h.moves.leaves.words p (λ n. n) ∙ (g.leaves.words p ne ∙ f.leaves.words p ne);
          };
          is_open = f.is_open;
          upper_is_open = f.upper_is_open;
          was = f.was;
          was_upper = f.was_upper;
          is = h.moves.leaves.words r (λ n. n) ∙ h.words;
          freed = h.moves.leaves.states s apart ∙ g.freed;
        },
      ))
      (runs_then TookBoth Ends v b u took_both (runs_then (FreesUpper z r s) (MovesWith z r HELD OPEN opened) b d u first last))
