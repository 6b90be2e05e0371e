-- What a reply tells a pass that is alone: the map lacked nothing that the call needed.
use Rattle.std.proofs.Common.{◌≡◌, ◌≢◌, ℕ, ◌+◌, ◌≤◌, inr, ⊎_elim, Bool, true, false, List, ◌∷◌, length, Option, Some, None, sym, refl, ap, ◌∙◌, subst, arith}
use Rattle.oak_model.specs.declared.cells.CellCall.{CellCall}
use Rattle.oak_model.specs.declared.cells.CellReply.{CellReply}
use Rattle.oak_model.specs.declared.classes.Class.{Class}
use Rattle.oak_model.specs.declared.replies.Lack.{Lack}
use Rattle.oak_model.specs.declared.replies.Pair.{Pair}
use Rattle.oak_model.specs.declared.replies.Wrote.{Wrote}
use Rattle.oak_model.specs.declared.replies.Wrote.TheVariants.{New, Over, Kept, Done, Removed, Absent, Full}
use Rattle.oak_model.specs.Cell.{reply_of, state_after}
use Rattle.oak_model.specs.Class.{blocks_of, class_number, has_class}
use Rattle.oak_model.specs.Counts.{one_if}
use Rattle.oak_model.specs.Key.{is_key, same_key}
use Rattle.oak_model.specs.KeyNumber.{key_number}
use Rattle.oak_model.specs.Limits.{Sizes}
use Rattle.oak_model.specs.State.{State}
use Rattle.arena_core.specs.Arena.{blocks}
use Rattle.oak_core.specs.declared.states.KeyedWrite.{KeyedWrite}
use Rattle.oak_core.specs.declared.states.PassState.{PassState}
use Rattle.oak_core.specs.KeyHistories.{state_behind}
use Rattle.oak_core.specs.PassState.{IsAlone, seen_of}
use Rattle.lone_counts.specs.Lacks.{new_lack, over_lack}
use Rattle.lone_counts.specs.LoneTable.{LoneTable, retired_in}
use Rattle.lone_counts.specs.Maps.{IsMapOf, last_states}
use Rattle.lone_counts.proofs.MapChanges.{key_blocks, with_key, with_value}
use Rattle.lone_counts.proofs.TableCounts.{blocks_fit, headers_exactly}
use Rattle.point_ops.specs.LoneReplies.{AnswersAlone, SeesWhole, WroteAlone}
use Rattle.point_ops.proofs.LoneHistories.{alone_later}
use Rattle.oak_map.specs.LonePuts.{FullAsLacks, FullBy, HasNoRoomFor, IsReply, PutAlone}
use Rattle.oak_map.specs.LoneRetrying.{LoneGoing}
use Rattle.oak_map.proofs.LackLaws.{has_its_class, none_lacks, over_enough}
use Rattle.oak_map.proofs.LoneStates.{others_same, state_is}
use Rattle.oak_map.proofs.NoRoomLeft.{room_there}

-- ---- the reply, from the call's begin on

-- u is the state of the pass at the call, v the one at its last try, w the one behind it
pub answers_since : (z : Sizes) (key : List ℕ) (ask : CellCall) (reply : CellReply) (u v w : PassState) → SeesWhole z u → ((q : ℕ) → seen_of q v.knowledge ≡ seen_of q u.knowledge) → AnswersAlone z key ask reply v w → AnswersAlone z key ask reply u w
answers_since z key ask reply u v w begun seen a = record {
  begun = begun;
  ended = a.ended;
  answer = subst (λ (h : List KeyedWrite). reply_of (state_behind h) ask ≡ reply) (seen (key_number key)) a.answer;
  after = a.after ∙ ap (λ (h : List KeyedWrite). state_after (state_behind h) ask) (seen (key_number key));
  others = λ q ne. a.others q ne ∙ seen q;
}

module _ (z : Sizes) (key : List ℕ) (ask : CellCall) (settled : Bool) (u v w : PassState) (going : LoneGoing z key ask settled u v) (alone : IsAlone u) where
  since : (reply : CellReply) → AnswersAlone z key ask reply v w → AnswersAlone z key ask reply u w
  since reply a = answers_since z key ask reply u v w (⊎_elim (λ (e : v ≡ u). subst (SeesWhole z) e a.begun) (λ (f : IsAlone u → SeesWhole z u). f alone) going.begun) (going.seen alone) a

  put_alone : (y : Wrote) → WroteAlone y z key ask v w → PutAlone y z key ask u w
  put_alone (New at) a = since _ a
  put_alone (Over at) a = since _ a
  put_alone (Kept at) a = since _ a
  put_alone (Done at) a = since _ a
  put_alone (Removed at) a = since _ a
  put_alone (Absent at) a = since _ a
  put_alone (Full lack) a = absurd a

-- the clause of the reply
pub replied_alone : (y : Wrote) (z : Sizes) (key : List ℕ) (ask : CellCall) (settled : Bool) (u v w : PassState) → LoneGoing z key ask settled u v → v.numbers ≡ u.numbers → (IsAlone v → WroteAlone y z key ask v w) → IsAlone u → PutAlone y z key ask u w
replied_alone y z key ask settled u v w going numbers a alone = put_alone z key ask settled u v w going alone y (a (alone_later u v numbers alone))

-- it is a reply, and the cell's
pub some_answer : (y : Wrote) (z : Sizes) (key : List ℕ) (ask : CellCall) (v w : PassState) → WroteAlone y z key ask v w → IsReply y × ((reply : CellReply) × AnswersAlone z key ask reply v w)
some_answer (New at) z key ask v w a = (tt, (_, a))
some_answer (Over at) z key ask v w a = (tt, (_, a))
some_answer (Kept at) z key ask v w a = (tt, (_, a))
some_answer (Done at) z key ask v w a = (tt, (_, a))
some_answer (Removed at) z key ask v w a = (tt, (_, a))
some_answer (Absent at) z key ask v w a = (tt, (_, a))
some_answer (Full lack) z key ask v w a = absurd a

-- ---- the map at the call's begin

-- w is behind the call, and then the table has the words c
module _ (z : Sizes) (key : List ℕ) (ask : CellCall) (reply : CellReply) (u w : PassState) (c : List ℕ) (is : is_key key ≡ true) (table : LoneTable z c w) (a : AnswersAlone z key ask reply u w) (m : List Pair) (has : IsMapOf (last_states u) m) where
  others : (q : List ℕ) → same_key q key ≡ false → last_states w q ≡ last_states u q
  others = others_same u w key is a.others

  after : last_states w key ≡ state_after (last_states u key) ask
  after = state_is w key is ∙ (a.after ∙ ap (λ (s : State). state_after s ask) (sym (state_is u key is)))

  -- a new key had what it needs
  module _ (value : List ℕ) (absent : last_states u key ≡ None) (now : last_states w key ≡ Some value) where
    abbrev pair : Pair
    pair = record { key = key; value = value; at = 0 }

    map_now : IsMapOf (last_states w) (pair ∷ m)
    map_now = with_key (last_states u) (last_states w) m key value has absent now others

    fits : (k : Class) → blocks_of m k + one_if (has_class k (length key)) + one_if (has_class k (length value)) ≤ blocks z (class_number k)
    fits k = subst (λ (n : ℕ). n ≤ blocks z (class_number k)) (key_blocks m pair k) (blocks_fit z c w (pair ∷ m) k table map_now)

    header_left : length m + retired_in z c ≢ z.headers
    header_left e = let f = (headers_exactly z c w (pair ∷ m) table map_now).fits in absurd (omega arith)

    new_fits : new_lack z m (retired_in z c) key value ≡ None
    new_fits = none_lacks z m (retired_in z c) key value
        (λ k e. let one : one_if (has_class k (length value)) ≡ 1 = ap one_if (has_its_class k (length value) e) in let f = fits k in
        let x : ℕ = blocks_of m k in let y : ℕ = blocks z (class_number k) in let s : ℕ = one_if (has_class k (length key)) in let t : ℕ = one_if (has_class k (length value)) in let t' : t ≡ 1 = one in let f' : x + s + t ≤ y = f in let g : x + 1 ≤ y = omega arith in g)
        header_left
        (λ k e. let one : one_if (has_class k (length key)) ≡ 1 = ap one_if (has_its_class k (length key) e) in let f = fits k in
        let x : ℕ = blocks_of m k in let y : ℕ = blocks z (class_number k) in let s : ℕ = one_if (has_class k (length key)) in let t : ℕ = one_if (has_class k (length value)) in let s' : s ≡ 1 = one in let f' : x + s + t ≤ y = f in let g : x + (1 + t) ≤ y = omega arith in g)

  -- and a value in place of another
  over_fits : (old value : List ℕ) → last_states u key ≡ Some old → last_states w key ≡ Some value → over_lack z m old value ≡ None
  over_fits old value present now = let n = with_value (last_states u) (last_states w) m key old value has present now others in over_enough z m old value
      (λ k e f. let fit = blocks_fit z c w n.0 k table n.1 in let one : one_if (has_class k (length value)) ≡ 1 = ap one_if (has_its_class k (length value) e) in let none : one_if (has_class k (length old)) ≡ 0 = ap one_if f in
      let x : ℕ = blocks_of m k in let p : ℕ = blocks_of n.0 k in let y : ℕ = blocks z (class_number k) in let s : ℕ = one_if (has_class k (length old)) in let t : ℕ = one_if (has_class k (length value)) in
      let s' : s ≡ 0 = none in let t' : t ≡ 1 = one in let q : p + s ≡ x + t = n.3 k in let f' : p ≤ y = fit in let g : x + 1 ≤ y = omega arith in g)

  by_states : (y : Wrote) → IsReply y → (s t : State) → last_states u key ≡ s → last_states w key ≡ t → FullAsLacks z m (retired_in z c) key (HasNoRoomFor z key c) s t y
  by_states y r None None e f = r
  by_states y r None (Some value) e f = subst (λ (l : Option Lack). FullBy l (HasNoRoomFor z key c) y) (sym (new_fits value e f)) (inr (r, room_there z key c w is table value f))
  by_states y r (Some old) None e f = r
  by_states y r (Some old) (Some value) e f = subst (λ (l : Option Lack). FullBy l ⊥ y) (sym (over_fits old value e f)) (inr (r, λ n. n))

  -- it is not `Full`, and should not be
  pub reply_as_lacks : (y : Wrote) → IsReply y → FullAsLacks z m (retired_in z c) key (HasNoRoomFor z key c) (last_states u key) (state_after (last_states u key) ask) y
  reply_as_lacks y r = by_states y r (last_states u key) (state_after (last_states u key) ask) refl after
