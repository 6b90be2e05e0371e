-- What keys hold, as a pass has seen it that is alone, and its table behind a call.
use Rattle.std.proofs.Common.{◌≡◌, ◌≢◌, ℕ, suc, Bool, true, false, true≢false, cond, List, [], ◌∷◌, length, None, inl, inr, sym, refl, ap, ◌∙◌, subst, arith}
use Rattle.std.proofs.lemmas.Bool.{cases_Bool}
use Rattle.oak_model.specs.declared.cells.CellCall.{CellCall}
use Rattle.oak_model.specs.declared.replies.Lack.{Lack}
use Rattle.oak_model.specs.Key.{is_key, same_key}
use Rattle.oak_model.specs.KeyNumber.{key_number}
use Rattle.oak_model.specs.Limits.{Sizes}
use Rattle.oak_model.specs.History.{History, state_at}
use Rattle.oak_model.specs.State.{State}
use Rattle.oak_model.proofs.HistoryLaws.{Extends-self, state_at-end}
use Rattle.oak_model.proofs.KeyLaws.{is_key-is, same_itself}
use Rattle.oak_model.proofs.NumberLaws.{key_number_is}
use Rattle.chunk_core.specs.declared.holds.RoomHolds.{RoomHolds}
use Rattle.oak_core.specs.declared.states.KeyedWrite.{KeyedWrite}
use Rattle.oak_core.specs.declared.states.PassState.{PassState}
use Rattle.oak_core.specs.AloneWords.{LeavesWords}
use Rattle.oak_core.specs.KeyHistories.{state_behind, writes_of}
use Rattle.oak_core.specs.KnownPlaces.{ReadAt}
use Rattle.oak_core.specs.Noting.{Notes}
use Rattle.oak_core.specs.PassState.{HoldsNothing, IsAlone, seen_of}
use Rattle.chunk_ops.specs.RoomPins.{HadMoment}
use Rattle.lone_counts.specs.LoneTable.{LoneTable}
use Rattle.lone_counts.specs.Maps.{last_states}
use Rattle.point_ops.specs.LoneReplies.{SeesWhole}
use Rattle.point_ops.specs.Needs.{NeedsNow}
use Rattle.rebalance.specs.LoneWords.{Divides}
use Rattle.rebalance.proofs.LoneChunks.{ended_at, lone_divides}

-- ---- what keys hold

pub state_is : (v : PassState) (key : List ℕ) → is_key key ≡ true → last_states v key ≡ state_behind (seen_of (key_number key) v.knowledge)
state_is v key is = ap (λ (b : Bool). cond b (state_behind (seen_of (key_number key) v.knowledge)) None) is

-- where no history changed
pub states_same : (u w : PassState) → ((q : ℕ) → seen_of q w.knowledge ≡ seen_of q u.knowledge) → (q : List ℕ) → last_states u q ≡ last_states w q
states_same u w seen q = ap (λ (h : List KeyedWrite). cond (is_key q) (state_behind h) None) (sym (seen (key_number q)))

-- where that of one key alone did
pub others_same : (u w : PassState) (key : List ℕ) → is_key key ≡ true → ((q : ℕ) → q ≢ key_number key → seen_of q w.knowledge ≡ seen_of q u.knowledge) → (q : List ℕ) → same_key q key ≡ false → last_states w q ≡ last_states u q
others_same u w key is seen q other = elim (cases_Bool (is_key q)) [
  | inl one ↦ ap (λ (h : List KeyedWrite). cond (is_key q) (state_behind h) None) (seen (key_number q) (λ e. absurd (let a = is_key-is q one in let b = is_key-is key is in
      true≢false (sym (subst (λ (k : List ℕ). same_key q k ≡ true) (key_number_is q key a.1 b.1 a.0 b.0 e) (same_itself q)) ∙ other))))
  | inr none ↦ ap (λ (b : Bool). cond b (state_behind (seen_of (key_number q) w.knowledge)) None) none ∙ sym (ap (λ (b : Bool). cond b (state_behind (seen_of (key_number q) u.knowledge)) None) none)
]

-- ---- a read

writes_long : (h : List KeyedWrite) → length (writes_of h) ≡ length h
writes_long [] = refl
writes_long (x ∷ xs) = ap suc (writes_long xs)

-- a read of a history that did not grow is of its last state
pub read_last : (k at : ℕ) (s : State) (v w : PassState) → seen_of k w.knowledge ≡ seen_of k v.knowledge → ReadAt k at s v w → state_behind (seen_of k w.knowledge) ≡ s
read_last k at s v w same r = let h : History = writes_of (seen_of k w.knowledge) in let n = writes_long (seen_of k w.knowledge) in let e = ap length same in let from = r.from in let to = r.to in
    let last : length h ≡ r.place = omega arith in sym (state_at-end h h (Extends-self h)) ∙ (ap (state_at h) last ∙ r.state)

-- so what the call needs it needs on what the key holds
pub needs_last : (call : ℕ) (key : List ℕ) (ask : CellCall) (lack : Lack) (u v w : PassState) → is_key key ≡ true → seen_of (key_number key) w.knowledge ≡ seen_of (key_number key) v.knowledge → ((q : ℕ) → seen_of q w.knowledge ≡ seen_of q u.knowledge) → (n : NeedsNow call key ask lack v w) → last_states u key ≡ n.before
needs_last call key ask lack u v w is same seen n = states_same u w seen key ∙ (state_is w key is ∙ read_last (key_number key) n.at n.before v w same n.read)

-- ---- the table behind a call

pub table_behind : (z : Sizes) (w : PassState) (c : List ℕ) → HadMoment z w → HoldsNothing w → LeavesWords c w → LoneTable z c w
table_behind z w c had idle l = let e = ended_at z w c had l in record { moment = e.0; alone = e.1; idle = idle }

pub had_moment : (z : Sizes) (w : PassState) → SeesWhole z w → HadMoment z w
had_moment z w s = (s.words, s.moment)

pub table_divides : (z : Sizes) (c : List ℕ) (w : PassState) → LoneTable z c w → Divides z c
table_divides z c w l = lone_divides z c w l.moment l.alone (record { held = ap (λ (a : RoomHolds). a.held) l.idle.rooms; moving = ap (λ (a : RoomHolds). a.moving) l.idle.rooms })

-- a pass that was alone at its last step before a call is noted is alone
pub noted_alone : (z : Sizes) (call : ℕ) (lack : Lack) (w x : PassState) (c : List ℕ) → Notes z call lack w x → LeavesWords c w → IsAlone w
noted_alone z call lack w x c n l = (n.told.rule.alone n.told.seat w n.told.here l.met l.finding l.last l.alone).1
