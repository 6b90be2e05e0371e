-- What a lone pass had seen the keys hold at a call is what they held behind the writes of the calls before.
use Rattle.std.proofs.Common.{◌≡◌, ℕ, ◌<◌, ◌≤◌, Bool, cond, true, List, ◌++◌, None, sym, refl, ap, ◌∙◌, inl, inr}
use Rattle.std.proofs.lemmas.Bool.{cases_Bool}
use Rattle.oak_model.specs.Counts.{Each}
use Rattle.oak_model.specs.History.{History, last_state}
use Rattle.oak_model.specs.Key.{is_key}
use Rattle.oak_model.specs.KeyNumber.{key_number}
use Rattle.oak_model.specs.Limits.{Sizes}
use Rattle.oak_core.specs.declared.closing.Closed.{Closed}
use Rattle.oak_core.specs.declared.states.KeyedWrite.{KeyedWrite}
use Rattle.oak_core.specs.declared.states.PassState.{PassState}
use Rattle.oak_core.specs.Closing.{closed_history, closed_key, closed_state, closed_words}
use Rattle.oak_core.specs.KeyHistories.{state_behind, writes_of}
use Rattle.oak_core.specs.PassState.{of_key, seen_of}
use Rattle.oak_core.specs.Splitting.{Ends}
use Rattle.oak_core.proofs.seats.Alone.{ends}
use Rattle.oak_core.proofs.calls.ClosedReads.{closed_is, closed_none}
use Rattle.oak_core.proofs.histories.WrittenHistories.{of_key-append}
use Rattle.chunk_ops.specs.RoomPins.{HadMoment}
use Rattle.lone_counts.specs.Maps.{last_states}
use Rattle.oak_run.specs.FullsExactly.{map_before, writes_before}
use Rattle.oak_run.specs.Reads.{IsOnlyThread}
use Rattle.oak_run.proofs.OnlyThreads.{only_still}
use Rattle.oak_run.proofs.OwnWrites.{seen_is_own}
use Rattle.oak_run.proofs.WritesBefore.{each_of_key, first_before}

-- at a moment at which the rule held, it had seen just its own writes
pub seen_own : (z : Sizes) (v : PassState) → IsOnlyThread v → HadMoment z v → (k : ℕ) → seen_of k v.knowledge ≡ of_key k v.knowledge.mine
seen_own z v only had = let m = had.1 in seen_is_own z had.0 v (ends z record { words = had.0; states = m.states } m.rule m.seat v m.here only.alone had.0 refl) only.number only.idle

-- of what the closed pass wrote, the pass had written what is of the calls before the n-th
module _ (c : Closed) (n : ℕ) (v : PassState) (only : IsOnlyThread v) (had : HadMoment (closed_key c) v) (last : Ends (closed_key c) (closed_words c) (closed_state c)) (numbers : (closed_state c).numbers ≡ v.numbers)
    (rest : List KeyedWrite) (mine : (closed_state c).knowledge.mine ≡ v.knowledge.mine ++ rest) (early : Each (λ (x : KeyedWrite). x.write.call < n) v.knowledge.mine) (late : Each (λ (x : KeyedWrite). n ≤ x.write.call) rest) where
  closed_only : IsOnlyThread (closed_state c)
  closed_only = only_still v (closed_state c) numbers only

  closed_seen : (k : ℕ) → seen_of k (closed_state c).knowledge ≡ of_key k v.knowledge.mine ++ of_key k rest
  closed_seen k = seen_is_own (closed_key c) (closed_words c) (closed_state c) last closed_only.number closed_only.idle k ∙ (ap (of_key k) mine ∙ of_key-append k v.knowledge.mine rest)

  key_before : (q : List ℕ) → is_key q ≡ true → writes_before n (closed_history c q) ≡ writes_of (seen_of (key_number q) v.knowledge)
  key_before q e = let k : ℕ = key_number q in
      ap (writes_before n) (closed_is c q e ∙ ap writes_of (closed_seen k))
      ∙ (first_before n (of_key k v.knowledge.mine) (of_key k rest) (each_of_key (λ (x : KeyedWrite). x.write.call < n) k v.knowledge.mine early) (each_of_key (λ (x : KeyedWrite). n ≤ x.write.call) k rest late)
      ∙ ap writes_of (sym (seen_own (closed_key c) v only had k)))

  pub states_before : (q : List ℕ) → last_states v q ≡ map_before c n q
  states_before q = elim (cases_Bool (is_key q)) [
    | inl e ↦ ap (λ (b : Bool). cond b (state_behind (seen_of (key_number q) v.knowledge)) None) e ∙ sym (ap last_state (key_before q e))
    | inr e ↦ ap (λ (b : Bool). cond b (state_behind (seen_of (key_number q) v.knowledge)) None) e ∙ sym (ap (λ (h : History). last_state (writes_before n h)) (closed_none c q e))
  ]
