-- What a call of a pass that is alone did to the words, part by part: it went on, its last try was refused, and it did the rest.
use Rattle.std.proofs.Common.{◌≡◌, ℕ, List, [], inl, inr, ⊎_elim, refl, sym, ap, subst, arith, Bool, cond}
use Rattle.std.specs.Prelude.{slice_index}
use Rattle.std.proofs.lemmas.Bool.{cases_Bool}
use Rattle.pin_word.specs.PinWord.{state_of}
use Rattle.oak_model.specs.Limits.{Sizes}
use Rattle.chunk_core.specs.Rooms.{at_room_pin}
use Rattle.oak_core.specs.declared.states.PassState.{PassState}
use Rattle.oak_core.specs.AloneWords.{LeavesWords, Runs, RunsTo}
use Rattle.oak_core.specs.Memory.{Spot, in_rooms, index, is_inside, number_at}
use Rattle.oak_core.specs.PassState.{IsAlone}
use Rattle.chunk_ops.specs.PinRecords.{WordsStay}
use Rattle.point_ops.specs.declared.halts.Halt.{Halt}
use Rattle.point_ops.specs.LonePuts.{LoneHalts}

-- the words that it left stay
pub still_to : (P : List ℕ → List ℕ → Type 0) (a : List ℕ) (v w : PassState) → RunsTo P a v → Runs WordsStay v w → RunsTo P a w
still_to P a v w r s = let t = s.goes r.after r.leaves in record { after = t.after; leaves = t.leaves; does = subst (P a) (sym t.does) r.does }

-- where there are no words, there is no room
number_none : (z : Sizes) (p : Spot) → number_at z [] p ≡ 0
unfolding number_at
number_none z p = elim (cases_Bool (is_inside z p)) [
  | inl e ↦ ap (λ (b : Bool). cond b (slice_index [] (index z p)) 0) e
  | inr e ↦ ap (λ (b : Bool). cond b (slice_index [] (index z p)) 0) e
]

state_none : state_of 0 ≡ 0
unfolding state_of
state_none = refl

-- so a refused try made a step
pub halts_somewhere : (halt : Halt) (z : Sizes) (key value : List ℕ) → LoneHalts halt z key value [] [] → ⊥
halts_somewhere halt z key value h = let a = h.1.1 in let b = ap state_of (number_none z (in_rooms (at_room_pin h.0))) in let c = state_none in absurd (omega arith)

module _ (P Q S : List ℕ → List ℕ → Type 0) (u v w x : PassState) (step : Q [] [] → ⊥) (rest : (a b c : List ℕ) → LeavesWords c w → P a b → Q b c → RunsTo (λ _ d. S a d) c x) where
  whole : (a b : List ℕ) → P a b → RunsTo Q b w → RunsTo S a x
  whole a b p q = let t = rest a b q.after q.leaves p q.does in record { after = t.after; leaves = t.leaves; does = t.does }

  pub runs_through : Runs P u v → Runs Q v w → Runs S u x
  runs_through p q = record {
    goes = λ a l. let r = p.goes a l in whole a r.after r.does (q.goes r.after r.leaves);
    starts = λ alone. inr (⊎_elim
        (λ (n : (u ≡ v) × ((words : List ℕ) → P words words)). ⊎_elim
        (λ (m : (v ≡ w) × ((words : List ℕ) → Q words words)). absurd (step (m.1 [])))
        (λ (m : (b : List ℕ) × RunsTo Q b w). (m.0, whole m.0 m.0 (n.1 m.0) m.1))
        (q.starts (subst IsAlone n.0 alone)))
        (λ (r : (a : List ℕ) × RunsTo P a v). (r.0, whole r.0 r.1.after r.1.does (q.goes r.1.after r.1.leaves)))
        (p.starts alone));
  }
