-- What is in use of a map that its pass settled and then closed.
use Rattle.std.proofs.Common.{◌≡◌, ℕ, cond, Bool, ⊎_elim, List, [], ◌∷◌, length, None, sym, ap, ◌∙◌, subst, arith, inl, inr}
use Rattle.std.proofs.lemmas.Bool.{cases_Bool}
use Rattle.oak_model.specs.History.{last_state}
use Rattle.oak_model.specs.Key.{is_key}
use Rattle.oak_model.specs.KeyNumber.{key_number}
use Rattle.oak_model.specs.Limits.{Sizes}
use Rattle.oak_core.specs.declared.closing.Closed.{Closed}
use Rattle.oak_core.specs.declared.states.PassState.{PassState}
use Rattle.oak_core.specs.AloneWords.{LeavesWords, Moment, Runs, RunsTo}
use Rattle.oak_core.specs.Closing.{closed_key, closed_map, closed_state, closed_words}
use Rattle.oak_core.specs.KeyHistories.{state_behind, writes_of}
use Rattle.oak_core.specs.PassState.{HoldsNothing, IsAlone, seen_of}
use Rattle.oak_core.specs.Splitting.{Ends}
use Rattle.oak_core.proofs.seats.AloneRuns.{closed_words_are}
use Rattle.lone_counts.specs.LoneTable.{AllValued, LoneTable}
use Rattle.lone_counts.specs.Maps.{last_states}
use Rattle.lone_counts.proofs.MapChanges.{map_agrees}
use Rattle.lone_counts.proofs.TableCounts.{used_blocks_are, used_headers_are}
use Rattle.chunk_ops.specs.PinRecords.{WordsStay}
use Rattle.rebalance.specs.Calls.{Settles, SweepsKey}
use Rattle.rebalance.specs.LoneCalls.{IsSettled, SettlesWords}
use Rattle.oak_map.specs.Closings.{UsesJustMap}

-- at the close the rule holds, with the pass alone and the words that it left
lone_at_end : (z : Sizes) (words : List ℕ) (v : PassState) → IsAlone v → HoldsNothing v → Ends z words v → LoneTable z words v
lone_at_end z words v alone idle e = record {
  moment = subst (λ (ws : List ℕ). Moment z ws v) e.words_are (record { states = e.table.states; rule = e.rule; seat = e.seat; here = e.here });
  alone = alone;
  idle = idle;
}

-- what the closed map holds is what its last pass has seen
closed_states : (c : Closed) (q : List ℕ) → closed_map c q ≡ last_states (closed_state c) q
closed_states c q = elim (cases_Bool (is_key q)) [
  | inl e ↦ ap (λ (t : Bool). last_state (cond t (writes_of (seen_of (key_number q) (closed_state c).knowledge)) [])) e ∙ sym (ap (λ (t : Bool). cond t (state_behind (seen_of (key_number q) (closed_state c).knowledge)) None) e)
  | inr e ↦ ap (λ (t : Bool). last_state (cond t (writes_of (seen_of (key_number q) (closed_state c).knowledge)) [])) e ∙ sym (ap (λ (t : Bool). cond t (state_behind (seen_of (key_number q) (closed_state c).knowledge)) None) e)
]

settled_valued : (z : Sizes) (words : List ℕ) → IsSettled z words → AllValued z words
settled_valued z words s = λ r lt e. s.valued r (record { inside = lt; state = e })

module _ (c : Closed) (alone : IsAlone (closed_state c)) (idle : HoldsNothing (closed_state c)) (ends : Ends (closed_key c) (closed_words c) (closed_state c)) (words : List ℕ) (left : LeavesWords words (closed_state c)) (settled : IsSettled (closed_key c) words) where
  abbrev z : Sizes
  z = closed_key c

  table : LoneTable z (closed_words c) (closed_state c)
  table = lone_at_end z (closed_words c) (closed_state c) alone idle ends

  valued : AllValued z (closed_words c)
  valued = settled_valued z (closed_words c) (subst (IsSettled z) (sym (closed_words_are z (closed_words c) words (closed_state c) ends left)) settled)

  pub uses_just : UsesJustMap c
  uses_just = record {
    blocks = λ m k is. used_blocks_are z (closed_words c) (closed_state c) m k table (map_agrees (closed_map c) (last_states (closed_state c)) m is (closed_states c)) valued;
    headers = λ m is. used_headers_are z (closed_words c) (closed_state c) m table (map_agrees (closed_map c) (last_states (closed_state c)) m is (closed_states c));
  }

-- ---- words that a lone pass left settled

-- a settling leaves such words
pub settled_leaves : (z : Sizes) (call : ℕ) (v w : PassState) → IsAlone v → Settles z call v w → (words : List ℕ) × LeavesWords words w × IsSettled z words
settled_leaves z call v w alone s = ⊎_elim
    (λ (n : (v ≡ w) × ((words : List ℕ) → SettlesWords z words words)). absurd (some_step n.0 (s.covered (0 ∷ []) (omega arith, omega arith))))
    (λ (r : (before : List ℕ) × RunsTo (SettlesWords z) before w). (r.1.after, r.1.leaves, r.1.does.settled))
    (s.alone.starts alone)
  where
    some_step : v ≡ w → SweepsKey (0 ∷ []) v w → ⊥
    some_step same k = let e = ap (λ (x : PassState). length x.findings.met) same in let f = k.from in let t = k.to in omega arith

-- and what leaves the words leaves them so
pub still_leaves : (words : List ℕ) (v w : PassState) → LeavesWords words v → Runs WordsStay v w → LeavesWords words w
still_leaves words v w l r = let t = r.goes words l in subst (λ (ws : List ℕ). LeavesWords ws w) t.does t.leaves
