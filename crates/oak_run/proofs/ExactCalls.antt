-- A call of a lone thread that puts was `Full` exactly by what its map lacked, and the words that it left are those of a step of its own, and settled where it was `Full`.
use Rattle.std.proofs.Common.{◌≡◌, ℕ, ◌<◌, ◌⊎◌, true, true≢false, List, Some, None, inl, inr, ⊎_elim, sym, refl, ap, ◌∙◌, subst}
use Rattle.oak_model.specs.declared.cells.CellCall.{CellCall}
use Rattle.oak_model.specs.declared.cells.CellCall.TheVariants.{Get, Put, PutNew, Compute, Upsert, Remove}
use Rattle.oak_model.specs.declared.cells.CellReply.{CellReply}
use Rattle.oak_model.specs.declared.cells.CellReply.TheVariants as replies
use Rattle.oak_model.specs.declared.replies.Pair.{Pair}
use Rattle.oak_model.specs.declared.replies.Wrote.{Wrote}
use Rattle.oak_model.specs.declared.replies.Wrote.TheVariants.{New, Over, Kept, Done, Removed, Absent, Full}
use Rattle.oak_model.specs.Cell.{is_write, reply_of, state_after}
use Rattle.oak_model.specs.Counts.{Each}
use Rattle.oak_model.specs.KeyNumber.{key_number}
use Rattle.oak_model.specs.Limits.{Sizes}
use Rattle.oak_model.specs.State.{State}
use Rattle.oak_core.specs.declared.closing.Closed.{Closed}
use Rattle.oak_core.specs.declared.states.PassState.{PassState}
use Rattle.oak_core.specs.AloneWords.{LeavesWords, RunsTo}
use Rattle.oak_core.specs.CallSteps.{MetMore}
use Rattle.oak_core.specs.Closing.{closed_key, closed_state, closed_words}
use Rattle.oak_core.specs.KeyHistories.{state_behind}
use Rattle.oak_core.specs.PassState.{IsAlone, seen_of}
use Rattle.oak_core.specs.Splitting.{Ends}
use Rattle.chunk_ops.specs.RoomPins.{HadMoment}
use Rattle.lone_counts.specs.LoneTable.{retired_in}
use Rattle.lone_counts.specs.Maps.{IsMapOf, last_states}
use Rattle.lone_counts.proofs.MapChanges.{map_agrees}
use Rattle.point_ops.specs.LoneReplies.{AnswersAlone}
use Rattle.oak_map.specs.LonePuts.{FullAsLacks, HasNoRoomFor, PutAlone, PutsAlone}
use Rattle.oak_map.specs.Replying.{MapReplies, PutFits}
use Rattle.oak_run.specs.FullsExactly.{DidMore, FullExactly, map_before}
use Rattle.oak_run.specs.LoneCalls.{CallGoes, PutsSo}
use Rattle.oak_run.specs.Reads.{IsOnlyThread}
use Rattle.oak_run.specs.Told.{Ask}
use Rattle.oak_run.proofs.CallWords.{left_words, noted_step, own_step, went_on}
use Rattle.oak_run.proofs.LoneChains.{GoesFrom, MetLater}
use Rattle.oak_run.proofs.MapsBefore.{states_before}
use Rattle.oak_run.proofs.SameStamps.{none_wrote}
use Rattle.oak_run.proofs.SameTables.{none_came}

-- ---- the words are those of a step of the call

-- a call that writes finds something there, or nothing and puts something there
wrote_on : (s : State) (ask : CellCall) (reply : CellReply) → reply_of s ask ≡ reply → is_write reply ≡ true → ((s ≡ None) × (value : List ℕ) × (state_after s ask ≡ Some value)) ⊎ ((old : List ℕ) × (s ≡ Some old))
wrote_on None Get reply e w = absurd (true≢false (sym w ∙ sym (ap is_write e)))
wrote_on None (Put v) reply e w = inl (refl, v, refl)
wrote_on None (PutNew v) reply e w = inl (refl, v, refl)
wrote_on None (Compute r n) reply e w = absurd (true≢false (sym w ∙ sym (ap is_write e)))
wrote_on None (Upsert v r n) reply e w = inl (refl, v, refl)
wrote_on None Remove reply e w = absurd (true≢false (sym w ∙ sym (ap is_write e)))
wrote_on (Some b) ask reply e w = inr (b, refl)

module _ (z : Sizes) (n : ℕ) (key : List ℕ) (ask : CellCall) (v u : PassState) (words : List ℕ) (left : LeavesWords words u) where
  -- a call that made no step wrote nothing
  no_write : (reply : CellReply) (at : ℕ) → is_write reply ≡ true → MapReplies n key ask reply at v u → AnswersAlone z key ask reply v u → u.findings.met ≡ v.findings.met → ⊥
  no_write reply at write fits answers met = let s : State = state_behind (seen_of (key_number key) v.knowledge) in ⊎_elim
      (λ (c : (s ≡ None) × (value : List ℕ) × (state_after s ask ≡ Some value)). none_came z (key_number key) v u words c.1 fits.holds.rooms fits.goes.seen met left answers.begun answers.ended c.0 (answers.after ∙ c.2))
      (λ (c : (old : List ℕ) × (s ≡ Some old)). none_wrote z (key_number key) v u words c.0 fits.holds.rooms fits.holds.headers fits.goes.seen met left answers.begun answers.ended c.1 (fits.later write))
      (wrote_on s ask reply answers.answer write)

  no_step : (y : Wrote) → PutFits y z n key ask v u → PutAlone y z key ask v u → DidMore y → u.findings.met ≡ v.findings.met → left.finding.call ≡ n
  no_step (New at) fits answers more met = absurd (no_write replies.New at refl fits answers met)
  no_step (Over at) fits answers more met = absurd (no_write replies.Over at refl fits answers met)
  no_step (Kept at) fits answers more met = absurd more
  no_step (Done at) fits answers more met = absurd (no_write replies.Done at refl fits answers met)
  no_step (Removed at) fits answers more met = absurd (no_write replies.Removed at refl fits answers met)
  no_step (Absent at) fits answers more met = absurd more
  no_step (Full lack) fits same more met = noted_step z n key ask lack v u words fits left

  pub own_words : (y : Wrote) → MetMore n v u → PutFits y z n key ask v u → PutAlone y z key ask v u → DidMore y → left.finding.call ≡ n
  own_words y met fits answers more = ⊎_elim (λ (e : u.findings.met ≡ v.findings.met). no_step y fits answers more e) (λ (e : left.finding.call ≡ n). e) (own_step n v u words met left)

-- ---- it ran from some words to others

had_begun : (y : Wrote) (z : Sizes) (key : List ℕ) (ask : CellCall) (v u : PassState) → PutAlone y z key ask v u → HadMoment z v
had_begun (New at) z key ask v u a = (a.begun.words, a.begun.moment)
had_begun (Over at) z key ask v u a = (a.begun.words, a.begun.moment)
had_begun (Kept at) z key ask v u a = (a.begun.words, a.begun.moment)
had_begun (Done at) z key ask v u a = (a.begun.words, a.begun.moment)
had_begun (Removed at) z key ask v u a = (a.begun.words, a.begun.moment)
had_begun (Absent at) z key ask v u a = (a.begun.words, a.begun.moment)
had_begun (Full lack) z key ask v u a = (a.begun.words, a.begun.moment)

ran : (z : Sizes) (n : ℕ) (a : Ask) (y : Wrote) (v u : PassState) → IsAlone v → PutsSo z n a y v u → (before : List ℕ) × RunsTo (PutsAlone z a.key a.cell v y) before u
ran z n a y v u alone so = ⊎_elim (λ (none : (v ≡ u) × ((words : List ℕ) → PutsAlone z a.key a.cell v y words words)). absurd (went_on y z n a.key a.cell v u so.fits none.0)) (λ (r : (before : List ℕ) × RunsTo (PutsAlone z a.key a.cell v y) before u). r) (so.runs.starts alone)

-- ---- the call

module _ (c : Closed) (n : ℕ) (a : Ask) (y : Wrote) (v u : PassState) (only : IsOnlyThread v) (ends : Ends (closed_key c) (closed_words c) (closed_state c)) (goes : GoesFrom n v (closed_state c)) (early : Each (λ x. x.write.call < n) v.knowledge.mine)
    (one : CallGoes n v u) (later : MetLater n u (closed_state c)) (so : PutsSo (closed_key c) n a y v u) where
  abbrev z : Sizes
  z = closed_key c

  abbrev run : (before : List ℕ) × RunsTo (PutsAlone z a.key a.cell v y) before u
  run = ran z n a y v u only.alone so

  abbrev after : List ℕ
  after = run.1.after

  same : (q : List ℕ) → last_states v q ≡ map_before c n q
  same = states_before c n v only (had_begun y z a.key a.cell v u (so.alone only.alone)) ends goes.numbers goes.wrote goes.mine early goes.late

  lacks : (m : List Pair) → IsMapOf (map_before c n) m → FullAsLacks z m (retired_in z after) a.key (HasNoRoomFor z a.key after) (map_before c n a.key) (state_after (map_before c n a.key) a.cell) y
  lacks m is = subst (λ (s : State). FullAsLacks z m (retired_in z after) a.key (HasNoRoomFor z a.key after) s (state_after s a.cell) y) (same a.key)
      (subst (λ (r : ℕ). FullAsLacks z m r a.key (HasNoRoomFor z a.key after) (last_states v a.key) (state_after (last_states v a.key) a.cell) y) (sym run.1.does.retired)
      (run.1.does.full m (map_agrees (map_before c n) (last_states v) m is (λ q. sym (same q)))))

  pub exact_call : FullExactly c n a y
  exact_call = record {
    words = after;
    left = left_words c u after (later.more, later.met) run.1.leaves;
    of_call = own_words z n a.key a.cell v u after run.1.leaves y one.met so.fits (so.alone only.alone);
    behind = later.late;
    full = lacks;
    settled = run.1.does.settled;
  }
