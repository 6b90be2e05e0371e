-- What a call that puts leaves of the words, where it replies to a pass that is alone: its map lacked nothing.
use Rattle.std.proofs.Common.{◌≡◌, ℕ, ◌==◌, inr, ⊎_elim, Bool, true, false, List, [], ◌∷◌, length, length-append, sym, ap, ◌∙◌, subst, arith, Ok}
use Rattle.std.proofs.lemmas.Bool.{and_parts, eqb-true}
use Rattle.pin_word.specs.PinWord.{count_of, state_of}
use Rattle.oak_model.specs.declared.cells.CellCall.{CellCall}
use Rattle.oak_model.specs.declared.cells.CellReply.{CellReply}
use Rattle.oak_model.specs.declared.replies.Wrote.{Wrote}
use Rattle.oak_model.specs.declared.replies.Wrote.TheVariants.{New, Over, Kept, Done, Removed, Absent, Full}
use Rattle.oak_model.specs.Cell.{is_write, state_after}
use Rattle.oak_model.specs.Counts.{Has, one_at}
use Rattle.oak_model.specs.Key.{is_key}
use Rattle.oak_model.specs.KeyNumber.{key_number}
use Rattle.oak_model.specs.Limits.{Sizes}
use Rattle.oak_model.proofs.Counting.{below_same, one_at-other}
use Rattle.header_core.specs.declared.states.TheConstants.{FREE, LIVE, RETIRED}
use Rattle.oak_core.specs.declared.states.PassState.{PassState}
use Rattle.oak_core.specs.AloneWords.{LeavesWords, Runs, RunsTo}
use Rattle.oak_core.specs.Memory.{memory}
use Rattle.oak_core.specs.PassState.{HoldsNothing, IsAlone}
use Rattle.oak_core.specs.Sights.{SightedSince}
use Rattle.oak_core.specs.Usage.{is_free}
use Rattle.chunk_ops.specs.RoomPins.{HadMoment}
use Rattle.lone_counts.specs.LoneTable.{LoneTable, retired_in}
use Rattle.lone_counts.specs.Maps.{last_states}
use Rattle.point_ops.specs.LoneInserts.{IsFreeIn}
use Rattle.point_ops.specs.LonePuts.{KeepsRooms, PutsIn}
use Rattle.point_ops.specs.LoneReplies.{AnswersAlone, SeesWhole, WroteAlone}
use Rattle.point_ops.specs.Parts.{WroteFits}
use Rattle.point_ops.specs.Replies.{FoundForReply, RepliesAt}
use Rattle.point_ops.proofs.LoneHistories.{alone_later}
use Rattle.oak_map.specs.LonePuts.{FullAsLacks, HasNoRoomFor, IsReply, PutsAlone}
use Rattle.oak_map.specs.LoneRetrying.{LoneGoing, Retries}
use Rattle.oak_map.specs.Putting.{Going}
use Rattle.oak_map.proofs.LoneStates.{table_behind}
use Rattle.oak_map.proofs.ReplyAnswers.{answers_since, reply_as_lacks, some_answer}
use Rattle.oak_map.proofs.Trying.{holds_on, idle_on}

-- ---- headers that are retired

free_is : (n : ℕ) → is_free n ≡ true → state_of n ≡ FREE
free_is n e = eqb-true (state_of n) FREE (and_parts (state_of n == FREE) (count_of n == 0) e).0

-- are those that were, where each pin word is as before but for those that were free and are live
pub keeps_retired : (z : Sizes) (b c : List ℕ) → KeepsRooms z b c → retired_in z c ≡ retired_in z b
keeps_retired z b c k = below_same (λ h. one_at (state_of ((memory z c).headers.pin h)) RETIRED) (λ h. one_at (state_of ((memory z b).headers.pin h)) RETIRED) z.headers (λ h _. ⊎_elim
    (λ (e : (memory z c).headers.pin h ≡ (memory z b).headers.pin h). ap (λ (n : ℕ). one_at (state_of n) RETIRED) e)
    (λ (p : IsFreeIn z h b × (state_of ((memory z c).headers.pin h) ≡ LIVE)). one_at-other (state_of ((memory z c).headers.pin h)) RETIRED (λ e. let l = p.1 in absurd (omega arith))
    ∙ sym (one_at-other (state_of ((memory z b).headers.pin h)) RETIRED (λ e. let f = free_is ((memory z b).headers.pin h) p.0 in absurd (omega arith))))
    (k.pins h))

-- ---- a reply is made by a step

has_none : {A : Type 0} (x : A) (xs : List A) → Has x xs → length xs ≡ 0 → ⊥
has_none x [] h e = h
has_none x (y ∷ ys) h e = omega arith

sighted_apart : (k at : ℕ) (v w : PassState) → SightedSince k at v.findings w.findings → v ≡ w → ⊥
sighted_apart k at v w s e = let a = ap length s.1 in let b = length-append v.findings.sights s.0 in let c = ap (λ (x : PassState). length x.findings.sights) e in
    has_none s.2.sight s.0 s.2.there (let x : ℕ = length s.0 in let g : x ≡ 0 = omega arith in g)

found_apart : (b : Bool) (k at : ℕ) (v w : PassState) → FoundForReply b k at v w → v ≡ w → ⊥
found_apart false k at v w f = sighted_apart k at v w f
found_apart true k at v w f = sighted_apart k f.0 v w f.2

-- whatever the reply is
pub some_reply : (y : Wrote) (call : ℕ) (key : List ℕ) (ask : CellCall) (v w : PassState) → WroteFits y call key ask v w → (reply : CellReply) × ((at : ℕ) × RepliesAt call key ask reply at v w)
some_reply (New at) call key ask v w f = (_, (at, f))
some_reply (Over at) call key ask v w f = (_, (at, f))
some_reply (Kept at) call key ask v w f = (_, (at, f))
some_reply (Done at) call key ask v w f = (_, (at, f))
some_reply (Removed at) call key ask v w f = (_, (at, f))
some_reply (Absent at) call key ask v w f = (_, (at, f))
some_reply (Full lack) call key ask v w f = absurd f

-- ---- what was done before the last try, and then by it, which made a step

module _ (P Q S : List ℕ → List ℕ → Type 0) (u v w : PassState) (apart : v ≡ w → ⊥) (both : (a b c : List ℕ) → LeavesWords c w → P a b → Q b c → S a c) where
  whole : (a b : List ℕ) → P a b → RunsTo Q b w → RunsTo S a w
  whole a b p q = record { after = q.after; leaves = q.leaves; does = both a b q.after q.leaves p q.does }

  pub runs_apart : Runs P u v → Runs Q v w → Runs S u w
  runs_apart p q = record {
    goes = λ a l. let r = p.goes a l in whole a r.after r.does (q.goes r.after r.leaves);
    starts = λ alone. inr (⊎_elim
        (λ (n : (u ≡ v) × ((words : List ℕ) → P words words)). ⊎_elim
        (λ (m : (v ≡ w) × ((words : List ℕ) → Q words words)). absurd (apart m.0))
        (λ (m : (b : List ℕ) × RunsTo Q b w). (m.0, whole m.0 m.0 (n.1 m.0) m.1))
        (q.starts (subst IsAlone n.0 alone)))
        (λ (r : (a : List ℕ) × RunsTo P a v). (r.0, whole r.0 r.1.after r.1.does (q.goes r.1.after r.1.leaves)))
        (p.starts alone));
  }

-- The call began at u and went on until v, and its last try, from v to w, had a reply. There was a moment at w.
module _ (z : Sizes) (call first : ℕ) (key value : List ℕ) (ask : CellCall) (settled : Bool) (u v w : PassState) (y : Wrote) (is : is_key key ≡ true) (idle : HoldsNothing u) (tried : Going z first settled u v)
    (going : LoneGoing z key ask settled u v) (fits : WroteFits y call key ask v w) (answer : IsAlone v → WroteAlone y z key ask v w) (had : HadMoment z w) where
  replies : RepliesAt call key ask (some_reply y call key ask v w fits).0 (some_reply y call key ask v w fits).1.0 v w
  replies = (some_reply y call key ask v w fits).1.1

  apart : v ≡ w → ⊥
  apart = found_apart (is_write (some_reply y call key ask v w fits).0) (key_number key) (some_reply y call key ask v w fits).1.0 v w replies.found

  idle_now : HoldsNothing w
  idle_now = idle_on v w (holds_on v w replies.holds) (idle_on u v tried.tries.holds idle)

  replied_behind : (a b c : List ℕ) → LeavesWords c w → Retries z key ask settled u a b → KeepsRooms z b c → PutsAlone z key ask u y a c
  replied_behind a b c l r k = record {
    full = λ m has. subst (λ (n : ℕ). FullAsLacks z m n key (HasNoRoomFor z key c) (last_states u key) (state_after (last_states u key) ask) y) retired
        (reply_as_lacks z key ask some.1.0 u w c is table since m has y some.0);
    settled = λ other. absurd (other some.0);
    retired = retired;
  }
    where
      retired : retired_in z c ≡ retired_in z a
      retired = keeps_retired z b c k ∙ r.retired

      table : LoneTable z c w
      table = table_behind z w c had idle_now l

      was_alone : IsAlone u
      was_alone = alone_later w u (sym (replies.holds.numbers ∙ tried.tries.holds.numbers)) table.alone

      some : IsReply y × ((reply : CellReply) × AnswersAlone z key ask reply v w)
      some = some_answer y z key ask v w (answer (alone_later u v tried.tries.holds.numbers was_alone))

      since : AnswersAlone z key ask some.1.0 u w
      since = answers_since z key ask some.1.0 u v w (⊎_elim (λ (e : v ≡ u). subst (SeesWhole z) e some.1.1.begun) (λ (f : IsAlone u → SeesWhole z u). f was_alone) going.begun) (going.seen was_alone) some.1.1

  -- the clause of the words
  pub replied_words : Runs (PutsIn (Ok y) z key value) v w → Runs (PutsAlone z key ask u y) u w
  replied_words done = runs_apart (Retries z key ask settled u) (KeepsRooms z) (PutsAlone z key ask u y) u v w apart replied_behind going.runs done
