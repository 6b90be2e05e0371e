-- What a call replies to a pass that is alone is the cell's answer on the last state of the key's history.
use Rattle.std.proofs.Common.{true, false, Bool, ◌≡◌, ℕ, ◌-◌, List, [], ◌∷◌, ◌++◌, length, None, Some, sym, refl, ap, ◌∙◌, subst, arith}
use Rattle.std.specs.Prelude.{MatchBool}
use Rattle.std.proofs.lemmas.List.{length_push}
use Rattle.oak_model.specs.declared.cells.CellCall.{CellCall}
use Rattle.oak_model.specs.declared.cells.CellCall.TheVariants.{Get, Put, PutNew, Compute, Upsert, Remove}
use Rattle.oak_model.specs.declared.cells.CellReply.{CellReply}
use Rattle.oak_model.specs.declared.cells.CellReply.TheVariants as replies
use Rattle.oak_model.specs.declared.replies.Wrote.{Wrote}
use Rattle.oak_model.specs.declared.replies.Wrote.TheVariants.{New, Over, Kept, Done, Removed, Absent, Full}
use Rattle.oak_model.specs.Cell.{is_write, reply_of, state_after}
use Rattle.oak_model.specs.Fits.{ReadFits, WriteFits}
use Rattle.oak_model.specs.History.{History, state_at}
use Rattle.oak_model.specs.KeyNumber.{key_number}
use Rattle.oak_model.specs.Limits.{Sizes}
use Rattle.oak_model.specs.State.{State}
use Rattle.oak_model.proofs.HistoryLaws.{state_at-end}
use Rattle.chunk_core.specs.Spans.{Span}
use Rattle.oak_core.specs.declared.states.KeyedWrite.{KeyedWrite}
use Rattle.oak_core.specs.declared.states.PassState.{PassState}
use Rattle.oak_core.specs.CallSteps.{Learns}
use Rattle.oak_core.specs.KeyHistories.{state_behind, writes_of}
use Rattle.oak_core.specs.PassState.{HoldsNothing, IsAlone, seen_of}
use Rattle.chunk_ops.specs.PinRecords.{UnderPin}
use Rattle.chunk_ops.specs.RoomPins.{HadMoment, PinsOpen, Unpins}
use Rattle.point_ops.specs.Gets.{Gets, GotFits}
use Rattle.point_ops.specs.LoneReplies.{AnswersAlone, GotAlone, SameAlone, SeesWhole, WroteAlone}
use Rattle.point_ops.specs.Parts.{Answers, KeepsUnder, WroteFits}
use Rattle.point_ops.specs.Replies.{MineAfter, RepliesAt}
use Rattle.point_ops.specs.declared.gets.Got.{Got}
use Rattle.point_ops.specs.declared.gets.Got.TheVariants as got
use Rattle.point_ops.proofs.GetLaws.{all_got}
use Rattle.point_ops.proofs.LoneHistories.{alone_later, seen_other, seen_same, seen_wrote, sees_whole}
use Rattle.point_ops.proofs.PinnedCalls.{all_answers, all_refuses}
use Rattle.point_ops.proofs.ReplyLaws.{end_state, writes_length, writes_push}

-- a read leaves the cell as it is
read_leaves : (s : State) (ask : CellCall) → is_write (reply_of s ask) ≡ false → state_after s ask ≡ s
read_leaves None Get e = refl
read_leaves None (Put v) e = absurd cc
read_leaves None (PutNew v) e = absurd cc
read_leaves None (Compute r n) e = refl
read_leaves None (Upsert v r n) e = absurd cc
read_leaves None Remove e = refl
read_leaves (Some b) Get e = refl
read_leaves (Some b) (Put v) e = absurd cc
read_leaves (Some b) (PutNew v) e = refl
read_leaves (Some b) (Compute r n) e = absurd cc
read_leaves (Some b) (Upsert v r n) e = absurd cc
read_leaves (Some b) Remove e = absurd cc

-- the state before the last write of what was seen
pub state_before : (h : List KeyedWrite) (x : KeyedWrite) → state_at (writes_of (h ++ x ∷ [])) (length (h ++ x ∷ []) - 1) ≡ state_behind h
state_before h x = let n = length_push h x in let back : length (h ++ x ∷ []) - 1 ≡ length h = omega arith in
    ap (state_at (writes_of (h ++ x ∷ []))) (back ∙ sym (writes_length h)) ∙ state_at-end (writes_of h) (writes_of (h ++ x ∷ [])) (x.write ∷ [], writes_push h x)

module _ (z : Sizes) (call : ℕ) (key : List ℕ) (ask : CellCall) (at : ℕ) (v w : PassState) (alone : IsAlone v) (begun : HadMoment z v) (ended : HadMoment z w) where
  abbrev k : ℕ
  k = key_number key

  answers : (reply : CellReply) → RepliesAt call key ask reply at v w → AnswersAlone z key ask reply v w
  answers reply r = by (is_write reply) refl r.fits r.mine
    where
      a : SeesWhole z v
      a = sees_whole z v alone begun

      b : SeesWhole z w
      b = sees_whole z w (alone_later v w r.holds.numbers alone) ended

      h : History
      h = writes_of (seen_of k w.knowledge)

      by : (t : Bool) → is_write reply ≡ t → MatchBool t (WriteFits h v.numbers.number call ask reply (length (seen_of k w.knowledge))) (ReadFits h ask reply (length (seen_of k w.knowledge))) → MineAfter t call k at v w → AnswersAlone z key ask reply v w
      by false e fits mine = record { begun = a; ended = b; answer = answer; after = ap state_behind (same k) ∙ sym (read_leaves (state_behind (seen_of k v.knowledge)) ask (ap is_write answer ∙ e)); others = λ q ne. same q }
        where
          same : (q : ℕ) → seen_of q w.knowledge ≡ seen_of q v.knowledge
          same = seen_same z v w alone a r.holds.numbers r.goes.seen b mine

          answer : reply_of (state_behind (seen_of k v.knowledge)) ask ≡ reply
          answer = ap (λ (s : State). reply_of s ask) (sym (end_state (seen_of k w.knowledge) ∙ ap state_behind (same k))) ∙ fits.answer
      by true e fits mine = record {
        begun = a;
        ended = b;
        answer = ap (λ (s : State). reply_of s ask) (sym before) ∙ fits.answer;
        after = sym (end_state (seen_of k w.knowledge)) ∙ (sym fits.after ∙ ap (λ (s : State). state_after s ask) before);
        others = λ q ne. seen_other z v w alone a r.holds.numbers r.goes.seen b k mine.0 mine.1 mine.2.0 mine.2.1 q ne;
      }
        where
          is : seen_of k w.knowledge ≡ seen_of k v.knowledge ++ mine.0 ∷ []
          is = seen_wrote z v w alone a r.holds.numbers r.goes.seen b k mine.0 mine.1 mine.2.0 mine.2.1

          before : state_at h (length (seen_of k w.knowledge) - 1) ≡ state_behind (seen_of k v.knowledge)
          before = subst (λ (l : List KeyedWrite). state_at (writes_of l) (length l - 1) ≡ state_behind (seen_of k v.knowledge)) (sym is) (state_before (seen_of k v.knowledge) mine.0)

-- by the answer

wrote_alone : (y : Wrote) (z : Sizes) (call : ℕ) (key : List ℕ) (ask : CellCall) (v w : PassState) → IsAlone v → HadMoment z v → HadMoment z w → WroteFits y call key ask v w → WroteAlone y z key ask v w
wrote_alone (New at) z call key ask v w alone m n r = answers z call key ask at v w alone m n replies.New r
wrote_alone (Over at) z call key ask v w alone m n r = answers z call key ask at v w alone m n replies.Over r
wrote_alone (Kept at) z call key ask v w alone m n r = answers z call key ask at v w alone m n replies.Kept r
wrote_alone (Done at) z call key ask v w alone m n r = answers z call key ask at v w alone m n replies.Done r
wrote_alone (Removed at) z call key ask v w alone m n r = answers z call key ask at v w alone m n replies.Removed r
wrote_alone (Absent at) z call key ask v w alone m n r = answers z call key ask at v w alone m n replies.Absent r
wrote_alone (Full lack) z call key ask v w alone m n r = absurd r

got_alone : (y : Got) (z : Sizes) (call : ℕ) (key : List ℕ) (v w : PassState) → IsAlone v → HadMoment z v → HadMoment z w → GotFits y z call key v w → GotAlone y z key v w
got_alone (got.Absent at) z call key v w alone m n r = answers z call key Get at v w alone m n replies.Absent r
got_alone (got.View x) z call key v w alone m n r = (r.bytes, answers z call key Get x.at v w alone m n (replies.Holds r.bytes) r.replies)

-- ---- a whole call: a room was pinned from v to u, the work done from u to w, and the room unpinned

module _ (z : Sizes) (call r : ℕ) (P : Span → Type 0) (v u w x : PassState) (idle : HoldsNothing v) (p : PinsOpen z call r P v u) (c2 c3 : ℕ) (e2 : c2 ≡ call) (e3 : c3 ≡ call) (n0 : Unpins z c3 r w x) where
  pub all_wrote_alone : KeepsUnder z r u w → (y : Wrote) (key : List ℕ) (ask : CellCall) → Answers y c2 key ask u w → IsAlone v → WroteAlone y z key ask v x
  all_wrote_alone held y key ask a alone = wrote_alone y z call key ask v x alone p.begun n0.ended (all_answers z call r P v u w x idle p c2 c3 e2 e3 held n0 y key ask a)

  pub all_got_alone : UnderPin z c2 r u w → (y : Got) (key : List ℕ) → Gets y z key u w → IsAlone v → GotAlone y z key v x
  all_got_alone under y key g alone = got_alone y z call key v x alone p.begun n0.ended (all_got z call r P v u w x idle p c2 c3 e2 e3 under n0 y key g)

  pub all_same_alone : KeepsUnder z r u w → Learns c2 u w → SameAlone z v x
  all_same_alone held l alone = let s = all_refuses z call r P v u w x idle p c2 c3 e2 e3 held n0 l in let b = sees_whole z v alone p.begun in let e = sees_whole z x (alone_later v x s.holds.numbers alone) n0.ended in
      record { begun = b; ended = e; same = seen_same z v x alone b s.holds.numbers s.learns.all.seen e s.learns.all.mine }
