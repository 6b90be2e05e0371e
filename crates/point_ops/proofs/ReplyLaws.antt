-- How a call replies that read its key, or wrote it, and how one is given up.
use Rattle.std.proofs.Common.{◌≡◌, ℕ, suc, ◌+◌, ◌-◌, Bool, true, false, List, [], ◌∷◌, ◌++◌, length, sym, refl, ap, ◌∙◌, subst, arith, Option, Some}
use Rattle.std.specs.Prelude.{MatchBool, IsSomeAnd}
use Rattle.std.specs.List.{slice_get}
use Rattle.std.proofs.lemmas.List.{length_push}
use Rattle.oak_model.specs.declared.cells.CellCall.{CellCall}
use Rattle.oak_model.specs.declared.cells.CellReply.{CellReply}
use Rattle.oak_model.specs.declared.cells.CellReply.TheVariants as replies
use Rattle.oak_model.specs.declared.replies.Wrote.{Wrote}
use Rattle.oak_model.specs.declared.replies.Wrote.TheVariants.{New, Over, Kept, Done, Removed, Absent, Full}
use Rattle.oak_model.specs.declared.writes.Write.{Write}
use Rattle.oak_model.specs.Cell.{reply_of, is_write, kind_of, state_after}
use Rattle.oak_model.specs.Fits.{WriteFits, ReadFits}
use Rattle.oak_model.specs.History.{History, state_at, last_state}
use Rattle.oak_model.specs.KeyNumber.{key_number}
use Rattle.oak_model.specs.State.{State}
use Rattle.oak_model.proofs.HistoryLaws.{Extends as Longer, state_at-end, Extends-self, last_state-push, slice_get-mid}
use Rattle.oak_model.proofs.Lists.{begins_length}
use Rattle.oak_core.specs.declared.states.KeyedWrite.{KeyedWrite}
use Rattle.oak_core.specs.declared.states.PassState.{PassState}
use Rattle.oak_core.specs.CallSteps.{Learns}
use Rattle.oak_core.specs.CallWrites.{Writes}
use Rattle.oak_core.specs.KeyHistories.{writes_of, state_behind}
use Rattle.oak_core.specs.LastReads.{ReadsLast}
use Rattle.oak_core.specs.PassState.{seen_of}
use Rattle.point_ops.specs.Parts.{Answers, WroteFits, WroteSo}
use Rattle.point_ops.specs.Replies.{FoundForReply, GoesOn, HoldsAsBefore, MineAfter, Refuses, RepliesAt}

pub writes_length : (h : List KeyedWrite) → length (writes_of h) ≡ length h
writes_length [] = refl
writes_length (x ∷ xs) = ap suc (writes_length xs)

pub writes_push : (h : List KeyedWrite) (x : KeyedWrite) → writes_of (h ++ x ∷ []) ≡ writes_of h ++ x.write ∷ []
writes_push [] x = refl
writes_push (y ∷ ys) x = ap (λ (l : History). y.write ∷ l) (writes_push ys x)

-- the state at the end of what was seen
pub end_state : (h : List KeyedWrite) → state_at (writes_of h) (length h) ≡ state_behind h
end_state h = ap (state_at (writes_of h)) (sym (writes_length h)) ∙ state_at-end (writes_of h) (writes_of h) (Extends-self (writes_of h))

pub learns_on : (call : ℕ) (v w : PassState) → Learns call v w → GoesOn call v w
learns_on call v w l = record { met = l.met; sights = l.sights; gones = l.all.gones; loaded = l.all.loaded; seen = l.all.seen; remembers = l.all.remembers }

pub refuses : (call : ℕ) (v w : PassState) → Learns call v w → HoldsAsBefore v w → Refuses call v w
refuses call v w learns holds = record { learns = learns; holds = holds }

-- a read
pub read_replies : (call : ℕ) (key : List ℕ) (ask : CellCall) (reply : CellReply) (at : ℕ) (s : State) (v w : PassState) → Learns call v w → HoldsAsBefore v w → is_write reply ≡ false → reply_of s ask ≡ reply → ReadsLast (key_number key) at s v w → RepliesAt call key ask reply at v w
read_replies call key ask reply at s v w learns holds reads answer r = record {
  goes = learns_on call v w learns;
  known = r.ends.known;
  fits = subst (λ (b : Bool). MatchBool b (WriteFits (writes_of seen) v.numbers.number call ask reply (length seen)) (ReadFits (writes_of seen) ask reply (length seen))) (sym reads)
      record { last = let e = writes_length seen in omega arith; answer = ap (λ (t : State). reply_of t ask) (end_state seen ∙ r.ends.state) ∙ answer };
  later = λ y. absurd (true_not_false (sym y ∙ reads));
  found = subst (λ (b : Bool). FoundForReply b (key_number key) at v w) (sym reads) r.sighted;
  mine = subst (λ (b : Bool). MineAfter b call (key_number key) at v w) (sym reads) learns.all.mine;
  holds = holds;
}
  where
    seen : List KeyedWrite
    seen = seen_of (key_number key) w.knowledge

    true_not_false : true ≡ false → ⊥
    true_not_false e = subst (λ (b : Bool). MatchBool b (Unit {0}) ⊥) e tt

-- a write behind h fits there
write_fits : (h : History) (y : Write) (caller call : ℕ) (ask : CellCall) (reply : CellReply) → y.caller ≡ caller → y.call ≡ call → kind_of ask ≡ Some y.kind → reply_of (last_state h) ask ≡ reply → state_after (last_state h) ask ≡ y.after → WriteFits (h ++ y ∷ []) caller call ask reply (length h + 1)
write_fits h y caller call ask reply who turn kind answer leaves = record {
  first = omega arith;
  last = let n = length_push h y in omega arith;
  write = subst (λ (n : ℕ). IsSomeAnd (slice_get (h ++ y ∷ []) n) (λ (w : Write). (w.caller ≡ caller) × (w.call ≡ call) × (kind_of ask ≡ Some w.kind))) (sym back) (subst (λ (o : Option Write). IsSomeAnd o (λ (w : Write). (w.caller ≡ caller) × (w.call ≡ call) × (kind_of ask ≡ Some w.kind))) (sym (slice_get-mid h y [])) (who, turn, kind));
  answer = ap (λ (n : ℕ). reply_of (state_at (h ++ y ∷ []) n) ask) back ∙ (ap (λ (s : State). reply_of s ask) before ∙ answer);
  after = ap (λ (n : ℕ). state_after (state_at (h ++ y ∷ []) n) ask) back ∙ (ap (λ (s : State). state_after s ask) before ∙ (leaves ∙ sym behind));
}
  where
    back : length h + 1 - 1 ≡ length h
    back = omega arith

    longer : Longer h (h ++ y ∷ [])
    longer = (y ∷ [], refl)

    before : state_at (h ++ y ∷ []) (length h) ≡ last_state h
    before = state_at-end h (h ++ y ∷ []) longer

    behind : state_at (h ++ y ∷ []) (length h + 1) ≡ y.after
    behind = ap (state_at (h ++ y ∷ [])) (sym (length_push h y)) ∙ (state_at-end (h ++ y ∷ []) (h ++ y ∷ []) (Extends-self (h ++ y ∷ [])) ∙ last_state-push h y)

-- a write, from which on nothing was learned
pub write_replies : (call : ℕ) (key : List ℕ) (ask : CellCall) (reply : CellReply) (at : ℕ) (v w : PassState) → HoldsAsBefore v w → is_write reply ≡ true → WroteSo call key ask reply at v w → RepliesAt call key ask reply at v w
write_replies call key ask reply at v w holds writes r = record {
  goes = record { met = x.met; sights = x.sights; gones = x.gones; loaded = x.loaded; seen = x.seen; remembers = x.remembers };
  known = x.known;
  fits = subst (λ (b : Bool). MatchBool b (WriteFits (writes_of seen) v.numbers.number call ask reply (length seen)) (ReadFits (writes_of seen) ask reply (length seen))) (sym writes)
      (subst (λ (t : List Write × ℕ). WriteFits t.0 v.numbers.number call ask reply t.1) (λ i. (sym all i, sym many i))
      (write_fits (writes_of x.rest) x.write.write v.numbers.number call ask reply x.caller x.call_is (r.kind_is ∙ ap Some (sym x.kind_is)) (ap (λ (s : State). reply_of s ask) x.state ∙ r.answer) (ap (λ (s : State). state_after s ask) x.state ∙ (r.leaves ∙ sym x.after_is))));
  later = λ _. let l = begins_length (seen_of (key_number key) v.knowledge) x.rest x.longer in let n = many in let m = writes_length x.rest in omega arith;
  found = subst (λ (b : Bool). FoundForReply b (key_number key) at v w) (sym writes) (r.wrote.found_at, r.wrote.next, r.wrote.sighted);
  mine = subst (λ (b : Bool). MineAfter b call (key_number key) at v w) (sym writes) (x.write, x.mine, (x.rest, x.ends), x.call_is, x.stamp_is);
  holds = holds;
}
  where
    x : Writes call key r.kind r.before r.after at v w
    x = r.wrote.writes

    seen : List KeyedWrite
    seen = seen_of (key_number key) w.knowledge

    all : writes_of seen ≡ writes_of x.rest ++ x.write.write ∷ []
    all = ap writes_of x.ends ∙ writes_push x.rest x.write

    many : length seen ≡ length (writes_of x.rest) + 1
    many = ap length x.ends ∙ (length_push x.rest x.write ∙ ap (λ (n : ℕ). n + 1) (sym (writes_length x.rest)))

-- what was answered under the pin is the answer of the call
pub answers_fit : (x : Wrote) (call : ℕ) (key : List ℕ) (ask : CellCall) (v w : PassState) → HoldsAsBefore v w → Answers x call key ask v w → WroteFits x call key ask v w
answers_fit (New at) call key ask v w holds r = write_replies call key ask replies.New at v w holds refl r
answers_fit (Over at) call key ask v w holds r = write_replies call key ask replies.Over at v w holds refl r
answers_fit (Kept at) call key ask v w holds r = read_replies call key ask replies.Kept at r.before v w r.learns holds refl r.answer r.last
answers_fit (Done at) call key ask v w holds r = write_replies call key ask replies.Done at v w holds refl r
answers_fit (Removed at) call key ask v w holds r = write_replies call key ask replies.Removed at v w holds refl r
answers_fit (Absent at) call key ask v w holds r = read_replies call key ask replies.Absent at r.before v w r.learns holds refl r.answer r.last
answers_fit (Full lack) call key ask v w holds r = absurd r
