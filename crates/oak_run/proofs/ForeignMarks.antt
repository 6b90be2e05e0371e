-- No write of turns that fit is one of what is no key.
use Rattle.std.proofs.Common.{◌≡◌, ℕ, suc, ◌<◌, Bool, true, false, cond, List, [], ◌∷◌, length, Option, Some, None, refl, ap, ◌∙◌, subst, arith}
use Rattle.std.specs.Prelude.{◌&&◌, MatchBool, MatchOption, ⊤}
use Rattle.oak_model.specs.declared.cells.CellReply.{CellReply}
use Rattle.oak_model.specs.declared.replies.Wrote.{Wrote}
use Rattle.oak_model.specs.declared.replies.Wrote.TheVariants as wrote
use Rattle.oak_model.specs.declared.replies.Reply.{Reply}
use Rattle.oak_model.specs.declared.replies.Reply.TheVariants as replies
use Rattle.oak_model.specs.Cell.{is_write}
use Rattle.oak_model.specs.Fits.{ReadFits, WriteFits}
use Rattle.oak_model.specs.History.{Histories, place_of}
use Rattle.oak_model.specs.Key.{same_key}
use Rattle.oak_model.proofs.KeyLaws.{same_is}
use Rattle.oak_run.specs.Answers.{AnswerFits, AnswersFit, CellAnswer, KeyAnswer, asks_for, marks, writes_key}
use Rattle.oak_run.specs.Told.{Ask, Tells, WroteTells, ask_of, is_full, makes_write, reply_at, wrote_writes}
use Rattle.oak_run.specs.Turn.{PlacedNowhere, Turn}

-- a reply of a write is none that tells nothing, and tells the cell's reply of a write

wrote_full : (w : Wrote) → wrote_writes w ≡ true → is_full (replies.Wrote w) ≡ false
wrote_full (wrote.New at) e = refl
wrote_full (wrote.Over at) e = refl
wrote_full (wrote.Kept at) e = refl
wrote_full (wrote.Done at) e = refl
wrote_full (wrote.Removed at) e = refl
wrote_full (wrote.Absent at) e = refl
wrote_full (wrote.Full lack) e = absurd cc

write_full : (y : Reply) → makes_write y ≡ true → is_full y ≡ false
write_full (replies.Wrote w) e = wrote_full w e
write_full (replies.Value key value at) e = refl
write_full (replies.Held at) e = refl
write_full replies.Gone e = refl
write_full replies.Unheld e = refl
write_full (replies.Pairs pairs) e = refl

wrote_word : (w : Wrote) (word : CellReply) → wrote_writes w ≡ true → WroteTells w word → is_write word ≡ true
wrote_word (wrote.New at) word e tells = ap is_write tells
wrote_word (wrote.Over at) word e tells = ap is_write tells
wrote_word (wrote.Kept at) word e tells = absurd cc
wrote_word (wrote.Done at) word e tells = ap is_write tells
wrote_word (wrote.Removed at) word e tells = ap is_write tells
wrote_word (wrote.Absent at) word e tells = absurd cc
wrote_word (wrote.Full lack) word e tells = absurd tells

write_word : (k : List ℕ) (y : Reply) (word : CellReply) → makes_write y ≡ true → Tells k y word → is_write word ≡ true
write_word k (replies.Wrote w) word e tells = wrote_word w word e tells
write_word k (replies.Value key value at) word e tells = absurd cc
write_word k (replies.Held at) word e tells = absurd cc
write_word k replies.Gone word e tells = absurd tells
write_word k replies.Unheld word e tells = absurd tells
write_word k (replies.Pairs pairs) word e tells = absurd tells

-- a write's reply has its write in the history
some_write : (h : Histories) (caller n : ℕ) (a : Ask) (t : Turn) → makes_write t.reply ≡ true → CellAnswer h caller n a t → 0 < length (h a.key)
some_write h caller n a t e fits =
    let f : KeyAnswer h caller n a t = subst (λ (b : Bool). MatchBool b (PlacedNowhere t) (KeyAnswer h caller n a t)) (write_full t.reply e) fits in
    let w : WriteFits (h a.key) caller n a.cell f.word (place_of (h a.key) (reply_at t.reply)) = subst (λ (b : Bool). MatchBool b (WriteFits (h a.key) caller n a.cell f.word (place_of (h a.key) (reply_at t.reply))) (ReadFits (h a.key) a.cell f.word (place_of (h a.key) (reply_at t.reply)))) (write_word a.key t.reply f.word e f.tells) f.fits in
    let first = w.first in let last = w.last in omega arith

not_written : (h : Histories) (caller n : ℕ) (q : List ℕ) (t : Turn) → h q ≡ [] → AnswerFits h caller n t → writes_key q t ≡ false
not_written h caller n q t none fits = by (ask_of t.call) fits
  where
    both : (a : Ask) (b w : Bool) → same_key a.key q ≡ b → makes_write t.reply ≡ w → CellAnswer h caller n a t → (b && w) ≡ false
    both a false w e f fits = refl
    both a true false e f fits = refl
    both a true true e f fits = let some = some_write h caller n a t f fits in let l = ap length (ap h (same_is a.key q e) ∙ none) in absurd (omega arith)

    by : (o : Option Ask) → MatchOption o ⊤ (λ a. CellAnswer h caller n a t) → (asks_for q o && makes_write t.reply) ≡ false
    by None fits = refl
    by (Some a) fits = both a (same_key a.key q) (makes_write t.reply) refl refl fits

-- turns that fit make no mark on a key without writes
pub no_marks : (h : Histories) (q : List ℕ) (caller n : ℕ) (ts : List Turn) → h q ≡ [] → AnswersFit h caller n ts → marks q caller n ts ≡ []
no_marks h q caller n [] none fits = refl
no_marks h q caller n (t ∷ ts) none fits =
    ap (λ (b : Bool). cond b (record { stamp = reply_at t.reply; caller = caller; call = n } ∷ marks q caller (suc n) ts) (marks q caller (suc n) ts)) (not_written h caller n q t none fits.0)
    ∙ no_marks h q caller (suc n) ts none fits.1
