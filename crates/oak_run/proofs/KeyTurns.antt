-- A call on a key is answered by the state behind the thread's writes of the key, at the place that counts them.
use Rattle.std.proofs.Common.{◌≡◌, ℕ, suc, ◌-◌, Bool, true, false, cond, List, Option, Some, sym, ap, subst, ◌∙◌, arith, inl, inr}
use Rattle.std.specs.Prelude.{MatchBool, ◌&&◌}
use Rattle.std.proofs.lemmas.Bool.{both_ways, cases_Bool}
use Rattle.oak_model.specs.declared.cells.CellReply.{CellReply}
use Rattle.oak_model.specs.Cell.{is_write, reply_of, state_after}
use Rattle.oak_model.specs.Fits.{ReadFits, WriteFits}
use Rattle.oak_model.specs.History.{Histories, place_of, state_at}
use Rattle.oak_model.proofs.KeyLaws.{same_itself}
use Rattle.oak_run.specs.Answers.{KeyAnswer, asks_for, writes_key}
use Rattle.oak_run.specs.Told.{Ask, ask_of, makes_write, reply_at}
use Rattle.oak_run.specs.Turn.{Turn}
use Rattle.oak_run.proofs.SeatedTurns.{only-itself, tells-writes}
use Rattle.oak_run.proofs.TurnCounts.{Counts, IsCounted}

-- the place of a reply at a count
abbrev pub place_at : CellReply → ℕ → ℕ
place_at word n = cond (is_write word) (suc n) n

pub record IsKeyTurn (h : Histories) (n : ℕ) (a : Ask) (t : Turn) (word : CellReply) : Type 0 where
  pub answer : word ≡ reply_of (state_at (h a.key) n) a.cell
  pub place : place_of (h a.key) (reply_at t.reply) ≡ place_at word n
  pub read : t.places a.key ≡ Some (place_at word n)
  pub after : is_write word ≡ true → state_at (h a.key) (suc n) ≡ state_after (state_at (h a.key) n) a.cell
  pub writes : makes_write t.reply ≡ is_write word

module _ (h : Histories) (caller i : ℕ) (n : Counts) (t : Turn) (a : Ask) (is : ask_of t.call ≡ Some a) (f : KeyAnswer h caller i a t) (in_count : IsCounted n t) where
  abbrev k : List ℕ
  k = a.key

  abbrev place : ℕ
  place = place_of (h k) (reply_at t.reply)

  writes-word : makes_write t.reply ≡ is_write f.word
  writes-word = tells-writes k t.reply f.word f.tells

  writes-it : writes_key k t ≡ is_write f.word
  writes-it = ap (λ (o : Option Ask). asks_for k o && makes_write t.reply) is ∙ (ap (λ (b : Bool). b && makes_write t.reply) (same_itself k) ∙ writes-word)

  read-there : t.places k ≡ Some place
  read-there = f.placed.places k ∙ only-itself k place

  its-place : place ≡ place_at f.word (n k)
  its-place = in_count.places k place read-there ∙ ap (λ (b : Bool). cond b (suc (n k)) (n k)) writes-it

  -- a write's
  write-turn : is_write f.word ≡ true → IsKeyTurn h (n k) a t f.word
  write-turn e =
      let fits : WriteFits (h k) caller i a.cell f.word place = subst (λ (b : Bool). MatchBool b (WriteFits (h k) caller i a.cell f.word place) (ReadFits (h k) a.cell f.word place)) e f.fits in
      let there : place ≡ suc (n k) = its-place ∙ ap (λ (b : Bool). cond b (suc (n k)) (n k)) e in
      let before : place - 1 ≡ n k = omega arith in
      record {
        answer = sym fits.answer ∙ ap (λ (r : ℕ). reply_of (state_at (h k) r) a.cell) before;
        place = its-place;
        read = read-there ∙ ap (λ (r : ℕ). Some r) its-place;
        after = λ _. ap (state_at (h k)) (sym there) ∙ (sym fits.after ∙ ap (λ (r : ℕ). state_after (state_at (h k) r) a.cell) before);
        writes = writes-word;
      }

  -- another's
  read-turn : is_write f.word ≡ false → IsKeyTurn h (n k) a t f.word
  read-turn e =
      let fits : ReadFits (h k) a.cell f.word place = subst (λ (b : Bool). MatchBool b (WriteFits (h k) caller i a.cell f.word place) (ReadFits (h k) a.cell f.word place)) e f.fits in
      let there : place ≡ n k = its-place ∙ ap (λ (b : Bool). cond b (suc (n k)) (n k)) e in
      record {
        answer = sym fits.answer ∙ ap (λ (r : ℕ). reply_of (state_at (h k) r) a.cell) there;
        place = its-place;
        read = read-there ∙ ap (λ (r : ℕ). Some r) its-place;
        after = λ wrote. absurd (both_ways (is_write f.word) e wrote);
        writes = writes-word;
      }

  pub key-turn : IsKeyTurn h (n k) a t f.word
  key-turn = elim (cases_Bool (is_write f.word)) [ inl e ↦ write-turn e | inr e ↦ read-turn e ]
