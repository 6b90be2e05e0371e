-- Part one of a run that fits: each reply is the cell's at its place, and each write is one reply's.
use Rattle.std.specs.Prelude.{ℕ, suc, ◌&&◌, Bool, false, if◌then◌else◌, List, [], ◌∷◌, ◌++◌, Option, Some, None, MatchBool, MatchOption, ⊤}
use Rattle.oak_model.specs.declared.writes.Write.{Write}
use Rattle.oak_model.specs.declared.cells.CellReply.{CellReply}
use Rattle.oak_model.specs.Key.{same_key}
use Rattle.oak_model.specs.History.{Histories, place_of}
use Rattle.oak_model.specs.Fits.{ReplyFits}
use Rattle.oak_run.specs.Told.{Ask, ask_of, reply_at, is_full, makes_write, Tells}
use Rattle.oak_run.specs.Turn.{Turn, PlacedAt, PlacedNowhere}

-- the reply tells the cell's answer to a caller's call, which fits at the place of the reply's number
pub record KeyAnswer (h : Histories) (caller n : ℕ) (a : Ask) (t : Turn) : Type 0 where
  pub word : CellReply
  pub tells : Tells a.key t.reply word
  pub fits : ReplyFits (h a.key) caller n a.cell word (place_of (h a.key) (reply_at t.reply))
  pub placed : PlacedAt a.key (place_of (h a.key) (reply_at t.reply)) t

-- a `full` tells nothing of the cell
abbrev pub CellAnswer : Histories → ℕ → ℕ → Ask → Turn → Type 0
CellAnswer h caller n a t = MatchBool (is_full t.reply) (PlacedNowhere t) (KeyAnswer h caller n a t)

abbrev pub AnswerFits : Histories → ℕ → ℕ → Turn → Type 0
AnswerFits h caller n t = MatchOption (ask_of t.call) ⊤ (λ a. CellAnswer h caller n a t)

-- the turns of a caller from call n on
abbrev pub AnswersFit : Histories → ℕ → ℕ → List Turn → Type 0
AnswersFit h caller n [] = ⊤
AnswersFit h caller n (t ∷ ts) = AnswerFits h caller n t × AnswersFit h caller (suc n) ts

-- a write by its stamp, its caller and its call
pub record Mark : Type 0 where
  pub stamp : ℕ
  pub caller : ℕ
  pub call : ℕ

abbrev pub mark_of : Write → Mark
mark_of w = record { stamp = w.stamp; caller = w.caller; call = w.call }

-- whether the turn is a write of the key
abbrev pub asks_for : List ℕ → Option Ask → Bool
asks_for q None = false
asks_for q (Some a) = same_key a.key q

abbrev pub writes_key : List ℕ → Turn → Bool
writes_key q t = asks_for q (ask_of t.call) && makes_write t.reply

-- the marks that the write replies of a caller on the key tell, from call n on
abbrev pub marks : List ℕ → ℕ → ℕ → List Turn → List Mark
marks q caller n [] = []
marks q caller n (t ∷ ts) =
    if writes_key q t
    then record { stamp = reply_at t.reply; caller = caller; call = n } ∷ marks q caller (suc n) ts
    else marks q caller (suc n) ts

-- the same over all callers, from this one on
abbrev pub all_marks : List ℕ → ℕ → List (List Turn) → List Mark
all_marks q caller [] = []
all_marks q caller (ts ∷ more) = marks q caller 1 ts ++ all_marks q (suc caller) more
