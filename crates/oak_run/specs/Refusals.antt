-- Part five of a run that fits: each refusal stands in the table, its call needs what is lacking, and its pass found nothing free of it in the call.
use Rattle.std.specs.Prelude.{◌≡◌, ℕ, suc, Bool, true, List, [], ◌∷◌, length, Option, Some, None, IsSomeAnd, ⊤}
use Rattle.oak_model.specs.declared.replies.Lack.{Lack}
use Rattle.oak_model.specs.declared.replies.Lack.TheVariants.{Block, Header, Room}
use Rattle.oak_model.specs.declared.replies.Wrote.TheVariants as wrote
use Rattle.oak_model.specs.declared.replies.Reply.{Reply}
use Rattle.oak_model.specs.declared.replies.Reply.TheVariants as replies
use Rattle.oak_model.specs.Cell.{state_after}
use Rattle.oak_model.specs.Class.{has_class}
use Rattle.oak_model.specs.History.{state_at, place_of}
use Rattle.oak_model.specs.Needs.{NeedsOn, takes_class}
use Rattle.oak_run.specs.Told.{Ask, ask_of}
use Rattle.oak_run.specs.Turn.{Turn}
use Rattle.oak_run.specs.Closing.{Closing}

-- the call needs it, on the state at the place of a number that was found in the call
pub record Needs (c : Closing) (thread n : ℕ) (a : Ask) (lack : Lack) : Type 0 where
  pub at : ℕ
  pub bare : Bool
  pub found : c.Found thread n a.key at bare
  pub needs : NeedsOn (state_at (c.history a.key) (place_of (c.history a.key) at)) (length a.key) bare a.cell lack

-- The spare block is the call's own, which it has for its value. So there is one only where the class that is lacking is that of the value and of the key, and the key was found without an entry in the call.
abbrev pub SpareFits : Closing → ℕ → ℕ → Ask → Lack → Option ℕ → Type 0
SpareFits c thread n a (Block k) None = ⊤
SpareFits c thread n a (Block k) (Some b) = (takes_class k (state_after None a.cell) ≡ true) × (has_class k (length a.key) ≡ true) × ((at : ℕ) × c.Found thread n a.key at true)
SpareFits c thread n a Header spare = spare ≡ None
SpareFits c thread n a Room spare = spare ≡ None

-- the thread's pass found nothing free of it in the call, but for the spare block; a room that is lacking is that of the call's own key
pub record IsLacking (c : Closing) (thread n : ℕ) (a : Ask) (lack : Lack) : Type 0 where
  pub spare : Option ℕ
  pub spared : SpareFits c thread n a lack spare
  pub lacked : c.Lacked thread n lack a.key spare

-- each `full` is a refusal that the table shows, of a call on a key that needs what is lacking, and to which it was lacking
abbrev pub RefusalFits : Closing → ℕ → ℕ → Turn → Reply → Type 0
RefusalFits c thread n t (replies.Wrote (wrote.Full lack)) = c.Refused thread n lack × IsSomeAnd (ask_of t.call) (λ a. Needs c thread n a lack × IsLacking c thread n a lack)
RefusalFits c thread n t (replies.Wrote (wrote.New at)) = ⊤
RefusalFits c thread n t (replies.Wrote (wrote.Over at)) = ⊤
RefusalFits c thread n t (replies.Wrote (wrote.Kept at)) = ⊤
RefusalFits c thread n t (replies.Wrote (wrote.Done at)) = ⊤
RefusalFits c thread n t (replies.Wrote (wrote.Removed at)) = ⊤
RefusalFits c thread n t (replies.Wrote (wrote.Absent at)) = ⊤
RefusalFits c thread n t (replies.Value key value at) = ⊤
RefusalFits c thread n t (replies.Held at) = ⊤
RefusalFits c thread n t replies.Gone = ⊤
RefusalFits c thread n t replies.Unheld = ⊤
RefusalFits c thread n t (replies.Pairs pairs) = ⊤

abbrev pub RefusalsFit : Closing → ℕ → ℕ → List Turn → Type 0
RefusalsFit c thread n [] = ⊤
RefusalsFit c thread n (t ∷ ts) = RefusalFits c thread n t t.reply × RefusalsFit c thread (suc n) ts
