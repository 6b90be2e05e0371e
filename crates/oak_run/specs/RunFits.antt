-- When the replies and the final map of a run fit the histories of its keys.
use Rattle.std.specs.Prelude.{◌≡◌, ℕ, suc, List, [], ◌∷◌, map, ⊤}
use Rattle.std.specs.List.Sorted.{IsPermutation}
use Rattle.oak_model.specs.declared.replies.Pair.{Pair}
use Rattle.oak_model.specs.declared.replies.Reply.{Reply}
use Rattle.oak_model.specs.Limits.{Sizes}
use Rattle.oak_model.specs.History.{Histories, IsLegal, AreDistinctCalls}
use Rattle.oak_script.specs.declared.scripts.Call.{Call}
use Rattle.oak_script.specs.Text.{RepliesAnswer}
use Rattle.oak_run.specs.Turn.{Turn}
use Rattle.oak_run.specs.Answers.{AnswersFit, mark_of, all_marks}
use Rattle.oak_run.specs.Order.{Ordered}
use Rattle.oak_run.specs.Views.{ViewsFit, no_names}
use Rattle.oak_run.specs.Scans.{ScansFit}
use Rattle.oak_run.specs.Closing.{Closing}
use Rattle.oak_run.specs.Refusals.{RefusalsFit}
use Rattle.oak_run.specs.Ending.{EndFits}
use Rattle.oak_run.specs.Findings.{FindingsFit}

-- for each thread from this number on
abbrev pub EachThread : (ℕ → List Turn → Type 0) → ℕ → List (List Turn) → Type 0
EachThread P thread [] = ⊤
EachThread P thread (ts ∷ more) = P thread ts × EachThread P (suc thread) more

abbrev pub calls_of : List (List Turn) → List (List Call)
calls_of threads = map (λ (ts : List Turn). map (λ (t : Turn). t.call) ts) threads

abbrev pub replies_of : List (List Turn) → List (List Reply)
replies_of threads = map (λ (ts : List Turn). map (λ (t : Turn). t.reply) ts) threads

-- each reply but `full` is the cell's at its place, and each write of every history is the reply of exactly one call
pub record RepliesFit (h : Histories) (threads : List (List Turn)) : Type 0 where
  pub each : EachThread (λ thread ts. AnswersFit h thread 1 ts) 1 threads
  pub once : (q : List ℕ) → IsPermutation (all_marks q 1 threads) (map mark_of (h q))

-- A run over a table of this shape fits what the closed table shows. Each reply is of a kind that its call can
-- have, the histories are legal, and each of the seven parts is a field of its own.
pub record RunFits (c : Closing) (shape : Sizes) (calls : List (List Call)) (said : List (List Reply)) (finals : List Pair) : Type 0 where
  pub threads : List (List Turn)
  pub of_calls : calls_of threads ≡ calls
  pub of_replies : replies_of threads ≡ said
  pub answered : RepliesAnswer calls said
  pub sizes : c.sizes ≡ shape
  pub legal : (q : List ℕ) → IsLegal (c.history q)
  pub distinct : AreDistinctCalls c.history
  pub replies : RepliesFit c.history threads
  pub order : EachThread (λ _ ts. Ordered ts) 1 threads
  pub views : EachThread (λ _ ts. ViewsFit c.history no_names ts) 1 threads
  pub scans : EachThread (λ _ ts. ScansFit c.history ts) 1 threads
  pub refusals : EachThread (λ thread ts. RefusalsFit c thread 1 ts) 1 threads
  pub ending : EndFits c finals
  pub findings : EachThread (λ thread ts. FindingsFit c thread 1 no_names ts) 1 threads
