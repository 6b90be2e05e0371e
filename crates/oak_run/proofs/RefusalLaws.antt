-- A reply that refuses nothing owes no refusal.
use Rattle.std.proofs.Common.{◌≡◌, ℕ, false}
use Rattle.oak_model.specs.declared.replies.Reply.{Reply}
use Rattle.oak_model.specs.declared.replies.Reply.TheVariants as replies
use Rattle.oak_model.specs.declared.replies.Wrote.TheVariants as wrote
use Rattle.oak_run.specs.Told.{is_full}
use Rattle.oak_run.specs.Turn.{Turn}
use Rattle.oak_run.specs.Closing.{Closing}
use Rattle.oak_run.specs.Refusals.{RefusalFits}

pub refusal-none : (c : Closing) (thread n : ℕ) (t : Turn) (y : Reply) → is_full y ≡ false → RefusalFits c thread n t y
refusal-none c thread n t (replies.Wrote (wrote.New at)) fine = tt
refusal-none c thread n t (replies.Wrote (wrote.Over at)) fine = tt
refusal-none c thread n t (replies.Wrote (wrote.Kept at)) fine = tt
refusal-none c thread n t (replies.Wrote (wrote.Done at)) fine = tt
refusal-none c thread n t (replies.Wrote (wrote.Removed at)) fine = tt
refusal-none c thread n t (replies.Wrote (wrote.Absent at)) fine = tt
refusal-none c thread n t (replies.Wrote (wrote.Full lack)) fine = absurd cc
refusal-none c thread n t (replies.Value key value at) fine = tt
refusal-none c thread n t (replies.Held at) fine = tt
refusal-none c thread n t replies.Gone fine = tt
refusal-none c thread n t replies.Unheld fine = tt
refusal-none c thread n t (replies.Pairs pairs) fine = tt
