-- Part seven of a run that fits: what replies tell was found by the thread's pass in its call.
use Rattle.std.specs.Prelude.{◌≡◌, ℕ, suc, true, false, List, [], ◌∷◌, Option, Some, IfSome, MatchBool, ⊤}
use Rattle.std.specs.List.{AllByRecursion}
use Rattle.oak_model.specs.declared.replies.Pair.{Pair}
use Rattle.oak_model.specs.declared.replies.Wrote.TheVariants as wrote
use Rattle.oak_model.specs.declared.replies.Reply.{Reply}
use Rattle.oak_model.specs.declared.replies.Reply.TheVariants as replies
use Rattle.oak_model.specs.Key.{is_key}
use Rattle.oak_model.specs.History.{place_of}
use Rattle.oak_script.specs.declared.scripts.Call.{Call}
use Rattle.oak_script.specs.declared.scripts.Call.TheVariants.{Look}
use Rattle.oak_run.specs.Told.{Ask, ask_of, wrote_at, wrote_writes, makes_write}
use Rattle.oak_run.specs.Turn.{Turn}
use Rattle.oak_run.specs.Views.{Names, names_after}
use Rattle.oak_run.specs.Closing.{Closing, WasFound, WasFoundBefore}

-- each number that a reply tells was found, and that of a write is one more than one that was
abbrev pub NumbersFound : Closing → ℕ → ℕ → Option Ask → Reply → Type 0
NumbersFound c thread n ask (replies.Wrote (wrote.Full lack)) = ⊤
NumbersFound c thread n ask (replies.Wrote w) = IfSome ask (λ a. MatchBool (wrote_writes w) (WasFoundBefore c thread n a.key (wrote_at w)) (WasFound c thread n a.key (wrote_at w)))
NumbersFound c thread n ask (replies.Value key value at) = WasFound c thread n key at
NumbersFound c thread n ask (replies.Held at) = IfSome ask (λ a. WasFound c thread n a.key at)
NumbersFound c thread n ask replies.Gone = ⊤
NumbersFound c thread n ask replies.Unheld = ⊤
NumbersFound c thread n ask (replies.Pairs pairs) = AllByRecursion (λ (p : Pair). WasFound c thread n p.key p.at) pairs

-- each key that the reply read, and did not write, was read at the place of a number that was found; so was each that a scan read absent
abbrev pub AbsencesFound : Closing → ℕ → ℕ → Turn → Type 0
AbsencesFound c thread n t =
    makes_write t.reply ≡ false → (q : List ℕ) (r : ℕ) → is_key q ≡ true → t.places q ≡ Some r
    → (at : ℕ) × WasFound c thread n q at × (place_of (c.history q) at ≡ r)

-- so was the removal of the life that the look's name stands for
abbrev pub RemovalFound : Closing → ℕ → ℕ → Names → Call → Reply → Type 0
RemovalFound c thread n names (Look a) replies.Gone = IfSome (names a) (λ x. c.FoundGone thread n x.key x.place)
RemovalFound c thread n names call reply = ⊤

pub record FindingFits (c : Closing) (thread n : ℕ) (names : Names) (t : Turn) : Type 0 where
  pub numbers : NumbersFound c thread n (ask_of t.call) t.reply
  pub absences : AbsencesFound c thread n t
  pub removal : RemovalFound c thread n names t.call t.reply

abbrev pub FindingsFit : Closing → ℕ → ℕ → Names → List Turn → Type 0
FindingsFit c thread n names [] = ⊤
FindingsFit c thread n names (t ∷ ts) = FindingFits c thread n names t × FindingsFit c thread (suc n) (names_after names t) ts
