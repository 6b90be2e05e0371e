-- Part four of a run that fits: a scan reads each key of its range once.
use Rattle.std.specs.Prelude.{◌≡◌, ℕ, if◌then◌else◌, List, length, Option, Some, None, ⊤}
use Rattle.std.specs.List.{AllByRecursion}
use Rattle.oak_model.specs.declared.replies.Pair.{Pair}
use Rattle.oak_model.specs.declared.replies.Reply.{Reply}
use Rattle.oak_model.specs.declared.replies.Reply.TheVariants as replies
use Rattle.oak_model.specs.History.{Histories}
use Rattle.oak_model.specs.Scan.{ScanFits, in_range, IsRising, IsFalling}
use Rattle.oak_script.specs.declared.scripts.Call.{Call}
use Rattle.oak_script.specs.declared.scripts.Call.TheVariants.{Put, Get, PutNew, Compute, Upsert, Remove, Hold, Look, Scan, Back}
use Rattle.oak_run.specs.Turn.{Turn}

-- this place at each key of the range
abbrev pub within_range : Option (List ℕ) → Option (List ℕ) → (List ℕ → ℕ) → List ℕ → Option ℕ
within_range low high places q = if in_range low high q then Some (places q) else None

-- the pairs are the keys of the range that were read present, and each key of the range has its place in the thread's order
pub record PairsFit (h : Histories) (low high : Option (List ℕ)) (pairs : List Pair) (t : Turn) : Type 0 where
  pub reads : List ℕ → ℕ
  pub fits : ScanFits h (λ _. 0) (λ q. length (h q)) low high pairs reads
  pub places : (q : List ℕ) → t.places q ≡ within_range low high reads q
  pub floors : (q : List ℕ) → t.floors q ≡ within_range low high reads q

abbrev pub RangeFits : Histories → (List Pair → Type 0) → Option (List ℕ) → Option (List ℕ) → Turn → Reply → Type 0
RangeFits h IsInOrder low high t (replies.Pairs pairs) = IsInOrder pairs × PairsFit h low high pairs t
RangeFits h IsInOrder low high t (replies.Wrote w) = ⊥
RangeFits h IsInOrder low high t (replies.Value key value at) = ⊥
RangeFits h IsInOrder low high t (replies.Held at) = ⊥
RangeFits h IsInOrder low high t replies.Gone = ⊥
RangeFits h IsInOrder low high t replies.Unheld = ⊥

abbrev pub ScanTurnFits : Histories → Turn → Call → Type 0
ScanTurnFits h t (Scan low high) = RangeFits h IsRising low high t t.reply
ScanTurnFits h t (Back low high) = RangeFits h IsFalling low high t t.reply
ScanTurnFits h t (Put k v) = ⊤
ScanTurnFits h t (Get k) = ⊤
ScanTurnFits h t (PutNew k v) = ⊤
ScanTurnFits h t (Compute k r n) = ⊤
ScanTurnFits h t (Upsert k v r n) = ⊤
ScanTurnFits h t (Remove k) = ⊤
ScanTurnFits h t (Hold a k) = ⊤
ScanTurnFits h t (Look a) = ⊤

abbrev pub ScansFit : Histories → List Turn → Type 0
ScansFit h ts = AllByRecursion (λ t. ScanTurnFits h t t.call) ts
