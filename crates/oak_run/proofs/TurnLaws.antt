-- Calls on a key look at no view and scan nothing, and are at one place.
use Rattle.std.proofs.Common.{◌≡◌, ℕ, List, Option, Some, None, inl, inr}
use Rattle.std.proofs.lemmas.Bool.{cases_Bool}
use Rattle.oak_model.specs.Key.{same_key}
use Rattle.oak_model.specs.History.{Histories}
use Rattle.oak_model.proofs.KeyLaws.{same_is}
use Rattle.oak_script.specs.declared.scripts.Call.{Call}
use Rattle.oak_script.specs.declared.scripts.Call.TheVariants.{Put, Get, PutNew, Compute, Upsert, Remove, Hold, Look, Scan, Back}
use Rattle.oak_run.specs.Told.{Ask, ask_of}
use Rattle.oak_run.specs.Turn.{Turn, only_at}
use Rattle.oak_run.specs.Views.{Names, ViewFits}
use Rattle.oak_run.specs.Scans.{ScanTurnFits}

pub ask-views : (h : Histories) (names : Names) (t : Turn) (c : Call) (a : Ask) → ask_of c ≡ Some a → ViewFits h names t c
ask-views h names t (Put k v) a e = tt
ask-views h names t (Get k) a e = tt
ask-views h names t (PutNew k v) a e = tt
ask-views h names t (Compute k r n) a e = tt
ask-views h names t (Upsert k v r n) a e = tt
ask-views h names t (Remove k) a e = tt
ask-views h names t (Hold b k) a e = tt
ask-views h names t (Look b) a e = absurd cc
ask-views h names t (Scan low high) a e = tt
ask-views h names t (Back low high) a e = tt

pub ask-scans : (h : Histories) (t : Turn) (c : Call) (a : Ask) → ask_of c ≡ Some a → ScanTurnFits h t c
ask-scans h t (Put k v) a e = tt
ask-scans h t (Get k) a e = tt
ask-scans h t (PutNew k v) a e = tt
ask-scans h t (Compute k r n) a e = tt
ask-scans h t (Upsert k v r n) a e = tt
ask-scans h t (Remove k) a e = tt
ask-scans h t (Hold b k) a e = tt
ask-scans h t (Look b) a e = tt
ask-scans h t (Scan low high) a e = absurd cc
ask-scans h t (Back low high) a e = absurd cc

-- ---- one place at one key

pub only-here : (k : List ℕ) (r : ℕ) (q : List ℕ) (s : ℕ) → only_at k r q ≡ Some s → (k ≡ q) × (r ≡ s)
only-here k r q s e =
    elim (cases_Bool (same_key k q)) [
      | inl same ↦ let f : Some r ≡ Some s = rw same at e in (same_is k q same, cc)
      | inr other ↦ let f : let none : Option ℕ = None in none ≡ Some s = rw other at e in absurd cc
    ]
