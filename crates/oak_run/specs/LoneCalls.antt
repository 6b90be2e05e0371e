-- What the calls of a thread do where its pass is alone: v is the state of the pass before a call, w the one behind.
use Rattle.std.specs.Prelude.{◌≡◌, ℕ, suc, List, [], ◌∷◌, ◌++◌, ⊤}
use Rattle.oak_model.specs.declared.cells.CellCall.TheVariants as asks
use Rattle.oak_model.specs.declared.replies.Reply.{Reply}
use Rattle.oak_model.specs.declared.replies.Reply.TheVariants as replies
use Rattle.oak_model.specs.declared.replies.Wrote.{Wrote}
use Rattle.oak_model.specs.Counts.{Each}
use Rattle.oak_model.specs.Limits.{Sizes}
use Rattle.oak_core.specs.declared.states.KeyedWrite.{KeyedWrite}
use Rattle.oak_core.specs.declared.states.PassState.{PassState}
use Rattle.oak_core.specs.AloneWords.{Runs}
use Rattle.oak_core.specs.CallSteps.{MetMore}
use Rattle.oak_core.specs.PassState.{Extends, IsAlone}
use Rattle.oak_script.specs.declared.scripts.Call.{Call}
use Rattle.oak_script.specs.declared.scripts.Call.TheVariants.{Put, Get, PutNew, Compute, Upsert, Remove, Hold, Look, Scan, Back}
use Rattle.oak_map.specs.LonePuts.{PutAlone, PutsAlone}
use Rattle.oak_map.specs.Replying.{PutFits}
use Rattle.oak_run.specs.Told.{Ask}

-- a call that puts was `Full` exactly by what its map lacks, and else replied as the cell does
pub record PutsSo (z : Sizes) (n : ℕ) (a : Ask) (y : Wrote) (v w : PassState) : Type 0 where
  pub fits : PutFits y z n a.key a.cell v w
  pub alone : IsAlone v → PutAlone y z a.key a.cell v w
  pub runs : Runs (PutsAlone z a.key a.cell v y) v w

abbrev pub PutsWith : Sizes → ℕ → Ask → Reply → PassState → PassState → Type 0
PutsWith z n a y v w = (x : Wrote) × (y ≡ replies.Wrote x) × PutsSo z n a x v w

-- of the calls that put
abbrev pub LoneCall : Sizes → ℕ → Call → Reply → PassState → PassState → Type 0
LoneCall z n (Put k x) y v w = PutsWith z n (record { key = k; cell = asks.Put x }) y v w
LoneCall z n (PutNew k x) y v w = PutsWith z n (record { key = k; cell = asks.PutNew x }) y v w
LoneCall z n (Upsert k x r m) y v w = PutsWith z n (record { key = k; cell = asks.Upsert x r m }) y v w
LoneCall z n (Get k) y v w = ⊤
LoneCall z n (Compute k r m) y v w = ⊤
LoneCall z n (Remove k) y v w = ⊤
LoneCall z n (Hold a k) y v w = ⊤
LoneCall z n (Look a) y v w = ⊤
LoneCall z n (Scan low high) y v w = ⊤
LoneCall z n (Back low high) y v w = ⊤

-- the n-th call goes on from what the pass had met and seen, and its writes are of that call
pub record CallGoes (n : ℕ) (v w : PassState) : Type 0 where
  pub extends : Extends v w
  pub numbers : w.numbers ≡ v.numbers
  pub met : MetMore n v w
  pub wrote : List KeyedWrite
  pub mine : w.knowledge.mine ≡ v.knowledge.mine ++ wrote
  pub calls : Each (λ (x : KeyedWrite). x.write.call ≡ n) wrote

-- one behind the other, from the n-th call on
abbrev pub LoneCalls : Sizes → ℕ → PassState → List Call → List Reply → PassState → Type 0
LoneCalls z n v [] [] w = w ≡ v
LoneCalls z n v [] (y ∷ ys) w = ⊥
LoneCalls z n v (c ∷ cs) [] w = ⊥
LoneCalls z n v (c ∷ cs) (y ∷ ys) w = (u : PassState) × CallGoes n v u × LoneCall z n c y v u × LoneCalls z (suc n) u cs ys w
