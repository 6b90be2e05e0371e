-- Each call of a lone thread that puts was `Full` exactly by what its map lacked.
use Rattle.std.proofs.Common.{◌≡◌, ℕ, suc, ◌+◌, ◌<◌, ◌≤◌, List, [], ◌∷◌, length, sym, subst, arith}
use Rattle.oak_model.specs.declared.cells.CellCall.TheVariants as asks
use Rattle.oak_model.specs.declared.replies.Reply.{Reply}
use Rattle.oak_model.specs.Counts.{Each}
use Rattle.oak_core.specs.declared.closing.Closed.{Closed}
use Rattle.oak_core.specs.declared.states.KeyedWrite.{KeyedWrite}
use Rattle.oak_core.specs.declared.states.PassState.{PassState}
use Rattle.oak_core.specs.CallSteps.{MetMore}
use Rattle.oak_core.specs.Closing.{closed_key, closed_state, closed_words}
use Rattle.oak_core.specs.Splitting.{Ends}
use Rattle.oak_script.specs.declared.scripts.Call.{Call}
use Rattle.oak_script.specs.declared.scripts.Call.TheVariants.{Put, Get, PutNew, Compute, Upsert, Remove, Hold, Look, Scan, Back}
use Rattle.oak_run.specs.FullsExactly.{CallExactly, FullsExactly, PutExactly}
use Rattle.oak_run.specs.LoneCalls.{CallGoes, LoneCall, LoneCalls, PutsWith}
use Rattle.oak_run.specs.Reads.{IsOnlyThread, OnlyReads}
use Rattle.oak_run.specs.Told.{Ask}
use Rattle.oak_run.proofs.ExactCalls.{exact_call}
use Rattle.oak_run.proofs.LoneChains.{GoesFrom, MetLater, chain_goes, chain_late, closed_goes, early_next, later_met, later_then}
use Rattle.oak_run.proofs.OnlyThreads.{only_still}

module _ (c : Closed) (ends : Ends (closed_key c) (closed_words c) (closed_state c)) where
  module _ (n : ℕ) (v u : PassState) (only : IsOnlyThread v) (goes : GoesFrom n v (closed_state c)) (early : Each (λ (x : KeyedWrite). x.write.call < n) v.knowledge.mine) (one : CallGoes n v u) (later : MetLater n u (closed_state c)) where
    put_exact : (a : Ask) (y : Reply) → PutsWith (closed_key c) n a y v u → PutExactly c n a y
    put_exact a y p = (p.0, p.1, exact_call c n a p.0 v u only ends goes early one later p.2)

    call_exact : (call : Call) (y : Reply) → LoneCall (closed_key c) n call y v u → CallExactly c n call y
    call_exact (Put k x) y p = put_exact (record { key = k; cell = asks.Put x }) y p
    call_exact (PutNew k x) y p = put_exact (record { key = k; cell = asks.PutNew x }) y p
    call_exact (Upsert k x r m) y p = put_exact (record { key = k; cell = asks.Upsert x r m }) y p
    call_exact (Get k) y p = tt
    call_exact (Compute k r m) y p = tt
    call_exact (Remove k) y p = tt
    call_exact (Hold a k) y p = tt
    call_exact (Look a) y p = tt
    call_exact (Scan low high) y p = tt
    call_exact (Back low high) y p = tt

  -- the closing is of the call with the number `last`, behind all these
  exact_from : (last n : ℕ) (v w : PassState) (cs : List Call) (ys : List Reply) → n + length cs ≤ last → IsOnlyThread v → Each (λ (x : KeyedWrite). x.write.call < n) v.knowledge.mine → LoneCalls (closed_key c) n v cs ys w → OnlyReads w (closed_state c) → MetMore last w (closed_state c) → FullsExactly c n cs ys
  exact_from last n v w [] [] few only early t reads ends_met = tt
  exact_from last n v w [] (y ∷ ys) few only early t reads ends_met = t
  exact_from last n v w (x ∷ xs) [] few only early t reads ends_met = t
  exact_from last n v w (x ∷ xs) (y ∷ ys) few only early t reads ends_met =
      let u : PassState = t.0 in let one : CallGoes n v u = t.1 in
      let next : MetLater n u (closed_state c) = later_then n u w (closed_state c) (chain_late (closed_key c) n (suc n) u w xs ys (omega arith) t.3) (later_met n last w (closed_state c) (omega arith) ends_met) in
      let all : GoesFrom n v (closed_state c) = closed_goes c n v w (chain_goes (closed_key c) n v w (x ∷ xs) (y ∷ ys) t) reads in
      (call_exact n v u only all early one next x y t.2, exact_from last (suc n) u w xs ys (omega arith) (only_still v u one.numbers only) (early_next n v u one early) t.3 reads ends_met)

-- from the first call on, where the pass had written nothing before
pub fulls_exactly : (c : Closed) (last : ℕ) (first v : PassState) (cs : List Call) (ys : List Reply) → 1 + length cs ≤ last → IsOnlyThread first → first.knowledge.mine ≡ [] → LoneCalls (closed_key c) 1 first cs ys v → OnlyReads v (closed_state c) → MetMore last v (closed_state c) → Ends (closed_key c) (closed_words c) (closed_state c) → FullsExactly c 1 cs ys
fulls_exactly c last first v cs ys few only none calls reads ends_met ends = exact_from c ends last 1 first v cs ys few only (subst (Each (λ (x : KeyedWrite). x.write.call < 1)) (sym none) tt) calls reads ends_met
