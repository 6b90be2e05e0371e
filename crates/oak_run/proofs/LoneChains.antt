-- What the calls of a thread whose pass is alone leave of it, one behind the other.
use Rattle.std.proofs.Common.{◌≡◌, ℕ, suc, ◌<◌, ◌≤◌, List, [], ◌∷◌, ◌++◌, sym, refl, ap, ◌∙◌, subst, append_assoc, append-nil, arith}
use Rattle.oak_model.specs.declared.replies.Reply.{Reply}
use Rattle.oak_model.specs.Counts.{Begins, Each}
use Rattle.oak_model.specs.Limits.{Sizes}
use Rattle.oak_model.proofs.Lists.{begins_self, begins_trans, each_append, each_map}
use Rattle.oak_core.specs.declared.closing.Closed.{Closed}
use Rattle.oak_core.specs.declared.states.Finding.{Finding}
use Rattle.oak_core.specs.declared.states.KeyedWrite.{KeyedWrite}
use Rattle.oak_core.specs.declared.states.PassState.{PassState}
use Rattle.oak_core.specs.CallSteps.{MetMore}
use Rattle.oak_core.specs.Closing.{closed_state}
use Rattle.oak_script.specs.declared.scripts.Call.{Call}
use Rattle.oak_run.specs.LoneCalls.{CallGoes, LoneCalls}
use Rattle.oak_run.specs.Reads.{OnlyReads}

-- it met more, has its numbers, and what it wrote is of the n-th call or of later ones
pub record GoesFrom (n : ℕ) (v w : PassState) : Type 0 where
  pub numbers : w.numbers ≡ v.numbers
  pub met : Begins v.findings.met w.findings.met
  pub wrote : List KeyedWrite
  pub mine : w.knowledge.mine ≡ v.knowledge.mine ++ wrote
  pub late : Each (λ (x : KeyedWrite). n ≤ x.write.call) wrote

goes_nowhere : (n : ℕ) (v w : PassState) → w ≡ v → GoesFrom n v w
goes_nowhere n v w e = subst (λ (y : PassState). GoesFrom n v y) (sym e) (record { numbers = refl; met = begins_self v.findings.met; wrote = []; mine = sym (append-nil v.knowledge.mine); late = tt })

goes_on : (n : ℕ) (v u w : PassState) → CallGoes n v u → GoesFrom (suc n) u w → GoesFrom n v w
goes_on n v u w one rest = record {
  numbers = rest.numbers ∙ one.numbers;
  met = begins_trans v.findings.met u.findings.met w.findings.met (one.met.more, one.met.met) rest.met;
  wrote = one.wrote ++ rest.wrote;
  mine = rest.mine ∙ (ap (λ (l : List KeyedWrite). l ++ rest.wrote) one.mine ∙ append_assoc v.knowledge.mine one.wrote rest.wrote);
  late = each_append (λ (x : KeyedWrite). n ≤ x.write.call) one.wrote rest.wrote
      (each_map (λ (x : KeyedWrite). x.write.call ≡ n) (λ (x : KeyedWrite). n ≤ x.write.call) one.wrote (λ x e. omega arith) one.calls)
      (each_map (λ (x : KeyedWrite). suc n ≤ x.write.call) (λ (x : KeyedWrite). n ≤ x.write.call) rest.wrote (λ x le. omega arith) rest.late);
}

pub chain_goes : (z : Sizes) (n : ℕ) (v w : PassState) (cs : List Call) (ys : List Reply) → LoneCalls z n v cs ys w → GoesFrom n v w
chain_goes z n v w [] [] t = goes_nowhere n v w t
chain_goes z n v w [] (y ∷ ys) t = absurd t
chain_goes z n v w (c ∷ cs) [] t = absurd t
chain_goes z n v w (c ∷ cs) (y ∷ ys) t = goes_on n v t.0 w t.1 (chain_goes z (suc n) t.0 w cs ys t.3)

-- it met more, all of it in calls behind the n-th
pub record MetLater (n : ℕ) (v w : PassState) : Type 0 where
  pub more : List Finding
  pub met : w.findings.met ≡ v.findings.met ++ more
  pub late : Each (λ (f : Finding). n < f.call) more

pub later_met : (n k : ℕ) (v w : PassState) → n < k → MetMore k v w → MetLater n v w
later_met n k v w lt m = record { more = m.more; met = m.met; late = each_map (λ (f : Finding). f.call ≡ k) (λ (f : Finding). n < f.call) m.more (λ f e. omega arith) m.calls }

pub later_then : (n : ℕ) (v u w : PassState) → MetLater n v u → MetLater n u w → MetLater n v w
later_then n v u w a b = record {
  more = a.more ++ b.more;
  met = b.met ∙ (ap (λ (l : List Finding). l ++ b.more) a.met ∙ append_assoc v.findings.met a.more b.more);
  late = each_append (λ (f : Finding). n < f.call) a.more b.more a.late b.late;
}

-- so do the calls from one behind it on
pub chain_late : (z : Sizes) (n k : ℕ) (v w : PassState) (cs : List Call) (ys : List Reply) → n < k → LoneCalls z k v cs ys w → MetLater n v w
chain_late z n k v w [] [] lt t = subst (λ (y : PassState). MetLater n v y) (sym t) (record { more = []; met = sym (append-nil v.findings.met); late = tt })
chain_late z n k v w [] (y ∷ ys) lt t = absurd t
chain_late z n k v w (c ∷ cs) [] lt t = absurd t
chain_late z n k v w (c ∷ cs) (y ∷ ys) lt t = later_then n v t.0 w (later_met n k v t.0 lt t.1.met) (chain_late z n (suc k) t.0 w cs ys (omega arith) t.3)

-- and so to the closed pass, which only read behind them
pub closed_goes : (c : Closed) (n : ℕ) (v w : PassState) → GoesFrom n v w → OnlyReads w (closed_state c) → GoesFrom n v (closed_state c)
closed_goes c n v w g r = record {
  numbers = r.numbers ∙ g.numbers;
  met = begins_trans v.findings.met w.findings.met (closed_state c).findings.met g.met r.met;
  wrote = g.wrote;
  mine = r.mine ∙ g.mine;
  late = g.late;
}

-- what it wrote before the next call is of calls before that
pub early_next : (n : ℕ) (v u : PassState) → CallGoes n v u → Each (λ (x : KeyedWrite). x.write.call < n) v.knowledge.mine → Each (λ (x : KeyedWrite). x.write.call < suc n) u.knowledge.mine
early_next n v u one early = subst (Each (λ (x : KeyedWrite). x.write.call < suc n)) (sym one.mine) (each_append (λ (x : KeyedWrite). x.write.call < suc n) v.knowledge.mine one.wrote
    (each_map (λ (x : KeyedWrite). x.write.call < n) (λ (x : KeyedWrite). x.write.call < suc n) v.knowledge.mine (λ x lt. omega arith) early)
    (each_map (λ (x : KeyedWrite). x.write.call ≡ n) (λ (x : KeyedWrite). x.write.call < suc n) one.wrote (λ x e. omega arith) one.calls))
