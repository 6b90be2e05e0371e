-- A step of one seat that makes no write, and changes no history and none of its pass's numbers, keeps the points on callers, and the number of all writes.
use Rattle.std.proofs.Common.{◌≡◌, ◌≢◌, ℕ, List, [], None, length, set, sym, ap, ◌∙◌, subst, ⊎_elim, arith}
use mathlib.Core.Option.{some}
use lib.ListN.{get_elem?}
use Rattle.oak_model.specs.Counts.{total, Each}
use Rattle.oak_model.proofs.Counting.{total_set, total_map}
use Rattle.oak_model.proofs.Lists.{at_set, each_map}
use Rattle.oak_core.specs.declared.states.Joined.{Joined}
use Rattle.oak_core.specs.declared.states.KeyedWrite.{KeyedWrite}
use Rattle.oak_core.specs.declared.states.Numbers.{Numbers}
use Rattle.oak_core.specs.declared.states.PassState.{PassState}
use Rattle.oak_core.specs.Callers.{AreWritesOf, WritesStand, CallersAgree, of_caller, made_by, made_of, begins}
use Rattle.oak_core.specs.KeyReads.{history_now}
use Rattle.oak_core.specs.PassState.{rooted, numbers_of}

-- they speak of the histories alone
writes_same : (hist hist' : ℕ → List KeyedWrite) → ((k : ℕ) → hist' k ≡ hist k) → (i : ℕ) (mine : List KeyedWrite) → AreWritesOf hist i mine → AreWritesOf hist' i mine
writes_same hist hist' same i mine a = record { same = λ k. ap (of_caller i) (same k) ∙ a.same k; rise = a.rise; small = a.small }

stand_same : (hist hist' : ℕ → List KeyedWrite) → ((k : ℕ) → hist' k ≡ hist k) → (v : PassState) → WritesStand hist v → WritesStand hist' v
stand_same hist hist' same v s = record {
  own = λ going. writes_same hist hist' same v.numbers.number v.knowledge.mine (s.own going);
  joined = each_map (λ (j : Joined). AreWritesOf hist j.number j.mine) (λ (j : Joined). AreWritesOf hist' j.number j.mine) v.numbers.joined (λ j a. writes_same hist hist' same j.number j.mine a) s.joined;
}

-- the numbers that a pass has as its own, or of those joined into it
abbrev pub without_hand : Numbers → Numbers
without_hand n = record n { hand = None; made = [] }

module _ (vs : List PassState) (seat : ℕ) (v u : PassState) (here : get_elem? vs seat ≡ some v) (numbers : without_hand u.numbers ≡ without_hand v.numbers) (mine : u.knowledge.mine ≡ v.knowledge.mine) where
  pub made_same : (f : KeyedWrite → ℕ) → total (made_of f) (set vs seat u) ≡ total (made_of f) vs
  made_same f = let t = total_set (made_of f) vs seat v u here in let a = ap (total f) mine in let b = ap (λ (n : Numbers). total (λ (j : Joined). total f j.mine) n.joined) numbers in omega arith

  pub made_kept : total made_by (set vs seat u) ≡ total made_by vs
  made_kept = let t = total_set made_by vs seat v u here in let a = ap (λ (l : List KeyedWrite). length l) mine in let b = ap (λ (n : Numbers). total (λ (j : Joined). length j.mine) n.joined) numbers in omega arith

  pub callers_kept : CallersAgree vs → ((k : ℕ) → history_now (set vs seat u) k ≡ history_now vs k) → CallersAgree (set vs seat u)
  callers_kept callers same = record {
    writes = λ j t at. ⊎_elim (λ (y : (j ≡ seat) × (u ≡ t)). subst (WritesStand (history_now (set vs seat u))) y.1 own)
        (λ (y : (j ≢ seat) × (get_elem? vs j ≡ some t)). stand_same (history_now vs) (history_now (set vs seat u)) same t (callers.writes j t y.1)) (at_set vs seat j u t at);
    others = λ i k none. ap (of_caller i) (same k) ∙ callers.others i k (let a = total_map numbers_of (rooted i) vs in let b = total_map numbers_of (rooted i) (set vs seat u) in let t = total_set (λ (x : PassState). rooted i x.numbers) vs seat v u here in let e = ap (rooted i) numbers in omega arith);
    distinct = λ x names. let d = callers.distinct x names in let m = made_same (begins x) in omega arith;
  }
    where
      own : WritesStand (history_now (set vs seat u)) u
      own = let s = stand_same (history_now vs) (history_now (set vs seat u)) same v (callers.writes seat v here) in record {
        own = λ going. subst (λ (t : ℕ × List KeyedWrite). AreWritesOf (history_now (set vs seat u)) t.0 t.1) (λ i. (ap (λ (n : Numbers). n.number) (sym numbers) i, sym mine i)) (s.own (ap (λ (n : Numbers). n.spent) (sym numbers) ∙ going));
        joined = subst (λ (n : Numbers). Each (λ (j : Joined). AreWritesOf (history_now (set vs seat u)) j.number j.mine) n.joined) (sym numbers) s.joined;
      }
