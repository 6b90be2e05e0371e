-- Calls of a pass that write nothing, one behind the other, and what a lone pass has seen between them.
use Rattle.std.proofs.Common.{◌≡◌, ℕ, List, [], sym, refl, ap, ◌∙◌, subst, append-nil}
use Rattle.oak_model.specs.Counts.{Begins, Each}
use Rattle.oak_model.specs.Limits.{Sizes}
use Rattle.oak_model.proofs.Lists.{begins_self, begins_trans}
use Rattle.chunk_ops.specs.RoomPins.{HadMoment}
use Rattle.oak_core.specs.declared.states.Joined.{Joined}
use Rattle.oak_core.specs.declared.states.Knowledge.{Knowledge}
use Rattle.oak_core.specs.declared.states.Numbers.{Numbers}
use Rattle.oak_core.specs.declared.states.PassState.{PassState}
use Rattle.oak_core.specs.CallSteps.{Learns}
use Rattle.oak_core.specs.KnownPlaces.{KnowsPlace}
use Rattle.oak_core.specs.PassState.{IsAlone, of_key, seen_of}
use Rattle.oak_core.specs.Splitting.{Ends}
use Rattle.oak_core.proofs.seats.Alone.{ends}
use Rattle.oak_core.proofs.known.Remembering.{extends_self, extends_then, remembers_self, remembers_then}
use Rattle.rebalance.specs.Calls.{Leaves}
use Rattle.oak_run.specs.Reads.{OnlyReads}
use Rattle.oak_run.proofs.BehindLaws.{finds_before}
use Rattle.oak_run.proofs.OwnWrites.{seen_is_own}

begins_same : {A : Type 0} (a b : List A) → b ≡ a → Begins a b
begins_same a b e = ([], e ∙ sym (append-nil a))

pub reads_itself : (v : PassState) → OnlyReads v v
reads_itself v = record {
  met = begins_self v.findings.met;
  extends = extends_self v;
  remembers = remembers_self v.knowledge;
  finds = record { met = begins_self v.findings.met; sights = begins_self v.findings.sights; gones = begins_self v.findings.gones; fulls = begins_self v.findings.fulls; swept = begins_self v.findings.swept };
  numbers = refl;
  mine = refl;
}

pub reads_then : (u v w : PassState) → OnlyReads u v → OnlyReads v w → OnlyReads u w
reads_then u v w a b = record {
  met = begins_trans u.findings.met v.findings.met w.findings.met a.met b.met;
  extends = extends_then u v w a.extends b.extends;
  remembers = remembers_then u.knowledge v.knowledge w.knowledge a.remembers b.remembers;
  finds = finds_before u.findings v.findings w.findings a.finds b.finds;
  numbers = b.numbers ∙ a.numbers;
  mine = b.mine ∙ a.mine;
}

-- a call that may have learned
pub learns_reads : (call : ℕ) (v w : PassState) → Learns call v w → OnlyReads v w
learns_reads call v w l = record {
  met = (l.met.more, l.met.met);
  extends = l.all.seen;
  remembers = l.all.remembers;
  finds = record { met = (l.met.more, l.met.met); sights = (l.sights.more, l.sights.sights); gones = l.all.gones; fulls = begins_same v.findings.fulls w.findings.fulls l.all.fulls; swept = begins_same v.findings.swept w.findings.swept l.all.swept };
  numbers = l.all.numbers;
  mine = l.all.mine;
}

-- a call that only rebalanced
pub leaves_reads : (call : ℕ) (v w : PassState) → Leaves call v w → OnlyReads v w
leaves_reads call v w l = record {
  met = (l.met.more, l.met.met);
  extends = λ k. begins_same (seen_of k v.knowledge) (seen_of k w.knowledge) (ap (seen_of k) l.knowledge);
  remembers = λ k at r knows. subst (λ (q : Knowledge). KnowsPlace k at r q) (sym l.knowledge) knows;
  finds = record { met = (l.met.more, l.met.met); sights = begins_same v.findings.sights w.findings.sights l.sights; gones = begins_same v.findings.gones w.findings.gones l.gones; fulls = begins_same v.findings.fulls w.findings.fulls l.fulls; swept = l.swept };
  numbers = l.numbers;
  mine = ap (λ (q : Knowledge). q.mine) l.knowledge;
}

-- it keeps all that the pass had seen
pub leaves_seen : (call : ℕ) (v w : PassState) → Leaves call v w → Begins v.knowledge.seen w.knowledge.seen
leaves_seen call v w l = begins_same v.knowledge.seen w.knowledge.seen (ap (λ (q : Knowledge). q.seen) l.knowledge)

-- a lone pass that wrote all there is had seen it all at an earlier moment behind its writes
pub seen_settled : (z : Sizes) (words : List ℕ) (v w : PassState) → HadMoment z v → IsAlone v → OnlyReads v w → Ends z words w → w.numbers.number ≡ 1 → Each (λ (j : Joined). j.mine ≡ []) w.numbers.joined → (k : ℕ) → seen_of k v.knowledge ≡ seen_of k w.knowledge
seen_settled z words v w had alone reads closed number idle k =
    let m = had.1 in
    let here : Ends z had.0 v = ends z record { words = had.0; states = m.states } m.rule m.seat v m.here alone had.0 refl in
    let first : v.numbers.number ≡ 1 = sym (ap (λ (n : Numbers). n.number) reads.numbers) ∙ number in
    let idle_then : Each (λ (j : Joined). j.mine ≡ []) v.numbers.joined = subst (λ (n : Numbers). Each (λ (j : Joined). j.mine ≡ []) n.joined) reads.numbers idle in
    seen_is_own z had.0 v here first idle_then k ∙ (ap (of_key k) (sym reads.mine) ∙ sym (seen_is_own z words w closed number idle k))
