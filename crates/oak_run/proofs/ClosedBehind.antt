-- What the last pass of a closed table has seen goes on from itself, and its findings are the closed ones.
use Rattle.std.proofs.Common.{◌≡◌, ℕ, ◌≤◌, Bool, cond, List, sym, ap, subst, refl, eq-eqb}
use Rattle.oak_model.specs.Counts.{total}
use Rattle.oak_model.specs.Limits.{Sizes}
use Rattle.oak_model.proofs.Lists.{begins_self}
use Rattle.oak_core.specs.declared.closing.Closed.{Closed}
use Rattle.oak_core.specs.declared.states.Findings.{Findings}
use Rattle.oak_core.specs.declared.states.KeyedWrite.{KeyedWrite}
use Rattle.oak_core.specs.declared.states.PassState.{PassState}
use Rattle.oak_core.specs.Callers.{begins}
use Rattle.oak_core.specs.Closing.{all_passes, closed_findings, closed_key, closed_state, closed_words, findings_by}
use Rattle.oak_core.specs.KeyHistories.{IsKeyHistory}
use Rattle.oak_core.specs.Memory.{memory}
use Rattle.oak_core.specs.PassState.{seen_of}
use Rattle.oak_core.specs.Splitting.{Ends}
use Rattle.oak_core.proofs.known.KnownHere.{known_here}
use Rattle.oak_core.proofs.histories.LivesOnce.{begins_once}
use Rattle.oak_run.specs.Behind.{GoesBehind}
use Rattle.oak_run.specs.Shown.{FindsMore}

pub ends_behind : (z : Sizes) (words : List ℕ) (v : PassState) → Ends z words v → GoesBehind v (λ k. seen_of k v.knowledge)
ends_behind z words v e = record {
  seen = λ k. begins_self (seen_of k v.knowledge);
  places = λ k at r knows. (known_here z (memory z e.table.words) e.table.states e.rule.keys.legal e.rule.histories e.rule.heard e.seat v e.here k at r knows).0;
  legal = λ k. subst (IsKeyHistory k) (e.histories k) (e.rule.keys.legal k);
  once = λ k x names. subst (λ (h : List KeyedWrite). total (begins x) h ≤ 1) (e.histories k) (begins_once e.table.states e.rule.callers x k names);
}

pub closed_behind : (c : Closed) → Ends (closed_key c) (closed_words c) (closed_state c) → GoesBehind (closed_state c) (λ k. seen_of k (closed_state c).knowledge)
closed_behind c = ends_behind (closed_key c) (closed_words c) (closed_state c)

-- by its number the closed findings are those of the last pass
own_findings : (v : PassState) → findings_by v.numbers.number (all_passes v) ≡ v.findings
unfolding findings_by
own_findings v = ap (λ (b : Bool). cond b v.findings (findings_by v.numbers.number v.numbers.joined)) (eq-eqb v.numbers.number v.numbers.number refl)

pub closed_finds : (c : Closed) (f : Findings) → FindsMore f (closed_state c).findings → FindsMore f (closed_findings c (closed_state c).numbers.number)
closed_finds c f more = subst (FindsMore f) (sym (own_findings (closed_state c))) more
