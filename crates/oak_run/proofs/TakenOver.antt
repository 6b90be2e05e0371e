-- What the threads wrote and found, as the last pass has taken it over: it has the number 0 and wrote nothing, and they have the numbers from 1 on.
use Rattle.std.proofs.Common.{◌≡◌, ℕ, ◌<◌, List, [], length, sym, ap, ◌∙◌, subst, arith}
use Rattle.std.specs.List.Sorted.{IsPermutation}
use Rattle.oak_model.specs.Limits.{Sizes}
use Rattle.oak_model.proofs.Lists.{begins_self}
use Rattle.oak_core.specs.declared.states.Findings.{Findings}
use Rattle.oak_core.specs.declared.states.KeyedWrite.{KeyedWrite}
use Rattle.oak_core.specs.declared.states.PassState.{PassState}
use Rattle.oak_core.specs.Callers.{of_caller}
use Rattle.oak_core.specs.Closing.{all_passes, findings_by}
use Rattle.oak_core.specs.PassState.{IsAlone, joined_from, of_key, seen_of}
use Rattle.oak_core.specs.Splitting.{Ends}
use Rattle.oak_run.specs.Shown.{FindsMore}
use Rattle.oak_run.specs.ThreadsRun.{AreNumbered, ThreadEnd}
use Rattle.oak_run.proofs.CallerParts.{parts, parts-whole}
use Rattle.oak_run.proofs.EndedWrites.{ended_writes, mine-cases, mine_in}
use Rattle.oak_run.proofs.JoinedThreads.{IsFound, findings-cases, joined_of, none_behind}

none_written : (k : ℕ) (l : List KeyedWrite) → l ≡ [] → of_key k l ≡ []
unfolding of_key
none_written k l e = ap (of_key k) e

finds_self : (f g : Findings) → g ≡ f → FindsMore f g
finds_self f g e = subst (FindsMore f) (sym e) (record { met = begins_self f.met; sights = begins_self f.sights; gones = begins_self f.gones; fulls = begins_self f.fulls; swept = begins_self f.swept })

module _ (z : Sizes) (words : List ℕ) (u : PassState) (closed : Ends z words u) (alone : IsAlone u) (ts : List ThreadEnd)
    (number : u.numbers.number ≡ 0) (joined : u.numbers.joined ≡ joined_of ts) (none : u.knowledge.mine ≡ []) where
  abbrev hs : ℕ → List KeyedWrite
  hs k = seen_of k u.knowledge

  mine_later : (i : ℕ) → 0 < i → mine_in i (all_passes u) ≡ mine_in i (joined_of ts)
  mine_later i l = mine-cases i (joined_from u) u.numbers.joined (λ x. x ≡ mine_in i (joined_of ts)) (λ same. let n = number in absurd (omega arith)) (λ _. ap (mine_in i) joined)

  mine_first : (i : ℕ) → i < 1 → mine_in i (all_passes u) ≡ []
  mine_first i l = mine-cases i (joined_from u) u.numbers.joined (λ x. x ≡ []) (λ _. none) (λ ne. let n = number in absurd (ne (omega arith)))

  findings_later : (i : ℕ) → 0 < i → findings_by i (all_passes u) ≡ findings_by i (joined_of ts)
  findings_later i l = findings-cases i (joined_from u) u.numbers.joined (λ x. x ≡ findings_by i (joined_of ts)) (λ same. let n = number in absurd (omega arith)) (λ _. ap (findings_by i) joined)

  -- a thread's findings are those by its number
  pub finds_its : (t : ThreadEnd) → IsFound 1 (joined_of ts) t → FindsMore t.state.findings (findings_by t.state.numbers.number (all_passes u))
  finds_its t f = let from = f.from in
      finds_self t.state.findings (findings_by t.state.numbers.number (all_passes u)) (findings_later t.state.numbers.number (omega arith) ∙ f.findings)

  -- and so are its writes
  pub wrote_its : (n : ℕ) (t : ThreadEnd) → IsFound 1 (joined_of ts) t → t.state.numbers.number ≡ n → (k : ℕ) → of_key k t.state.knowledge.mine ≡ of_caller n (hs k)
  wrote_its n t f e k = let from = f.from in subst (λ (i : ℕ). of_key k t.state.knowledge.mine ≡ of_caller i (hs k)) e
      (sym ((ended_writes z words u closed alone t.state.numbers.number).same k ∙ ap (of_key k) (mine_later t.state.numbers.number (omega arith) ∙ f.mine)))

  -- there are no others
  pub all_theirs : AreNumbered 1 ts → (k : ℕ) → IsPermutation (parts 1 (length ts) (hs k)) (hs k)
  all_theirs are k = parts-whole 1 (length ts) (hs k)
      (λ a l. (ended_writes z words u closed alone a).same k ∙ none_written k (mine_in a (all_passes u)) (mine_first a l))
      (λ a l. (ended_writes z words u closed alone a).same k ∙ none_written k (mine_in a (all_passes u)) (mine_later a (omega arith) ∙ none_behind 1 a ts are l))
