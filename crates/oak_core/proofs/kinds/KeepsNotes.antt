-- Noting a call keeps the rule.
use Rattle.std.proofs.Common.{◌≡◌, ℕ, false, map, length, set, sym, refl, subst, Option, Some}
use mathlib.Core.Option.{some}
use lib.ListN.{get_elem?}
use Rattle.oak_model.specs.declared.replies.Lack.{Lack}
use Rattle.oak_model.specs.Kept.{KeptNumbersStand}
use Rattle.oak_model.specs.Limits.{Sizes}
use Rattle.oak_model.proofs.Lists.{at_map, map_set_same}
use Rattle.oak_model.proofs.KeptLaws.{kept_unkept}
use Rattle.oak_core.specs.declared.states.PassState.{PassState}
use Rattle.oak_core.specs.Memory.{Memory, at_given, same_spot, read, write, memory, index}
use Rattle.oak_core.specs.Finding.{finding}
use Rattle.oak_core.specs.Lack.{Lacks}
use Rattle.oak_core.specs.PassState.{numbers_of, findings_of, knowledge_of, kept_of}
use Rattle.oak_core.specs.Rule.{NumbersStand, FindingsStand, HistoriesStand, Rule}
use Rattle.oak_core.specs.Step.{note_full, found, state_after, table_after}
use Rattle.oak_core.specs.TableState.{TableState}
use Rattle.oak_core.proofs.kinds.Keeps.{findings_stay, headers_stay, blocks_stay, rooms_stay, stepped_rule}
use Rattle.oak_core.proofs.owners.KeptWords.{given_unkept}
use Rattle.oak_core.proofs.calls.Lacked.{fulls_noted}
use Rattle.oak_core.proofs.memory.Words.{memory_read, read-write}
use Rattle.oak_core.proofs.keyed.KeyBundles.{keys_now, keys_idle, rooms_still}
use Rattle.oak_core.proofs.known.PinsKnown.{pins_same}

module _ (z : Sizes) (s : TableState) (call seat : ℕ) (v : PassState) (r : Rule z s) (here : get_elem? s.states seat ≡ some v) (going : v.numbers.spent ≡ false) (lack : Lack) (began : ℕ)
    (may : (spare : Option ℕ) × Lacks z call lack spare began (length v.findings.met) v.findings) where
  abbrev m : Memory
  m = memory z s.words

  abbrev n : ℕ
  n = found z (note_full lack began) s

  abbrev w : PassState
  w = state_after z call (note_full lack began) s v

  given_is : m.given ≡ n
  given_is = memory_read z s.words at_given tt

  pub note_keeps : Rule z (table_after z call (note_full lack began) seat v s)
  note_keeps = stepped_rule z s call seat v r here going (note_full lack began) tt (r.words.small (index z at_given))
      (subst (λ (g : ℕ). NumbersStand z g (map numbers_of (set s.states seat w))) given_is (subst (NumbersStand z m.given) (sym (map_set_same numbers_of s.states seat v w here refl)) r.numbers))
      (subst (λ (g : ℕ). FindingsStand z g (map findings_of (set s.states seat w))) given_is
      (findings_stay z s call seat v r here going at_given n w refl (fulls_noted z call lack may.0 began (finding z call at_given (Some n) n s.words v) v may.1 (r.findings seat v.findings (at_map findings_of s.states seat v here)).noted) tt refl))
      (subst HistoriesStand (sym (map_set_same knowledge_of s.states seat v w here refl)) r.histories)
      (blocks_stay z s call seat v r here going w refl refl)
      (headers_stay z s call seat v r here going w refl refl)
      (rooms_stay z s call seat v r here going w refl)
      (keys_idle z m (write m at_given n) s.states seat v w here (keys_now z s r) (rooms_still z m s.states seat v w here refl) refl refl refl refl (λ h _. refl) (pins_same v w refl refl (r.heard.pins seat v here)))
      (subst (KeptNumbersStand same_spot (read (write m at_given n))) (sym (map_set_same kept_of s.states seat v w here refl))
      (kept_unkept same_spot (read m) (read (write m at_given n)) at_given n (λ q. read-write m at_given q n) (map kept_of s.states) (given_unkept s.states) r.kept)) (r.passes seat v here)
