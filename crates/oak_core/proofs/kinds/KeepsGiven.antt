-- Giving a number keeps the rule.
use Rattle.std.proofs.Common.{false, ◌≡◌, ℕ, ◌^◌, ◌<◌, ◌≤◌, map, set, sym, refl, ap, ◌∙◌, subst, arith, Some, pow_mono}
use Rattle.std.specs.Prelude.{bit_or}
use Rattle.std.specs.Int.{bit_at}
use Rattle.std.proofs.lemmas.Nat.{or_lt}
use mathlib.Core.Option.{some}
use lib.ListN.{get_elem?}
use Rattle.oak_model.specs.Limits.{Sizes}
use Rattle.oak_model.specs.Kept.{KeptNumbersStand}
use Rattle.oak_model.proofs.Lists.{at_map, map_set, map_set_same}
use Rattle.oak_model.proofs.Changes.{stepped}
use Rattle.oak_model.proofs.KeptLaws.{kept_unkept}
use Rattle.oak_core.specs.declared.states.Findings.{Findings}
use Rattle.oak_core.specs.declared.states.PassState.{PassState}
use Rattle.oak_core.specs.Memory.{Memory, at_given, same_spot, read, write, memory, index}
use Rattle.oak_core.specs.Finding.{finding, leaving}
use Rattle.oak_core.specs.PassState.{numbers_of, findings_of, knowledge_of, kept_of}
use Rattle.oak_core.specs.TableState.{TableState}
use Rattle.oak_core.specs.Rule.{NumbersStand, FoundStays, FindingsStand, HistoriesStand, FindingsHold, Rule}
use Rattle.oak_core.specs.Step.{give_number, MayGive, found, state_after, table_after}
use Rattle.oak_core.proofs.memory.Words.{read-write, memory_read}
use Rattle.oak_core.proofs.owners.KeptWords.{given_unkept}
use Rattle.oak_core.proofs.seats.GivenNumbers.{number_given, bits_stay}
use Rattle.oak_core.proofs.calls.Found.{found_on, found_more}
use Rattle.oak_core.proofs.kinds.Keeps.{same_number, headers_stay, blocks_stay, rooms_stay, stepped_rule}
use Rattle.oak_core.proofs.calls.Lacked.{fulls_met}
use Rattle.oak_core.proofs.keyed.KeyBundles.{keys_now, keys_idle, rooms_still}
use Rattle.oak_core.proofs.known.PinsKnown.{pins_same}

module _ (z : Sizes) (s : TableState) (call seat : ℕ) (v : PassState) (r : Rule z s) (here : get_elem? s.states seat ≡ some v) (going : v.numbers.spent ≡ false) (k : ℕ) (may : MayGive z k v) where
  abbrev m : Memory
  m = memory z s.words

  abbrev n : ℕ
  n = found z (give_number k) s

  abbrev x : ℕ
  x = bit_or n (2 ^ k)

  abbrev w : PassState
  w = state_after z call (give_number k) s v

  given_is : m.given ≡ n
  given_is = memory_read z s.words at_given tt

  stands : NumbersStand z n (map numbers_of s.states)
  stands = subst (λ (g : ℕ). NumbersStand z g (map numbers_of s.states)) given_is r.numbers

  still_found : (fs : Findings) (j : ℕ) → get_elem? (map findings_of s.states) j ≡ some fs → FoundStays n fs
  still_found fs j e = subst (λ (g : ℕ). FoundStays g fs) given_is (r.findings j fs e).found

  lower : (j : ℕ) → j < k → bit_at n j ≡ 1
  lower j lt = still_found v.findings seat (at_map findings_of s.states seat v here) j (may.lower j lt)

  at : get_elem? (map numbers_of s.states) seat ≡ some v.numbers
  at = at_map numbers_of s.states seat v here

  up : (j : ℕ) → bit_at n j ≡ 1 → bit_at x j ≡ 1
  up = bits_stay z n k (map numbers_of s.states) seat v.numbers at stands may.few may.hand going lower

  small : x < 2 ^ 64
  small = or_lt 64 n (2 ^ k) (r.words.small (index z at_given)) (let p = r.sizes.passes_greatest in let f = may.few in let a : 2 ^ k ≤ 2 ^ 63 = pow_mono {i = k} {j = 63} (omega arith) in omega arith)

  findings_after : FindingsStand z x (map findings_of (set s.states seat w))
  findings_after = subst (FindingsStand z x) (sym (map_set findings_of s.states seat w))
      ((stepped (map findings_of s.states) seat v.findings w.findings (at_map findings_of s.states seat v here)).every (FindingsHold z x) (
        record {
          found = found_more x v.findings w.findings (leaving (finding z call at_given (Some n) x s.words v)) refl (λ _ j e b set_bit. up b (ap (λ (i : ℕ). bit_at i b) (same_number n j e) ∙ set_bit))
              (found_on n x v.findings up (still_found v.findings seat (at_map findings_of s.states seat v here)));
          noted = fulls_met z v.findings w.findings (leaving (finding z call at_given (Some n) x s.words v)) refl (r.findings seat v.findings (at_map findings_of s.states seat v here)).noted;
        },
        tt,
      )
      (λ j fs _ e. record { found = found_on n x fs up (still_found fs j e); noted = (r.findings j fs e).noted }))

  pub give_keeps : Rule z (table_after z call (give_number k) seat v s)
  give_keeps = stepped_rule z s call seat v r here going (give_number k) tt small
      (subst (NumbersStand z x) (sym (map_set numbers_of s.states seat w)) (number_given z n k (map numbers_of s.states) seat v.numbers at stands may.few may.hand going lower))
      findings_after
      (subst HistoriesStand (sym (map_set_same knowledge_of s.states seat v w here refl)) r.histories)
      (blocks_stay z s call seat v r here going w refl refl)
      (headers_stay z s call seat v r here going w refl refl)
      (rooms_stay z s call seat v r here going w refl)
      (keys_idle z m (write m at_given x) s.states seat v w here (keys_now z s r) (rooms_still z m s.states seat v w here refl) refl refl refl refl (λ h _. refl) (pins_same v w refl refl (r.heard.pins seat v here)))
      (subst (KeptNumbersStand same_spot (read (write m at_given x))) (sym (map_set_same kept_of s.states seat v w here refl))
      (kept_unkept same_spot (read m) (read (write m at_given x)) at_given x (λ q. read-write m at_given q x) (map kept_of s.states) (given_unkept s.states) r.kept)) (r.passes seat v here)
