-- The states of a header that a pass knows at its generation.
use Rattle.std.proofs.Common.{◌≡◌, ◌⊎◌, ℕ, ◌<◌, map, inl, inr, arith}
use mathlib.Core.Logic.{dite}
use mathlib.Core.Option.{some}
use native.Mathlib.Decide.{ℕ_discrete, dec_lt}
use lib.ListN.{get_elem?}
use Rattle.pin_word.specs.PinWord.{generation_of, state_of}
use Rattle.oak_model.specs.Counts.{total}
use Rattle.oak_model.specs.Limits.{Sizes}
use Rattle.oak_model.proofs.Counting.{one_at-other}
use Rattle.oak_model.proofs.Lists.{at_map}
use Rattle.arena_core.specs.Place.{IsPlace, content}
use Rattle.header_core.specs.declared.states.TheConstants.{LIVE, LOCKED, DEAD}
use Rattle.header_core.specs.HeaderHolds.{fresh_at}
use Rattle.header_core.specs.HeaderRule.{stocked}
use Rattle.header_core.proofs.HeaderFacts.{fresh_at_is, known_settled, known_unheld}
use Rattle.oak_core.specs.declared.states.PassState.{PassState}
use Rattle.oak_core.specs.Known.{knows_life, KnowsHeader}
use Rattle.oak_core.specs.Memory.{memory}
use Rattle.oak_core.specs.PassState.{headers_held, knowledge_of}
use Rattle.oak_core.specs.Rule.{Rule}
use Rattle.oak_core.specs.TableState.{TableState}
use Rattle.oak_core.proofs.held.HeaderStanding.{knows}
use Rattle.oak_core.proofs.known.KnownLaws.{known_some}
use Rattle.value_ops.specs.Claiming.{holds_header}

-- a header in this state is in use: live, locked, or dead and not taken back
abbrev pub IsInUse : ℕ → Type 0
IsInUse s = (s ≡ LIVE) ⊎ ((s ≡ LOCKED) ⊎ (s ≡ DEAD))

stocked_cases : (s : ℕ) → 0 < stocked s → IsInUse s
stocked_cases s some_of = dite (ℕ_discrete s LIVE) inl (λ n. inr (dite (ℕ_discrete s LOCKED) inl (λ k. inr (dite (ℕ_discrete s DEAD) (λ e. e)
    (λ d. let a = one_at-other s LIVE n in let b = one_at-other s LOCKED k in let c = one_at-other s DEAD d in absurd (omega arith))))))

-- at a moment at which the rule holds
module _ (z : Sizes) (s : TableState) (r : Rule z s) (seat : ℕ) (v : PassState) (here : get_elem? s.states seat ≡ some v) (h g : ℕ) (at : generation_of ((memory z s.words).headers.pin h) ≡ g) where
  is_known : 0 < knows_life h g v.knowledge → 0 < knows s h g
  is_known some_of = let k = known_some h g (map knowledge_of s.states) seat v.knowledge (at_map knowledge_of s.states seat v here) some_of in omega arith

  pub known_state : KnowsHeader h g v → IsInUse (state_of ((memory z s.words).headers.pin h))
  known_state known = dite (dec_lt 0 (knows_life h g v.knowledge))
      (λ some_of. let t = known_settled (memory z s.words).headers (content (memory z s.words).arena.bytes) IsPlace (knows s) (map headers_held s.states) r.headers h g (is_known some_of) at in
      let one = t.0 in stocked_cases (state_of ((memory z s.words).headers.pin h)) (omega arith))
      (λ none. let fresh : 0 < fresh_at h g v.headers = omega arith in
      inl (fresh_at_is (memory z s.words).headers (content (memory z s.words).arena.bytes) IsPlace (knows s) (map headers_held s.states) r.headers seat v.headers h g (at_map headers_held s.states seat v here) fresh).0)

  -- one that is live, and known other than as a fresh one, no pass holds
  pub known_free : 0 < knows_life h g v.knowledge → state_of ((memory z s.words).headers.pin h) ≡ LIVE → total (holds_header h) (map headers_held s.states) ≡ 0
  known_free some_of live = known_unheld (memory z s.words).headers (content (memory z s.words).arena.bytes) IsPlace (knows s) (map headers_held s.states) r.headers h g (is_known some_of) at live
