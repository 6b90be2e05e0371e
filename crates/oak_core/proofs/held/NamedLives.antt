-- A live header that is no one's fresh one is named by exactly one entry; that is the entry of each key whose history has its life.
use Rattle.std.proofs.Common.{◌≡◌, ℕ, ◌+◌, ◌<◌, map, sym, subst, arith, List}
use Rattle.pin_word.specs.PinWord.{generation_of, state_of}
use Rattle.oak_model.specs.Counts.{total}
use Rattle.oak_model.specs.Limits.{Sizes}
use Rattle.oak_model.proofs.Counting.{one_at-other}
use Rattle.oak_model.proofs.RowLaws.{total_le}
use Rattle.arena_core.specs.Place.{content}
use Rattle.header_core.specs.HeaderHolds.{in_state}
use Rattle.header_core.specs.declared.states.TheConstants.{LIVE, DEAD}
use Rattle.header_core.proofs.StockedStates.{stocked_high}
use Rattle.chunk_core.specs.CoverRule.{CoversPartition}
use Rattle.chunk_core.specs.CoverSums.{each, naming}
use Rattle.chunk_core.specs.ValueWord.{names_header}
use Rattle.oak_core.specs.declared.states.PassState.{PassState}
use Rattle.oak_core.specs.Callers.{CallersAgree}
use Rattle.oak_core.specs.KeyHistories.{homes_in}
use Rattle.oak_core.specs.KeyReads.{history_now, home_of, sum_now, word_now}
use Rattle.oak_core.specs.KeyRule.{KeysStand}
use Rattle.oak_core.specs.KeyStates.{unnamed}
use Rattle.oak_core.specs.Known.{known}
use Rattle.oak_core.specs.Memory.{Memory}
use Rattle.oak_core.specs.Owners.{HeadersAreHeld}
use Rattle.oak_core.specs.PassState.{headers_held, knowledge_of, rooms_held}
use Rattle.oak_core.proofs.histories.HomeKeys.{known_key}
use Rattle.oak_core.proofs.held.UnnamedHeaders.{unnamed_in, unnamed_le}

module _ (z : Sizes) (m : Memory) (vs : List PassState) (keys : KeysStand z m vs) (heads : HeadersAreHeld m.headers m.arena.bytes (known (map knowledge_of vs)) (map headers_held vs)) (h : ℕ) (live : state_of (m.headers.pin h) ≡ LIVE) (no_fresh : total (in_state h LIVE) (map headers_held vs) ≡ 0) where
  pub named_once : sum_now z m vs (each (naming h)) ≡ 1
  unfolding unnamed_in
  named_once = let n = keys.named h in let s = stocked_high (state_of (m.headers.pin h)) (omega arith) (omega arith) in let f = no_fresh in
      let d = heads.held h DEAD (omega arith) (omega arith) (λ q. absurd (omega arith)) in let o = one_at-other (state_of (m.headers.pin h)) DEAD (λ q. absurd (omega arith)) in
      let l = total_le (unnamed h) (in_state h DEAD) (map headers_held vs) (λ a. unnamed_le h a.held) in omega arith

  pub named_by : (is_key_word : ℕ → ℕ) → CoversPartition z m.rooms (content m.arena.bytes) is_key_word (map rooms_held vs) → CallersAgree vs → (g : ℕ) → generation_of (m.headers.pin h) ≡ g → names_header (home_of h g) ≡ 1 → (k : ℕ) → 0 < homes_in (home_of h g) (history_now vs k) → word_now z m vs k ≡ home_of h g + 1
  named_by is_key_word parts callers g at names k there = subst (λ (t : ℕ). word_now z m vs k ≡ home_of h t + 1) at
      (known_key z m is_key_word vs parts keys callers h (let n = named_once in omega arith) (subst (λ (t : ℕ). names_header (home_of h t) ≡ 1) (sym at) names) k (subst (λ (t : ℕ). 0 < homes_in (home_of h t) (history_now vs k)) (sym at) there))
