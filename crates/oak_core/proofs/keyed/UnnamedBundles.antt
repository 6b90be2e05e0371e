-- The points on keys, and with them, behind a step that changes the pin word of a header that no entry names.
use Rattle.std.proofs.Common.{◌≡◌, ◌≢◌, ℕ, ◌+◌, ◌<◌, List, map, set, refl, ap, ◌∙◌, arith}
use mathlib.Core.Logic.{dite}
use mathlib.Core.Option.{some}
use native.Mathlib.Decide.{dec_lt}
use lib.ListN.{get_elem?}
use Rattle.pin_word.specs.PinWord.{state_of, generation_of}
use Rattle.oak_model.specs.Counts.{Each, Has}
use Rattle.oak_model.specs.Limits.{Sizes}
use Rattle.oak_model.proofs.Counting.{total_at}
use Rattle.oak_model.proofs.Lists.{at_map, map_set_same}
use Rattle.oak_model.proofs.PutLaws.{put-here, put-else, put-level}
use Rattle.header_core.specs.declared.states.TheConstants.{LIVE, DEAD, RETIRED}
use Rattle.header_core.specs.declared.holds.HeldHeader.{HeldHeader}
use Rattle.header_core.specs.Headers.{at_pin}
use Rattle.header_core.specs.HeaderHolds.{in_state, held_state}
use Rattle.header_core.specs.HeaderRule.{stocked}
use Rattle.header_core.specs.HeaderStep.{put_header}
use Rattle.header_core.proofs.HeldHeaders.{rows_have}
use Rattle.chunk_core.specs.CoverSums.{each, naming}
use Rattle.oak_core.specs.declared.states.KeyedWrite.{KeyedWrite}
use Rattle.oak_core.specs.declared.states.Knowledge.{Knowledge}
use Rattle.oak_core.specs.declared.states.PassState.{PassState}
use Rattle.oak_core.specs.EntryOwners.{is_key_word}
use Rattle.oak_core.specs.KeyReads.{sum_now, history_now}
use Rattle.oak_core.specs.KeyStates.{unnamed, HoldStands}
use Rattle.oak_core.specs.Memory.{Memory, memory, in_headers, write}
use Rattle.oak_core.specs.PassState.{headers_held, knowledge_of, history}
use Rattle.oak_core.specs.Rule.{Rule}
use Rattle.oak_core.specs.TableState.{TableState}
use Rattle.oak_core.proofs.histories.CallersKept.{without_hand}
use Rattle.oak_core.proofs.owners.HeaderSums.{held_in_state}
use Rattle.oak_core.proofs.keyed.KeyBundles.{KeyBundles, CoversStay, keys_now, bundles_kept, rooms_still}
use Rattle.oak_core.proofs.keyed.KeysAfter.{pin_still}
use Rattle.oak_core.proofs.keyed.KeysUnnamed.{keys_unnamed}
use Rattle.oak_core.proofs.lessons.LessonRanges.{heard_covers}
use Rattle.oak_core.proofs.owners.OwnedAndKept.{state_is}
use Rattle.oak_core.proofs.known.PinsKnown.{pins_same}
use Rattle.oak_core.proofs.held.UnnamedHeaders.{unnamed_in, unnamed_le}

module _ (z : Sizes) (s : TableState) (seat : ℕ) (v : PassState) (r : Rule z s) (here : get_elem? s.states seat ≡ some v) where
  abbrev m : Memory
  m = memory z s.words

  -- a held header is in the state in which it is held
  pub held_so : (q : HeldHeader) → Has q v.headers.held → state_of ((memory z s.words).headers.pin q.header) ≡ held_state q.held_as
  held_so q has = let b = held_in_state q.held_as in state_is z s seat v r here q.header (held_state q.held_as) b.0 b.1 (rows_have q.header (held_state q.held_as) v.headers.held q has refl refl)

  -- so in another state there is none
  pub not_so : (h t : ℕ) → 0 < t → t < RETIRED → state_of ((memory z s.words).headers.pin h) ≢ t → in_state h t v.headers ≡ 0
  not_so h t pos low ne = dite (dec_lt 0 (in_state h t v.headers)) (λ l. absurd (ne (state_is z s seat v r here h t pos low l))) (λ no. omega arith)

  pub not_buried : (h : ℕ) → state_of ((memory z s.words).headers.pin h) ≢ DEAD → unnamed_in h v.headers.held ≡ 0
  not_buried h ne = let l = unnamed_le h v.headers.held in let n = not_so h DEAD (omega arith) (omega arith) ne in omega arith

  -- the pin word of a header that no entry names changes, and not its generation
  module _ (h x : ℕ) (w : PassState) (rooms : w.rooms ≡ v.rooms) (knowledge : w.knowledge ≡ v.knowledge) (numbers : without_hand w.numbers ≡ without_hand v.numbers) (pin : w.headers.pin ≡ v.headers.pin) (free : stocked (state_of ((memory z s.words).headers.pin h)) ≡ in_state h LIVE v.headers) (generation : generation_of x ≡ generation_of ((memory z s.words).headers.pin h)) (alive : state_of x ≢ DEAD)
      (level : in_state h LIVE w.headers + unnamed_in h w.headers.held + stocked (state_of ((memory z s.words).headers.pin h)) ≡ in_state h LIVE v.headers + unnamed_in h v.headers.held + stocked (state_of x))
      (others : (j : ℕ) → j ≢ h → in_state j LIVE w.headers + unnamed_in j w.headers.held ≡ in_state j LIVE v.headers + unnamed_in j v.headers.held)
      (holds : (word : ℕ → ℕ) (hist : ℕ → List KeyedWrite) → Each (λ (q : HeldHeader). HoldStands word hist q.held_as q) v.headers.held → Each (λ (q : HeldHeader). HoldStands word hist q.held_as q) w.headers.held) where
    unnamed_now : sum_now z (memory z s.words) s.states (each (naming h)) ≡ 0
    unnamed_now = let n = r.keys.named h in let t = total_at (in_state h LIVE) (map headers_held s.states) seat v.headers (at_map headers_held s.states seat v here) in omega arith

    counts : (j : ℕ) → in_state j LIVE w.headers + unnamed j w.headers + stocked (state_of ((memory z s.words).headers.pin j)) ≡ in_state j LIVE v.headers + unnamed j v.headers + stocked (state_of ((put_header (memory z s.words).headers (at_pin h) x).pin j))
    unfolding unnamed_in
    counts = put-level m.headers.pin h x (λ (t : ℕ). stocked (state_of t)) (λ j. in_state j LIVE v.headers + unnamed j v.headers) (λ j. in_state j LIVE w.headers + unnamed j w.headers) level others

    same : (k : ℕ) → history_now (set s.states seat w) k ≡ history_now s.states k
    same k = ap (history k) (map_set_same knowledge_of s.states seat v w here knowledge)

    stay : CoversStay z (memory z s.words) (memory z s.words) s.states (set s.states seat w)
    stay = rooms_still z m s.states seat v w here rooms

    pub unnamed_bundles : KeyBundles z (write (memory z s.words) (in_headers (at_pin h)) x) (set s.states seat w)
    unnamed_bundles = bundles_kept z m (write m (in_headers (at_pin h)) x) s.states seat v w here (keys_now z s r) stay numbers (ap (λ (q : Knowledge). q.mine) knowledge) same (pin_still m.headers h x (λ d. absurd (alive d)) generation)
        (keys_unnamed z m is_key_word s.states r.covers r.keys seat v w here rooms knowledge h unnamed_now (put_header m.headers (at_pin h) x) (λ j ne. put-else m.headers.pin h x j ne) (λ j _. refl) (λ j _. refl) (ap generation_of (put-here m.headers.pin h x h refl) ∙ generation) counts holds)
        (heard_covers z m (write m (in_headers (at_pin h)) x) s.states seat v w here r.heard knowledge (pins_same v w pin knowledge (r.heard.pins seat v here)) stay)
