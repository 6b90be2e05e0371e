-- What the rule says of a life of which a pass knows the key: while its header is live at the generation, what stands there is what its key's last write left, and a life that is over was removed.
use Rattle.std.proofs.Common.{◌≡◌, ℕ, ◌+◌, ◌<◌, ◌≤◌, true, List, map, ap, ◌∙◌, subst, arith, Some}
use mathlib.Core.Option.{some}
use lib.ListN.{get_elem?}
use Rattle.pin_word.specs.PinWord.{generation_of, state_of}
use Rattle.pin_word.proofs.Laws.{generation_small}
use Rattle.oak_model.specs.Counts.{Each, Every}
use Rattle.oak_model.specs.KeyNumber.{key_number}
use Rattle.oak_model.specs.Limits.{Sizes}
use Rattle.oak_model.proofs.Lists.{at_map, at_unmap}
use Rattle.oak_model.proofs.MemberLaws.{each_in}
use Rattle.header_core.specs.declared.holds.HeaderHolds.{HeaderHolds}
use Rattle.header_core.specs.declared.holds.HeldHeader.{HeldHeader}
use Rattle.header_core.specs.declared.states.TheConstants.{LIVE, DEAD}
use Rattle.header_core.proofs.HeaderFacts.{true_numbers}
use Rattle.oak_core.specs.declared.states.PassState.{PassState}
use Rattle.oak_core.specs.EntryOwners.{is_key_word}
use Rattle.oak_core.specs.HeaderTeaching.{is_over}
use Rattle.oak_core.specs.KeyHistories.{IsRemoved, IsRemovedAt, stamp_behind, state_behind}
use Rattle.oak_core.specs.KeyReads.{base_now, history_now, home_of, level_now, shown_by, word_now}
use Rattle.oak_core.specs.KeyStates.{IsHome}
use Rattle.oak_core.specs.Known.{known}
use Rattle.oak_core.specs.LifeKeys.{key_known}
use Rattle.oak_core.specs.Memory.{Memory, memory}
use Rattle.oak_core.specs.PassState.{headers_held, knowledge_of}
use Rattle.oak_core.specs.Rule.{Rule}
use Rattle.oak_core.specs.TableState.{TableState}
use Rattle.oak_core.proofs.held.HeaderStanding.{parts, small_pin}
use Rattle.oak_core.proofs.memory.HomeWords.{NamesAt, home_names}
use Rattle.oak_core.proofs.known.KnownHeaders.{known_life, none_fresh}
use Rattle.oak_core.proofs.known.KnownKeys.{IsKeyOfLife, known_is}
use Rattle.oak_core.proofs.known.KnownLaws.{known_some}
use Rattle.oak_core.proofs.keyed.Levels.{level-last}
use Rattle.oak_core.proofs.held.NamedLives.{named_by}
use Rattle.oak_core.proofs.histories.OverLives.{dead_removed, over_removed}

module _ (z : Sizes) (s : TableState) (r : Rule z s) (seat : ℕ) (v : PassState) (here : get_elem? s.states seat ≡ some v) (h g : ℕ) (inside : h < z.headers) (key : List ℕ) (knows : key_known h g v.knowledge ≡ Some key) where
  abbrev m : Memory
  m = memory z s.words

  q_here : get_elem? (map knowledge_of s.states) seat ≡ some v.knowledge
  q_here = at_map knowledge_of s.states seat v here

  known_now : 0 < known (map knowledge_of s.states) h g
  known_now = let k = known_some h g (map knowledge_of s.states) seat v.knowledge q_here (known_life h g key v.knowledge knows) in omega arith

  -- a value word names it
  pub named_at : NamesAt h g
  named_at = home_names h g (let l = r.sizes.headers_greatest in omega arith) (let o = r.headers.older h g known_now in let l = generation_small (m.headers.pin h) (small_pin z s seat v r here h) in omega arith)

  pub life : IsKeyOfLife (history_now s.states) h g key
  life = known_is (map knowledge_of s.states) r.histories r.keys.legal r.keys.loaded seat v.knowledge q_here h g key knows

  module _ (live : state_of (m.headers.pin h) ≡ LIVE) (at : generation_of (m.headers.pin h) ≡ g) where
    -- the key's entry names the header
    pub live_word : word_now z m s.states (key_number key) ≡ home_of h g + 1
    live_word = named_by z m s.states r.keys r.headers h live (none_fresh m.headers m.arena.bytes (map knowledge_of s.states) (map headers_held s.states) r.headers seat v.knowledge q_here h key (ap (λ (j : ℕ). key_known h j v.knowledge) at ∙ knows)) is_key_word r.covers r.callers g at named_at.names (key_number key) life.there

    pub live_home : IsHome z m.headers (shown_by m) (home_of h g) (history_now s.states (key_number key))
    live_home = (r.keys.states (key_number key)).named (home_of h g) live_word named_at.names

    -- so the key's last write left the value that stands there, with the stamp of the stamp word
    pub live_ends : (state_behind (history_now s.states (key_number key)) ≡ shown_by m h) × (stamp_behind (history_now s.states (key_number key)) ≡ m.headers.stamp h)
    live_ends = subst (λ (t : ℕ). (state_behind (history_now s.states (key_number key)) ≡ shown_by m t) × (stamp_behind (history_now s.states (key_number key)) ≡ m.headers.stamp t)) named_at.header
        (live_home.live (ap (λ (t : ℕ). state_of (m.headers.pin t)) named_at.header ∙ live))

    -- which is within the key's level
    pub live_level : m.headers.stamp h ≤ level_now z m s.states (key_number key)
    live_level = let e = live_ends.1 in let l = level-last z m.headers (shown_by m) (base_now z m s.states (key_number key)) (word_now z m s.states (key_number key)) (history_now s.states (key_number key)) (r.keys.states (key_number key)) in omega arith

  -- the stamp words are those that the passes keep
  stamps : Every (λ (a : HeaderHolds). Each (λ (x : HeldHeader). m.headers.stamp x.header ≡ x.stamp) a.held) (map headers_held s.states)
  stamps j a at = let t = at_unmap headers_held s.states j a at in subst (λ (b : HeaderHolds). Each (λ (x : HeldHeader). m.headers.stamp x.header ≡ x.stamp) b.held) t.2
      (each_in (λ (x : HeldHeader). generation_of (m.headers.pin x.header) ≡ x.generation) (λ (x : HeldHeader). m.headers.stamp x.header ≡ x.stamp) t.0.headers.held (λ x has _. (true_numbers m.headers t.0.headers.held x (parts z s j t.0 r t.1).headers has).1)
      (r.headers.generations j t.0.headers (at_map headers_held s.states j t.0 t.1)))

  pub over_gone : is_over g (m.headers.pin h) ≡ true → IsRemoved (home_of h g) (history_now s.states (key_number key))
  over_gone over = over_removed z m is_key_word s.states r.covers r.keys r.callers r.headers stamps h g named_at key life known_now over

  -- with the stamp of the stamp word, while the header is dead at the generation
  pub dead_gone : state_of (m.headers.pin h) ≡ DEAD → generation_of (m.headers.pin h) ≡ g → IsRemovedAt (home_of h g) (m.headers.stamp h) (history_now s.states (key_number key))
  dead_gone dead at = dead_removed z m is_key_word s.states r.covers r.keys r.callers r.headers stamps h g named_at key life known_now dead at
