-- The points on keys and their histories.
use Rattle.std.specs.Prelude.{◌≡◌, ℕ, ◌+◌, ◌<◌, List, map}
use Rattle.pin_word.specs.PinWord.{generation_of, state_of}
use Rattle.oak_model.specs.Limits.{Sizes}
use Rattle.oak_model.specs.Counts.{total, Each, Every}
use Rattle.oak_model.specs.KeyNumber.{key_number}
use Rattle.header_core.specs.declared.states.TheConstants.{LIVE}
use Rattle.header_core.specs.declared.holds.HeldHeader.{HeldHeader}
use Rattle.header_core.specs.declared.holds.HeaderHolds.{HeaderHolds}
use Rattle.header_core.specs.HeaderHolds.{in_state}
use Rattle.header_core.specs.HeaderRule.{stocked}
use Rattle.chunk_core.specs.CoverSums.{each, naming}
use Rattle.chunk_core.specs.ValueWord.{names_header, header_in, generation_in}
use Rattle.oak_core.specs.declared.states.KeyedWrite.{KeyedWrite}
use Rattle.oak_core.specs.declared.states.KnownLife.{KnownLife}
use Rattle.oak_core.specs.declared.states.Knowledge.{Knowledge}
use Rattle.oak_core.specs.declared.states.PassState.{PassState}
use Rattle.oak_core.specs.Memory.{Memory}
use Rattle.oak_core.specs.PassState.{headers_held, knowledge_of}
use Rattle.oak_core.specs.KeyHistories.{IsKeyOf, IsKeyHistory, IsRemoved, homes_in}
use Rattle.oak_core.specs.KeyReads.{sum_now, word_now, base_now, history_now, shown_by}
use Rattle.oak_core.specs.KeyStates.{KeyStands, HoldStands, unnamed}

-- a header with a block is named by one entry, or fresh, or buried and named no more
abbrev pub HeadersAreNamed : Sizes → Memory → List PassState → Type 0
HeadersAreNamed z m vs = (h : ℕ) → sum_now z m vs (each (naming h)) + total (in_state h LIVE) (map headers_held vs) + total (unnamed h) (map headers_held vs) ≡ stocked (state_of (m.headers.pin h))

-- the state of each key is that behind the last write of its history
abbrev pub StatesAgree : Sizes → Memory → List PassState → Type 0
StatesAgree z m vs = (k : ℕ) → KeyStands z m.headers (shown_by m) (base_now z m vs k) (word_now z m vs k) (history_now vs k)

-- so is what a lock keeps, and what is buried was removed
abbrev pub LocksAgree : Sizes → Memory → List PassState → Type 0
LocksAgree z m vs = Every (λ (a : HeaderHolds). Each (λ (r : HeldHeader). HoldStands (word_now z m vs) (history_now vs) r.held_as r) a.held) (map headers_held vs)

-- each history is legal
abbrev pub HistoriesAreLegal : List PassState → Type 0
HistoriesAreLegal vs = (k : ℕ) → IsKeyHistory k (history_now vs k)

-- a life whose header has come to a greater generation was removed
abbrev pub OverIsRemoved : (ℕ → ℕ) → List KeyedWrite → KeyedWrite → Type 0
OverIsRemoved pin h w = generation_in w.home < generation_of (pin (header_in w.home)) → IsRemoved w.home h

-- so it is of each write's life
abbrev pub LivesEnd : Memory → List PassState → Type 0
LivesEnd m vs = (k : ℕ) → Each (OverIsRemoved m.headers.pin (history_now vs k)) (history_now vs k)

-- a life that a pass loaded from an entry is one of its key's
abbrev pub LoadedStand : (ℕ → List KeyedWrite) → Knowledge → Type 0
LoadedStand hist q = Each (λ (l : KnownLife). (names_header l.home ≡ 1) × (0 < homes_in l.home (hist (key_number l.key))) × IsKeyOf (key_number l.key) l.key) q.loaded

-- all points on keys
pub record KeysStand (z : Sizes) (m : Memory) (vs : List PassState) : Type 0 where
  pub named : HeadersAreNamed z m vs
  pub states : StatesAgree z m vs
  pub locks : LocksAgree z m vs
  pub legal : HistoriesAreLegal vs
  pub over : LivesEnd m vs
  pub loaded : Every (LoadedStand (history_now vs)) (map knowledge_of vs)
