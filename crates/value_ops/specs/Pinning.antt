-- What a pin of a header finds.
use Rattle.std.specs.Prelude.{◌≡◌, ◌≢◌, ℕ, ◌+◌, ◌-◌, ◌<◌, true, List, ◌++◌, Option, Some, None}
use Rattle.pin_word.specs.PinWord.{generation_of, state_of, count_of}
use Rattle.oak_model.specs.Counts.{Begins, Each}
use Rattle.oak_model.specs.KeyNumber.{key_number}
use Rattle.oak_model.specs.Limits.{Sizes}
use Rattle.arena_core.specs.Place.{content}
use Rattle.header_core.specs.declared.states.TheConstants.{LIVE, LOCKED, DEAD}
use Rattle.header_core.specs.declared.holds.PinnedHeader.{PinnedHeader}
use Rattle.header_core.specs.Headers.{at_stamp}
use Rattle.header_core.specs.HeaderRule.{IsGood}
use Rattle.oak_core.specs.declared.states.Finding.{Finding}
use Rattle.oak_core.specs.declared.states.Knowledge.{Knowledge}
use Rattle.oak_core.specs.declared.states.PassState.{PassState}
use Rattle.oak_core.specs.AloneWords.{Runs}
use Rattle.oak_core.specs.CallSteps.{Learns}
use Rattle.oak_core.specs.Finding.{grown, IsOf}
use Rattle.oak_core.specs.HeaderCalls.{Pins, Unpins}
use Rattle.oak_core.specs.KeyReads.{home_of}
use Rattle.oak_core.specs.Lessons.{KnowsRemoval}
use Rattle.oak_core.specs.LifeKeys.{key_known, loaded_in}
use Rattle.oak_core.specs.Memory.{Memory, in_headers, index, memory}
use Rattle.oak_core.specs.QuietSteps.{Quiet}
use Rattle.oak_core.specs.Sights.{FoundOverSince, SightedSince}
use Rattle.oak_core.specs.Splitting.{Loads}
use Rattle.value_ops.specs.Claiming.{ChangesPin}
use Rattle.value_ops.specs.declared.pinning.BadPin.{BadPin}
use Rattle.value_ops.specs.declared.pinning.BadPin.TheVariants.{Locked, Dead, Other}

-- what a pin of the header records, wanted at a generation: the word that it found, what stands in the place and the stamp word, and the words of the block that the place names
abbrev pub pin_of : Memory → ℕ → ℕ → PinnedHeader
pin_of m h g = record { header = h; wanted = g; found = m.headers.pin h; place = m.headers.place h; stamp = m.headers.stamp h; words = content m.arena.bytes (m.headers.place h) }

abbrev pub with_pin : Option PinnedHeader → PassState → PassState
with_pin o v = record v { headers = record v.headers { pin = o } }

-- the pass's pin is p, a good one of the header at the generation
pub record HasPin (z : Sizes) (h g : ℕ) (p : PinnedHeader) (v : PassState) : Type 0 where
  pub inside : h < z.headers
  pub is : v.headers.pin ≡ Some p
  pub header_is : p.header ≡ h
  pub wanted_is : p.wanted ≡ g
  pub good : IsGood p

-- the pass is as it was, but for what it met, all in the call
pub record MeetsMore (z : Sizes) (call : ℕ) (v w : PassState) : Type 0 where
  pub more : List Finding
  pub calls : Each (IsOf z call) more
  pub after : w ≡ grown more v

-- the pass knows the life of the header at the generation as one of the key
abbrev pub KnowsLife : ℕ → ℕ → List ℕ → Knowledge → Type 0
KnowsLife h g key q = key_known h g q ≡ Some key

-- the later knowledge has all lives that were loaded, and no more of them, and all that was seen and heard
pub record KnowsMore (q q' : Knowledge) : Type 0 where
  pub loaded : q'.loaded ≡ q.loaded
  pub seen : Begins q.seen q'.seen
  pub heard : Begins q.heard q'.heard

-- The pass met more, all in the call, may have learned, and wrote nothing. It holds what it held.
pub record OnlyLearns (z : Sizes) (call : ℕ) (v w : PassState) : Type 0 where
  pub more : List Finding
  pub calls : Each (IsOf z call) more
  pub met : w.findings.met ≡ v.findings.met ++ more
  pub learns : Learns call v w
  pub knows : KnowsMore v.knowledge w.knowledge
  pub blocks : w.blocks ≡ v.blocks
  pub headers : w.headers ≡ v.headers
  pub rooms : w.rooms ≡ v.rooms

-- The life of the key was found to be over: its removal, with the stamp, stands in what the pass knows.
pub record FindsGone (h g : ℕ) (key : List ℕ) (stamp : ℕ) (v w : PassState) : Type 0 where
  pub removal : KnowsRemoval (key_number key) (home_of h g) stamp w.knowledge
  pub over : FoundOverSince (home_of h g) key v.findings w.findings

-- It was found dead, with that stamp. Where the call had loaded the life from the key's entry, the stamp was found for the key.
pub record FindsDead (call h g : ℕ) (key : List ℕ) (stamp : ℕ) (v w : PassState) : Type 0 where
  pub gone : FindsGone h g key stamp v w
  pub sighted : loaded_in call h g v.knowledge.loaded ≡ true → SightedSince (key_number key) stamp v.findings w.findings

abbrev pub WordsStay : List ℕ → List ℕ → Type 0
WordsStay before after = after ≡ before

abbrev pub IsLiveAt : ℕ → ℕ → Type 0
IsLiveAt g n = (generation_of n ≡ g) × (state_of n ≡ LIVE)

-- the header was live at the generation, and its word counts one pin more
abbrev pub AddsPin : Sizes → ℕ → ℕ → List ℕ → List ℕ → Type 0
AddsPin z h g = ChangesPin z h (IsLiveAt g) (λ n. n + 1)

-- the word of the header counts one pin less
abbrev pub DropsPin : Sizes → ℕ → List ℕ → List ℕ → Type 0
DropsPin z h = ChangesPin z h (λ n. 0 < count_of n) (λ n. n - 1)

-- The one step that pinned the header found its word live, at the generation. The pass has the pin that records what stood there at that moment, a good one, and else only met that step.
pub record PinsLive (z : Sizes) (call h g : ℕ) (v w : PassState) : Type 0 where
  pub number : ℕ
  pub told : Pins z call h g v number w
  pub live : state_of number ≡ LIVE
  pub generation : generation_of number ≡ g
  -- it was a pin, and took no block
  pub quiet : Quiet v w
  -- to a pass that is alone
  pub still : Runs (AddsPin z h g) v w
  pub more : List Finding
  pub calls : Each (IsOf z call) more
  pub after : w ≡ with_pin (Some (pin_of (memory z told.table.words) h g)) (grown more v)
  pub pin : HasPin z h g (pin_of (memory z told.table.words) h g) w

-- the word found that is a cause, where the generation g was wanted
abbrev pub IsCause : BadPin → ℕ → ℕ → Type 0
IsCause Locked g n = (generation_of n ≡ g) × (state_of n ≡ LOCKED)
IsCause (Dead stamp) g n = (generation_of n ≡ g) × (state_of n ≡ DEAD)
IsCause Other g n = generation_of n ≢ g

-- Between the pin and the unpin the stamp word of a dead header is loaded, and of no other. It has the number that the pin recorded.
abbrev pub LooksUnder : Sizes → ℕ → ℕ → BadPin → Memory → PassState → PassState → Type 0
LooksUnder z call h (Dead stamp) m u x = Loads z call (index z (in_headers (at_stamp h))) u stamp x × (stamp ≡ m.headers.stamp h)
LooksUnder z call h _ m u x = x ≡ u

-- the pass's pin is one of the header
pub record PinsHeader (z : Sizes) (h : ℕ) (v : PassState) : Type 0 where
  pub inside : h < z.headers
  pub pin : PinnedHeader
  pub is : v.headers.pin ≡ Some pin
  pub header_is : pin.header ≡ h

-- The one step that undid the pin of the header. The pass has none now, and else only met that step.
pub record EndsPin (z : Sizes) (call h : ℕ) (v w : PassState) : Type 0 where
  pub number : ℕ
  pub told : Unpins z call h v number w
  pub meets : MeetsMore z call (with_pin None v) w
  -- it was the end of a pin, and took no block
  pub quiet : Quiet v w
  -- to a pass that is alone
  pub still : Runs (DropsPin z h) v w

-- the number is the stamp of the removal
abbrev pub IsStampOf : BadPin → ℕ → Type 0
IsStampOf (Dead stamp) n = stamp ≡ n
IsStampOf _ n = Unit {0}

-- the words stay, and in them the word of the header is the cause, and its stamp that of the removal
abbrev pub FindsDud : Sizes → ℕ → ℕ → BadPin → List ℕ → List ℕ → Type 0
FindsDud z h g why before after = (after ≡ before) × IsCause why g ((memory z before).headers.pin h) × IsStampOf why ((memory z before).headers.stamp h)

-- What the pass learned by the cause: of a locked header nothing, and of a life that is over and whose key it knew, that it was removed, with the stamp that a dead header has.
abbrev pub LearnsCause : Sizes → ℕ → ℕ → ℕ → BadPin → PassState → PassState → Type 0
LearnsCause z call h g Locked v w = MeetsMore z call v w
LearnsCause z call h g (Dead stamp) v w = (key : List ℕ) → KnowsLife h g key v.knowledge → FindsDead call h g key stamp v w
LearnsCause z call h g Other v w = (key : List ℕ) → KnowsLife h g key v.knowledge → (stamp : ℕ) × FindsGone h g key stamp v w

-- The step that pinned the header found a word that is the cause, and another undid the pin. The pass only met these steps, and the load of a dead header's stamp between them, and learned what the cause tells.
pub record PinsDud (z : Sizes) (call h g : ℕ) (why : BadPin) (v w : PassState) : Type 0 where
  pub number : ℕ
  pub pinned : PassState
  pub told : Pins z call h g v number pinned
  pub cause : IsCause why g number
  pub looked : PassState
  pub looks : LooksUnder z call h why (memory z told.table.words) pinned looked
  pub undone : EndsPin z call h looked w
  pub only : OnlyLearns z call v w
  pub learned : LearnsCause z call h g why v w
  -- these steps were a pin, its end and a load, and took no block
  pub quiet : Quiet v w
  -- to a pass that is alone
  pub still : Runs (FindsDud z h g why) v w
