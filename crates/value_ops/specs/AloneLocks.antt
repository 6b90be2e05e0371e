-- What the calls on locks do to the words of the table, where the pass is alone.
use Rattle.std.specs.Prelude.{◌≡◌, ℕ, ◌+◌, ◌-◌, true, false, List, length, take, slice_set}
use Rattle.pin_word.specs.PinWord.{generation_of, state_of, STATE}
use Rattle.oak_model.specs.declared.classes.Class.{Class}
use Rattle.oak_model.specs.declared.recipes.RecipeKind.{RecipeKind}
use Rattle.oak_model.specs.Class.{class_number}
use Rattle.oak_model.specs.Limits.{Sizes}
use Rattle.oak_model.specs.Recipe.{recipe_result}
use Rattle.arena_core.specs.Arena.{at_bytes}
use Rattle.arena_core.specs.Place.{place_word, class_in, block_in, length_in, content}
use Rattle.header_core.specs.declared.states.TheConstants.{LOCKED, DEAD}
use Rattle.header_core.specs.Headers.{at_pin, at_place, at_stamp}
use Rattle.header_core.specs.HeaderStep.{renewal}
use Rattle.oak_core.specs.Memory.{Spot, in_arena, in_headers, index, memory, read}
use Rattle.arena_ops.specs.PutWords.{put_from}
use Rattle.value_ops.specs.declared.locking.NoLock.{NoLock}
use Rattle.value_ops.specs.Claiming.{ChangesPin}
use Rattle.value_ops.specs.Locking.{may_lock, refusal}
use Rattle.oak_model.specs.WordBytes.{bytes_of}
use Rattle.value_ops.specs.UnderLock.{next_stamp}
use Rattle.arena_core.specs.Words.{words_of}

-- the three words of a header

abbrev pub pin_in : Sizes → ℕ → List ℕ → ℕ
pin_in z h words = (memory z words).headers.pin h

abbrev pub place_in : Sizes → ℕ → List ℕ → ℕ
place_in z h words = (memory z words).headers.place h

abbrev pub stamp_in : Sizes → ℕ → List ℕ → ℕ
stamp_in z h words = (memory z words).headers.stamp h

-- the words, with another number as one of those

abbrev pub put_pin : Sizes → ℕ → ℕ → List ℕ → List ℕ
put_pin z h n words = slice_set words (index z (in_headers (at_pin h))) n

abbrev pub put_place : Sizes → ℕ → ℕ → List ℕ → List ℕ
put_place z h n words = slice_set words (index z (in_headers (at_place h))) n

abbrev pub put_stamp : Sizes → ℕ → ℕ → List ℕ → List ℕ
put_stamp z h n words = slice_set words (index z (in_headers (at_stamp h))) n

-- the number of the first word of the block that the place word names
abbrev pub first_in : Sizes → ℕ → List ℕ → ℕ
first_in z h words = index z (in_arena (at_bytes (class_in (place_in z h words)) (block_in (place_in z h words)) 0))

-- the words, with these bytes in the header's block, from its first word on
abbrev pub put_bytes : Sizes → ℕ → List ℕ → List ℕ → List ℕ
put_bytes z h bytes words = put_from (first_in z h words) (words_of bytes) words

-- the value of the header: of the bytes of its block as many as its place word says
abbrev pub value_in : Sizes → ℕ → List ℕ → List ℕ
value_in z h words = take (length_in (place_in z h words)) (bytes_of (content (memory z words).arena.bytes (place_in z h words)))

-- the header is locked, or dead, at the generation

abbrev pub IsLockedIn : Sizes → ℕ → ℕ → List ℕ → Type 0
IsLockedIn z h g words = (state_of (pin_in z h words) ≡ LOCKED) × (generation_of (pin_in z h words) ≡ g)

abbrev pub IsDeadIn : Sizes → ℕ → ℕ → List ℕ → Type 0
IsDeadIn z h g words = (state_of (pin_in z h words) ≡ DEAD) × (generation_of (pin_in z h words) ≡ g)

-- all words stay, and a word was found with this number
abbrev pub FindsWord : Sizes → Spot → ℕ → List ℕ → List ℕ → Type 0
FindsWord z p n before after = (n ≡ read (memory z before) p) × (after ≡ before)

-- so they do, and the class is that of the header's block
abbrev pub FindsClass : Sizes → ℕ → Class → List ℕ → List ℕ → Type 0
FindsClass z h c before after = (class_number c ≡ class_in (place_in z h before)) × (after ≡ before)

-- the header was live at the generation and without a pin, and its pin word is one state further
abbrev pub LocksPin : Sizes → ℕ → ℕ → List ℕ → List ℕ → Type 0
LocksPin z h g = ChangesPin z h (λ n. may_lock n g ≡ true) (λ n. n + STATE)

-- it was not, so that this is the answer, and all words stay
abbrev pub RefusesPin : Sizes → ℕ → ℕ → NoLock → List ℕ → List ℕ → Type 0
RefusesPin z h g why before after = (may_lock (pin_in z h before) g ≡ false) × (refusal (pin_in z h before) g ≡ why) × (after ≡ before)

-- the value's bytes become what the recipe makes of them, and no other word changes
abbrev pub AppliesTo : Sizes → ℕ → RecipeKind → ℕ → List ℕ → List ℕ → Type 0
AppliesTo z h kind argument before after = after ≡ put_bytes z h (recipe_result kind argument (value_in z h before)) before

-- these bytes come to stand in the block, and the place word names it with their length; no other word changes
abbrev pub RefillsWords : Sizes → ℕ → List ℕ → List ℕ → List ℕ → Type 0
RefillsWords z h bytes before after = after ≡ put_place z h (place_word (class_in (place_in z h before)) (block_in (place_in z h before)) (length bytes)) (put_bytes z h bytes before)

-- the place word, which named the block of the class o and the number n, comes to name another, with this length
pub record ChangesWord (z : Sizes) (h : ℕ) (c : Class) (b len : ℕ) (o : Class) (n : ℕ) (before after : List ℕ) : Type 0 where
  pub class_is : class_in (place_in z h before) ≡ class_number o
  pub block_is : block_in (place_in z h before) ≡ n
  pub becomes : after ≡ put_place z h (place_word (class_number c) b len) before

-- the header was locked at the generation, and its pin word is one state back: it is live
pub record UnlocksPin (z : Sizes) (h g : ℕ) (before after : List ℕ) : Type 0 where
  pub locked : IsLockedIn z h g before
  pub becomes : after ≡ put_pin z h (pin_in z h before - STATE) before

-- the same behind a store to the stamp word, of the stamp behind the one that it had
pub record WritesWords (z : Sizes) (h g stamp : ℕ) (before after : List ℕ) : Type 0 where
  pub locked : IsLockedIn z h g before
  pub next : stamp ≡ next_stamp (stamp_in z h before)
  pub becomes : after ≡ put_pin z h (pin_in z h before - STATE) (put_stamp z h stamp before)

-- so of a removal, where the pin word is one state further: it is dead
pub record BuriesWords (z : Sizes) (h g stamp : ℕ) (before after : List ℕ) : Type 0 where
  pub locked : IsLockedIn z h g before
  pub next : stamp ≡ next_stamp (stamp_in z h before)
  pub becomes : after ≡ put_pin z h (pin_in z h before + STATE) (put_stamp z h stamp before)

-- the header was dead at the generation, with a block of the class o and the number n, and its pin word is raised
pub record RenewsPin (z : Sizes) (h g : ℕ) (o : Class) (n : ℕ) (before after : List ℕ) : Type 0 where
  pub dead : IsDeadIn z h g before
  pub class_is : class_in (place_in z h before) ≡ class_number o
  pub block_is : block_in (place_in z h before) ≡ n
  pub becomes : after ≡ put_pin z h (pin_in z h before + renewal g) before
