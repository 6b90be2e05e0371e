-- The value under a pin, and what is read of it.
use Rattle.std.specs.Prelude.{◌≡◌, ℕ, ◌*◌, ◌<◌, ◌≤◌, List, [], length, take, Option, Some, None}
use Rattle.arena_core.specs.Arena.{at_bytes, block_words, blocks}
use Rattle.arena_core.specs.Place.{class_in, block_in, length_in}
use Rattle.oak_model.specs.declared.limits.TheConstants.{CLASSES}
use Rattle.oak_model.specs.Counts.{Each}
use Rattle.oak_model.specs.KeyNumber.{key_number}
use Rattle.oak_model.specs.Limits.{Sizes, IsInLimits}
use Rattle.oak_model.specs.WordBytes.{bytes_of}
use Rattle.header_core.specs.declared.holds.PinnedHeader.{PinnedHeader}
use Rattle.header_core.specs.Headers.{at_place, at_stamp}
use Rattle.oak_core.specs.Memory.{in_arena, in_headers, index}
use Rattle.oak_core.specs.Passes.{Stays, state, call_of}
use Rattle.oak_core.specs.AloneWords.{Runs}
use Rattle.oak_core.specs.Finding.{LoadsMore, IsLoadOf}
use Rattle.oak_core.specs.KeyHistories.{home_behind}
use Rattle.oak_core.specs.KeyReads.{home_of}
use Rattle.oak_core.specs.LastReads.{ReadsLast}
use Rattle.oak_core.specs.PassState.{seen_of}
use Rattle.oak_core.specs.QuietSteps.{Quiet}
use Rattle.oak_core.specs.Splitting.{Loads}
use Rattle.oak_core.specs.declared.states.PassState.{PassState}
use Rattle.oak_core.specs.declared.table.Pass.{Pass}
use Rattle.value_ops.specs.declared.pinned_value.PinnedValue.{PinnedValue}
use Rattle.value_ops.specs.Pinning.{HasPin, OnlyLearns, WordsStay}

-- the value that the pin found: of the bytes of the block as many as its place says
abbrev pub value_of : PinnedHeader → List ℕ
value_of p = take (length_in p.place) (bytes_of p.words)

-- what the pin of a pass recorded

abbrev pub value_pinned : Option PinnedHeader → List ℕ
value_pinned None = []
value_pinned (Some p) = value_of p

abbrev pub words_pinned : Option PinnedHeader → List ℕ
words_pinned None = []
words_pinned (Some p) = p.words

abbrev pub stamp_pinned : Option PinnedHeader → ℕ
stamp_pinned None = 0
stamp_pinned (Some p) = p.stamp

-- of the pin of a state

abbrev pub value_under : PassState → List ℕ
value_under v = value_pinned v.headers.pin

abbrev pub words_under : PassState → List ℕ
words_under v = words_pinned v.headers.pin

abbrev pub stamp_under : PassState → ℕ
stamp_under v = stamp_pinned v.headers.pin

-- the pin's place names a block of the table that has room for the value
pub record IsPlaced (z : Sizes) (p : PinnedHeader) : Type 0 where
  pub class : class_in p.place < CLASSES
  pub block : block_in p.place < blocks z (class_in p.place)
  pub room : length_in p.place ≤ 8 * block_words (class_in p.place)

-- the pass has a good pin, and these numbers are its block, length and stamp
pub record IsPinnedValue (z : Sizes) (x : PinnedValue) (v : PassState) : Type 0 where
  pub limits : IsInLimits z
  pub pin : PinnedHeader
  pub has : HasPin z x.header pin.wanted pin v
  pub placed : IsPlaced z pin
  pub block_is : x.block ≡ index z (in_arena (at_bytes (class_in pin.place) (block_in pin.place) 0))
  pub length_is : x.length ≡ length_in pin.place
  pub words : length pin.words ≡ block_words (class_in pin.place)
  pub stamp_is : x.stamp ≡ pin.stamp

-- the pass only made loads of the call, and to a pass that is alone the words stay
pub record OnlyLoads (z : Sizes) (call : ℕ) (v w : PassState) : Type 0 where
  pub loads : LoadsMore z call v w
  pub still : Runs WordsStay v w

-- the pass only made loads of the call, by which it may have learned, and to a pass that is alone the words stay
pub record LearnsByLoads (z : Sizes) (call : ℕ) (v w : PassState) : Type 0 where
  pub only : OnlyLearns z call v w
  pub loads : Each (IsLoadOf z call) only.more
  pub quiet : Quiet v w
  pub still : Runs WordsStay v w

-- The key was read: at the place of the stamp, which was found for it and at which all ends that the pass has seen of it, it has these bytes, in the life that the header has at the generation.
pub record ReadsLife (h g : ℕ) (key : List ℕ) (stamp : ℕ) (bytes : List ℕ) (v w : PassState) : Type 0 where
  pub last : ReadsLast (key_number key) stamp (Some bytes) v w
  pub life : home_behind (seen_of (key_number key) w.knowledge) ≡ home_of h g

-- the place word of the header was loaded, and then its stamp word, in which this stamp was found
pub record FindsStamp (z : Sizes) (call h stamp : ℕ) (v w : PassState) : Type 0 where
  pub place : ℕ
  pub between : PassState
  pub places : Loads z call (index z (in_headers (at_place h))) v place between
  pub stamps : Loads z call (index z (in_headers (at_stamp h))) between stamp w

-- the pin is the same, and the pass only made loads since
pub record ReadsPinned (z : Sizes) (x : PinnedValue) (p q : Pass) : Type 0 where
  pub stays : Stays p q
  pub pinned : IsPinnedValue z x (state q)
  pub only : OnlyLoads z (call_of p) (state p) (state q)
