-- Views: what contracts see of one, and what a pin or a reading of it finds.
use Rattle.std.specs.Prelude.{◌≡◌, ℕ, ◌<◌, true, List, Some}
use Rattle.pin_word.specs.PinWord.{generation_of, state_of}
use Rattle.oak_model.specs.Limits.{Sizes}
use Rattle.header_core.specs.declared.states.TheConstants.{LOCKED}
use Rattle.oak_core.specs.declared.states.PassState.{PassState}
use Rattle.oak_core.specs.AloneWords.{Runs}
use Rattle.oak_core.specs.HeaderTeaching.{is_over}
use Rattle.oak_core.specs.LifeKeys.{key_in_loaded}
use Rattle.oak_core.specs.Memory.{memory}
use Rattle.oak_core.specs.Passes.{Stays, state}
use Rattle.oak_core.specs.QuietSteps.{Quiet}
use Rattle.oak_core.specs.declared.table.Pass.{Pass}
use Rattle.value_ops.specs.declared.pinning.BadPin.{BadPin}
use Rattle.value_ops.specs.declared.pinning.BadPin.TheVariants.{Locked, Dead, Other}
use Rattle.value_ops.specs.declared.reading.Reading.{Reading}
use Rattle.value_ops.specs.declared.views.NoRead.{NoRead}
use Rattle.value_ops.specs.declared.views.NoRead.TheVariants.{Gone, Busy}
use Rattle.value_ops.specs.Pinning.{FindsGone, KnowsLife, MeetsMore, PinsDud, PinsLive}
use Rattle.value_ops.specs.PinnedValues.{FindsStamp, LearnsByLoads, ReadsLife}
use Rattle.value_ops.specs.Reading.{IsReading, header, stamp, value}

-- the key, its life by the header and the generation, and the stamp of the key when the view was made
pub record Viewed : Type 0 where
  pub key : List ℕ
  pub header : ℕ
  pub generation : ℕ
  pub at : ℕ

-- the life of the view is one of a header of the table, and the pass knows it as one of the key
pub record KnowsView (z : Sizes) (x : Viewed) (v : PassState) : Type 0 where
  pub inside : x.header < z.headers
  pub life : KnowsLife x.header x.generation x.key v.knowledge

-- the pass loaded the life of the view from an entry of its key, so it knows the view, and will in every later state
abbrev pub LoadedView : Viewed → PassState → Type 0
LoadedView x v = key_in_loaded x.header x.generation v.knowledge.loaded ≡ Some x.key

-- why a view can't be read whose header can't be pinned
abbrev pub why_of : BadPin → NoRead
why_of Locked = Busy
why_of (Dead stamp) = Gone
why_of Other = Gone

-- the word that is the reason, where the generation g was wanted
abbrev pub IsReason : NoRead → ℕ → ℕ → Type 0
IsReason Gone g n = is_over g n ≡ true
IsReason Busy g n = (generation_of n ≡ g) × (state_of n ≡ LOCKED)

-- what the pass learned: that the life of the view was removed, or nothing
abbrev pub LearnsReason : Sizes → ℕ → Viewed → NoRead → PassState → PassState → Type 0
LearnsReason z call x Gone v w = (stamp : ℕ) × FindsGone x.header x.generation x.key stamp v w
LearnsReason z call x Busy v w = MeetsMore z call v w

-- the words stay, and in them the word of the header is the reason
abbrev pub FindsReason : Sizes → Viewed → NoRead → List ℕ → List ℕ → Type 0
FindsReason z x why before after = (after ≡ before) × IsReason why x.generation ((memory z before).headers.pin x.header)

-- The pin of the view found a word that is the reason, and was undone. The pass knows the view still.
pub record NotRead (z : Sizes) (call : ℕ) (x : Viewed) (why : NoRead) (v w : PassState) : Type 0 where
  pub cause : BadPin
  pub dud : PinsDud z call x.header x.generation cause v w
  pub why_is : why ≡ why_of cause
  pub reason : IsReason why x.generation dud.number
  pub learned : LearnsReason z call x why v w
  pub knows : KnowsView z x w
  -- to a pass that is alone
  pub still : Runs (FindsReason z x why) v w

-- the same pass, which did not read the view
pub record RestsUnread (z : Sizes) (call : ℕ) (x : Viewed) (why : NoRead) (p q : Pass) : Type 0 where
  pub own : Stays p q
  pub not_read : NotRead z call x why (state p) (state q)

-- The header of the view was pinned, live at its generation, and the reading is of the value under the pin. The key of the view was read there, and the pass knows the view still.
pub record ReadsView (z : Sizes) (call : ℕ) (x : Viewed) (v : PassState) (r : Reading) : Type 0 where
  pub pinned : PassState
  pub pins : PinsLive z call x.header x.generation v pinned
  pub loads : LearnsByLoads z call pinned (state r.pass.now)
  -- the steps were the pin and loads, and took no block
  pub quiet : Quiet v (state r.pass.now)
  pub found : FindsStamp z call x.header (stamp r) pinned (state r.pass.now)
  pub reading : IsReading r
  pub header_is : header r ≡ x.header
  pub life : ReadsLife x.header x.generation x.key (stamp r) (value r) v (state r.pass.now)
  pub knows : KnowsView z x (state r.pass.now)
