-- What a pass has under its lock, and what the calls there do.
use Rattle.std.specs.Prelude.{◌≡◌, ℕ, Some, suc, ◌-◌, ◌^◌, ◌<◌, ◌==◌, nat_lt, cond, List, ◌∷◌, ◌++◌, drop, length, map}
use Rattle.oak_model.specs.declared.classes.Class.{Class}
use Rattle.oak_model.specs.declared.writes.Kind.{Kind}
use Rattle.oak_model.specs.declared.writes.Kind.TheVariants.{Put}
use Rattle.oak_model.specs.Class.{class_number}
use Rattle.oak_model.specs.Counts.{one_at, total, Each}
use Rattle.oak_model.specs.Limits.{Sizes}
use Rattle.arena_core.specs.declared.blocks.HeldBlock.{HeldBlock}
use Rattle.arena_core.specs.Arena.{block_words, blocks}
use Rattle.arena_core.specs.Blocks.{without, words_held}
use Rattle.arena_core.specs.Place.{IsPlace, place_word, class_in, block_in, content}
use Rattle.header_core.specs.declared.states.TheConstants.{FREE, LIVE, LOCKED, DEAD, RETIRED, LAST_GENERATION}
use Rattle.header_core.specs.declared.holds.AtLock.{AtLock}
use Rattle.header_core.specs.declared.holds.HeldAs.{HeldAs}
use Rattle.header_core.specs.declared.holds.HeldAs.TheVariants.{Owned, Fresh, Locked, Buried}
use Rattle.header_core.specs.declared.holds.HeldHeader.{HeldHeader}
use Rattle.header_core.specs.HeaderHolds.{in_state, place_held, generation_held, without_header}
use Rattle.header_core.specs.HeaderStep.{unlock_header, mark_dead, take_back, renewal, stamped_at, changed_at, buried_at}
use Rattle.header_core.specs.Headers.{at_place, at_stamp}
use Rattle.oak_core.specs.declared.states.Finding.{Finding}
use Rattle.oak_core.specs.declared.states.Knowledge.{Knowledge}
use Rattle.oak_core.specs.declared.states.PassState.{PassState}
use Rattle.oak_core.specs.Memory.{Memory, in_headers, index, memory}
use Rattle.oak_core.specs.Finding.{grown, IsOf}
use Rattle.oak_core.specs.HeaderCalls.{StoresStamp, ChangesPlace, Unlocks, MarksDead, TakesBack}
use Rattle.oak_core.specs.MadeWrites.{held_header}
use Rattle.oak_core.specs.Splitting.{Loads}
use Rattle.value_ops.specs.Filling.{table_behind, IsLeft}
use Rattle.value_ops.specs.HeldValue.{stamp_held, words_in, value_held}
use Rattle.arena_core.specs.Words.{words_of}

-- the place word of the header names a block of the table, of which the pass keeps each word, in one record
pub record HasBlock (z : Sizes) (h place : ℕ) (rs : List HeldHeader) : Type 0 where
  pub named : IsPlace place
  pub inside : block_in place < blocks z (class_in place)
  pub whole : length (words_in h rs) ≡ block_words (class_in place)
  pub once : total (λ (r : HeldHeader). one_at r.header h) rs ≡ 1

-- the record of a header that is held locked, and what it had at the lock
pub record LockRow (h : ℕ) (rs : List HeldHeader) : Type 0 where
  pub header : HeldHeader
  pub held : held_header h rs ≡ Some header
  pub at : AtLock
  pub locked : header.held_as ≡ Locked at

-- the pass has the header locked, at the generation
pub record HoldsLock (z : Sizes) (h g : ℕ) (v : PassState) : Type 0 where
  pub inside : h < z.headers
  pub locked : 0 < in_state h LOCKED v.headers
  pub generation : generation_held h v.headers.held ≡ g
  pub row : LockRow h v.headers.held

-- and its stamp is the one at the lock
pub record HasLock (z : Sizes) (h g : ℕ) (v : PassState) : Type 0 where
  pub inside : h < z.headers
  pub locked : 0 < in_state h LOCKED v.headers
  pub generation : generation_held h v.headers.held ≡ g
  pub row : LockRow h v.headers.held
  pub unstamped : row.header.stamp ≡ row.at.stamp

-- the pass buries the header, at the generation and with the stamp of the removal
pub record HasBuried (z : Sizes) (h g stamp : ℕ) (v : PassState) : Type 0 where
  pub inside : h < z.headers
  pub buried : 0 < in_state h DEAD v.headers
  pub generation : generation_held h v.headers.held ≡ g
  pub stamp_is : stamp_held h v.headers.held ≡ stamp

-- the header has what it had at the lock
abbrev pub IsAsAtLock : HeldAs → HeldHeader → Type 0
IsAsAtLock (Locked at) r = (r.place ≡ at.place) × (r.stamp ≡ at.stamp) × (r.words ≡ at.words)
IsAsAtLock Owned r = ⊥
IsAsAtLock Fresh r = ⊥
IsAsAtLock Buried r = ⊥

abbrev pub IsUnchanged : ℕ → List HeldHeader → Type 0
IsUnchanged h rs = Each (λ (r : HeldHeader). r.header ≡ h → IsAsAtLock r.held_as r) rs

-- the stamp of the write behind one with this stamp; the last stamp is behind itself
abbrev pub next_stamp : ℕ → ℕ
next_stamp s = cond (nat_lt s (2 ^ 64 - 1)) (suc s) s

-- the words of a block in which these bytes were stored
abbrev pub words_over : List ℕ → List ℕ → List ℕ
words_over bytes ws = words_of bytes ++ drop (length (words_of bytes)) ws

-- the held headers, with these words in the block of one
abbrev pub with_words : ℕ → List ℕ → List HeldHeader → List HeldHeader
with_words h words rs = map (λ (r : HeldHeader). record r { words = cond (r.header == h) words r.words }) rs

-- The pass only met more, all in the call and at words in front of the rooms, but for what it holds of blocks and headers, which is this.
pub record ComesTo (z : Sizes) (call : ℕ) (held : List HeldBlock) (headers : List HeldHeader) (v w : PassState) : Type 0 where
  pub more : List Finding
  pub calls : Each (IsOf z call) more
  pub after : w ≡ record (grown more v) { blocks = record v.blocks { held = held }; headers = record v.headers { held = headers } }

-- So it is, and knows this.
pub record EndsTo (z : Sizes) (call : ℕ) (knows : Knowledge) (held : List HeldBlock) (headers : List HeldHeader) (v w : PassState) : Type 0 where
  pub more : List Finding
  pub calls : Each (IsOf z call) more
  pub after : w ≡ record (grown more v) { knowledge = knows; blocks = record v.blocks { held = held }; headers = record v.headers { held = headers } }

-- the bytes were stored in the block of the locked header, word by word, and its value is these bytes
pub record Rewrites (z : Sizes) (call h : ℕ) (bytes : List ℕ) (v w : PassState) : Type 0 where
  pub comes : ComesTo z call v.blocks.held (with_words h (words_over bytes (words_in h v.headers.held)) v.headers.held) v w
  pub value : value_held h w.headers.held ≡ bytes

-- so they were, and the place word of the header says their length; the block is as before, of the class c and the number b
pub record Refills (z : Sizes) (call h : ℕ) (c : Class) (b : ℕ) (bytes : List ℕ) (v w : PassState) : Type 0 where
  pub class_is : class_in (place_held h v.headers.held) ≡ class_number c
  pub block_is : block_in (place_held h v.headers.held) ≡ b
  pub comes : ComesTo z call v.blocks.held (changed_at h (place_word (class_number c) b (length bytes)) (words_over bytes (words_in h v.headers.held)) v.headers.held) v w
  pub value : value_held h w.headers.held ≡ bytes

-- the place word of the header was loaded, and is what the pass keeps of it
abbrev pub LoadsPlace : Sizes → ℕ → ℕ → PassState → PassState → Type 0
LoadsPlace z call h v w = Loads z call (index z (in_headers (at_place h))) v (place_held h v.headers.held) w

-- The place word of a locked header was loaded, and another stored there. So the header's block, of the class o and the number n, was exchanged for another, of the class c and the number b, in which `len` bytes stand. The pass holds the old one, with the words that it had under the header, and the header has the words that the new one had.
pub record Exchanges (z : Sizes) (call h : ℕ) (c : Class) (b len : ℕ) (o : Class) (n : ℕ) (v w : PassState) : Type 0 where
  pub class_is : class_in (place_held h v.headers.held) ≡ class_number o
  pub block_is : block_in (place_held h v.headers.held) ≡ n
  pub between : PassState
  pub loads : LoadsPlace z call h v between
  pub stores : ChangesPlace z call h (place_word (class_number c) b len) between w
  pub comes : ComesTo z call (record { class = o; number = n; words = words_in h v.headers.held } ∷ without (class_number c) b v.blocks.held)
      (changed_at h (place_word (class_number c) b len) (words_held (class_number c) b v.blocks.held) v.headers.held) v w

-- the header has this stamp, and the place and the words that the pass keeps for it
pub record HasValue (m : Memory) (h stamp : ℕ) (rs : List HeldHeader) : Type 0 where
  pub stamp_is : m.headers.stamp h ≡ stamp
  pub place_is : m.headers.place h ≡ place_held h rs
  pub words_are : content m.arena.bytes (place_held h rs) ≡ words_in h rs

-- The stamp word of the header was loaded, and then the stamp behind the one found was stored there.
pub record StoresNext (z : Sizes) (call h stamp : ℕ) (v w : PassState) : Type 0 where
  pub number : ℕ
  pub between : PassState
  pub loads : Loads z call (index z (in_headers (at_stamp h))) v number between
  pub next : stamp ≡ next_stamp number
  pub stores : StoresStamp z call h stamp between w

-- The step that unlocked the header, made of the state `before`. Right after it the header has this stamp and what else it had under the lock, and is live at its generation and with its pins; the pass holds it no more.
pub record EndsLock (z : Sizes) (call h g : ℕ) (kind : Kind) (stamp : ℕ) (before v w : PassState) : Type 0 where
  pub number : ℕ
  pub told : Unlocks z call h kind before number w
  pub left : IsLeft z h LIVE g number told.seat w (table_behind z call (unlock_header h kind) before number w told)
  pub value : HasValue (memory z (table_behind z call (unlock_header h kind) before number w told).words) h stamp v.headers.held
  pub comes : EndsTo z call w.knowledge v.blocks.held (without_header h v.headers.held) v w

-- The three steps of a write under the lock: the stamp was loaded, the next one stored, and the header unlocked.
pub record WritesOver (z : Sizes) (call h g : ℕ) (kind : Kind) (stamp : ℕ) (v w : PassState) : Type 0 where
  pub stamped : PassState
  pub stores : StoresNext z call h stamp v stamped
  pub ends : EndsLock z call h g kind stamp stamped v w

-- The one step that unlocked the header without a write: the pass learned nothing by it.
pub record GivesUp (z : Sizes) (call h g stamp : ℕ) (v w : PassState) : Type 0 where
  pub ends : EndsLock z call h g Put stamp v v w
  pub knowledge : w.knowledge ≡ v.knowledge

-- The three steps of a removal: the stamp was loaded, the next one stored, and the header marked dead. Right after it the header has that stamp, and is dead at its generation and with its pins; the pass buries it.
pub record Buries (z : Sizes) (call h g stamp : ℕ) (v w : PassState) : Type 0 where
  pub stamped : PassState
  pub stores : StoresNext z call h stamp v stamped
  pub number : ℕ
  pub told : MarksDead z call h stamped number w
  pub left : IsLeft z h DEAD g number told.seat w (table_behind z call (mark_dead h) stamped number w told)
  pub value : HasValue (memory z (table_behind z call (mark_dead h) stamped number w told).words) h stamp v.headers.held
  pub comes : EndsTo z call w.knowledge v.blocks.held (buried_at h (stamped_at h stamp v.headers.held)) v w

-- the state of a header that is taken back, at the generation that it then has
abbrev pub state_taken_back : ℕ → ℕ
state_taken_back g = cond (g == LAST_GENERATION) RETIRED FREE

-- The two steps that take a buried header back: its place word was loaded, and the pin word raised. Right after that the header is free, or retired, at the next generation and with its pins. The pass holds its block, of the class o and the number n, with the words that it had, and holds the header no more.
pub record Renews (z : Sizes) (call h g : ℕ) (o : Class) (n : ℕ) (v w : PassState) : Type 0 where
  pub class_is : class_in (place_held h v.headers.held) ≡ class_number o
  pub block_is : block_in (place_held h v.headers.held) ≡ n
  pub between : PassState
  pub loads : LoadsPlace z call h v between
  pub number : ℕ
  pub told : TakesBack z call h (renewal g) between number w
  pub left : IsLeft z h (state_taken_back (suc g)) (suc g) number told.seat w (table_behind z call (take_back h (renewal g)) between number w told)
  pub comes : ComesTo z call (record { class = o; number = n; words = words_in h v.headers.held } ∷ v.blocks.held) (without_header h v.headers.held) v w
